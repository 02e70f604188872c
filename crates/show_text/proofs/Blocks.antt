-- A row of walk does not begin with a blank, and every line of the block under it does. Assumes nothing.
use Prim.Native.Nat.{ℕ}
use Prim.Native.String.{String}
use mathlib.Core.Bool.{Bool, true}
use mathlib.Core.Path.{◌≡◌, refl, sym, ap, ◌∙◌}
use mathlib.Core.List.{List, [], ◌∷◌, ◌++◌, append_assoc}
use lib.Dec.{eqb}
use lib.ListN.{get_or}
use Rattle.rules.specs.Line.{at, one_if}
use Rattle.rules.specs.Machine.{Machine, task_count, object_count, declared, way_held, active}
use Rattle.rules_exceptions.specs.Exceptions.{has}
use Rattle.queue_chip.specs.declared.Queue.{Queue}
use Rattle.queue_chip.specs.Queue.{in_use}
use Rattle.decimal.specs.Decimal.{decimal}
use Rattle.text.specs.declared.Row.{Row}
use Rattle.text.specs.Words.{bytes, blank, line_end}
use Rattle.text.specs.Printed.{walk_line, answer_fields, field}
use Rattle.show_text.specs.Words.{indented}
use Rattle.show_text.specs.Block.{number, named, pair, end, each, flags_text, task_text, tasks_text, ready_list, ready_text, delay_list, delay_text}
use Rattle.show_text.specs.Block.{owed_text, pending_text, holder, numbers_text, object_line, object_text, objects_text}
use Rattle.show_text.specs.Block.{entry_text, registers_text, cell_text, table_text, block}
use Rattle.show_text.proofs.Indents.{Within, within_both, within_decimal, within_number, within_pair, within_if, within_unless, within_each}
use Rattle.show_text.proofs.Indents.{Dropped, line_dropped, dropped_both, dropped_if, dropped_each, Kept, line_kept, unindented_more, decimal_unindented}

-- a number with a blank behind it
within_field : (n : ℕ) → Within (field n blank)
within_field n = within_both (decimal n) (blank ∷ []) (within_decimal n) refl

-- The row, without its line end.
row_kept_as : (n op code running released clock : ℕ)
    → Kept ((field n blank ++ field op blank) ++ (((field code blank ++ field running blank) ++ field released blank) ++ field clock line_end))
row_kept_as n op code running released clock =
    let a = field n blank ++ field op blank in
    let b = (field code blank ++ field running blank) ++ field released blank in
    kept_as (sym (ap (λ (t : List ℕ). a ++ t) (append_assoc b (decimal clock) end)) ∙ sym (append_assoc a (b ++ decimal clock) end))
    (line_kept (a ++ (b ++ decimal clock))
    (within_both a (b ++ decimal clock) (within_both (field n blank) (field op blank) (within_field n) (within_field op))
    (within_both b (decimal clock)
    (within_both (field code blank ++ field running blank) (field released blank)
    (within_both (field code blank) (field running blank) (within_field code) (within_field running)) (within_field released)) (within_decimal clock)))
    (unindented_more a (b ++ decimal clock)
    (unindented_more (field n blank) (field op blank) (unindented_more (decimal n) (blank ∷ []) (decimal_unindented n)))))
  where
    kept_as : {x y : List ℕ} → x ≡ y → Kept y → Kept x
    kept_as p k = rw p k

pub row_kept : (r : Row) → Kept (walk_line r)
unfolding walk_line answer_fields
row_kept r = row_kept_as r.n r.op r.code r.running r.released r.clock

-- a word with its number
within_named : (w : String) (n : ℕ) → Within (bytes w) → Within (named w n)
within_named w n v = within_both (bytes w) (number n) v (within_number n)

flags_dropped : (s e : Bool) → Dropped (flags_text s e)
unfolding flags_text indented
flags_dropped s e =
    line_dropped (named " started" (one_if s) ++ named " exception" (one_if e))
    (within_both (named " started" (one_if s)) (named " exception" (one_if e)) (within_named " started" (one_if s) refl)
    (within_named " exception" (one_if e) refl))
    refl

tasks_dropped : (m : Machine) → Dropped (tasks_text m)
unfolding tasks_text task_text indented
tasks_dropped m =
    line_dropped (bytes " tasks" ++ each task_count (task_text m))
    (within_both (bytes " tasks") (each task_count (task_text m)) refl
    (within_each task_count (task_text m) (λ t. within_unless (eqb (at m.base t) 0) _ (within_pair t (at m.base t)))))
    refl

ready_within : (m : Machine) (l : List ℕ) → Within (ready_list m l)
unfolding ready_list
ready_within m [] = refl
ready_within m (t ∷ l) = within_both (pair t (active m t)) (ready_list m l) (within_pair t (active m t)) (ready_within m l)

ready_dropped : (m : Machine) → Dropped (ready_text m)
unfolding ready_text indented
ready_dropped m =
    line_dropped (bytes " ready" ++ ready_list m m.ready) (within_both (bytes " ready") (ready_list m m.ready) refl (ready_within m m.ready)) refl

delay_within : (l : List (ℕ × ℕ)) → Within (delay_list l)
unfolding delay_list
delay_within [] = refl
delay_within (e ∷ l) = within_both (pair e.1 e.0) (delay_list l) (within_pair e.1 e.0) (delay_within l)

delay_dropped : (m : Machine) → Dropped (delay_text m)
unfolding delay_text indented
delay_dropped m =
    line_dropped (bytes " delay" ++ delay_list m.delay) (within_both (bytes " delay") (delay_list m.delay) refl (delay_within m.delay)) refl

pending_dropped : (p : ℕ) → Dropped (pending_text p)
unfolding pending_text owed_text indented
pending_dropped p =
    line_dropped (bytes " pending" ++ each task_count (owed_text p))
    (within_both (bytes " pending") (each task_count (owed_text p)) refl
    (within_each task_count (owed_text p) (λ t. within_if (has p t) (number t) (within_number t))))
    refl

numbers_within : (l : List ℕ) → Within (numbers_text l)
unfolding numbers_text
numbers_within [] = refl
numbers_within (t ∷ l) = within_both (number t) (numbers_text l) (within_number t) (numbers_within l)

abbrev object_words : ℕ → ℕ → ℕ → ℕ → List ℕ → List ℕ
object_words o top t way l =
    named " object" o ++ named " ceiling" top ++ named " holder" t ++ named " way" way ++ bytes " waiters" ++ numbers_text l

object_within : (o top t way : ℕ) (l : List ℕ) → Within (object_words o top t way l)
object_within o top t way l =
    let a = named " object" o ++ named " ceiling" top in
    let b = a ++ named " holder" t in
    let c = b ++ named " way" way in
    within_both (c ++ bytes " waiters") (numbers_text l)
    (within_both c (bytes " waiters")
    (within_both b (named " way" way)
    (within_both a (named " holder" t)
    (within_both (named " object" o) (named " ceiling" top) (within_named " object" o refl) (within_named " ceiling" top refl)) (within_named " holder" t refl))
    (within_named " way" way refl)) refl) (numbers_within l)

declared_dropped : (o top t way : ℕ) (l : List ℕ) → Dropped (object_line o top t way l)
unfolding object_line indented
declared_dropped o top t way l = line_dropped (object_words o top t way l) (object_within o top t way l) refl

object_dropped : (m : Machine) (o : ℕ) → Dropped (object_text m o)
unfolding object_text
object_dropped m o =
    let line = object_line o (at m.ceiling o) (holder m o) (way_held m (holder m o)) (get_or m.queue o []) in
    dropped_if (declared m o) line (declared_dropped o (at m.ceiling o) (holder m o) (way_held m (holder m o)) (get_or m.queue o []))

-- an entry of the queue, behind what it is of
entry_dropped : (w : String) (t time age : ℕ) → Within (bytes w) → ((l : List ℕ) → indented (bytes w ++ l) ≡ true) → Dropped (named w t ++ entry_text time age)
unfolding entry_text
entry_dropped w t time age v i =
    let e = named " time" time ++ named " age" age in
    dropped_as (sym (append_assoc (named w t) e end))
    (line_dropped (named w t ++ e)
    (within_both (named w t) e (within_named w t v)
    (within_both (named " time" time) (named " age" age) (within_named " time" time refl) (within_named " age" age refl)))
    (ap indented (append_assoc (bytes w) (number t) e) ∙ i (number t ++ e)))
  where
    dropped_as : {x y : List ℕ} → x ≡ y → Dropped y → Dropped x
    dropped_as p d = rw p d

registers_dropped : (q : Queue) → Dropped (registers_text q)
unfolding registers_text indented
registers_dropped q = entry_dropped " registers task" q.task q.time q.age refl (λ l. refl)

cell_dropped : (q : Queue) (t : ℕ) → Dropped (cell_text q t)
unfolding cell_text indented
cell_dropped q t =
    let time = at q.times t in
    let age = at q.ages t in
    dropped_if (in_use age) (named " table task" t ++ entry_text time age) (entry_dropped " table task" t time age refl (λ l. refl))

pub block_dropped : (m : Machine) (p : ℕ) (q : Queue) (e : Bool) → Dropped (block m p q e)
unfolding block objects_text table_text
block_dropped m p q e =
    let a = flags_text m.started e ++ tasks_text m in
    let b = a ++ ready_text m in
    let c = b ++ delay_text m in
    let d = c ++ pending_text p in
    let f = d ++ each object_count (object_text m) in
    dropped_both (f ++ registers_text q) (each task_count (cell_text q))
    (dropped_both f (registers_text q)
    (dropped_both d (each object_count (object_text m))
    (dropped_both c (pending_text p)
    (dropped_both b (delay_text m)
    (dropped_both a (ready_text m)
    (dropped_both (flags_text m.started e) (tasks_text m) (flags_dropped m.started e) (tasks_dropped m)) (ready_dropped m)) (delay_dropped m))
    (pending_dropped p)) (dropped_each object_count (object_text m) (object_dropped m))) (registers_dropped q))
    (dropped_each task_count (cell_text q) (cell_dropped q))
