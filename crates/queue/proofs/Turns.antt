-- What one turn of each loop does to the definition that it computes, and each operation by the tests that the code makes. Assumes nothing.
use Prim.Native.Nat.{ℕ, zero, suc, ◌+◌, ◌≤◌, ◌<◌}
use native.Mathlib.Numerals.{add-one}
use native.Mathlib.Omega.{arith}
use mathlib.Core.Path.{◌≡◌, refl, sym, ◌∙◌}
use mathlib.Core.Logic.{◌≢◌, ⊎_elim}
use mathlib.Core.Bool.{Bool, true, false, cond, ◌&&◌}
use mathlib.Core.List.{List, ◌++◌, append_assoc, append-nil}
use lib.Dec.{eqb}
use lib.ListN.{length, take, drop, set, drop_of_length-le}
use lib.Seq.{drop-cons, take-suc-set, take_all}
use borrow.Author.Tests.{eq-eqb, ne_eqb, lt-ltb, le-ltb}
use Rattle.rules.specs.Line.{at, one_if}
use Rattle.rules.specs.declared.Kind.{Kind}
use Rattle.rules.specs.declared.Kind.TheVariants.{NoKind, Creating, Declaring, Starting, Delaying, Waking, Advancing, Opening, Entering, Ending}
use Rattle.rules.proofs.Lists.{lt_or_ge}
use Rattle.kernel_line.specs.Tables.{more, time_in, with_time}
use Rattle.kernel_line.proofs.Laws.{read_out, store_out}
use Rattle.queue_chip.specs.declared.Queue.{Queue}
use Rattle.queue_chip.specs.Queue.{in_use, older, aged, alone, preempts, pushed, tabled, insert, before, soonest, searched, moved_up, taken, due, woken, wake}
use Rattle.queue_chip.specs.Queue.{how_many, ahead_of, cell_due, left, above, delayed, follow}
use Rattle.queue_chip.proofs.Laws.{preempts_sooner, preempts_not, above_not, delayed_not}

-- ## A table of 32 times, read and stored into
pub time_at : (l : List ℕ) (t : ℕ) → length l ≡ 32 → time_in l t ≡ at l t
time_at l t e = ⊎_elim (λ (h : t < 32). rw (lt-ltb t 32 h)) (λ (h : 32 ≤ t). rw (le-ltb t 32 h) (read_out l 32 t e h)) (lt_or_ge t 32)

pub time_set : (l : List ℕ) (t v : ℕ) → length l ≡ 32 → with_time l t v ≡ set l t v
time_set l t v e = ⊎_elim (λ (h : t < 32). rw (lt-ltb t 32 h)) (λ (h : 32 ≤ t). rw (le-ltb t 32 h) (store_out l 32 t v e h)) (lt_or_ge t 32)

-- ## The loops
pub older_as : (n m age : ℕ) → cond (in_use age && eqb m n) (more age) age ≡ older n m age
unfolding older
older_as n m age = refl

module _ (n : ℕ) (times ages out : List ℕ) (i : ℕ) where
  pub aged_step : i < length times → i < length ages → i < length out
      → take i out ++ aged n (drop i times) (drop i ages)
      ≡ take (i + 1) (set out i (older n (at times i) (at ages i))) ++ aged n (drop (i + 1) times) (drop (i + 1) ages)
  unfolding aged
  aged_step h k j = rw (add-one, drop-cons times i 0 h, drop-cons ages i 0 k, take-suc-set out i (older n (at times i) (at ages i)) j, append_assoc)

  pub aged_done : length times ≤ i → length out ≤ i → take i out ++ aged n (drop i times) (drop i ages) ≡ out
  unfolding aged
  aged_done h k = rw (drop_of_length-le times h, take_all i out k, append-nil)

pub search_start : (times ages : List ℕ) → 0 ≡ soonest 0 times ages
unfolding soonest
search_start times ages = refl

pub search_step : (k : ℕ) (times ages : List ℕ) (b : Bool) → before times ages k (soonest k times ages) ≡ b
    → soonest (k + 1) times ages ≡ cond b k (soonest k times ages)
unfolding soonest
search_step k times ages b e = rw (add-one, e)

pub search_end : (k : ℕ) (times ages : List ℕ) → k ≡ 32 → soonest k times ages ≡ searched times ages
unfolding searched
search_end k times ages e = rw e

pub many_start : (f : ℕ → Bool) → 0 ≡ how_many 0 f
unfolding how_many
many_start f = refl

pub many_step : (k : ℕ) (f : ℕ → Bool) (b : Bool) → f k ≡ b → how_many (k + 1) f ≡ one_if b + how_many k f
unfolding how_many
many_step k f b e = rw (add-one, e)

pub many_most : (k : ℕ) (f : ℕ → Bool) → how_many k f ≤ k
unfolding how_many
many_most zero f = omega arith
many_most (suc k) f = go (f k) (many_most k f)
  where
    go : (b : Bool) → how_many k f ≤ k → one_if b + how_many k f ≤ suc k
    go true ih = omega arith
    go false ih = omega arith

-- ## The operations
module _ (q : Queue) where
  pub taken_as : (s : ℕ) → s ≡ searched q.times q.ages
      → record { task = s; time = at q.times s; age = at q.ages s; times = set q.times s 0; ages = set q.ages s 0 } ≡ taken q
  unfolding taken moved_up
  taken_as s e = rw e

  pub woken_as : (now : ℕ) → cond (due now q) q.task 0 ≡ woken now q
  unfolding woken
  woken_as now = refl

  pub wake_as : (now : ℕ) (b : Bool) → due now q ≡ b → cond b (taken q) q ≡ wake now q
  unfolding wake
  wake_as now b e = rw e

  module _ (n t : ℕ) where
    by_preempts : (b : Bool) → preempts n q.time ≡ b → q.task ≢ 0 → cond b (pushed n t q) (tabled n t q) ≡ insert n t q
    unfolding insert
    by_preempts b c e = rw (ne_eqb q.task 0 e, c)

    pub insert_alone : q.task ≡ 0 → alone n t q ≡ insert n t q
    unfolding insert
    insert_alone e = rw (eq-eqb q.task 0 e)

    pub insert_sooner : q.task ≢ 0 → n < q.time → pushed n t q ≡ insert n t q
    insert_sooner e h = go (preempts n q.time) refl
      where
        go : (b : Bool) → preempts n q.time ≡ b → pushed n t q ≡ insert n t q
        go true c = by_preempts true c e
        go false c = let k = preempts_not n q.time c in absurd (omega arith)

    pub insert_later : q.task ≢ 0 → q.time ≤ n → tabled n t q ≡ insert n t q
    insert_later e h = go (preempts n q.time) refl
      where
        go : (b : Bool) → preempts n q.time ≡ b → tabled n t q ≡ insert n t q
        go true c = let k = preempts_sooner n q.time c in absurd (omega arith)
        go false c = by_preempts false c e

  module _ (now t : ℕ) where
    pub left_own : q.task ≡ t → cond (due now q) 1 0 ≡ left now t q
    unfolding left
    left_own e = rw (eq-eqb q.task t e) (go (due now q))
      where
        go : (b : Bool) → cond b 1 0 ≡ one_if b
        go true = refl
        go false = refl

    pub left_other : q.task ≢ t
        → cond (cell_due now t q) (how_many 32 (λ u. before q.times q.ages u t) + 2) 0 ≡ left now t q
    unfolding left ahead_of
    left_other e = rw (ne_eqb q.task t e) (go (cell_due now t q))
      where
        go : (b : Bool)
            → cond b (how_many 32 (λ u. before q.times q.ages u t) + 2) 0 ≡ cond b (suc (1 + how_many 32 (λ u. before q.times q.ages u t))) 0
        go true = omega arith
        go false = refl

-- ## Beside a machine: by the kind, as the code tells it
module _ (q : Queue) (now n t : ℕ) where
  on_delay : (k : Kind) → k ≡ Delaying → delayed now n t q ≡ follow k now n t q
  unfolding follow
  on_delay k h = rw h

  is_above : now < n → insert n t q ≡ delayed now n t q
  unfolding delayed
  is_above h = go (above now n) refl
    where
      go : (b : Bool) → above now n ≡ b → insert n t q ≡ cond b (insert n t q) q
      go true e = refl
      go false e = let k = above_not now n e in absurd (omega arith)

  pub follow_above : (k : Kind) → k ≡ Delaying → now < n → insert n t q ≡ follow k now n t q
  follow_above k h l = is_above l ∙ on_delay k h

  pub follow_not : (k : Kind) → k ≡ Delaying → n ≤ now → q ≡ follow k now n t q
  follow_not k h l = sym (delayed_not now n t q l) ∙ on_delay k h

  pub follow_wake : (k : Kind) → k ≡ Waking → wake now q ≡ follow k now n t q
  unfolding follow
  follow_wake k h = rw h

  pub follow_other : (k : Kind) → k ≢ Delaying → k ≢ Waking → q ≡ follow k now n t q
  unfolding follow
  follow_other NoKind h g = refl
  follow_other Creating h g = refl
  follow_other Declaring h g = refl
  follow_other Starting h g = refl
  follow_other Delaying h g = absurd (h refl)
  follow_other Waking h g = absurd (g refl)
  follow_other Advancing h g = refl
  follow_other Opening h g = refl
  follow_other Entering h g = refl
  follow_other (Ending e) h g = refl
