-- The salvage and the reader of crate tape: a tape that the reader reads to its end is whole; and the new tape is the kept records' bytes, one behind another,
-- each of which the writer would take and the reader finds. By induction on the length of what is left. Assumes nothing.
use Prim.Native.Nat.{ℕ, zero, suc, ◌+◌, ◌*◌, ◌%◌, ◌≤◌, ◌<◌}
use native.Mathlib.Omega.{arith}
use mathlib.Core.Path.{◌≡◌, refl, sym, ap, ◌∙◌}
use mathlib.Core.Bool.{Bool, true, false, cond, ◌&&◌, ◌||◌, true≢false}
use mathlib.Core.List.{List, [], ◌∷◌, ◌++◌}
use borrow.Author.Tests.{leb-true, le-leb, ne_eqb, ltb-true, ltb-false}
use lib.Dec.{leb, ltb, eqb, lit<}
use lib.ListN.{length, take, drop, get_or, replicate, length-append, length-take, length-drop, get_or-eq_default}
use lib.Seq.{length-take-le, take_at, take-append-le, get_or-take, get_or-drop}
use Rattle.std.specs.Prelude.{Result, Ok, Err}
use Rattle.rules.specs.declared.Refusal.{Refusal}
use Rattle.rules.specs.declared.Refusal.TheVariants.{Record as NoRecord, Seed}
use Rattle.record.specs.declared.Record.{Record}
use Rattle.record.specs.Form.{is_header, is_command, marked, record_of, bytes_of, header_fields, command_fields, is_seed, last_seed}
use Rattle.record.specs.Fault.{fault_of}
use Rattle.record.proofs.RoundTrip.{bytes_spelt, sixteen_long, value_kept}
use Rattle.record.proofs.Faults.{own_fault, unfaulted}
use Rattle.tape_form.specs.Run.{tape_of, Takes, answers, found_all}
use Rattle.tape_form.proofs.Writing.{accepted, accepts}
use Rattle.tape_form.proofs.Runs.{run_there, run_answers}
use Rattle.salvage_marks.specs.Torn.{is_record, makes, marks, pick, kept_on, kept, found_on, found, headed}
use Rattle.salvage_marks.specs.Words.{Bytes, Whole}
use Rattle.salvage_marks.proofs.Marks.{both_true, and_false, makes_long, makes_record, kept_keep, kept_drop}
use Rattle.salvage_marks.proofs.Whole.{whole_joined}

-- what a check of fields answers
abbrev Checked : Type 0
Checked = Result (Unit {0}) Refusal

-- ---- a tape that the reader reads

-- bytes with no fault at a place
faultless : (at : ℕ) (p : List ℕ) → marked p ≡ true → fault_of at (record_of p) ≡ Ok tt → is_record (eqb at 0) p ≡ true
unfolding fault_of
faultless at p = go (eqb at 0) (marked p) (command_fields (record_of p)) (header_fields (record_of p)) (is_seed (record_of p).value)
  where
    go : (z m k h v : Bool) → m ≡ true → cond {A = Checked} z (cond h (cond v (Ok tt) (Err Seed)) (Err NoRecord)) (cond k (Ok tt) (Err NoRecord)) ≡ Ok tt
        → ((m && k) || (z && (m && h && v))) ≡ true
    go z false k h v e f = absurd (true≢false (sym e))
    go z true true h v e f = refl
    go true true false true true e f = refl
    go true true false true false e f = absurd cc
    go true true false false v e f = absurd cc
    go false true false h v e f = absurd cc

-- a record that the writer takes at a place makes one there
record_made : (at : ℕ) (r : Record) (x : List ℕ) → fault_of at r ≡ Ok tt → r.value < 18446744073709551616 → makes (eqb at 0) (bytes_of r ++ x) ≡ true
unfolding makes
record_made at r x f small =
    let u = unfaulted at (bytes_of r) (own_fault at r small ∙ f) in
    let o : 16 ≤ length (bytes_of r ++ x) = omega (arith, length-append (bytes_of r) x, sixteen_long r) in
    rw (le-leb 16 (length (bytes_of r ++ x)) o, take_at (bytes_of r) x 16 (sixteen_long r)) (faultless at (bytes_of r) u.0 u.1)

-- a run that the writer takes is whole
pub tape_whole : (n at : ℕ) (rs : List Record) → Takes n at rs → Whole (eqb at 0) (tape_of rs)
unfolding marks
tape_whole n at [] t = refl
tape_whole n at (r ∷ rs) t =
    let z : eqb (at + 16) 0 ≡ false = ne_eqb (at + 16) 0 (λ e. omega arith) in
    whole_joined (eqb at 0) (bytes_of r) (tape_of rs) (sixteen_long r) (record_made at r (tape_of rs) (accepted n at r t.0).fields t.1)
    (rw z at (tape_whole n (at + 16) rs t.2))

pub read_whole : (s : List ℕ) → Bytes s → (rs : List Record) → answers (suc (length rs)) s 0 ≡ found_all 0 rs → Whole true s
read_whole s small rs e =
    let k = run_there s small rs 0 e in
    (rw (sym k.0) at (tape_whole (length s) 0 rs k.1))

-- ---- the new tape

found_k : (f : Bool) (k : ℕ) (l : List ℕ) → suc k ≤ length l → found_on f (suc k) l ≡ found_on false zero (drop (suc k) l)
unfolding found_on
found_k f k [] o = absurd (omega arith)
found_k f zero (b ∷ l) o = refl
found_k f (suc k) (b ∷ l) o = found_k false k l (omega arith)

found_keep_on : (f : Bool) (l : List ℕ) → makes f l ≡ true → 16 ≤ length l → found_on f zero l ≡ record_of (take 16 l) ∷ found_on false zero (drop 16 l)
unfolding found_on
found_keep_on f [] e o = absurd (omega arith)
found_keep_on f (b ∷ l) e o = rw e (ap (λ (x : List Record). record_of (take 16 (b ∷ l)) ∷ x) (found_k false 14 l (omega arith)))

found_keep : (f : Bool) (l : List ℕ) → makes f l ≡ true → found_on f zero l ≡ record_of (take 16 l) ∷ found_on false zero (drop 16 l)
found_keep f l e = found_keep_on f l e (makes_long f l e)

found_drop : (f : Bool) (b : ℕ) (l : List ℕ) → makes f (b ∷ l) ≡ false → found_on f zero (b ∷ l) ≡ found_on false zero l
unfolding found_on
found_drop f b l e = rw e

small_drop : (n : ℕ) (l : List ℕ) → Bytes l → Bytes (drop n l)
small_drop n l b i = rw (get_or-drop n l i 0) (b (n + i))

small_take : (n : ℕ) (l : List ℕ) → Bytes l → Bytes (take n l)
small_take n l b i = go (ltb i n) refl
  where
    go : (t : Bool) → ltb i n ≡ t → get_or (take n l) i 0 < 256
    go true e = let h : i < n = ltb-true i n e in rw (get_or-take n l i 0 h) (b i)
    go false e = let h : n ≤ i = ltb-false i n e in rw (get_or-eq_default (take n l) 0 {n = i} (omega (arith, length-take n l))) (lit< tt)

record_mark : (f : Bool) (p : List ℕ) → is_record f p ≡ true → marked p ≡ true
record_mark f p = go f (marked p) (command_fields (record_of p)) (header_fields (record_of p)) (is_seed (record_of p).value)
  where
    go : (f m k h v : Bool) → ((m && k) || (f && (m && h && v))) ≡ true → m ≡ true
    go f true k h v e = refl
    go true false k h v e = e
    go false false k h v e = e

-- what a new tape is made of, from a place on that is not its start
pub record Made (n at : ℕ) (l : List ℕ) : Type 0 where
  pub bytes : kept_on false l ≡ tape_of (found_on false zero l)
  pub taken : at + 16 * length (found_on false zero l) ≤ n → Takes n at (found_on false zero l)

command_fault : (at : ℕ) (p : List ℕ) → (at ≡ 0 → ⊥) → is_record false p ≡ true → fault_of at (record_of p) ≡ Ok tt
unfolding fault_of
command_fault at p z e = rw (ne_eqb at 0 z) (go (marked p) (command_fields (record_of p)) e)
  where
    go : (m k : Bool) → ((m && k) || false) ≡ true → cond {A = Checked} k (Ok tt) (Err NoRecord) ≡ Ok tt
    go true true e = refl
    go true false e = absurd (true≢false (sym e))
    go false k e = absurd (true≢false (sym e))

spelt : (f : Bool) (l : List ℕ) → Bytes l → makes f l ≡ true → bytes_of (record_of (take 16 l)) ≡ take 16 l
spelt f l b e = bytes_spelt (take 16 l) (length-take-le 16 l (makes_long f l e)) (small_take 16 l b) (record_mark f (take 16 l) (makes_record f l e))

made_step : (n at : ℕ) (l : List ℕ) → Bytes l → at % 16 ≡ 0 → (at ≡ 0 → ⊥)
    → ((at' : ℕ) (r : List ℕ) → suc (length r) ≤ length l → Bytes r → at' % 16 ≡ 0 → (at' ≡ 0 → ⊥) → Made n at' r) → Made n at l
unfolding pick marks found_on
made_step n at [] b w z ih = record { bytes = refl; taken = λ o. tt }
made_step n at (x ∷ l) b w z ih = go (makes false (x ∷ l)) refl
  where
    go : (t : Bool) → makes false (x ∷ l) ≡ t → Made n at (x ∷ l)
    go true e =
        let m = ih (at + 16) (drop 16 (x ∷ l)) (omega (arith, length-drop 16 (x ∷ l))) (small_drop 16 (x ∷ l) b) (omega arith) (λ q. omega arith) in
        let f = found_keep false (x ∷ l) e in
        record {
          bytes = kept_keep false (x ∷ l) e ∙ rw (f, m.bytes, spelt false (x ∷ l) b e);
          taken = rw f (λ o. (
            accepts (record { whole = w; fields = command_fault at (take 16 (x ∷ l)) z (makes_record false (x ∷ l) e); room = omega arith }),
            value_kept (take 16 (x ∷ l)) (small_take 16 (x ∷ l) b),
            m.taken (omega arith),
          ));
        }
    go false e =
        let m = ih at l (omega arith) (λ i. b (suc i)) w z in
        let f = found_drop false x l e in
        record { bytes = kept_drop false x l e ∙ m.bytes ∙ ap tape_of (sym f); taken = rw f m.taken }

made : (k n at : ℕ) (l : List ℕ) → length l ≤ k → Bytes l → at % 16 ≡ 0 → (at ≡ 0 → ⊥) → Made n at l
made zero n at l o b w z = made_step n at l b w z (λ at' r h b' w' z'. absurd (omega arith))
made (suc k) n at l o b w z = made_step n at l b w z (λ at' r h b' w' z'. made k n at' r (omega arith) b' w' z')

header_fault : (p : List ℕ) → is_header p ≡ true → fault_of 0 (record_of p) ≡ Ok tt
unfolding fault_of
header_fault p = go (marked p) (header_fields (record_of p)) (is_seed (record_of p).value)
  where
    go : (m h v : Bool) → (m && h && v) ≡ true → cond {A = Checked} h (cond v (Ok tt) (Err Seed)) (Err NoRecord) ≡ Ok tt
    go true true true e = refl
    go true true false e = absurd (true≢false (sym e))
    go true false v e = absurd (true≢false (sym e))
    go false h v e = absurd (true≢false (sym e))

-- where a header stands, it makes a record
pub headed_made : (s : List ℕ) → headed s ≡ true → (makes true s ≡ true) × (is_header (take 16 s) ≡ true)
unfolding headed makes
headed_made s = go (leb 16 (length s)) (is_command (take 16 s)) (is_header (take 16 s))
  where
    go : (n k h : Bool) → (n && h) ≡ true → ((n && (k || (true && h))) ≡ true) × (h ≡ true)
    go true true true e = (refl, refl)
    go true false true e = (refl, refl)
    go true k false e = absurd (true≢false (sym e))
    go false k h e = absurd (true≢false (sym e))

-- where none stands, byte 0 is a place like any other
pub not_headed : (s : List ℕ) → headed s ≡ false → makes true s ≡ makes false s
unfolding headed makes
not_headed s = go (leb 16 (length s)) (is_command (take 16 s)) (is_header (take 16 s))
  where
    go : (n k h : Bool) → (n && h) ≡ false → (n && (k || (true && h))) ≡ (n && (k || (false && h)))
    go true true h e = refl
    go true false true e = absurd (true≢false e)
    go true false false e = refl
    go false k h e = refl

-- the marks too
pub same_marks : (s : List ℕ) → headed s ≡ false → marks true zero s ≡ marks false zero s
unfolding marks
same_marks [] e = refl
same_marks (b ∷ l) e = rw (not_headed (b ∷ l) e)

same_start : (s : List ℕ) → headed s ≡ false → (kept_on true s ≡ kept_on false s) × (found_on true zero s ≡ found_on false zero s)
unfolding found_on marks
same_start [] e = (refl, refl)
same_start (b ∷ l) e = (ap (λ (m : List Bool). pick m (b ∷ l)) (same_marks (b ∷ l) e), rw (not_headed (b ∷ l) e))

-- The new tape is the kept records' bytes.
pub new_tape : (s : List ℕ) → Bytes s → kept s ≡ tape_of (found s)
unfolding found kept
new_tape s b = go (headed s) refl
  where
    go : (t : Bool) → headed s ≡ t → kept_on true s ≡ tape_of (found_on true zero s)
    go true e =
        let h = headed_made s e in
        let m = made (length (drop 16 s)) 0 16 (drop 16 s) (omega arith) (small_drop 16 s b) refl (λ q. omega arith) in
        kept_keep true s h.0 ∙ rw (found_keep true s h.0, m.bytes, spelt true s b h.0)
    go false e =
        let x = same_start s e in
        rw (x.0, x.1) (made (length s) 0 16 s (omega arith) b refl (λ q. omega arith)).bytes

-- Where a header was kept, the new tape is read record for record, and then the end.
pub reads_back : (s : List ℕ) → Bytes s → headed s ≡ true → answers (suc (length (found s))) (kept s) 0 ≡ found_all 0 (found s)
unfolding found kept
reads_back s b e =
    let h = headed_made s e in
    let rs : List Record = found_on false zero (drop 16 s) in
    let r : Record = record_of (take 16 s) in
    let n : ℕ = 16 + 16 * length rs in
    let m = made (length (drop 16 s)) n 16 (drop 16 s) (omega arith) (small_drop 16 s b) refl (λ q. omega arith) in
    let t : Takes n 0 (r ∷ rs) = (
      accepts (record { whole = refl; fields = header_fault (take 16 s) h.1; room = omega arith }),
      value_kept (take 16 s) (small_take 16 s b),
      m.taken (omega arith),
    ) in
    let k : tape_of (r ∷ rs) ≡ kept_on true s = rw (found_keep true s h.0) at (sym (new_tape s b)) in
    rw (found_keep true s h.0, ← k) (run_answers n (r ∷ rs) [] 0 refl refl (omega arith) t)

-- a header's value is a seed, and so a number of 64 bits
seed_small : (h : Record) → fault_of 0 h ≡ Ok tt → h.value < 18446744073709551616
unfolding fault_of
seed_small h = go (header_fields h) (is_seed h.value) refl
  where
    go : (a v : Bool) → is_seed h.value ≡ v → cond {A = Checked} a (cond v (Ok tt) (Err Seed)) (Err NoRecord) ≡ Ok tt → h.value < 18446744073709551616
    go true true e f = let o : h.value ≤ last_seed = leb-true h.value last_seed (both_true {x = leb 1 h.value} e).1 in omega arith
    go true false e f = absurd cc
    go false v e f = absurd cc

-- Where none was, it is read so behind any header.
pub reads_under : (s : List ℕ) → Bytes s → headed s ≡ false → (h : Record) → fault_of 0 h ≡ Ok tt
    → answers (suc (suc (length (found s)))) (bytes_of h ++ kept s) 0 ≡ found_all 0 (h ∷ found s)
unfolding found kept
reads_under s b e h f =
    let x = same_start s e in
    let rs : List Record = found_on false zero s in
    let n : ℕ = 16 + 16 * length rs in
    let m = made (length s) n 16 s (omega arith) b refl (λ q. omega arith) in
    let t : Takes n 0 (h ∷ rs) = (accepts (record { whole = refl; fields = f; room = omega arith }), seed_small h f, m.taken (omega arith)) in
    rw (x.0, x.1, m.bytes) (run_answers n (h ∷ rs) [] 0 refl refl (omega arith) t)

-- ---- the new tape's header

-- a command record is no header: its op is not 0
command_no_header : (p : List ℕ) → is_command p ≡ true → is_header p ≡ false
unfolding record_of
command_no_header p e =
    let op : ℕ = get_or p 2 0 in
    let a : command_fields (record_of p) ≡ true = (both_true {x = marked p} e).1 in
    let o : 1 ≤ op = leb-true 1 op (both_true {x = leb 1 op} (both_true (both_true (both_true a).0).0).0).0 in
    rw (ne_eqb op 0 (λ q. omega arith)) (go (marked p) (is_seed (record_of p).value))
  where
    go : (m v : Bool) → (m && false && v) ≡ false
    go true v = refl
    go false v = refl

begins : (p q : List ℕ) → length p ≡ 16 → is_header p ≡ false → headed (p ++ q) ≡ false
unfolding headed
begins p q n e =
    let b : Bool = leb 16 (length (p ++ q)) in
    ap (λ (x : List ℕ). b && is_header x) (take_at p q 16 n) ∙ ap (λ (x : Bool). b && x) e ∙ and_false b

-- what makes a record behind byte 0 is a command record
command_made : (l : List ℕ) → makes false l ≡ true → is_command (take 16 l) ≡ true
command_made l e = go (is_command (take 16 l)) (makes_record false l e)
  where
    go : (x : Bool) → (x || false) ≡ true → x ≡ true
    go true e = refl
    go false e = e

-- command records at byte 0 are no header
pub commands_first : (a r : List ℕ) → 0 < length a → Whole false a → headed (a ++ r) ≡ false
unfolding headed marks
commands_first [] r o w = absurd (omega arith)
commands_first (b ∷ a) r o w = go (makes false (b ∷ a)) refl w
  where
    go : (t : Bool) → makes false (b ∷ a) ≡ t
        → cond {A = List Bool} t (true ∷ marks false 15 a) (false ∷ marks false zero a) ≡ true ∷ replicate (length a) true → headed (b ∷ (a ++ r)) ≡ false
    go true e w =
        let n : 16 ≤ length (b ∷ a) = makes_long false (b ∷ a) e in
        rw (take-append-le 16 (b ∷ a) r n, command_no_header (take 16 (b ∷ a)) (command_made (b ∷ a) e)) (and_false (leb 16 (length (b ∷ (a ++ r)))))
    go false e w = let z : ◌≡◌ {A = ℕ} 0 1 = cc in absurd (omega arith)

-- records behind byte 0 make no header
later_headed : (l : List ℕ) → headed (kept_on false l) ≡ false
unfolding headed marks pick
later_headed [] = refl
later_headed (b ∷ l) = go (makes false (b ∷ l)) refl (later_headed l)
  where
    go : (t : Bool) → makes false (b ∷ l) ≡ t → headed (kept_on false l) ≡ false → headed (kept_on false (b ∷ l)) ≡ false
    go true e ih =
        let p : List ℕ = take 16 (b ∷ l) in
        let n : length p ≡ 16 = length-take-le 16 (b ∷ l) (makes_long false (b ∷ l) e) in
        rw (kept_keep false (b ∷ l) e) (begins p (kept_on false (drop 16 (b ∷ l))) n (command_no_header p (command_made (b ∷ l) e)))
    go false e ih = rw (kept_drop false b l e) ih

-- the new tape has a header exactly where one was kept
pub header_kept : (s : List ℕ) → headed (kept s) ≡ headed s
unfolding kept headed
header_kept s = go (headed s) refl
  where
    go : (t : Bool) → headed s ≡ t → headed (kept_on true s) ≡ t
    go true e =
        let h = headed_made s e in
        let p : List ℕ = take 16 s in
        let r : List ℕ = kept_on false (drop 16 s) in
        let n : length p ≡ 16 = length-take-le 16 s (makes_long true s h.0) in
        let o : 16 ≤ length (p ++ r) = omega (arith, length-append p r) in
        rw (kept_keep true s h.0, le-leb 16 (length (p ++ r)) o, take_at p r 16 n) h.1
    go false e = rw (same_start s e).0 (later_headed s)
