-- Laws of the reader's definitions. One case analysis, `stands`, says what holds where a reader answers a record, the end, 15 or 17; everything
-- else about reading goes by its four cases. Assumes nothing.
use mathlib.Core.Path.{◌≡◌, refl, sym, ap, ◌∙◌}
use mathlib.Core.List.{List, []}
use mathlib.Core.Bool.{Bool, true, false, cond, not, ◌&&◌}
use Prim.Native.Nat.{ℕ, ◌+◌, ◌-◌, ◌%◌, ◌≤◌, ◌<◌}
use native.Mathlib.Omega.{arith}
use lib.ListN.{length, take, drop}
use lib.Dec.{ltb, eqb}
use borrow.Author.Tests.{ltb-false, eqb-true, eqb-false, eq-eqb, ne_eqb, lt-ltb, le-ltb}
use Rattle.std.specs.Prelude.{Some, None, Result, Ok, Err}
use Rattle.rules.specs.declared.Refusal.{Refusal}
use Rattle.rules.specs.declared.Refusal.TheVariants.{Record as NoRecord, Seed}
use Rattle.record.specs.declared.Record.{Record}
use Rattle.record.specs.Form.{record_of, marked, header_fields, command_fields, is_seed}
use Rattle.record.specs.Fault.{fault_of}
use Rattle.record.proofs.Faults.{bytes_fault, answer, Answer, answered, right, wrong, unseeded}
use Rattle.tape_form.specs.Read.{Read, judged, end_of, read_of, size_of, start_of, part_at, start_at}

-- what the reader answers of bytes that the writer answers so
abbrev pub read_as : Result Unit Refusal → Record → ℕ → Read
read_as (Ok u) r next = Ok (Some (r, next))
read_as (Err e) r next = Err e

-- reader and writer judge alike
pub judged_fault : (at : ℕ) (p : List ℕ) → judged at p ≡ read_as (bytes_fault at p) (record_of p) (at + 16)
unfolding judged fault_of
judged_fault at p = go (eqb at 0) (marked p) (header_fields (record_of p)) (is_seed (record_of p).value) (command_fields (record_of p))
  where
    f : Read
    f = Ok (Some (record_of p, at + 16))

    go : (z m h v k : Bool)
        → cond z (cond (m && h && v) f (cond (m && h && not v) (Err Seed) (Err NoRecord))) (cond (m && k) f (Err NoRecord))
        ≡ read_as (answer z m h v k) (record_of p) (at + 16)
    go true true true true k = refl
    go true true true false k = refl
    go true true false v k = refl
    go true false h v k = refl
    go false true h v true = refl
    go false true h v false = refl
    go false false h v k = refl

-- What a reader answers, with what holds there.
pub data Stands (s : List ℕ) (at : ℕ) : Read → Type 0 where
  found : at % 16 ≡ 0 → at + 16 ≤ length s → bytes_fault at (take 16 (drop at s)) ≡ Ok tt
      → Stands s at (Ok (Some (record_of (take 16 (drop at s)), at + 16)))
  end : at % 16 ≡ 0 → at ≡ length s → 0 < length s → Stands s at (Ok None)
  no_record : Stands s at (Err NoRecord)
  no_seed : at ≡ 0 → 16 ≤ length s → Stands s at (Err Seed)

judged_stands : (s : List ℕ) (at : ℕ) → at % 16 ≡ 0 → at + 16 ≤ length s → Stands s at (judged at (take 16 (drop at s)))
judged_stands s at w room = rw (judged_fault at (take 16 (drop at s))) (go refl (answered at (take 16 (drop at s))))
  where
    go : {c : Result Unit Refusal} → bytes_fault at (take 16 (drop at s)) ≡ c → Answer at c
        → Stands s at (read_as c (record_of (take 16 (drop at s))) (at + 16))
    go e right = found w room e
    go e wrong = no_record
    go e (unseeded z) = no_seed z (omega arith)

pub stands : (s : List ℕ) (at : ℕ) → Stands s at (read_of s at)
unfolding read_of end_of
stands s at = go (eqb (at % 16) 0) refl (ltb (length s) at) (eqb at (length s)) refl (eqb (length s) 0) refl (ltb (length s) (at + 16)) refl
  where
    go : (w : Bool) → eqb (at % 16) 0 ≡ w → (p h : Bool) → eqb at (length s) ≡ h → (z : Bool) → eqb (length s) 0 ≡ z
        → (l : Bool) → ltb (length s) (at + 16) ≡ l
        → Stands s at
        (cond (not w) (Err NoRecord)
        (cond p (Err NoRecord) (cond h (cond z (Err NoRecord) (Ok None)) (cond l (Err NoRecord) (judged at (take 16 (drop at s)))))))
    go false w p h e z f l g = no_record
    go true w true h e z f l g = no_record
    go true w false true e true f l g = no_record
    go true w false true e false f l g =
        let n : length s ≡ 0 → ⊥ = eqb-false (length s) 0 f in
        end (eqb-true (at % 16) 0 w) (eqb-true at (length s) e) (omega arith)
    go true w false false e z f true g = no_record
    go true w false false e z f false g = judged_stands s at (eqb-true (at % 16) 0 w) (ltb-false (length s) (at + 16) g)

-- two answers that are one have one record and one place
pub one_found : {r q : Record} {m n : ℕ} → ◌≡◌ {A = Read} (Ok (Some (r, m))) (Ok (Some (q, n))) → (r ≡ q) × (m ≡ n)
one_found {r} {q} {m} {n} e = let p : ◌≡◌ {A = Record × ℕ} (r, m) (q, n) = cc in (ap (λ (x : Record × ℕ). x.0) p, ap (λ (x : Record × ℕ). x.1) p)

-- ---- The exits of the code

-- a part of 16 bytes, as the code cuts it
pub sixteen : (s : List ℕ) (at : ℕ) → take (at + 16 - at) (drop at s) ≡ take 16 (drop at s)
sixteen s at = let e : at + 16 - at ≡ 16 = omega arith in ap (λ (n : ℕ). take n (drop at s)) e

module _ (at : ℕ) (p : List ℕ) where
  pub judged_not : {e : Refusal} → bytes_fault at p ≡ Err e → Err e ≡ judged at p
  judged_not f = rw (judged_fault at p, f)

  pub judged_is : bytes_fault at p ≡ Ok tt → Ok (Some (record_of p, at + 16)) ≡ judged at p
  judged_is f = rw (judged_fault at p, f)

module _ (s : List ℕ) (at : ℕ) where
  module _ (w : at % 16 ≡ 0) where
    module _ (h : at ≤ length s) where
      pub read_end : at ≡ length s → end_of (length s) ≡ read_of s at
      unfolding read_of
      read_end e = rw (eq-eqb (at % 16) 0 w, le-ltb (length s) at h, eq-eqb at (length s) e)

      module _ (n : at ≡ length s → ⊥) where
        pub read_short : length s < at + 16 → Err NoRecord ≡ read_of s at
        unfolding read_of
        read_short l = rw (eq-eqb (at % 16) 0 w, le-ltb (length s) at h, ne_eqb at (length s) n, lt-ltb (length s) (at + 16) l)

        pub read_judged : at + 16 ≤ length s → judged at (take (at + 16 - at) (drop at s)) ≡ read_of s at
        unfolding read_of
        read_judged l = rw (eq-eqb (at % 16) 0 w, le-ltb (length s) at h, ne_eqb at (length s) n, le-ltb (length s) (at + 16) l, sixteen s at)

-- a record that is found lies on the tape
pub found_at : (s : List ℕ) (at : ℕ) (r : Record) (next : ℕ) → read_of s at ≡ Ok (Some (r, next)) → (next ≡ at + 16) × (at + 16 ≤ length s)
found_at s at r next = go (stands s at)
  where
    go : {x : Read} → Stands s at x → x ≡ Ok (Some (r, next)) → (next ≡ at + 16) × (at + 16 ≤ length s)
    go (found w l f) e = (sym (one_found e).1, l)
    go (end w l f) e = absurd cc
    go no_record e = absurd cc
    go (no_seed a l) e = absurd cc

-- and it is the part that is handed back
pub found_part : (s : List ℕ) (at : ℕ) (r : Record) (next : ℕ) → read_of s at ≡ Ok (Some (r, next))
    → (take (next - at) (drop at s) ≡ part_at s at) × (start_at s at ≡ at)
unfolding part_at start_at
found_part s at r next e =
    let f = found_at s at r next e in
    let n : next - at ≡ 16 = omega (arith, f.0) in
    rw (e, n) (refl, refl)

-- The part where no record stands is empty, and lies at the tape's start.
pub part_none : (s : List ℕ) (at n : ℕ) → n ≡ size_of (read_of s at) → n ≡ 0 → ([] ≡ part_at s at) × (start_at s at ≡ 0)
unfolding part_at start_at
part_none s at n e z = go (stands s at) (sym e ∙ z)
  where
    go : {r : Read} → Stands s at r → size_of r ≡ 0 → ([] ≡ take (size_of r) (drop at s)) × (start_of at r ≡ 0)
    go (found w l f) q = absurd (omega arith)
    go (end w l f) q = (refl, refl)
    go no_record q = (refl, refl)
    go (no_seed a l) q = (refl, refl)
