-- A record that is read back is the record that was written, and the other way round. (A record and its 16 bytes, both ways: crate record's
-- RoundTrip.)
--
-- * Every seed has a header that is written, and every command record is written wherever there is room. Rules out: a writer that always refuses.
-- * After an accepted write, for a header as for a command record, the reader finds the record at its place, and its part is the record's bytes;
--   earlier and later bytes and the length are as before. Rules out: a write that spills, and a reader that refuses what the writer takes.
-- * What a reader finds on any tape of bytes, the writer takes back at the same place, and writing it changes nothing. Rules out: a reader that takes
--   what the writer refuses, and a reader that drops or alters a byte.
-- What a run of records gives is in Runs. Assumes nothing.
use mathlib.Core.Path.{◌≡◌, refl, sym, ap, ◌∙◌}
use mathlib.Core.List.{List, ◌++◌, append_assoc}
use mathlib.Core.Bool.{Bool, true, false}
use Prim.Native.Nat.{ℕ, ◌+◌, ◌%◌, ◌<◌, ◌≤◌}
use native.Mathlib.Omega.{arith}
use lib.ListN.{length, take, drop, get_or, get_or-eq_default, length-append, length-take, length-drop, take-append-drop}
use lib.Seq.{drop-drop, take_at, drop_at, get_or-take, get_or-drop, length-take-le}
use lib.Dec.{ltb, lit<}
use borrow.Author.Tests.{ne_eqb, le-leb, ltb-true, ltb-false}
use Rattle.std.specs.Prelude.{Some, Result, Ok, Err}
use Rattle.rules.specs.declared.Refusal.{Refusal}
use Rattle.record.specs.declared.Record.{Record}
use Rattle.record.specs.Form.{bytes_of, record_of, command_fields, is_edition, header_of}
use Rattle.record.specs.Fault.{fault_of}
use Rattle.record.proofs.RoundTrip.{fields_back, bytes_spelt, sixteen_long, value_kept}
use Rattle.record.proofs.Faults.{own_fault, unfaulted}
use Rattle.tape_form.specs.Write.{write_code, write_of}
use Rattle.tape_form.specs.Read.{Read, judged, read_of, part_at}
use Rattle.tape_form.proofs.Writing.{accepted, accepts, write_not, write_is}
use Rattle.tape_form.proofs.Reading.{one_found, judged_is, read_judged, sixteen, Stands, stands, found, end, no_record, no_seed}

-- ---- What the writer takes

-- every seed has a header of either edition that is written at place 0
pub header_taken : (n edition seed : ℕ) → is_edition edition ≡ true → 1 ≤ seed → seed ≤ 4294967295 → 16 ≤ n → write_code n 0 (header_of edition seed) ≡ Ok tt
unfolding fault_of
header_taken n edition seed e h k l =
    accepts (record { whole = refl; fields = rw (e, le-leb 1 seed h, le-leb seed 4294967295 k); room = l })

-- every command record is written at every whole place but 0 that has room
pub command_taken : (n at : ℕ) (r : Record) → at % 16 ≡ 0 → (at ≡ 0 → ⊥) → command_fields r ≡ true → at + 16 ≤ n → write_code n at r ≡ Ok tt
unfolding fault_of
command_taken n at r w z k l = accepts (record { whole = w; fields = rw (ne_eqb at 0 z, k); room = l })

-- ---- Written, then read

-- a record that stands at a whole place is found there, whatever stands before and after it
pub found_there : (p q : List ℕ) (at : ℕ) (r : Record) → length p ≡ at → at % 16 ≡ 0 → fault_of at r ≡ Ok tt → r.value < 18446744073709551616
    → read_of (p ++ (bytes_of r ++ q)) at ≡ Ok (Some (r, at + 16))
found_there p q at r n w f small =
    let s : List ℕ = p ++ (bytes_of r ++ q) in
    let l : at + 16 ≤ length s = omega (arith, length-append p (bytes_of r ++ q), length-append (bytes_of r) q, sixteen_long r) in
    let here : take 16 (drop at s) ≡ bytes_of r = rw (drop_at p (bytes_of r ++ q) at n) (take_at (bytes_of r) q 16 (sixteen_long r)) in
    sym (read_judged s at w (omega arith) (λ e. omega arith) l) ∙ ap (judged at) (sixteen s at ∙ here)
    ∙ sym (judged_is at (bytes_of r) (own_fault at r small ∙ f))
    ∙ ap (λ (x : Record). Ok (Some (x, at + 16))) (fields_back r small)

module _ (s : List ℕ) (at : ℕ) (r : Record) (e : write_code (length s) at r ≡ Ok tt) where
  pub spilled : write_of s at r ≡ take at s ++ (bytes_of r ++ drop (at + 16) s)
  spilled = write_is s at r e

  pub before : length (take at s) ≡ at
  before = length-take-le at s (let h : at + 16 ≤ length s = (accepted (length s) at r e).room in omega arith)

  -- the reader finds what the writer wrote
  pub written_found : r.value < 18446744073709551616 → read_of (write_of s at r) at ≡ Ok (Some (r, at + 16))
  written_found small =
      let a = accepted (length s) at r e in ap (λ (l : List ℕ). read_of l at) spilled
      ∙ found_there (take at s) (drop (at + 16) s) at r before a.whole a.fields small

  -- and hands back the record's bytes
  pub written_part : r.value < 18446744073709551616 → part_at (write_of s at r) at ≡ bytes_of r
  unfolding part_at
  written_part small =
      rw (written_found small, spilled, drop_at (take at s) (bytes_of r ++ drop (at + 16) s) at before)
      (take_at (bytes_of r) (drop (at + 16) s) 16 (sixteen_long r))

  -- the other bytes stay
  pub earlier : take at (write_of s at r) ≡ take at s
  earlier = rw spilled (take_at (take at s) (bytes_of r ++ drop (at + 16) s) at before)

  pub later : drop (at + 16) (write_of s at r) ≡ drop (at + 16) s
  later =
      rw (spilled, ← append_assoc (take at s) (bytes_of r) (drop (at + 16) s))
      (drop_at (take at s ++ bytes_of r) (drop (at + 16) s) (at + 16) (length-append (take at s) (bytes_of r) ∙ omega (arith, before, sixteen_long r)))

  same_long : length (write_of s at r) ≡ length s
  same_long =
      let h : at + 16 ≤ length s = (accepted (length s) at r e).room in
      ap (λ (l : List ℕ). length l) spilled
      ∙ omega (
        arith,
        length-append (take at s) (bytes_of r ++ drop (at + 16) s),
        length-append (bytes_of r) (drop (at + 16) s),
        length-drop (at + 16) s,
        before,
        sixteen_long r,
      )

-- a refused write changes nothing
pub refused_same : (s : List ℕ) (at : ℕ) (r : Record) → (write_code (length s) at r ≡ Ok tt → ⊥) → write_of s at r ≡ s
refused_same s at r n = go (write_code (length s) at r) refl
  where
    go : (c : Result Unit Refusal) → write_code (length s) at r ≡ c → write_of s at r ≡ s
    go (Ok u) e = absurd (n e)
    go (Err x) e = write_not s at r e

-- no write changes the length
pub length_kept : (s : List ℕ) (at : ℕ) (r : Record) → length (write_of s at r) ≡ length s
length_kept s at r = go (write_code (length s) at r) refl
  where
    go : (c : Result Unit Refusal) → write_code (length s) at r ≡ c → length (write_of s at r) ≡ length s
    go (Ok u) e = same_long s at r e
    go (Err x) e = ap (λ (l : List ℕ). length l) (write_not s at r e)

-- ---- Read, then written

-- what is known of a record that is found
pub record IsThere (s : List ℕ) (at : ℕ) (r : Record) (next : ℕ) : Type 0 where
  pub behind : next ≡ at + 16
  pub taken : write_code (length s) at r ≡ Ok tt
  pub value_fits : r.value < 18446744073709551616
  pub bytes : take 16 (drop at s) ≡ bytes_of r

module _ (s : List ℕ) (small : (i : ℕ) → get_or s i 0 < 256) where
  pub part_small : (at i : ℕ) → get_or (take 16 (drop at s)) i 0 < 256
  part_small at i = go (ltb i 16) refl
    where
      go : (b : Bool) → ltb i 16 ≡ b → get_or (take 16 (drop at s)) i 0 < 256
      go true e = let h : i < 16 = ltb-true i 16 e in rw (get_or-take 16 (drop at s) i 0 h, get_or-drop at s i 0) (small (at + i))
      go false e =
          let h : 16 ≤ i = ltb-false i 16 e in rw (get_or-eq_default (take 16 (drop at s)) 0 {n = i} (omega (arith, length-take 16 (drop at s)))) (lit< tt)

  pub is_there : (at : ℕ) (r : Record) (next : ℕ) → read_of s at ≡ Ok (Some (r, next)) → IsThere s at r next
  is_there at r next = go (stands s at)
    where
      go : {x : Read} → Stands s at x → x ≡ Ok (Some (r, next)) → IsThere s at r next
      go (found w l f) e =
          let p : List ℕ = take 16 (drop at s) in
          let er : record_of p ≡ r = (one_found e).0 in
          let u = unfaulted at p f in
          let n : length p ≡ 16 = length-take-le 16 (drop at s) (omega (arith, length-drop at s)) in
          record {
            behind = sym (one_found e).1;
            taken = accepts (record { whole = w; fields = rw er at u.1; room = l });
            value_fits = rw er at (value_kept p (part_small at));
            bytes = sym (bytes_spelt p n (part_small at) u.0) ∙ ap bytes_of er;
          }
      go (end w l f) e = absurd cc
      go no_record e = absurd cc
      go (no_seed a l) e = absurd cc

  -- the writer takes back what is found, and writing it changes nothing
  pub found_written : (at : ℕ) (r : Record) (next : ℕ) → read_of s at ≡ Ok (Some (r, next)) → (write_code (length s) at r ≡ Ok tt) × (write_of s at r ≡ s)
  found_written at r next e =
      let k = is_there at r next e in
      (k.taken, spilled s at r k.taken ∙ rw (← k.bytes, ← drop-drop 16 at s, take-append-drop 16 (drop at s)) (take-append-drop at s))
