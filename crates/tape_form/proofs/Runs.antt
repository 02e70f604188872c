-- A whole tape, both ways.
--
-- * Records that the writer takes one behind another from place 0 on, a header first and then commands, leave their tape in front of the buffer; a
--   reader of it from place 0 answers each of them in turn, and then the end.
--   Rules out: a writer that overwrites the record before it or leaves a gap, a reader that skips or repeats a record or ends too early or too late.
-- * Where a reader of any tape of bytes answers records and then the end, writing those records into any buffer of the tape's length gives the tape.
--   Rules out: two tapes that read alike, and a reader that passes over bytes.
-- That a single write leaves the other bytes alone is RoundTrip's. Assumes nothing.
use mathlib.Core.Path.{◌≡◌, refl, sym, ap, ◌∙◌}
use mathlib.Core.List.{List, [], ◌∷◌, ◌++◌, append_assoc, append-nil}
use Prim.Native.Nat.{ℕ, suc, ◌+◌, ◌*◌, ◌%◌, ◌<◌, ◌≤◌}
use native.Mathlib.Omega.{arith}
use lib.ListN.{length, take, drop, get_or, length-append, take-append-drop, drop_of_length-le}
use lib.Seq.{take_at, drop-drop, drop-length}
use borrow.Author.Tests.{ne_eqb}
use Rattle.std.specs.Prelude.{Some, None, Ok}
use Rattle.record.specs.Form.{bytes_of}
use Rattle.record.specs.declared.Record.{Record}
use Rattle.record.proofs.RoundTrip.{sixteen_long}
use Rattle.tape_form.specs.Write.{write_code, write_of}
use Rattle.tape_form.specs.Read.{Read, end_of, read_of, place_of, next_at}
use Rattle.tape_form.specs.Run.{tape_of, write_run, Takes, answers, found_all}
use Rattle.tape_form.proofs.Writing.{accepted}
use Rattle.tape_form.proofs.Reading.{read_end, Stands, stands, found, end, no_record, no_seed}
use Rattle.tape_form.proofs.RoundTrip.{found_there, spilled, before, later, length_kept, is_there}

-- a run's tape has 16 bytes for each record
pub tape_long : (rs : List Record) → length (tape_of rs) ≡ 16 * length rs
tape_long [] = refl
tape_long (r ∷ rs) = length-append (bytes_of r) (tape_of rs) ∙ omega (arith, sixteen_long r, tape_long rs)

-- ---- Written, then read

-- a place and the record that an accepted write put there
up_to : (s : List ℕ) (at : ℕ) (r : Record) → write_code (length s) at r ≡ Ok tt → take (at + 16) (write_of s at r) ≡ take at s ++ bytes_of r
up_to s at r e =
    rw (spilled s at r e, ← append_assoc (take at s) (bytes_of r) (drop (at + 16) s))
    (take_at (take at s ++ bytes_of r) (drop (at + 16) s) (at + 16) (length-append (take at s) (bytes_of r) ∙ omega (arith, before s at r e, sixteen_long r)))

-- a buffer after a run
run_spilled : (rs : List Record) (s : List ℕ) (at : ℕ) → Takes (length s) at rs → write_run s at rs ≡ take at s ++ (tape_of rs ++ drop (at + 16 * length rs) s)
run_spilled [] s at t = let z : at + 0 ≡ at = omega arith in rw z (sym (take-append-drop at s))
run_spilled (r ∷ rs) s at t =
    let s' : List ℕ = write_of s at r in
    let k : ℕ = 16 * length rs in
    let n : at + 16 + k ≡ at + 16 * suc (length rs) = omega arith in
    let rest : drop (at + 16 + k) s' ≡ drop (at + 16 * suc (length rs)) s =
    sym (drop-drop k (at + 16) s') ∙ ap (λ (l : List ℕ). drop k l) (later s at r t.0) ∙ drop-drop k (at + 16) s ∙ ap (λ (m : ℕ). drop m s) n in
    run_spilled rs s' (at + 16) (rw (length_kept s at r) t.2)
    ∙ rw (up_to s at r t.0, rest, append_assoc (take at s) (bytes_of r), append_assoc (bytes_of r) (tape_of rs))

-- the end of a tape that is not empty
pub end_there : (s : List ℕ) (at : ℕ) → at % 16 ≡ 0 → at ≡ length s → 0 < at → read_of s at ≡ Ok None
unfolding end_of
end_there s at w e h = let n : length s ≡ 0 → ⊥ = λ z. omega arith in sym (read_end s at w (omega arith) e) ∙ rw (ne_eqb (length s) 0 n)

next_is : (s : List ℕ) (at : ℕ) (r : Record) (n : ℕ) → read_of s at ≡ Ok (Some (r, n)) → next_at s at ≡ n
unfolding next_at
next_is s at r n e = ap (place_of at) e

-- a run that stands behind p
pub run_answers : (n : ℕ) (rs : List Record) (p : List ℕ) (at : ℕ) → length p ≡ at → at % 16 ≡ 0 → 0 < at + length rs → Takes n at rs
    → answers (suc (length rs)) (p ++ tape_of rs) at ≡ found_all at rs
run_answers n [] p at l w h t = ap (λ (x : Read). x ∷ []) (end_there (p ++ []) at w (sym (ap (λ (q : List ℕ). length q) (append-nil p) ∙ l)) (omega arith))
run_answers n (r ∷ rs) p at l w h t =
    let a = accepted n at r t.0 in
    let s : List ℕ = p ++ (bytes_of r ++ tape_of rs) in
    let e : read_of s at ≡ Ok (Some (r, at + 16)) = found_there p (tape_of rs) at r l w a.fields t.1 in
    let long : length (p ++ bytes_of r) ≡ at + 16 = length-append p (bytes_of r) ∙ omega (arith, sixteen_long r) in
    rw (e, next_is s at r (at + 16) e, ← append_assoc p (bytes_of r) (tape_of rs))
    (ap (λ (x : List Read). Ok (Some (r, at + 16)) ∷ x) (run_answers n rs (p ++ bytes_of r) (at + 16) long (omega arith) (omega arith) t.2))

-- the front of a buffer after a run from place 0 on is the run's tape
pub run_front : (rs : List Record) (s : List ℕ) → Takes (length s) 0 rs → take (16 * length rs) (write_run s 0 rs) ≡ tape_of rs
run_front rs s t =
    ap (λ (l : List ℕ). take (16 * length rs) l) (run_spilled rs s 0 t) ∙ take_at (tape_of rs) (drop (0 + 16 * length rs) s) (16 * length rs) (tape_long rs)

-- Records written one behind another from place 0 on are read from place 0 on, each in turn, and then the end.
pub run_read : (s : List ℕ) (r : Record) (rs : List Record) → Takes (length s) 0 (r ∷ rs)
    → answers (suc (length (r ∷ rs))) (take (16 * length (r ∷ rs)) (write_run s 0 (r ∷ rs))) 0 ≡ found_all 0 (r ∷ rs)
run_read s r rs t =
    ap (λ (l : List ℕ). answers (suc (length (r ∷ rs))) l 0) (run_front (r ∷ rs) s t) ∙ run_answers (length s) (r ∷ rs) [] 0 refl refl (omega arith) t

-- ---- Read, then written

-- the end is answered at the end of a tape, and only of one that has a byte
pub end_place : (s : List ℕ) (at : ℕ) → read_of s at ≡ Ok None → (at ≡ length s) × (0 < length s)
end_place s at = go (stands s at)
  where
    go : {x : Read} → Stands s at x → x ≡ Ok None → (at ≡ length s) × (0 < length s)
    go (found w l f) e = absurd cc
    go (end w l f) e = (l, f)
    go no_record e = absurd cc
    go (no_seed a l) e = absurd cc

first : {x y : Read} {l m : List Read} → x ∷ l ≡ y ∷ m → x ≡ y
first e = cc

others : {x y : Read} {l m : List Read} → x ∷ l ≡ y ∷ m → l ≡ m
others e = cc

module _ (s : List ℕ) (small : (i : ℕ) → get_or s i 0 < 256) where
  pub run_there : (rs : List Record) (at : ℕ) → answers (suc (length rs)) s at ≡ found_all at rs → (drop at s ≡ tape_of rs) × Takes (length s) at rs
  run_there [] at e = (ap (λ (n : ℕ). drop n s) (end_place s at (first e)).0 ∙ drop-length s, tt)
  run_there (r ∷ rs) at e =
      let k = is_there s small at r (at + 16) (first e) in
      let next = run_there rs (at + 16) (rw (next_is s at r (at + 16) (first e)) at (others e)) in (
        sym (take-append-drop 16 (drop at s)) ∙ rw (k.bytes, drop-drop 16 at s, next.0),
        (k.taken, k.value_fits, next.1),
      )

  -- Where a reader answers records and then the end, those records written into a buffer of the tape's length are the tape.
  pub run_written : (rs : List Record) → answers (suc (length rs)) s 0 ≡ found_all 0 rs → (t : List ℕ) → length t ≡ length s → Takes (length t) 0 rs
      × (write_run t 0 rs ≡ s)
  run_written rs e t l =
      let k = run_there rs 0 e in
      let takes : Takes (length t) 0 rs = rw l k.1 in
      let n : length t ≤ 16 * length rs = omega (arith, tape_long rs, ap (λ (x : List ℕ). length x) k.0) in (
        takes,
        run_spilled rs t 0 takes ∙ ap (λ (l : List ℕ). tape_of rs ++ l) (drop_of_length-le t {i = 0 + 16 * length rs} (omega arith)) ∙ append-nil (tape_of rs)
            ∙ sym k.0,
      )
