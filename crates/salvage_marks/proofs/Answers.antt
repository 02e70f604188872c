-- What an answer says of the buffers. Refused: they are as they were. Else what is kept stands at the front of the one and the list at the front of the other,
-- and all behind is as it was. And when each answer is. By the test of room, case by case. Assumes nothing.
use Prim.Native.Nat.{ℕ, zero, ◌+◌, ◌*◌, ◌≤◌, ◌<◌}
use native.Mathlib.Omega.{arith}
use mathlib.Core.Path.{◌≡◌, refl}
use mathlib.Core.Bool.{Bool, true, false, cond, ◌&&◌}
use mathlib.Core.List.{List}
use borrow.Author.Tests.{leb-true, leb-false}
use lib.Dec.{leb, eqb}
use lib.ListN.{length, drop}
use lib.Seq.{sets}
use Rattle.std.specs.Prelude.{Result, Ok, Err}
use Rattle.rules.specs.declared.Refusal.{Refusal}
use Rattle.rules.specs.declared.Refusal.TheVariants.{Room}
use Rattle.salvage_marks.specs.declared.Salvaged.{Salvaged}
use Rattle.salvage_marks.specs.declared.Torn.{Torn}
use Rattle.salvage_marks.specs.declared.Fed.{Fed}
use Rattle.salvage_marks.specs.Torn.{kept, dropped, found, headed, cells, fits, salvaged_of, SalvagedTo}
use Rattle.salvage_marks.specs.Pieces.{last_place, decided, written, listed, after, fed_fits, fed_of, FedTo}
use Rattle.salvage_marks.specs.Words.{Front, Answered, PieceAnswered}
use Rattle.salvage_marks.specs.Words.Answered.{whole, no_bytes, no_numbers}
use Rattle.salvage_marks.specs.Words.PieceAnswered.{whole as piece-whole, too_far, no_bytes as no-piece-bytes, no_numbers as no-piece-numbers}
use Rattle.salvage_marks.proofs.Marks.{both_true, cells_long, fronted}
use Rattle.salvage_marks.proofs.Whole.{kept_long}
use Rattle.salvage_marks.proofs.Ahead.{rest_short, ahead_few}
use Rattle.salvage_marks.proofs.Chained.{took}

-- ---- a whole tape

abbrev all_of : List ℕ → Salvaged
all_of s = record { records = length (found s); stretches = length (dropped s); headed = headed s }

pub room_exactly : (s : List ℕ) (n m : ℕ) → Answered s n m (salvaged_of s n m)
unfolding salvaged_of fits
room_exactly s n m = go (leb (length (kept s)) n) refl (leb (length (cells (dropped s))) m) refl
  where
    go : (x : Bool) → leb (length (kept s)) n ≡ x → (y : Bool) → leb (length (cells (dropped s))) m ≡ y
        → Answered s n m (cond {A = Result Salvaged Refusal} (x && y) (Ok (all_of s)) (Err Room))
    go true e true d =
        let a : length (kept s) ≤ n = leb-true (length (kept s)) n e in
        let b : length (cells (dropped s)) ≤ m = leb-true (length (cells (dropped s))) m d in
        whole (omega (arith, kept_long s)) (omega (arith, cells_long (dropped s)))
    go true e false d =
        let b : m < length (cells (dropped s)) = leb-false (length (cells (dropped s))) m d in
        no_numbers (omega (arith, cells_long (dropped s)))
    go false e y d = let a : n < length (kept s) = leb-false (length (kept s)) n e in no_bytes (omega (arith, kept_long s))

fits_both : (s : List ℕ) (n m : ℕ) → fits s n m ≡ true → (length (kept s) ≤ n) × (length (cells (dropped s)) ≤ m)
unfolding fits
fits_both s n m e =
    let a = both_true {x = leb (length (kept s)) n} e in
    (leb-true (length (kept s)) n a.0, leb-true (length (cells (dropped s))) m a.1)

-- the contract, by the test
abbrev SalvagedIf : Bool → List ℕ → List ℕ → List ℕ → Result Salvaged Refusal → List ℕ → List ℕ → Type 0
SalvagedIf b s out list r out' list' =
    (r ≡ cond {A = Result Salvaged Refusal} b (Ok (all_of s)) (Err Room)) × (out' ≡ cond {A = List ℕ} b (sets out 0 (kept s)) out)
    × (list' ≡ cond {A = List ℕ} b (sets list 0 (cells (dropped s))) list)

module _ (s out list out' list' : List ℕ) where
  pub salvage_refused : (e : Refusal) → SalvagedTo s out list (Err e) out' list' → (out' ≡ out) × (list' ≡ list)
  unfolding salvaged_of
  salvage_refused e f = go (fits s (length out) (length list)) f
    where
      go : (b : Bool) → SalvagedIf b s out list (Err e) out' list' → (out' ≡ out) × (list' ≡ list)
      go true (x, y, v) = cc
      go false (x, y, v) = (y, v)

  pub salvage_written : (r : Salvaged) → SalvagedTo s out list (Ok r) out' list'
      → Front (16 * r.records) (kept s) out out' × Front (2 * r.stretches) (cells (dropped s)) list list'
  unfolding salvaged_of
  salvage_written r f = go (fits s (length out) (length list)) refl f
    where
      go : (b : Bool) → fits s (length out) (length list) ≡ b → SalvagedIf b s out list (Ok r) out' list'
          → Front (16 * r.records) (kept s) out out' × Front (2 * r.stretches) (cells (dropped s)) list list'
      go true e (x, y, v) =
          let o = fits_both s (length out) (length list) e in
          let q : r ≡ all_of s = cc in
          rw (q, y, v, ← kept_long s, ← cells_long (dropped s)) (fronted (kept s) out o.0, fronted (cells (dropped s)) list o.1)
      go false e (x, y, v) = cc

-- ---- a piece

pub piece_room : (t : Torn) (buf : List ℕ) (n m : ℕ) → PieceAnswered t buf n m (fed_of t buf n m)
unfolding fed_of fed_fits
piece_room t buf n m =
    rw (cells_long (listed t buf))
    (go (leb (t.place + length buf) last_place) refl (leb (length (written t buf)) n) refl (leb (2 * length (listed t buf)) m) refl)
  where
    go : (x : Bool) → leb (t.place + length buf) last_place ≡ x → (y : Bool) → leb (length (written t buf)) n ≡ y
        → (z : Bool) → leb (2 * length (listed t buf)) m ≡ z
        → PieceAnswered t buf n m (cond {A = Result Fed Refusal} (x && y && z) (Ok (record {
          torn = after t buf;
          done = length (decided t buf);
          kept = length (written t buf);
          cells = 2 * length (listed t buf);
        })) (Err Room))
    go true e true d true g = piece-whole (leb-true _ _ e) (leb-true _ _ d) (leb-true _ _ g)
    go true e true d false g = no-piece-numbers (leb-false _ _ g)
    go true e false d z g = no-piece-bytes (leb-false _ _ d)
    go false e y d z g = too_far (leb-false _ _ e)

module _ (t : Torn) (buf out list out' list' : List ℕ) where
  pub piece_refused : (e : Refusal) → FedTo t buf out list (Err e) out' list' → (out' ≡ out) × (list' ≡ list)
  unfolding fed_of
  piece_refused e f = go (fed_fits t buf (length out) (length list)) f
    where
      go : (b : Bool) → (Err e ≡ cond {A = Result Fed Refusal} b (Ok (record {
        torn = after t buf;
        done = length (decided t buf);
        kept = length (written t buf);
        cells = length (cells (listed t buf));
      })) (Err Room)) × (out' ≡ cond {A = List ℕ} b (sets out 0 (written t buf)) out) × (list' ≡ cond {A = List ℕ} b (sets list 0 (cells (listed t buf))) list)
          → (out' ≡ out) × (list' ≡ list)
      go true (x, y, v) = cc
      go false (x, y, v) = (y, v)

  pub piece_written : (r : Fed) → FedTo t buf out list (Ok r) out' list'
      → Front r.kept (written t buf) out out' × Front r.cells (cells (listed t buf)) list list'
  piece_written r f = let k = took t buf out list out' list' r f in (k.bytes, k.numbers)

  pub piece_held : (r : Fed) → FedTo t buf out list (Ok r) out' list' → (r.done ≤ length buf) × (length (drop r.done buf) ≤ 15)
  piece_held r f =
      let k = took t buf out list out' list' r f in
      rw k.done (ahead_few (eqb t.place 0) zero buf (omega arith), rest_short (eqb t.place 0) zero buf)
