-- Laws of the answers: which exit of `feed` and of `salvage` is which case of the definition. Assumes nothing.
use Prim.Native.Nat.{ℕ, zero, ◌+◌, ◌*◌, ◌/◌, ◌≤◌, ◌<◌}
use native.Mathlib.Omega.{arith}
use mathlib.Core.Path.{◌≡◌, refl, sym, ap, ◌∙◌}
use mathlib.Core.Bool.{Bool, true, false, ◌&&◌, ◌||◌}
use mathlib.Core.List.{List, [], ◌++◌}
use borrow.Author.Tests.{le-leb, lt-leb}
use lib.Dec.{eqb, leb}
use lib.ListN.{length, length-append}
use lib.Seq.{sets}
use Rattle.std.specs.Prelude.{Ok, Err}
use Rattle.rules.specs.declared.Refusal.TheVariants.{Room}
use Rattle.salvage_marks.specs.declared.Torn.{Torn}
use Rattle.salvage_marks.specs.declared.Salvaged.{Salvaged}
use Rattle.salvage_marks.specs.Torn.{pick, closed, kept, dropped, found, cells, fits, salvaged_of, SalvagedTo}
use Rattle.salvage_marks.specs.Pieces.{ended, last_place, opened, written, listed, after, fed_fits, fed_of, FedTo}
use Rattle.salvage_marks.proofs.Marks.{and_false, cells_join, cells_long}
use Rattle.salvage_marks.proofs.Whole.{kept_long}
use Rattle.salvage_marks.proofs.Ahead.{ahead_few, pick_few, few_cells}
use Rattle.salvage_marks.proofs.Chained.{one_kept, one_dropped}
use Rattle.salvaging.specs.declared.Passed.{Passed}
use Rattle.salvaging.specs.Walk.{marked_at, passed_of}
use Rattle.salvaging.specs.Lent.{sets_join}
use Rattle.salvaging.proofs.Starts.{Starts}

-- no more bytes are decided than were seen
pub done_few : (place begin : ℕ) (buf : List ℕ) → (passed_of place begin buf).done ≤ length buf
unfolding passed_of
done_few place begin buf = ahead_few (eqb place 0) zero buf (omega arith)

-- no more than a number for 8 bytes is listed
pub cells_few : (place begin : ℕ) (buf : List ℕ) → 8 * (passed_of place begin buf).cells ≤ length buf
unfolding passed_of
cells_few place begin buf =
    omega (arith, pick_few (marked_at place buf) buf, few_cells (eqb place 0) zero buf (omega arith) begin place (λ z. absurd (omega arith)))

-- ---- a piece

module _ (t : Torn) (buf : List ℕ) (n m : ℕ) where
  pub past : last_place < t.place + length buf → fed_fits t buf n m ≡ false
  unfolding fed_fits
  past o = rw (lt-leb (t.place + length buf) last_place o)

  pub fits_so : (b : Bool) (begin : ℕ) → begin ≡ opened t → t.place + length buf ≤ last_place
      → b ≡ (leb (passed_of t.place begin buf).kept n && leb (passed_of t.place begin buf).cells m) → fed_fits t buf n m ≡ b
  unfolding fed_fits written listed passed_of
  fits_so b begin e o h = rw (le-leb (t.place + length buf) last_place o) (sym (rw e at h))

pub no_feed : (t : Torn) (buf out list : List ℕ) → fed_fits t buf (length out) (length list) ≡ false → FedTo t buf out list (Err Room) out list
unfolding fed_of
no_feed t buf out list f = rw f (refl, refl, refl)

pub fed_so : (t : Torn) (buf out list : List ℕ) {out' list' : List ℕ} (begin size : ℕ) (p : Passed) → fed_fits t buf (length out) (length list) ≡ true
    → begin ≡ opened t → Starts t.place begin size buf → p ≡ passed_of t.place begin buf
    → out' ≡ sets out 0 (pick (marked_at t.place buf) buf) → list' ≡ sets list 0 (cells (ended begin t.place (marked_at t.place buf)))
    → FedTo t buf out list (Ok (record {
      torn = record { place = t.place + p.done; from = p.from; headed = t.headed || eqb size 16 };
      done = p.done;
      kept = p.kept;
      cells = p.cells;
    })) out' list'
unfolding fed_of after written listed passed_of
fed_so t buf out list begin size p f e s ep eo el = rw (f, ep, eo, el, s.header, e) (refl, refl, refl)

-- ---- a whole tape

abbrev pub all_of : List ℕ → Passed
all_of s = passed_of 0 0 s

abbrev pub last_of : List ℕ → List ℕ
last_of s = cells (closed (all_of s).from (length s) [])

pub whole_kept : (s : List ℕ) → kept s ≡ pick (marked_at 0 s) s
unfolding written
whole_kept s = one_kept s

pub whole_cells : (s : List ℕ) → cells (dropped s) ≡ cells (ended 0 0 (marked_at 0 s)) ++ last_of s
unfolding listed after passed_of
whole_cells s = ap cells (one_dropped s) ∙ cells_join (ended 0 0 (marked_at 0 s)) _

pub kept_count : (s : List ℕ) → length (kept s) ≡ (all_of s).kept
unfolding passed_of
kept_count s = ap (λ (x : List ℕ). length x) (whole_kept s)

pub cells_count : (s : List ℕ) → length (cells (dropped s)) ≡ (all_of s).cells + length (last_of s)
unfolding passed_of
cells_count s = ap (λ (x : List ℕ). length x) (whole_cells s) ∙ length-append (cells (ended 0 0 (marked_at 0 s))) (last_of s)

module _ (s : List ℕ) (n m : ℕ) where
  pub no_bytes : n < (all_of s).kept → fits s n m ≡ false
  unfolding fits
  no_bytes o = rw (lt-leb (length (kept s)) n (omega (arith, kept_count s)))

  pub no_numbers : m < (all_of s).cells + length (last_of s) → fits s n m ≡ false
  unfolding fits
  no_numbers o = rw (lt-leb (length (cells (dropped s))) m (omega (arith, cells_count s)), and_false (leb (length (kept s)) n))

  pub all_fits : (all_of s).kept ≤ n → (all_of s).cells + length (last_of s) ≤ m → fits s n m ≡ true
  unfolding fits
  all_fits a b = rw (le-leb (length (kept s)) n (omega (arith, kept_count s)), le-leb (length (cells (dropped s))) m (omega (arith, cells_count s)))

pub no_salvage : (s out list : List ℕ) → fits s (length out) (length list) ≡ false → SalvagedTo s out list (Err Room) out list
unfolding salvaged_of
no_salvage s out list f = rw f (refl, refl, refl)

same : {a b a' b' : ℕ} {h h' : Bool} → a ≡ a' → b ≡ b' → h ≡ h'
    → ◌≡◌ {A = Salvaged} (record { records = a; stretches = b; headed = h }) (record { records = a'; stretches = b'; headed = h' })
same p q r = cc

ended_count : (s : List ℕ) → length (cells (ended 0 0 (marked_at 0 s))) ≡ (all_of s).cells
unfolding passed_of
ended_count s = refl

list_joined : (s list : List ℕ) → sets (sets list 0 (cells (ended 0 0 (marked_at 0 s)))) (all_of s).cells (last_of s) ≡ sets list 0 (cells (dropped s))
list_joined s list =
    let e : List ℕ = cells (ended 0 0 (marked_at 0 s)) in
    let z : 0 + length e ≡ (all_of s).cells = omega (arith, ended_count s) in
    ap (λ (k : ℕ). sets (sets list 0 e) k (last_of s)) (sym z) ∙ sym (sets_join list 0 e (last_of s)) ∙ ap (sets list 0) (sym (whole_cells s))

pub salvaged_so : (s out list : List ℕ) {out' list' list'' : List ℕ} (size j : ℕ) (p : Passed) → fits s (length out) (length list) ≡ true → Starts 0 0 size s
    → p ≡ all_of s → out' ≡ sets out 0 (pick (marked_at 0 s) s) → list' ≡ sets list 0 (cells (ended 0 0 (marked_at 0 s)))
    → list'' ≡ sets list' p.cells (cells (closed p.from (length s) [])) → j ≡ p.cells + length (cells (closed p.from (length s) []))
    → SalvagedTo s out list (Ok (record { records = p.kept / 16; stretches = j / 2; headed = eqb size 16 })) out' list''
unfolding salvaged_of
salvaged_so s out list size j p f st ep eo el ell ej =
    let k : p.kept ≡ 16 * length (found s) = ap (λ (x : Passed). x.kept) ep ∙ sym (kept_count s) ∙ kept_long s in
    let c : j ≡ 2 * length (dropped s) = ej ∙ rw ep (sym (cells_count s) ∙ cells_long (dropped s)) in
    rw f (ap Ok (same (omega arith) (omega arith) st.header), eo ∙ ap (sets out 0) (sym (whole_kept s)), ell ∙ rw (ep, el) (list_joined s list))
