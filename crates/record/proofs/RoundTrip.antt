-- A record and its 16 bytes, both ways.
--
-- A record, spelt as 16 bytes, is read from them as itself; 16 bytes with a right mark are the bytes of the fields that they hold.
-- Rules out: another byte order, a field in another place, a field that is cut or left out, a mark that is not written. Assumes nothing.
use mathlib.Core.Path.{◌≡◌, refl, sym, ap, ◌∙◌}
use mathlib.Core.List.{List, [], ◌∷◌}
use mathlib.Core.Bool.{Bool, true, false, ◌&&◌, true≢false}
use Prim.Native.Nat.{ℕ, zero, suc, ◌+◌, ◌<◌}
use native.Mathlib.Omega.{arith}
use lib.ListN.{length, drop, get_or}
use lib.Seq.{drop-cons, drop-length}
use lib.Dec.{eqb}
use borrow.Author.Tests.{eqb-true}
use Rattle.record.specs.Form.{bytes_of, record_of, marked}
use Rattle.record.specs.declared.Record.{Record}
use Rattle.record.proofs.Digits.{value_back, value_small, bytes_back}

-- a record is read from its bytes
pub fields_back : (r : Record) → r.value < 18446744073709551616 → record_of (bytes_of r) ≡ r
unfolding record_of bytes_of
fields_back r h =
    ap (λ (v : ℕ). record { op = r.op; a = r.a; b = r.b; code = r.code; running = r.running; released = r.released; value = v })
    (value_back r.value h)

-- a list, entry by entry
abbrev spell : List ℕ → ℕ → ℕ → List ℕ
spell l n zero = []
spell l n (suc k) = get_or l n 0 ∷ spell l (suc n) k

spelled : (l : List ℕ) (k n : ℕ) → n + k ≡ length l → drop n l ≡ spell l n k
spelled l zero n e = let z : length l ≡ n = omega arith in ap (λ (m : ℕ). drop m l) (sym z) ∙ drop-length l
spelled l (suc k) n e = drop-cons l n 0 (omega arith) ∙ ap (λ (m : List ℕ). get_or l n 0 ∷ m) (spelled l k (suc n) (omega arith))

both : (x y : Bool) → (x && y) ≡ true → (x ≡ true) × (y ≡ true)
both true true e = (refl, refl)
both true false e = (refl, e)
both false y e = (e, absurd (true≢false (sym e)))

headed : {a b x y : ℕ} {l m : List ℕ} → a ≡ x → b ≡ y → (c d e f g h : ℕ) → l ≡ m
    → ◌≡◌ {A = List ℕ} (a ∷ b ∷ c ∷ d ∷ e ∷ f ∷ g ∷ h ∷ l) (x ∷ y ∷ c ∷ d ∷ e ∷ f ∷ g ∷ h ∷ m)
headed p q c d e f g h r = cc

-- 16 bytes with a right mark are the bytes of the fields that they hold
pub bytes_spelt : (p : List ℕ) → length p ≡ 16 → ((i : ℕ) → get_or p i 0 < 256) → marked p ≡ true → bytes_of (record_of p) ≡ p
unfolding bytes_of record_of
bytes_spelt p n small m =
    let k = both (eqb (get_or p 0 0) 82) (eqb (get_or p 1 0) 86) m in
    headed (sym (eqb-true (get_or p 0 0) 82 k.0)) (sym (eqb-true (get_or p 1 0) 86 k.1)) _ _ _ _ _ _ (bytes_back p 8 small) ∙ sym (spelled p 16 0 (sym n))

pub sixteen_long : (r : Record) → length (bytes_of r) ≡ 16
unfolding bytes_of
sixteen_long r = refl

-- what 8 bytes hold is a 64-bit number
pub value_kept : (p : List ℕ) → ((i : ℕ) → get_or p i 0 < 256) → (record_of p).value < 18446744073709551616
unfolding record_of
value_kept p h = value_small p 8 h
