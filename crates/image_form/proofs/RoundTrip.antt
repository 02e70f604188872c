-- A state written and read back is that state, and bytes read and written back are those bytes. The idea, writing: what follows each byte 16,
-- 24, 32 .. of an image is the next part and the rest. Reading: the bytes up to each of these are the parts before it. Assumes nothing.
use Prim.Native.Nat.{ℕ, zero, suc, ◌+◌, ◌*◌, ◌/◌, ◌%◌, ◌≤◌, ◌<◌, ◌^◌}
use native.Mathlib.Omega.{arith}
use native.Mathlib.Nat.{le_of_eq}
use mathlib.Core.Path.{◌≡◌, refl, sym, ap, ◌∙◌, subst}
use mathlib.Core.Bool.{Bool, true, false, ◌&&◌}
use mathlib.Core.List.{List, [], ◌∷◌, ◌++◌, append_assoc}
use lib.ListN.{length, take, drop, get_or, replicate, length-append, length-drop, take-append-drop}
use lib.Seq.{ext_get_or, length-take-le, take_all, take_at, drop_at, drop-drop, drop-cons, take-add, get_or-take, get_or-drop}
use lib.Dec.{eqb, leb}
use borrow.Author.Tests.{eq-eqb, eqb-true, eqb-false, leb-true}
use Rattle.rules.specs.Line.{one_if}
use Rattle.rules.proofs.Words.{All}
use Rattle.rules.proofs.Tests.{both_true}
use Rattle.kernel_line.specs.Tables.{zeros}
use Rattle.record.specs.Form.{le8, of_le}
use Rattle.record.proofs.Digits.{value_back, bytes_back}
use Rattle.kernel.specs.declared.Kernel.{Kernel}
use Rattle.kernel.proofs.Round.{Sizes}
use Rattle.kernel_state.specs.declared.State.{State}
use Rattle.image_form.specs.Layout.{bytes_of, numbers_of, flags, exceptions, spare, image_of, part, kernel_of, pending_of, state_of, clean, formed}
use Rattle.image_form.proofs.Parts.{part_size}
use Rattle.image_form.proofs.Numbers.{bytes_size}

-- ---- Writing, then reading

-- numbers of 64 bits
pub numbers_back : (l : List ℕ) → All (λ x. x < 2 ^ 64) l → numbers_of (length l) (bytes_of l) ≡ l
unfolding bytes_of numbers_of
numbers_back [] a = refl
numbers_back (x ∷ l) a = rw (value_back x a.0, numbers_back l a.1)

started_back : (b : Bool) → eqb (one_if b) 1 ≡ b
started_back true = refl
started_back false = refl

started_small : (b : Bool) → leb (one_if b) 1 ≡ true
started_small true = refl
started_small false = refl

-- a number of 32 bits
pending_back : (p : ℕ) → p < 2 ^ 32 → p % 256 + 256 * (p / 256 % 256) + 65536 * (p / 65536 % 256) + 16777216 * (p / 16777216 % 256) ≡ p
pending_back p h =
    let second : p / 256 ≡ p / 256 % 256 + 256 * (p / 65536) = omega arith in
    let third : p / 65536 ≡ p / 65536 % 256 + 256 * (p / 16777216) = omega arith in
    let fourth : p / 16777216 % 256 ≡ p / 16777216 = omega arith in
    sum p (p / 256) (p / 65536) (p / 16777216) (p % 256) (p / 256 % 256) (p / 65536 % 256) _ (omega arith) second third fourth
  where
    sum : (p q r s a b c d : ℕ) → p ≡ a + 256 * q → q ≡ b + 256 * r → r ≡ c + 256 * s → d ≡ s → a + 256 * b + 65536 * c + 16777216 * d ≡ p
    sum p q r s a b c d e f g h = omega arith

-- least byte first, by computing: 67305985 is 1 + 256 * 2 + 65536 * 3 + 16777216 * 4
pub least_first : exceptions 67305985 ≡ 1 ∷ 2 ∷ 3 ∷ 4 ∷ replicate 28 0
least_first = refl

regrouped : (a b c d e f g h i j k l : List ℕ)
    → a ++ b ++ c ++ d ++ e ++ f ++ g ++ h ++ i ++ j ++ k ++ l ≡ a ++ (b ++ (c ++ (d ++ (e ++ (f ++ (g ++ (h ++ (i ++ (j ++ (k ++ l))))))))))
regrouped a b c d e f g h i j k l = simp append_assoc

-- the part that stands next, and what follows it
module _ (s v t : List ℕ) (at n : ℕ) (e : drop at s ≡ v ++ t) (l : length v ≡ n) where
  here : part n at s ≡ v
  here = ap (take n) e ∙ take_at v t n l

  next : drop (at + n) s ≡ t
  next = sym (drop-drop n at s) ∙ ap (drop n) e ∙ drop_at v t n l

pub made : {a a' b b' c c' d d' e e' f f' g g' h h' : List ℕ} {n n' : ℕ} {o o' : Bool} → a ≡ a' → b ≡ b' → c ≡ c' → d ≡ d' → e ≡ e' → f ≡ f' → g ≡ g' → h ≡ h'
    → n ≡ n' → o ≡ o'
    → ◌≡◌ {A = Kernel} (record { base = a; ready = b; delayed = c; held = d; way = e; until = f; ceiling = g; waiter = h; clock = n; started = o })
    (record { base = a'; ready = b'; delayed = c'; held = d'; way = e'; until = f'; ceiling = g'; waiter = h'; clock = n'; started = o' })
made p q r s t u v w x y = cc

made_state : {k k' : Kernel} {p p' : ℕ} → k ≡ k' → p ≡ p' → ◌≡◌ {A = State} (record { kernel = k; pending = p }) (record { kernel = k'; pending = p' })
made_state e f = cc

-- of tables of their sizes, whose numbers are of 64 bits, and pending exceptions of 32 bits
module _ (st : State) (z : Sizes st.kernel) where
  abbrev k : Kernel
  k = st.kernel

  pub image_size : length (image_of st) ≡ 512
  unfolding image_of
  image_size = simp length-append (omega (arith, bytes_size k.until, z.base, z.ready, z.delayed, z.held, z.way, z.until, z.ceiling, z.waiter))

  -- the image as its parts, each with what follows it
  spelt : image_of st
      ≡ le8 k.clock ++ (flags k.started
      ++ (k.ceiling ++ (k.waiter ++ (k.base ++ (k.ready ++ (k.delayed ++ (k.held ++ (k.way
      ++ (exceptions st.pending ++ (spare ++ bytes_of k.until))))))))))
  unfolding image_of
  spelt =
      regrouped (le8 k.clock) (flags k.started) k.ceiling k.waiter k.base k.ready k.delayed k.held k.way (exceptions st.pending)
      spare (bytes_of k.until)

  pub image_back : k.clock < 2 ^ 64 → All (λ x. x < 2 ^ 64) k.until → st.pending < 2 ^ 32 → (state_of (image_of st) ≡ st) × (clean (image_of st) ≡ true)
  unfolding kernel_of pending_of clean
  image_back c u few =
      let s = image_of st in
      let to-16 = ap (drop 16) spelt in
      let to-24 = next s k.ceiling _ 16 8 to-16 z.ceiling in
      let to-32 = next s k.waiter _ 24 8 to-24 z.waiter in
      let to-64 = next s k.base _ 32 32 to-32 z.base in
      let to-96 = next s k.ready _ 64 32 to-64 z.ready in
      let to-128 = next s k.delayed _ 96 32 to-96 z.delayed in
      let to-160 = next s k.held _ 128 32 to-128 z.held in
      let to-192 = next s k.way _ 160 32 to-160 z.way in
      let to-224 = next s (exceptions st.pending) _ 192 32 to-192 refl in
      let to-256 = next s spare _ 224 32 to-224 refl in
      let times : numbers_of 32 (drop 256 s) ≡ k.until = ap (numbers_of 32) to-256
      ∙ subst (λ (n : ℕ). numbers_of n (bytes_of k.until) ≡ k.until) z.until (numbers_back k.until u) in
      let clock : of_le s 0 ≡ k.clock = ap (λ (l : List ℕ). of_le l 0) spelt ∙ value_back k.clock c in
      let flag : get_or s 8 0 ≡ one_if k.started = ap (λ (l : List ℕ). get_or l 8 0) spelt in
      let rest : part 7 9 s ≡ replicate 7 0 = ap (part 7 9) spelt in
      let cell : (i : ℕ) → get_or s (192 + i) 0 ≡ get_or (exceptions st.pending ++ (spare ++ bytes_of k.until)) i 0 =
      λ i. sym (get_or-drop 192 s i 0) ∙ ap (λ (l : List ℕ). get_or l i 0) to-192 in
      let behind : part 28 196 s ≡ replicate 28 0 = ap (take 28) (sym (drop-drop 4 192 s) ∙ ap (drop 4) to-192) in (
        made_state
            (made (here s k.base _ 32 32 to-32 z.base) (here s k.ready _ 64 32 to-64 z.ready) (here s k.delayed _ 96 32 to-96 z.delayed)
            (here s k.held _ 128 32 to-128 z.held) (here s k.way _ 160 32 to-160 z.way) times (here s k.ceiling _ 16 8 to-16 z.ceiling)
            (here s k.waiter _ 24 8 to-24 z.waiter) clock (ap (λ (x : ℕ). eqb x 1) flag ∙ started_back k.started))
            (same_four (cell 0) (cell 1) (cell 2) (cell 3) ∙ pending_back st.pending few),
        all_clean (ap (λ (x : ℕ). leb x 1) flag ∙ started_small k.started) (ap zeros rest) (ap zeros behind)
            (ap zeros (here s spare _ 224 32 to-224 refl)),
      )
    where
      all_clean : {a b d e : Bool} → a ≡ true → b ≡ true → d ≡ true → e ≡ true → a && b && d && e ≡ true
      all_clean p q r t = rw (p, q, r, t)

      same_four : {a b c d a' b' c' d' : ℕ} → a ≡ a' → b ≡ b' → c ≡ c' → d ≡ d'
          → a + 256 * b + 65536 * c + 16777216 * d ≡ a' + 256 * b' + 65536 * c' + 16777216 * d'
      same_four p q r t = cc

  -- so it is as long as an image, and clean
  pub image_formed : k.clock < 2 ^ 64 → All (λ x. x < 2 ^ 64) k.until → st.pending < 2 ^ 32 → formed (image_of st) ≡ true
  unfolding formed
  image_formed c u few = rw (eq-eqb (length (image_of st)) 512 image_size, (image_back c u few).1)

-- ---- Reading, then writing

first_eight : (s : List ℕ) → 8 ≤ length s
    → take 8 s ≡ get_or s 0 0 ∷ get_or s 1 0 ∷ get_or s 2 0 ∷ get_or s 3 0 ∷ get_or s 4 0 ∷ get_or s 5 0 ∷ get_or s 6 0 ∷ get_or s 7 0 ∷ []
first_eight s h = ext_get_or 0 (take 8 s) _ (length-take-le 8 s h) (λ i l. go i (omega (arith, length-take-le 8 s h)))
  where
    go : (i : ℕ) → i < 8 → get_or (take 8 s) i 0
        ≡ get_or (get_or s 0 0 ∷ get_or s 1 0 ∷ get_or s 2 0 ∷ get_or s 3 0 ∷ get_or s 4 0 ∷ get_or s 5 0 ∷ get_or s 6 0 ∷ get_or s 7 0 ∷ []) i 0
    go zero l = get_or-take 8 s 0 0 l
    go (suc zero) l = get_or-take 8 s 1 0 l
    go (suc (suc zero)) l = get_or-take 8 s 2 0 l
    go (suc (suc (suc zero))) l = get_or-take 8 s 3 0 l
    go (suc (suc (suc (suc zero)))) l = get_or-take 8 s 4 0 l
    go (suc (suc (suc (suc (suc zero))))) l = get_or-take 8 s 5 0 l
    go (suc (suc (suc (suc (suc (suc zero)))))) l = get_or-take 8 s 6 0 l
    go (suc (suc (suc (suc (suc (suc (suc zero))))))) l = get_or-take 8 s 7 0 l
    go (suc (suc (suc (suc (suc (suc (suc (suc i)))))))) l = absurd (omega arith)

-- a list of eight, entry by entry
pub eight_are : (s : List ℕ) → length s ≡ 8
    → get_or s 0 0 ∷ get_or s 1 0 ∷ get_or s 2 0 ∷ get_or s 3 0 ∷ get_or s 4 0 ∷ get_or s 5 0 ∷ get_or s 6 0 ∷ get_or s 7 0 ∷ [] ≡ s
eight_are s l = sym (first_eight s (omega arith)) ∙ take_all 8 s (le_of_eq l)

-- bytes
abbrev pub Bytes : List ℕ → Type 0
Bytes s = (j : ℕ) → get_or s j 0 < 256

number_back : (s : List ℕ) → 8 ≤ length s → Bytes s → le8 (of_le s 0) ≡ take 8 s
number_back s h small = bytes_back s 0 small ∙ sym (first_eight s h)

pub bytes_again : (n : ℕ) (s : List ℕ) → length s ≡ 8 * n → Bytes s → bytes_of (numbers_of n s) ≡ s
unfolding bytes_of numbers_of
bytes_again zero s l small = take_all 0 s (omega arith)
bytes_again (suc n) s l small =
    let rest = bytes_again n (drop 8 s) (omega (arith, length-drop 8 s)) (λ j. subst (λ (x : ℕ). x < 256) (sym (get_or-drop 8 s j 0)) (small (8 + j))) in
    ap (λ (t : List ℕ). le8 (of_le s 0) ++ t) rest ∙ ap (λ (t : List ℕ). t ++ drop 8 s) (number_back s (omega arith) small) ∙ take-append-drop 8 s

zeros_are : (l : List ℕ) (n : ℕ) → length l ≡ n → zeros l ≡ true → l ≡ replicate n 0
zeros_are [] zero e h = refl
zeros_are [] (suc n) e h = absurd (omega arith)
zeros_are (x ∷ l) zero e h = absurd (omega arith)
zeros_are (x ∷ l) (suc n) e h =
    let w = both_true (eqb x 0) (zeros l) h in
    rw (eqb-true x 0 w.0, zeros_are l n (omega arith) w.1)

-- one part more
joined : (s p v : List ℕ) (n m : ℕ) → take n s ≡ p → part m n s ≡ v → take (n + m) s ≡ p ++ v
joined s p v n m e f = rw (take-add n m s, e, f)

one_back : (x : ℕ) → leb x 1 ≡ true → x ≡ one_if (eqb x 1)
one_back x h = go (eqb x 1) refl
  where
    go : (b : Bool) → eqb x 1 ≡ b → x ≡ one_if b
    go true e = eqb-true x 1 e
    go false e = omega (arith, leb-true x 1 h, eqb-false x 1 e)

module _ (s : List ℕ) (l : length s ≡ 512) (small : Bytes s) (h : clean s ≡ true) where
  unused : (leb (get_or s 8 0) 1 ≡ true) × (zeros (part 7 9 s) ≡ true) × (zeros (part 28 196 s) ≡ true) × (zeros (part 32 224 s) ≡ true)
  unfolding clean
  unused =
      let w = both_true (leb (get_or s 8 0) 1 && zeros (part 7 9 s) && zeros (part 28 196 s)) (zeros (part 32 224 s)) h in
      let v = both_true (leb (get_or s 8 0) 1 && zeros (part 7 9 s)) (zeros (part 28 196 s)) w.0 in
      let u = both_true (leb (get_or s 8 0) 1) (zeros (part 7 9 s)) v.0 in
      (u.0, u.1, v.1, w.1)

  started_again : part 8 8 s ≡ flags (eqb (get_or s 8 0) 1)
  started_again =
      ap (take 8) (drop-cons s 8 0 (omega arith))
      ∙ ap (λ (t : List ℕ). get_or s 8 0 ∷ t) (zeros_are (part 7 9 s) 7 (part_size 7 9 s (omega arith)) unused.1)
      ∙ ap (λ (x : ℕ). x ∷ replicate 7 0) (one_back (get_or s 8 0) unused.0)

  -- the four bytes of a number of 32 bits
  digits : (a b c d : ℕ) → a < 256 → b < 256 → c < 256 → d < 256 → let p = a + 256 * b + 65536 * c + 16777216 * d in
      (a ≡ p % 256) × (b ≡ p / 256 % 256) × (c ≡ p / 65536 % 256) × (d ≡ p / 16777216 % 256)
  digits a b c d f g h i = (omega arith, omega arith, omega arith, omega arith)

  five : {a b c d a' b' c' d' : ℕ} {t t' : List ℕ} → a ≡ a' → b ≡ b' → c ≡ c' → d ≡ d' → t ≡ t' → ◌≡◌ {A = List ℕ} (a ∷ b ∷ c ∷ d ∷ t) (a' ∷ b' ∷ c' ∷ d' ∷ t')
  five p q r u v = cc

  pending_again : part 32 192 s ≡ exceptions (pending_of s)
  unfolding pending_of
  pending_again =
      let w = digits (get_or s 192 0) (get_or s 193 0) (get_or s 194 0) (get_or s 195 0) (small 192) (small 193) (small 194) (small 195) in
      ap (take 32) (drop-cons s 192 0 (omega arith) ∙ ap (λ (t : List ℕ). get_or s 192 0 ∷ t) (drop-cons s 193 0 (omega arith)
      ∙ ap (λ (t : List ℕ). get_or s 193 0 ∷ t) (drop-cons s 194 0 (omega arith) ∙ ap (λ (t : List ℕ). get_or s 194 0 ∷ t) (drop-cons s 195 0 (omega arith)))))
      ∙ five w.0 w.1 w.2 w.3 (zeros_are (part 28 196 s) 28 (part_size 28 196 s (omega arith)) unused.2)

  pub bytes_are : image_of (state_of s) ≡ s
  unfolding image_of kernel_of
  bytes_are =
      let spared = zeros_are (part 32 224 s) 32 (part_size 32 224 s (omega arith)) unused.3 in
      let long = length-drop 256 s in
      let times = take_all 256 (drop 256 s) (omega arith)
      ∙ sym (bytes_again 32 (drop 256 s) (omega arith) (λ j. subst (λ (x : ℕ). x < 256) (sym (get_or-drop 256 s j 0)) (small (256 + j)))) in
      let to-8 = sym (number_back s (omega arith) small) in
      let to-16 = joined s _ _ 8 8 to-8 started_again in
      let to-24 = joined s _ _ 16 8 to-16 refl in
      let to-32 = joined s _ _ 24 8 to-24 refl in
      let to-64 = joined s _ _ 32 32 to-32 refl in
      let to-96 = joined s _ _ 64 32 to-64 refl in
      let to-128 = joined s _ _ 96 32 to-96 refl in
      let to-160 = joined s _ _ 128 32 to-128 refl in
      let to-192 = joined s _ _ 160 32 to-160 refl in
      let to-224 = joined s _ _ 192 32 to-192 pending_again in
      let to-256 = joined s _ _ 224 32 to-224 spared in
      sym (joined s _ _ 256 256 to-256 times) ∙ take_all 512 s (le_of_eq l)
