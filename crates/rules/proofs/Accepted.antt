-- What an accepted command has shown: none of the checks held, and so its row of the op table is allowed; and which ops release.
-- The one place where the theorems go through the kinds one by one; all others go by the row. Assumes nothing.
use Prim.Native.Nat.{ℕ, suc, ◌+◌, ◌≤◌, ◌<◌, ◌^◌}
use native.Mathlib.Omega.{arith}
use mathlib.Core.Path.{◌≡◌, refl, sym, ap, ◌∙◌, subst}
use mathlib.Core.Logic.{◌≢◌}
use mathlib.Core.Bool.{Bool, true, false, cond, not, ◌&&◌, ◌||◌, true≢false}
use mathlib.Core.List.{List, [], ◌∷◌}
use lib.Dec.{eqb, leb, ltb}
use lib.ListN.{get_or, get_or-eq_default}
use borrow.Author.Tests.{eqb-true, eq-eqb, eqb-false, ltb-true, ltb-false, leb-true, leb-false, le-ltb, ne_eqb, not-false, not-true}
use Rattle.rules.specs.Line.{at, within, all_below, front, empty, at_tail, count}
use Rattle.rules.specs.Machine.{Machine, Command, last_opened, empty_handed, holders, active, runner}
use Rattle.rules.specs.declared.Kind.{Kind}
use Rattle.rules.specs.declared.Kind.TheVariants.{NoKind, Creating, Declaring, Starting, Delaying, Waking, Advancing, Opening, Entering, Ending}
use Rattle.rules.specs.declared.End.{End}
use Rattle.rules.specs.Kinds.{kinds, last_op, kind_at, kind}
use Rattle.rules.specs.Table.{Out, same, take, yield, sleep, await, Rel, none, due, serve, Effect, nothing, creates, declares, begins, moves, opens}
use Rattle.rules.specs.Table.{closing, effect_of, effect, freed, enter, release}
use Rattle.rules.specs.Refusals.{checks_of, checks, first_number, refusal, holds_so}
use Rattle.rules.proofs.Words.{All, Among, closing_ops, releasing_ops}
use Rattle.rules.proofs.Lists.{all_map, all_few, count_place}
use Rattle.rules.proofs.Tests.{both_true, tests_is, tests_all_below}
use Rattle.rules.proofs.Hands.{act_held}
use Rattle.rules.proofs.Sounds.{Sound, Admits, object_known, object_real}
use Rattle.rules.proofs.Kept.{AllowedOut, MayLeave}
use Rattle.rules.proofs.SetUp.{MayCreate, MayDeclare}

-- the check with number n, false where there is none
abbrev numbered : ℕ → List (Bool × ℕ) → Bool
numbered n [] = false
numbered n (x ∷ l) = cond (eqb n x.1) x.0 (numbered n l)

passed : (l : List (Bool × ℕ)) → All (λ x. x.1 ≢ 0) l → first_number l ≡ 0 → (n : ℕ) → numbered n l ≡ false
passed [] k e n = refl
passed (x ∷ l) k e n = go x.0 (passed l k.1) e
  where
    go : (b : Bool) → (first_number l ≡ 0 → (n : ℕ) → numbered n l ≡ false) → cond b x.1 (first_number l) ≡ 0 → cond (eqb n x.1) b (numbered n l) ≡ false
    go true ih e = absurd (k.0 e)
    go false ih e = rw (ih e n) (elim (eqb n x.1) as (λ q. cond q false false ≡ false) [ true ↦ refl | false ↦ refl ])

-- Of an accepted command the check numbered n did not hold.
numbers : (k : Kind) (m : Machine) (c : Command) → All (λ x. x.1 ≢ 0) (checks_of k m c)
numbers NoKind m c = omega arith
numbers Creating m c = omega arith
numbers Declaring m c = omega arith
numbers Starting m c = omega arith
numbers Delaying m c = omega arith
numbers Waking m c = omega arith
numbers Advancing m c = omega arith
numbers Opening m c = omega arith
numbers Entering m c = omega arith
numbers (Ending e) m c = omega arith

pub check_passed : (m : Machine) (c : Command) (k : Kind) → kind c ≡ k → refusal m c ≡ 0 → (n : ℕ) → numbered n (checks_of k m c) ≡ false
unfolding refusal
check_passed m c k e ok n = subst (λ (j : Kind). numbered n (checks_of j m c) ≡ false) e (passed (checks m c) (numbers (kind c) m c) ok n)

-- A row that is allowed.
pub record MayMove (m : Machine) (out : Out) (rel : Rel) (n : ℕ) : Type 0 where
  pub on : m.started ≡ true
  pub leaves : AllowedOut (release rel m) out
  -- whoever is released does not come between the runner and its way out
  pub in_front : (out ≡ same → ⊥) → runner (release rel m) ≡ runner m
  pub in_time : m.clock + n < 2 ^ 64

abbrev pub Allowed : Machine → Effect → Type 0
Allowed m nothing = Unit {0}
Allowed m (creates t p) = MayCreate m t p
Allowed m (declares o p) = MayDeclare m o p
Allowed m begins = m.started ≢ true
Allowed m (moves out rel n) = MayMove m out rel n

within_true : (lo hi n : ℕ) → within lo hi n ≡ true → (lo ≤ n) × (n ≤ hi)
within_true lo hi n e = let w = both_true (leb lo n) (leb n hi) e in (leb-true lo n w.0, leb-true n hi w.1)

-- the runner stays in front of whoever is placed at most at its active priority
front_enter : (m : Machine) (us l : List ℕ) → 1 ≤ count 0 l → All (λ u. at m.base u ≤ active m (front 0 l)) us → front 0 (enter m us l) ≡ front 0 l
front_enter m [] l k h = refl
front_enter m (u ∷ us) [] k h = absurd (omega arith)
front_enter m (u ∷ us) (x ∷ l) k h =
    rw (le-ltb (active m x) (at m.base u) h.0)
    (front_enter m us (x ∷ at_tail (active m) (at m.base u) u l) (omega (arith, count_place 0 (λ y. ltb (active m y) (at m.base u)) u l)) h.1)

module _ (m : Machine) (s : Sound m) where
  pub runner_stays : (o k : ℕ) → last_opened m (runner m) ≡ o → at m.ceiling o ≢ 0 → runner (release (serve o k) m) ≡ runner m
  unfolding release
  runner_stays o k e n =
      front_enter m (freed (serve o k) m) m.ready s.idle_ready.idle_there
      (all_few (λ u. at m.base u ≤ active m (runner m)) k (get_or m.queue o [])
      (all_map (λ u w. omega (arith, w.1, top)) (get_or m.queue o []) (s.all_admitted.waiter_admitted o (object_known m s o n)))).0
    where
      top : active m (runner m) ≡ at m.ceiling o
      top = act_held m (runner m) (λ z. object_real m s o n (sym e ∙ z)) ∙ ap (at m.ceiling) e

  still : m.clock + 0 < 2 ^ 64
  still = omega (arith, s.in_time.clock_fits)

  -- What the checks of ops 4 and 7..15 leave, as far as they are alike.
  off_start : m.started ≡ false → m.started ≢ true
  off_start h e = true≢false (sym e ∙ h)

  is_declared : (o : ℕ) → not (not (eqb (at m.ceiling o) 0)) ≡ false → at m.ceiling o ≢ 0
  is_declared o h = eqb-false _ _ (not-true _ (not-false _ h))

  leaves : eqb (runner m) 0 ≡ false → not (empty_handed m (runner m)) ≡ false → MayLeave m
  leaves h k = record { busy = eqb-false _ _ h; bare = eqb-true _ _ (not-false _ k) }

  none_waits : (b : ℕ) (q : List ℕ) → eqb b 1 ≡ false → leb b 1 ≡ true → eqb b 0 && not (empty q) ≡ false → q ≡ []
  none_waits b q n l e =
      let z : b ≡ 0 = (let x : b ≢ 1 = eqb-false _ _ n in let y : b ≤ 1 = leb-true _ _ l in omega arith) in
      go q (rw (eq-eqb b 0 z) at e)
    where
      go : (q : List ℕ) → not (empty q) ≡ false → q ≡ []
      go [] e = refl
      go (x ∷ q) e = absurd (true≢false e)

  closes_front : (o : ℕ) → not (not (eqb (at m.ceiling o) 0)) ≡ false → (w : ℕ) → not (holds_so m o w) ≡ false → (b : Bool)
      → runner (release (cond b (serve o 1) none) m) ≡ runner m
  unfolding release
  closes_front o h w q true = runner_stays o 1 (eqb-true _ _ (both_true _ _ (not-false _ q)).0) (is_declared o h)
  closes_front o h w q false = refl

  -- The end of a body: the runner holds the object, in whatever way, and stays in front of whoever is served.
  closes : (c : Command) (e : End) → m.started ≡ true → not (not (eqb (at m.ceiling c.a) 0)) ≡ false → runner m ≢ 0
      → not (holds_so m c.a e.way) ≡ false
      → Allowed m (closing e.serves c)
  closes c e on there busy so =
      let k = closes_front c.a there e.way so (e.serves && opens c) in
      record { on = on; leaves = λ z. busy (sym k ∙ z); in_front = λ n. k; in_time = still }

  enters : (o b : ℕ) → MayLeave m → Admits m o (runner m) → holders m o ≡ 0 → leb b 1 ≡ true → eqb b 0 && not (empty (get_or m.queue o [])) ≡ false
      → (x : Bool) → eqb b 1 ≡ x
      → AllowedOut m (cond x (take o 2) (await o))
  enters o b g a u l e true q = record { leaves = g; admits = a; unheld = u; in_one_way = (omega arith, omega arith) }
  enters o b g a u l e false q = record { leaves = g; admits = a; alone = none_waits b (get_or m.queue o []) q l e }

  delays : (v : ℕ) → MayLeave m → ltb v (2 ^ 64) ≡ true → (x : Bool) → ltb m.clock v ≡ x → AllowedOut m (cond x (sleep v) yield)
  delays v g f true q = record { leaves = g; ahead = ltb-true _ _ q; fits = ltb-true _ _ f }
  delays v g f false q = g

  -- what takes an object, or asks for it
  admitted : (o : ℕ) → not (not (eqb (at m.ceiling o) 0)) ≡ false → ltb (at m.ceiling o) (at m.base (runner m)) ≡ false → Admits m o (runner m)
  admitted o there top = (is_declared o there, ltb-false _ _ top)

  unheld : (o : ℕ) → leb 1 (holders m o) ≡ false → holders m o ≡ 0
  unheld o free = let z : holders m o < 1 = leb-false _ _ free in omega arith

  -- Kind by kind.
  by_kind : (c : Command) (k : Kind) → ((n : ℕ) → numbered n (checks_of k m c) ≡ false) → Allowed m (effect_of k m c)
  unfolding release
  by_kind c NoKind p = tt
  by_kind c Creating p =
      let f = (both_true (within 1 31 c.a && within 1 15 c.b) (eqb c.value 0) (not-false _ (p 4))).0 in
      let g = both_true (within 1 31 c.a) (within 1 15 c.b) f in
      let t = within_true 1 31 c.a g.0 in
      record { off = off_start (p 3); new = p 5; task = (t.0, omega (arith, t.1)); rank = within_true 1 15 c.b g.1 }
  by_kind c Declaring p =
      let f = (both_true (within 1 7 c.a && within 1 15 c.b) (eqb c.value 0) (not-false _ (p 4))).0 in
      let g = both_true (within 1 7 c.a) (within 1 15 c.b) f in
      let t = within_true 1 7 c.a g.0 in
      record { off = off_start (p 3); object = (t.0, omega (arith, t.1)); rank = within_true 1 15 c.b g.1 }
  by_kind c Starting p = off_start (p 3)
  by_kind c Delaying p =
      let f = (both_true (eqb c.a 0 && eqb c.b 0) (ltb c.value (2 ^ 64)) (not-false _ (p 4))).1 in
      record {
        on = not-false _ (p 2);
        leaves = delays c.value (leaves (p 7) (p 8)) f (ltb m.clock c.value) refl;
        in_front = λ n. refl;
        in_time = still;
      }
  by_kind c Waking p = record { on = not-false _ (p 2); leaves = tt; in_front = λ n. absurd (n refl); in_time = still }
  by_kind c Advancing p = record { on = not-false _ (p 2); leaves = tt; in_front = λ n. absurd (n refl); in_time = ltb-true _ _ (not-false _ (p 13)) }
  by_kind c Opening p = record {
    on = not-false _ (p 2);
    leaves =
        record {
          leaves = leaves (p 7) (p 8);
          admits = admitted c.a (p 6) (p 10);
          unheld = unheld c.a (p 11);
          in_one_way = (omega arith, omega arith);
        };
    in_front = λ n. refl;
    in_time = still;
  }
  by_kind c Entering p =
      let f = (both_true (within 1 7 c.a) (leb c.b 1) (both_true (within 1 7 c.a && leb c.b 1) (eqb c.value 0) (not-false _ (p 4))).0).1 in
      record {
        on = not-false _ (p 2);
        leaves = enters c.a c.b (leaves (p 7) (p 8)) (admitted c.a (p 6) (p 10)) (unheld c.a (p 11)) f (p 12) (eqb c.b 1) refl;
        in_front = λ n. refl;
        in_time = still;
      }
  by_kind c (Ending e) p = closes c e (not-false _ (p 2)) (p 6) (eqb-false _ _ (p 7)) (p 9)

  pub allowed : (c : Command) → refusal m c ≡ 0 → Allowed m (effect m c)
  allowed c ok = by_kind c (kind c) (check_passed m c (kind c) refl ok)

-- Which kinds may release: a Wake, and the end of a body with a barrier, which takes nobody from the delay line. No other kind does.
abbrev pub rel_of : Effect → Rel
rel_of nothing = none
rel_of (creates t p) = none
rel_of (declares o p) = none
rel_of begins = none
rel_of (moves out rel n) = rel

pub not_due : {A : Type 0} (b : Bool) (o : ℕ) → cond b (serve o 1) none ≡ due → A
not_due true o e = let z : ◌≡◌ {A = ℕ} 0 1 = cc in absurd (omega arith)
not_due false o e = let z : ◌≡◌ {A = ℕ} 0 1 = cc in absurd (omega arith)

-- which of the two it may be: 1 by a Wake, 2 by the end of a body with a barrier, 0 neither
abbrev pub releasing : Kind → ℕ
releasing NoKind = 0
releasing Creating = 0
releasing Declaring = 0
releasing Starting = 0
releasing Delaying = 0
releasing Waking = 1
releasing Advancing = 0
releasing Opening = 0
releasing Entering = 0
releasing (Ending e) = cond e.serves 2 0

pub data Releases (k : Kind) (rel : Rel) : Type 0 where
  nobody : rel ≡ none → Releases k rel
  woken : releasing k ≡ 1 → Releases k rel
  served : releasing k ≡ 2 → (rel ≡ due → ⊥) → Releases k rel

pub releases : (m : Machine) (c : Command) (k : Kind) → Releases k (rel_of (effect_of k m c))
releases m c NoKind = nobody refl
releases m c Creating = nobody refl
releases m c Declaring = nobody refl
releases m c Starting = nobody refl
releases m c Delaying = nobody refl
releases m c Waking = woken refl
releases m c Advancing = nobody refl
releases m c Opening = nobody refl
releases m c Entering = nobody refl
releases m c (Ending e) = go e.serves refl
  where
    go : (b : Bool) → e.serves ≡ b → Releases (Ending e) (cond (e.serves && opens c) (serve c.a 1) none)
    go true s = served (rw s) (not_due (e.serves && opens c) c.a)
    go false s = nobody (rw s)

-- A rule over all ops holds where it holds of those of the table, and of what is no op.
pub each_op : (f : ℕ → Kind → Bool) → all_below (suc last_op) (λ n. f n (kind_at n)) ≡ true → ((n : ℕ) → f n NoKind ≡ true) → (op : ℕ) → f op (kind_at op) ≡ true
each_op f known other op = go (ltb op (suc last_op)) refl
  where
    go : (b : Bool) → ltb op (suc last_op) ≡ b → f op (kind_at op) ≡ true
    go true e = (tests_all_below (λ n. tests_is (f n (kind_at n))) (suc last_op)).sure known op (ltb-true _ _ e)
    go false e = rw (get_or-eq_default kinds NoKind {n = op} (ltb-false _ _ e)) (other op)

-- Which ops may release, and which of them is a Wake.
pub wake_op : (op : ℕ) → releasing (kind_at op) ≡ 1 → op ≡ 5
unfolding all_below
wake_op op e = eqb-true _ _ (rw (eq-eqb _ 1 e) at (each_op (λ n k. not (eqb (releasing k) 1) || eqb n 5) refl (λ n. refl) op))

pub release_op : (op : ℕ) → releasing (kind_at op) ≢ 0 → Among releasing_ops op
unfolding all_below
release_op op e = leb-true _ _ (rw (ne_eqb _ 0 e) at (each_op (λ n k. eqb (releasing k) 0 || leb 1 (count n releasing_ops)) refl (λ n. refl) op))

-- Which ops end a body.
abbrev ends_body : Kind → Bool
ends_body NoKind = false
ends_body Creating = false
ends_body Declaring = false
ends_body Starting = false
ends_body Delaying = false
ends_body Waking = false
ends_body Advancing = false
ends_body Opening = false
ends_body Entering = false
ends_body (Ending e) = true

pub end_op : (op : ℕ) (e : End) → kind_at op ≡ Ending e → Among closing_ops op
unfolding all_below
end_op op e k = leb-true _ _ (rw (ap ends_body k) at (each_op (λ n j. not (ends_body j) || leb 1 (count n closing_ops)) refl (λ n. refl) op))
