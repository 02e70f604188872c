-- The promise on releases. At its release a task t of base p stands behind at most one task of lower base, and that one holds an object
-- (by Clear: of two such, the one behind would bar the one ahead). Until t runs, nobody of lower base gets ahead of t, and the one that
-- is ahead loses its place when it closes its object: it goes to the head of its own base, behind t. Assumes nothing.
use Prim.Native.Nat.{ℕ, suc, ◌≤◌, ◌<◌}
use native.Mathlib.Omega.{arith}
use mathlib.Core.Path.{◌≡◌, refl, sym, ap, ◌∙◌, subst}
use mathlib.Core.Logic.{◌≢◌, ◌⊎◌, inl, inr, ⊎_elim}
use mathlib.Core.Bool.{Bool, true, false, cond}
use mathlib.Core.List.{List, [], ◌∷◌}
use lib.Dec.{eqb, ltb}
use borrow.Author.Tests.{ltb-false, ne_eqb, le-ltb}
use Rattle.rules.specs.Line.{at, front, behind_front, count, one_if, at_tail}
use Rattle.rules.specs.Machine.{Machine, Command, last_opened, active, runner, running}
use Rattle.rules.specs.Kinds.{kind}
use Rattle.rules.specs.Table.{Out, same, take, yield, close, sleep, await, Rel, none, due, serve}
use Rattle.rules.specs.Table.{Effect, nothing, creates, declares, begins, moves, effect, with_hand, freed, freed_by, enter, release, leave, carry}
use Rattle.rules.specs.Run.{next, released, run}
use Rattle.rules.proofs.Words.{All, Pairwise, Free, Holding, Ordered, Among, releasing_ops, moments, Clear}
use Rattle.rules.proofs.Lists.{eq_or_ne, lt_or_ge, one_self, standing}
use Rattle.rules.proofs.Before.{Before, here, there, before_map, before_all, before_front, before_good, before_bad, before_counts}
use Rattle.rules.proofs.Hands.{act_free, other_hand}
use Rattle.rules.proofs.Sounds.{Sound, based, others, object_real}
use Rattle.rules.proofs.Kept.{AllowedOut, freed_away, freed_free, release_sound, new_hand}
use Rattle.rules.proofs.Accepted.{MayMove, Allowed, rel_of, Releases, nobody, woken, served, releases, release_op}
use Rattle.rules.proofs.Step.{Step, kept, carried, step, next_sound, moved_rest, moved_started}
use Rattle.rules.proofs.Clear.{Over, one_clear}

-- One who may stand ahead of a task of base p: of at least its base; or the one task low, as long as it holds its object.
abbrev Good : Machine → ℕ → ℕ → ℕ → ℕ → Type 0
Good m p low o a = (p ≤ active m a) × ((p ≤ at m.base a) ⊎ ((a ≡ low) × (last_opened m a ≡ o) × (o ≢ 0)))

-- t, of base p, stands in the line behind such.
pub record Stands (m : Machine) (t p low o : ℕ) : Type 0 where
  pub rank : at m.base t ≡ p
  pub free : Free m t
  pub before : Before (Good m p low o) t m.ready

module _ (m : Machine) (p low o : ℕ) where
  good_free : (a : ℕ) → Free m a → p ≤ at m.base a → Good m p low o a
  good_free a e k = (rw (act_free m a e) k, inl k)

  free_good : (a : ℕ) → Free m a → Good m p low o a → p ≤ at m.base a
  free_good a e g = go g.1
    where
      go : (p ≤ at m.base a) ⊎ ((a ≡ low) × (last_opened m a ≡ o) × (o ≢ 0)) → p ≤ at m.base a
      go (inl k) = k
      go (inr w) = absurd (w.2 (sym w.1 ∙ e))

  -- a task that holds nothing, placed at the tail or head of its base: of at least base p it may stand anywhere, else it goes behind t
  put_back : (t q x : ℕ) (l : List ℕ) → at m.base t ≡ p → Free m t → Free m x → q ≤ suc (at m.base x)
      → Before (Good m p low o) t l → Before (Good m p low o) t (at_tail (active m) q x l)
  put_back t q x l rank free bare c k = ⊎_elim behind ahead (lt_or_ge (at m.base x) p)
    where
      behind : at m.base x < p → Before (Good m p low o) t (at_tail (active m) q x l)
      behind h =
          before_bad (λ z. ltb (active m z) q) x (λ a g. le-ltb (active m a) q (omega (arith, g.0)))
          (le-ltb (active m t) q (omega (arith, act_free m t free))) k

      ahead : p ≤ at m.base x → Before (Good m p low o) t (at_tail (active m) q x l)
      ahead h = before_good (λ z. ltb (active m z) q) x (good_free x bare h) k

  enter_before : (t : ℕ) (us l : List ℕ) → at m.base t ≡ p → Free m t → All (Free m) us → Before (Good m p low o) t l
      → Before (Good m p low o) t (enter m us l)
  enter_before t [] l rank free bare k = k
  enter_before t (u ∷ us) l rank free bare k =
      enter_before t us (at_tail (active m) (at m.base u) u l) rank free bare.1 (put_back t (at m.base u) u l rank free bare.0 (omega arith) k)

-- A step in which t does not run keeps it so.
module _ (m : Machine) (s : Sound m) (t p low o : ℕ) (st : Stands m t p low o) where
  stands_release : (rel : Rel) → Stands (release rel m) t p low o
  unfolding release
  stands_release none = st
  stands_release due = record {
    rank = st.rank;
    free = st.free;
    before = enter_before m p low o t (freed due m) m.ready st.rank st.free (freed_free m s due) st.before;
  }
  stands_release (serve q n) = record {
    rank = st.rank;
    free = st.free;
    before = enter_before m p low o t (freed (serve q n) m) m.ready st.rank st.free (freed_free m s (serve q n)) st.before;
  }

  module _ (nr : runner m ≢ t) where
    behind_before : Before (Good m p low o) t (behind_front m.ready)
    behind_before = (before_front nr st.before).1

    runner_good : Good m p low o (runner m)
    runner_good = (before_front nr st.before).0

    still_free : (v w : ℕ) → Free (with_hand m v w) t
    still_free v w = other_hand m v w t (λ q. nr (sym q)) ∙ st.free

    good_other : (v w a : ℕ) → a ≢ runner m → Good m p low o a → Good (with_hand m v w) p low o a
    good_other v w a n g = rw (other_hand m v w a n) g

    stands_leave : (out : Out) → AllowedOut m out → Stands (leave out m) t p low o
    unfolding leave
    stands_leave same g = st
    stands_leave (take v w) g = record {
      rank = st.rank;
      free = still_free v w;
      before =
          before_map (λ a k. ⊎_elim (λ (e : a ≡ runner m). rw e taker) (λ (n : a ≢ runner m). good_other v w a n k) (eq_or_ne a (runner m))) st.before;
    }
      where
        base_up : p ≤ at m.base (runner m)
        base_up = free_good m p low o (runner m) g.leaves.bare runner_good

        taker : Good (with_hand m v w) p low o (runner m)
        taker = (rw (new_hand m s v w) (rw (ne_eqb v 0 (object_real m s v g.admits.0)) (omega (arith, g.admits.1, base_up))), inl base_up)
    stands_leave yield g = record {
      rank = st.rank;
      free = st.free;
      before =
          put_back m p low o t (at m.base (runner m)) (runner m) (behind_front m.ready) st.rank st.free g.bare (omega arith) behind_before;
    }
    stands_leave close g = record {
      rank = st.rank;
      free = still_free 0 0;
      before =
          put_back (with_hand m 0 0) p low o t (suc (at m.base (runner m))) (runner m) (behind_front m.ready) st.rank (still_free 0 0)
          (new_hand m s 0 0) (omega arith)
          (before_map (λ a w. good_other 0 0 a w.1 w.0) (before_all (others m s) behind_before));
    }
    stands_leave (sleep d) g = record { rank = st.rank; free = st.free; before = behind_before }
    stands_leave (await q) g = record { rank = st.rank; free = st.free; before = behind_before }

-- The way out as a whole: behind the release, the runner that moves is still not t.
stands_moved : (m : Machine) → Sound m → (t p low o : ℕ) → (out : Out) → AllowedOut m out → Stands m t p low o → ((out ≡ same → ⊥) → runner m ≢ t)
    → Stands (leave out m) t p low o
unfolding leave
stands_moved m s t p low o same g st n = st
stands_moved m s t p low o (take v w) g st n = stands_leave m s t p low o st (n (λ e. let z : ◌≡◌ {A = ℕ} 0 1 = cc in absurd (omega arith))) (take v w) g
stands_moved m s t p low o yield g st n = stands_leave m s t p low o st (n (λ e. let z : ◌≡◌ {A = ℕ} 0 1 = cc in absurd (omega arith))) yield g
stands_moved m s t p low o close g st n = stands_leave m s t p low o st (n (λ e. let z : ◌≡◌ {A = ℕ} 0 1 = cc in absurd (omega arith))) close g
stands_moved m s t p low o (sleep d) g st n = stands_leave m s t p low o st (n (λ e. let z : ◌≡◌ {A = ℕ} 0 1 = cc in absurd (omega arith))) (sleep d) g
stands_moved m s t p low o (await q) g st n = stands_leave m s t p low o st (n (λ e. let z : ◌≡◌ {A = ℕ} 0 1 = cc in absurd (omega arith))) (await q) g

stands_carried : (m : Machine) → Sound m → (t p low o : ℕ) → m.started ≡ true → runner m ≢ t → Stands m t p low o → (e : Effect) → Allowed m e
    → Stands (carry m e) t p low o × ((carry m e).started ≡ true)
unfolding carry
stands_carried m s t p low o on n st nothing g = (st, on)
stands_carried m s t p low o on n st (creates x q) g = absurd (g.off on)
stands_carried m s t p low o on n st (declares x q) g = absurd (g.off on)
stands_carried m s t p low o on n st begins g = absurd (g on)
stands_carried m s t p low o on n st (moves out rel k) g =
    let w =
    stands_moved (release rel m) (release_sound m s on rel) t p low o out g.leaves (stands_release m s t p low o st rel)
    (λ q e. n (sym (g.in_front q) ∙ e)) in
    (record { rank = w.rank; free = w.free; before = w.before }, moved_started out rel m ∙ on)

stands_next : (m : Machine) → Sound m → (t p low o : ℕ) → m.started ≡ true → runner m ≢ t → Stands m t p low o → (c : Command)
    → Stands (next m c) t p low o × ((next m c).started ≡ true)
stands_next m s t p low o on n st c = go (step m s c)
  where
    go : Step m c → Stands (next m c) t p low o × ((next m c).started ≡ true)
    go (kept e f w) = rw e (st, on)
    go (carried e f w g) = rw e (stands_carried m s t p low o on n st (effect m c) g)

-- At the release: of those ahead of t at most one has a lower base, and it holds an object.
module _ (m : Machine) (t : ℕ) where
  -- ahead of t, and of lower base: a holder
  holds : (a : ℕ) → at m.base t ≤ active m a → at m.base a < at m.base t → Holding m a
  holds a k b e = omega (arith, act_free m a e)

  -- behind a task of lower base nobody else of lower base is ahead of t
  only : (low : ℕ) (l : List ℕ) → at m.base low < at m.base t → All (Over m low) l
      → Before (Good m (at m.base t) low (last_opened m low)) t (at_tail (active m) (at m.base t) t l)
  only low [] b k = here
  only low (x ∷ l) b k = go (ltb (active m x) (at m.base t)) refl (only low l b k.1)
    where
      go : (q : Bool) → ltb (active m x) (at m.base t) ≡ q
          → Before (Good m (at m.base t) low (last_opened m low)) t (at_tail (active m) (at m.base t) t l)
          → Before (Good m (at m.base t) low (last_opened m low)) t (cond q (t ∷ x ∷ l) (x ∷ at_tail (active m) (at m.base t) t l))
      go true e ih = here
      go false e ih =
          let up : at m.base t ≤ active m x = ltb-false _ _ e in
          let base_up : at m.base t ≤ at m.base x =
          ⊎_elim (λ (h : at m.base x < at m.base t). absurd (omega (arith, k.0 (holds x up h)))) (λ (h : at m.base t ≤ at m.base x). h)
          (lt_or_ge (at m.base x) (at m.base t)) in
          there (up, inl base_up) ih

  at_most_one : (l : List ℕ) → Pairwise (Over m) l
      → (low : ℕ) × Before (Good m (at m.base t) low (last_opened m low)) t (at_tail (active m) (at m.base t) t l)
  at_most_one [] k = (0, here)
  at_most_one (x ∷ l) k = go (ltb (active m x) (at m.base t)) refl (at_most_one l k.1)
    where
      go : (q : Bool) → ltb (active m x) (at m.base t) ≡ q
          → (low : ℕ) × Before (Good m (at m.base t) low (last_opened m low)) t (at_tail (active m) (at m.base t) t l)
          → (low : ℕ) × Before (Good m (at m.base t) low (last_opened m low)) t (cond q (t ∷ x ∷ l) (x ∷ at_tail (active m) (at m.base t) t l))
      go true e ih = (0, here)
      go false e ih =
          let up : at m.base t ≤ active m x = ltb-false _ _ e in
          ⊎_elim (λ (h : at m.base x < at m.base t). (x, there (up, inr (refl, refl, holds x up h)) (only x l h k.0)))
          (λ (h : at m.base t ≤ at m.base x). (ih.0, there (up, inl h) ih.1)) (lt_or_ge (at m.base x) (at m.base t))

-- Of several that are released each stands so: those before it hold nothing, and those behind it are placed as any other.
enter_stands : (m : Machine) (t : ℕ) (us : List ℕ) → All (Free m) us → 1 ≤ count t us → (l : List ℕ) → Pairwise (Ordered m) l → Pairwise (Over m) l
    → (low : ℕ) × Before (Good m (at m.base t) low (last_opened m low)) t (enter m us l)
enter_stands m t [] h c l f k = absurd (omega arith)
enter_stands m t (u ∷ us) h c l f k = ⊎_elim this (λ (n : t ≢ u). enter_stands m t us h.1 (behind n) after one.0 one.1) (eq_or_ne t u)
  where
    after : List ℕ
    after = at_tail (active m) (at m.base u) u l

    one : Pairwise (Ordered m) after × Pairwise (Over m) after
    one = one_clear m u h.0 l f k

    behind : t ≢ u → 1 ≤ count t us
    behind n = let z : one_if (eqb t u) ≡ 0 = rw (ne_eqb t u n) in omega arith

    this : t ≡ u → (low : ℕ) × Before (Good m (at m.base t) low (last_opened m low)) t (enter m us after)
    this e =
        let w = at_most_one m u l k in
        rw e (w.0, enter_before m (at m.base u) w.0 (last_opened m w.0) u us after refl h.0 h.1 w.1)

release_stands : (m : Machine) → Sound m → Clear m → (rel : Rel) (t : ℕ) → 1 ≤ count t (freed rel m)
    → (low : ℕ) × Stands (release rel m) t (at m.base t) low (last_opened m low)
unfolding Clear release
release_stands m s k none t c = absurd (omega arith)
release_stands m s k due t c =
    let w = enter_stands m t (freed due m) (freed_free m s due) c m.ready s.in_order.ready_falls k in
    (w.0, record { rank = refl; free = standing (Free m) (freed due m) (freed_free m s due) t c; before = w.1 })
release_stands m s k (serve o n) t c =
    let w = enter_stands m t (freed (serve o n) m) (freed_free m s (serve o n)) c m.ready s.in_order.ready_falls k in
    (w.0, record { rank = refl; free = standing (Free m) (freed (serve o n) m) (freed_free m s (serve o n)) t c; before = w.1 })

-- So behind a releasing step each t that it released stands behind at most one task of lower base, which held its object when the step began.
moved_behind : (m : Machine) → Sound m → Clear m → (out : Out) (rel : Rel) (n : ℕ) → MayMove m out rel n → (t : ℕ) → 1 ≤ count t (freed rel m)
    → (low : ℕ) × Stands (carry m (moves out rel n)) t (at m.base t) low (last_opened m low) × ((carry m (moves out rel n)).started ≡ true)
unfolding carry
moved_behind m s k out rel n g t c =
    let w = release_stands m s k rel t c in
    let other : t ≢ runner m = (standing (λ u. Free m u × (u ≢ runner m)) (freed rel m) (freed_away m s rel) t c).1 in
    let after = release_sound m s g.on rel in
    let away : (out ≡ same → ⊥) → runner (release rel m) ≢ t = λ d z. other (sym (sym (g.in_front d) ∙ z)) in
    let st = stands_moved (release rel m) after t (at m.base t) w.0 (last_opened m w.0) out g.leaves w.1 away in
    (w.0, record { rank = st.rank; free = st.free; before = st.before }, moved_started out rel m ∙ g.on)

-- the answer names the first of them
pub front_counts : (l : List ℕ) → front 0 l ≢ 0 → 1 ≤ count (front 0 l) l
front_counts [] n = absurd (n refl)
front_counts (x ∷ l) n = omega (arith, one_self x)

carried_behind : (m : Machine) → Sound m → Clear m → (e : Effect) → Allowed m e → freed_by e m ≢ 0
    → (low : ℕ) × Stands (carry m e) (freed_by e m) (at m.base (freed_by e m)) low (last_opened m low) × ((carry m e).started ≡ true)
carried_behind m s k nothing g n = absurd (n refl)
carried_behind m s k (creates t p) g n = absurd (n refl)
carried_behind m s k (declares o p) g n = absurd (n refl)
carried_behind m s k begins g n = absurd (n refl)
carried_behind m s k (moves out rel q) g n = moved_behind m s k out rel q g (front 0 (freed rel m)) (front_counts (freed rel m) n)

pub released_behind : (m : Machine) → Sound m → Clear m → (c : Command) → released m c ≢ 0
    → (low : ℕ) × Stands (next m c) (released m c) (at m.base (released m c)) low (last_opened m low) × ((next m c).started ≡ true)
released_behind m s k c n = go (step m s c)
  where
    go : Step m c → (low : ℕ) × Stands (next m c) (released m c) (at m.base (released m c)) low (last_opened m low) × ((next m c).started ≡ true)
    go (kept e f w) = absurd (n f)
    go (carried e f w g) = rw (e, f) (carried_behind m s k (effect m c) g (λ z. n (f ∙ z)))

-- Only a Wake, and an end of a body that has a barrier, releases.
pub freed_of : (e : Effect) (m : Machine) → freed_by e m ≡ front 0 (freed (rel_of e) m)
freed_of nothing m = refl
freed_of (creates t p) m = refl
freed_of (declares o p) m = refl
freed_of begins m = refl
freed_of (moves out rel n) m = refl

pub released_by : (m : Machine) → Sound m → (c : Command) → released m c ≢ 0 → Among releasing_ops c.op
released_by m s c n = go (step m s c)
  where
    of_row : released m c ≡ freed_by (effect m c) m → Releases (kind c) (rel_of (effect m c)) → Among releasing_ops c.op
    of_row f (nobody r) = absurd (n (f ∙ (freed_of (effect m c) m ∙ ap (λ (rel : Rel). front 0 (freed rel m)) r)))
    of_row f (woken r) = release_op c.op (λ z. let w : ◌≡◌ {A = ℕ} 1 0 = sym r ∙ z in absurd (omega arith))
    of_row f (served r q) = release_op c.op (λ z. let w : ◌≡◌ {A = ℕ} 2 0 = sym r ∙ z in absurd (omega arith))

    go : Step m c → Among releasing_ops c.op
    go (kept e f w) = absurd (n f)
    go (carried e f w g) = of_row f (releases m c (kind c))

-- A started machine's bases stay, and a step changes what the runner holds and nobody else's.
release_held : (rel : Rel) (m : Machine) (y : ℕ) → last_opened (release rel m) y ≡ last_opened m y
unfolding release
release_held none m y = refl
release_held due m y = refl
release_held (serve o n) m y = refl

leave_held : (out : Out) (m : Machine) (y : ℕ) → ((out ≡ same → ⊥) → y ≢ runner m) → last_opened (leave out m) y ≡ last_opened m y
unfolding leave
leave_held same m y n = refl
leave_held (take o w) m y n = other_hand m o w y (n (λ e. let z : ◌≡◌ {A = ℕ} 0 1 = cc in absurd (omega arith)))
leave_held yield m y n = refl
leave_held close m y n = other_hand m 0 0 y (n (λ e. let z : ◌≡◌ {A = ℕ} 0 1 = cc in absurd (omega arith)))
leave_held (sleep d) m y n = refl
leave_held (await o) m y n = refl

pub next_tables : (m : Machine) → Sound m → m.started ≡ true → (c : Command)
    → ((next m c).base ≡ m.base) × ((y : ℕ) → y ≢ runner m → last_opened (next m c) y ≡ last_opened m y)
unfolding carry
next_tables m s on c = go (step m s c)
  where
    by_effect : (e : Effect) → Allowed m e → ((carry m e).base ≡ m.base) × ((y : ℕ) → y ≢ runner m → last_opened (carry m e) y ≡ last_opened m y)
    by_effect nothing g = (refl, λ y n. refl)
    by_effect (creates t p) g = absurd (g.off on)
    by_effect (declares o p) g = absurd (g.off on)
    by_effect begins g = absurd (g on)
    by_effect (moves out rel q) g =
        ((moved_rest out rel m).0, λ y n. leave_held out (release rel m) y (λ d z. n (z ∙ g.in_front d)) ∙ release_held rel m y)

    go : Step m c → ((next m c).base ≡ m.base) × ((y : ℕ) → y ≢ runner m → last_opened (next m c) y ≡ last_opened m y)
    go (kept e f w) = rw e (refl, λ y n. refl)
    go (carried e f w g) = rw e (by_effect (effect m c) g)

-- From there on, as long as t has not run: a task of lower base that runs is that one, and has held its object all the way.
pub first_moment : (P : Machine → Type 0) (cs : List Command) (m : Machine) → All P (moments m cs) → P m
unfolding moments
first_moment P [] m h = h.0
first_moment P (c ∷ cs) m h = h.0

abbrev pub Lower : Machine → List Command → ℕ → ℕ → Type 0
Lower m cs low o = (running (run m cs) ≡ low) × (o ≢ 0) × All (λ s. last_opened s low ≡ o) (moments m cs)

holding_low : (m : Machine) (t p low o : ℕ) → Stands m t p low o → runner m ≢ t → at m.base (runner m) < p
    → (runner m ≡ low) × (last_opened m low ≡ o) × (o ≢ 0)
holding_low m t p low o st n lt = go (before_front n st.before).0.1
  where
    go : (p ≤ at m.base (runner m)) ⊎ ((runner m ≡ low) × (last_opened m (runner m) ≡ o) × (o ≢ 0)) → (runner m ≡ low) × (last_opened m low ≡ o) × (o ≢ 0)
    go (inl k) = absurd (omega arith)
    go (inr w) = (w.0, rw w.0 at w.1, w.2)

pub lower_runs : (cs : List Command) (m : Machine) → Sound m → m.started ≡ true → (t p low o : ℕ) → Stands m t p low o
    → All (λ s. running s ≢ t) (moments m cs)
    → at m.base (running (run m cs)) < p → Lower m cs low o
unfolding moments run
lower_runs [] m s on t p low o st k lt =
    let n : runner m ≢ t = λ e. k.0 (rw on e) in
    let w = holding_low m t p low o st n (rw on at lt) in
    (rw on w.0, w.2, (w.1, tt))
lower_runs (c ∷ cs) m s on t p low o st k lt =
    let n : runner m ≢ t = λ e. k.0 (rw on e) in
    let st' = stands_next m s t p low o on n st c in
    let tb = next_tables m s on c in
    let i =
    lower_runs cs (next m c) (next_sound m s c) st'.1 t p low o st'.0 k.1
    (subst (λ (b : List ℕ). at b (running (run (next m c) cs)) < p) (sym tb.0) lt) in
    let now : last_opened m low ≡ o =
    ⊎_elim (λ (e : low ≡ runner m). (holding_low m t p low o st n (rw (i.0, e) at lt)).1)
    (λ (d : low ≢ runner m). sym (tb.1 low d) ∙ first_moment (λ s. last_opened s low ≡ o) cs (next m c) i.2) (eq_or_ne low (runner m)) in
    (i.0, i.1, (now, i.2))

-- a released task is not idle, so it has a base
pub released_based : (m : Machine) → Sound m → Clear m → (c : Command) → released m c ≢ 0 → 1 ≤ at (next m c).base (released m c)
released_based m s k c n =
    let w = released_behind m s k c n in
    based (next m c) (next_sound m s c) (released m c) (omega (arith, before_counts w.1.before)) n
