-- What a turn of each timed loop does to what is gathered, and where it ends. Assumes nothing.
use Rattle.std.proofs.Common.{◌≡◌, ℕ, suc, ◌≤◌, Bool, true, false, cond, ltb, List, length, refl, ap, ◌∙◌, arith, ltb-false, ltb-true}
use Rattle.rules.specs.Line.{at}
use Rattle.kernel_line.specs.Tables.{time_in}
use Rattle.queue_chip.specs.declared.Queue.{Queue}
use Rattle.queue_bench.specs.Stream.{mixed_of, lesser, queue_turn, chip_of, by_chip, line_turn, time_turn, line_of, by_line}

pub least : (x y n : ℕ) → n ≡ lesser x y → (n ≤ x) × (n ≤ y)
least x y n e = rw e (go (ltb y x) refl)
  where
    go : (b : Bool) → ltb y x ≡ b → (cond b y x ≤ x) × (cond b y x ≤ y)
    go true f = (omega (arith, ltb-true y x f), omega arith)
    go false f = (omega arith, ltb-false y x f)

module _ (tasks values : List ℕ) (sum : ℕ) where
  pub chip_turn : (i j : ℕ) (q next : Queue) (total more : ℕ) → j ≡ suc i → q ≡ (chip_of tasks values sum i).queue → total ≡ (chip_of tasks values sum i).total
      → next ≡ queue_turn (at tasks i) (at values i) q → more ≡ mixed_of total next.task next.time
      → (next ≡ (chip_of tasks values sum j).queue) × (more ≡ (chip_of tasks values sum j).total)
  chip_turn i j q next total more e f g h m = rw (e, m, h, f, g) (refl, refl)

  pub chip_end : (n i total : ℕ) → i ≤ n → n ≤ i → n ≡ lesser (length tasks) (length values) → total ≡ (chip_of tasks values sum i).total
      → total ≡ by_chip tasks values sum
  unfolding by_chip
  chip_end n i total lo hi e f = let z : i ≡ lesser (length tasks) (length values) = omega (arith, e) in f ∙ ap (λ (x : ℕ). (chip_of tasks values sum x).total) z

  pub line_behind_turn : (i j : ℕ) (d u d2 u2 : List ℕ) (total time more : ℕ) → j ≡ suc i
      → d ≡ (line_of tasks values sum i).delayed → u ≡ (line_of tasks values sum i).until
      → total ≡ (line_of tasks values sum i).total → d2 ≡ line_turn d u (at tasks i) (at values i) → u2 ≡ time_turn d u (at tasks i) (at values i)
      → time ≡ time_in u2 (at d2 0) → more ≡ mixed_of total (at d2 0) time
      → (d2 ≡ (line_of tasks values sum j).delayed) × (u2 ≡ (line_of tasks values sum j).until) × (more ≡ (line_of tasks values sum j).total)
  line_behind_turn i j d u d2 u2 total time more e f g h k l m p = rw (e, p, m, k, l, f, g, h) (refl, refl, refl)

  pub line_end : (n i total : ℕ) → i ≤ n → n ≤ i → n ≡ lesser (length tasks) (length values) → total ≡ (line_of tasks values sum i).total
      → total ≡ by_line tasks values sum
  unfolding by_line
  line_end n i total lo hi e f = let z : i ≡ lesser (length tasks) (length values) = omega (arith, e) in f ∙ ap (λ (x : ℕ). (line_of tasks values sum x).total) z
