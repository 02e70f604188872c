-- What is computed of a draw on the kernel's tables. proofs/Tied ties it to the definitions over the machine (crate
-- generator_draws).
use Rattle.std.specs.Prelude.{ℕ, zero, suc, ◌+◌, ◌-◌, ◌%◌, ◌^◌, Bool, cond, not, ◌&&◌, ◌||◌, List, [], ◌∷◌, eqb, leb, ltb, get_or, length}
use Rattle.rules.specs.Line.{at, count}
use Rattle.kernel_ready.specs.Ready.{runner_in}
use Rattle.kernel_checks.specs.declared.Command.{Command}
use Rattle.generator_draws.specs.Below.{even, if_needed}
use Rattle.generator_draws.specs.Menu.{sift, objects}
use Rattle.generator_menu.specs.declared.Made.{Made}
use Rattle.generator_menu.specs.declared.Sight.{Sight}

-- eligible to a runner of that base: declared, ceiling at least the base, not held
abbrev pub eligible_in : List ℕ → List ℕ → ℕ → ℕ → Bool
eligible_in ceiling held base o = not (eqb (at ceiling o) 0) && leb base (at ceiling o) && not (leb 1 (count o held))

-- n objects from o upward
unfoldable pub upward : ℕ → ℕ → List ℕ
upward zero o = []
upward (suc n) o = o ∷ upward n (suc o)

-- those of the runner, which stands first in the table of the ready line
abbrev pub eligibles_in : List ℕ → List ℕ → List ℕ → List ℕ → List ℕ
eligibles_in base ready held ceiling = sift (eligible_in ceiling held (at base (runner_in ready))) objects

-- What a draw looks at, by the runner, the object that it holds and in which way, its base, and the count of its
-- eligible objects;
abbrev pub seen_by : ℕ → ℕ → ℕ → ℕ → ℕ → Bool → Sight
seen_by runner hand way level count room =
    record {
      free = not (eqb runner 0) && eqb hand 0;
      opened = not (eqb hand 0) && eqb way 1;
      entered = not (eqb hand 0) && eqb way 2;
      hand = hand;
      level = level;
      count = count;
      room = room;
    }

-- and by the tables base, ready, held, way, ceiling and the clock, for a span.
unfoldable pub sight_in : List ℕ → List ℕ → List ℕ → List ℕ → List ℕ → ℕ → ℕ → Sight
sight_in base ready held way ceiling clock span =
    let runner = runner_in ready in
    let l = eligibles_in base ready held ceiling in
    seen_by runner (at held runner) (at way runner) (at base runner) (length l) (ltb (clock + span) (2 ^ 64))

-- The menu's columns. What each kind weighs;
unfoldable pub worths_of : Sight → List ℕ → List ℕ
worths_of s w =
    let some = not (eqb s.count 0) in
    cond (s.free && s.room) (at w 0) 0 ∷
    at w 1 ∷
    cond s.room (at w 2) 0 ∷
    cond (s.free && some) (at w 3) 0 ∷
    cond s.opened (at w 4) 0 ∷
    cond s.opened (at w 5) 0 ∷
    cond (s.free && some) (at w 6) 0 ∷
    cond s.entered (at w 7) 0 ∷ []

-- below which number its operand is chosen, 0 where none is needed;
abbrev pub operand_at : Sight → ℕ → ℕ → ℕ
operand_at s span i = at ((span + 1) ∷ 0 ∷ span ∷ s.count ∷ 0 ∷ 0 ∷ s.count ∷ 0 ∷ []) i

-- the object that it names: the eligible one of number x, or the one that is held;
abbrev pub object_at : List ℕ → List ℕ → Sight → ℕ → ℕ → ℕ
object_at ceiling held s i x =
    cond (eqb i 3 || eqb i 6)
    (get_or (sift (eligible_in ceiling held s.level) objects) x 0)
    (at (0 ∷ 0 ∷ 0 ∷ 0 ∷ s.hand ∷ s.hand ∷ 0 ∷ s.hand ∷ []) i)

-- whether nobody waits there, and below which number its barrier is chosen, 0 where none is needed;
abbrev pub quiet_at : List ℕ → ℕ → Bool
quiet_at waiter o = eqb (at waiter o) 0

abbrev pub barrier_at : Bool → ℕ → ℕ
barrier_at quiet i = at (0 ∷ 0 ∷ 0 ∷ 0 ∷ 2 ∷ 0 ∷ cond quiet 2 0 ∷ 2 ∷ []) i

-- a delay's time, where it fits: a delay that does not fit weighs nothing;
abbrev pub delay_time : ℕ → ℕ → ℕ
delay_time clock x = cond (ltb (clock + x) (2 ^ 64)) (clock + x) 0

-- and the command, by the object and the numbers x and y; past the last kind, none.
unfoldable pub command_at : ℕ → ℕ → Bool → ℕ → ℕ → ℕ → Command
command_at clock object quiet x y i =
    let bit = y % 256 in
    record {
      op = at (4 ∷ 5 ∷ 6 ∷ 7 ∷ 8 ∷ 9 ∷ 10 ∷ 11 ∷ []) i;
      a = object;
      b = at (0 ∷ 0 ∷ 0 ∷ 0 ∷ bit ∷ 0 ∷ cond quiet bit 1 ∷ bit ∷ []) i;
      value = at (delay_time clock x ∷ 0 ∷ (1 + x) ∷ 0 ∷ 0 ∷ 0 ∷ 0 ∷ 0 ∷ []) i;
    }

-- the sum of what the kinds weigh
unfoldable pub sum_of : List ℕ → ℕ
sum_of [] = 0
sum_of (w ∷ ws) = w + sum_of ws

-- the index of the first whose running sum exceeds d
unfoldable pub index_of : ℕ → List ℕ → ℕ
index_of d [] = 0
index_of d (w ∷ ws) = cond (ltb d w) 0 (suc (index_of (d - w) ws))

-- Edition 2, behind the choice of kind i, which left that seed and spent so many draws: the operand, the barrier, and
-- what they make.
unfoldable pub finished_at : List ℕ → List ℕ → List ℕ → ℕ → ℕ → Sight → ℕ → ℕ → ℕ → Made
finished_at held ceiling waiter clock span s i seed spent =
    let operand = if_needed even (operand_at s span i) seed in
    let object = object_at ceiling held s i operand.number in
    let quiet = quiet_at waiter object in
    let barrier = if_needed even (barrier_at quiet i) operand.seed in
    record {
      command = command_at clock object quiet operand.number barrier.number i;
      seed = barrier.seed;
      spent = spent + operand.spent + barrier.spent;
    }
