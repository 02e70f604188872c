-- The menu of a draw: the eight kinds in op order 4..11, each with whether it is legal, which numbers are chosen for
-- it, and the command that it is by them.
use Rattle.std.specs.Prelude.{ℕ, ◌+◌, ◌^◌, Bool, true, cond, not, ◌&&◌, List, [], ◌∷◌, eqb, leb, ltb, get_or, length}
use Rattle.rules.specs.Line.{at, empty}
use Rattle.rules.specs.Machine.{Machine, Command, declared, last_opened, way_held, empty_handed, holders, runner}
use Rattle.rules.specs.Machine.{for_open, for_entry}

-- the object that the runner holds, 0 for none
abbrev pub hand : Machine → ℕ
hand m = last_opened m (runner m)

-- the runner is not idle, and holds nothing
abbrev pub free_runner : Machine → Bool
free_runner m = not (eqb (runner m) 0) && empty_handed m (runner m)

-- inside an open, or inside an entry
abbrev pub inside : Machine → ℕ → Bool
inside m way = not (empty_handed m (runner m)) && eqb (way_held m (runner m)) way

-- eligible: declared, ceiling at least the base, not held
abbrev pub eligible : Machine → ℕ → Bool
eligible m o = declared m o && leb (at m.base (runner m)) (at m.ceiling o) && not (leb 1 (holders m o))

-- those that pass the test, in order
abbrev pub sift : (ℕ → Bool) → List ℕ → List ℕ
sift f [] = []
sift f (x ∷ l) = cond (f x) (x ∷ sift f l) (sift f l)

abbrev pub objects : List ℕ
objects = 1 ∷ 2 ∷ 3 ∷ 4 ∷ 5 ∷ 6 ∷ 7 ∷ []

abbrev pub eligibles : Machine → List ℕ
eligibles m = sift (eligible m) objects

-- the eligible object number x, counted from 0 upward
abbrev pub nth_eligible : Machine → ℕ → ℕ
nth_eligible m x = get_or (eligibles m) x 0

-- clock + span is at most 2^64-1
abbrev pub span_fits : Machine → ℕ → Bool
span_fits m span = ltb (m.clock + span) (2 ^ 64)

-- nobody waits on the object
abbrev pub quiet : Machine → ℕ → Bool
quiet m o = empty (get_or m.queue o [])

-- An offer of the menu: whether it is legal; below which number its operand is chosen, 0 for an operand that is not
-- needed; the same of its barrier, by the number that was chosen for the operand; and the command that it is, by both
-- numbers.
pub record Offer : Type 0 where
  pub legal : Bool
  pub operand : ℕ
  pub barrier : ℕ → ℕ
  pub command : ℕ → ℕ → Command

abbrev pub command_of : ℕ → ℕ → ℕ → ℕ → Command
command_of op a b value = record { op = op; a = a; b = b; value = value }

-- Legal kinds: wake always; delay (runner not idle, holding nothing) and advance, both only if clock + span is at most
-- 2^64-1; open and entry when the runner is not idle, holds nothing and some object is eligible; closep and closef
-- inside an open; done inside an entry.
abbrev pub may_delay : Machine → ℕ → Bool
may_delay m span = free_runner m && span_fits m span

abbrev pub may_take : Machine → Bool
may_take m = free_runner m && not (empty (eligibles m))

-- a kind that needs neither operand nor barrier; one that needs an operand below n; a closing one with a barrier
abbrev bare : Bool → Command → Offer
bare legal c = record { legal = legal; operand = 0; barrier = λ x. 0; command = λ x y. c }

abbrev with_operand : Bool → ℕ → (ℕ → Command) → Offer
with_operand legal n c = record { legal = legal; operand = n; barrier = λ x. 0; command = λ x y. c x }

abbrev closing : Bool → (ℕ → Command) → Offer
closing legal c = record { legal = legal; operand = 0; barrier = λ x. 2; command = λ x y. c y }

-- an entry: its barrier is 1, and not chosen, where the object has a waiter
abbrev entering : Machine → Offer
entering m = record {
  legal = may_take m;
  operand = length (eligibles m);
  barrier = λ x. cond (quiet m (nth_eligible m x)) 2 0;
  command = λ x y. command_of 10 (nth_eligible m x) (cond (quiet m (nth_eligible m x)) y 1) 0;
}

-- Kinds in op order 4..11. Operands: delay clock + a number below span + 1; advance 1 + a number below span; open and
-- entry the eligible object of that number, below their count; closing commands the held object. The barrier of closep
-- and entry, and by request 2 of done, is a number below 2. All other operands are 0.
unfoldable pub menu : Machine → ℕ → List Offer
menu m span =
    with_operand (may_delay m span) (span + 1) (λ x. command_of 4 0 0 (m.clock + x)) ∷
    bare true (command_of 5 0 0 0) ∷
    with_operand (span_fits m span) span (λ x. command_of 6 0 0 (1 + x)) ∷
    with_operand (may_take m) (length (eligibles m)) (λ x. command_of 7 (nth_eligible m x) 0 0) ∷
    closing (inside m for_open) (λ y. command_of 8 (hand m) y 0) ∷
    bare (inside m for_open) (command_of 9 (hand m) 0 0) ∷
    entering m ∷
    closing (inside m for_entry) (λ y. command_of 11 (hand m) y 0) ∷ []
