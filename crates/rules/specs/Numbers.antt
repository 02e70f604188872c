-- The number of each refusal, as the paper's table has it; and of a check the number that an answer has for it.
use Rattle.std.specs.Prelude.{ℕ, Result, Ok, Err}
use Rattle.rules.specs.declared.Refusal.{Refusal}
use Rattle.rules.specs.declared.Refusal.TheVariants.{Shape, Early, Late, Range, Taken, Missing, Idle, Inside, Outside}
use Rattle.rules.specs.declared.Refusal.TheVariants.{Ceiling, Held, Queue, Clock, Line, Record, Room, Seed, Profile}

abbrev pub number_of : Refusal → ℕ
number_of Shape = 1
number_of Early = 2
number_of Late = 3
number_of Range = 4
number_of Taken = 5
number_of Missing = 6
number_of Idle = 7
number_of Inside = 8
number_of Outside = 9
number_of Ceiling = 10
number_of Held = 11
number_of Queue = 12
number_of Clock = 13
number_of Line = 14
number_of Record = 15
number_of Room = 16
number_of Seed = 17
number_of Profile = 18

-- 0 where nothing is refused
abbrev pub code_of : Result Unit Refusal → ℕ
code_of (Ok u) = 0
code_of (Err r) = number_of r
