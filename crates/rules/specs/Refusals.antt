-- The numbers of refusal 2 to 13: a check for each, under its sentence; and for each kind of command its checks, in
-- their order. 1, Shape, comes before them all, and is tested where a state comes in: these go by what a state shows,
-- sound or not. What stands in [ ] is said by the kinds' rows, or tested elsewhere.
use Rattle.std.specs.Prelude.{ℕ, ◌+◌, ◌-◌, ◌^◌, Bool, true, false, cond, not, ◌&&◌, List, [], ◌∷◌, eqb, leb, ltb, get_or}
use Rattle.rules.specs.Line.{at, empty, within}
use Rattle.rules.specs.Machine.{task_count, object_count, top_base, top_ceiling, top_barrier}
use Rattle.rules.specs.Machine.{Machine, Command, created, declared, runner}
use Rattle.rules.specs.Machine.{last_opened, way_held, empty_handed, holders}
use Rattle.rules.specs.declared.Kind.{Kind}
use Rattle.rules.specs.declared.Kind.TheVariants.{NoKind, Creating, Declaring, Starting, Delaying}
use Rattle.rules.specs.declared.Kind.TheVariants.{Waking, Advancing, Opening, Entering, Ending}
use Rattle.rules.specs.Kinds.{kind}

-- What an operand may be. (Of what is no op nothing fits. Ticks are bounded by 13.)
pub data Operand : Type 0 where
  never unused task object priority ceiling barrier time ticks : Operand

abbrev pub fits : Operand → ℕ → Bool
fits never n = false
fits unused n = eqb n 0
fits task n = within 1 (task_count - 1) n
fits object n = within 1 (object_count - 1) n
fits priority n = within 1 top_base n
fits ceiling n = within 1 top_ceiling n
fits barrier n = leb n top_barrier
fits time n = ltb n (2 ^ 64)
fits ticks n = true

-- The operands in use, of each kind.
pub record Operands : Type 0 where
  pub a : Operand
  pub b : Operand
  pub value : Operand

abbrev uses : Operand → Operand → Operand → Operands
uses a b value = record { a = a; b = b; value = value }

abbrev pub operands : Kind → Operands
operands NoKind = uses never never never
operands Creating = uses task priority unused
operands Declaring = uses object ceiling unused
operands Starting = uses unused unused unused
operands Delaying = uses unused unused time
operands Waking = uses unused unused unused
operands Advancing = uses unused unused ticks
operands Opening = uses object unused unused
operands Entering = uses object barrier unused
operands (Ending e) = uses object (cond e.serves barrier unused) unused

-- a known op, and each operand what it may be
abbrev pub formed_as : Kind → Command → Bool
formed_as k c = let u = operands k in fits u.a c.a && fits u.b c.b && fits u.value c.value

abbrev pub formed : Command → Bool
formed c = formed_as (kind c) c

-- what the runner opened last is the object, and it holds it in that way
abbrev pub holds_so : Machine → ℕ → ℕ → Bool
holds_so m o w = eqb (last_opened m (runner m)) o && eqb (way_held m (runner m)) w

-- The checks: when each holds, and its number.

-- 4 Range: unknown op; a task not 1..31, an object not 1..7, a priority or ceiling not 1..15; barrier above 1; an
-- unused operand not 0 (and, beyond the paper, a delay until 2^64 or later, which no caller of ours can ask for)
abbrev range : Kind → Command → Bool × ℕ
range k c = (not (formed_as k c), 4)

-- 2 Early: [ops 4..15 or a draw] before Start
abbrev early : Machine → Bool × ℕ
early m = (not m.started, 2)

-- 3 Late: [ops 1..3] after Start
abbrev late : Machine → Bool × ℕ
late m = (m.started, 3)

-- 5 Taken: task or object set up before
abbrev task_taken : Machine → Command → Bool × ℕ
task_taken m c = (created m c.a, 5)

abbrev object_taken : Machine → Command → Bool × ℕ
object_taken m c = (declared m c.a, 5)

-- 6 Missing: object, [or task asked about,] not set up
abbrev missing : Machine → Command → Bool × ℕ
missing m c = (not (declared m c.a), 6)

-- 7 Idle: [ops 4 and 7..15] while task 0 runs
abbrev idle : Machine → Bool × ℕ
idle m = (eqb (runner m) 0, 7)

-- 8 Inside: [ops 4, 7, 10] while the runner holds an object
abbrev inside : Machine → Bool × ℕ
inside m = (not (empty_handed m (runner m)), 8)

-- 9 Outside: closing an object the runner does not hold, or holds in the other way (8, 9, 12, 13
-- and 15 end an open; 11 and 14 end an entry)
abbrev outside : ℕ → Machine → Command → Bool × ℕ
outside way m c = (not (holds_so m c.a way), 9)

-- 10 Ceiling: the runner's base is above the ceiling (of the object that ops 7 and 10 would take)
abbrev ceiling_below : Machine → Command → Bool × ℕ
ceiling_below m c = (ltb (at m.ceiling c.a) (at m.base (runner m)), 10)

-- 11 Held: another task holds the object (8 came first, so the runner holds none)
abbrev held_by_another : Machine → Command → Bool × ℕ
held_by_another m c = (leb 1 (holders m c.a), 11)

-- 12 Queue: entry with barrier 0 while a task waits there
abbrev queue_full : Machine → Command → Bool × ℕ
queue_full m c = (eqb c.b 0 && not (empty (get_or m.queue c.a [])), 12)

-- 13 Clock: advance past 2^64-1
abbrev clock_past : Machine → Command → Bool × ℕ
clock_past m c = (not (ltb (m.clock + c.value) (2 ^ 64)), 13)

-- Order of a step's checks: 4, then 2 or 3, then 5 to 13. Behind 4 each kind has those that speak of its ops (what
-- stands in [ ] above).
abbrev pub behind_range : Kind → Machine → Command → List (Bool × ℕ)
behind_range NoKind m c = []
behind_range Creating m c = late m ∷ task_taken m c ∷ []
behind_range Declaring m c = late m ∷ object_taken m c ∷ []
behind_range Starting m c = late m ∷ []
behind_range Delaying m c = early m ∷ idle m ∷ inside m ∷ []
behind_range Waking m c = early m ∷ []
behind_range Advancing m c = early m ∷ clock_past m c ∷ []
behind_range Opening m c = early m ∷ missing m c ∷ idle m ∷ inside m ∷ ceiling_below m c ∷ held_by_another m c ∷ []
behind_range Entering m c =
    early m ∷ missing m c ∷ idle m ∷ inside m ∷ ceiling_below m c ∷ held_by_another m c ∷ queue_full m c ∷ []
behind_range (Ending e) m c = early m ∷ missing m c ∷ idle m ∷ outside e.way m c ∷ []

abbrev pub checks_of : Kind → Machine → Command → List (Bool × ℕ)
checks_of k m c = range k c ∷ behind_range k m c

abbrev pub checks : Machine → Command → List (Bool × ℕ)
checks m c = checks_of (kind c) m c

-- the number of the first check that holds, 0 where none does
abbrev pub first_number : List (Bool × ℕ) → ℕ
first_number [] = 0
first_number (x ∷ l) = cond x.0 x.1 (first_number l)

unfoldable pub refusal : Machine → Command → ℕ
refusal m c = first_number (checks m c)
