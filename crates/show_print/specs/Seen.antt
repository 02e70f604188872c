-- What the functions inside this crate ask for, and what they see of the machine.
use Rattle.std.specs.Prelude.{ℕ, ◌+◌, ◌≤◌, false, List, [], map, length}
use Rattle.rules.specs.Machine.{Machine}
use Rattle.kernel.specs.View.{nobody_or}

-- Room behind a place for so many bytes, and for 17 more: a decimal is put where there is room for 20 digits, and that
-- of a byte has 3.
abbrev pub Room : ℕ → List ℕ → ℕ → Type 0
Room most out at = at + (most + 17) ≤ length out

-- A machine by some of its tables: base, ceiling, held, way, waiter. The rest is not looked at.
abbrev pub seen : List ℕ → List ℕ → List ℕ → List ℕ → List ℕ → Machine
seen base ceiling held way waiter =
    record {
      base = base;
      ceiling = ceiling;
      held = held;
      way = way;
      queue = map nobody_or waiter;
      ready = [];
      delay = [];
      clock = 0;
      started = false;
    }
