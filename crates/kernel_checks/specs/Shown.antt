-- What the checks of a command see of the tables: the machine of the rules, read off them.
use Rattle.std.specs.Prelude.{ℕ, Bool, cond, List, [], ◌∷◌, map, eqb}
use Rattle.rules.specs.declared.Kind.{Kind}
use Rattle.rules.specs.Machine.{Machine, Command}
use Rattle.rules.specs.Refusals.{checks_of, first_number}
pub use Rattle.kernel_ready.specs.Ready.{with_idle}
use Rattle.kernel_checks.specs.declared.Command as given

-- The command that the program's four numbers say.
abbrev pub to_rules : given.Command → Command
to_rules c = record { op = c.op; a = c.a; b = c.b; value = c.value }

-- The program's command with these numbers.
abbrev pub cmd : ℕ → ℕ → ℕ → ℕ → given.Command
cmd op a b value = record { op = op; a = a; b = b; value = value }

-- A cell as a queue: 0 is nobody.
abbrev pub nobody_or : ℕ → List ℕ
nobody_or w = cond (eqb w 0) [] (w ∷ [])

-- The machine that the tables show. (The delay line is not looked at.)
abbrev pub shown : List ℕ → List ℕ → List ℕ → List ℕ → List ℕ → List ℕ → ℕ → Bool → Machine
shown base ready held way ceiling waiter clock started =
    record {
      base = base;
      ceiling = ceiling;
      held = held;
      way = way;
      queue = map nobody_or waiter;
      ready = with_idle ready;
      delay = [];
      clock = clock;
      started = started;
    }

-- The rules' refusal of a command of that kind.
unfoldable pub refusal_as : Kind → Machine → Command → ℕ
refusal_as k m c = first_number (checks_of k m c)
