-- The kinds of command: what an op asks for, whatever its number is. The op table and the refusals go by the kind.
use Rattle.std.specs.Prelude.{ℕ, ◌-◌, Bool, true, false, List, [], ◌∷◌, get_or, length}
use Rattle.rules.specs.declared.Kind.{Kind}
use Rattle.rules.specs.declared.Kind.TheVariants.{NoKind, Creating, Declaring, Starting, Delaying}
use Rattle.rules.specs.declared.Kind.TheVariants.{Waking, Advancing, Opening, Entering, Ending}
use Rattle.rules.specs.declared.Whose.{Whose}
use Rattle.rules.specs.declared.Whose.TheVariants.{Nobody, Runner, Released}
use Rattle.rules.specs.Machine.{Command, for_open, for_entry}

-- The end of a body: the way in which its object is held, whether a barrier serves who waits, whose exception is set.
abbrev pub ends : ℕ → Bool → Whose → Kind
ends way serves whose = Ending (record { way = way; serves = serves; whose = whose })

-- The kind of each op 1..15; no other number is an op.
abbrev pub kinds : List Kind
kinds =
    NoKind ∷
    Creating ∷  -- 1 create
    Declaring ∷  -- 2 object
    Starting ∷  -- 3 start
    Delaying ∷  -- 4 delay
    Waking ∷  -- 5 wake
    Advancing ∷  -- 6 advance
    Opening ∷  -- 7 open
    ends for_open true Nobody ∷  -- 8 closep
    ends for_open false Nobody ∷  -- 9 closef
    Entering ∷  -- 10 entry
    ends for_entry true Nobody ∷  -- 11 done (its barrier is request 2's)
    ends for_open true Runner ∷  -- 12 failp: closep by an exception (12..15 are request 6's)
    ends for_open false Runner ∷  -- 13 failf: closef by one
    ends for_entry true Runner ∷  -- 14 faile: done by one
    ends for_open true Released ∷ []  -- 15 failw: closep; the waiter's entry body failed meanwhile

-- the last op
abbrev pub last_op : ℕ
last_op = length kinds - 1

abbrev pub kind_at : ℕ → Kind
kind_at op = get_or kinds op NoKind

abbrev pub kind : Command → Kind
kind c = kind_at c.op
