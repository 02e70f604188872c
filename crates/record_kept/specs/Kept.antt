-- What a record keeps of an answer: code, running and released. (An answer that says more is kept in the same three,
-- and two answers that are kept alike are the same to a judge.)
use Rattle.std.specs.Prelude.{ℕ, ◌+◌, ◌*◌, Bool, ◌&&◌, eqb}
use Rattle.rules.specs.Run as rules
use Rattle.kernel.specs.declared.command.Answer.{Answer}
use Rattle.record.specs.declared.Record.{Record}
use Rattle.record_kept.specs.declared.Kept.{Kept}

-- of an answer of the rules
abbrev pub kept : rules.Answer → Kept
kept a = record { code = a.code; running = record { 0 = a.running }; released = record { 0 = a.released } }

-- of an answer of the step
abbrev pub kept_of : Answer → Kept
kept_of a = record { code = a.code; running = a.running; released = a.released }

-- on a tape: a record's own
abbrev pub kept_on : Record → Kept
kept_on r = record { code = r.code; running = record { 0 = r.running }; released = record { 0 = r.released } }

-- two are the same: code, running and released
abbrev pub alike : Kept → Kept → Bool
alike x y = eqb x.code y.code && eqb x.running.0 y.running.0 && eqb x.released.0 y.released.0

-- In one number: code + 256 * running + 65536 * released. Shape is 1, 0, 0 and so 1.
abbrev pub packed : Kept → ℕ
packed k = k.code + 256 * k.running.0 + 65536 * k.released.0
