-- The judgement of a record's fields at a place of a tape, by which the writer and the reader go. Assumes nothing.
use Rattle.std.specs.Prelude.{ℕ, cond, eqb, Result, Ok, Err}
use Rattle.rules.specs.declared.Refusal.{Refusal}
use Rattle.rules.specs.declared.Refusal.TheVariants.{Record as NoRecord, Seed}
use Rattle.record.specs.declared.Record.{Record}
use Rattle.record.specs.Form.{header_fields, command_fields, is_seed}

-- fields as a header: 15 (Record) for none, 17 (Seed) for a header else right whose value is no seed
abbrev pub header_fault : Record → Result Unit Refusal
header_fault r = cond (header_fields r) (cond (is_seed r.value) (Ok tt) (Err Seed)) (Err NoRecord)

-- fields as a command record: 15 (Record) for none
abbrev pub command_fault : Record → Result Unit Refusal
command_fault r = cond (command_fields r) (Ok tt) (Err NoRecord)

-- fields at a place: the header stands at place 0 and only there
unfoldable pub fault_of : ℕ → Record → Result Unit Refusal
fault_of at r = cond (eqb at 0) (header_fault r) (command_fault r)
