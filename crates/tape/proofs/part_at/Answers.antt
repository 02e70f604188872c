-- The part of a record is the 16 bytes from its place on.
use mathlib.Core.Path.{◌≡◌, refl}
use native.Mathlib.Omega.{arith}
use Rattle.std.specs.Prelude.{Some, Ok}
use Rattle.tape_form.specs.Read.{read_of}
use Rattle.tape_form.proofs.Reading.{found_part}
use Rattle.tape.proofs.part_at.Goals as goal

pub returns-in-Ok-Some : goal.returns-in-Ok-Some
returns-in-Ok-Some c =
    let a = c.args in
    let x = c.in-Ok-Some in
    let e : read_of a.tape.now a.at ≡ Ok (Some (x.field-0-0-0, x.next)) = cc in
    let p = found_part a.tape.now a.at x.field-0-0-0 x.next e in
    (p.0, refl, omega (arith, p.1))
