-- `sound` on lent tables is is_sound: `tested` makes the test of specs/Test, and Tested shows that this is is_sound, for the sizes that
-- the types give (`sized`). Assumes nothing.
use mathlib.Core.Path.{◌∙◌}
use Rattle.kernel.specs.declared.Kernel.{Kernel}
use Rattle.kernel.specs.Lent.{tables}
use Rattle.kernel.proofs.Passed.{Fits}
use Rattle.kernel.proofs.Tested.{test_same}
use borrow.Author.Rules.{rules}
use Rattle.kernel.proofs.on_tables.sound.Goals as goal

pub returns : goal.returns
returns c =
    let a = c.args in
    let k : Kernel =
    tables a.base.now a.ready.now a.delayed.now a.held.now a.way.now a.until.now
    a.ceiling a.waiter a.clock a.started in
    let z = c.sized.ensures in
    let fits : Fits k = record {
      sizes = record {
        base = z.0;
        ready = z.1;
        delayed = z.2;
        held = z.3;
        way = z.4;
        until = z.5;
        ceiling = search rules;
        waiter = search rules;
      };
      clock = search rules;
      times = z.6;
    } in
    c.tested.ensures ∙ test_same k fits
