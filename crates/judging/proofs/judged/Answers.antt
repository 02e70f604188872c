-- `judged` meets its contract: a judge that is fed a whole tape says Verdict's judgement (Whole). Assumes nothing.
use native.Mathlib.Omega.{arith}
use Prim.Native.Nat.{◌<◌}
use lib.ListN.{length}
use Rattle.judging.proofs.Whole.{whole_tape}
use Rattle.judging.proofs.judged.Goals as goal

pub returns : goal.returns
returns c =
    let s = c.args.tape.now in
    let o : length s < 18446744073709551616 = omega arith in
    rw (c.end.ensures, c.feed.ensures, c.fresh.ensures) (whole_tape s o)
