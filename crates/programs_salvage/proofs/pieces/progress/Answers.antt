-- A decimal and no more fits in the line.
use Rattle.std.proofs.Common.{replicate}
use Rattle.decimal.specs.Decimal.{decimal}
use Rattle.decimal.proofs.Stores.{put_in_front}
use Rattle.decimal.proofs.BothWays.{decimal_most}
use Rattle.programs_salvage.proofs.pieces.progress.Goals as goal

pub slice_bounds-line-end : goal.slice_bounds-line-end
slice_bounds-line-end g c =
    let put = c.put_decimal-n in
    let w = c.args.wanted in
    (put_in_front 20 (decimal w) (replicate 64 0) put.new.out put.result put.ensures.0 put.ensures.1 (decimal_most w)).0

pub slice_bounds-write_all-end : goal.slice_bounds-write_all-end
slice_bounds-write_all-end g c =
    let put = c.put_decimal-n in
    let w = c.args.wanted in
    (put_in_front 20 (decimal w) (replicate 64 0) put.new.out put.result put.ensures.0 put.ensures.1 (decimal_most w)).1
