-- The decimal stands at the front of its buffer.
use Rattle.std.proofs.Common.{replicate}
use Rattle.decimal.specs.Decimal.{decimal}
use Rattle.decimal.proofs.Stores.{put_in_front}
use Rattle.decimal.proofs.BothWays.{decimal_most}
use Rattle.programs_show.proofs.say_number.Goals as goal

pub slice_bounds-out-end : goal.slice_bounds-out-end
slice_bounds-out-end g c =
    let put = c.put_decimal-end in
    let n = c.args.n in
    (put_in_front 20 (decimal n) (replicate 20 0) put.new.out put.result put.ensures.0 put.ensures.1 (decimal_most n)).0

pub slice_bounds-write_all-end : goal.slice_bounds-write_all-end
slice_bounds-write_all-end g c =
    let put = c.put_decimal-end in
    let n = c.args.n in
    (put_in_front 20 (decimal n) (replicate 20 0) put.new.out put.result put.ensures.0 put.ensures.1 (decimal_most n)).1
