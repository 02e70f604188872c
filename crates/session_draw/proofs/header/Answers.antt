-- `session_draw::header` meets its contract. Assumes nothing.
use Rattle.text.specs.Printed.{draw_header}
use Rattle.text.proofs.Bounds.{draw_header_short}
use Rattle.decimal.proofs.Stores.{put_in_front}
use Rattle.session_draw.proofs.header.Goals as goal

pub returns : goal.returns
returns c =
    let put = c.put_draw_header in
    let out = c.args.out.now in
    (put.ensures.0, put.ensures.1, put_in_front 64 draw_header out put.new.out put.result put.ensures.0 put.ensures.1 draw_header_short)
