-- The part from the place on comes back with the record's bytes in front. Assumes nothing.
use Rattle.std.proofs.Common.{◌≡◌, ◌∙◌, ap, sym, ◌++◌, take, drop, length, Ok, rules}
use Rattle.std.proofs.lemmas.List.{drop-drop}
use Rattle.tape.proofs.Copy.{put_back}
use Rattle.record.specs.Form.{bytes_of}
use Rattle.tape_form.specs.Write.{write_code}
use Rattle.tape_form.proofs.Writing.{write_is}
use Rattle.tape.proofs.write_at.Goals as goal

pub returns : goal.returns
returns c =
    let a = c.args in
    let s = a.out.now in
    let ok : write_code (length s) a.at a.r ≡ Ok tt = search rules in (
      sym ok,
      put_back s c.bytes_of.result _ a.at c.put.ensures
          ∙ ap (λ q. take a.at s ++ (q ++ drop 16 (drop a.at s))) c.bytes_of.ensures
          ∙ ap (λ x. take a.at s ++ (bytes_of a.r ++ x)) (drop-drop 16 a.at s)
          ∙ sym (write_is s a.at a.r ok),
    )
