-- `keep` meets its contract: the part behind the index comes back with the record in front. Assumes nothing.
use mathlib.Core.Path.{◌≡◌, ap, ◌∙◌}
use native.Mathlib.Nat.{le_of_eq}
use native.Mathlib.Omega.{arith}
use lib.ListN.{length}
use lib.Seq.{sets, take_all}
use Rattle.salvaging.proofs.Stores.{put_front, rest_long}
use Rattle.salvaging.proofs.sinks.keep.Goals as goal

pub returns-in-Some : goal.returns-in-Some
returns-in-Some c =
    let a = c.args in
    let e : c.in-Some.record.now ≡ a.kept.now = c.in-Some.ensures.cases.same ∙ take_all 16 a.kept.now (le_of_eq c.requires.0) in
    put_front a.out.now a.w 16 _ _ c.store.ensures (ap length e ∙ c.requires.0) (omega arith) ∙ ap (sets a.out.now a.w) e

pub store-requires : goal.store-requires
store-requires c = rest_long c.args.out.now c.args.w 16 (omega arith)
