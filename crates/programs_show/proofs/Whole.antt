-- The status of show. Assumes nothing.
use Prim.Native.Nat.{ℕ}
use mathlib.Core.Bool.{Bool, true, false, cond, not, ◌&&◌}
use lib.Dec.{eqb, ltb}
use mathlib.Core.Path.{◌≡◌, sym, ap, ◌∙◌}
use mathlib.Core.Logic.{inl, inr}
use Rattle.show_text.specs.declared.Showing.{Showing}
use Rattle.show_text.specs.Show.{at_first, show_after, lines_seen}
use Rattle.programs_flow.specs.declared.Went.{Went}
use Rattle.programs_flow.specs.Loops.{behind}
use Rattle.programs_show.specs.Work.{Shown, missing, ShownOrFailed, DoneRefusedFailed}

-- the status: by the lines that were seen
pub status_so : (only : ℕ) (w : Showing) (went : Went) (seen r : ℕ) (b : Bool) → Shown only w went → seen ≡ lines_seen w → not (eqb only 0) && ltb seen only ≡ b
    → r ≡ cond b 2 0 → ShownOrFailed only r
status_so only w went seen r b s e t f =
    inl (
      s.0,
      f ∙ ap (λ (x : Bool). cond x 2 0)
          (sym t ∙ ap (λ (n : ℕ). not (eqb only 0) && ltb n only) e ∙ ap (λ (v : Showing). missing only v) s.2),
    )

pub answers : (only r : ℕ) → ShownOrFailed only r → DoneRefusedFailed r
answers only r (inl (ps, e)) = go (missing only (behind show_after at_first ps)) e
  where
    go : (b : Bool) → r ≡ cond b 2 0 → DoneRefusedFailed r
    go true e = inr (inl e)
    go false e = inl e
answers only r (inr e) = inr (inr e)
