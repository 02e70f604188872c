-- What one turn of the loop over the holders does. Assumes nothing.
use Prim.Native.Nat.{ℕ, suc, ◌+◌, ◌≤◌, ◌<◌}
use native.Mathlib.Numerals.{add-one}
use mathlib.Core.Path.{◌≡◌, ◌∙◌}
use mathlib.Core.Bool.{true, false, ◌&&◌}
use mathlib.Core.List.{List, ◌∷◌}
use lib.Dec.{eqb}
use lib.ListN.{length, drop, set, drop_of_length-le}
use lib.Seq.{drop-cons}
use borrow.Author.Tests.{eq-eqb, ne_eqb, le-leb, lt-leb}
use Rattle.rules.specs.Line.{at}
use Rattle.kernel_cells.specs.Cells.{holders_fit, admits}

module _ (ceiling taken base held : List ℕ) (t : ℕ) (h : t < length held) (k : t < length base) where
  turn : holders_fit ceiling taken (drop t base) (drop t held) ≡ holders_fit ceiling taken (at base t ∷ drop (suc t) base) (at held t ∷ drop (suc t) held)
  turn = rw (drop-cons held t 0 h, drop-cons base t 0 k)

  pub holders_skip : at held t ≡ 0 → holders_fit ceiling taken (drop t base) (drop t held) ≡ holders_fit ceiling taken (drop (t + 1) base) (drop (t + 1) held)
  unfolding holders_fit
  holders_skip e = turn ∙ rw (eq-eqb (at held t) 0 e, add-one)

  module _ (n : at held t ≡ 0 → ⊥) where
    pub holders_out : 8 ≤ at held t → holders_fit ceiling taken (drop t base) (drop t held) ≡ false
    unfolding holders_fit
    holders_out o = turn ∙ rw (ne_eqb (at held t) 0 n, le-leb 8 (at held t) o)

    pub holders_stop : at held t < 8 → eqb (at taken (at held t)) 0 && admits (at ceiling (at held t)) (at base t) ≡ false
        → holders_fit ceiling taken (drop t base) (drop t held) ≡ false
    unfolding holders_fit
    holders_stop o e = turn ∙ rw (ne_eqb (at held t) 0 n, lt-leb 8 (at held t) o, e)

    pub holders_step : at held t < 8 → eqb (at taken (at held t)) 0 && admits (at ceiling (at held t)) (at base t) ≡ true
        → holders_fit ceiling taken (drop t base) (drop t held) ≡ holders_fit ceiling (set taken (at held t) 1) (drop (t + 1) base) (drop (t + 1) held)
    unfolding holders_fit
    holders_step o e = turn ∙ rw (ne_eqb (at held t) 0 n, lt-leb 8 (at held t) o, e, add-one)

pub holders_done : (ceiling taken base held : List ℕ) (t : ℕ) → length held ≤ t → holders_fit ceiling taken (drop t base) (drop t held) ≡ true
unfolding holders_fit
holders_done ceiling taken base held t h = rw (drop_of_length-le held h)
