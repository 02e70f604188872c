-- The loop over the pieces and what is printed behind it: turns by the laws of all programs (programs_flow/proofs/Turns), and what they come to on the whole
-- tape (proofs/Tapes). Assumes nothing.
use Prim.Native.Nat.{ℕ, zero, suc, ◌+◌, ◌≤◌}
use native.Mathlib.Omega.{arith}
use mathlib.Core.Bool.{Bool, true}
use mathlib.Core.Path.{◌≡◌, refl, ap, sym, subst, ◌∙◌}
use mathlib.Core.List.{List, []}
use mathlib.Core.Logic.{◌⊎◌, inl, inr}
use lib.ListN.{length, take, length-append}
use lib.Seq.{take-length, length-take-le}
use Rattle.programs_flow.specs.declared.State.{State}
use Rattle.programs_flow.specs.declared.State.TheVariants.{GoesOn, Ended, ReadFailed, WriteFailed}
use Rattle.programs_flow.specs.declared.Went.{Went}
use Rattle.programs_flow.specs.Flow.{nothing_yet, has_failed, Took}
use Rattle.programs_flow.specs.Loops.{Fed, Looped, Concluded, Parted, Over, behind, texts}
use Rattle.programs_flow.proofs.Turns.{Running, one_turn, in_all}
use Rattle.salvage_marks.specs.Pieces.{last_place}
use Rattle.programs_salvage.specs.declared.Stand.{Stand}
use Rattle.programs_salvage.specs.Work.{Between, before_all, kept_of, lines_of, both_of, then, end_of, Salvaged}
use Rattle.programs_salvage.specs.Turns.{standing, Sane, Turned}
use Rattle.programs_salvage.proofs.Tapes.{whole_tape}

-- a salvage always wants more
abbrev pub always : Between → Bool
always s = true

-- one turn more
pub ran_on : (t u : Between) (went now : Went) (turns : ℕ) (out text : List ℕ) → Running then both_of before_all t nothing_yet went turns → went.state ≡ GoesOn
    → Turned t u went now out text → Running then both_of before_all u nothing_yet now (turns + 1)
ran_on t u went now turns out text r on (inr unfed) = one_turn then both_of before_all t u nothing_yet went now turns r on [] [] (inr unfed)
ran_on t u went now turns out text r on (inl (p, (o, n, e, _, _, took))) =
    one_turn then both_of before_all t u nothing_yet went now turns r on p (both_of t p)
    (inl (subst (λ (l : List ℕ). Fed then both_of t u went now l (both_of t p)) whole fed))
  where
    whole : p ≡ take now.count p
    whole = sym (take-length p) ∙ ap (λ (k : ℕ). take k p) n

    fed : Fed then both_of t u went now p (both_of t p)
    fed = (o, e, take-length (both_of t p), subst (λ (k : ℕ). Took k GoesOn went now) (sym (length-append (kept_of t p) (lines_of t p))) took)

-- the whole run
module _ (x : Stand) (buf : List ℕ) (read went : Went) (l : Looped then both_of always before_all (standing x buf) nothing_yet read) (sane : Sane x)
    (o : x.held ≤ length buf) (c : Concluded (end_of x.torn x.held x.kept) read went) where
  abbrev last : Between
  last = behind then before_all l.pieces

  held_so : length (take x.held buf) ≡ x.held
  held_so = length-take-le x.held buf o

  placed : last.torn.place + length last.held ≤ last_place
  placed = omega (arith, ap (λ (s : Between). s.torn.place + length s.held) l.state, held_so, sane.1)

  printed : length (end_of x.torn x.held x.kept) ≡ length (end_of last.torn (length last.held) last.kept)
  printed =
      ap (λ (n : ℕ). length (end_of x.torn n x.kept)) (sym held_so)
      ∙ ap (λ (s : Between). length (end_of s.torn (length s.held) s.kept)) l.state

  pub finished : Salvaged went
  finished = go (in_all then both_of always before_all (standing x buf) [] (end_of x.torn x.held x.kept) went parted)
    where
      -- (the header is empty)
      parted : Parted then both_of always before_all (standing x buf) [] (end_of x.torn x.held x.kept) went
      parted = record { headed = nothing_yet; read = read; first = inl (refl, refl); loop = l; end = c }

      by_state : (k : State) → went.state ≡ k
          → went.sent ≡ 0 + (length (texts then both_of before_all l.pieces) + length (end_of x.torn x.held x.kept)) → Salvaged went
      by_state GoesOn e s = inr (inr e)
      by_state Ended e s = inl (e, (l.pieces, l.none_empty, omega (arith, s, printed, whole_tape l.pieces placed)))
      by_state ReadFailed e s = inr (inl (ap has_failed e))
      by_state WriteFailed e s = inr (inl (ap has_failed e))

      go : (has_failed went.state ≡ true)
          ⊎ ((went.sent ≡ 0 + (length (texts then both_of before_all l.pieces) + length (end_of x.torn x.held x.kept)))
          × Over always (behind then before_all l.pieces) l.pieces went)
          → Salvaged went
      go (inl f) = inr (inl f)
      go (inr (s, _)) = by_state went.state refl s
