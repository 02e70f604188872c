-- What show does, as far as a contract can say it (crate programs_flow, specs/Loops), and what it answers.
use Rattle.std.specs.Prelude.{ℕ, Bool, cond, not, ◌&&◌, ◌≡◌, List, ◌++◌, ◌⊎◌, eqb, ltb}
use Rattle.programs_flow.specs.declared.Went.{Went}
use Rattle.programs_flow.specs.Loops.{behind, Ran}
use Rattle.text.specs.Printed.{walk_header}
use Rattle.show_text.specs.declared.Showing.{Showing}
use Rattle.show_text.specs.Show.{at_first, show_after, printed, lines_seen, wants}

-- A whole run of show: w stands behind pieces, none of them empty; and a read or a write failed, or as many bytes were
-- taken as all that is printed of them has, from the header on.
abbrev pub Shown : ℕ → Showing → Went → Type 0
Shown only w went = Ran show_after (wants only) at_first (λ ps. walk_header ++ printed only at_first ps) w went

-- One line is asked for, and the input has fewer.
abbrev pub missing : ℕ → Showing → Bool
missing only w = not (eqb only 0) && ltb (lines_seen w) only

-- Show of some pieces: 0, or 2 where they have no such line as is asked for; or 3 where a read or a write failed. (That
-- they are the pieces that were read no contract can say: host/io.py tries it.)
abbrev pub ShownOrFailed : ℕ → ℕ → Type 0
ShownOrFailed only r =
    ((ps : List (List ℕ)) × (r ≡ cond (missing only (behind show_after at_first ps)) 2 0)) ⊎ (r ≡ 3)

-- Show with the word of the command line: 0, 2 or 3.
abbrev pub DoneRefusedFailed : ℕ → Type 0
DoneRefusedFailed r = (r ≡ 0) ⊎ (r ≡ 2) ⊎ (r ≡ 3)
