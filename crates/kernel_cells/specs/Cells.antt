-- The cells of a saved state as the code tests them, table by table. `place` says where each task stands: 1 ready, 2
-- delayed, 3 waiting, 0 nowhere, 9 twice. (Crate kernel shows that the whole test is document 01's soundness of the
-- machine that the tables stand for, with every unused cell 0: no more and no less.)
use Rattle.std.specs.Prelude.{ℕ, Bool, true, cond, not, ◌&&◌, ◌||◌, List, [], ◌∷◌, eqb, leb, ltb, set}
use Rattle.rules.specs.Line.{at, all_below}

-- a task: its base is in range, it stands once where it is created and nowhere else, and it holds an object in one of
-- two ways, if it is ready
abbrev pub task_fits : ℕ → ℕ → ℕ → ℕ → Bool
task_fits base place held way =
    let stands = eqb base 0 && eqb place 0 || not (eqb base 0) && not (eqb place 0) in
    let hands = eqb held 0 && eqb way 0 || not (eqb held 0) && not (eqb way 0) && eqb place 1 in
    leb base 15 && leb place 3 && leb way 2 && stands && hands

unfoldable pub tasks_fit : List ℕ → List ℕ → List ℕ → List ℕ → Bool
tasks_fit base place held way = all_below 32 (λ t. task_fits (at base t) (at place t) (at held t) (at way t))

-- only a delayed task has a time
unfoldable pub times_fit : List ℕ → List ℕ → Bool
times_fit until place = all_below 32 (λ t. eqb (at until t) 0 || eqb (at place t) 2)

-- a task of that base may hold or wait on an object of that ceiling
abbrev pub admits : ℕ → ℕ → Bool
admits ceiling base = not (eqb ceiling 0) && leb base ceiling

-- task by task: a holder's object is one that no task before it holds, and admits it
unfoldable pub holders_fit : List ℕ → List ℕ → List ℕ → List ℕ → Bool
holders_fit ceiling taken base [] = true
holders_fit ceiling taken [] (o ∷ held) = true
holders_fit ceiling taken (b ∷ base) (o ∷ held) =
    cond (eqb o 0) (holders_fit ceiling taken base held)
    (not (leb 8 o) && (eqb (at taken o) 0 && admits (at ceiling o) b) && holders_fit ceiling (set taken o 1) base held)

-- an object with its ceiling, who waits on it, and that task's base
abbrev pub object_fits : ℕ → ℕ → ℕ → ℕ → Bool
object_fits o ceiling w base =
    (not (eqb o 0) || eqb ceiling 0) && leb ceiling 15 && (eqb w 0 || ltb w 32 && admits ceiling base)

unfoldable pub objects_fit : List ℕ → List ℕ → List ℕ → Bool
objects_fit base ceiling waiter = all_below 8 (λ o. object_fits o (at ceiling o) (at waiter o) (at base (at waiter o)))
