-- The test of a saved state as the code makes it, table by table. (Crate kernel shows that it is document 01's
-- soundness of the machine that the tables stand for, with every unused cell 0: no more and no less.)
use Rattle.std.specs.Prelude.{ℕ, Bool, ◌&&◌, ◌||◌, List, eqb, leb, replicate}
use Rattle.rules.specs.Line.{at}
use Rattle.kernel_line.specs.Tables.{zeros, no_task}
use Rattle.kernel_order.specs.Order.{falls, rises, ended}
use Rattle.kernel_marks.specs.Marks.{marks}
use Rattle.kernel_cells.specs.Cells.{tasks_fit, times_fit, holders_fit, objects_fit}

-- where each task stands: 1 ready, 2 delayed, 3 waiting, 0 nowhere, 9 twice
unfoldable pub places : List ℕ → List ℕ → List ℕ → List ℕ
places ready delayed waiter =
    marks (leb 32) 3 waiter (marks no_task 2 delayed (marks no_task 1 ready (replicate 32 0)))

abbrev pub is_calm : Bool → ℕ → ℕ → List ℕ → List ℕ → Bool
is_calm started clock first waiter held = started || eqb clock 0 && eqb first 0 && zeros waiter && zeros held

unfoldable pub test_of : List ℕ → List ℕ → List ℕ → List ℕ → List ℕ → List ℕ → List ℕ → List ℕ → ℕ → Bool → Bool
test_of base ready delayed held way until ceiling waiter clock started =
    let place = places ready delayed waiter in
    ended ready && ended delayed &&
    falls base ceiling held 15 ready && rises until 0 delayed &&
    tasks_fit base place held way && times_fit until place &&
    holders_fit ceiling (replicate 8 0) base held && objects_fit base ceiling waiter &&
    is_calm started clock (at delayed 0) waiter held
