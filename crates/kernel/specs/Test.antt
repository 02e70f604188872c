-- The test of a saved state (crate kernel_sound), of the tables of a state. (proofs/Tested shows that it is is_sound, no
-- more and no less.)
use Rattle.std.specs.Prelude.{Bool, List, ℕ}
use Rattle.kernel_sound.specs.Test as test
use Rattle.kernel.specs.declared.Kernel.{Kernel}

-- where each task stands: 1 ready, 2 delayed, 3 waiting, 0 nowhere, 9 twice
abbrev pub places_of : Kernel → List ℕ
places_of k = test.places k.ready k.delayed k.waiter

abbrev pub test_of : Kernel → Bool
test_of k = test.test_of k.base k.ready k.delayed k.held k.way k.until k.ceiling k.waiter
    k.clock k.started
