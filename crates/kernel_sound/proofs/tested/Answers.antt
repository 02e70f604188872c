-- `tested` meets its contract: each part of the test is its callee's contract. Assumes nothing.
use Rattle.kernel_sound.specs.Test.{test_of, places}
use Rattle.kernel_sound.proofs.tested.Goals as goal

pub returns : goal.returns
unfolding test_of places
returns c =
    rw (
      c.is_calm-calm.ensures,
      c.objects_fit-objects.ensures,
      c.holders_fit-holders.ensures,
      c.times_fit-times.ensures,
      c.tasks_fit-tasks.ensures,
      c.mark_waiting-place.ensures,
      c.mark_line-place-2.ensures,
      c.mark_line-place.ensures,
      c.is_rising-rising.ensures,
      c.is_falling-falling.ensures,
      c.is_ended-2.ensures,
      c.is_ended.ensures,
    )
