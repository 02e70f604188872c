-- What the functions inside this crate leave, of bytes s that are read into tables which held k.
-- (The calls' own contracts, in Calls, need none of it.)
use Rattle.std.specs.Prelude.{ℕ, cond, List}
use Rattle.rules.specs.Machine.{Command}
use Rattle.kernel.specs.declared.Kernel.{Kernel}
use Rattle.kernel.specs.declared.Stepped.{Stepped}
use Rattle.kernel.specs.Public.{to_rules, report, shape, step_of}
use Rattle.generator.specs.declared.Profile.{Profile}
use Rattle.generator.specs.declared.Carried.{Carried}
use Rattle.generator.specs.Public.{drawn_of, refused_of, behind_draw, unmoved, answer_to, carried_of}
use Rattle.image_form.specs.Layout.{kernel_of, readable}
use Rattle.image_edge.specs.Edge.{told_in, image_left}
use Rattle.image_work.specs.declared.Done.{Done}

-- The step of what is read. Bytes of which no state can be read leave the tables, and are answered 1, 0, 0.
abbrev pub step_read : List ℕ → Kernel → Command → Stepped
step_read s k c = cond (readable s) (step_of (kernel_of s) c) (report k shape)

-- A draw with its step, of what is read: what is drawn and answered,
abbrev pub drawn_read : List ℕ → ℕ → Profile → Carried
drawn_read s seed p =
    let d = drawn_of (kernel_of s) seed p in
    cond (readable s) (carried_of d (answer_to (kernel_of s) d)) (carried_of (refused_of 1 seed) (unmoved 1 0))

-- and the tables behind it.
abbrev pub behind_read : List ℕ → Kernel → ℕ → Profile → Kernel
behind_read s k seed p = cond (readable s) (behind_draw (kernel_of s) (drawn_of (kernel_of s) seed p)) k

-- What goes out of it: what is drawn, and the answer to it in one number; and the image behind it.
abbrev pub done_read : List ℕ → ℕ → Profile → Done
done_read s seed p =
    let r = drawn_read s seed p in
    record { drawn = r.drawn; told = told_in s (to_rules r.drawn.command) r.answer }

abbrev pub image_read : List ℕ → Kernel → ℕ → Profile → List ℕ
image_read s k seed p =
    let r = drawn_read s seed p in image_left s (behind_read s k seed p) (to_rules r.drawn.command) r.answer
