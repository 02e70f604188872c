-- What a call from C answers, and what it leaves in the bytes that it was lent: of bytes of every length, whatever
-- they hold.
use Rattle.std.specs.Prelude.{ℕ, ◌+◌, ◌*◌, cond, ◌&&◌, List, eqb, leb, length, replicate}
use Rattle.rules.specs.Line.{one_if}
use Rattle.rules.specs.Machine.{Command}
use Rattle.rules_exceptions.specs.Exceptions.{fresh}
use Rattle.kernel.specs.declared.Left.{Left}
use Rattle.kernel.specs.Public.{to_rules}
use Rattle.kernel_state.specs.declared.Answer.{Answer}
use Rattle.kernel_state.specs.Public.{encode, step_of, left_of}
use Rattle.generator.specs.declared.Profile.{Profile}
use Rattle.generator.specs.declared.Drawn.{Drawn}
use Rattle.generator.specs.Public.{drawn_of, refused_of}
use Rattle.generator_evenly.specs.declared.Drawn as counted
use Rattle.generator_evenly.specs.Public.{bare}
use Rattle.generator_evenly.specs.Public as evenly
use Rattle.record_kept.specs.Kept as Kept
use Rattle.image_form.specs.Layout.{image_bytes, image_of, kernel_of, state_of, is_image}

-- The command that four numbers of any size say. None is cut: 260 is not 4.
abbrev pub told : ℕ → ℕ → ℕ → ℕ → Command
told op a b value = record { op = op; a = a; b = b; value = value }

-- What the kernel is asked, whose commands are of bytes: the command, or one of op 0, which is refused as it would be
-- (proofs/Cut).
abbrev pub fitted : Command → Command
fitted c = cond (leb c.op 255 && leb c.a 255 && leb c.b 255) c (told 0 0 0 0)

abbrev pub fitted_task : ℕ → ℕ
fitted_task t = cond (leb t 255) t 0

-- An answer in one number: what a record keeps of it, code + 256 * running + 65536 * released, and 16777216 more where
-- it shows an exception. Shape is 1, 0, 0, and shows none: so 1.
abbrev pub packed : Answer → ℕ
packed a =
    Kept.packed (record { code = a.code; running = a.running; released = a.released })
    + 16777216 * one_if a.exception

-- A step: the step of the state that the image holds. Bytes that are no image are 1.
unfoldable pub step_answer : List ℕ → Command → ℕ
step_answer s c = cond (is_image s) (packed (step_of (state_of s) c).answer) 1

-- An accepted step leaves the image of the state after it, a refused one the bytes as they were.
unfoldable pub step_image : List ℕ → Command → List ℕ
step_image s c =
    cond (is_image s && eqb (step_of (state_of s) c).answer.code 0) (image_of (step_of (state_of s) c).next) s

-- The fresh machine, whatever the bytes held: 0, or 1 for a wrong length.
unfoldable pub fresh_answer : List ℕ → ℕ
fresh_answer s = cond (eqb (length s) image_bytes) 0 1

unfoldable pub fresh_image : List ℕ → List ℕ
fresh_image s = cond (eqb (length s) image_bytes) (image_of (encode fresh)) s

-- "Wakes left" in one number: code + 256 * the count.
abbrev pub packed_left : Left → ℕ
packed_left l = l.code + 256 * l.left

unfoldable pub left_answer : List ℕ → ℕ → ℕ
left_answer s t = cond (is_image s) (packed_left (left_of (state_of s) t)) 1

-- The profile that a span of any size and a list of weights say. Where they are not eight the span is 0, and so 18
-- refuses it.
abbrev pub told_profile : ℕ → List ℕ → Profile
told_profile span weights = record { span = cond (eqb (length weights) 8) span 0; weights = weights }

-- What the generator is asked, whose profiles are of 32-bit numbers: the profile, or one of zeros, which is refused as
-- it would be (proofs/Cut).
abbrev pub fitted_profile : ℕ → List ℕ → Profile
fitted_profile span weights =
    cond (leb span 4294967295 && eqb (length weights) 8) (record { span = span; weights = weights })
    (record { span = 0; weights = replicate 8 0 })

-- A draw: the generator's draw over the tables that the image holds. Bytes that are no image are refused with 1, before
-- all else.
unfoldable pub draw_on : List ℕ → ℕ → Profile → Drawn
draw_on s seed p = cond (is_image s) (drawn_of (kernel_of s) seed p) (refused_of 1 seed)

-- In one number: code + 256 * op + 65536 * a + 16777216 * b.
abbrev pub packed_drawn : Drawn → ℕ
packed_drawn d = d.code + 256 * d.command.op + 65536 * d.command.a + 16777216 * d.command.b

unfoldable pub draw_answer : List ℕ → ℕ → ℕ → List ℕ → ℕ
draw_answer s seed span weights = packed_drawn (draw_on s seed (told_profile span weights))

-- The seed that an accepted draw leaves is advanced; a refused one leaves it as it was.
unfoldable pub draw_seed : List ℕ → ℕ → ℕ → List ℕ → ℕ
draw_seed s seed span weights = (draw_on s seed (told_profile span weights)).seed

-- The value that is left, of either edition: the drawn command's; a refused draw leaves what was there.
abbrev pub value_left : Drawn → ℕ → ℕ
value_left d value = cond (eqb d.code 0) d.command.value value

unfoldable pub draw_value : List ℕ → ℕ → ℕ → List ℕ → ℕ → ℕ
draw_value s seed span weights value = value_left (draw_on s seed (told_profile span weights)) value

-- A draw with its step: what is drawn is stepped, as a call of its own would step it. A refused draw steps nothing. In
-- one number: the draw's answer + 4294967296 * the step's, which is 0 where there is none.
unfoldable pub draw_step_answer : List ℕ → ℕ → ℕ → List ℕ → ℕ
draw_step_answer s seed span weights =
    let d = draw_on s seed (told_profile span weights) in
    packed_drawn d + 4294967296 * cond (eqb d.code 0) (step_answer s (to_rules d.command)) 0

-- The image that is left: the step's. (The seed and the value that are left are the draw's.)
unfoldable pub draw_step_image : List ℕ → ℕ → ℕ → List ℕ → List ℕ
draw_step_image s seed span weights =
    let d = draw_on s seed (told_profile span weights) in cond (eqb d.code 0) (step_image s (to_rules d.command)) s

-- A draw by even choices (edition 2): the same over that generator's draw, which tells the draws that it spent.
unfoldable pub draw_even_on : List ℕ → ℕ → Profile → counted.Drawn
draw_even_on s seed p = cond (is_image s) (evenly.drawn_of (kernel_of s) seed p) (evenly.refused_of 1 seed)

-- In one number: what is drawn, as a draw of edition 1 tells it, + 4294967296 * the draws spent, which are 0 for a
-- refusal.
abbrev pub packed_even : counted.Drawn → ℕ
packed_even d = packed_drawn (bare d) + 4294967296 * d.spent

unfoldable pub draw_even_answer : List ℕ → ℕ → ℕ → List ℕ → ℕ
draw_even_answer s seed span weights = packed_even (draw_even_on s seed (told_profile span weights))

-- The seed that an accepted one leaves is advanced by the draws spent; a refused one leaves it and the value.
unfoldable pub draw_even_seed : List ℕ → ℕ → ℕ → List ℕ → ℕ
draw_even_seed s seed span weights = (draw_even_on s seed (told_profile span weights)).seed

unfoldable pub draw_even_value : List ℕ → ℕ → ℕ → List ℕ → ℕ → ℕ
draw_even_value s seed span weights value = value_left (bare (draw_even_on s seed (told_profile span weights))) value
