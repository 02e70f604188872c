-- What the code does to the tables, op by op: the contracts of the functions inside this crate, and of the public
-- step_trusting (stepped_of). (proofs/ ties each to the rules: of a sound state stepped_of is step_of, Whole: step_meets.
-- The other public contracts need none of this.)
use Rattle.std.specs.Prelude.{ℕ, ◌+◌, ◌^◌, Bool, true, cond, ◌&&◌, List, eqb, leb, ltb, set, Result, Ok, Err}
use Rattle.rules.specs.declared.Kind.{Kind}
use Rattle.rules.specs.declared.Refusal.{Refusal}
use Rattle.rules.specs.Numbers.{number_of}
use Rattle.rules.specs.declared.Kind.TheVariants.{NoKind, Creating, Declaring, Starting, Delaying, Waking, Advancing}
use Rattle.rules.specs.declared.Kind.TheVariants.{Opening, Entering, Ending}
use Rattle.rules.specs.Machine.{Command, for_open, for_entry}
use Rattle.rules.specs.Kinds.{kind}
use Rattle.rules.specs.Table.{opens}
use Rattle.rules.specs.Refusals.{refusal}
use Rattle.kernel_line.specs.Tables.{place, pop, later, more, with_time}
use Rattle.kernel_ready.specs.Ready.{runner_in, popped, tailed, to_tail}
use Rattle.kernel_close.specs.Moves.{waits_in, closed_line}
use Rattle.kernel_wake.specs.Due.{due_in}
use Rattle.kernel.specs.declared.Kernel.{Kernel}
use Rattle.kernel.specs.declared.Stepped.{Stepped}
use Rattle.kernel.specs.declared.Left.{Left}
use Rattle.kernel.specs.declared.command.Answer.{Answer}
use Rattle.kernel.specs.View.{view}
use Rattle.kernel.specs.Public.{Ends, answer_of, running_of}
pub use Rattle.kernel.specs.Lent.{tables}

-- the front of the ready line, and a line with a task at the tail of its base
abbrev pub runner_of : Kernel → ℕ
runner_of k = runner_in k.ready

abbrev pub to_tail_of : Kernel → ℕ → List ℕ → List ℕ
to_tail_of k t l = to_tail k.base k.ceiling k.held t l

-- the answer of an accepted command, from the state behind it
abbrev pub accepted : ℕ → ℕ → Answer
accepted x t = answer_of 0 x t

abbrev pub answered : Kernel → ℕ → Stepped
answered k t = record { next = k; answer = accepted (running_of k) t }

-- a state and a released task are what an accepted command leaves
abbrev pub Carried : Kernel → ℕ → Stepped → Type 0
Carried k t s = Ends k (accepted (running_of k) t) s

-- ---- the ops
unfoldable pub created_of : Kernel → ℕ → ℕ → Stepped
created_of k t p =
    let b = set k.base t p in
    answered (record k { base = b; ready = tailed b k.ceiling k.held p t k.ready }) 0

unfoldable pub declared_of : Kernel → ℕ → ℕ → Stepped
declared_of k o p = answered (record k { ceiling = set k.ceiling o p }) 0

unfoldable pub begun_of : Kernel → Stepped
begun_of k = answered (record k { started = true }) 0

unfoldable pub yielded_of : Kernel → Stepped
yielded_of k = answered (record k { ready = to_tail_of k (runner_of k) (popped k.ready) }) 0

unfoldable pub slept_of : Kernel → ℕ → Stepped
slept_of k v =
    let r = runner_of k in
    answered
    (record k { ready = popped k.ready; delayed = place (later k.until v) r k.delayed; until = with_time k.until r v })
    0

abbrev pub delayed_of : Kernel → ℕ → Stepped
delayed_of k v = cond (ltb k.clock v) (slept_of k v) (yielded_of k)

unfoldable pub woken_of : Kernel → ℕ → Stepped
woken_of k t =
    answered (record k { ready = to_tail_of k t k.ready; delayed = pop k.delayed; until = with_time k.until t 0 }) t

abbrev pub grown : ℕ → ℕ → ℕ
grown clock n = cond (ltb (clock + n) (2 ^ 64)) (clock + n) clock

unfoldable pub advanced_of : Kernel → ℕ → Stepped
advanced_of k n = answered (record k { clock = grown k.clock n }) 0

unfoldable pub held_of : Kernel → ℕ → ℕ → Stepped
held_of k o w =
    answered (record k { held = set k.held (runner_of k) o; way = set k.way (runner_of k) w }) 0

unfoldable pub served_of : Kernel → ℕ → ℕ → Kernel
served_of k o t = record k { ready = to_tail_of k t k.ready; waiter = set k.waiter o 0 }

unfoldable pub closed_of : Kernel → ℕ → Stepped
closed_of k t =
    let r = runner_of k in
    let l = closed_line k.base k.ceiling k.held k.ready in
    answered (record k { ready = l; held = set k.held r 0; way = set k.way r 0 }) t

unfoldable pub awaiting_of : Kernel → ℕ → Stepped
awaiting_of k o =
    answered (record k { ready = popped k.ready; waiter = set k.waiter o (runner_of k) }) 0

-- by the barrier: 1 where it is open
abbrev pub entered_of : Kernel → ℕ → ℕ → Stepped
entered_of k o b = cond (eqb b 1) (held_of k o for_entry) (awaiting_of k o)

-- whom a Wake wakes, and whom a close serves: 0 for nobody
abbrev pub due_of : Kernel → ℕ
due_of k = due_in k.delayed k.until k.clock

abbrev pub waiting_of : Kernel → ℕ → Bool → ℕ
waiting_of k o serves = waits_in k.waiter o serves

unfoldable pub wake_of : Kernel → Stepped
wake_of k = cond (eqb (due_of k) 0) (advanced_of k 0) (woken_of k (due_of k))

unfoldable pub closing_of : Kernel → ℕ → Bool → Stepped
closing_of k o serves =
    let t = waiting_of k o serves in
    cond (eqb t 0) (closed_of k 0) (closed_of (served_of k o t) t)

-- an accepted command of that kind, carried out
unfoldable pub carried_as : Kind → Kernel → Command → Stepped
carried_as NoKind k c = answered k 0
carried_as Creating k c = created_of k c.a c.b
carried_as Declaring k c = declared_of k c.a c.b
carried_as Starting k c = begun_of k
carried_as Delaying k c = delayed_of k c.value
carried_as Waking k c = wake_of k
carried_as Advancing k c = advanced_of k c.value
carried_as Opening k c = held_of k c.a for_open
carried_as Entering k c = entered_of k c.a c.b
carried_as (Ending e) k c = closing_of k c.a (e.serves && opens c)

-- the answer to a refused command
abbrev pub refused : ℕ → ℕ → Answer
refused n x = answer_of n x 0

-- the step without the test (of a sound state it is step_of: proofs/Whole, step_meets)
-- It is refused as the rules refuse it, of the machine that the tables show, whatever they hold.
unfoldable pub stepped_of : Kernel → Command → Stepped
stepped_of k c =
    cond (eqb (refusal (view k) c) 0) (carried_as (kind c) k c)
    (record { next = k; answer = refused (refusal (view k) c) (running_of k) })

-- ---- the question
abbrev pub due_count : ℕ → ℕ → ℕ → ℕ
due_count n time clock = cond (ltb n 32 && leb time clock) (more n) 0

-- the answer with a count, or with a refusal
abbrev pub left_as : Result ℕ Refusal → Left
left_as (Ok n) = record { code = 0; left = n }
left_as (Err r) = record { code = number_of r; left = 0 }
