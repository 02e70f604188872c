-- A drawn command: the profile, the choice by weights, the operands, and the refusals of a draw. Both editions are one
-- definition over how a number below n is chosen.
use Rattle.std.specs.Prelude.{ℕ, ◌+◌, ◌%◌, Bool, false, cond, not, ◌&&◌, List, [], ◌∷◌, eqb, leb, ltb}
use Rattle.rules.specs.Line.{at, every, within}
use Rattle.rules.specs.Machine.{Machine, Command}
use Rattle.rules.specs.Refusals.{first_number}
use Rattle.generator_draws.specs.Below.{Choice, Chooser, remainder, even, if_needed}
use Rattle.generator_draws.specs.Menu.{Offer, menu}

-- Kinds in op order 4..11, each with a weight: delay, wake, advance, open, closep, closef, entry, done.
pub record Profile : Type 0 where
  pub span : ℕ
  pub weights : List ℕ

abbrev pub profile_of : ℕ → List ℕ → Profile
profile_of span weights = record { span = span; weights = weights }

-- each offer with what it weighs: its weight if it is legal, and else nothing
abbrev pub weigh : List Offer → List ℕ → List (ℕ × Offer)
weigh [] ws = []
weigh (o ∷ l) [] = []
weigh (o ∷ l) (w ∷ ws) = (cond o.legal w 0, o) ∷ weigh l ws

abbrev pub weighed_menu : Machine → Profile → List (ℕ × Offer)
weighed_menu m p = weigh (menu m p.span) p.weights

-- S is the sum of the legal weights.
abbrev pub total : List (ℕ × Offer) → ℕ
total [] = 0
total (x ∷ l) = x.0 + total l

abbrev pub no_command : Command
no_command = record { op = 0; a = 0; b = 0; value = 0 }

abbrev pub no_offer : Offer
no_offer = record { legal = false; operand = 0; barrier = λ x. 0; command = λ x y. no_command }

-- The kind is the first whose running sum exceeds d: `sum` is that of the kinds before.
abbrev pub choose : ℕ → ℕ → List (ℕ × Offer) → Offer
choose d sum [] = no_offer
choose d sum (x ∷ l) = cond (ltb d (sum + x.0)) x.1 (choose d (sum + x.0) l)

-- Kind, operand and barrier are each one choice, made one after another; what is not needed spends one draw. What they
-- give: the command, the seed left behind, and the draws spent.
pub record Made : Type 0 where
  pub command : Command
  pub seed : ℕ
  pub spent : ℕ

abbrev pub filled : Chooser → Offer → Choice → Made
filled choice o kind =
    let operand = if_needed choice o.operand kind.seed in
    let barrier = if_needed choice (o.barrier operand.number) operand.seed in
    record {
      command = o.command operand.number barrier.number;
      seed = barrier.seed;
      spent = kind.spent + operand.spent + barrier.spent;
    }

unfoldable pub made_by : Chooser → Machine → ℕ → Profile → Made
made_by choice m seed p =
    let l = weighed_menu m p in
    let kind = choice (total l) seed in
    filled choice (choose kind.number 0 l) kind

-- 18 Profile: span not 1..1000000, a weight above 100, or Wake's weight 0
abbrev pub good_profile : Profile → Bool
good_profile p = within 1 1000000 p.span && every (λ w. leb w 100) p.weights && leb 1 (at p.weights 1)

-- A draw's checks: [1,] 17, 18, 2.
abbrev pub refused_by : Bool → ℕ → Profile → ℕ
refused_by started seed p =
    first_number
    ((eqb seed 0, 17) ∷  -- 17 Seed: seed 0 [..]
    (not (good_profile p), 18) ∷
    (not started, 2) ∷ [])  -- 2 Early: [ops 4..11 or] a draw before Start

unfoldable pub draw_refusal : Machine → ℕ → Profile → ℕ
draw_refusal m seed p = refused_by m.started seed p

-- A drawn command of either edition: code, command, the seed left behind, and the draws spent. A refused draw answers
-- op 0 with zero operands and the same seed, and spends none.
pub record Spending : Type 0 where
  pub code : ℕ
  pub command : Command
  pub seed : ℕ
  pub spent : ℕ

unfoldable pub drawn_by : Chooser → Machine → ℕ → Profile → Spending
drawn_by choice m seed p =
    let d = made_by choice m seed p in
    cond (eqb (draw_refusal m seed p) 0)
    (record { code = 0; command = d.command; seed = d.seed; spent = d.spent })
    (record { code = draw_refusal m seed p; command = no_command; seed = seed; spent = 0 })

-- Edition 1. Its draws are three for each command, used or not, so they need not be told.
pub record Drawn : Type 0 where
  pub code : ℕ
  pub command : Command
  pub seed : ℕ

-- By three draws d1, d2, d3 in place of a seed: the numbers are d1 mod S, d2 mod n and d3 mod n, where they are needed.
abbrev pub remainder_if_needed : ℕ → ℕ → ℕ
remainder_if_needed n d = cond (eqb n 0) 0 (d % n)

abbrev pub command_by : Offer → ℕ → ℕ → Command
command_by o d2 d3 =
    let x = remainder_if_needed o.operand d2 in
    o.command x (remainder_if_needed (o.barrier x) d3)

unfoldable pub chosen : Machine → Profile → ℕ → ℕ → ℕ → Command
chosen m p d1 d2 d3 = let l = weighed_menu m p in command_by (choose (d1 % total l) 0 l) d2 d3

unfoldable pub drawn : Machine → ℕ → Profile → Drawn
drawn m seed p = let d = drawn_by remainder m seed p in record { code = d.code; command = d.command; seed = d.seed }

-- Edition 2.
unfoldable pub drawn_evenly : Machine → ℕ → Profile → Spending
drawn_evenly m seed p = drawn_by even m seed p
