-- The block of one state with every line in it, by computing. (That the block is put as it is defined, the contracts say; which words and numbers it has is
-- a definition, and this holds it to docs/SHOW.md. The last task and the last object are in it, and numbers that could stand for each other differ.) Assumes nothing.
use Prim.Native.Nat.{ℕ}
use mathlib.Core.Bool.{true, false}
use mathlib.Core.Path.{◌≡◌, refl}
use mathlib.Core.List.{[], ◌∷◌, ◌++◌}
use Rattle.rules.specs.Machine.{Machine}
use Rattle.kernel.specs.View.{times}
use Rattle.queue_chip.specs.declared.Queue.{Queue}
use Rattle.queue_chip.specs.Queue.{queue}
use Rattle.decimal.specs.Decimal.{decimal, decimal_in}
use Rattle.text.specs.Words.{bytes}
use Rattle.show_text.specs.Block.{each, flags_text, task_text, tasks_text, ready_list, ready_text, delay_list, delay_text, owed_text, pending_text}
use Rattle.show_text.specs.Block.{holder_below, numbers_text, object_line, object_text, objects_text, entry_text, registers_text, cell_text}
use Rattle.show_text.specs.Block.{table_text, block}

-- Task 3 runs, in an entry of object 5, on which task 25 waits; task 20 is ready; 12, 18, 27 and 31 sleep. Object 7 is free. (`times` is a table by its cells:
-- what is in it, and for which task.)
abbrev machine : Machine
machine = record {
  base = times ((7, 3) ∷ (5, 12) ∷ (4, 18) ∷ (9, 20) ∷ (6, 25) ∷ (10, 27) ∷ (8, 31) ∷ []);
  ceiling = 0 ∷ 0 ∷ 0 ∷ 0 ∷ 0 ∷ 11 ∷ 0 ∷ 13 ∷ [];
  held = times ((5, 3) ∷ []);
  way = times ((2, 3) ∷ []);
  queue = [] ∷ [] ∷ [] ∷ [] ∷ [] ∷ (25 ∷ []) ∷ [] ∷ [] ∷ [];
  ready = 3 ∷ 20 ∷ 0 ∷ [];
  delay = (340, 12) ∷ (1500, 18) ∷ (1500, 31) ∷ (2100, 27) ∷ [];
  clock = 77;
  started = true;
}

-- the chip's queue beside it, and exceptions of 12 and 20 that no answer has shown
abbrev beside : Queue
beside = queue 12 340 1 (times ((1500, 18) ∷ (2100, 27) ∷ (1500, 31) ∷ [])) (times ((2, 18) ∷ (1, 27) ∷ (1, 31) ∷ []))

abbrev owed : ℕ
owed = 1052672

pub block_shows : block machine owed beside false
    ≡ bytes " started 1 exception 0\n"
    ++ bytes " tasks 3/7 12/5 18/4 20/9 25/6 27/10 31/8\n"
    ++ bytes " ready 3/11 20/9 0/0\n"
    ++ bytes " delay 12/340 18/1500 31/1500 27/2100\n"
    ++ bytes " pending 12 20\n"
    ++ bytes " object 5 ceiling 11 holder 3 way 2 waiters 25\n"
    ++ bytes " object 7 ceiling 13 holder 0 way 0 waiters\n"
    ++ bytes " registers task 12 time 340 age 1\n"
    ++ bytes " table task 18 time 1500 age 2\n"
    ++ bytes " table task 27 time 2100 age 1\n"
    ++ bytes " table task 31 time 1500 age 1\n"
unfolding block flags_text tasks_text task_text ready_text ready_list delay_text delay_list pending_text owed_text objects_text object_text object_line
    numbers_text holder_below registers_text table_text cell_text entry_text each decimal decimal_in
block_shows = refl

-- an answer that shows an exception
pub exception_shows : flags_text false true ≡ bytes " started 0 exception 1\n"
unfolding flags_text decimal decimal_in
exception_shows = refl
