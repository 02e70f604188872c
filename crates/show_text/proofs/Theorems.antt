-- What is promised of the program show, each in plain words and then in antt, over every input: lines that say no command, refused commands and all.
-- Beside each: which wrong programs it rules out, and which it leaves to another. Assumes nothing.
use Prim.Native.Nat.{ℕ, suc, ◌+◌, ◌≤◌, ◌<◌}
use native.Mathlib.Omega.{arith}
use mathlib.Core.Bool.{Bool, true, false, cond}
use mathlib.Core.Path.{◌≡◌, refl, sym, ap, ◌∙◌}
use mathlib.Core.Logic.{◌≢◌}
use mathlib.Core.List.{List, [], ◌∷◌, ◌++◌, map, append_assoc, append-nil}
use lib.Dec.{eqb, ltb}
use lib.ListN.{length}
use borrow.Author.Tests.{eqb-false, eq-eqb, ne_eqb, lt-ltb, ltb-false}
use Rattle.rules.specs.Line.{joined}
use Rattle.rules.proofs.Tests.{both_false}
use Rattle.rules_exceptions.specs.Exceptions.{fresh, run, answer}
use Rattle.rules_exceptions.proofs.Theorems.{fresh_is_sound, run_keeps_sound, runs_alike}
use Rattle.kernel_state.specs.declared.State.{State}
use Rattle.kernel_state.specs.Public.{view, encode, is_sound}
use Rattle.kernel_state.proofs.Written.{encode_sound, view_encode, step_on}
use Rattle.queue_chip.specs.declared.Queue.{Queue}
use Rattle.queue_chip.specs.Queue.{none}
use Rattle.queue_chip.specs.Chip as Chip
use Rattle.queue_chip.specs.Words.{StandsFor}
use Rattle.queue_chip.proofs.Theorems.{beside_fresh, queue_stands}
use Rattle.text.specs.Commands.{command_of}
use Rattle.text.specs.Lines.{kept, lines, cuts, holds_after, lines_of_pieces, ended, begins}
use Rattle.text.specs.Printed.{walk_header, walk_line}
use Rattle.text.proofs.Kept.{kept_says}
use Rattle.text.proofs.Theorems.{lines_whole}
use Rattle.session.specs.CarriedOut.{following, asked}
use Rattle.session_walk_text.specs.Walk.{walked, number_after, walk_text}
use Rattle.show_text.specs.declared.Showing.{Showing}
use Rattle.show_text.specs.Show.{state_behind, queue_behind, answer_to, row_for, block_of, line_text, wanted, shown, state_after, queue_after, show_text}
use Rattle.show_text.specs.Show.{at_first, text_for, show_after, last_text, printed, wants}
use Rattle.show_text.specs.Block.{block}
use Rattle.show_text.specs.Words.{unindented, unindented_of, commands, entry}
use Rattle.show_text.proofs.Indents.{header_kept}
use Rattle.show_text.proofs.Blocks.{row_kept, block_dropped}
use Rattle.show_text.proofs.Steps.{same_tables, same_row, still_sound, state_runs, queue_runs}

-- ## The rows are walk's
-- Without its lines that begin with a blank, what show prints of all lines is what walk prints, byte for byte.
-- Rules out: a row that is not walk's; a row that begins with a blank, or a line of the state that does not; a state whose step answers otherwise than the
-- kernel's. Leaves: what the lines of the state say (Worked, the stored cases).

nothing : unindented [] ≡ []
unfolding unindented unindented_of lines ended begins
nothing = refl

rows_same : (ls : List (List ℕ)) (s : State) (q : Queue) (n : ℕ) → is_sound s ≡ true → unindented (shown 0 s q n ls) ≡ walked s.kernel n ls
unfolding shown walked line_text block_of
rows_same [] s q n e = nothing
rows_same (l ∷ ls) s q n e =
    let c = command_of l in
    let row = row_for s (following n) c in
    let behind = state_behind s c in
    let then = queue_behind s q c in
    let under = block_of behind then (answer_to s c).exception in
    let rest = shown 0 behind then (following n) ls in
    ap unindented (append_assoc (walk_line row) under rest)
    ∙ row_kept row (under ++ rest)
    ∙ ap (λ (t : List ℕ). walk_line row ++ t)
    (block_dropped (view behind).machine behind.pending then (answer_to s c).exception rest ∙ rows_same ls behind then (following n) (still_sound s e c))
    ∙ rw (same_row s e c (following n), same_tables s e c)

fresh_sound : is_sound (encode fresh) ≡ true
fresh_sound = encode_sound fresh fresh_is_sound

pub rows_are_walks : (input : List ℕ) → unindented (show_text 0 input) ≡ walk_text input
unfolding show_text walk_text encode
rows_are_walks input =
    header_kept (shown 0 (encode fresh) none 0 (lines input))
    ∙ ap (λ (t : List ℕ). walk_header ++ t) (rows_same (lines input) (encode fresh) none 0 fresh_sound)

-- ## One line
-- what is printed for lines behind lines
shown_append : (only : ℕ) (ls ms : List (List ℕ)) (s : State) (q : Queue) (n : ℕ)
    → shown only s q n (ls ++ ms) ≡ shown only s q n ls ++ shown only (state_after s ls) (queue_after s q ls) (number_after n ls) ms
unfolding shown state_after queue_after number_after
shown_append only [] ms s q n = refl
shown_append only (l ∷ ls) ms s q n =
    rw (shown_append only ls ms (state_behind s (command_of l)) (queue_behind s q (command_of l)) (following n), append_assoc)

-- the numbers of lines: 2^64-1 is the last
following_most : (n : ℕ) → following n ≤ n + 1
following_most n = go (ltb n 18446744073709551615)
  where
    go : (b : Bool) → cond b (n + 1) n ≤ n + 1
    go true = omega arith
    go false = omega arith

-- before the line that is asked for, and behind it, nothing is printed
unwanted : (only n : ℕ) → only ≢ 0 → n ≢ only → wanted only n ≡ false
unwanted only n a b = rw (ne_eqb only 0 a, ne_eqb n only b)

quiet_before : (only : ℕ) (ls : List (List ℕ)) (s : State) (q : Queue) (n : ℕ) → n + length ls < only → shown only s q n ls ≡ []
unfolding shown
quiet_before only [] s q n h = refl
quiet_before only (l ∷ ls) s q n h =
    let f = following_most n in
    rw (unwanted only (following n) (λ z. omega (arith, h, z)) (λ z. omega (arith, h, f, z)))
    (quiet_before only ls (state_behind s (command_of l)) (queue_behind s q (command_of l)) (following n) (omega (arith, h, f)))

following_on : (only n : ℕ) → only ≤ n → only < 18446744073709551615 → only < following n
following_on only n a b = go (ltb n 18446744073709551615) refl
  where
    go : (t : Bool) → ltb n 18446744073709551615 ≡ t → only < cond t (n + 1) n
    go true e = omega arith
    go false e = omega (arith, ltb-false n 18446744073709551615 e)

quiet_behind : (only : ℕ) (ls : List (List ℕ)) (s : State) (q : Queue) (n : ℕ) → only ≢ 0 → only ≤ n → only < 18446744073709551615 → shown only s q n ls ≡ []
unfolding shown
quiet_behind only [] s q n a b h = refl
quiet_behind only (l ∷ ls) s q n a b h =
    let f = following_on only n b h in
    rw (unwanted only (following n) a (λ z. omega (arith, f, z)))
    (quiet_behind only ls (state_behind s (command_of l)) (queue_behind s q (command_of l)) (following n) a (omega (arith, f)) h)

number_is : (ls : List (List ℕ)) (n : ℕ) → n + length ls < 18446744073709551615 → number_after n ls ≡ n + length ls
unfolding number_after
number_is [] n h = omega arith
number_is (l ∷ ls) n h = rw (lt-ltb n 18446744073709551615 (omega (arith, h))) (number_is ls (n + 1) (omega (arith, h)) ∙ omega arith)

number_next : (ls : List (List ℕ)) → suc (length ls) < 18446744073709551615 → following (number_after 0 ls) ≡ suc (length ls)
number_next ls h =
    let e : number_after 0 ls ≡ length ls = number_is ls 0 (omega (arith, h)) ∙ omega arith in
    rw (e, lt-ltb (length ls) 18446744073709551615 (omega (arith, h))) (omega arith)

wanted_one : (only : ℕ) (s : State) (q : Queue) (n : ℕ) (l : List ℕ) (ms : List (List ℕ)) → following n ≡ only → only ≢ 0 → only < 18446744073709551615
    → shown only s q n (l ∷ ms) ≡ line_text s q only (command_of l)
unfolding shown
wanted_one only s q n l ms e a h =
    rw (e, ne_eqb only 0 a, eq-eqb only only refl, quiet_behind only ms (state_behind s (command_of l)) (queue_behind s q (command_of l)) only a (omega arith) h)
    (append-nil (line_text s q only (command_of l)))

-- Line N alone is the header and, of all that show prints, what it prints for line N: the same bytes stand there behind what is printed for the lines
-- before it, and something is behind them. (Lines are numbered up to 2^64-1; of the last number there could be many.)
-- Rules out: a show of line N that begins or ends with another line, or does not carry out the lines before it. Leaves: an input with fewer lines (next).
module _ (input : List ℕ) (ls : List (List ℕ)) (l : List ℕ) (ms : List (List ℕ)) (e : lines input ≡ ls ++ (l ∷ ms))
    (h : suc (length ls) < 18446744073709551615) where
  pub show_one : show_text (suc (length ls)) input ≡ walk_header ++ entry ls l
  unfolding show_text
  show_one =
      let n = suc (length ls) in
      rw (e, shown_append n ls (l ∷ ms) (encode fresh) none 0, quiet_before n ls (encode fresh) none 0 (omega arith))
      (ap (λ (t : List ℕ). walk_header ++ t)
      (wanted_one n (state_after (encode fresh) ls) (queue_after (encode fresh) none ls) (number_after 0 ls) l ms (number_next ls h) (λ z. omega (arith, z)) h))

  pub show_one_of_all : (behind : List ℕ) × (show_text 0 input ≡ walk_header ++ (shown 0 (encode fresh) none 0 ls ++ (entry ls l ++ behind)))
  unfolding show_text shown
  show_one_of_all = (
    shown 0 (state_behind before (command_of l)) (queue_behind before (queue_after (encode fresh) none ls) (command_of l)) (following (number_after 0 ls)) ms,
    rw (e, shown_append 0 ls (l ∷ ms) (encode fresh) none 0, number_next ls h),
  )
    where
      before : State
      before = state_after (encode fresh) ls

-- Where the input has no line N, nothing but the header is printed.
-- Rules out: a show that prints the last line instead. Leaves: the status, which says it (host/io.py).
pub show_none : (input : List ℕ) (only : ℕ) → length (lines input) < only → show_text only input ≡ walk_header
unfolding show_text
show_none input only h = rw (quiet_before only (lines input) (encode fresh) none 0 (omega (arith, h))) (append-nil walk_header)

-- ## In pieces
shown_kept : (only : ℕ) (ls : List (List ℕ)) (s : State) (q : Queue) (n : ℕ) → shown only s q n (map kept ls) ≡ shown only s q n ls
unfolding shown
shown_kept only [] s q n = refl
shown_kept only (l ∷ ls) s q n = rw (kept_says l, shown_kept only ls (state_behind s (command_of l)) (queue_behind s q (command_of l)) (following n))

printed_lines : (only : ℕ) (ps : List (List ℕ)) (w : Showing)
    → printed only w ps ≡ shown only w.state w.queue w.n (lines_of_pieces w.held ps)
unfolding printed last_text text_for show_after lines_of_pieces
printed_lines only [] w = refl
printed_lines only (p ∷ ps) w =
    rw (printed_lines only ps (show_after w p))
    (sym (shown_append only (cuts (suc (length p)) w.held p 0) (lines_of_pieces (holds_after (suc (length p)) w.held p 0) ps) w.state w.queue
    w.n))

-- Whatever the pieces in which its input comes, of any number and length, show prints what it prints of the whole input, of all lines and of one.
-- Rules out: a program that splits a line at a piece's end, drops a last line without a line end, or loses the queue between pieces.
-- Leaves: that these bytes are written (show_cases, host/io.py).
pub show_whole : (only : ℕ) (ps : List (List ℕ)) → walk_header ++ printed only at_first ps ≡ show_text only (joined ps)
unfolding show_text at_first
show_whole only ps = rw (printed_lines only ps at_first, lines_whole ps, shown_kept)

-- Where line N was printed, all that could still come prints nothing: so a show that reads no more has lost nothing.
-- Rules out: a show that stops too early. Leaves: that it stops (host/io.py).
pub rest_is_silent : (only : ℕ) (ps : List (List ℕ)) (w : Showing) → only < 18446744073709551615 → wants only w ≡ false → printed only w ps ≡ []
rest_is_silent only ps w h e =
    let v = both_false (eqb only 0) (ltb w.n only) e in
    printed_lines only ps w
    ∙ quiet_behind only (lines_of_pieces w.held ps) w.state w.queue w.n (eqb-false only 0 v.0) (ltb-false w.n only v.1) h

-- ## The state and the queue
module _ (ls : List (List ℕ)) where
  -- The state that is shown behind lines is the rules', behind the commands that the lines say.
  -- Rules out: a line that says no command and changes something; a state of its own. Leaves: nothing of the state.
  pub state_is_runs : view (state_after (encode fresh) ls) ≡ run fresh (commands ls)
  state_is_runs = rw (state_runs ls fresh fresh_is_sound) (view_encode (run fresh (commands ls)) (run_keeps_sound fresh (commands ls) fresh_is_sound))

  -- The queue that is shown is the second model's, behind the same commands.
  -- Rules out: a queue that follows a refused command, or a line that says none. Leaves: how it was come by. One that is read off the delay line
  -- would be the same value (next); that it is stepped, queue_beside's source says.
  pub queue_is_chips : queue_after (encode fresh) none ls ≡ (Chip.run Chip.fresh (commands ls)).queue
  queue_is_chips = queue_runs ls fresh none fresh_is_sound ∙ beside_fresh (commands ls)

  -- And it stands for the delay line that is shown beside it.
  -- Rules out: a block whose two halves tell of different tasks. Leaves: nothing of it.
  pub queue_is_lines : StandsFor (queue_after (encode fresh) none ls) (view (state_after (encode fresh) ls)).machine.delay
  queue_is_lines =
      rw (queue_is_chips, state_is_runs, runs_alike (commands ls) fresh) (queue_stands (commands ls))

-- ## What stands under a row
state_snoc : (ls : List (List ℕ)) (l : List ℕ) (s : State) → state_after s (ls ++ (l ∷ [])) ≡ state_behind (state_after s ls) (command_of l)
unfolding state_after
state_snoc [] l s = refl
state_snoc (k ∷ ls) l s = state_snoc ls l (state_behind s (command_of k))

queue_snoc : (ls : List (List ℕ)) (l : List ℕ) (s : State) (q : Queue)
    → queue_after s q (ls ++ (l ∷ [])) ≡ queue_behind (state_after s ls) (queue_after s q ls) (command_of l)
unfolding state_after queue_after
queue_snoc [] l s q = refl
queue_snoc (k ∷ ls) l s q = queue_snoc ls l (state_behind s (command_of k)) (queue_behind s q (command_of k))

block_seen : (s : State) (q : Queue) (e : Bool) → block_of s q e ≡ block (view s).machine (view s).pending q e
unfolding block_of view
block_seen s q e = refl

module _ (ls : List (List ℕ)) (l : List ℕ) where
  abbrev before : State
  before = state_after (encode fresh) ls

  -- It is the block of the rules' state, and of the second model's queue, behind the commands of all lines up to that of the row.
  -- Rules out: the state before the step, or that of another line; a queue that lags behind. Leaves: what a block says of a state (Worked, the stored cases).
  pub entry_shows : let cs = commands (ls ++ (l ∷ [])) in let s = run fresh cs in
      entry ls l ≡ walk_line (row_for before (suc (length ls)) (command_of l))
      ++ block s.machine s.pending (Chip.run Chip.fresh cs).queue (answer_to before (command_of l)).exception
  unfolding line_text
  entry_shows =
      let all = ls ++ (l ∷ []) in
      rw (← state_snoc ls l (encode fresh), ← queue_snoc ls l (encode fresh) none, block_seen, state_is_runs all, queue_is_chips all)

  -- The exception that it tells of is the rules' answer's. A line that says no command shows none.
  -- Rules out: an exception that is told under another row. Leaves: nothing of it.
  pub entry_excepts : (command_of l).code ≡ 0
      → (answer_to before (command_of l)).exception ≡ (answer (run fresh (commands ls)) (asked (command_of l))).exception
  unfolding answer_to
  entry_excepts z =
      let x = run fresh (commands ls) in
      rw (eq-eqb (command_of l).code 0 z, state_runs ls fresh fresh_is_sound, step_on x (run_keeps_sound fresh (commands ls) fresh_is_sound) (asked (command_of l)))

  pub none_excepts : (command_of l).code ≢ 0 → (answer_to before (command_of l)).exception ≡ false
  unfolding answer_to
  none_excepts z = rw (ne_eqb (command_of l).code 0 z)
