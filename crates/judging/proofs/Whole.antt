-- From the fresh machine on, what a judge says is Verdict's judgement of the tape: of a whole tape, and of one in pieces, cut anywhere. The idea: the
-- tables are always those of a sound machine, so the step without the test is the rules', record by record. Assumes nothing.
use Prim.Native.Nat.{ℕ, zero, suc, ◌+◌, ◌-◌, ◌*◌, ◌/◌, ◌%◌, ◌≤◌, ◌<◌, min}
use native.Mathlib.Nat.{min-eq_right}
use native.Mathlib.Omega.{arith}
use mathlib.Core.Path.{◌≡◌, refl, sym, ap, ◌∙◌}
use mathlib.Core.Logic.{◌≢◌}
use mathlib.Core.Bool.{Bool, true, false, cond, ◌||◌, true≢false}
use mathlib.Core.List.{List, [], ◌∷◌, ◌++◌, append_assoc}
use borrow.Author.Tests.{eq-eqb, ne_eqb, lt-ltb, le-ltb, ltb-true, ltb-false, eqb-true, eqb-false}
use lib.Dec.{eqb, ltb}
use lib.ListN.{length, take, drop, length-append, length-drop, take-append-drop}
use lib.Seq.{length-take-le, drop_at}
use Rattle.rules.specs.Machine.{Machine, Command, fresh}
use Rattle.rules.specs.Run.{next, answer}
use Rattle.rules.proofs.Sounds.{Sound}
use Rattle.rules.proofs.Step.{next_sound, fresh_sound}
use Rattle.rules.specs.Line.{joined}
use Rattle.kernel.specs.declared.Kernel.{Kernel}
use Rattle.kernel.specs.View.{encode, pad}
use Rattle.kernel.proofs.Whole.{stepped_tie}
use Rattle.record.specs.declared.Record.{Record}
use Rattle.record.specs.Form.{record_of}
use Rattle.tape_form.specs.Read.{Read, number_of, read_of, judged, end_of, place_of, next_at}
use Rattle.tape_form.specs.Run.{answers}
use Rattle.tape_form.proofs.Reading.{Stands, stands, found, end, no_record, no_seed, sixteen, read_end, read_short, read_judged}
use Rattle.judge_verdict.specs.declared.Verdict.{Verdict}
use Rattle.judge_verdict.specs.declared.Verdict.TheVariants.{Agrees, Refused as Malformed}
use Rattle.judge_verdict.specs.declared.Judgement.{Judgement}
use Rattle.std.specs.Prelude.{Option, Some, None, Ok, Err, is_some}
use Rattle.rules.specs.declared.Refusal.TheVariants.{Record as NoRecord}
use Rattle.judge_verdict.specs.declared.Head.{Head}
use Rattle.judge_pieces.specs.declared.Run.{Run}
use Rattle.judging.specs.declared.Judge.{Judge}
use Rattle.record_kept.specs.Kept.{kept, kept_on, alike}
use Rattle.judge_verdict.specs.Verdict.{command_of, difference, seed_shown, judged_from, verdict_of}
use Rattle.judge_verdict.specs.Behind.{to_come, beyond, refused_at, refused, headed, compared}
use Rattle.judge_pieces.specs.Bytes.{Pending, byte, bytes, behind}
use Rattle.judge_pieces.proofs.Bytewise.{bytes_short, bytes_begun, few_begun, behind_joined}
use Rattle.judging.specs.Pieces.{pending_of, judge_of, at_first, fed, ended, judged_in}
use Rattle.judging.proofs.Bytewise.{take_pad}
use Rattle.judge_onward.proofs.Exits.{onward_over}
use Rattle.judge_pieces.specs.Onward.{run_of, head_of, answered, taken, onward}

-- ---- behind a verdict nothing changes

over_byte : (h : Pending) (b : ℕ) (v : Verdict) → h.run.verdict ≡ Some v → (byte h b).run ≡ h.run
unfolding byte
over_byte h b v e = go (eqb (length h.begun) 15)
  where
    go : (t : Bool) → (cond {A = Pending} t (record { run = onward h.run (h.begun ++ (b ∷ [])); begun = [] })
        (record { run = h.run; begun = h.begun ++ (b ∷ []) })).run ≡ h.run
    go true = sym (onward_over h.run (h.begun ++ (b ∷ [])) (ap is_some e))
    go false = refl

over_stays : (p : List ℕ) (h : Pending) (v : Verdict) → h.run.verdict ≡ Some v → (bytes h p).run ≡ h.run
unfolding bytes
over_stays [] h v e = refl
over_stays (b ∷ p) h v e = over_stays p (byte h b) v (ap (λ (x : Run). x.verdict) (over_byte h b v e) ∙ e) ∙ over_byte h b v e

ends_over : (h : Pending) (v : Verdict) → h.run.verdict ≡ Some v → ended (judge_of h) ≡ record { seed = h.run.seed; verdict = v }
unfolding ended
ends_over h v e = rw e

over_ends : (x : Run) (p : List ℕ) (v : Verdict) → x.verdict ≡ Some v → ended (judge_of (bytes (record { run = x; begun = [] }) p))
    ≡ record { seed = x.seed; verdict = v }
over_ends x p v e =
    let q = over_stays p (record { run = x; begun = [] }) v e in
    ends_over (bytes (record { run = x; begun = [] }) p) v (ap (λ (y : Run). y.verdict) q ∙ e)
    ∙ ap (λ (y : Run). let z : Judgement = record { seed = y.seed; verdict = v } in z) q

-- Behind a verdict more pieces change nothing: who stops reading there has the tape's judgement.
pub verdict_stays : (j : Judge) (p : List ℕ) → to_come j.run.verdict ≡ false → ended (fed j p) ≡ ended j
unfolding fed ended
verdict_stays j p n = go j.run.verdict refl n
  where
    go : (t : Option Verdict) → j.run.verdict ≡ t → to_come t ≡ false → ended (judge_of (bytes (pending_of j) p)) ≡ ended j
    go None e f = absurd (true≢false f)
    go (Some v) e f =
        let q = over_stays p (pending_of j) v e in
        ends_over (bytes (pending_of j) p) v (ap (λ (y : Run). y.verdict) q ∙ e)
        ∙ ap (λ (y : Run). let z : Judgement = record { seed = y.seed; verdict = v } in z) q ∙ rw e

-- ---- record by record

-- the tables of a machine, before record n
abbrev going : Machine → ℕ → ℕ → Run
going m n seed = record { kernel = encode m; place = 16 * n; seed = seed; verdict = None }

-- and behind a verdict on record n
abbrev over : Machine → ℕ → ℕ → Verdict → Run
over m n seed v = record { kernel = encode m; place = 16 * n; seed = seed; verdict = Some v }

-- the same where the record is refused
abbrev stopped : Machine → ℕ → ℕ → ℕ → ℕ → Run
stopped m n seed c v = run_of (encode m) (refused (head_of (going m n seed)) c v)

sixteenth : (n : ℕ) → 16 * n / 16 ≡ n
sixteenth n = omega arith

or_true : (x : Bool) → x || true ≡ true
or_true true = refl
or_true false = refl

-- what is said of bytes behind the records that were judged, by either
abbrev judged_behind : Machine → ℕ → ℕ → List ℕ → Judgement
judged_behind m n seed back = ended (judge_of (bytes (record { run = going m n seed; begun = [] }) back))

-- the seed that is shown if the record at a place is refused
abbrev seed_at : List ℕ → ℕ → ℕ → ℕ
seed_at s at seed = seed_shown (number_of (read_of s at)) (record_of (take 16 (drop at s))).value seed

-- behind the header it is the header's
seed_behind : (s : List ℕ) (at seed : ℕ) → at ≢ 0 → seed_at s at seed ≡ seed
seed_behind s at seed n = go (stands s at)
  where
    go : {x : Read} → Stands s at x → seed_shown (number_of x) (record_of (take 16 (drop at s))).value seed ≡ seed
    go (found w l f) = refl
    go (end w l f) = refl
    go no_record = refl
    go (no_seed z l) = absurd (n z)

abbrev Tied : ℕ → Type 0
Tied f =
    (m : Machine) → Sound m → (n seed : ℕ) (front back : List ℕ) → length front ≡ 16 * n → length front + length back < 18446744073709551616 → length back < f
    → judged_behind m n seed back ≡ judged_from m n (seed_at (front ++ back) (16 * n) seed) (answers f (front ++ back) (16 * n))

module _ (m : Machine) (n seed : ℕ) where
  refused_behind : (c v : ℕ) (q : List ℕ) → ended (judge_of (bytes (record { run = stopped m n seed c v; begun = [] }) q))
      ≡ record { seed = seed_shown c v seed; verdict = Malformed (record { code = c; number = n; place = 16 * n }) }
  refused_behind c v q = over_ends (stopped m n seed c v) q (refused_at c (16 * n)) refl ∙ rw (sixteenth n)

  cut_behind : (back : List ℕ) → 1 ≤ length back → length back ≤ 15 → judged_behind m n seed back
      ≡ record { seed = seed; verdict = Malformed (record { code = 15; number = n; place = 16 * n }) }
  unfolding ended
  cut_behind back o k =
      let z : eqb (length back) 0 ≡ false = ne_eqb (length back) 0 (λ e. omega arith) in
      rw (bytes_short (going m n seed) [] back (omega arith), z, or_true (ltb (16 * n) 16), sixteenth n)

-- no byte is left
end_behind : (m : Machine) (n seed : ℕ) → judged_behind m n seed []
    ≡ record { seed = seed; verdict = cond (eqb n 0) (Malformed (record { code = 15; number = n; place = 16 * n })) (Agrees (n - 1)) }
unfolding ended bytes
end_behind m zero seed = refl
end_behind m (suc n) seed =
    let o : ltb (16 * suc n) 16 ≡ false = le-ltb (16 * suc n) 16 (omega arith) in rw (o, sixteenth (suc n), ne_eqb (suc n) 0 (λ e. omega arith))

-- one machine beside one of two heads
one_of : (k : Kernel) (t : Bool) (g h : Head) → run_of k (cond t g h) ≡ cond t (run_of k g) (run_of k h)
one_of k true g h = refl
one_of k false g h = refl

-- a command record: the step on the tables is the rules'
answered_is : (m : Machine) (s : Sound m) (n seed : ℕ) (r : Record) → 16 * n < 18446744073709551600
    → answered (going m n seed) r
    ≡ cond (alike (kept_on r) (kept (answer m (command_of r)))) (going (next m (command_of r)) (suc n) seed)
    (over (next m (command_of r)) n seed (difference n r (kept (answer m (command_of r)))))
unfolding answered compared
answered_is m s n seed r o =
    let b : beyond (16 * n) ≡ 16 * suc n = rw (lt-ltb (16 * n) 18446744073709551600 o) (omega arith) in
    rw (stepped_tie m s (command_of r), b, sixteenth n) (one_of (encode (next m (command_of r))) (alike (kept_on r) (kept (answer m (command_of r)))) _ _)

end_read : (m : Machine) (n seed v : ℕ) (t : Bool) (l : List Read)
    → judged_from m n (seed_shown (number_of (cond t (Err NoRecord) (Ok None))) v seed) (cond t (Err NoRecord) (Ok None) ∷ l)
    ≡ record { seed = seed; verdict = cond t (Malformed (record { code = 15; number = n; place = 16 * n })) (Agrees (n - 1)) }
unfolding judged_from
end_read m n seed v true l = refl
end_read m n seed v false l = refl

same_zero : (x n : ℕ) → x ≡ 16 * n → eqb x 0 ≡ eqb n 0
same_zero x zero e = eq-eqb x 0 e
same_zero x (suc n) e = ne_eqb x 0 (λ z. omega arith) ∙ sym (ne_eqb (suc n) 0 (λ z. omega arith))

no_byte : (l : List ℕ) → length l ≡ 0 → l ≡ []
no_byte [] e = refl
no_byte (x ∷ l) e = absurd (omega arith)

module _ (f : ℕ) (ih : Tied f) (m : Machine) (snd : Sound m) (n seed : ℕ) (front back : List ℕ) (e : length front ≡ 16 * n)
    (small : length front + length back < 18446744073709551616) (o : length back < suc f) where
  long : length (front ++ back) ≡ 16 * n + length back
  long = length-append front back ∙ omega arith

  straight : 16 * n % 16 ≡ 0
  straight = omega arith

  -- no byte is left
  none : length back ≡ 0 → judged_behind m n seed back ≡ judged_from m n (seed_at (front ++ back) (16 * n) seed) (answers (suc f) (front ++ back) (16 * n))
  unfolding end_of
  none z =
      let l : length (front ++ back) ≡ 16 * n = long ∙ omega arith in
      rw (
        ← read_end (front ++ back) (16 * n) straight (omega arith) (sym l),
        same_zero (length (front ++ back)) n l,
        end_read m n seed
            (record_of (take 16 (drop (16 * n) (front ++ back)))).value (eqb n 0) (answers f (front ++ back) (next_at (front ++ back) (16 * n))),
      )
      (ap (judged_behind m n seed) (no_byte back z) ∙ end_behind m n seed)

  -- a record that is not whole
  cut : 1 ≤ length back → length back ≤ 15 → judged_behind m n seed back
      ≡ judged_from m n (seed_at (front ++ back) (16 * n) seed) (answers (suc f) (front ++ back) (16 * n))
  unfolding judged_from
  cut k l =
      rw (← read_short (front ++ back) (16 * n) straight (rw long (omega arith)) (λ q. omega (arith, long)) (rw long (omega arith)))
      (cut_behind m n seed back k l)

  -- a whole one, and what comes behind it
  module _ (k : 16 ≤ length back) where
    bound : 16 * n < 18446744073709551600
    bound = omega arith

    on : (m' : Machine) → Sound m' → (v : ℕ) → judged_behind m' (suc n) v (drop 16 back) ≡ judged_from m' (suc n) v (answers f (front ++ back) (16 * n + 16))
    on m' s' v =
        let at : 16 * n + 16 ≡ 16 * suc n = omega arith in
        let again : front ++ back ≡ (front ++ take 16 back) ++ drop 16 back = ap (λ (l : List ℕ). front ++ l) (sym (take-append-drop 16 back))
        ∙ sym (append_assoc front (take 16 back) (drop 16 back)) in
        let t : length (take 16 back) ≡ 16 = length-take-le 16 back k in
        let d : length (drop 16 back) ≡ length back - 16 = length-drop 16 back in
        let l : length (front ++ take 16 back) ≡ 16 * suc n = length-append front (take 16 back) ∙ omega arith in
        let b = seed_behind ((front ++ take 16 back) ++ drop 16 back) (16 * suc n) v (λ z. omega arith) in
        rw (at, again) (rw b at (ih m' s' (suc n) v (front ++ take 16 back) (drop 16 back) l (omega arith) (omega arith)))

    command_behind : (r : Record) (a : Command) (t : Bool) (d : Verdict)
        → ended (judge_of (bytes (record { run = cond t (going (next m a) (suc n) seed) (over (next m a) n seed d); begun = [] }) (drop 16 back)))
        ≡ cond t (judged_from (next m a) (suc n) seed (answers f (front ++ back) (16 * n + 16))) (record { seed = seed; verdict = d })
    command_behind r a true d = on (next m a) (next_sound m snd a) seed
    command_behind r a false d = over_ends (over (next m a) n seed d) (drop 16 back) d refl

    found_behind : (r : Record)
        → ended (judge_of (bytes (record { run = taken (going m n seed) (take 16 back) (Ok (Some (r, 16 * n + 16))); begun = [] }) (drop 16 back)))
        ≡ judged_from m n seed (Ok (Some (r, 16 * n + 16)) ∷ answers f (front ++ back) (16 * n + 16))
    unfolding taken judged_from
    found_behind r = rw (same_zero (16 * n) n refl) (go (eqb n 0) refl)
      where
        go : (t : Bool) → eqb n 0 ≡ t
            → ended (judge_of (bytes (record
            { run = cond t (run_of (encode m) (headed (head_of (going m n seed)) r.value)) (answered (going m n seed) r); begun = [] }) (drop 16 back)))
            ≡ cond t (judged_from m 1 r.value (answers f (front ++ back) (16 * n + 16)))
            (cond (alike (kept_on r) (kept (answer m (command_of r))))
            (judged_from (next m (command_of r)) (suc n) seed (answers f (front ++ back) (16 * n + 16)))
            (record { seed = seed; verdict = difference n r (kept (answer m (command_of r))) }))
        go true z =
            let b : beyond (16 * n) ≡ 16 * suc n = rw (lt-ltb (16 * n) 18446744073709551600 bound) (omega arith) in
            rw b (on m snd r.value ∙ ap (λ (i : ℕ). judged_from m i r.value (answers f (front ++ back) (16 * n + 16))) (ap suc (eqb-true n 0 z)))
        go false z =
            rw (answered_is m snd n seed r bound)
            (command_behind r (command_of r) (alike (kept_on r) (kept (answer m (command_of r)))) (difference n r (kept (answer m (command_of r)))))

    turned : {v : Read} → Stands (front ++ back) (16 * n) v
        → ended (judge_of (bytes (record { run = taken (going m n seed) (take 16 back) v; begun = [] }) (drop 16 back)))
        ≡ judged_from m n (seed_shown (number_of v) (record_of (take 16 back)).value seed) (v ∷ answers f (front ++ back) (place_of (16 * n) v))
    unfolding taken judged_from
    turned (found w l z) = found_behind (record_of (take 16 (drop (16 * n) (front ++ back))))
    turned (end w l z) = absurd (omega (arith, long))
    turned no_record = refused_behind m n seed 15 (record_of (take 16 back)).value (drop 16 back)
    turned (no_seed z l) = refused_behind m n seed 17 (record_of (take 16 back)).value (drop 16 back)

    onward_is : (p : List ℕ) → onward (going m n seed) p ≡ taken (going m n seed) p (judged (16 * n) p)
    unfolding onward
    onward_is p = refl

    whole : judged_behind m n seed back ≡ judged_from m n (seed_at (front ++ back) (16 * n) seed) (answers (suc f) (front ++ back) (16 * n))
    unfolding next_at
    whole =
        let here : take 16 (drop (16 * n) (front ++ back)) ≡ take 16 back = ap (λ (l : List ℕ). take 16 l) (drop_at front back (16 * n) e) in
        let reads : judged (16 * n) (take 16 back) ≡ read_of (front ++ back) (16 * n) =
        ap (judged (16 * n)) (sym (sixteen (front ++ back) (16 * n) ∙ here))
        ∙ read_judged (front ++ back) (16 * n) straight (rw long (omega arith)) (λ q. omega (arith, long)) (rw long (omega arith)) in
        rw (bytes_begun (going m n seed) [] back (omega arith) (omega arith), onward_is (take 16 back), reads, here) (turned (stands (front ++ back) (16 * n)))

  by_size : judged_behind m n seed back ≡ judged_from m n (seed_at (front ++ back) (16 * n) seed) (answers (suc f) (front ++ back) (16 * n))
  by_size = go (ltb (length back) 16) refl (eqb (length back) 0) refl
    where
      go : (b : Bool) → ltb (length back) 16 ≡ b → (z : Bool) → eqb (length back) 0 ≡ z → judged_behind m n seed back
          ≡ judged_from m n (seed_at (front ++ back) (16 * n) seed) (answers (suc f) (front ++ back) (16 * n))
      go false b z q = whole (ltb-false (length back) 16 b)
      go true b true q = none (eqb-true (length back) 0 q)
      go true b false q =
          let h : length back ≡ 0 → ⊥ = eqb-false (length back) 0 q in let l : length back < 16 = ltb-true (length back) 16 b in
          cut (omega arith) (omega arith)

tied : (f : ℕ) → Tied f
tied zero = λ m s n seed front back e small o. absurd (omega arith)
tied (suc f) = λ m s n seed front back e small o. by_size f (tied f) m s n seed front back e small o

-- A whole tape: what a judge says that is fed all of it at once.
pub whole_tape : (s : List ℕ) → length s < 18446744073709551616 → ended (fed at_first s) ≡ verdict_of s
unfolding fed at_first verdict_of
whole_tape s o = tied (suc (length s)) fresh fresh_sound 0 0 [] s refl (omega arith) (omega arith)

-- ---- in pieces

same_pending : (h : Pending) → length h.begun ≤ 15 → pending_of (judge_of h) ≡ h
same_pending h o =
    let e : take (min 15 (length h.begun)) (pad 16 h.begun) ≡ h.begun =
    rw (min-eq_right o) (take_pad 16 (length h.begun) h.begun refl (omega arith)) in
    ap (λ (l : List ℕ). let z : Pending = record { run = h.run; begun = l } in z) e

pieces_behind : (ps : List (List ℕ)) (h : Pending) → length h.begun ≤ 15 → judged_in (judge_of h) ps ≡ ended (judge_of (behind h ps))
unfolding judged_in fed behind
pieces_behind [] h o = refl
pieces_behind (p ∷ ps) h o = rw (same_pending h o) (pieces_behind ps (bytes h p) (few_begun h p o))

-- Whatever the pieces in which a tape comes, of any number and length, the judgement is that of the whole tape.
-- (It rules out a judge that splits a record at a piece's end, drops or repeats a byte, or counts a record twice. 2^64 bytes are more than a place can be.)
pub pieces_whole : (ps : List (List ℕ)) → length (joined ps) < 18446744073709551616 → judged_in at_first ps ≡ verdict_of (joined ps)
unfolding at_first fed
pieces_whole ps o =
    let h : Pending = pending_of at_first in
    pieces_behind ps h (omega arith) ∙ ap (λ (x : Pending). ended (judge_of x)) (behind_joined ps h) ∙ whole_tape (joined ps) o
