-- What a judgement says, in plain words, both ways, over every byte string: it agrees exactly where the tape is a header and command records whose answers
-- are the rules' along the run of their commands from the fresh machine; it differs at n exactly where the records before n agree and n does not; it is
-- refused exactly where the records before agree and the reader refuses the next. Every judgement is one of the three. A refusal is 15, or 17 at the header;
-- and the header's seed is shown, one that is refused too, and not used.
-- Rules out: a judge that compares less than code, running and released, goes on behind a difference or a refusal, counts from elsewhere, or steps
-- otherwise than by the rules. Assumes nothing.
use Prim.Native.Nat.{ℕ, zero, suc, ◌+◌, ◌-◌, ◌*◌, ◌≤◌, ◌<◌}
use native.Mathlib.Omega.{arith}
use mathlib.Core.Path.{◌≡◌, refl, sym, ap, ◌∙◌}
use mathlib.Core.Logic.{◌≢◌}
use mathlib.Core.Bool.{Bool, true, false, cond, not, ◌&&◌, true≢false}
use mathlib.Core.List.{List, [], ◌∷◌, ◌++◌, map, append_assoc, append-nil}
use borrow.Author.Tests.{ne_eqb, eqb-true, leb-true}
use lib.Dec.{eqb, leb}
use lib.ListN.{length, take, drop, get_or, length-append, take-append-drop, drop_of_length-le}
use lib.Seq.{take_at, drop_at, drop-drop, length-take-le}
use Rattle.std.specs.Prelude.{Some, None, Result, Ok, Err}
use Rattle.rules.specs.declared.Refusal.{Refusal}
use Rattle.rules.specs.declared.Refusal.TheVariants.{Record as NoRecord, Seed}
use Rattle.rules.specs.Numbers as refusals
use Rattle.rules.specs.Machine.{Machine, Command, fresh}
use Rattle.rules.specs.Run.{next, answer, run, answers}
use Rattle.rules.specs.Run as rules
use Rattle.rules.proofs.Tests.{both_true}
use Rattle.rules.proofs.Words.{All}
use Rattle.record.specs.declared.Record.{Record}
use Rattle.record.specs.Form.{bytes_of, record_of, header_of, marked, is_edition, is_seed, header_fields, command_fields}
use Rattle.record.specs.Fault.{fault_of}
use Rattle.record.proofs.Faults.{own_fault}
use Rattle.record.proofs.RoundTrip.{fields_back, bytes_spelt, sixteen_long, value_kept}
use Rattle.record_kept.specs.declared.Kept.{Kept}
use Rattle.record_kept.specs.Kept.{kept, kept_on, alike}
use Rattle.record_kept.proofs.Laws.{alike_true, alike_own, unlike}
use Rattle.tape_form.specs.Read.{Read, number_of, read_of, judged, place_of, next_at}
use Rattle.tape_form.specs.Run as T
use Rattle.tape_form.specs.Run.{tape_of}
use Rattle.tape_form.proofs.Reading.{judged_not, read_judged, Stands, stands, found, end, no_record, no_seed}
use Rattle.tape_form.proofs.RoundTrip.{part_small, found_there, IsThere, is_there}
use Rattle.tape_form.proofs.Writing.{accepted}
use Rattle.tape_form.proofs.Runs.{tape_long, end_there, end_place}
use Rattle.tape_form.proofs.Answers.{place_moves}
use Rattle.judge_verdict.specs.declared.Verdict.{Verdict}
use Rattle.judge_verdict.specs.declared.Verdict.TheVariants.{Agrees, Differs, Refused as Malformed}
use Rattle.judge_verdict.specs.declared.Judgement.{Judgement}
use Rattle.judge_verdict.specs.declared.RefusedAt.{RefusedAt}
use Rattle.judge_verdict.specs.declared.Difference.{Difference}
use Rattle.judge_verdict.specs.Verdict.{command_of, difference, seed_shown, judged_from, verdict_of}
use Rattle.judge_verdict.proofs.Words.{CommandRecord, behind, Begins, AllAgree, FirstDiffers, FirstRefused, no_header, bad_seed, no_command, Says}
use Rattle.judge_verdict.proofs.Words.{RefusedWith, fifteen, seventeen}

-- ---- the reader's answers, one by one

one_read : (f : ℕ) (s : List ℕ) (at : ℕ) (x : Read) → 1 ≤ f → read_of s at ≡ x → T.answers f s at ≡ x ∷ T.answers (f - 1) s (place_of at x)
unfolding next_at
one_read zero s at x o e = absurd (omega arith)
one_read (suc f) s at x o e = let q : suc f - 1 ≡ f = omega arith in rw (q, e)

first : {x y : Kept} {l m : List Kept} → x ∷ l ≡ y ∷ m → x ≡ y
first e = cc

others : {x y : Kept} {l m : List Kept} → x ∷ l ≡ y ∷ m → l ≡ m
others e = cc

command_right : (at : ℕ) (r : Record) → at ≢ 0 → command_fields r ≡ true → fault_of at r ≡ Ok tt
unfolding fault_of
command_right at r n k = rw (ne_eqb at 0 n, k)

header_right : (edition seed : ℕ) → is_edition edition ≡ true → is_seed seed ≡ true → fault_of 0 (header_of edition seed) ≡ Ok tt
unfolding fault_of
header_right edition seed h k = rw (h, k)

seed_small : (seed : ℕ) → is_seed seed ≡ true → seed < 18446744073709551616
seed_small seed k = let o : seed ≤ 4294967295 = leb-true seed 4294967295 (both_true (leb 1 seed) (leb seed 4294967295) k).1 in omega arith

-- ---- what is said is judged: records that agree are passed

past : (s : List ℕ) (rs : List Record) (m : Machine) (n last seed g f : ℕ) (front rest : List ℕ) → s ≡ front ++ (tape_of rs ++ rest) → length front ≡ 16 * n
    → 1 ≤ n → last ≡ n + length rs
    → g ≡ length rs + f → All CommandRecord rs → map kept_on rs ≡ map kept (answers m (map command_of rs))
    → judged_from m n seed (T.answers g s (16 * n)) ≡ judged_from (run m (map command_of rs)) last seed (T.answers f s (16 * last))
unfolding run answers judged_from
past s [] m n last seed g f front rest es l o el eg k a = let p : last ≡ n = omega arith in let q : g ≡ f = omega arith in rw (p, q)
past s (r ∷ rs) m n last seed g f front rest es l o el eg k a =
    let e : s ≡ front ++ (bytes_of r ++ (tape_of rs ++ rest)) = es ∙ ap (λ (x : List ℕ). front ++ x) (append_assoc (bytes_of r) (tape_of rs) rest) in
    let d : read_of s (16 * n) ≡ Ok (Some (r, 16 * n + 16)) = ap (λ (x : List ℕ). read_of x (16 * n)) e
    ∙ found_there front (tape_of rs ++ rest) (16 * n) r l (omega arith) (command_right (16 * n) r (λ z. omega arith) k.0.0) k.0.1 in
    let t : 16 * n + 16 ≡ 16 * suc n = omega arith in
    let q : g - 1 ≡ length rs + f = omega arith in
    let w : length (front ++ bytes_of r) ≡ 16 * suc n = length-append front (bytes_of r) ∙ omega (arith, sixteen_long r) in
    rw (
      one_read g s (16 * n) (Ok (Some (r, 16 * n + 16))) (omega arith) d,
      q,
      t,
      ne_eqb n 0 (λ z. omega arith),
      alike_own (kept_on r)
          (kept (answer m (command_of r))) (first a),
    )
    (past s rs (next m (command_of r)) (suc n) last seed (length rs + f) f (front ++ bytes_of r) rest
    (e ∙ sym (append_assoc front (bytes_of r) (tape_of rs ++ rest))) w (omega arith) (omega arith) refl k.1 (others a))

-- the header is passed
headed_verdict : (s : List ℕ) (edition seed : ℕ) (rest : List ℕ) → s ≡ bytes_of (header_of edition seed) ++ rest → is_edition edition ≡ true
    → is_seed seed ≡ true → verdict_of s ≡ judged_from fresh 1 seed (T.answers (length s) s 16)
unfolding verdict_of judged_from
headed_verdict s edition seed rest e h k =
    let d : read_of s 0 ≡ Ok (Some (header_of edition seed, 16)) = ap (λ (x : List ℕ). read_of x 0) e
    ∙ found_there [] rest 0 (header_of edition seed) refl refl (header_right edition seed h k) (seed_small seed k) in
    let q : suc (length s) - 1 ≡ length s = omega arith in
    rw (one_read (suc (length s)) s 0 (Ok (Some (header_of edition seed, 16))) (omega arith) d, q)

module _ (s : List ℕ) (seed : ℕ) (rs : List Record) (rest : List ℕ) (b : Begins s seed rs rest) where
  long : length s ≡ 16 * suc (length rs) + length rest
  long = ap (λ (x : List ℕ). length x) b.bytes ∙ length-append (tape_of (header_of b.edition seed ∷ rs)) rest ∙ omega
      (arith, tape_long (header_of b.edition seed ∷ rs))

  passed : verdict_of s ≡ judged_from (behind rs) (suc (length rs)) seed (T.answers (length s - length rs) s (16 * suc (length rs)))
  passed =
      let e : s ≡ bytes_of (header_of b.edition seed) ++ (tape_of rs ++ rest) = b.bytes ∙ append_assoc (bytes_of (header_of b.edition seed))
      (tape_of rs) rest in
      headed_verdict s b.edition seed (tape_of rs ++ rest) e b.known b.seeded
      ∙ (past s rs fresh 1 (suc (length rs)) seed (length s) (length s - length rs) (bytes_of (header_of b.edition seed)) rest e
      (sixteen_long (header_of b.edition seed))
      (omega arith) (omega arith) (omega (arith, long)) b.commands b.agree)

  -- the next answer of the reader
  then : (x : Read) → read_of s (16 * suc (length rs)) ≡ x
      → verdict_of s ≡ judged_from (behind rs) (suc (length rs)) seed (x ∷ T.answers (length s - length rs - 1) s (place_of (16 * suc (length rs)) x))
  then x e = passed ∙ ap (judged_from (behind rs) (suc (length rs)) seed) (one_read (length s - length rs) s (16 * suc (length rs)) x (omega (arith, long)) e)

agrees_judged : (s : List ℕ) (seed k : ℕ) → AllAgree s seed k → verdict_of s ≡ record { seed = seed; verdict = Agrees k }
unfolding judged_from
agrees_judged s seed k a =
    let rs = a.records in
    let l : length s ≡ 16 * suc (length rs) = long s seed rs [] a.begins ∙ omega arith in
    let e : read_of s (16 * suc (length rs)) ≡ Ok None = end_there s (16 * suc (length rs)) (omega arith) (sym l) (omega arith) in
    let c : suc (length rs) - 1 ≡ k = omega (arith, a.count) in
    then s seed rs [] a.begins (Ok None) e ∙ rw c

differs_judged : (s : List ℕ) (seed : ℕ) (d : Difference) → FirstDiffers s seed d → verdict_of s ≡ record { seed = seed; verdict = Differs d }
unfolding judged_from
differs_judged s seed d a =
    let rs = a.records in
    let r = a.r in
    let n : alike (kept_on r) (kept (answer (behind rs) (command_of r))) ≡ false =
    unlike (kept_on r) (kept (answer (behind rs) (command_of r))) a.differs in
    let l : length (tape_of (header_of a.begins.edition seed ∷ rs)) ≡ 16 * suc (length rs) = tape_long (header_of a.begins.edition seed ∷ rs) in
    let e : read_of s (16 * suc (length rs)) ≡ Ok (Some (r, 16 * suc (length rs) + 16)) =
    ap (λ (x : List ℕ). read_of x (16 * suc (length rs))) a.begins.bytes
    ∙ found_there (tape_of (header_of a.begins.edition seed ∷ rs)) a.rest (16 * suc (length rs)) r l (omega arith)
    (command_right (16 * suc (length rs)) r (λ z. omega arith) a.command.0) a.command.1 in
    then s seed rs (bytes_of r ++ a.rest) a.begins (Ok (Some (r, 16 * suc (length rs) + 16))) e ∙ rw (n, ne_eqb (suc (length rs)) 0 (λ z. omega arith), a.told)

-- a header whose value is no seed
module _ (s : List ℕ) (edition value : ℕ) (rest : List ℕ) (known : is_edition edition ≡ true) (e : s ≡ bytes_of (header_of edition value) ++ rest)
    (small : value < 18446744073709551616) where
  at_first : take 16 s ≡ bytes_of (header_of edition value)
  at_first = ap (λ (l : List ℕ). take 16 l) e ∙ take_at (bytes_of (header_of edition value)) rest 16 (sixteen_long (header_of edition value))

  bad_value : (record_of (take 16 s)).value ≡ value
  bad_value = ap (λ (l : List ℕ). (record_of l).value) at_first ∙ ap (λ (r : Record). r.value) (fields_back (header_of edition value) small)

  bad_fault : is_seed value ≡ false → fault_of 0 (header_of edition value) ≡ Err Seed
  unfolding fault_of
  bad_fault n = rw (known, n)

  bad_read : is_seed value ≡ false → read_of s 0 ≡ Err Seed
  bad_read n =
      let l : 16 ≤ length s = rw (e, length-append (bytes_of (header_of edition value)) rest, sixteen_long (header_of edition value)) (omega arith) in
      sym (read_judged s 0 refl (omega arith) (λ q. omega arith) l) ∙ ap (judged 0) at_first
      ∙ sym (judged_not 0 (bytes_of (header_of edition value)) (own_fault 0 (header_of edition value) small ∙ bad_fault n))

stops_judged : (s : List ℕ) (seed : ℕ) (e : RefusedAt) → FirstRefused s seed e → verdict_of s ≡ record { seed = seed; verdict = Malformed e }
unfolding judged_from verdict_of
stops_judged s seed e (no_header h) = rw (one_read (suc (length s)) s 0 (Err NoRecord) (omega arith) h, h)
stops_judged s seed e (bad_seed edition value rest k q l n) =
    let h = bad_read s edition value rest k q l n in
    rw (one_read (suc (length s)) s 0 (Err Seed) (omega arith) h, h, bad_value s edition value rest k q l)
stops_judged s seed e (no_command seed' rs rest b h) = then s seed' rs rest b (Err NoRecord) h

-- Whatever is said so of a tape is its judgement.
pub says_judged : (s : List ℕ) (seed : ℕ) (v : Verdict) → Says s seed v → verdict_of s ≡ record { seed = seed; verdict = v }
says_judged s seed (Agrees k) a = agrees_judged s seed k a
says_judged s seed (Differs d) a = differs_judged s seed d a
says_judged s seed (Malformed e) a = stops_judged s seed e a

-- ---- what is judged is said: one record more

abbrev Spoken : List ℕ → Judgement → Type 0
Spoken s j = Says s j.seed j.verdict

answers_more : (cs : List Command) (m : Machine) (c : Command) → answers m (cs ++ (c ∷ [])) ≡ answers m cs ++ (answer (run m cs) c ∷ [])
unfolding answers run
answers_more [] m c = refl
answers_more (d ∷ cs) m c = ap (λ (l : List rules.Answer). answer m d ∷ l) (answers_more cs (next m d) c)

run_more : (cs : List Command) (m : Machine) (c : Command) → run m (cs ++ (c ∷ [])) ≡ next (run m cs) c
unfolding run
run_more [] m c = refl
run_more (d ∷ cs) m c = run_more cs (next m d) c

map_more : {A B : Type 0} (f : A → B) (l : List A) (x : A) → map f (l ++ (x ∷ [])) ≡ map f l ++ (f x ∷ [])
map_more f [] x = refl
map_more f (y ∷ l) x = ap (λ m. f y ∷ m) (map_more f l x)

kept_more : (cs : List Command) (m : Machine) (c : Command) → map kept (answers m (cs ++ (c ∷ []))) ≡ map kept (answers m cs)
    ++ (kept (answer (run m cs) c) ∷ [])
kept_more cs m c = ap (λ (l : List rules.Answer). map kept l) (answers_more cs m c) ∙ map_more kept (answers m cs) (answer (run m cs) c)

tape_more : (rs : List Record) (r : Record) (rest : List ℕ) → tape_of (rs ++ (r ∷ [])) ++ rest ≡ tape_of rs ++ (bytes_of r ++ rest)
tape_more [] r rest = rw (append-nil (bytes_of r))
tape_more (q ∷ rs) r rest =
    rw (append_assoc (bytes_of q) (tape_of (rs ++ (r ∷ []))) rest, tape_more rs r rest, append_assoc (bytes_of q) (tape_of rs) (bytes_of r ++ rest))

all_more : (P : Record → Type 0) (rs : List Record) (r : Record) → All P rs → P r → All P (rs ++ (r ∷ []))
all_more P [] r a p = (p, tt)
all_more P (q ∷ rs) r a p = (a.0, all_more P rs r a.1 p)

has_command_fields : (at : ℕ) (r : Record) → at ≢ 0 → fault_of at r ≡ Ok tt → command_fields r ≡ true
unfolding fault_of
has_command_fields at r n e = go (command_fields r) (rw (ne_eqb at 0 n) at e)
  where
    go : (t : Bool) → cond {A = Result (Unit {0}) Refusal} t (Ok tt) (Err NoRecord) ≡ Ok tt → t ≡ true
    go true z = refl
    go false z = absurd cc

-- behind the header a refusal is 15
refused_behind : (s : List ℕ) (at : ℕ) (c : Refusal) → at ≢ 0 → read_of s at ≡ Err c → c ≡ NoRecord
refused_behind s at c n = go (stands s at)
  where
    go : {x : Read} → Stands s at x → x ≡ Err c → c ≡ NoRecord
    go (found w l f) e = absurd cc
    go (end w l f) e = absurd cc
    go no_record e = cc
    go (no_seed a l) e = absurd (n a)

module _ (s : List ℕ) (small : (i : ℕ) → get_or s i 0 < 256) where
  module _ (seed : ℕ) (rs : List Record) (rest : List ℕ) (b : Begins s seed rs rest) where
    -- what stands at the next place is what is left
    left : drop (16 * suc (length rs)) s ≡ rest
    left =
        ap (λ (x : List ℕ). drop (16 * suc (length rs)) x) b.bytes
        ∙ drop_at (tape_of (header_of b.edition seed ∷ rs)) rest (16 * suc (length rs)) (tape_long (header_of b.edition seed ∷ rs))

    module _ (r : Record) (at : ℕ) (e : read_of s (16 * suc (length rs)) ≡ Ok (Some (r, at))) where
      there : IsThere s (16 * suc (length rs)) r at
      there = is_there s small (16 * suc (length rs)) r at e

      is_command : CommandRecord r
      is_command =
          (has_command_fields (16 * suc (length rs)) r (λ z. omega arith) (accepted (length s) (16 * suc (length rs)) r there.taken).fields, there.value_fits)

      split : rest ≡ bytes_of r ++ drop 16 rest
      split = sym (take-append-drop 16 rest) ∙ ap (λ (x : List ℕ). x ++ drop 16 rest) (sym (ap (λ (x : List ℕ). take 16 x) left) ∙ there.bytes)

      more : kept_on r ≡ kept (answer (behind rs) (command_of r)) → Begins s seed (rs ++ (r ∷ [])) (drop 16 rest)
      more a =
          record {
            edition = b.edition;
            known = b.known;
            seeded = b.seeded;
            commands = all_more CommandRecord rs r b.commands is_command;
            bytes = b.bytes ∙ ap (λ (x : List ℕ). tape_of (header_of b.edition seed ∷ rs) ++ x) split ∙ sym
                (tape_more (header_of b.edition seed ∷ rs) r (drop 16 rest));
            agree =
                map_more kept_on rs r ∙ rw (b.agree, a)
                (sym (ap (λ (cs : List Command). map kept (answers fresh cs)) (map_more command_of rs r)
                ∙ kept_more (map command_of rs) fresh (command_of r)));
          }

      differing : kept_on r ≢ kept (answer (behind rs) (command_of r))
          → Spoken s (record { seed = seed; verdict = difference (suc (length rs)) r (kept (answer (behind rs) (command_of r))) })
      differing n =
          record {
            records = rs;
            r = r;
            rest = drop 16 rest;
            begins =
                record {
                  edition = b.edition;
                  known = b.known;
                  seeded = b.seeded;
                  commands = b.commands;
                  bytes = b.bytes
                      ∙ ap (λ (x : List ℕ). tape_of (header_of b.edition seed ∷ rs) ++ x) split;
                  agree = b.agree;
                };
            command = is_command;
            differs = n;
            told = refl;
          }

    at_end : read_of s (16 * suc (length rs)) ≡ Ok None → Spoken s (record { seed = seed; verdict = Agrees (length rs) })
    at_end e =
        let l = end_place s (16 * suc (length rs)) e in
        let z : rest ≡ [] = sym left ∙ drop_of_length-le s {i = 16 * suc (length rs)} (omega arith) in
        record {
          records = rs;
          begins = record {
            edition = b.edition;
            known = b.known;
            seeded = b.seeded;
            commands = b.commands;
            bytes = b.bytes ∙ ap
                (λ (x : List ℕ). tape_of (header_of b.edition seed ∷ rs) ++ x) z;
            agree = b.agree;
          };
          count =
              refl;
        }

    -- one record more, or the judgement
    module _ (f : ℕ) (ih : (seed' : ℕ) (rs' : List Record) (rest' : List ℕ) → Begins s seed' rs' rest' → length rest' < f
        → Spoken s (judged_from (behind rs') (suc (length rs')) seed' (T.answers f s (16 * suc (length rs'))))) (o : length rest < suc f) where
      agreed : (r : Record) (at : ℕ) (e : read_of s (16 * suc (length rs)) ≡ Ok (Some (r, at))) → kept_on r ≡ kept (answer (behind rs) (command_of r))
          → Spoken s (judged_from (next (behind rs) (command_of r)) (suc (suc (length rs))) seed (T.answers f s at))
      agreed r at e a =
          let w : length rest ≡ 16 + length (drop 16 rest) = ap (λ (x : List ℕ). length x) (split r at e) ∙ length-append (bytes_of r) (drop 16 rest)
          ∙ omega (arith, sixteen_long r) in
          let l : length (rs ++ (r ∷ [])) ≡ suc (length rs) = length-append rs (r ∷ []) ∙ omega arith in
          let m : behind (rs ++ (r ∷ [])) ≡ next (behind rs) (command_of r) = ap (run fresh) (map_more command_of rs r)
          ∙ run_more (map command_of rs) fresh (command_of r) in
          let t : 16 * suc (suc (length rs)) ≡ at = omega (arith, (there r at e).behind) in
          rw (m, l, t) at (ih seed (rs ++ (r ∷ [])) (drop 16 rest) (more r at e a) (omega arith))

      either : (r : Record) (at : ℕ) (e : read_of s (16 * suc (length rs)) ≡ Ok (Some (r, at))) (t : Bool)
          → alike (kept_on r) (kept (answer (behind rs) (command_of r))) ≡ t
          → Spoken s (cond t (judged_from (next (behind rs) (command_of r)) (suc (suc (length rs))) seed (T.answers f s at))
          (record { seed = seed; verdict = difference (suc (length rs)) r (kept (answer (behind rs) (command_of r))) }))
      either r at e true q = agreed r at e (alike_true (kept_on r) (kept (answer (behind rs) (command_of r))) q)
      either r at e false q = differing r at e (λ a. true≢false (sym (alike_own (kept_on r) (kept (answer (behind rs) (command_of r))) a) ∙ q))

      by_read : (x : Read) → read_of s (16 * suc (length rs)) ≡ x
          → Spoken s (judged_from (behind rs) (suc (length rs)) seed (x ∷ T.answers f s (place_of (16 * suc (length rs)) x)))
      unfolding judged_from
      by_read (Err c) e = let q = refused_behind s (16 * suc (length rs)) c (λ z. omega arith) e in rw q (no_command seed rs rest b (rw q at e))
      by_read (Ok None) e = let q : suc (length rs) - 1 ≡ length rs = omega arith in rw q (at_end e)
      by_read (Ok (Some (r, at))) e =
          rw (ne_eqb (suc (length rs)) 0 (λ z. omega arith)) (either r at e (alike (kept_on r) (kept (answer (behind rs) (command_of r)))) refl)

      one_more : Spoken s (judged_from (behind rs) (suc (length rs)) seed (T.answers (suc f) s (16 * suc (length rs))))
      unfolding next_at
      one_more = by_read (read_of s (16 * suc (length rs))) refl

  walked : (f : ℕ) (seed : ℕ) (rs : List Record) (rest : List ℕ) → Begins s seed rs rest → length rest < f
      → Spoken s (judged_from (behind rs) (suc (length rs)) seed (T.answers f s (16 * suc (length rs))))
  walked zero seed rs rest b o = absurd (omega arith)
  walked (suc f) seed rs rest b o = one_more seed rs rest b f (walked f) o

-- ---- and the header

has_header_fields : (r : Record) → fault_of 0 r ≡ Ok tt → (header_fields r ≡ true) × (is_seed r.value ≡ true)
unfolding fault_of
has_header_fields r e = go (header_fields r) (is_seed r.value) e
  where
    go : (h v : Bool) → cond {A = Result (Unit {0}) Refusal} h (cond v (Ok tt) (Err Seed)) (Err NoRecord) ≡ Ok tt → (h ≡ true) × (v ≡ true)
    go true true z = (refl, refl)
    go true false z = absurd cc
    go false v z = absurd cc

made : {op a b code running released : ℕ} → op ≡ 0 → b ≡ 0 → code ≡ 0 → running ≡ 0 → released ≡ 0 → (v : ℕ)
    → ◌≡◌ {A = Record} (record { op = op; a = a; b = b; code = code; running = running; released = released; value = v }) (header_of a v)
made p r s t u v = cc

header_is : (r : Record) → header_fields r ≡ true → (r ≡ header_of r.a r.value) × (is_edition r.a ≡ true)
header_is r e =
    let known = is_edition r.a in
    let f = both_true (eqb r.op 0 && known && eqb r.b 0 && eqb r.code 0 && eqb r.running 0) (eqb r.released 0) e in
    let g = both_true (eqb r.op 0 && known && eqb r.b 0 && eqb r.code 0) (eqb r.running 0) f.0 in
    let h = both_true (eqb r.op 0 && known && eqb r.b 0) (eqb r.code 0) g.0 in
    let i = both_true (eqb r.op 0 && known) (eqb r.b 0) h.0 in
    let j = both_true (eqb r.op 0) known i.0 in (
      made (eqb-true r.op 0 j.0) (eqb-true r.b 0 i.1) (eqb-true r.code 0 h.1) (eqb-true r.running 0 g.1)
          (eqb-true r.released 0 f.1) r.value,
      j.1,
    )

header_begins : (s : List ℕ) (small : (i : ℕ) → get_or s i 0 < 256) (r : Record) (at : ℕ) → read_of s 0 ≡ Ok (Some (r, at)) → Begins s r.value [] (drop 16 s)
unfolding answers
header_begins s small r at e =
    let k = is_there s small 0 r at e in
    let h = has_header_fields r (accepted (length s) 0 r k.taken).fields in
    let k' = header_is r h.0 in
    record {
      edition = r.a;
      known = k'.1;
      seeded = h.1;
      commands = tt;
      bytes =
          sym (take-append-drop 16 s) ∙ ap (λ (x : List ℕ). x ++ drop 16 s)
          (k.bytes ∙ ap bytes_of k'.0 ∙ sym (append-nil (bytes_of (header_of r.a r.value))));
      agree = refl;
    }

-- 17: 16 bytes that are a header else right
record BadSeed (p : List ℕ) : Type 0 where
  mark : marked p ≡ true
  fields : header_fields (record_of p) ≡ true
  value : is_seed (record_of p).value ≡ false

seventeen_bytes : (p : List ℕ) → judged 0 p ≡ Err Seed → BadSeed p
unfolding judged
seventeen_bytes p = go (marked p) refl (header_fields (record_of p)) refl (is_seed (record_of p).value) refl
  where
    go : (m : Bool) → marked p ≡ m → (h : Bool) → header_fields (record_of p) ≡ h → (v : Bool) → is_seed (record_of p).value ≡ v
        → cond {A = Read} (m && h && v) (Ok (Some (record_of p, 16))) (cond (m && h && not v) (Err Seed) (Err NoRecord)) ≡ Err Seed → BadSeed p
    go true em true eh false ev e = record { mark = em; fields = eh; value = ev }
    go true em true eh true ev e = absurd cc
    go true em false eh v ev e = absurd cc
    go false em h eh v ev e = absurd cc

header_refused : (s : List ℕ) (small : (i : ℕ) → get_or s i 0 < 256) (c : Refusal) → read_of s 0 ≡ Err c
    → FirstRefused s (seed_shown (refusals.number_of c) (record_of (take 16 s)).value 0) (record { code = refusals.number_of c; number = 0; place = 0 })
header_refused s small c e = go (stands s 0) e
  where
    p : List ℕ
    p = take 16 s

    bad : 16 ≤ length s → read_of s 0 ≡ Err Seed → FirstRefused s (record_of p).value (record { code = 17; number = 0; place = 0 })
    bad l q =
        let k = seventeen_bytes p (read_judged s 0 refl (omega arith) (λ z. omega arith) l ∙ q) in
        let h = header_is (record_of p) k.fields in
        let b : bytes_of (header_of (record_of p).a (record_of p).value) ≡ p = ap bytes_of (sym h.0)
        ∙ bytes_spelt p (length-take-le 16 s l) (part_small s small 0) k.mark in
        bad_seed (record_of p).a (record_of p).value (drop 16 s) h.1 (sym (take-append-drop 16 s) ∙ ap (λ (x : List ℕ). x ++ drop 16 s) (sym b))
        (value_kept p (part_small s small 0)) k.value

    go : {x : Read} → Stands s 0 x → x ≡ Err c → FirstRefused s (seed_shown (refusals.number_of c) (record_of p).value 0) (record { code = refusals.number_of c; number = 0; place = 0 })
    go (found w l f) q = absurd cc
    go (end w l f) q = absurd cc
    go no_record q = let z : c ≡ NoRecord = cc in rw z (no_header (rw z at e))
    go (no_seed a l) q = let z : c ≡ Seed = cc in rw z (bad l (rw z at e))

-- Of every byte string, the judgement is what it says: one of the three.
-- (Numbers below 256: a byte string. The other way needs no such premise.)
pub judged_says : (s : List ℕ) → ((i : ℕ) → get_or s i 0 < 256) → Says s (verdict_of s).seed (verdict_of s).verdict
unfolding verdict_of judged_from next_at run
judged_says s small = go (read_of s 0) refl
  where
    go : (x : Read) → read_of s 0 ≡ x → Spoken s
        (judged_from fresh 0 (seed_shown (number_of x) (record_of (take 16 s)).value 0) (x ∷ T.answers (length s) s (place_of 0 x)))
    go (Err c) e = header_refused s small c e
    go (Ok None) e = let p = end_place s 0 e in absurd (omega arith)
    go (Ok (Some (r, at))) e =
        let k = is_there s small 0 r at e in
        let t : at ≡ 16 = omega (arith, k.behind) in
        let b = header_begins s small r at e in
        rw t (walked s small (length s) r.value [] (drop 16 s) b (omega (arith, long s r.value [] (drop 16 s) b)))

-- ---- the number of a refusal

stops_number : (s : List ℕ) (seed : ℕ) (e : RefusedAt) → FirstRefused s seed e → RefusedWith e
stops_number s seed e (no_header h) = fifteen refl
stops_number s seed e (bad_seed edition value rest h q l n) = seventeen refl refl
stops_number s seed e (no_command seed' rs rest b h) = fifteen refl

-- Where a byte string is refused the number is 15, or it is 17 and the record is the header.
pub refused_number : (s : List ℕ) → ((i : ℕ) → get_or s i 0 < 256) → (e : RefusedAt) → (verdict_of s).verdict ≡ Malformed e → RefusedWith e
refused_number s small e q = stops_number s (verdict_of s).seed e (rw q at (judged_says s small))

-- ---- the seed

-- behind the header the seed goes nowhere but into what is shown
seed_kept : (l : List Read) (m : Machine) (n seed seed' : ℕ) → 1 ≤ n → judged_from m n seed l
    ≡ record { seed = seed; verdict = (judged_from m n seed' l).verdict }
unfolding judged_from
seed_kept [] m n seed seed' o = refl
seed_kept (Err e ∷ l) m n seed seed' o = refl
seed_kept (Ok None ∷ l) m n seed seed' o = refl
seed_kept (Ok (Some (r, at)) ∷ l) m n seed seed' o =
    rw (ne_eqb n 0 (λ z. omega arith))
    (go (alike (kept_on r) (kept (answer m (command_of r)))) (judged_from (next m (command_of r)) (suc n) seed' l)
    (seed_kept l (next m (command_of r)) (suc n) seed seed' (omega arith)))
  where
    d : Verdict
    d = difference n r (kept (answer m (command_of r)))

    go : {x : Judgement} (t : Bool) (y : Judgement) → x ≡ record { seed = seed; verdict = y.verdict }
        → cond t x (record { seed = seed; verdict = d }) ≡ record { seed = seed; verdict = (cond t y (record { seed = seed'; verdict = d })).verdict }
    go true y e = e
    go false y e = refl

-- and behind 16 bytes the reader does not see which they are
module _ (h k rest : List ℕ) (eh : length h ≡ 16) (ek : length k ≡ 16) where
  same_long : length (h ++ rest) ≡ length (k ++ rest)
  same_long = length-append h rest ∙ omega (arith, length-append k rest)

  drop_front : (f : List ℕ) (at : ℕ) → length f ≡ 16 → 16 ≤ at → drop at (f ++ rest) ≡ drop (at - 16) rest
  drop_front f at e o =
      let n : at ≡ 16 + (at - 16) = omega arith in
      ap (λ (i : ℕ). drop i (f ++ rest)) n ∙ sym (drop-drop (at - 16) 16 (f ++ rest)) ∙ ap (λ (l : List ℕ). drop (at - 16) l) (drop_at f rest 16 e)

  same_read : (at : ℕ) → 16 ≤ at → read_of (h ++ rest) at ≡ read_of (k ++ rest) at
  unfolding read_of
  same_read at o = rw (same_long, drop_front h at eh o, drop_front k at ek o)

  same_next : (at : ℕ) → 16 ≤ at → next_at (h ++ rest) at ≡ next_at (k ++ rest) at
  unfolding next_at
  same_next at o = ap (place_of at) (same_read at o)

  further : (at : ℕ) → 16 ≤ at → 16 ≤ next_at (k ++ rest) at
  further at o = rw (place_moves (k ++ rest) at) (omega arith)

  both : {x y : Read} {l m : List Read} → x ≡ y → l ≡ m → x ∷ l ≡ y ∷ m
  both p q = cc

  same_answers : (f at : ℕ) → 16 ≤ at → T.answers f (h ++ rest) at ≡ T.answers f (k ++ rest) at
  same_answers zero at o = refl
  same_answers (suc f) at o = both (same_read at o) (ap (T.answers f (h ++ rest)) (same_next at o) ∙ same_answers f (next_at (k ++ rest) at) (further at o))

-- The seed is shown, and not used, and the edition is not asked for: a tape with another good seed, and another edition, in its header has the same verdict.
pub seed_only_shown : (edition edition' seed seed' : ℕ) (rest : List ℕ) → is_edition edition ≡ true → is_edition edition' ≡ true
    → is_seed seed ≡ true → is_seed seed' ≡ true
    → verdict_of (bytes_of (header_of edition seed) ++ rest) ≡ record { seed = seed; verdict = (verdict_of (bytes_of (header_of edition' seed') ++ rest)).verdict }
seed_only_shown edition edition' seed seed' rest known known' g g' =
    go (bytes_of (header_of edition seed)) (bytes_of (header_of edition' seed')) refl refl (sixteen_long (header_of edition seed))
    (sixteen_long (header_of edition' seed'))
  where
    go : (h k : List ℕ) → h ≡ bytes_of (header_of edition seed) → k ≡ bytes_of (header_of edition' seed') → length h ≡ 16 → length k ≡ 16
        → verdict_of (h ++ rest) ≡ record { seed = seed; verdict = (verdict_of (k ++ rest)).verdict }
    go h k eh ek lh lk =
        let a : T.answers (length (h ++ rest)) (h ++ rest) 16 ≡ T.answers (length (k ++ rest)) (k ++ rest) 16 =
        ap (λ (n : ℕ). T.answers n (h ++ rest) 16) (same_long h k rest lh lk) ∙ same_answers h k rest lh lk (length (k ++ rest)) 16 (omega arith) in
        headed_verdict (h ++ rest) edition seed rest (ap (λ (l : List ℕ). l ++ rest) eh) known g
        ∙ seed_kept (T.answers (length (h ++ rest)) (h ++ rest) 16) fresh 1 seed seed' (omega arith)
        ∙ ap (λ (j : Judgement). let z : Judgement = record { seed = seed; verdict = j.verdict } in z)
        (ap (judged_from fresh 1 seed') a ∙ sym (headed_verdict (k ++ rest) edition' seed' rest (ap (λ (l : List ℕ). l ++ rest) ek) known' g'))
