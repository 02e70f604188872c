-- Loops over pieces of input, for every program: what holds at each turn, how a turn keeps it, what it says at the end, and what a whole run says. Assumes
-- nothing.
use Prim.Native.Nat.{ℕ, suc, ◌+◌, ◌≤◌}
use native.Mathlib.Omega.{arith}
use mathlib.Core.Bool.{Bool, true, false, not, false≢true}
use mathlib.Core.Path.{◌≡◌, refl, ap, sym, subst, ◌∙◌}
use mathlib.Core.List.{List, [], ◌∷◌, ◌++◌}
use mathlib.Core.Logic.{◌⊎◌, inl, inr, ⊎_elim, ◌≢◌}
use lib.Dec.{T}
use lib.ListN.{length, take, length-append}
use Rattle.programs_flow.specs.declared.State.{State}
use Rattle.programs_flow.specs.declared.State.TheVariants.{GoesOn, Ended, ReadFailed, WriteFailed}
use Rattle.programs_flow.specs.declared.Went.{Went}
use Rattle.programs_flow.specs.Flow.{nothing_yet, goes_on, has_failed, Came, Took, Wrote}
use Rattle.programs_flow.specs.Loops.{Put, After, Text, behind, texts, NoneEmpty, Fed, Turned, Over, Looped, Concluded, Parted, Whole, Ran}

-- ---- tests

-- what a test of `goes_on` says
pub gone_on : (s : State) → goes_on s ≡ true → s ≡ GoesOn
gone_on GoesOn e = refl
gone_on Ended e = absurd (false≢true e)
gone_on ReadFailed e = absurd (false≢true e)
gone_on WriteFailed e = absurd (false≢true e)

-- and a test that says no
pub no_more : (s : State) → goes_on s ≡ false → s ≢ GoesOn
no_more s e k = absurd (false≢true (sym e ∙ ap goes_on k))

-- a write that failed is a failure
pub write_failed : {A : Type 0} (s : State) → has_failed s ≡ false → s ≡ WriteFailed → A
write_failed s o k = absurd (false≢true (sym o ∙ ap has_failed k))

-- ---- one turn

-- a write of what was put: as much as the text has
pub took_text : (text out : List ℕ) (at : ℕ) (state : State) (was went : Went) → Put at out text → Took (length (take at out)) state was went
    → Took (length text) state was went
took_text text out at state was went p w = rw (ap length p.1) at w

-- a turn that has read a piece: what was put for it was taken, or the write failed
pub fed_so : {S : Type 0} (after : After S) (text : Text S) (s t : S) (was came went : Went) (piece out : List ℕ) (n at : ℕ) → came.state ≡ GoesOn
    → Came was came piece → n ≡ came.count → t ≡ after s (take n piece) → Put at out (text s (take n piece)) → Wrote (length (take at out)) came went
    → Turned after text s t was went piece out
fed_so after text s t was came went piece out n at on (b, _, same) e f put w =
    inl (subst (λ (k : ℕ). Fed after text s t was went (take k piece) out) (e ∙ sym w.0) (some b.2, f, stands, took (took_text words out at came.state came went put w.1)))
  where
    words : List ℕ
    words = text s (take n piece)

    some : ((came.state ≡ GoesOn) × (1 ≤ came.count)) ⊎ ((came.count ≡ 0) × (came.state ≢ GoesOn)) → 1 ≤ length (take n piece)
    some (inl (_, o)) = let l = ap (λ (k : ℕ). length (take k piece)) e in omega (arith, o, l, b.1)
    some (inr (_, o)) = absurd (o on)

    stands : take (length words) out ≡ words
    stands = ap (λ (k : ℕ). take k out) (sym put.0) ∙ put.1

    took : Took (length words) came.state came went → Took (length words) GoesOn was went
    took (inl (k, a)) = inl (k ∙ on, omega (arith, a, same))
    took (inr k) = inr k

-- ---- one piece more, behind the others

behind_one : {S : Type 0} (after : After S) (s : S) (ps : List (List ℕ)) (p : List ℕ) → behind after s (ps ++ (p ∷ [])) ≡ after (behind after s ps) p
unfolding behind
behind_one after s [] p = refl
behind_one after s (q ∷ ps) p = behind_one after (after s q) ps p

texts_one : {S : Type 0} (after : After S) (text : Text S) (s : S) (ps : List (List ℕ)) (p : List ℕ)
    → length (texts after text s (ps ++ (p ∷ []))) ≡ length (texts after text s ps) + length (text (behind after s ps) p)
unfolding behind texts
texts_one after text s [] p = simp length-append (omega arith)
texts_one after text s (q ∷ ps) p =
    let e = texts_one after text (after s q) ps p in
    simp length-append (omega (arith, e))

none_empty_one : (ps : List (List ℕ)) (p : List ℕ) → NoneEmpty ps → 1 ≤ length p → NoneEmpty (ps ++ (p ∷ []))
none_empty_one [] p h o = (o, tt)
none_empty_one (q ∷ ps) p h o = (h.0, none_empty_one ps p h.1 o)

one_longer : (ps : List (List ℕ)) (p : List ℕ) → length (ps ++ (p ∷ [])) ≡ suc (length ps)
one_longer [] p = refl
one_longer (q ∷ ps) p = ap suc (one_longer ps p)

-- ---- the loop

-- So far: the state stands behind as many pieces as there were turns, unless the work stops; and what is printed for them was taken.
pub record Running {S : Type 0} (after : After S) (text : Text S) (s t : S) (was went : Went) (turns : ℕ) : Type 0 where
  pub pieces : List (List ℕ)
  pub none_empty : NoneEmpty pieces
  pub state : t ≡ behind after s pieces
  pub taken : (went.state ≡ WriteFailed) ⊎ (went.sent ≡ was.sent + length (texts after text s pieces))
  pub counted : (went.state ≢ GoesOn) ⊎ (length pieces ≡ turns)
  pub stopped : was.state ≢ GoesOn → (pieces ≡ []) × (went ≡ was)

pub at_start : {S : Type 0} (after : After S) (text : Text S) (s t : S) (was went : Went) → t ≡ s → went ≡ was → Running after text s t was went 0
unfolding behind texts
at_start after text s t was went e f =
    let n = ap (λ (w : Went). w.sent) f in
    record { pieces = []; none_empty = tt; state = e; taken = inr (omega (arith, n)); counted = inr refl; stopped = λ _. (refl, f) }

module _ {S : Type 0} (after : After S) (text : Text S) (s t u : S) (was went now : Went) (turns : ℕ) (r : Running after text s t was went turns)
    (on : went.state ≡ GoesOn) where
  never : {A : Type 0} → was.state ≢ GoesOn → A
  never o = absurd (o (ap (λ (w : Went). w.state) (sym (r.stopped o).1) ∙ on))

  so_many : length r.pieces ≡ turns
  so_many = ⊎_elim (λ (b : went.state ≢ GoesOn). absurd (b on)) (λ (l : length r.pieces ≡ turns). l) r.counted

  all_taken : went.sent ≡ was.sent + length (texts after text s r.pieces)
  all_taken = ⊎_elim (λ (k : went.state ≡ WriteFailed). write_failed went.state (ap has_failed on) k) (λ e. e) r.taken

  fed_on : (p out : List ℕ) → Fed after text t u went now p out → Running after text s u was now (turns + 1)
  fed_on p out (o, f, _, took) =
      record {
        pieces = r.pieces ++ (p ∷ []);
        none_empty = none_empty_one r.pieces p r.none_empty o;
        state = f ∙ ap (λ x. after x p) r.state ∙ sym (behind_one after s r.pieces p);
        taken = more took;
        counted = inr (omega (arith, one_longer r.pieces p, so_many));
        stopped = never;
      }
    where
      more : Took (length (text t p)) GoesOn went now
          → (now.state ≡ WriteFailed) ⊎ (now.sent ≡ was.sent + length (texts after text s (r.pieces ++ (p ∷ []))))
      more (inl (_, e)) =
          let l = ap (λ x. length (text x p)) r.state in
          inr (omega (arith, e, l, all_taken, texts_one after text s r.pieces p))
      more (inr k) = inl k

  pub one_turn : (buffer out : List ℕ) → Turned after text t u went now buffer out → Running after text s u was now (turns + 1)
  one_turn buffer out (inl h) = fed_on (take now.count buffer) out h
  one_turn buffer out (inr (f, o, e)) =
      record {
        pieces = r.pieces;
        none_empty = r.none_empty;
        state = f ∙ r.state;
        taken = inr (e ∙ all_taken);
        counted = inl (ended o);
        stopped = never;
      }
    where
      ended : (now.state ≡ Ended) ⊎ (now.state ≡ ReadFailed) → now.state ≢ GoesOn
      ended (inl e) = no_more now.state (ap goes_on e)
      ended (inr e) = no_more now.state (ap goes_on e)

-- ---- behind the loop

-- two texts, one written behind the other
pub then_more : (first more : List ℕ) (was mid went : Went) → has_failed was.state ≡ false → Took (length first) was.state was mid
    → Concluded more mid went → Took (length (first ++ more)) was.state was went
then_more first more was mid went o (inl (k, a)) (inl (f, _)) = absurd (false≢true (sym o ∙ ap has_failed (sym k) ∙ f))
then_more first more was mid went o (inl (k, a)) (inr (_, inl (j, b))) = inl (j ∙ k, simp length-append (omega (arith, a, b)))
then_more first more was mid went o (inl (k, a)) (inr (_, inr x)) = inr x
then_more first more was mid went o (inr k) (inl (_, e)) = inr (ap (λ (w : Went). w.state) e ∙ k)
then_more first more was mid went o (inr k) (inr (f, _)) = write_failed mid.state f k

-- the header, the first of all that is written
pub headed : (text out : List ℕ) (at : ℕ) (first went : Went) → first ≡ nothing_yet → Put at out text → Wrote (length (take at out)) first went
    → Took (length text) GoesOn nothing_yet went
headed text out at first went e p w =
    subst (λ (x : Went). Took (length text) x.state x went) e (took_text text out at first.state first went p w.1)

-- where `all` gives all that is printed of pieces, piece by piece: as much as the pieces' texts, and what it gives at their end
counted : {S : Type 0} (after : After S) (text : Text S) (all : S → List (List ℕ) → List ℕ)
    → ((x : S) (p : List ℕ) (ps : List (List ℕ)) → all x (p ∷ ps) ≡ text x p ++ all (after x p) ps) → (s : S) (ps : List (List ℕ))
    → length (all s ps) ≡ length (texts after text s ps) + length (all (behind after s ps) [])
unfolding behind texts
counted after text all more s [] = omega arith
counted after text all more s (p ∷ ps) = let e = counted after text all more (after s p) ps in rw (more s p ps) (simp length-append (omega (arith, e)))

-- a whole run: the header, the loop, the end
module _ {S : Type 0} (after : After S) (text : Text S) (wants : S → Bool) (s t : S) (header last : List ℕ) (went : Went)
    (run : Parted after text wants s t header last went) where
  abbrev Parts : Type 0
  Parts =
      (has_failed went.state ≡ true)
      ⊎ ((went.sent ≡ length header + (length (texts after text s run.loop.pieces) + length last)) × Over wants (behind after s run.loop.pieces) run.loop.pieces went)

  over_still : went.state ≡ run.read.state → Over wants (behind after s run.loop.pieces) run.loop.pieces went
  over_still k = go run.loop.over
    where
      go : Over wants t run.loop.pieces run.read → Over wants (behind after s run.loop.pieces) run.loop.pieces went
      go (inl o) = inl (λ e. o (sym k ∙ e))
      go (inr (inl n)) = inr (inl (subst (λ x. T (not (wants x))) run.loop.state n))
      go (inr (inr o)) = inr (inr o)

  all_sent : has_failed run.read.state ≡ false → run.read.sent ≡ length header + length (texts after text s run.loop.pieces)
  all_sent o = go run.first run.loop.taken
    where
      go : Took (length header) GoesOn nothing_yet run.headed
          → (run.read.state ≡ WriteFailed) ⊎ (run.read.sent ≡ run.headed.sent + length (texts after text s run.loop.pieces))
          → run.read.sent ≡ length header + length (texts after text s run.loop.pieces)
      go x (inl k) = write_failed run.read.state o k
      go (inl (_, e)) (inr f) = omega (arith, e, f)
      go (inr k) (inr f) =
          let same = (run.loop.stopped (no_more run.headed.state (ap goes_on k))).1 in
          write_failed run.read.state o (ap (λ (w : Went). w.state) same ∙ k)

  pub in_all : Parts
  in_all = go run.end
    where
      go : Concluded last run.read went → Parts
      go (inl (o, e)) = inl (ap (λ (w : Went). has_failed w.state) e ∙ o)
      go (inr (o, inr k)) = inl (ap has_failed k)
      go (inr (o, inl (k, e))) = inr (omega (arith, e, all_sent o), over_still k)

  pub ran : (all : S → List (List ℕ) → List ℕ) → ((x : S) (p : List ℕ) (ps : List (List ℕ)) → all x (p ∷ ps) ≡ text x p ++ all (after x p) ps)
      → all t [] ≡ last → Ran after wants s (λ ps. header ++ all s ps) t went
  ran all more end = (run.loop.pieces, run.loop.none_empty, run.loop.state, go in_all)
    where
      go : Parts → (has_failed went.state ≡ true)
          ⊎ ((went.sent ≡ length (header ++ all s run.loop.pieces)) × Over wants (behind after s run.loop.pieces) run.loop.pieces went)
      go (inl o) = inl o
      go (inr (e, o)) =
          let n = ap (λ x. length (all x [])) (sym run.loop.state) ∙ ap length end in
          inr (simp length-append (omega (arith, e, n, counted after text all more s run.loop.pieces)), o)

-- a whole run, wherever it stands
pub whole : {S : Type 0} (after : After S) (wants : S → Bool) (s t : S) (all : List (List ℕ) → List ℕ) (went : Went) → Ran after wants s all t went
    → Whole after wants s all went
whole after wants s t all went (ps, n, _, inl f) = inl f
whole after wants s t all went (ps, n, _, inr (a, o)) = inr (ps, n, a, o)
