-- Lines out of pieces, cut anywhere, are the lines of the whole. By induction on the bytes for the definitions, and cut by cut for the
-- reader, who keeps 129 bytes of a line at most. Assumes nothing.
use Prim.Native.Nat.{ℕ, zero, suc, ◌+◌, ◌-◌, ◌≤◌, ◌<◌, min}
use native.Mathlib.Omega.{arith}
use mathlib.Core.Bool.{Bool, true, false, cond, false≢true}
use mathlib.Core.Path.{◌≡◌, refl, ap, sym, ◌∙◌}
use mathlib.Core.List.{List, [], ◌∷◌, ◌++◌, append_assoc, append-nil, map, map-append}
use lib.Dec.{eqb}
use lib.ListN.{length, take, drop, set, length-take, length-drop}
use lib.Seq.{sets, length-sets, take_all, append_snoc, drop-drop, take-take}
use Rattle.rules.specs.Line.{empty, joined}
use Rattle.text.specs.declared.Held.{Held}
use Rattle.text.specs.Words.{before, onward, line_end}
use Rattle.text.specs.Lines.{ended, begins, last_piece, lines, kept, held_bytes, nothing_held, hold_more, end_from, cut_of, cuts, holds_after}
use Rattle.text.specs.Lines.{lines_of_pieces}
use Rattle.text.proofs.Holding.{held_part}

-- ---- pieces of the definitions

module _ (b : List ℕ) where
  ended_append : (begun a : List ℕ) → ended begun (a ++ b) ≡ ended begun a ++ ended (begins begun a) b
  unfolding ended begins
  ended_append begun [] = refl
  ended_append begun (x ∷ a) = go (eqb x line_end) (ended_append [] a) (ended_append (begun ++ (x ∷ [])) a)
    where
      go : (t : Bool) → ended [] (a ++ b) ≡ ended [] a ++ ended (begins [] a) b
          → ended (begun ++ (x ∷ [])) (a ++ b) ≡ ended (begun ++ (x ∷ [])) a ++ ended (begins (begun ++ (x ∷ [])) a) b
          → cond t (begun ∷ ended [] (a ++ b)) (ended (begun ++ (x ∷ [])) (a ++ b)) ≡ cond t (begun ∷ ended [] a) (ended (begun ++ (x ∷ [])) a) ++ ended
          (cond t (begins [] a) (begins (begun ++ (x ∷ [])) a)) b
      go true p q = ap (λ (l : List (List ℕ)). begun ∷ l) p
      go false p q = q

  begins_append : (begun a : List ℕ) → begins begun (a ++ b) ≡ begins (begins begun a) b
  unfolding begins
  begins_append begun [] = refl
  begins_append begun (x ∷ a) = go (eqb x line_end) (begins_append [] a) (begins_append (begun ++ (x ∷ [])) a)
    where
      go : (t : Bool) → begins [] (a ++ b) ≡ begins (begins [] a) b → begins (begun ++ (x ∷ [])) (a ++ b) ≡ begins (begins (begun ++ (x ∷ [])) a) b
          → cond t (begins [] (a ++ b)) (begins (begun ++ (x ∷ [])) (a ++ b)) ≡ begins (cond t (begins [] a) (begins (begun ++ (x ∷ [])) a)) b
      go true p q = p
      go false p q = q

-- ---- kept bytes

kept_more : (a b : List ℕ) → kept (kept a ++ b) ≡ kept (a ++ b)
kept_more a b = go 129 a
  where
    go : (n : ℕ) (a : List ℕ) → take n (take n a ++ b) ≡ take n (a ++ b)
    go zero a = refl
    go (suc n) [] = refl
    go (suc n) (x ∷ a) = ap (λ (l : List ℕ). x ∷ l) (go n a)

kept_twice : (a : List ℕ) → kept (kept a) ≡ kept a
kept_twice a = take-take 129 129 a (omega arith)

kept_behind : (p q r : List ℕ) → kept p ≡ kept q → kept (p ++ r) ≡ kept (q ++ r)
kept_behind p q r e = sym (kept_more p r) ∙ ap (λ (l : List ℕ). kept (l ++ r)) e ∙ kept_more q r

-- lines that begin with the same kept bytes have the same kept bytes
same_ended : (l p q : List ℕ) → kept p ≡ kept q → map kept (ended p l) ≡ map kept (ended q l)
unfolding ended
same_ended [] p q e = refl
same_ended (b ∷ l) p q e = go (eqb b line_end) (same_ended l (p ++ (b ∷ [])) (q ++ (b ∷ [])) (kept_behind p q (b ∷ []) e))
  where
    go : (t : Bool) → map kept (ended (p ++ (b ∷ [])) l) ≡ map kept (ended (q ++ (b ∷ [])) l)
        → map kept (cond t (p ∷ ended [] l) (ended (p ++ (b ∷ [])) l)) ≡ map kept (cond t (q ∷ ended [] l) (ended (q ++ (b ∷ [])) l))
    go true i = ap (λ (x : List ℕ). x ∷ map kept (ended [] l)) e
    go false i = i

same_begins : (l p q : List ℕ) → kept p ≡ kept q → kept (begins p l) ≡ kept (begins q l)
unfolding begins
same_begins [] p q e = e
same_begins (b ∷ l) p q e = go (eqb b line_end) (same_begins l (p ++ (b ∷ [])) (q ++ (b ∷ [])) (kept_behind p q (b ∷ []) e))
  where
    go : (t : Bool) → kept (begins (p ++ (b ∷ [])) l) ≡ kept (begins (q ++ (b ∷ [])) l)
        → kept (cond t (begins [] l) (begins (p ++ (b ∷ [])) l)) ≡ kept (cond t (begins [] l) (begins (q ++ (b ∷ [])) l))
    go true i = refl
    go false i = i

kept_empty : (p : List ℕ) → empty (kept p) ≡ empty p
kept_empty [] = refl
kept_empty (b ∷ p) = refl

same_last : (p q : List ℕ) → kept p ≡ kept q → map kept (last_piece p) ≡ map kept (last_piece q)
same_last p q e =
    let t : empty p ≡ empty q = sym (kept_empty p) ∙ ap empty e ∙ kept_empty q in
    rw t (go (empty q))
  where
    go : (t : Bool) → map kept (cond t [] (p ∷ [])) ≡ map kept (cond t [] (q ∷ []))
    go true = refl
    go false = ap (λ (x : List ℕ). x ∷ []) e

-- ---- what is held

-- a run of stores, as far as there is room for it
sets_behind : (x : ℕ) (l : List ℕ) (i : ℕ) (p : List ℕ) → sets (x ∷ l) (suc i) p ≡ x ∷ sets l i p
sets_behind x l i [] = refl
sets_behind x l i (b ∷ p) = sets_behind x (set l i b) (suc i) p

stored : (n : ℕ) (l p : List ℕ) → n ≤ length l → take (min (length l) (n + length p)) (sets l n p) ≡ take (length l) (take n l ++ p)
stored zero [] p h = let z : min 0 (0 + length p) ≡ 0 = omega arith in rw z
stored zero (x ∷ l) [] h = let z : min (suc (length l)) 0 ≡ 0 = omega arith in rw z
stored zero (x ∷ l) (b ∷ p) h =
    let z : min (suc (length l)) (0 + suc (length p)) ≡ suc (min (length l) (0 + length p)) = omega arith in
    rw (z, sets_behind b l 0 p) (ap (λ (m : List ℕ). b ∷ m) (stored zero l p (omega arith)))
stored (suc n) [] p h = absurd (omega arith)
stored (suc n) (x ∷ l) p h =
    let z : min (suc (length l)) (suc n + length p) ≡ suc (min (length l) (n + length p)) = omega arith in
    rw (z, sets_behind x l n p) (ap (λ (m : List ℕ). x ∷ m) (stored n l p (omega arith)))

module _ (h : Held) (p : List ℕ) (e : length h.bytes ≡ 129) where
  pub held_more : held_bytes (hold_more h p) ≡ kept (held_bytes h ++ p)
  unfolding hold_more
  held_more =
      let n = min 129 h.count in
      let s : take (min (length h.bytes) (n + length p)) (sets h.bytes n p) ≡ take (length h.bytes) (take n h.bytes ++ p) = stored n h.bytes p
      (omega arith) in
      let t : take n h.bytes ≡ held_bytes h = held_part h n e refl in
      rw (e, t) at s

  held_size : length (hold_more h p).bytes ≡ 129
  unfolding hold_more
  held_size = length-sets h.bytes (min 129 h.count) p ∙ e

held_kept : (h : Held) → length h.bytes ≡ 129 → kept (held_bytes h) ≡ held_bytes h
held_kept h e = take_all 129 (held_bytes h) (rw (length-take h.count h.bytes, e) (omega arith))

-- ---- a cut

-- what ends with the first line end, and what is left behind it
behind_end : List ℕ → List ℕ
behind_end l = drop (suc (length (before line_end l))) l

not_ended : (l p : List ℕ) → empty (onward line_end l) ≡ true → (ended p l ≡ []) × (begins p l ≡ p ++ before line_end l)
unfolding ended begins before onward
not_ended [] p e = (refl, sym (append-nil p))
not_ended (b ∷ l) p e = go (eqb b line_end) refl e (not_ended l (p ++ (b ∷ [])))
  where
    go : (t : Bool) → eqb b line_end ≡ t → empty (cond t (b ∷ l) (onward line_end l)) ≡ true
        → (empty (onward line_end l) ≡ true → (ended (p ++ (b ∷ [])) l ≡ []) × (begins (p ++ (b ∷ [])) l ≡ p ++ (b ∷ []) ++ before line_end l))
        → (cond t (p ∷ ended [] l) (ended (p ++ (b ∷ [])) l) ≡ []) × (cond t (begins [] l) (begins (p ++ (b ∷ [])) l) ≡ p ++ cond t [] (b ∷ before line_end l))
    go true t f ih = absurd (false≢true f)
    go false t f ih = let r = ih f in (r.0, r.1 ∙ append_snoc p b (before line_end l))

one_ended : (l p : List ℕ) → empty (onward line_end l) ≡ false
    → (ended p l ≡ (p ++ before line_end l) ∷ ended [] (behind_end l)) × (begins p l ≡ begins [] (behind_end l))
unfolding ended begins before onward behind_end
one_ended [] p e = absurd (false≢true (sym e))
one_ended (b ∷ l) p e = go (eqb b line_end) refl e (one_ended l (p ++ (b ∷ [])))
  where
    go : (t : Bool) → eqb b line_end ≡ t → empty (cond t (b ∷ l) (onward line_end l)) ≡ false
        → (empty (onward line_end l) ≡ false → (ended (p ++ (b ∷ [])) l ≡ (p ++ (b ∷ []) ++ before line_end l) ∷ ended []
        (drop (suc (length (before line_end l))) l)) × (begins (p ++ (b ∷ [])) l ≡ begins [] (drop (suc (length (before line_end l))) l)))
        → (cond t (p ∷ ended [] l) (ended (p ++ (b ∷ [])) l) ≡ (p ++ cond t [] (b ∷ before line_end l)) ∷ ended []
        (drop (suc (length (cond t [] (b ∷ before line_end l)))) (b ∷ l)))
        × (cond t (begins [] l) (begins (p ++ (b ∷ [])) l) ≡ begins [] (drop (suc (length (cond t [] (b ∷ before line_end l)))) (b ∷ l)))
    go true t f ih = (ap (λ (x : List ℕ). x ∷ ended [] l) (sym (append-nil p)), refl)
    go false t f ih =
        let r = ih f in
        (r.0 ∙ ap (λ (x : List ℕ). x ∷ ended [] (drop (suc (length (before line_end l))) l)) (append_snoc p b (before line_end l)), r.1)

some_end : (l : List ℕ) → empty (onward line_end l) ≡ false → 0 < length l
unfolding onward
some_end [] e = absurd (false≢true (sym e))
some_end (b ∷ l) e = omega arith

record Cuts-read (n : ℕ) (h : Held) (s : List ℕ) (at : ℕ) : Type 0 where
  whole_lines : cuts (suc n) h s at ≡ map kept (ended (held_bytes h) (drop at s))
  held_then : kept (held_bytes (holds_after (suc n) h s at)) ≡ kept (begins (held_bytes h) (drop at s))
  size_then : length (holds_after (suc n) h s at).bytes ≡ 129

-- no line end comes
part_read : (n : ℕ) (h : Held) (s : List ℕ) (at : ℕ) → length h.bytes ≡ 129 → empty (onward line_end (drop at s)) ≡ true → Cuts-read n h s at
unfolding cuts holds_after cut_of
part_read n h s at e t =
    let r = not_ended (drop at s) (held_bytes h) t in
    record {
      whole_lines = rw (t, r.0);
      held_then = rw (t, r.1, held_more h (before line_end (drop at s)) e) (kept_twice (held_bytes h ++ before line_end (drop at s)));
      size_then = rw t (held_size h (before line_end (drop at s)) e);
    }

-- a line end comes, and the rest is read behind it
behind_cut : (s : List ℕ) (at : ℕ) → drop (end_from s at + 1) s ≡ behind_end (drop at s)
unfolding end_from behind_end
behind_cut s at =
    let k = length (before line_end (drop at s)) in
    let e : at + k + 1 ≡ at + suc k = omega arith in
    rw (e, drop-drop (suc k) at s)

length_behind : (l : List ℕ) → length (behind_end l) ≡ length l - suc (length (before line_end l))
unfolding behind_end
length_behind l = length-drop (suc (length (before line_end l))) l

nothing_size : length nothing_held.bytes ≡ 129
unfolding nothing_held
nothing_size = refl

nothing_bytes : held_bytes nothing_held ≡ []
unfolding nothing_held
nothing_bytes = refl

module _ (n : ℕ) (h : Held) (s : List ℕ) (at : ℕ) (t : empty (onward line_end (drop at s)) ≡ false) where
  first_cut : cuts (suc n) h s at ≡ held_bytes (hold_more h (before line_end (drop at s))) ∷ cuts n nothing_held s (end_from s at + 1)
  unfolding cuts cut_of
  first_cut = rw t

  held_later : holds_after (suc n) h s at ≡ holds_after n nothing_held s (end_from s at + 1)
  unfolding holds_after cut_of
  held_later = rw t

whole_read : (n : ℕ) (h : Held) (s : List ℕ) (at : ℕ) → length h.bytes ≡ 129 → empty (onward line_end (drop at s)) ≡ false
    → Cuts-read n nothing_held s (end_from s at + 1) → Cuts-read (suc n) h s at
whole_read n h s at e t c =
    let r = one_ended (drop at s) (held_bytes h) t in
    let w = rw (nothing_bytes, behind_cut s at) at c.whole_lines in
    let v = rw (nothing_bytes, behind_cut s at) at c.held_then in
    record {
      whole_lines = first_cut (suc n) h s at t ∙ rw (r.0, w, held_more h (before line_end (drop at s)) e);
      held_then = rw (held_later (suc n) h s at t, r.1) v;
      size_then = rw (held_later (suc n) h s at t) c.size_then;
    }

cuts_read : (n : ℕ) (h : Held) (s : List ℕ) (at : ℕ) → length h.bytes ≡ 129 → length (drop at s) ≤ n → Cuts-read n h s at
cuts_read zero h s at e l = go (empty (onward line_end (drop at s))) refl
  where
    go : (t : Bool) → empty (onward line_end (drop at s)) ≡ t → Cuts-read zero h s at
    go true t = part_read zero h s at e t
    go false t = absurd (let z : 0 < length (drop at s) = some_end (drop at s) t in omega arith)
cuts_read (suc n) h s at e l = go (empty (onward line_end (drop at s))) refl (cuts_read n nothing_held s (end_from s at + 1) nothing_size)
  where
    go : (t : Bool) → empty (onward line_end (drop at s)) ≡ t → (length (drop (end_from s at + 1) s) ≤ n → Cuts-read n nothing_held s (end_from s at + 1))
        → Cuts-read (suc n) h s at
    go true t ih = part_read (suc n) h s at e t
    go false t ih = whole_read n h s at e t (ih (rw (behind_cut s at) (shorter (drop at s) l)))
      where
        shorter : (m : List ℕ) → length m ≤ suc n → length (behind_end m) ≤ n
        shorter m k = rw (length_behind m) (omega arith)

-- ---- pieces

piece_behind : (begun held p r : List ℕ) → kept held ≡ kept (begins begun p)
    → map kept (ended begun p) ++ map kept (ended held r ++ last_piece (begins held r)) ≡ map kept (ended begun (p ++ r) ++ last_piece (begins begun (p ++ r)))
piece_behind begun held p r e =
    let m = begins begun p in
    let el : map kept (ended held r) ≡ map kept (ended m r) = same_ended r held m e in
    let eb : map kept (last_piece (begins held r)) ≡ map kept (last_piece (begins m r)) = same_last (begins held r) (begins m r) (same_begins r held m e) in
    rw (
      ended_append r begun p,
      begins_append r begun p,
      map-append kept (ended held r) (last_piece (begins held r)),
      el,
      eb,
      map-append kept (ended begun p ++ ended m r) (last_piece (begins m r)),
      map-append kept (ended begun p) (ended m r),
    )
    (sym (append_assoc (map kept (ended begun p)) (map kept (ended m r)) (map kept (last_piece (begins m r)))))

pieces_read : (ps : List (List ℕ)) (h : Held) → length h.bytes ≡ 129
    → lines_of_pieces h ps ≡ map kept (ended (held_bytes h) (joined ps) ++ last_piece (begins (held_bytes h) (joined ps)))
unfolding lines_of_pieces ended begins
pieces_read [] h e = go (empty (held_bytes h))
  where
    go : (t : Bool) → cond t [] (held_bytes h ∷ []) ≡ map kept (cond t [] (held_bytes h ∷ []))
    go true = refl
    go false = ap (λ (x : List ℕ). x ∷ []) (sym (held_kept h e))
pieces_read (p ∷ ps) h e =
    let c = cuts_read (length p) h p 0 e (omega arith) in
    let g = holds_after (suc (length p)) h p 0 in
    let i = pieces_read ps g c.size_then in
    rw (c.whole_lines, i) (piece_behind (held_bytes h) (held_bytes g) p (joined ps) c.held_then)

pub pieces_whole : (ps : List (List ℕ)) → lines_of_pieces nothing_held ps ≡ map kept (lines (joined ps))
unfolding lines
pieces_whole ps = rw nothing_bytes at (pieces_read ps nothing_held nothing_size)
