-- A draw, line by line and draw by draw: what each function of the code does is what the definitions say. Assumes nothing.
use Prim.Native.Nat.{ℕ, zero, suc, ◌+◌, ◌-◌, ◌*◌, ◌<◌, ◌≤◌}
use native.Mathlib.Omega.{arith}
use native.Mathlib.Nat.{add-zero}
use mathlib.Core.Bool.{Bool, true, false, cond, not, ◌&&◌, ◌||◌, true≢false}
use mathlib.Core.Path.{◌≡◌, refl, sym, ap, ◌∙◌}
use mathlib.Core.List.{List, [], ◌∷◌, ◌++◌, append-nil}
use borrow.Author.Tests.{le-leb, lt-leb, eq-eqb, ne_eqb, eqb-true}
use lib.Dec.{eqb, leb}
use lib.ListN.{length}
use Rattle.kernel.specs.declared.Kernel.{Kernel}
use Rattle.generator.specs.declared.Carried.{Carried}
use Rattle.generator.specs.Public.{DrawsAndSteps}
use Rattle.text.specs.declared.Spoken.{Spoken}
use Rattle.text.specs.declared.Row.{Row}
use Rattle.text.specs.declared.Held.{Held}
use Rattle.text.specs.declared.Cut.{Cut}
use Rattle.decimal.specs.Buffer.{contents_after, place_after, InFront}
use Rattle.text.specs.Words.{before, onward}
use Rattle.text.specs.Lines.{kept, hold_more, end_from, cut_of, cuts, holds_after, held_bytes, nothing_held}
use Rattle.text.specs.Printed.{draw_line}
use Rattle.session_stage.specs.declared.DrawRun.{DrawRun}
use Rattle.session_stage.specs.declared.Course.{Course}
use Rattle.session_draw.specs.declared.Reader.{Reader}
use Rattle.session_draw.specs.declared.Read.{Read}
use Rattle.session.specs.CarriedOut.{following, state_behind, answer_to, row_of, CarriesOut}
use Rattle.session_stage.specs.Stage.{Moved, zeros, as_run, as_moved, set_by, set_up, not_moved, moved, ended}
use Rattle.session_draw.specs.Draw.{spoken, drawn_next, shown_text, text_of, lines_text, lines_behind, some_text, some_behind, piece_text, piece_behind}
use Rattle.session_draw.specs.Draw.{last_moved, end_text, end_behind, finished, finished_out, Feeds, DrawsSome}
use Rattle.text.proofs.Bounds.{draw_short}
use Rattle.text.proofs.Kept.{kept_says, kept_opens}
use Rattle.text.proofs.Pieces.{held_more}
use Rattle.decimal.proofs.Stores.{in_front}
use Rattle.session.proofs.Filling.{Filling, filling_first, filling_on, filled_at, filled_out, filled_front}
use Rattle.session.proofs.CarryingOut.{no_byte, some_byte}
use Rattle.session.proofs.Cuts.{cuts_whole, holds_whole}

-- ---- a setup line, and a draw, where the tables lie

module _ (k k' : Kernel) (c : Course) (n : ℕ) (row : Row) (en : n ≡ following c.n) where
  pub is_set_up : (s : Spoken) → CarriesOut k n s row k' → set_by (as_run k' c) n row ≡ set_up (as_run k c) s
  unfolding set_up
  is_set_up s t = rw (t.0, t.1, en)

  pub is_drawn : (x : Carried) → c.stage ≡ 2 → 1 ≤ c.left → DrawsAndSteps k c.seed c.profile x k'
      → row ≡ row_of n (spoken x.drawn) x.answer k'.clock
      → as_moved k' (record { course = record { stage = 2; n = n; seed = x.drawn.seed; profile = c.profile; left = c.left - 1 }; shown = true; row = row })
      ≡ drawn_next (as_run k c)
  unfolding drawn_next state_behind answer_to
  is_drawn x s o t er = rw (eq-eqb c.stage 2 s, le-leb 1 c.left o, er, t.1, t.0, en)

-- ---- a row, where it is shown

module _ (out : List ℕ) (at : ℕ) (shown : Bool) (row : Row) where
  pub shown_put : (at' : ℕ) (out' : List ℕ) → shown ≡ true → (at' ≡ place_after 192 out at (draw_line row)) × (out' ≡ contents_after 192 out at (draw_line row))
      → (at' ≡ place_after 192 out at (shown_text shown row)) × (out' ≡ contents_after 192 out at (shown_text shown row))
  shown_put at' out' e h = rw e h

  pub shown_none : shown ≡ false → (at ≡ place_after 192 out at (shown_text shown row)) × (out ≡ contents_after 192 out at (shown_text shown row))
  shown_none e = rw e (go (leb (at + 192) (length out)))
    where
      go : (b : Bool) → (at ≡ cond b (at + 0) at) × (out ≡ cond b out out)
      go true = (sym (add-zero at), refl)
      go false = (refl, refl)

text_short : (h : Moved) → length (text_of h) ≤ 192
text_short h = go h.shown
  where
    go : (b : Bool) → length (shown_text b h.row) ≤ 192
    go true = draw_short h.row
    go false = omega arith

-- ---- the loop over the lines of a piece

reader_made : {d d' : DrawRun} {h h' : Held} → d ≡ d' → h ≡ h' → ◌≡◌ {A = Reader} (record { run = d; held = h }) (record { run = d'; held = h' })
reader_made a b = cc

module _ (r : Reader) (p out₀ : List ℕ) where
  pub record Still (d : DrawRun) (h : Held) (from at left : ℕ) (out : List ℕ) : Type 0 where
    pub filling : Filling 192 out₀ (piece_text r p) (lines_text d (cuts left h p from)) at left out
    pub state : lines_behind d (cuts left h p from) ≡ (piece_behind r p).run
    pub held : holds_after left h p from ≡ (piece_behind r p).held

  pub still_first : 192 * suc (length p) ≤ length out₀ → Still r.run r.held 0 0 (suc (length p)) out₀
  unfolding piece_text piece_behind
  still_first o = record { filling = filling_first 192 out₀ (piece_text r p) (suc (length p)) o; state = refl; held = refl }

  module _ (d : DrawRun) (h : Held) (from at left : ℕ) (out : List ℕ) (s : Still d h from at left out) where
    module _ (c : Cut) (e : c ≡ cut_of h p from) (at' : ℕ) (x : Moved) (out' : List ℕ) (h' : Held) (ex : x ≡ moved d (held_bytes c.held))
        (ea : at' ≡ place_after 192 out at (text_of x)) (eo : out' ≡ contents_after 192 out at (text_of x)) (eh : h' ≡ nothing_held) where
      rest : 0 < left → c.whole ≡ true → lines_text d (cuts left h p from) ≡ text_of x ++ lines_text x.run (cuts (left - 1) nothing_held p c.next)
      unfolding lines_text
      rest o y = rw (cuts_whole h p from c e left o y, ex)

      pub still_again : 0 < left → c.whole ≡ true → Still x.run h' c.next at' (left - 1) out'
      unfolding lines_behind
      still_again o y =
          rw eh
          (record {
            filling = filling_on 192 out₀ (piece_text r p) (text_of x) _ at left out (rw (rest o y) at s.filling) (text_short x) o at' out' ea eo;
            state = rw ex (rw (cuts_whole h p from c e left o y) at s.state);
            held = sym (holds_whole h p from c e left o y) ∙ s.held;
          })

    module _ (h' : Held) (z : cuts left h p from ≡ []) (eh : holds_after left h p from ≡ h') where
      pub all_taken : 192 * suc (length p) ≤ length out₀ → Feeds r p out₀ (record { reader = record { run = d; held = h' }; at = at }) out
      unfolding lines_text lines_behind
      all_taken o =
          let f : Filling 192 out₀ (piece_text r p) [] at left out = rw z at s.filling in
          let a = filled_at 192 out₀ (piece_text r p) at left out f in
          let m : record { run = d; held = h' } ≡ piece_behind r p = reader_made (rw z at s.state) (sym eh ∙ s.held) in
          let l = le-leb (192 * suc (length p)) (length out₀) o in
          (rw (l, ← a, ← m), rw l (filled_out 192 out₀ (piece_text r p) at left out f), filled_front 192 out₀ (piece_text r p) at left out f)

  pub no_room : length out₀ < 192 * suc (length p) → Feeds r p out₀ (record { reader = r; at = 0 }) out₀
  no_room o = (rw (lt-leb (192 * suc (length p)) (length out₀) o), rw (lt-leb (192 * suc (length p)) (length out₀) o), in_front 0 out₀ (omega arith))

-- ---- the loop over draws

-- where nothing is to be drawn, nothing is, as often as it is tried
idle : DrawRun → Type 0
idle d = (eqb d.stage 2 && leb 1 d.left) ≡ false

none_drawn : (d : DrawRun) → idle d → (m : ℕ) → (some_text m d ≡ []) × (some_behind m d ≡ d)
unfolding idle some_text some_behind drawn_next not_moved
none_drawn d e zero = (refl, refl)
none_drawn d e (suc m) = rw e (none_drawn d e m)

no_zero : (n : ℕ) → eqb (suc n) 0 ≡ false
no_zero n = ne_eqb (suc n) 0 (λ e. omega (arith, e))

-- the test of it
pub is_idle : (d : DrawRun) → (not (eqb d.stage 2) || eqb d.left 0) ≡ true → (m : ℕ) → (some_text m d ≡ []) × (some_behind m d ≡ d)
unfolding idle
is_idle d e = none_drawn d (go (eqb d.stage 2) d.left e)
  where
    go : (b : Bool) (n : ℕ) → (not b || eqb n 0) ≡ true → (b && leb 1 n) ≡ false
    go false n e = refl
    go true zero e = refl
    go true (suc n) e = absurd (true≢false (sym (rw (no_zero n) at e)))

pub not_idle : (s n : ℕ) → (not (eqb s 2) || eqb n 0) ≡ false → (s ≡ 2) × (1 ≤ n)
not_idle s n e = go (eqb s 2) refl n e
  where
    go : (b : Bool) → eqb s 2 ≡ b → (n : ℕ) → (not b || eqb n 0) ≡ false → (s ≡ 2) × (1 ≤ n)
    go false t n e = absurd (true≢false e)
    go true t zero e = absurd (true≢false e)
    go true t (suc n) e = (eqb-true s 2 t, omega arith)

pub none_asked : (d : DrawRun) (left : ℕ) → left ≤ 0 → (some_text left d ≡ []) × (some_behind left d ≡ d)
unfolding some_text some_behind
none_asked d zero z = (refl, refl)
none_asked d (suc left) z = absurd (omega arith)

module _ (d₀ : DrawRun) (most : ℕ) (out₀ : List ℕ) where
  pub record Going (d : DrawRun) (at left : ℕ) (out : List ℕ) : Type 0 where
    pub filling : Filling 192 out₀ (some_text most d₀) (some_text left d) at left out
    pub state : some_behind left d ≡ some_behind most d₀

  pub going_first : 192 * most ≤ length out₀ → Going d₀ 0 most out₀
  going_first o = record { filling = filling_first 192 out₀ (some_text most d₀) most o; state = refl }

  module _ (d : DrawRun) (at left : ℕ) (out : List ℕ) (s : Going d at left out) where
    one_text : (left : ℕ) → 0 < left → some_text left d ≡ text_of (drawn_next d) ++ some_text (left - 1) (drawn_next d).run
    unfolding some_text
    one_text zero o = absurd (omega arith)
    one_text (suc left) o = let e : suc left - 1 ≡ left = omega arith in rw e

    one_behind : (left : ℕ) → 0 < left → some_behind left d ≡ some_behind (left - 1) (drawn_next d).run
    unfolding some_behind
    one_behind zero o = absurd (omega arith)
    one_behind (suc left) o = let e : suc left - 1 ≡ left = omega arith in rw e

    pub going_again : (at' : ℕ) (x : Moved) (out' : List ℕ) → x ≡ drawn_next d → at' ≡ place_after 192 out at (text_of x)
        → out' ≡ contents_after 192 out at (text_of x)
        → 0 < left → Going x.run at' (left - 1) out'
    going_again at' x out' ex ea eo o =
        record {
          filling =
              filling_on 192 out₀ (some_text most d₀) (text_of x) _ at left out (rw ex (rw (one_text left o) at s.filling)) (text_short x)
              o at' out' ea eo;
          state = rw ex (sym (one_behind left o) ∙ s.state);
        }

    pub all_drawn : (some_text left d ≡ []) × (some_behind left d ≡ d) → 192 * most ≤ length out₀ → DrawsSome d₀ most out₀ (record { run = d; at = at }) out
    all_drawn z o =
        let f : Filling 192 out₀ (some_text most d₀) [] at left out = rw z.0 at s.filling in
        let a = filled_at 192 out₀ (some_text most d₀) at left out f in
        let m : d ≡ some_behind most d₀ = sym z.1 ∙ s.state in
        let l = le-leb (192 * most) (length out₀) o in
        (rw (l, ← a, ← m), rw l (filled_out 192 out₀ (some_text most d₀) at left out f), filled_front 192 out₀ (some_text most d₀) at left out f)

  pub no_room_for : length out₀ < 192 * most → DrawsSome d₀ most out₀ (record { run = d₀; at = 0 }) out₀
  no_room_for o = (rw (lt-leb (192 * most) (length out₀) o), rw (lt-leb (192 * most) (length out₀) o), in_front 0 out₀ (omega arith))

-- ---- the end of the input: where a line has begun, its line end is fed

pub moved_kept : (d : DrawRun) (l : List ℕ) → moved d (kept l) ≡ moved d l
unfolding moved
moved_kept d l = rw (kept_says l, kept_opens l)

-- a line end ends what is held, and behind it comes nothing
one_cut : (h : Held) → cuts 2 h (10 ∷ []) 0 ≡ held_bytes (hold_more h []) ∷ []
unfolding cuts cut_of before onward end_from
one_cut h = refl

module _ (r : Reader) (out : List ℕ) where
  abbrev pub EndsLast : ℕ → DrawRun → List ℕ → Type 0
  EndsLast at d left =
      (d ≡ (last_moved r).run) × (at ≡ place_after 192 out 0 (text_of (last_moved r))) × (left ≡ contents_after 192 out 0 (text_of (last_moved r)))

  pub none_begun : r.held.count ≡ 0 → EndsLast 0 r.run out
  unfolding last_moved not_moved
  none_begun z =
      let e = no_byte r.held.count r.held.bytes z in
      let s = shown_none out 0 false (zeros 0) refl in
      (rw e, rw e s.0, rw e s.1)

  module _ (z : r.held.count ≡ 0 → ⊥) (l : length r.held.bytes ≡ 129) (o : 384 ≤ length out) where
    same_line : moved r.run (held_bytes (hold_more r.held [])) ≡ last_moved r
    unfolding last_moved
    same_line =
        let b = some_byte r.held.count r.held.bytes z (omega arith) in
        rw (b, held_more r.held [] l, append-nil) (moved_kept r.run (held_bytes r.held))

    line_text : piece_text r (10 ∷ []) ≡ text_of (last_moved r)
    unfolding piece_text lines_text
    line_text = rw (one_cut r.held, append-nil, same_line)

    line_behind : (piece_behind r (10 ∷ [])).run ≡ (last_moved r).run
    unfolding piece_behind lines_behind
    line_behind = rw (one_cut r.held) (ap (λ (h : Moved). h.run) same_line)

    pub one_begun : (x : Read) (out' : List ℕ) → Feeds r (10 ∷ []) out x out' → EndsLast x.at x.reader.run out'
    one_begun x out' f =
        let two = le-leb 384 (length out) o in
        let i : 0 + 192 ≤ length out = omega arith in
        let one = le-leb (0 + 192) (length out) i in
        let n : length (text_of (last_moved r)) ≡ 0 + length (text_of (last_moved r)) = omega arith in
        (rw (f.0, two) line_behind, rw (f.0, two, one, line_text) n, rw (f.1, two, one, line_text))

  pub no_room_for_two : length out < 384 → (record { run = r.run; at = 0 } ≡ finished r out) × (out ≡ finished_out r out) × InFront 0 out
  no_room_for_two o = (rw (lt-leb 384 (length out) o), rw (lt-leb 384 (length out) o), in_front 0 out (omega arith))

  module _ (e : Moved) (d : DrawRun) (p at : ℕ) (out₁ out₂ : List ℕ) (t : EndsLast p d out₁) (ee : e ≡ ended d)
      (ea : at ≡ place_after 192 out₁ p (text_of e)) (e₂ : out₂ ≡ contents_after 192 out₁ p (text_of e)) where
    pub both_put : 384 ≤ length out → (record { run = e.run; at = at } ≡ finished r out) × (out₂ ≡ finished_out r out) × InFront at out₂
    unfolding end_text end_behind
    both_put o =
        let h = last_moved r in
        let whole = text_of h ++ text_of e in
        let first = filling_on 192 out whole (text_of h) (text_of e) 0 2 out (filling_first 192 out whole 2 (omega arith)) (text_short h) (omega arith)
        p out₁ t.1 t.2 in
        let f = filling_on 192 out whole (text_of e) [] p 1 out₁ (rw append-nil first) (text_short e) (omega arith) at out₂ ea e₂ in
        let n = filled_at 192 out whole at 0 out₂ f in
        let u = filled_out 192 out whole at 0 out₂ f in
        let l = le-leb 384 (length out) o in
        (rw (l, n, ee, t.0), rw (l, u, ee, t.0), filled_front 192 out whole at 0 out₂ f)
