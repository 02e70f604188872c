-- Loops that put text: for each number below n, and for each entry of a line. Assumes nothing.
use Prim.Native.Nat.{ℕ, zero, suc, ◌+◌, ◌*◌, ◌≤◌, ◌<◌}
use native.Mathlib.Nat.{add-zero, mul-suc}
use native.Mathlib.Numerals.{add-one}
use native.Mathlib.Omega.{arith}
use mathlib.Core.Path.{◌≡◌, refl, ap, sym, ◌∙◌}
use mathlib.Core.Logic.{◌≢◌, ⊎_elim}
use mathlib.Core.Bool.{Bool, cond}
use mathlib.Core.List.{List, [], ◌∷◌, ◌++◌, append_assoc, append-nil}
use borrow.Author.Tests.{ne_eqb}
use lib.Dec.{eqb}
use lib.ListN.{length, drop, get_or-eq_default}
use lib.Seq.{drop-cons, get_or-drop}
use Rattle.rules.specs.Line.{at}
use Rattle.rules.specs.Machine.{Machine, task_count, object_count, last_opened, active}
use Rattle.rules.proofs.Lists.{lt_or_ge}
use Rattle.kernel.specs.declared.Kernel.{Kernel}
use Rattle.kernel.specs.View.{view, live, with_idle, timed}
use Rattle.kernel.proofs.Reading.{idle_last, live_none}
use Rattle.decimal.specs.Buffer.{contents_after, place_after}
use Rattle.decimal.proofs.Stores.{refused}
use Rattle.text.proofs.Stores.{written}
use Rattle.text_print.specs.Put.{Put}
use Rattle.text_print.proofs.Puts.{none, then, wider}
use Rattle.show_text.specs.Block.{pair, each, ready_list, delay_list, holder_below, object_text, objects_text}
use Rattle.show_print.specs.Seen.{seen}

-- ---- each number below n, with at most k bytes for each

module _ (k : ℕ) (f : ℕ → List ℕ) {out : List ℕ} {at : ℕ} where
  pub none_yet : Put (k * 0) out at (each 0 f) out at
  unfolding each
  none_yet = none (k * 0) out at

  pub one_more : (i : ℕ) {o o' : List ℕ} {p q : ℕ} → Put (k * i) out at (each i f) o p → Put k o p (f i) o' q
      → Put (k * (i + 1)) out at (each (i + 1) f) o' q
  unfolding each
  one_more i w v = rw (add-one, mul-suc) (then w v)

-- the same of other words for the same
pub each_same : (n : ℕ) (f g : ℕ → List ℕ) → ((i : ℕ) → f i ≡ g i) → each n f ≡ each n g
unfolding each
each_same zero f g e = refl
each_same (suc n) f g e = rw (each_same n f g e, e n)

-- ---- a text, entry by entry: what was put, and the rest behind it, is the whole

pub record Begun (most : ℕ) (whole rest out : List ℕ) (at : ℕ) (after : List ℕ) (next : ℕ) : Type 0 where
  pub text : List ℕ
  pub put : Put most out at text after next
  pub split : text ++ rest ≡ whole

pub nothing : (most : ℕ) (whole out : List ℕ) (at : ℕ) → Begun most whole whole out at out at
nothing most whole out at = record { text = []; put = none most out at; split = refl }

module _ {m k : ℕ} {whole rest out o o' : List ℕ} {at p q : ℕ} (s : Begun m whole rest out at o p) where
  pub one_behind : (most : ℕ) (x rest' : List ℕ) → m + k ≤ most → rest ≡ x ++ rest' → Put k o p x o' q → Begun most whole rest' out at o' q
  one_behind most x rest' h e w =
      record {
        text = s.text ++ x;
        put = wider most h (then s.put w);
        split = append_assoc s.text x rest' ∙ ap (λ (l : List ℕ). s.text ++ l) (sym e) ∙ s.split;
      }

-- no rest
pub complete : {m : ℕ} {whole rest out o : List ℕ} {at p : ℕ} → rest ≡ [] → Begun m whole rest out at o p → Put m out at whole o p
complete e s = rw (sym (append-nil s.text) ∙ ap (λ (l : List ℕ). s.text ++ l) (sym e) ∙ s.split) at s.put

-- ---- a line in its table, from place i on

module _ (l : List ℕ) (i : ℕ) where
  there : at l i ≢ 0 → i < length l
  there h = ⊎_elim (λ (g : i < length l). g) (λ (g : length l ≤ i). absurd (h (get_or-eq_default l 0 g))) (lt_or_ge i (length l))

  live_more : at l i ≢ 0 → live (drop i l) ≡ at l i ∷ live (drop (i + 1) l)
  live_more h = let g = there h in rw (add-one, drop-cons l i 0 g, ne_eqb (at l i) 0 h)

  live_end : at l i ≡ 0 → live (drop i l) ≡ []
  live_end e = live_none (drop i l) (get_or-drop i l 0 0 ∙ ap (at l) (add-zero i) ∙ e)

-- the ready line and the delay line: what is put of them from place i on
abbrev pub ready_rest : Machine → List ℕ → ℕ → List ℕ
ready_rest m ready i = ready_list m (with_idle (drop i ready))

abbrev pub delay_rest : List ℕ → List ℕ → ℕ → List ℕ
delay_rest until delayed i = delay_list (timed until (live (drop i delayed)))

-- the entry at place i of a table of 32 places
pub record At (l : List ℕ) (i t : ℕ) : Type 0 where
  pub here : t ≡ at l i
  pub long : length l ≡ 32
  pub counted : i ≤ 32

module _ {l : List ℕ} {i t : ℕ} (s : At l i t) where
  pub inside : t ≢ 0 → i < 32
  inside h = let g = there l i (λ z. h (s.here ∙ z)) in omega arith

  pub further : {t' : ℕ} → t ≢ 0 → t' ≡ at l (i + 1) → At l (i + 1) t'
  further h e = let g = inside h in record { here = e; long = s.long; counted = omega arith }

  pub ready_more : (m : Machine) → t ≢ 0 → ready_rest m l i ≡ pair t (active m t) ++ ready_rest m l (i + 1)
  unfolding ready_list
  ready_more m h = rw (idle_last (drop i l), idle_last (drop (i + 1) l), live_more l i (λ z. h (s.here ∙ z)), s.here)

  pub ready_end : (m : Machine) → t ≡ 0 → ready_rest m l i ≡ pair 0 (active m 0) ++ []
  unfolding ready_list
  ready_end m z = rw (idle_last (drop i l), live_end l i (sym s.here ∙ z))

  pub delay_more : (until : List ℕ) → t ≢ 0 → delay_rest until l i ≡ pair t (at until t) ++ delay_rest until l (i + 1)
  unfolding delay_list
  delay_more until h = rw (live_more l i (λ z. h (s.here ∙ z)), s.here)

  pub delay_end : (until : List ℕ) → t ≡ 0 → delay_rest until l i ≡ []
  unfolding delay_list
  delay_end until z = rw (live_end l i (sym s.here ∙ z))

-- the tables that the loop sees are those of the kernel
pub same_ready : (k : Kernel) (l : List ℕ) → ready_list (seen k.base k.ceiling k.held [] []) l ≡ ready_list (view k) l
unfolding ready_list view
same_ready k [] = refl
same_ready k (t ∷ l) = ap (λ (r : List ℕ). pair t (active (view k) t) ++ r) (same_ready k l)

-- ---- objects

module _ (m : Machine) (o : ℕ) where
  pub no_holder : 0 ≡ holder_below 0 m o
  unfolding holder_below
  no_holder = refl

  pub next_holder : (n : ℕ) (b : Bool) → eqb (last_opened m n) o ≡ b → holder_below (n + 1) m o ≡ cond b n (holder_below n m o)
  unfolding holder_below
  next_holder n b e = rw (add-one, e)

  -- the table of what is held tells
  pub same_holder : (m' : Machine) (n : ℕ) → m.held ≡ m'.held → holder_below n m o ≡ holder_below n m' o
  unfolding holder_below
  same_holder m' zero e = refl
  same_holder m' (suc n) e = rw (same_holder m' n e, e)

same_object : (k : Kernel) (o : ℕ) → object_text (seen [] k.ceiling k.held k.way k.waiter) o ≡ object_text (view k) o
unfolding object_text view
same_object k o = rw (same_holder (seen [] k.ceiling k.held k.way k.waiter) o (view k) task_count refl)

pub same_objects : (k : Kernel) → each object_count (object_text (seen [] k.ceiling k.held k.way k.waiter)) ≡ objects_text (view k)
unfolding objects_text
same_objects k = each_same object_count _ _ (same_object k)

-- ---- all of it

pub refused_within : (room : ℕ) (out : List ℕ) (at : ℕ) (text : List ℕ) → length out < at + room
    → (at ≡ place_after room out at text) × (out ≡ contents_after room out at text) × (at ≤ at + room)
refused_within room out at text h = let r = refused room out at text h in (r.0, r.1, omega arith)

pub put_within : (room : ℕ) (out : List ℕ) (at : ℕ) (text after : List ℕ) (next : ℕ) → at + room ≤ length out → Put room out at text after next
    → (next ≡ place_after room out at text) × (after ≡ contents_after room out at text) × (next ≤ at + room)
put_within room out at text after next h w = let p = written room out at text after next h w.written in (p.0, p.1, w.within)
