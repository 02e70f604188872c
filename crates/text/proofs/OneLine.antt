-- Each command has one line, and each line at most one command: what `line_of` says, `command_of` reads, and the other way round.
-- Part by part: the word, then each operand with the rest of the line behind it. Assumes nothing.
use Prim.Native.Nat.{ℕ, suc, ◌+◌, ◌-◌, ◌^◌, ◌≤◌, ◌<◌}
use native.Mathlib.Omega.{arith}
use mathlib.Core.Bool.{Bool, true, false, cond, not, ◌&&◌, ◌||◌, false≢true}
use mathlib.Core.Path.{◌≡◌, refl, ap, sym, ◌∙◌}
use mathlib.Core.List.{List, [], ◌∷◌, ◌++◌, append-nil}
use borrow.Author.Tests.{le-leb, leb-true, ne_eqb, eqb-true, not-true}
use lib.Dec.{eqb, leb}
use lib.ListN.{length, get_or, length-append}
use Rattle.rules.specs.Line.{every, empty, among, all_below}
use Rattle.rules.proofs.Tests.{both_true, tests_all_below, tests_and, tests_eq, tests_le, tests_is, tests_empty}
use Rattle.text.specs.declared.Spoken.{Spoken}
use Rattle.decimal.specs.Decimal.{digit, number_of, decimal}
use Rattle.text.specs.Words.{before, onward, word, behind, same}
use Rattle.text.specs.Commands.{Part, words, named_from, op_named, uses_a, uses_b, uses_value, left_out, omits_a, decimal_next, operand, operand_unless}
use Rattle.text.specs.Commands.{spoken_by, command_of, operand_text, written, line_of}
use Rattle.text.proofs.Scan.{word_behind}
use Rattle.decimal.proofs.BothWays.{reads_back, prints_back, number_bound, decimal_digits_only, decimal_length}

-- ---- a word, and a rest that is empty or starts with a blank

abbrev no_blank : ℕ → Bool
no_blank b = not (eqb b 32)

abbrev apart : List ℕ → Type 0
apart r = (word r ≡ []) × (behind r ≡ r)

module _ (r : List ℕ) (a : apart r) where
  word_of : (w : List ℕ) → every no_blank w ≡ true → (word (w ++ r) ≡ w) × (behind (w ++ r) ≡ r)
  unfolding before onward
  word_of [] e = a
  word_of (b ∷ w) e =
      let p = both_true (no_blank b) (every no_blank w) e in
      let n : eqb b 32 ≡ false = not-true (eqb b 32) p.0 in
      let q = word_of w p.1 in
      (rw (n, q.0), rw (n, q.1))

apart_none : apart []
unfolding before onward
apart_none = (refl, refl)

apart_blank : (l : List ℕ) → apart (32 ∷ l)
unfolding before onward
apart_blank l = (refl, refl)

said_apart : (used : Bool) (n : ℕ) (r : List ℕ) → apart r → apart (operand_text used n ++ r)
said_apart true n r a = apart_blank (decimal n ++ r)
said_apart false n r a = a

digits_no_blank : (w : List ℕ) → every digit w ≡ true → every no_blank w ≡ true
digits_no_blank [] e = refl
digits_no_blank (b ∷ w) e =
    let p = both_true (digit b) (every digit w) e in
    let g : 48 ≤ b = leb-true 48 b (both_true (leb 48 b) (leb b 57) p.0).0 in
    rw (ne_eqb b 32 (λ z. omega arith), digits_no_blank w p.1)

-- ---- an operand, said and read

operand_said : (used : Bool) (n most : ℕ) (r : List ℕ) → n ≤ most → n < 10 ^ 20 → (used ≡ false → n ≡ 0) → apart r
    → operand used most (operand_text used n ++ r) ≡ record { valid = true; value = n; left = r }
unfolding operand decimal_next
operand_said true n most r h g z a =
    let w = word_of r a (decimal n) (digits_no_blank (decimal n) (decimal_digits_only n)) in
    rw (w.0, w.1, reads_back n most h g)
operand_said false n most r h g z a = let e : n ≡ 0 = z refl in rw e

-- what an operand has that was read
record Operand-read (used : Bool) (most : ℕ) (l : List ℕ) : Type 0 where
  line : l ≡ operand_text used (operand used most l).value ++ (operand used most l).left
  bound : (operand used most l).value ≤ most
  unused_zero : used ≡ false → (operand used most l).value ≡ 0

operand_read : (used : Bool) (most : ℕ) (l : List ℕ) → most < 10 ^ 20 → (operand used most l).valid ≡ true → Operand-read used most l
unfolding operand decimal_next
operand_read false most l h e = record { line = refl; bound = omega arith; unused_zero = λ z. refl }
operand_read true most [] h e = absurd (false≢true e)
operand_read true most (b ∷ l) h e = go (eqb b 32) refl e
  where
    go : (t : Bool) → eqb b 32 ≡ t → (operand true most (b ∷ l)).valid ≡ true → Operand-read true most (b ∷ l)
    go true t e =
        let f : (number_of (word l) most).valid ≡ true = rw t at e in
        let d : decimal (number_of (word l) most).value ≡ word l = prints_back (word l) most h f in
        record {
          line =
              rw (t, eqb-true b 32 t, d) (ap (λ (m : List ℕ). 32 ∷ m) (word_behind 32 l));
          bound = rw t (number_bound (word l) most);
          unused_zero = λ z. absurd
              (false≢true (sym z));
        }
    go false t e = absurd (false≢true (rw t at e))

-- ---- an operand that may be left out, said and read

-- never left out; left out; given
unless_never : (used : Bool) (most : ℕ) (l : List ℕ) → operand_unless false used most l ≡ operand used most l
unfolding operand_unless
unless_never used most l = refl

unless_left_out : (used : Bool) (most : ℕ) → operand_unless true used most [] ≡ record { valid = true; value = 0; left = [] }
unfolding operand_unless operand
unless_left_out used most = refl

unless_given : (n most : ℕ) (r : List ℕ) → eqb n 0 ≡ false → operand true most (operand_text true n ++ r) ≡ record { valid = true; value = n; left = r }
    → operand_unless true true most (operand_text true n ++ r) ≡ record { valid = true; value = n; left = r }
unfolding operand_unless
unless_given n most r t s = rw (s, t)

operand_unless_said : (omits used : Bool) (n most : ℕ) (r : List ℕ) → n ≤ most → n < 10 ^ 20 → (used ≡ false → n ≡ 0) → (omits ≡ true → r ≡ [])
    → apart r → operand_unless omits used most (operand_text (written omits used n) n ++ r) ≡ record { valid = true; value = n; left = r }
operand_unless_said false used n most r h g z o a = unless_never used most (operand_text used n ++ r) ∙ operand_said used n most r h g z a
operand_unless_said true false n most r h g z o a = let e : n ≡ 0 = z refl in rw (o refl, e) (unless_left_out false most)
operand_unless_said true true n most r h g z o a = go (eqb n 0) refl
  where
    go : (t : Bool) → eqb n 0 ≡ t
        → operand_unless true true most (operand_text (written true true n) n ++ r) ≡ record { valid = true; value = n; left = r }
    go true t = let e : n ≡ 0 = eqb-true n 0 t in rw (o refl, e) (unless_left_out true most)
    go false t =
        let w : written true true n ≡ true = rw t in
        ap (λ (b : Bool). operand_unless true true most (operand_text b n ++ r)) w ∙ unless_given n most r t (operand_said true n most r h g z a)

record Unless-read (omits used : Bool) (most : ℕ) (l : List ℕ) : Type 0 where
  line : l ≡ operand_text (written omits used (operand_unless omits used most l).value) (operand_unless omits used most l).value
      ++ (operand_unless omits used most l).left
  bound : (operand_unless omits used most l).value ≤ most
  unused_zero : used ≡ false → (operand_unless omits used most l).value ≡ 0

none_read : (used : Bool) (most : ℕ) → Unless-read true used most []
unfolding operand_unless operand
none_read used most = record { line = refl; bound = omega arith; unused_zero = λ z. refl }

operand_unless_read : (omits used : Bool) (most : ℕ) (l : List ℕ) → most < 10 ^ 20 → (operand_unless omits used most l).valid ≡ true
    → Unless-read omits used most l
unfolding operand_unless
operand_unless_read false used most l h e =
    let r = operand_read used most l h e in
    record { line = r.line; bound = r.bound; unused_zero = r.unused_zero }
operand_unless_read true used most [] h e = none_read used most
operand_unless_read true used most (b ∷ l) h e =
    let v = (operand used most (b ∷ l)).value in
    let p = both_true (not (eqb v 0)) (operand used most (b ∷ l)).valid e in
    let r = operand_read used most (b ∷ l) h p.1 in
    let w : written true used v ≡ used = rw (not-true (eqb v 0) p.0) in
    record {
      line = r.line ∙ ap (λ (x : Bool). operand_text x v ++ (operand used most (b ∷ l)).left) (sym w);
      bound = r.bound;
      unused_zero = r.unused_zero;
    }

-- It is the last operand: a test of each op that has one.
among_every : (f : ℕ → Bool) (l : List ℕ) (n : ℕ) → every f l ≡ true → among l n ≡ true → f n ≡ true
among_every f [] n h e = absurd (false≢true e)
among_every f (x ∷ l) n h e = go (eqb n x) refl (among_every f l n (both_true (f x) (every f l) h).1) e
  where
    go : (t : Bool) → eqb n x ≡ t → (among l n ≡ true → f n ≡ true) → (t || among l n) ≡ true → f n ≡ true
    go true t behind e = rw (eqb-true n x t) (both_true (f x) (every f l) h).0
    go false t behind e = behind e

left_out_last : (op b v : ℕ) → omits_a op ≡ true → operand_text (uses_b op) b ++ operand_text (uses_value op) v ≡ []
left_out_last op b v e =
    let p = both_true (not (uses_b op)) (not (uses_value op)) (among_every (λ x. not (uses_b x) && not (uses_value x)) left_out op refl e) in
    rw (not-true (uses_b op) p.0, not-true (uses_value op) p.1)

-- ---- the word, said and read

same_is : (v w : List ℕ) → same v w ≡ true → v ≡ w
unfolding same
same_is [] [] e = refl
same_is [] (b ∷ w) e = absurd (false≢true e)
same_is (a ∷ v) [] e = absurd (false≢true e)
same_is (a ∷ v) (b ∷ w) e =
    let p = both_true (eqb a b) (same v w) e in
    let h : a ≡ b = eqb-true a b p.0 in
    let t : v ≡ w = same_is v w p.1 in
    cc

record Named (n : ℕ) (ws : List (List ℕ)) (w : List ℕ) : Type 0 where
  low : n ≤ named_from n ws w
  high : named_from n ws w < n + length ws
  is : w ≡ get_or ws (named_from n ws w - n) []

named_is : (n : ℕ) (ws : List (List ℕ)) (w : List ℕ) → 1 ≤ named_from n ws w → Named n ws w
unfolding named_from
named_is n [] w h = absurd (omega arith)
named_is n (x ∷ ws) w h = go (same w x) refl (named_is (suc n) ws w) h
  where
    go : (t : Bool) → same w x ≡ t → (1 ≤ named_from (suc n) ws w → Named (suc n) ws w) → 1 ≤ cond t n (named_from (suc n) ws w) → Named n (x ∷ ws) w
    go true t ih h =
        let z : n - n ≡ 0 = omega arith in
        record { low = rw t (omega arith); high = rw t (omega arith); is = rw (t, z) (same_is w x t) }
    go false t ih h =
        let r = ih h in
        let lo : suc n ≤ named_from (suc n) ws w = r.low in
        let hi : named_from (suc n) ws w < suc n + length ws = r.high in
        let z : named_from (suc n) ws w - n ≡ suc (named_from (suc n) ws w - suc n) = omega arith in
        record { low = rw t (omega arith); high = rw t (omega arith); is = rw (t, z) r.is }

word_table : (k : ℕ) → k < length words → (op_named (get_or words k []) ≡ suc k) × (every no_blank (get_or words k []) ≡ true) × (length (get_or words k []) ≤ 7)
unfolding op_named named_from same all_below
word_table k h =
    let t = tests_all_below (λ j. tests_and (tests_eq (op_named (get_or words j [])) (suc j))
    (tests_and (tests_is (every no_blank (get_or words j []))) (tests_le (length (get_or words j [])) 7))) (length words) in
    let r = t.sure refl k h in
    (r.0, r.1.0, r.1.1)

-- ---- the line, said and read

-- a command: a known op, operands that fit, and those that are not in use 0
pub record Command (c : Spoken) : Type 0 where
  pub code : c.code ≡ 0
  pub least : 1 ≤ c.op
  pub most : c.op ≤ length words
  pub a_fits : c.a ≤ 255
  pub b_fits : c.b ≤ 255
  pub value_fits : c.value < 2 ^ 64
  pub a_unused : uses_a c.op ≡ false → c.a ≡ 0
  pub b_unused : uses_b c.op ≡ false → c.b ≡ 0
  pub value_unused : uses_value c.op ≡ false → c.value ≡ 0

said_length : (used : Bool) (k n : ℕ) → n < 10 ^ suc k → length (operand_text used n) ≤ suc (suc k)
unfolding decimal
said_length true k n h = let l : length (decimal n) ≤ suc k = decimal_length 20 k n h in omega arith
said_length false k n h = omega arith

command_said : (w r : List ℕ) (op : ℕ) → length (w ++ r) ≤ 64 → op_named w ≡ op → every no_blank w ≡ true → apart r → command_of (w ++ r) ≡ spoken_by op r
unfolding command_of
command_said w r op h e n a = rw (le-leb (length (w ++ r)) 64 h, (word_of r a w n).0, (word_of r a w n).1, e)

operands_said : (op a b v : ℕ) → 1 ≤ op → a ≤ 255 → b ≤ 255 → v < 2 ^ 64
    → (uses_a op ≡ false → a ≡ 0) → (uses_b op ≡ false → b ≡ 0) → (uses_value op ≡ false → v ≡ 0)
    → spoken_by op (operand_text (written (omits_a op) (uses_a op) a) a ++ (operand_text (uses_b op) b ++ operand_text (uses_value op) v))
    ≡ record { code = 0; op = op; a = a; b = b; value = v }
unfolding spoken_by
operands_said op a b v h ha hb hv za zb zv =
    let sv = operand_text (uses_value op) v in
    let av : apart sv = rw append-nil at (said_apart (uses_value op) v [] apart_none) in
    let ab : apart (operand_text (uses_b op) b ++ sv) = said_apart (uses_b op) b sv av in
    let ea = operand_unless_said (omits_a op) (uses_a op) a 255 (operand_text (uses_b op) b ++ sv) ha (omega arith) za (left_out_last op b v) ab in
    let eb = operand_said (uses_b op) b 255 sv hb (omega arith) zb av in
    let ev : operand (uses_value op) 18446744073709551615 sv ≡ record { valid = true; value = v; left = [] } = rw append-nil at
    (operand_said (uses_value op) v 18446744073709551615 [] (omega arith) (omega arith) zv apart_none) in
    rw (ea, eb, ev, le-leb 1 op h)

pub line_reads : (c : Spoken) → Command c → command_of (line_of c) ≡ c
unfolding line_of
line_reads c k =
    let op = c.op in
    let sb = operand_text (uses_b op) c.b in
    let sv = operand_text (uses_value op) c.value in
    let wa = written (omits_a op) (uses_a op) c.a in
    let sa = operand_text wa c.a in
    let w = get_or words (op - 1) [] in
    let one : 1 ≤ op = k.least in
    let t = word_table (op - 1) (omega (arith, k.most)) in
    let av : apart sv = rw append-nil at (said_apart (uses_value op) c.value [] apart_none) in
    let ar : apart (sa ++ (sb ++ sv)) = said_apart wa c.a (sb ++ sv) (said_apart (uses_b op) c.b sv av) in
    let la : length sa ≤ 4 = said_length wa 2 c.a (omega (arith, k.a_fits)) in
    let lb : length sb ≤ 4 = said_length (uses_b op) 2 c.b (omega (arith, k.b_fits)) in
    let lv : length sv ≤ 21 = said_length (uses_value op) 19 c.value (omega (arith, k.value_fits)) in
    let ln : length (w ++ (sa ++ (sb ++ sv))) ≤ 64 = rw (length-append w (sa ++ (sb ++ sv)), length-append sa (sb ++ sv), length-append sb sv)
    (omega (arith, t.2)) in
    let eo : op_named w ≡ op = t.0 ∙ omega arith in
    command_said w (sa ++ (sb ++ sv)) op ln eo t.1 ar
    ∙ operands_said op c.a c.b c.value one k.a_fits k.b_fits k.value_fits k.a_unused k.b_unused k.value_unused
    ∙ ap (λ (z : ℕ). record { code = z; op = op; a = c.a; b = c.b; value = c.value }) (sym k.code)

-- ---- and the other way round

fourteen : {A : Type 0} → ◌≡◌ {A = ℕ} 14 0 → A
fourteen e = absurd (omega arith)

record Operands-read (op : ℕ) (l : List ℕ) (c : Spoken) : Type 0 where
  zero_code : c.code ≡ 0
  known : 1 ≤ op
  same_op : c.op ≡ op
  said_so : l ≡ operand_text (written (omits_a op) (uses_a op) c.a) c.a ++ (operand_text (uses_b op) c.b ++ operand_text (uses_value op) c.value)
  fits_a : c.a ≤ 255
  fits_b : c.b ≤ 255
  fits_value : c.value ≤ 18446744073709551615
  zero_a : uses_a op ≡ false → c.a ≡ 0
  zero_b : uses_b op ≡ false → c.b ≡ 0
  zero_value : uses_value op ≡ false → c.value ≡ 0

operands_read : (op : ℕ) (l : List ℕ) → (spoken_by op l).code ≡ 0 → Operands-read op l (spoken_by op l)
unfolding spoken_by
operands_read op l = go (fits_all) refl
  where
    pa : Part
    pa = operand_unless (omits_a op) (uses_a op) 255 l

    pb : Part
    pb = operand (uses_b op) 255 pa.left

    pv : Part
    pv = operand (uses_value op) 18446744073709551615 pb.left

    fits_all : Bool
    fits_all = leb 1 op && pa.valid && pb.valid && pv.valid && empty pv.left

    go : (t : Bool) → fits_all ≡ t → (spoken_by op l).code ≡ 0 → Operands-read op l (spoken_by op l)
    go true t e =
        let p4 = both_true (leb 1 op && pa.valid && pb.valid && pv.valid) (empty pv.left) t in
        let p3 = both_true (leb 1 op && pa.valid && pb.valid) pv.valid p4.0 in
        let p2 = both_true (leb 1 op && pa.valid) pb.valid p3.0 in
        let p1 = both_true (leb 1 op) pa.valid p2.0 in
        let ra = operand_unless_read (omits_a op) (uses_a op) 255 l (omega arith) p1.1 in
        let rb = operand_read (uses_b op) 255 pa.left (omega arith) p2.1 in
        let rv = operand_read (uses_value op) 18446744073709551615 pb.left (omega arith) p3.1 in
        let n : pv.left ≡ [] = (tests_empty pv.left).sure p4.1 in
        let lv : pb.left ≡ operand_text (uses_value op) pv.value = rv.line ∙ rw (n, append-nil) in
        let lb : pa.left ≡ operand_text (uses_b op) pb.value ++ operand_text (uses_value op) pv.value = rv' lv rb.line in
        rw t
        (record {
          zero_code = refl;
          known = leb-true 1 op p1.0;
          same_op = refl;
          said_so = ra.line ∙ ap (λ (m : List ℕ). operand_text (written (omits_a op) (uses_a op) pa.value) pa.value ++ m) lb;
          fits_a = ra.bound;
          fits_b = rb.bound;
          fits_value = rv.bound;
          zero_a = ra.unused_zero;
          zero_b = rb.unused_zero;
          zero_value = rv.unused_zero;
        })
      where
        rv' : pb.left ≡ operand_text (uses_value op) pv.value → pa.left ≡ operand_text (uses_b op) pb.value ++ pb.left
            → pa.left ≡ operand_text (uses_b op) pb.value ++ operand_text (uses_value op) pv.value
        rv' x y = y ∙ ap (λ (m : List ℕ). operand_text (uses_b op) pb.value ++ m) x
    go false t e = fourteen (rw t at e)

pub line_said : (l : List ℕ) → (command_of l).code ≡ 0 → Command (command_of l) × (l ≡ line_of (command_of l))
unfolding command_of line_of op_named
line_said l = go (leb (length l) 64) refl
  where
    go : (t : Bool) → leb (length l) 64 ≡ t → (command_of l).code ≡ 0 → Command (command_of l) × (l ≡ line_of (command_of l))
    go true t e =
        let r = operands_read (op_named (word l)) (behind l) (rw t at e) in
        let w = named_is 1 words (word l) r.known in
        rw t (
          record {
            code = r.zero_code;
            least = rw r.same_op r.known;
            most = rw r.same_op (omega (arith, w.high));
            a_fits = r.fits_a;
            b_fits = r.fits_b;
            value_fits = omega (arith, r.fits_value);
            a_unused = rw r.same_op r.zero_a;
            b_unused = rw r.same_op r.zero_b;
            value_unused = rw r.same_op r.zero_value;
          },
          rw (r.same_op, ← w.is, ← r.said_so) (word_behind 32 l),
        )
    go false t e = fourteen (rw t at e)
