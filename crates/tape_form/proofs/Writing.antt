-- Laws of the writer's definitions: when a write is accepted, and what it leaves. Assumes nothing.
use mathlib.Core.Path.{◌≡◌, refl}
use mathlib.Core.List.{List, ◌++◌}
use mathlib.Core.Bool.{Bool, true, false, cond, not}
use Prim.Native.Nat.{ℕ, ◌+◌, ◌%◌, ◌≤◌}
use lib.ListN.{length, take, drop}
use lib.Dec.{ltb, eqb}
use borrow.Author.Tests.{ltb-false, eqb-true, eq-eqb, le-ltb}
use Rattle.std.specs.Prelude.{Result, Ok, Err}
use Rattle.std.specs.Result.{result_and}
use Rattle.rules.specs.declared.Refusal.{Refusal}
use Rattle.rules.specs.declared.Refusal.TheVariants.{Record as NoRecord, Room}
use Rattle.record.specs.Form.{bytes_of}
use Rattle.record.specs.Fault.{fault_of}
use Rattle.record.specs.declared.Record.{Record}
use Rattle.tape_form.specs.Write.{write_code, write_of}

-- what an accepted write knows: a whole place, fields that are a record there, and room
pub record Accepted (n at : ℕ) (r : Record) : Type 0 where
  pub whole : at % 16 ≡ 0
  pub fields : fault_of at r ≡ Ok tt
  pub room : at + 16 ≤ n

pub accepted : (n at : ℕ) (r : Record) → write_code n at r ≡ Ok tt → Accepted n at r
unfolding write_code
accepted n at r = go (eqb (at % 16) 0) refl (fault_of at r) refl (ltb n (at + 16)) refl
  where
    go : (w : Bool) → eqb (at % 16) 0 ≡ w → (f : Result Unit Refusal) → fault_of at r ≡ f → (l : Bool) → ltb n (at + 16) ≡ l
        → ◌≡◌ {A = Result (Unit {0}) Refusal} (cond (not w) (Err NoRecord) (result_and f (cond l (Err Room) (Ok tt)))) (Ok tt) → Accepted n at r
    go true w (Ok u) f false l e = record { whole = eqb-true (at % 16) 0 w; fields = f; room = ltb-false n (at + 16) l }
    go true w (Ok u) f true l e = absurd cc
    go true w (Err x) f l m e = absurd cc
    go false w f g l m e = absurd cc

-- and the other way round
pub accepts : {n at : ℕ} {r : Record} → Accepted n at r → write_code n at r ≡ Ok tt
unfolding write_code
accepts {n} {at} {r} a = rw (eq-eqb (at % 16) 0 a.whole, a.fields, le-ltb n (at + 16) a.room)

module _ (s : List ℕ) (at : ℕ) (r : Record) where
  pub write_not : {e : Refusal} → write_code (length s) at r ≡ Err e → write_of s at r ≡ s
  unfolding write_of
  write_not e = rw e

  pub write_is : write_code (length s) at r ≡ Ok tt → write_of s at r ≡ take at s ++ (bytes_of r ++ drop (at + 16) s)
  unfolding write_of
  write_is e = rw e
