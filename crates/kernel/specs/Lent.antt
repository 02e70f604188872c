-- The ten tables that a caller lends, as the state that they are: before the call and behind it.
use Rattle.std.specs.Prelude.{ℕ, Bool, List}
use Rattle.std.specs.Borrow.{Bor, MutBor}
use denote.Triple.Both.{Both}
use Rattle.kernel.specs.declared.Kernel.{Kernel}

abbrev pub tables : List ℕ → List ℕ → List ℕ → List ℕ → List ℕ → List ℕ → List ℕ → List ℕ → ℕ → Bool → Kernel
tables b r d h w u c q n s =
    record {
      base = b;
      ready = r;
      delayed = d;
      held = h;
      way = w;
      until = u;
      ceiling = c;
      waiter = q;
      clock = n;
      started = s;
    }

-- What is lent: its contents before the call, and behind it.
abbrev pub Lent : Type 0 → Type 0
Lent X = Both (MutBor X) (MutBor X)

abbrev pub Table : Type 0
Table = Lent (List ℕ)

-- a table that is lent to be read
abbrev pub Shown : Type 0
Shown = Both (Bor (List ℕ)) (Bor (List ℕ))

-- the state that the lent tables are before the call
abbrev pub lent : Table → Table → Table → Table → Table → Table → Table → Table → Lent ℕ → Lent Bool → Kernel
lent b r d h w u c q n s =
    tables b.entry.now r.entry.now d.entry.now h.entry.now w.entry.now u.entry.now
    c.entry.now q.entry.now n.entry.now s.entry.now

-- the state that it leaves in them
abbrev pub left : Table → Table → Table → Table → Table → Table → Table → Table → Lent ℕ → Lent Bool → Kernel
left b r d h w u c q n s =
    tables b.exit.now r.exit.now d.exit.now h.exit.now w.exit.now u.exit.now
    c.exit.now q.exit.now n.exit.now s.exit.now

-- the state that six lent tables are with the other four parts by value
abbrev pub seen : Shown → Shown → Shown → Shown → Shown → Shown → List ℕ → List ℕ → ℕ → Bool → Kernel
seen b r d h w u c q n s =
    tables b.entry.now r.entry.now d.entry.now h.entry.now w.entry.now u.entry.now c q n s
