-- Tables of a fixed size: lines whose free places, at the end, are 0, and cells that are looked up by a number.
use Rattle.std.specs.Prelude.{ℕ, suc, ◌+◌, Bool, cond, ◌||◌, List, [], ◌∷◌, ◌++◌, eqb, leb, ltb, take, drop, set}
use Rattle.rules.specs.Line.{at, every}

-- x in front, and each entry one place further back; the last falls out
unfoldable pub shift : ℕ → List ℕ → List ℕ
shift x [] = []
shift x (y ∷ l) = x ∷ shift y l

-- t, placed before the first entry at which the test stops
unfoldable pub place : (ℕ → Bool) → ℕ → List ℕ → List ℕ
place stop t [] = []
place stop t (x ∷ l) = cond (stop x) (t ∷ shift x l) (x ∷ place stop t l)

-- how many entries stand before the first at which the test stops
unfoldable pub lead : (ℕ → Bool) → List ℕ → ℕ
lead stop [] = 0
lead stop (x ∷ l) = cond (stop x) 0 (suc (lead stop l))

-- t at the place n; what stood there and behind it moves back
unfoldable pub insert : ℕ → ℕ → List ℕ → List ℕ
insert n t l = take n l ++ shift t (drop n l)

-- without its front; the last place is free
unfoldable pub pop : List ℕ → List ℕ
pop [] = []
pop (x ∷ l) = l ++ (0 ∷ [])

-- what is no task ends a line: a free place, or a number above 31
abbrev pub no_task : ℕ → Bool
no_task x = eqb x 0 || leb 32 x

-- a task's active priority: the ceiling of the object held, else the base
abbrev pub level : List ℕ → List ℕ → List ℕ → ℕ → ℕ
level base ceiling held t = cond (eqb (at held t) 0) (at base t) (at ceiling (at held t))

-- a place for a time v: before the first with a later one, or the first free place
abbrev pub later : List ℕ → ℕ → ℕ → Bool
later until v x = no_task x || ltb v (at until x)

abbrev pub zeros : List ℕ → Bool
zeros l = every (λ x. eqb x 0) l

-- one more, up to what a byte holds
abbrev pub more : ℕ → ℕ
more n = cond (ltb n 255) (n + 1) n

-- A task's time, and the times with another for a task: a number above 31 is no task, has the time 0, and is given
-- none.
abbrev pub time_in : List ℕ → ℕ → ℕ
time_in until t = cond (ltb t 32) (at until t) 0

abbrev pub with_time : List ℕ → ℕ → ℕ → List ℕ
with_time until t v = cond (ltb t 32) (set until t v) until
