-- The words of a line, and text as bytes.
use Rattle.std.specs.Prelude.{ℕ, Bool, true, false, cond, ◌&&◌, List, [], ◌∷◌, eqb}
use Prim.Native.Char.{code}
use Prim.Native.String.{String}

-- the bytes of a text: its characters' codes
abbrev pub bytes : String → List ℕ
bytes String.[] = []
bytes (String.◌∷◌ c s) = code c ∷ bytes s

-- a blank is byte 32; the line end is byte 10, and nothing else
abbrev pub blank : ℕ
blank = 32

abbrev pub line_end : ℕ
line_end = 10

-- the bytes before the first that is `stop`, and those from it on
unfoldable pub before : ℕ → List ℕ → List ℕ
before stop [] = []
before stop (b ∷ l) = cond (eqb b stop) [] (b ∷ before stop l)

unfoldable pub onward : ℕ → List ℕ → List ℕ
onward stop [] = []
onward stop (b ∷ l) = cond (eqb b stop) (b ∷ l) (onward stop l)

-- the first word of a line, and what follows it: nothing, or a blank and the rest
abbrev pub word : List ℕ → List ℕ
word l = before blank l

abbrev pub behind : List ℕ → List ℕ
behind l = onward blank l

unfoldable pub same : List ℕ → List ℕ → Bool
same [] [] = true
same [] (b ∷ m) = false
same (a ∷ l) [] = false
same (a ∷ l) (b ∷ m) = eqb a b && same l m
