-- How the code keeps the words of the ops: as one text, eight bytes for each, with blanks behind the word. So a word is
-- found by its first byte at every eighth place.
use Rattle.std.specs.Prelude.{ℕ, zero, suc, List, [], ◌∷◌, drop}
use Rattle.text.specs.Words.{word}

-- the word that begins at a place
abbrev pub word_at : List ℕ → ℕ → List ℕ
word_at l at = word (drop at l)

-- the words of a text, up to k of them
unfoldable pub words_in : ℕ → List ℕ → List (List ℕ)
words_in zero l = []
words_in (suc k) [] = []
words_in (suc k) (b ∷ l) = word (b ∷ l) ∷ words_in k (drop 8 (b ∷ l))
