-- Lines as words.
use Rattle.std.specs.Prelude.{ℕ, List, [], ◌∷◌, ◌++◌, ◌==◌, Option, None, Some}
use Rattle.std.specs.List.{slice_split}
use denote.Ref.{Bor}

-- the space
abbrev pub space : ℕ
space = 32

-- a word, which has no space in it
abbrev pub Word : Type 0
Word = List ℕ

-- words, each behind one space
abbrev pub behind : List Word → List ℕ
behind [] = []
behind (word ∷ words) = (space ∷ word) ++ behind words

-- words with one space between each two
abbrev pub spaced : List Word → List ℕ
spaced [] = []
spaced (word ∷ words) = word ++ behind words

-- the words of a line: it is cut at each space
abbrev pub words_of : List ℕ → List Word
words_of line = slice_split (λ byte. byte == space) line

-- the words of what is left of a line, which may be nothing at all
abbrev pub words_left : Option (Bor (List ℕ)) → List Word
words_left None = []
words_left (Some rest) = words_of rest.now
