-- The words of kinds.
use Rattle.std.specs.Prelude.{List, ◌++◌, map, Option, None, Some, codes}
use Rattle.co_base.specs.declared.head.Kind.{Kind}
use Rattle.co_schedule.specs.Words.{Word}
use Rattle.co_schedule.specs.Spelling.{kind_word}

-- kinds, and the words behind them
abbrev pub kinds_text : List Kind → List Word → List Word
kinds_text kinds words = map kind_word kinds ++ words

-- the word of a kind, or `coords`
abbrev pub kind_or_coords_word : Option Kind → Word
kind_or_coords_word None = codes "coords"
kind_or_coords_word (Some kind) = kind_word kind
