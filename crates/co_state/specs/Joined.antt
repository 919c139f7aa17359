-- Lists of changes joined by key.
use Rattle.std.specs.Prelude.{List, [], ◌∷◌}
use Rattle.co_base.specs.declared.written.Written.{Written}
use Rattle.co_state.specs.Effects.{joined}

-- every change of some lists, by key; of two changes of one key that of the earlier list counts
abbrev pub joined_all : List (List Written) → List Written
joined_all [] = []
joined_all (ws ∷ wss) = joined ws (joined_all wss)
