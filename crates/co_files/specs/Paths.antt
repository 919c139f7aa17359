-- The paths of a directory and of the files in it.
use Rattle.std.specs.Prelude.{ℕ, List, [], ◌∷◌, ◌++◌, codes}
use Rattle.co_outside.specs.declared.spot.Spot.{Spot}
use Rattle.co_outside.specs.Spots.{spot_name}

-- the name of a directory; the empty path is the working directory
abbrev pub dir_name : List ℕ → List ℕ
dir_name [] = codes "."
dir_name (byte ∷ rest) = byte ∷ rest

-- the path of the file of a spot in a directory
abbrev pub path_of : List ℕ → Spot → List ℕ
path_of dir spot = dir_name dir ++ codes "/" ++ spot_name spot
