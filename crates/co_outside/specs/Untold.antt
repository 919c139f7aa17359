-- A home that tells nothing tells no file.
use Rattle.std.specs.Prelude.{◌≡◌, Option, Some, None}
use Rattle.std.proofs.Common.{subst}
use Rattle.co_outside.specs.Home.{File}

IsAbsent : Option File → Type 0
IsAbsent None = Unit {0}
IsAbsent (Some f) = ⊥

pub none_is_no_file : (f : File) → None ≡ Some f → ⊥
unfolding IsAbsent
none_is_no_file f e = subst IsAbsent e tt
