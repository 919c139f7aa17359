-- What is said of a list that is lent to be written behind.
use Rattle.std.specs.Prelude.{◌≡◌, List, ◌++◌}

-- the list begins with what it held
abbrev pub Begins : {A : Type 0} → List A → List A → Type 0
Begins {A} old new = (more : List A) × (new ≡ old ++ more)
