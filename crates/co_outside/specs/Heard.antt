-- What a call of a reader gave, or a writer took.
use Rattle.std.specs.Prelude.{ℕ, List, [], take, Result, Ok, Err}

-- the bytes that a call moved, of those that lie there; a failed one moves none
abbrev pub moved : {E : Type 0} → Result ℕ E → List ℕ → List ℕ
moved (Ok count) bytes = take count bytes
moved (Err fault) bytes = []
