-- What calls of a sink take.
use Rattle.std.specs.Prelude.{ℕ, ◌≡◌, ◌⊎◌, ◌++◌, List, [], take, Option, Some, Result, Ok, Err}
use Rattle.co_outside.specs.Faults.{HasRisen}
use Rattle.co_outside.specs.declared.sink.SinkFault.{SinkFault}

-- the part of the piece that a call took; a fault takes none
abbrev pub accepted : List ℕ → Result ℕ SinkFault → List ℕ
accepted piece (Ok count) = take count piece
accepted piece (Err fault) = []

-- a sink that held this took the whole text; or it took a front of it, and failed or had no memory
abbrev pub HasNoted : List ℕ → List ℕ → Option (List ℕ) → ℕ → ℕ → ℕ → ℕ → Type 0
HasNoted held text told faults faults_now lacks lacks_now =
    (told ≡ Some (held ++ text))
    ⊎ (((count : ℕ) × (told ≡ Some (held ++ take count text))) × (HasRisen faults faults_now ⊎ HasRisen lacks lacks_now))
