-- What a call of a source gives.
use Rattle.std.specs.Prelude.{ℕ, ◌≤◌, Bool, true, false, ◌||◌, List, [], length, Result, Ok, Err}
use Rattle.co_outside.specs.declared.source.Taken.{Taken}
use Rattle.co_outside.specs.declared.source.Taken.TheVariants.{Bytes, End}
use Rattle.co_outside.specs.declared.source.SourceFault.{SourceFault}

-- the bytes of an answer; the end has none
abbrev pub taken_bytes : Taken → List ℕ
taken_bytes (Bytes bytes) = bytes
taken_bytes End = []

-- the bytes that a call gave; a fault gives none
abbrev pub given : Result Taken SourceFault → List ℕ
given (Ok taken) = taken_bytes taken
given (Err fault) = []

-- whether the last answer of a source was the end, after one more call; a fault is no answer
abbrev pub ended_by : Result Taken SourceFault → Bool → Bool
ended_by (Ok (Bytes bytes)) before = false
ended_by (Ok End) before = true
ended_by (Err fault) before = before

-- whether bytes were given behind an end, after one more call
abbrev pub went_on_by : Result Taken SourceFault → Bool → Bool → Bool
went_on_by (Ok (Bytes bytes)) ended before = ended || before
went_on_by (Ok End) ended before = before
went_on_by (Err fault) ended before = before

-- at least one byte and at most so many, or the end
abbrev pub HasSize : ℕ → Taken → Type 0
HasSize most (Bytes bytes) = (1 ≤ length bytes) × (length bytes ≤ most)
HasSize most End = Unit {0}
