-- Numbers, and lists of them.
use Rattle.std.specs.Prelude.{ℕ, Bool, ◌==◌, ◌≤◌, ◌+◌, min, not, List, filter, find, Option}
use Rattle.std.specs.List.{list_any}

-- What a number is. All are natural numbers, so a name says what is meant and asks for nothing.
abbrev pub TxnNumber : Type 0
TxnNumber = ℕ

abbrev pub MemberNumber : Type 0
MemberNumber = ℕ

abbrev pub CoordNumber : Type 0
CoordNumber = ℕ

-- how many operations of a transaction at a member
abbrev pub Count : Type 0
Count = ℕ

-- of a log file; of a device call in a log write; of a record in a log, from 0; of a schedule line
abbrev pub Generation : Type 0
Generation = ℕ

abbrev pub CallNumber : Type 0
CallNumber = ℕ

abbrev pub Place : Type 0
Place = ℕ

abbrev pub LineNumber : Type 0
LineNumber = ℕ

-- a number from 1 to a count: what members, coordinators and other nodes are numbered by
abbrev pub IsAmong : ℕ → ℕ → Type 0
IsAmong n count = (1 ≤ n) × (n ≤ count)

-- A count of 16 bits, and a generation of 32, stand still at the end of their type.
abbrev pub counted : ℕ → ℕ
counted n = min n 65535

abbrev pub next_generation : Generation → Generation
next_generation generation = min (generation + 1) 4294967295

-- whether the number is among these
abbrev pub has_number : List ℕ → ℕ → Bool
has_number numbers n = list_any (λ k. k == n) numbers

-- those of the numbers that are not among the given ones, and the first of them
abbrev pub numbers_lacking : List ℕ → List ℕ → List ℕ
numbers_lacking numbers given = filter (λ n. not (has_number given n)) numbers

abbrev pub first_lacking : List ℕ → List ℕ → Option ℕ
first_lacking numbers given = find (λ n. not (has_number given n)) numbers
