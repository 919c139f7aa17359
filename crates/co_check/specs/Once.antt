-- When two answers of checking a text are the same.
use Rattle.std.specs.Prelude.{◌≡◌, Result, Ok, Err}
use Rattle.co_serial.specs.Family.{family_of}
use Rattle.co_check.specs.declared.fault.CheckFault.{CheckFault}
use Rattle.co_check.specs.declared.fault.CheckFault.TheVariants as fault
use Rattle.co_check.specs.declared.verdict.Verdict.{Verdict}
use Rattle.co_check.specs.declared.verdict.Verdict.TheVariants.{Serial, Differs}

-- an answer that the text alone determines: neither the source failed nor was there no memory
abbrev pub IsOfText : Result Verdict CheckFault → Type 0
IsOfText (Err fault.Read) = ⊥
IsOfText (Err fault.Memory) = ⊥
IsOfText _ = Unit {0}

-- the same verdict, with the same records of every member; or the same fault
abbrev pub IsSameAnswer : Result Verdict CheckFault → Result Verdict CheckFault → Type 0
IsSameAnswer (Ok (Serial transactions map)) (Ok (Serial others other_map)) = (transactions ≡ others) × (family_of map ≡ family_of other_map)
IsSameAnswer (Ok (Differs txn line told serial)) (Ok (Differs other_txn other_line other_told other_serial)) = (txn ≡ other_txn) × (line ≡ other_line) × (told ≡ other_told) × (serial ≡ other_serial)
IsSameAnswer (Err why) (Err other) = why ≡ other
IsSameAnswer _ _ = ⊥
