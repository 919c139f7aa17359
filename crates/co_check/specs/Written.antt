-- How the verdict on a text is written, and what a sink holds then.
use Rattle.std.specs.Prelude.{ℕ, ◌≡◌, ◌⊎◌, ◌++◌, List, take, Option, Some, Result, Ok, Err}
use Rattle.co_base.specs.declared.reply.Reply.{Reply}
use Rattle.co_serial.specs.Records.{Records}
use Rattle.co_check.specs.Checked.{IsCheck}
use Rattle.co_check.specs.Resumed.{IsResumedCheck}
use Rattle.co_check.specs.Text.{verdict_text}
use Rattle.co_check.specs.declared.fault.CheckFault.{CheckFault}
use Rattle.co_check.specs.declared.fault.CheckFault.TheVariants as check
use Rattle.co_check.specs.declared.verdict.Verdict.{Verdict}
use Rattle.co_check.specs.declared.verdict.Verdict.TheVariants as verdict
use Rattle.co_check.specs.declared.writing.Finding.{Finding}
use Rattle.co_check.specs.declared.writing.Finding.TheVariants as finding
use Rattle.co_check.specs.declared.writing.Input.{Input}
use Rattle.co_check.specs.declared.writing.Input.TheVariants as input
use Rattle.co_check.specs.declared.writing.VerdictFault.{VerdictFault}
use Rattle.co_check.specs.declared.writing.VerdictFault.TheVariants as fault

-- what a verdict finds
abbrev pub finding_of : Verdict → Finding
finding_of (verdict.Serial transactions map) = finding.Serial
finding_of (verdict.Differs txn line told serial) = finding.NotSerial txn line

-- why there is no verdict to be written
abbrev pub fault_of : CheckFault → VerdictFault
fault_of check.Read = fault.Read
fault_of (check.Text line) = fault.Text line
fault_of (check.Long line) = fault.Long line
fault_of check.Many = fault.Many
fault_of check.Memory = fault.Memory

-- what judging an input answers: that of a transcript, or of a resumed run
abbrev pub answers_of : Input → List ℕ → Result Verdict CheckFault → Type 0
answers_of input.Transcript = IsCheck
answers_of input.Resumed = IsResumedCheck

-- How a verdict is written, by the text that is told of it.
module _ (says : Verdict → List ℕ) where
  -- a sink that held this took a front of what is told of a verdict
  abbrev pub IsFrontAs : List ℕ → Option (List ℕ) → Verdict → Type 0
  IsFrontAs held told judged = (count : ℕ) × (told ≡ Some (held ++ take count (says judged)))

  -- how a verdict is written: whole, or a front of it where the sink failed or there was no memory
  abbrev pub IsPutAs : Verdict → List ℕ → Option (List ℕ) → Result Finding VerdictFault → Type 0
  IsPutAs judged held told (Ok found) = (found ≡ finding_of judged) × (told ≡ Some (held ++ says judged))
  IsPutAs judged held told (Err fault.Write) = IsFrontAs held told judged
  IsPutAs judged held told (Err fault.Memory) = IsFrontAs held told judged
  IsPutAs judged held told (Err _) = ⊥

  -- And by what judging the text answers.
  module _ (Answers : List ℕ → Result Verdict CheckFault → Type 0) where
    -- the verdict of the text was found and written
    abbrev pub IsFoundBy : List ℕ → List ℕ → Option (List ℕ) → Verdict → Type 0
    IsFoundBy text held told judged = Answers text (Ok judged) × (told ≡ Some (held ++ says judged))

    -- a front of what is told of its verdict was put
    abbrev pub IsFoundInPartBy : List ℕ → List ℕ → Option (List ℕ) → Type 0
    IsFoundInPartBy text held told = (judged : Verdict) × Answers text (Ok judged) × IsFrontAs held told judged

    -- How the verdict on a text is written to a sink that held this: by what was found, or by the fault.
    abbrev pub IsWrittenBy : List ℕ → List ℕ → Option (List ℕ) → Result Finding VerdictFault → Type 0
    IsWrittenBy text held told (Ok finding.Serial) = (transactions : ℕ) × (map : List Records) × IsFoundBy text held told (verdict.Serial transactions map)
    IsWrittenBy text held told (Ok (finding.NotSerial txn line)) = (was : Reply) × (serial : Reply) × IsFoundBy text held told (verdict.Differs txn line was serial)
    IsWrittenBy text held told (Err (fault.Text line)) = Answers text (Err (check.Text line)) × (told ≡ Some held)
    IsWrittenBy text held told (Err (fault.Long line)) = Answers text (Err (check.Long line)) × (told ≡ Some held)
    IsWrittenBy text held told (Err fault.Many) = Answers text (Err check.Many) × (told ≡ Some held)
    IsWrittenBy text held told (Err fault.Read) = told ≡ Some held
    IsWrittenBy text held told (Err fault.Write) = IsFoundInPartBy text held told
    IsWrittenBy text held told (Err fault.Memory) = (told ≡ Some held) ⊎ IsFoundInPartBy text held told

  -- of a transcript
  abbrev pub IsFoundAs : List ℕ → List ℕ → Option (List ℕ) → Verdict → Type 0
  IsFoundAs = IsFoundBy IsCheck

  abbrev pub IsFoundInPartAs : List ℕ → List ℕ → Option (List ℕ) → Type 0
  IsFoundInPartAs = IsFoundInPartBy IsCheck

  abbrev pub IsWrittenAs : List ℕ → List ℕ → Option (List ℕ) → Result Finding VerdictFault → Type 0
  IsWrittenAs = IsWrittenBy IsCheck

-- as the verdict alone
abbrev pub IsFound : List ℕ → List ℕ → Option (List ℕ) → Verdict → Type 0
IsFound = IsFoundAs verdict_text

abbrev pub IsFoundInPart : List ℕ → List ℕ → Option (List ℕ) → Type 0
IsFoundInPart = IsFoundInPartAs verdict_text

abbrev pub IsWritten : List ℕ → List ℕ → Option (List ℕ) → Result Finding VerdictFault → Type 0
IsWritten = IsWrittenAs verdict_text

-- of a resumed run
abbrev pub IsWrittenResumed : List ℕ → List ℕ → Option (List ℕ) → Result Finding VerdictFault → Type 0
IsWrittenResumed = IsWrittenBy verdict_text IsResumedCheck
