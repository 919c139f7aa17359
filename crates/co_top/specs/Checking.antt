-- How the judging of a transcript ends, and what is written then.
use Rattle.std.specs.Prelude.{ℕ, ◌≡◌, ◌⊎◌, List, Option, Some, Result, Ok, Err}
use Rattle.co_base.specs.declared.reply.Reply.{Reply}
use Rattle.co_serial.specs.Records.{Records}
use Rattle.co_check.specs.Checked.{IsCheck, IsTextFault, IsLineFault}
use Rattle.co_check.specs.Once.{IsOfText}
use Rattle.co_check.specs.Written.{IsFound, IsFoundInPart}
use Rattle.co_check.specs.declared.fault.CheckFault.{CheckFault}
use Rattle.co_check.specs.declared.fault.CheckFault.TheVariants as check
use Rattle.co_check.specs.declared.verdict.Verdict.{Verdict}
use Rattle.co_check.specs.declared.verdict.Verdict.TheVariants as verdict
use Rattle.co_check.specs.declared.writing.Finding.{Finding}
use Rattle.co_check.specs.declared.writing.Finding.TheVariants as finding
use Rattle.co_check.specs.declared.writing.VerdictFault.{VerdictFault}
use Rattle.co_check.specs.declared.writing.VerdictFault.TheVariants as fault
use Rattle.co_top.specs.Views.{SourceView, SinkView, TellsRead, TellsWrite}
use Rattle.co_top.specs.declared.status.LimitKind.TheVariants as limit
use Rattle.co_top.specs.declared.status.Status.{Status}
use Rattle.co_top.specs.declared.status.Status.TheVariants as status

-- the status that stands for what was found
abbrev pub status_of_finding : Finding → Status
status_of_finding finding.Serial = status.Done
status_of_finding (finding.NotSerial txn line) = status.NotSerial txn line

-- the status that stands for that, or for a fault
abbrev pub status_of_check : Result Finding VerdictFault → Status
status_of_check (Ok found) = status_of_finding found
status_of_check (Err fault.Read) = status.Read
status_of_check (Err fault.Write) = status.Write
status_of_check (Err (fault.Text line)) = status.Transcript line
status_of_check (Err (fault.Long line)) = status.Limit (limit.Line line)
status_of_check (Err fault.Many) = status.Limit limit.Lines
status_of_check (Err fault.Memory) = status.Memory

-- the statuses of judging a transcript
abbrev pub IsOfCheck : Status → Type 0
IsOfCheck status.Done = Unit {0}
IsOfCheck (status.NotSerial txn line) = Unit {0}
IsOfCheck (status.Transcript line) = Unit {0}
IsOfCheck (status.Limit (limit.Line line)) = Unit {0}
IsOfCheck (status.Limit limit.Lines) = Unit {0}
IsOfCheck status.Read = Unit {0}
IsOfCheck status.Write = Unit {0}
IsOfCheck status.Memory = Unit {0}
IsOfCheck _ = ⊥

-- How it ends, over a transcript that is told, and a sink that held this: all committed transactions read serially, or one does not, and the text of that
-- verdict is written; or the first fault of the transcript is told, and nothing is written. Where the sink failed, or there was no memory, a front of the
-- text of the verdict may be.
abbrev pub IsCheckEnd : List ℕ → List ℕ → Option (List ℕ) → Status → Type 0
IsCheckEnd input held told status.Done = (transactions : ℕ) × (map : List Records) × IsFound input held told (verdict.Serial transactions map)
IsCheckEnd input held told (status.NotSerial txn line) = (was : Reply) × (serial : Reply) × IsFound input held told (verdict.Differs txn line was serial)
IsCheckEnd input held told (status.Transcript line) = IsTextFault input line × (told ≡ Some held)
IsCheckEnd input held told (status.Limit (limit.Line line)) = IsLineFault input (check.Long line) × (told ≡ Some held)
IsCheckEnd input held told (status.Limit limit.Lines) = IsLineFault input check.Many × (told ≡ Some held)
IsCheckEnd input held told status.Read = told ≡ Some held
IsCheckEnd input held told status.Write = IsFoundInPart input held told
IsCheckEnd input held told status.Memory = (told ≡ Some held) ⊎ IsFoundInPart input held told
IsCheckEnd input held told _ = ⊥

-- ---- which status comes

-- the status that stands for an answer of checking
abbrev pub status_of_answer : Result Verdict CheckFault → Status
status_of_answer (Ok (verdict.Serial transactions map)) = status.Done
status_of_answer (Ok (verdict.Differs txn line told serial)) = status.NotSerial txn line
status_of_answer (Err (check.Text line)) = status.Transcript line
status_of_answer (Err (check.Long line)) = status.Limit (limit.Line line)
status_of_answer (Err check.Many) = status.Limit limit.Lines
status_of_answer (Err check.Read) = status.Read
status_of_answer (Err check.Memory) = status.Memory

-- the source or the sink failed, or there was no memory
abbrev pub HasGivenUp : Status → Type 0
HasGivenUp status.Read = Unit {0}
HasGivenUp status.Write = Unit {0}
HasGivenUp status.Memory = Unit {0}
HasGivenUp _ = ⊥

-- whatever the text is, a serial transcript or not, or one with a fault: that is told, unless the source or the sink failed or there was no memory
abbrev pub IsExactCheck : List ℕ → Status → Type 0
IsExactCheck input ended = (answer : Result Verdict CheckFault) → IsCheck input answer → IsOfText answer → (ended ≡ status_of_answer answer) ⊎ HasGivenUp ended

-- The command `check`: how it ends, over what is seen of the source and the sink.
pub record ChecksAs (source_old source_new : SourceView) (out_old out_new : SinkView) (ended : Status) : Type 0 where
  pub end : (input held : List ℕ) → source_old.left ≡ Some input → out_old.told ≡ Some held → IsCheckEnd input held out_new.told ended
  pub judged : (input held : List ℕ) → source_old.left ≡ Some input → out_old.told ≡ Some held → IsExactCheck input ended
  pub read : TellsRead source_old source_new ended
  pub write : TellsWrite out_old out_new ended
