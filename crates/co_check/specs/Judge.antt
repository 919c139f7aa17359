-- How the judge ends, by its words and by what it found.
use Rattle.std.specs.Prelude.{ℕ, Bool, nat_eq, ◌++◌, List, [], ◌∷◌, codes, decimal, if◌then◌else◌, Option, None, Some, Ok, Err}
use Rattle.std.specs.Cmp.Lexicographic.{pointwise}
use Rattle.std.specs.String.{string_bytes}
use Rattle.std.specs.declared.string.String.{String}
use Rattle.co_check.specs.Text.{told_in}
use Rattle.co_check.specs.Written.{IsWrittenAs, IsWrittenResumed}
use Rattle.co_check.specs.declared.judging.Outcome.{Outcome}
use Rattle.co_check.specs.declared.judging.Outcome.TheVariants as outcome
use Rattle.co_check.specs.declared.note.Note.{Note}
use Rattle.co_check.specs.declared.text.Detail.{Detail}
use Rattle.co_check.specs.declared.text.Detail.TheVariants as detail
use Rattle.co_check.specs.declared.writing.Finding.TheVariants as finding
use Rattle.co_check.specs.declared.writing.VerdictFault.TheVariants as fault

abbrev pub is_why : {A : Type 0} → String A → Bool
is_why word = pointwise nat_eq (string_bytes word) (codes "why")

-- what the words ask for: no word the verdict, `why` its reasons, and no others are known
abbrev pub detail_of : {A : Type 0} → List (String A) → Option Detail
detail_of [] = Some detail.Verdict
detail_of (word ∷ []) = if is_why word then Some detail.Reasons else None
detail_of _ = None

-- how the judging of a text ends, that is told so
abbrev pub IsOutcome : Detail → List ℕ → List ℕ → Option (List ℕ) → Outcome → Type 0
IsOutcome how text held told outcome.Usage = ⊥
IsOutcome how text held told (outcome.Ended written) = IsWrittenAs (told_in how) text held told written

-- how the judging of a resumed run ends
abbrev pub IsResumedOutcome : List ℕ → List ℕ → Option (List ℕ) → Outcome → Type 0
IsResumedOutcome text held told outcome.Usage = ⊥
IsResumedOutcome text held told (outcome.Ended written) = IsWrittenResumed text held told written

abbrev pub exit_code : Outcome → ℕ
exit_code outcome.Usage = 2
exit_code (outcome.Ended (Ok finding.Serial)) = 0
exit_code (outcome.Ended (Ok (finding.NotSerial txn line))) = 14
exit_code (outcome.Ended (Err fault.Read)) = 4
exit_code (outcome.Ended (Err fault.Write)) = 5
exit_code (outcome.Ended (Err (fault.Text line))) = 15
exit_code (outcome.Ended (Err (fault.Long line))) = 10
exit_code (outcome.Ended (Err fault.Many)) = 10
exit_code (outcome.Ended (Err fault.Memory)) = 11

abbrev pub note_of : Outcome → List ℕ
note_of outcome.Usage = codes "usage\n"
note_of (outcome.Ended (Ok found)) = []
note_of (outcome.Ended (Err fault.Read)) = codes "read fault\n"
note_of (outcome.Ended (Err fault.Write)) = codes "write fault\n"
note_of (outcome.Ended (Err (fault.Text line))) = codes "transcript line " ++ decimal line ++ codes "\n"
note_of (outcome.Ended (Err (fault.Long line))) = codes "limit: line " ++ decimal line ++ codes " is long\n"
note_of (outcome.Ended (Err fault.Many)) = codes "limit: lines\n"
note_of (outcome.Ended (Err fault.Memory)) = codes "want of memory\n"

-- the number of a line, where there is one
abbrev pub number_text : Option ℕ → List ℕ
number_text None = []
number_text (Some line) = decimal line

-- the pieces of a note, one behind the other
abbrev pub text_of_note : Note → List ℕ
text_of_note note = note.front.now ++ (number_text note.line ++ note.back.now)
