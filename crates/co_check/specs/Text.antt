-- The text of a verdict.
use Rattle.std.specs.Prelude.{ℕ, List, [], ◌∷◌, ◌++◌, codes, decimal}
use Rattle.co_base.specs.Limits.{most_members}
use Rattle.co_base.specs.declared.reply.Reply.{Reply}
use Rattle.co_serial.specs.MemberRows.{numbered_rows}
use Rattle.co_serial.specs.RecordText.{records_text}
use Rattle.co_schedule.specs.LineText.{newline}
use Rattle.co_schedule.specs.Words.{space, behind}
use Rattle.co_transcript.specs.Spelling.{reply_words}
use Rattle.co_serial.specs.Family.{family_of}
use Rattle.co_serial.specs.Records.{Records}
use Rattle.co_check.specs.declared.text.Detail.{Detail}
use Rattle.co_check.specs.declared.text.Detail.TheVariants as detail
use Rattle.co_check.specs.declared.verdict.Verdict.{Verdict}
use Rattle.co_check.specs.declared.verdict.Verdict.TheVariants.{Serial, Differs}

-- the first transaction that differs, and the number of the event of its first operation that does
abbrev pub differs_text : ℕ → ℕ → List ℕ
differs_text txn line = codes "not serial" ++ space ∷ (decimal txn ++ space ∷ (decimal line ++ newline ∷ []))

-- how many transactions are committed, and behind it the records that their serial run leaves, as durable records are written
abbrev pub serial_text : ℕ → List Records → List ℕ
serial_text transactions map = codes "serial " ++ decimal transactions ++ codes "\n" ++ records_text (numbered_rows (family_of map) 1 most_members)

-- a word and a reply behind it, as a line
abbrev pub reply_line : List ℕ → Reply → List ℕ
reply_line word reply = word ++ behind (reply_words reply) ++ newline ∷ []

-- what the transaction was answered, and what the serial run answers
abbrev pub reasons_text : Reply → Reply → List ℕ
reasons_text told serial = reply_line (codes "told") told ++ reply_line (codes "serial") serial

abbrev pub told_in : Detail → Verdict → List ℕ
told_in how (Serial transactions map) = serial_text transactions map
told_in detail.Verdict (Differs txn line told serial) = differs_text txn line
told_in detail.Reasons (Differs txn line told serial) = differs_text txn line ++ reasons_text told serial

abbrev pub verdict_text : Verdict → List ℕ
verdict_text = told_in detail.Verdict
