-- How the serial run of one transaction compares with what was told of it.
use Rattle.std.specs.Prelude.{ℕ, ◌≡◌, ◌≢◌, List, ◌∷◌, ◌++◌, map, Option, None, Some}
use Rattle.co_base.specs.declared.reply.Reply.{Reply}
use Rattle.co_serial.specs.SerialRun.{AllRecords, after_whole, run_whole, reply_to}
use Rattle.co_serial.specs.declared.site.Site.{Site}
use Rattle.co_check.specs.declared.client.Answered.{Answered}
use Rattle.co_check.specs.declared.serial.Unlike.{Unlike}

-- the operations, and the replies to them, in their order
abbrev pub sites : List Answered → List Site
sites told = map (λ o. o.site) told

abbrev pub replies : List Answered → List Reply
replies told = map (λ o. o.reply) told

-- operations that are answered as in the serial run on these records, which leaves those
pub record AreServed (all left : AllRecords) (told : List Answered) : Type 0 where
  pub same : replies told ≡ run_whole all (sites told)
  pub after : left ≡ after_whole all (sites told)

-- the first operation that is not: those before it are, and the serial run answers otherwise
pub record IsUnlike (all : AllRecords) (told : List Answered) (number : ℕ) (reply serial : Reply) : Type 0 where
  pub before : List Answered
  pub at : Answered
  pub behind : List Answered
  pub order : told ≡ before ++ at ∷ behind
  pub same : replies before ≡ run_whole all (sites before)
  pub is_number : number ≡ at.number
  pub is_told : reply ≡ at.reply
  pub is_serial : serial ≡ reply_to (after_whole all (sites before) at.site.member) at.site.op
  pub unlike : serial ≢ reply

-- a transaction was run on these records
abbrev pub IsRunOf : AllRecords → AllRecords → List Answered → Option Unlike → Type 0
IsRunOf all left told None = AreServed all left told
IsRunOf all left told (Some u) = IsUnlike all told u.number u.told u.serial
