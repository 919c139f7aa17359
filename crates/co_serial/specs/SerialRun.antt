-- The serial run: what operations answer, and what they leave, when each transaction is run whole.
use Rattle.std.specs.Prelude.{ℕ, List, [], ◌∷◌, if◌then◌else◌, ◌==◌, None, Some}
use Rattle.std.specs.FinMap.{get}
use Rattle.co_base.specs.declared.op.Op.{Op}
use Rattle.co_base.specs.declared.op.Op.TheVariants.{Read, Write, Erase, Scan}
use Rattle.co_base.specs.declared.reply.Reply.{Reply}
use Rattle.co_base.specs.declared.reply.Reply.TheVariants.{Got, Rows, Done}
use Rattle.co_serial.specs.declared.site.Site.{Site}
use Rattle.co_serial.specs.Records.{Records, with_change, rows_within}

-- the records of every member, by its number
abbrev pub AllRecords : Type 0
AllRecords = ℕ → Records

-- a family with one place changed
abbrev pub with_at : {X : Type 0} → (ℕ → X) → ℕ → X → ℕ → X
with_at family place x i = if place == i then x else family i

-- a read answers the value or none, a scan the rows of its range; a write or an erasure is done
abbrev pub reply_to : Records → Op → Reply
reply_to records (Read key) = Got (get records key)
reply_to records (Write key value) = Done
reply_to records (Erase key) = Done
reply_to records (Scan span) = Rows (rows_within records span)

-- what the operation leaves
abbrev pub records_after : Records → Op → Records
records_after records (Read key) = records
records_after records (Write key value) = with_change records key (Some value)
records_after records (Erase key) = with_change records key None
records_after records (Scan span) = records

abbrev pub after_site : AllRecords → Site → AllRecords
after_site all site = with_at all site.member (records_after (all site.member) site.op)

-- the replies of a transaction that runs whole, in the order of its operations
abbrev pub run_whole : AllRecords → List Site → List Reply
run_whole all [] = []
run_whole all (site ∷ sites) = reply_to (all site.member) site.op ∷ run_whole (after_site all site) sites

-- what it leaves
abbrev pub after_whole : AllRecords → List Site → AllRecords
after_whole all [] = all
after_whole all (site ∷ sites) = after_whole (after_site all site) sites

-- what transactions leave that run whole one after another, the first one first
abbrev pub after : AllRecords → List (List Site) → AllRecords
after all [] = all
after all (sites ∷ rest) = after (after_whole all sites) rest
