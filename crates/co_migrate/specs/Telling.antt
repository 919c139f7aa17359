-- The records that a filled spare tells again, oldest first, behind its header.
use Rattle.std.specs.Prelude.{List, [], ◌∷◌, map}
use Rattle.co_record.specs.declared.record.Record.{Record}
use Rattle.co_record.specs.declared.record.Record.TheVariants as log
use Rattle.co_recover.specs.declared.past.CoordPast.{CoordPast}
use Rattle.co_recover.specs.declared.past.Decided.{Decided}
use Rattle.co_recover.specs.declared.past.MemberPast.{MemberPast}
use Rattle.co_member.specs.Checkpoint.{prepared_again}

-- of a member: its installed records and the committed transactions, and a prepare record for each voted one
abbrev pub member_again : MemberPast → List Record
member_again past = log.Checkpoint past.rows [] past.committed ∷ map prepared_again past.voted

-- of a coordinator: a commit record for each commit without end
abbrev pub commit_again : Decided → Record
commit_again decided = log.Commit decided.txn decided.members

abbrev pub coord_again : CoordPast → List Record
coord_again past = map commit_again past.committed
