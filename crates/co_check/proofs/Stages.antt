-- Where a reader stands behind one more record or item.
use Rattle.std.proofs.Common.{◌≡◌, ℕ, Bool, true, false, List, Option, None, Some, Result, if◌then◌else◌, refl, ap, subst}
use Rattle.co_base.specs.declared.head.Head.{Head}
use Rattle.co_base.specs.declared.node.Node.{Node}
use Rattle.co_serial.specs.SerialRun.{AllRecords}
use Rattle.co_serial.specs.declared.member_row.MemberRow.{MemberRow}
use Rattle.co_check.specs.Account.{no_account}
use Rattle.co_check.specs.Kept.{Keeps, Follows}
use Rattle.co_check.specs.Resumed.{Stands, IsEntryTaken}
use Rattle.co_check.specs.Shape.{Read}
use Rattle.co_check.specs.Stages.{Stage, InRecords, InTranscript, nodes_of, behind_records, next_stage}
use Rattle.co_check.specs.declared.checker.Checker.{Checker}
use Rattle.co_check.specs.declared.entry.Entry.{Entry}
use Rattle.co_check.specs.declared.entry.Entry.TheVariants as entry
use Rattle.co_check.specs.declared.fault.CheckFault.{CheckFault}
use Rattle.co_check.specs.declared.ledger.Ledger.{Ledger}
use Rattle.co_check.specs.declared.place.Place.TheVariants.{InHead}
use Rattle.co_check.specs.declared.reader.Reader.{Reader}
use Rattle.co_check.specs.declared.reader.Reader.TheVariants.{Records, Transcript}
use Rattle.co_check.specs.declared.starting.RecordName.{RecordName}

-- a record that stands behind the last one leads on
pub stands_behind : (b : Bool) (s : Stage) (P : Stage → Type 0) → b ≡ true → P s → (x : Stage) × ((if b then Some s else None) ≡ Some x) × P x
stands_behind true s P e p = (s, refl, p)
stands_behind false s P e p = absurd (let z : false ≡ true = e in cc)

-- a head begins the transcript
pub begun_with : (start : AllRecords) (o : Option Head) (head : Head) (seen : List Node) (ledger : Ledger) → o ≡ Some head → seen ≡ nodes_of head → Keeps start ledger no_account →
    (x : Stage) × (behind_records start o ≡ Some x) × Stands (Transcript (record { place = InHead head seen false; ledger = ledger })) x
begun_with start o head seen ledger e s k = (
  InTranscript start (record { place = InHead head (nodes_of head) false; account = no_account }),
  ap (behind_records start) e,
  record { place = ap (λ ns. InHead head ns false) s; account = k },
)

-- what is taken behind records is taken at that stage
pub in_records : (s : Stage) (last : Option RecordName) (ledger : Ledger) (number : ℕ) (e : Entry) (o : Result Reader CheckFault) → Stands (Records last ledger) s →
    ((start : AllRecords) → Keeps start ledger no_account → IsEntryTaken (InRecords last start) number e o) → IsEntryTaken s number e o
in_records (InRecords name start) last ledger number e o k t = subst (λ n. IsEntryTaken (InRecords n start) number e o) k.0 (t start k.1)
in_records (InTranscript start r) last ledger number e o k t = absurd k

-- and so behind lines of a transcript
pub in_transcript : (s : Stage) (checker : Checker) (number : ℕ) (e : Entry) (o : Result Reader CheckFault) → Stands (Transcript checker) s →
    ((start : AllRecords) (r : Read) → Follows start checker r → IsEntryTaken (InTranscript start r) number e o) → IsEntryTaken s number e o
in_transcript (InRecords name start) checker number e o k t = absurd k
in_transcript (InTranscript start r) checker number e o k t = t start r k

-- where no record may stand
pub no_record : (s : Stage) (checker : Checker) (row : MemberRow) → Stands (Transcript checker) s → next_stage s (entry.Record row) ≡ None
no_record (InRecords name start) checker row k = absurd k
no_record (InTranscript start r) checker row k = refl
