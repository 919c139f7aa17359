-- What a transcript tells of its transactions, beside what the federation keeps of them.
use Rattle.std.specs.Prelude.{ℕ, true, false, ◌≡◌, ◌≤◌, List, [], ◌∷◌, length, map, Option, None, Some, Result, Ok}
use Rattle.co_base.specs.declared.head.Head.{Head}
use Rattle.co_base.specs.declared.node.Node.{Node}
use Rattle.co_message.specs.declared.item.Item.{Item}
use Rattle.co_serial.specs.Family.{family_of}
use Rattle.co_serial.specs.MemberRows.{numbered_rows}
use Rattle.co_serial.specs.Records.{Records}
use Rattle.co_serial.specs.declared.member_row.MemberRow.{MemberRow}
use Rattle.co_state.specs.Table.{Table, look}
use Rattle.co_plain.specs.Decisions.{told_in, is_decided}
use Rattle.co_plain.specs.DurableRecords.{durable_records}
use Rattle.co_plain.specs.Federation.{Federation}
use Rattle.co_plain.specs.Opening.{Found}
use Rattle.co_plain.specs.Promises.{serial_records}
use Rattle.co_plain.specs.declared.session.Decided.{Decided}
use Rattle.co_plain.specs.declared.session.Session.{Session}
use Rattle.co_plain.specs.declared.session.Told.{Told}
use Rattle.co_transcript.specs.Items.{IsItem}
use Rattle.co_transcript.specs.Spelling.{item_text}
use Rattle.co_schedule.specs.Limits.{most_of_text}
use Rattle.co_check.specs.declared.client.Committed.{Committed}
use Rattle.co_check.specs.Account.{Account, client_of}
use Rattle.co_check.specs.Runs.{sites, replies}
use Rattle.co_check.specs.Serial.{IsSerial, serial_after}
use Rattle.co_check.specs.Shape.{read, is_whole}
use Rattle.co_check.specs.declared.client.Answered.{Answered}
use Rattle.co_check.specs.declared.fault.CheckFault.{CheckFault}
use Rattle.co_check.specs.declared.place.Place.{Place}
use Rattle.co_check.specs.declared.verdict.Verdict.{Verdict}
use Rattle.co_check.specs.declared.verdict.Verdict.TheVariants as verdict

-- the node that decides the transaction of a session
abbrev pub by_in : Option Session → Option Node
by_in None = None
by_in (Some session) = Some session.by

-- the same operations, with the same replies
abbrev pub AreAlike : List Answered → List Told → Type 0
AreAlike told kept = (sites told ≡ map (λ o. o.site) kept) × (replies told ≡ map (λ o. o.reply) kept)

-- the same transactions in the same order, with the same operations
abbrev pub AreDecidedAlike : List Committed → List Decided → Type 0
AreDecidedAlike [] [] = Unit {0}
AreDecidedAlike (c ∷ cs) (d ∷ ds) = (c.txn ≡ d.txn) × AreAlike c.told d.told × AreDecidedAlike cs ds
AreDecidedAlike [] (d ∷ ds) = ⊥
AreDecidedAlike (c ∷ cs) [] = ⊥

-- what was told of transactions is what their sessions and the decisions say
pub record Tells (a : Account) (sessions : Table Session) (decided : List Decided) : Type 0 where
  pub by : (t : ℕ) → (client_of a t).by ≡ by_in (look sessions t)
  pub told : (t : ℕ) → is_decided decided t ≡ false → AreAlike (client_of a t).told (told_in (look sessions t))
  pub settled : (t : ℕ) → (client_of a t).decided ≡ is_decided decided t
  pub committed : AreDecidedAlike a.committed decided

-- The items are well shaped as a whole, and the transactions whose decisions they tell read serially. As many are decided, and their serial run leaves the
-- same records.
pub record IsToldSerially (items : List Item) (s z : Federation) : Type 0 where
  pub account : Account
  pub place : Place
  pub shaped : read items ≡ Some (record { place = place; account = account })
  pub whole : is_whole place ≡ true
  pub serial : IsSerial account.committed
  pub count : length account.committed ≡ length z.decided
  pub records : serial_after account.committed ≡ serial_records s z.decided

-- Checking answered that all committed transactions read serially: as many as were decided, with the records that their serial run leaves.
pub record IsFoundSerial (answer : Result Verdict CheckFault) (s z : Federation) : Type 0 where
  pub transactions : ℕ
  pub map_left : List Records
  pub is : answer ≡ Ok (verdict.Serial transactions map_left)
  pub count : transactions ≡ length z.decided
  pub records : family_of map_left ≡ serial_records s z.decided

-- an item whose fields are in the sets of its kind, and whose line a checker may read
abbrev pub IsShortItem : Item → Type 0
IsShortItem it = IsItem it × (length (item_text it) ≤ most_of_text)

-- so many events have no more items than a checker reads lines
abbrev pub most_events : ℕ
most_events = 883010

-- the records that so many events write stand in one line that a checker reads
abbrev pub most_writes : ℕ
most_writes = 4062

-- the records that the opened logs give, from which a resumed run starts: members ascending, and the keys of each
abbrev pub start_rows : Head → (ℕ → Found) → (ℕ → Found) → List MemberRow
start_rows head found_member found_coord = numbered_rows (durable_records (λ m. (found_member m).records) (λ c. (found_coord c).records)) 1 (length head.kinds)
