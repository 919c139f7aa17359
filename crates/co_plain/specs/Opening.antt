-- A federation over opened logs. Each node's log is read; a log without records gets a header.
use Rattle.std.specs.Prelude.{ℕ, suc, zero, Bool, true, false, ◌-◌, nat_le, List, [], ◌∷◌, ◌++◌, ◌&&◌, ◌≡◌, length, if◌then◌else◌, None}
use Rattle.std.specs.FinMap.{keys}
use Rattle.co_base.specs.declared.head.Kind.{Kind}
use Rattle.co_base.specs.declared.head.Kind.TheVariants.{Lock}
use Rattle.co_base.specs.declared.mark.Mark.{Mark}
use Rattle.co_base.specs.declared.node.Node.{Node}
use Rattle.co_base.specs.declared.node.Node.TheVariants as node
use Rattle.co_message.specs.declared.answer.Answer.TheVariants as answer
use Rattle.co_message.specs.declared.item.ItemKind.{ItemKind}
use Rattle.co_record.specs.declared.record.Record.{Record}
use Rattle.co_record.specs.declared.record.Record.TheVariants as log
use Rattle.co_state.specs.Table.{no_entries}
use Rattle.co_plain.specs.declared.coord_state.CoordState.{CoordState}
use Rattle.co_plain.specs.declared.log_state.LogState.{LogState}
use Rattle.co_plain.specs.declared.member_state.MemberState.{MemberState}
use Rattle.co_plain.specs.Numbers.{MemberNumber, CoordNumber}
use Rattle.co_plain.specs.LogWrite.{marks_of}
use Rattle.co_plain.specs.declared.member_view.MemberView.{MemberView}
use Rattle.co_plain.specs.MemberView.{Numbers, numbers_from, with_numbers, recovered_view, engine_from}
use Rattle.co_plain.specs.CoordView.{recovered_commits}
use Rattle.co_plain.specs.CoordStep.{table_from}
use Rattle.co_plain.specs.Federation.{Federation, items_of}
use Rattle.std.specs.FinMap.{entries}

-- a node's log as it is found: its records, newest first, and whether its spare file is closed
pub record Found : Type 0 where
  pub records : List Record
  pub spare_closed : Bool

-- nothing was written yet
abbrev pub fresh : Found
fresh = record { records = []; spare_closed = false }

-- a header is made where there are no records
abbrev pub made : Node → List Record → List Record
made owner [] = log.Header owner 1 ∷ []
made owner (r ∷ rs) = r ∷ rs

abbrev pub header_mark : Node → List Record → List Mark
header_mark owner [] = marks_of owner (log.Header owner 1 ∷ [])
header_mark owner (r ∷ rs) = []

abbrev pub opened_log : Node → Found → LogState
opened_log owner found =
    record { stable = made owner found.records; waiting = []; armed = None; spare_closed = found.spare_closed }

-- the kind of a member, by its number
abbrev pub kind_of : List Kind → MemberNumber → Kind
kind_of [] m = Lock
kind_of (k ∷ ks) m = if nat_le m 1 then k else kind_of ks (m - 1)

abbrev pub member_with : Kind → LogState → MemberView → MemberState
member_with kind l v = record { up = true; engine = engine_from kind v; committed = v.committed; asked = no_entries; log = l }

abbrev pub opened_member : List Kind → MemberNumber → Found → MemberState
opened_member kinds m found = member_with (kind_of kinds m) (opened_log (node.Member m) found) (recovered_view found.records)

abbrev pub opened_coord : CoordNumber → Found → CoordState
opened_coord c found =
    record { up = true; table = table_from (entries (recovered_commits found.records).unended); log = opened_log (node.Coord c) found }

-- the numbers of two sets
abbrev pub with_all : Numbers → Numbers → Numbers
with_all some more = with_numbers some (keys more)

-- the numbers that stand in a member's log: voted or committed; and in a coordinator's: seen
abbrev pub numbers_in : MemberView → Numbers
numbers_in v = with_all (numbers_from (keys v.voted)) v.committed

-- the union of the first so many sets, counted from 1
abbrev pub union_to : ℕ → (ℕ → Numbers) → Numbers
union_to zero sets = no_entries
union_to (suc n) sets = with_all (union_to n sets) (sets (suc n))

abbrev pub used_numbers : ℕ → ℕ → (ℕ → Found) → (ℕ → Found) → Numbers
used_numbers members coords found_member found_coord =
    with_all
    (union_to members (λ m. numbers_in (recovered_view (found_member m).records)))
    (union_to coords (λ c. (recovered_commits (found_coord c).records).seen))

-- the federation over these logs
abbrev pub opened : List Kind → ℕ → (ℕ → Found) → (ℕ → Found) → Federation
opened kinds coords found_member found_coord =
    record {
      kinds = kinds;
      coordinators = coords;
      member = λ m. opened_member kinds m (found_member m);
      coord = λ c. opened_coord c (found_coord c);
      sessions = no_entries;
      sent = [];
      decided = [];
      opened_member = λ m. (found_member m).records;
      opened_coord = λ c. (found_coord c).records;
      used = used_numbers (length kinds) coords found_member found_coord;
    }

-- nothing stands in logs of nodes that the federation does not have
pub record OnlyOwnLogs (kinds : List Kind) (coords : ℕ) (found_member found_coord : ℕ → Found) : Type 0 where
  pub members : (m : ℕ) → (nat_le 1 m && nat_le m (length kinds)) ≡ false → (found_member m).records ≡ []
  pub coordinators : (c : ℕ) → (nat_le 1 c && nat_le c coords) ≡ false → (found_coord c).records ≡ []

-- the headers that were made, members before coordinators, each by its number
abbrev pub member_headers : ℕ → (ℕ → Found) → List Mark
member_headers zero found = []
member_headers (suc n) found = member_headers n found ++ header_mark (node.Member (suc n)) (found (suc n)).records

abbrev pub coord_headers : ℕ → (ℕ → Found) → List Mark
coord_headers zero found = []
coord_headers (suc n) found = coord_headers n found ++ header_mark (node.Coord (suc n)) (found (suc n)).records

-- what opening tells
abbrev pub opening_items : List Kind → ℕ → (ℕ → Found) → (ℕ → Found) → List ItemKind
opening_items kinds coords found_member found_coord =
    items_of (member_headers (length kinds) found_member ++ coord_headers coords found_coord) [] answer.Opened
