-- The plain state of the whole federation, and what one event leaves of it.
use Rattle.std.specs.Prelude.{ℕ, List, [], ◌∷◌, ◌++◌, map, if◌then◌else◌, Option, None, Some}
use Rattle.co_base.specs.declared.head.Kind.{Kind}
use Rattle.co_base.specs.declared.mark.Mark.{Mark}
use Rattle.co_base.specs.declared.mark.MarkKind.{MarkKind}
use Rattle.co_base.specs.declared.mark.MarkKind.TheVariants as kind
use Rattle.co_base.specs.declared.node.Node.{Node}
use Rattle.co_message.specs.declared.answer.Answer.{Answer}
use Rattle.co_message.specs.declared.item.ItemKind.{ItemKind}
use Rattle.co_message.specs.declared.item.ItemKind.TheVariants as item
use Rattle.co_message.specs.declared.message.Message.{Message}
use Rattle.co_record.specs.declared.record.Record.{Record}
use Rattle.co_serial.specs.SerialRun.{with_at}
use Rattle.co_state.specs.Table.{Table, look, put}
use Rattle.co_plain.specs.declared.coord_state.CoordState.{CoordState}
use Rattle.co_plain.specs.declared.member_state.MemberState.{MemberState}
use Rattle.co_plain.specs.declared.session.Decided.{Decided}
use Rattle.co_plain.specs.declared.session.Session.{Session}
use Rattle.co_plain.specs.Numbers.{TxnNumber, MemberNumber, CoordNumber}
use Rattle.co_plain.specs.MemberView.{Numbers}
use Rattle.co_plain.specs.declared.member_step.MemberStep.{MemberStep}
use Rattle.co_plain.specs.declared.coord_step.CoordStep.{CoordStep}
use Rattle.co_base.specs.Nodes.{same_node}
use Rattle.co_plain.specs.Wire.{send_all}

pub record Federation : Type 0 where
  -- the kind of each member, from member 1 on
  pub kinds : List Kind
  -- how many coordinators there are
  pub coordinators : ℕ
  -- every member and coordinator, by its number
  pub member : MemberNumber → MemberState
  pub coord : CoordNumber → CoordState
  -- the transactions begun in this run
  pub sessions : Table Session
  -- the messages sent in this run, newest first
  pub sent : List Message
  -- the transactions decided in this run, newest first
  pub decided : List Decided
  -- the records of each log as it was opened, newest first, and the numbers that stand in them
  pub opened_member : MemberNumber → List Record
  pub opened_coord : CoordNumber → List Record
  pub used : Numbers

-- the state after a step, and the items that it tells, oldest first
pub record Stepped : Type 0 where
  pub state : Federation
  pub items : List ItemKind

-- first what became stable, then what was sent, then the answer
abbrev pub items_of : List Mark → List Message → Answer → List ItemKind
items_of marks messages a = map item.Log marks ++ (map item.Sent messages ++ item.Answered a ∷ [])

-- an answer that changes nothing
abbrev pub answers : Federation → Answer → Stepped
answers s a = record { state = s; items = item.Answered a ∷ [] }

-- A commit record of a transaction that became stable at its deciding node decides it, with what its client
-- had been told by then.
abbrev pub decided_where : Option Session → Node → TxnNumber → List Decided → List Decided
decided_where None at t decided = decided
decided_where (Some session) at t decided =
    if same_node session.by at then record { txn = t; told = session.told } ∷ decided else decided

abbrev pub decided_by_kind : MarkKind → Option Session → Node → TxnNumber → List Decided → List Decided
decided_by_kind kind.Commit session at t decided = decided_where session at t decided
decided_by_kind _ session at t decided = decided

abbrev pub decide_all : Table Session → List Decided → List Mark → List Decided
decide_all sessions decided [] = decided
decide_all sessions decided (mark ∷ marks) =
    decide_all sessions (decided_by_kind mark.kind (look sessions mark.number) mark.node mark.number decided) marks

abbrev pub with_member : Federation → MemberNumber → MemberState → Federation
with_member s m x = record s { member = with_at s.member m x }

abbrev pub with_coord : Federation → CoordNumber → CoordState → Federation
with_coord s c x = record s { coord = with_at s.coord c x }

abbrev pub with_session : Federation → TxnNumber → Session → Federation
with_session s t session = record s { sessions = put s.sessions t session }

-- the messages of a step are sent, and its marks may decide
abbrev pub noted : Federation → List Mark → List Message → Federation
noted s marks messages = record s { sent = send_all s.sent messages; decided = decide_all s.sessions s.decided marks }

abbrev pub message_list : Option Message → List Message
message_list None = []
message_list (Some message) = message ∷ []

-- a step of one member, as a step of the federation
abbrev pub at_member : Federation → MemberNumber → MemberStep → Stepped
at_member s m did =
    record {
      state = noted (with_member s m did.state) did.marks (message_list did.sent);
      items = items_of did.marks (message_list did.sent) did.answer;
    }

-- a step of one coordinator, as a step of the federation
abbrev pub at_coord : Federation → CoordNumber → CoordStep → Stepped
at_coord s c did =
    record {
      state = noted (with_coord s c did.state) did.marks did.sent;
      items = items_of did.marks did.sent did.answer;
    }
