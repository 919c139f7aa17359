-- What a transcript tells of its transactions: which node decides each, what was answered to it before its decision, and the decisions
-- in their order.
use Rattle.std.specs.Prelude.{ℕ, Bool, true, false, List, [], ◌∷◌, Option, None, Some}
use Rattle.co_base.specs.declared.mark.Mark.{Mark}
use Rattle.co_base.specs.declared.mark.MarkKind.{MarkKind}
use Rattle.co_base.specs.declared.mark.MarkKind.TheVariants as kind
use Rattle.co_base.specs.declared.node.Node.{Node}
use Rattle.co_base.specs.declared.node.Node.TheVariants as node
use Rattle.co_base.specs.declared.op.Op.{Op}
use Rattle.co_base.specs.declared.op.Op.TheVariants as op
use Rattle.co_base.specs.declared.reply.Reply.{Reply}
use Rattle.co_message.specs.declared.answer.Answer.{Answer}
use Rattle.co_message.specs.declared.answer.Answer.TheVariants as answer
use Rattle.co_message.specs.declared.event.Event.{Event}
use Rattle.co_message.specs.declared.event.Event.TheVariants as event
use Rattle.co_state.specs.Table.{Table, no_entries, look, put}
use Rattle.co_base.specs.Nodes.{same_node}
use Rattle.co_check.specs.declared.client.Answered.{Answered}
use Rattle.co_check.specs.declared.client.Client.{Client}
pub use Rattle.co_check.specs.declared.client.Committed.{Committed}

pub record Account : Type 0 where
  pub clients : Table Client
  -- newest first
  pub committed : List Committed

abbrev pub no_account : Account
no_account = record { clients = no_entries; committed = [] }

abbrev pub unknown : Client
unknown = record { by = None; told = []; decided = false }

abbrev pub client_in : Option Client → Client
client_in None = unknown
client_in (Some client) = client

abbrev pub client_of : Account → ℕ → Client
client_of a t = client_in (look a.clients t)

abbrev pub with_client : Account → ℕ → Client → Account
with_client a t client = record a { clients = put a.clients t client }

-- ---- begins

-- a transaction is begun once
abbrev pub begun_by : Account → ℕ → Node → Client → Option Node → Option Account
begun_by a t by client None = Some (with_client a t (record client { by = Some by }))
begun_by a t by client (Some other) = None

abbrev pub begun : Account → ℕ → Node → Option Account
begun a t by = begun_by a t by (client_of a t) (client_of a t).by

-- ---- operations

-- an operation counts where its transaction is not decided
abbrev pub told_to : Account → ℕ → Answered → Client → Bool → Account
told_to a t o client true = a
told_to a t o client false = with_client a t (record client { told = o ∷ client.told })

abbrev pub told : Account → ℕ → Answered → Account
told a t o = told_to a t o (client_of a t) (client_of a t).decided

-- ---- what a reply to an event tells

abbrev pub operated : Account → ℕ → ℕ → ℕ → Op → Reply → Option Account
operated a number t m o reply = Some (told a t (record { number = number; site = record { member = m; op = o }; reply = reply }))

-- `begun` begins the transaction of a begin
abbrev pub begins : Account → Event → Option Account
begins a (event.Begin t c) = begun a t (node.Coord c)
begins a (event.Local t m) = begun a t (node.Member m)
begins a _ = Some a

-- a reply is that to an operation
abbrev pub operates : Account → ℕ → Event → Reply → Option Account
operates a number (event.Read t m key) reply = operated a number t m (op.Read key) reply
operates a number (event.Write t m key value) reply = operated a number t m (op.Write key value) reply
operates a number (event.Erase t m key) reply = operated a number t m (op.Erase key) reply
operates a number (event.Scan t m span) reply = operated a number t m (op.Scan span) reply
operates a number _ reply = Some a

abbrev pub replied : Account → ℕ → Event → Answer → Option Account
replied a number e answer.Begun = begins a e
replied a number e (answer.Replied reply) = operates a number e reply
replied a number e _ = Some a

-- ---- decisions

-- a commit record of a transaction at the node that decides it; it is decided once
abbrev pub committed_at : Account → ℕ → Client → Bool → Option Account
committed_at a t client true = None
committed_at a t client false =
    Some (record {
      clients = put a.clients t (record { by = client.by; told = []; decided = true });
      committed = record { txn = t; told = client.told } ∷ a.committed;
    })

-- whether this node decides it
abbrev pub is_by : Option Node → Node → Bool
is_by None at = false
is_by (Some by) at = same_node by at

abbrev pub commits_at : Account → ℕ → Client → Bool → Option Account
commits_at a t client false = Some a
commits_at a t client true = committed_at a t client client.decided

abbrev pub marked_by : MarkKind → Account → Node → ℕ → Option Account
marked_by kind.Commit a at t = commits_at a t (client_of a t) (is_by (client_of a t).by at)
marked_by _ a at t = Some a

abbrev pub marked : Account → Mark → Option Account
marked a mark = marked_by mark.kind a mark.node mark.number
