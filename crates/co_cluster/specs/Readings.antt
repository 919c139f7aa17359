-- What a federation tells of the plain one that it stands for.
use Rattle.std.specs.Prelude.{ℕ, zero, suc, Bool, true, false, ◌≡◌, ◌<◌, ◌≤◌, ◌⊎◌, ◌==◌, length, Option, None, Some}
use Rattle.co_base.specs.declared.head.Kind.{Kind}
use Rattle.co_base.specs.declared.node.Node.{Node}
use Rattle.co_base.specs.declared.node.Node.TheVariants as node
use Rattle.co_state.specs.declared.engine_state.EngineState.{EngineState}
use Rattle.co_state.specs.Table.{least_where, lesser}
use Rattle.co_plain.specs.Federation.{Federation}
use Rattle.co_plain.specs.Quiet.{IsNode, IsMember, IsCoordinator, node_up, IsEnabled, prepare_helps, vote_helps, commit_helps, ask_helps, Prepares, Votes, Commits, Asks}
use Rattle.co_plain.specs.Quiet as plain
use Rattle.co_plain.specs.Settling.{exchange_txn, exchange_rank, exchange_member, timer_ends}
use Rattle.co_coord.specs.Reading.{is_above}
use Rattle.co_member.specs.Reading.{open_after}
use Rattle.co_cluster.specs.Conditions.{IsReady}
use Rattle.co_cluster.specs.Standing.{RepresentsCluster}
use Rattle.co_cluster.specs.declared.exchanges.Exchange.{Exchange}
use Rattle.co_cluster.specs.declared.exchanges.ExchangeKind.{ExchangeKind}
use Rattle.co_cluster.specs.declared.exchanges.ExchangeKind.TheVariants as kind
use Rattle.co_cluster.specs.declared.cluster.Cluster.{Cluster}

-- every node is up
abbrev pub AllUp : Federation → Type 0
AllUp s = (at : Node) → IsNode s at → node_up s at ≡ true

-- it stands for a plain federation in which an event can be done, and no node is down
abbrev pub StandsUp : {E : Type 0} → (Kind → Type 0) → (E → EngineState → Type 0) → Cluster E → Type 0
StandsUp takes stands_for w = (s : Federation) × RepresentsCluster takes stands_for w s × IsReady s × AllUp s

-- an exchange of the definitions; a vote names no coordinator
abbrev pub exchange_as : ExchangeKind → ℕ → ℕ → ℕ → plain.Exchange
exchange_as kind.Prepare t m c = Prepares t m c
exchange_as kind.Vote t m c = Votes t m
exchange_as kind.Commit t m c = Commits t m c
exchange_as kind.Ask t m c = Asks t m c

abbrev pub exchange_of : Exchange → plain.Exchange
exchange_of e = exchange_as e.kind e.txn e.member e.coord

-- whether it can help
abbrev pub helps : Federation → ExchangeKind → ℕ → ℕ → ℕ → Bool
helps s kind.Prepare t m c = prepare_helps s t m c
helps s kind.Vote t m c = vote_helps s t m
helps s kind.Commit t m c = commit_helps s t m c
helps s kind.Ask t m c = ask_helps s t m c

-- of the exchanges of a transaction the first that can help: by its kind, and then by its member
pub record IsFirstOf (s : Federation) (t : ℕ) (e : plain.Exchange) : Type 0 where
  pub about : exchange_txn e ≡ t
  pub enabled : IsEnabled s e
  pub others : (other : plain.Exchange) → exchange_txn other ≡ t → (exchange_rank other < exchange_rank e) ⊎ ((exchange_rank other ≡ exchange_rank e) × (exchange_member other < exchange_member e)) → IsEnabled s other → ⊥

-- the node at which a timer ends the transaction: a coordinator where it is idle, else the least member where it is active
pub record IsFirstAt (s : Federation) (t : ℕ) (at : Node) : Type 0 where
  pub is_node : IsNode s at
  pub ends : timer_ends s t at ≡ true
  pub idle_first : (m : ℕ) → at ≡ node.Member m → (c : ℕ) → IsCoordinator s c → timer_ends s t (node.Coord c) ≡ false
  pub least_member : (m n : ℕ) → at ≡ node.Member m → IsMember s n → timer_ends s t (node.Member n) ≡ true → m ≤ n

-- the least of what the nodes of these numbers name
abbrev pub least_to : ℕ → (ℕ → Option ℕ) → Option ℕ
least_to zero f = None
least_to (suc n) f = lesser (least_to n f) (f (suc n))

-- the least open transaction above a number, or the least of all
abbrev pub open_above : Federation → Option ℕ → Option ℕ
open_above s after =
    lesser
    (least_to (length s.kinds) (λ m. open_after (s.member m).engine after))
    (least_to s.coordinators (λ c. least_where (λ t e. is_above after t) (s.coord c).table))

-- whether it is this number
abbrev pub names : Option ℕ → ℕ → Bool
names None m = false
names (Some k) m = k == m
