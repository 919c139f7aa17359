-- The order of settling: first restarts, then what helps the least transaction, and a timer only where
-- nothing helps.
use Rattle.std.specs.Prelude.{ℕ, Bool, true, false, ◌≡◌, ◌≤◌, ◌<◌, ◌⊎◌, Option, None, Some}
use Rattle.co_base.specs.declared.node.Node.{Node}
use Rattle.co_base.specs.declared.node.Node.TheVariants as node
use Rattle.co_state.specs.Table.{look, holds}
use Rattle.co_plain.specs.declared.coord_state.Entry.{Entry}
use Rattle.co_plain.specs.declared.coord_state.Entry.TheVariants as entry
use Rattle.co_plain.specs.Numbers.{TxnNumber, MemberNumber}
use Rattle.co_plain.specs.Federation.{Federation}
use Rattle.co_plain.specs.Quiet.{Exchange, Prepares, Votes, Commits, Asks, IsEnabled, IsQuiet, IsMember, IsCoordinator, IsNode, node_up}

-- members stand before coordinators, each by its number
abbrev pub NodeBefore : Node → Node → Type 0
NodeBefore (node.Member m) (node.Member n) = m < n
NodeBefore (node.Member m) (node.Coord c) = Unit {0}
NodeBefore (node.Coord c) (node.Member m) = ⊥
NodeBefore (node.Coord c) (node.Coord d) = c < d

-- the first node that is down
pub record IsFirstDown (s : Federation) (at : Node) : Type 0 where
  pub is_node : IsNode s at
  pub down : node_up s at ≡ false
  pub others : (other : Node) → IsNode s other → NodeBefore other at → node_up s other ≡ true

-- what an exchange is about, its rank among the kinds, and its member
abbrev pub exchange_txn : Exchange → TxnNumber
exchange_txn (Prepares t m c) = t
exchange_txn (Votes t m) = t
exchange_txn (Commits t m c) = t
exchange_txn (Asks t m c) = t

abbrev pub exchange_rank : Exchange → ℕ
exchange_rank (Prepares t m c) = 0
exchange_rank (Votes t m) = 1
exchange_rank (Commits t m c) = 2
exchange_rank (Asks t m c) = 3

abbrev pub exchange_member : Exchange → MemberNumber
exchange_member (Prepares t m c) = m
exchange_member (Votes t m) = m
exchange_member (Commits t m c) = m
exchange_member (Asks t m c) = m

-- by transaction, then by kind (prepare, vote, commit, ask), then by member
abbrev pub ExchangeBefore : Exchange → Exchange → Type 0
ExchangeBefore a b =
    (exchange_txn a < exchange_txn b)
    ⊎ (exchange_txn a ≡ exchange_txn b) × ((exchange_rank a < exchange_rank b)
    ⊎ (exchange_rank a ≡ exchange_rank b) × (exchange_member a < exchange_member b))

-- the first exchange that can help
pub record IsFirstExchange (s : Federation) (e : Exchange) : Type 0 where
  pub enabled : IsEnabled s e
  pub others : (other : Exchange) → ExchangeBefore other e → ¬ (IsEnabled s other)

-- a timer ends a transaction that is idle at its coordinator or active at a member
abbrev pub is_idle : Option Entry → Bool
is_idle None = false
is_idle (Some entry.Idle) = true
is_idle (Some (entry.Collecting parts yeses)) = false
is_idle (Some (entry.Committed members acks)) = false

abbrev pub timer_ends : Federation → TxnNumber → Node → Bool
timer_ends s t (node.Coord c) = is_idle (look (s.coord c).table t)
timer_ends s t (node.Member m) = holds (s.member m).engine.active t

-- the least transaction that a timer ends: at its coordinator where it is idle, else at the least member
-- where it is active
pub record IsFirstTimer (s : Federation) (t : ℕ) (at : Node) : Type 0 where
  pub is_node : IsNode s at
  pub ends : timer_ends s t at ≡ true
  pub least : (u : ℕ) (other : Node) → IsNode s other → timer_ends s u other ≡ true → t ≤ u
  pub idle_first : (m : ℕ) → at ≡ node.Member m → (c : ℕ) → IsCoordinator s c → timer_ends s t (node.Coord c) ≡ false
  pub least_member : (m n : ℕ) → at ≡ node.Member m → IsMember s n → timer_ends s t (node.Member n) ≡ true → m ≤ n

-- what settling does next
pub data SettlesBy (s : Federation) : Type 0 where
  ByRestart : (at : Node) → IsFirstDown s at → SettlesBy s
  ByExchange : (e : Exchange) → ((at : Node) → IsNode s at → node_up s at ≡ true) → IsFirstExchange s e → SettlesBy s
  ByTimer : (t : ℕ) (at : Node) → IsQuiet s → IsFirstTimer s t at → SettlesBy s
