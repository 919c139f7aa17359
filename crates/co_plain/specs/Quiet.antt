-- Open transactions, enabled exchanges, and quiet states: those in which nothing but a timer can help.
use Rattle.std.specs.Prelude.{ℕ, zero, suc, Bool, true, false, not, ◌&&◌, ◌||◌, ◌≡◌, ◌+◌, ◌*◌, List, map, filter, length, Option, None, Some}
use Rattle.std.specs.FinMap.{entries, keys}
use Rattle.co_base.specs.declared.node.Node.{Node}
use Rattle.co_base.specs.declared.node.Node.TheVariants as node
use Rattle.co_state.specs.declared.engine_state.EngineState.{EngineState}
use Rattle.co_state.specs.Table.{look, holds}
use Rattle.co_state.specs.declared.verdict.Verdict.{Verdict}
use Rattle.co_state.specs.declared.verdict.Verdict.TheVariants.{LostOperations, StaleRead, HeldBy, VoteYes}
use Rattle.co_state.specs.VotingRule.{vote_of}
use Rattle.co_plain.specs.Numbers.{TxnNumber, MemberNumber, CoordNumber, IsAmong, has_number}
use Rattle.co_plain.specs.declared.coord_state.Entry.{Entry}
use Rattle.co_plain.specs.declared.coord_state.Entry.TheVariants as entry
use Rattle.co_plain.specs.declared.member_state.AskedMark.{AskedMark}
use Rattle.co_plain.specs.declared.member_state.MemberState.{MemberState}
use Rattle.co_plain.specs.MemberView.{Numbers, numbers_from}
use Rattle.co_plain.specs.declared.standing.Standing.{Standing}
use Rattle.co_plain.specs.declared.standing.Standing.TheVariants.{IsActive, IsVoted, IsInstalled, IsAbsent}
use Rattle.co_plain.specs.MemberStep.{standing_of}
use Rattle.co_plain.specs.CoordStep.{has_part}
use Rattle.co_plain.specs.Decisions.{votes_for}
use Rattle.co_plain.specs.Opening.{with_all, union_to}
use Rattle.co_plain.specs.Federation.{Federation}

abbrev pub IsMember : Federation → MemberNumber → Type 0
IsMember s m = IsAmong m (length s.kinds)

abbrev pub IsCoordinator : Federation → CoordNumber → Type 0
IsCoordinator s c = IsAmong c s.coordinators

abbrev pub node_up : Federation → Node → Bool
node_up s (node.Member m) = (s.member m).up
node_up s (node.Coord c) = (s.coord c).up

abbrev pub IsNode : Federation → Node → Type 0
IsNode s (node.Member m) = IsMember s m
IsNode s (node.Coord c) = IsCoordinator s c

-- open: in a coordinator's table, or active or voted at a member
pub data IsOpen (s : Federation) (t : ℕ) : Type 0 where
  InTable : (c : ℕ) → IsCoordinator s c → holds (s.coord c).table t ≡ true → IsOpen s t
  ActiveAt : (m : ℕ) → IsMember s m → holds (s.member m).engine.active t ≡ true → IsOpen s t
  VotedAt : (m : ℕ) → IsMember s m → holds (s.member m).engine.voted t ≡ true → IsOpen s t

-- a prepare can help: the participant's yes is not recorded, and it may not have been asked
abbrev pub may_be_asked : Standing → Bool → Bool
may_be_asked IsActive asked = not asked
may_be_asked IsVoted asked = true
may_be_asked IsInstalled asked = false
may_be_asked IsAbsent asked = true

abbrev pub lacks_yes : Option Entry → MemberNumber → Bool
lacks_yes None m = false
lacks_yes (Some entry.Idle) m = false
lacks_yes (Some (entry.Collecting parts yeses)) m = has_part parts m && not (has_number yeses m)
lacks_yes (Some (entry.Committed members acks)) m = false

abbrev pub prepare_helps : Federation → TxnNumber → MemberNumber → CoordNumber → Bool
prepare_helps s t m c =
    lacks_yes (look (s.coord c).table t) m && may_be_asked (standing_of (s.member m) t) (holds (s.member m).asked t)

-- a vote can help: the transaction is asked, and nothing is in the way
abbrev pub is_free : Verdict → Bool
is_free LostOperations = true
is_free (StaleRead key) = true
is_free (HeldBy u) = false
is_free VoteYes = true

abbrev pub free_where_asked : EngineState → TxnNumber → Option AskedMark → Bool
free_where_asked b t None = false
free_where_asked b t (Some mark) = is_free (vote_of b t mark.count)

abbrev pub vote_helps : Federation → TxnNumber → MemberNumber → Bool
vote_helps s t m =
    holds (s.member m).engine.active t && free_where_asked (s.member m).engine t (look (s.member m).asked t)

-- the commit can help: a participant has not acknowledged
abbrev pub lacks_ack : Option Entry → MemberNumber → Bool
lacks_ack None m = false
lacks_ack (Some entry.Idle) m = false
lacks_ack (Some (entry.Collecting parts yeses)) m = false
lacks_ack (Some (entry.Committed members acks)) m = has_number members m && not (has_number acks m)

abbrev pub commit_helps : Federation → TxnNumber → MemberNumber → CoordNumber → Bool
commit_helps s t m c = lacks_ack (look (s.coord c).table t) m

-- a question can help: the coordinator's table lacks what is voted here
abbrev pub ask_helps : Federation → TxnNumber → MemberNumber → CoordNumber → Bool
ask_helps s t m c = votes_for (look (s.member m).engine.voted t) c && not (holds (s.coord c).table t)

-- an exchange that can help
pub data Exchange : Type 0 where
  Prepares : TxnNumber → MemberNumber → CoordNumber → Exchange
  Votes : TxnNumber → MemberNumber → Exchange
  Commits : TxnNumber → MemberNumber → CoordNumber → Exchange
  Asks : TxnNumber → MemberNumber → CoordNumber → Exchange

abbrev pub IsEnabled : Federation → Exchange → Type 0
IsEnabled s (Prepares t m c) = IsMember s m × IsCoordinator s c × (prepare_helps s t m c ≡ true)
IsEnabled s (Votes t m) = IsMember s m × (vote_helps s t m ≡ true)
IsEnabled s (Commits t m c) = IsMember s m × IsCoordinator s c × (commit_helps s t m c ≡ true)
IsEnabled s (Asks t m c) = IsMember s m × IsCoordinator s c × (ask_helps s t m c ≡ true)

-- Busy: an exchange can be about it. Voted at a member, or asked for its vote there,
abbrev pub busy_at : MemberState → TxnNumber → Bool
busy_at x t = holds x.engine.voted t || holds x.asked t

-- or in the table of a coordinator, and not idle.
abbrev pub busy_in : Option Entry → Bool
busy_in None = false
busy_in (Some entry.Idle) = false
busy_in (Some (entry.Collecting parts yeses)) = true
busy_in (Some (entry.Committed members acks)) = true

pub data IsBusy (s : Federation) (t : ℕ) : Type 0 where
  BusyAt : (m : ℕ) → IsMember s m → busy_at (s.member m) t ≡ true → IsBusy s t
  BusyIn : (c : ℕ) → IsCoordinator s c → busy_in (look (s.coord c).table t) ≡ true → IsBusy s t

-- every node is up, and no exchange is enabled
pub record IsQuiet (s : Federation) : Type 0 where
  pub all_up : (at : Node) → IsNode s at → node_up s at ≡ true
  pub nothing_helps : (e : Exchange) → ¬ (IsEnabled s e)

-- the transactions that are open at all, and those that are open between the federation and one member
abbrev pub table_numbers : {X : Type 0} → List (ℕ × X) → Numbers
table_numbers es = numbers_from (map (λ e. e.0) es)

abbrev pub takes_part : MemberNumber → Entry → Bool
takes_part m entry.Idle = false
takes_part m (entry.Collecting parts yeses) = has_part parts m
takes_part m (entry.Committed members acks) = has_number members m

abbrev pub open_here : MemberState → Numbers
open_here x = with_all (table_numbers (entries x.engine.active)) (table_numbers (entries x.engine.voted))

abbrev pub open_numbers : Federation → Numbers
open_numbers s =
    with_all
    (union_to (length s.kinds) (λ m. open_here (s.member m)))
    (union_to s.coordinators (λ c. table_numbers (entries (s.coord c).table)))

abbrev pub open_between : Federation → MemberNumber → Numbers
open_between s m =
    with_all
    (open_here (s.member m))
    (union_to s.coordinators (λ c. table_numbers (filter (λ e. takes_part m e.1) (entries (s.coord c).table))))

abbrev pub sum_to : ℕ → (ℕ → ℕ) → ℕ
sum_to zero counts = 0
sum_to (suc n) counts = sum_to n counts + counts (suc n)

abbrev pub open_count : Federation → ℕ
open_count s = length (keys (open_numbers s))

abbrev pub open_pairs : Federation → ℕ
open_pairs s = sum_to (length s.kinds) (λ m. length (keys (open_between s m)))

-- the most steps that settling takes
abbrev pub settling_bound : Federation → ℕ
settling_bound s = 24 + 3 * (4 * open_pairs s + 3 * open_count s)
