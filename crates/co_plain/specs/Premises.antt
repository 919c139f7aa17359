-- What the promises ask of the outside: logs that may be opened, verdicts that are true where they are handed, and begins and
-- operations that name nodes of the federation.
use Rattle.std.specs.Prelude.{ℕ, true, false, ◌≡◌, ◌≤◌, List, [], ◌∷◌, length, reverse, None}
use Rattle.co_base.specs.declared.head.Kind.{Kind}
use Rattle.co_base.specs.declared.node.Node.{Node}
use Rattle.co_base.specs.declared.node.Node.TheVariants as node
use Rattle.co_base.specs.Limits.{most_operations}
use Rattle.co_message.specs.declared.event.Event.{Event}
use Rattle.co_message.specs.declared.event.Event.TheVariants as event
use Rattle.co_state.specs.Table.{look, holds}
use Rattle.co_plain.specs.declared.happening.Happening.{Happening}
use Rattle.co_plain.specs.declared.happening.Happening.TheVariants as happening
use Rattle.co_plain.specs.declared.session.Session.{Session}
use Rattle.co_plain.specs.Numbers.{IsAmong}
use Rattle.co_plain.specs.MemberView.{recovered_view, first_refused_at_member}
use Rattle.co_plain.specs.Sessions.{count_at}
use Rattle.co_plain.specs.CoordView.{has_commit_of, first_refused_at_coord}
use Rattle.co_plain.specs.Federation.{Federation}
use Rattle.co_plain.specs.Step.{step}
use Rattle.co_plain.specs.Opening.{Found, OnlyOwnLogs, used_numbers}
use Rattle.co_plain.specs.Decisions.{votes_for, IsSettled, IsPresumedAborted}
use Rattle.co_plain.specs.SoundLogs.{AreSound}
use Rattle.co_plain.specs.Invariants.{stands, VotedAreConflictFree}

-- Logs that may be opened: sound, with votes in each that neither conflict nor are committed, and with every number that
-- stands in some log among the used ones.
pub record AreOpenable (kinds : List Kind) (coords : ℕ) (found_member found_coord : ℕ → Found) : Type 0 where
  pub sound : AreSound (λ m. (found_member m).records) (λ c. (found_coord c).records)
  pub free : (m : ℕ) → VotedAreConflictFree (recovered_view (found_member m).records)
  pub apart : (m t : ℕ) → holds (recovered_view (found_member m).records).committed t ≡ true → holds (recovered_view (found_member m).records).voted t ≡ false
  pub members_used : (m t : ℕ) → stands (recovered_view (found_member m).records) t ≡ true → holds (used_numbers (length kinds) coords found_member found_coord) t ≡ true
  pub coords_used : (c t : ℕ) → has_commit_of (found_coord c).records t ≡ true → holds (used_numbers (length kinds) coords found_member found_coord) t ≡ true

-- A verdict that another member handed over is true (cooperative termination): a commit is handed of a settled transaction,
-- and an abort of one that is presumed aborted.
abbrev pub IsTrueVerdict : Federation → Happening → Type 0
IsTrueVerdict s (happening.Line e) = Unit {0}
IsTrueVerdict s (happening.Hand t m true) = IsSettled s t
IsTrueVerdict s (happening.Hand t m false) = IsPresumedAborted s t
IsTrueVerdict s happening.Disarm = Unit {0}

-- each where it is handed
abbrev pub AreTrueVerdicts : List Happening → Federation → Type 0
AreTrueVerdicts [] s = Unit {0}
AreTrueVerdicts (h ∷ hs) s = IsTrueVerdict s h × AreTrueVerdicts hs (step s h).state

-- Begins and operations name nodes of the federation; what else happens may name any.
abbrev pub NamesOwnNode : ℕ → ℕ → Event → Type 0
NamesOwnNode members coords (event.Begin t c) = IsAmong c coords
NamesOwnNode members coords (event.Local t m) = IsAmong m members
NamesOwnNode members coords (event.Read t m key) = IsAmong m members
NamesOwnNode members coords (event.Write t m key value) = IsAmong m members
NamesOwnNode members coords (event.Erase t m key) = IsAmong m members
NamesOwnNode members coords (event.Scan t m span) = IsAmong m members
NamesOwnNode members coords _ = Unit {0}

abbrev pub IsOwn : ℕ → ℕ → Happening → Type 0
IsOwn members coords (happening.Line e) = NamesOwnNode members coords e
IsOwn members coords _ = Unit {0}

abbrev pub AreOwn : ℕ → ℕ → List Happening → Type 0
AreOwn members coords [] = Unit {0}
AreOwn members coords (h ∷ hs) = IsOwn members coords h × AreOwn members coords hs

-- a node of a federation with so many members and coordinators
abbrev pub IsOwnNode : ℕ → ℕ → Node → Type 0
IsOwnNode members coords (node.Member m) = IsAmong m members
IsOwnNode members coords (node.Coord c) = IsAmong c coords

-- the opened logs are those of the federation's own nodes, and their votes name its coordinators
pub record AreOwnLogs (kinds : List Kind) (coords : ℕ) (found_member found_coord : ℕ → Found) : Type 0 where
  pub own : OnlyOwnLogs kinds coords found_member found_coord
  pub votes : (m t c : ℕ) → votes_for (look (recovered_view (found_member m).records).voted t) c ≡ true → IsAmong c coords

-- Logs of which every premise of the laws holds: they may be opened, they are those of the federation's own nodes, with votes
-- that name its coordinators, and the grammars allow them.
pub record MayBeOpened (kinds : List Kind) (coords : ℕ) (found_member found_coord : ℕ → Found) : Type 0 where
  pub openable : AreOpenable kinds coords found_member found_coord
  pub own : AreOwnLogs kinds coords found_member found_coord
  pub members_allowed : (m : ℕ) → first_refused_at_member coords (reverse (found_member m).records) ≡ None
  pub coords_allowed : (c : ℕ) → first_refused_at_coord (length kinds) (reverse (found_coord c).records) ≡ None

-- What begins and operations of own nodes leave of a session: it was begun at one, its client was told of operations at own
-- members alone, and of a bounded number at each.
pub record IsOwnSession (members coords : ℕ) (session : Session) : Type 0 where
  pub home : IsOwnNode members coords session.by
  pub sites : (m : ℕ) → 1 ≤ count_at session.told m → IsAmong m members
  pub few : (m : ℕ) → count_at session.told m ≤ most_operations
