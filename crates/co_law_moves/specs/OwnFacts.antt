-- What a run keeps over any opened logs, sound or not: facts of a node and of the clients, none of two nodes. The
-- first, sixth and seventh invariants are among them as they stand; the eighth without the word that a vote whose
-- abort waits is presumed aborted; of the ninth what it says of a coordinator's own table and records.
use Rattle.std.specs.Prelude.{ℕ, true, ◌≡◌}
use Rattle.co_state.specs.Table.{holds}
use Rattle.co_plain.specs.Federation.{Federation}
use Rattle.co_plain.specs.Decisions.{is_decided}
use Rattle.co_plain.specs.Promises.{AreDecidedOnce}
use Rattle.co_plain.specs.Invariants.{Side, view, VotedAreConflictFree, ActiveMatchesSession, OnlyAskedVote, LogTellsMemory}
use Rattle.co_plain.specs.CoordInvariants.{TableMatchesLog}

-- Everything that every state of a run keeps, whatever the opened logs tell of one another.
pub record KeptByEach (s : Federation) : Type 0 where
  pub conflict_free : (m : ℕ) (side : Side) → VotedAreConflictFree (view side (s.member m))
  pub active : ActiveMatchesSession s
  pub asked : OnlyAskedVote s
  pub logged : (m : ℕ) → LogTellsMemory s m
  pub tables : (c : ℕ) → TableMatchesLog s c
  pub decided_once : AreDecidedOnce s.decided
  pub decided_begun : (t : ℕ) → is_decided s.decided t ≡ true → holds s.sessions t ≡ true
