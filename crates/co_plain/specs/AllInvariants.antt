-- All invariants, in one list: what every state of a run over sound logs has, and what each event keeps, from any state that has it.
use Rattle.std.specs.Prelude.{ℕ, true, ◌≡◌}
use Rattle.co_state.specs.Table.{holds}
use Rattle.co_plain.specs.MemberView.{recovered_view}
use Rattle.co_plain.specs.Federation.{Federation}
use Rattle.co_plain.specs.Decisions.{is_decided}
use Rattle.co_plain.specs.SoundLogs.{AreSound}
use Rattle.co_plain.specs.Promises.{AreDecidedOnce}
use Rattle.co_plain.specs.Invariants.{Side, view, stands, VotedAreConflictFree, VotedReplay, told_here, is_begun, SaidIsDurable, InstalledIsSerial, ReadsAreSerial, DecisionsAreTrue, ActiveMatchesSession, OnlyAskedVote, LogMatchesMemory, FilesAreSound, SessionsAreKept, StandersWereTold}
use Rattle.co_plain.specs.CoordInvariants.{TableMatchesLog, ViewMatchesCoordinators, CommitsMatchMembers, MessagesAreNamed, AskedAreHeld}

pub record AllInvariants (s : Federation) : Type 0 where
  -- 1. voted transactions of a member do not conflict
  pub conflict_free : (m : ℕ) (side : Side) → VotedAreConflictFree (view side (s.member m))
  -- 2. they replay on what is installed
  pub replays : (m : ℕ) (side : Side) → VotedReplay (view side (s.member m)) (told_here s m) (is_begun s)
  -- 3. what a member said is durable
  pub said_durable : SaidIsDurable s
  -- 4. what is installed is serial, and so is what committed transactions read
  pub serial : (m : ℕ) (side : Side) → InstalledIsSerial s m (view side (s.member m))
  pub reads : ReadsAreSerial s
  -- 5. decision messages are true
  pub true_decisions : DecisionsAreTrue s
  -- 6. active transactions match their clients' sessions
  pub active : ActiveMatchesSession s
  -- 7. only who was asked to end is past its last operation
  pub asked : OnlyAskedVote s
  -- 8. log and memory agree
  pub logged : (m : ℕ) → LogMatchesMemory s m
  -- 9. coordinators and members agree: each coordinator by itself, each member with the coordinators, commit records, messages
  pub tables : (c : ℕ) → TableMatchesLog s c
  pub views : (m : ℕ) (side : Side) → ViewMatchesCoordinators s m (view side (s.member m))
  pub commits : CommitsMatchMembers s
  pub named : MessagesAreNamed s
  pub held : AskedAreHeld s
  -- 10. the files are sound
  pub sound : FilesAreSound s
  -- decisions and sessions: each transaction is decided once, after it was begun
  pub decided_once : AreDecidedOnce s.decided
  pub decided_begun : (t : ℕ) → is_decided s.decided t ≡ true → holds s.sessions t ≡ true
  pub sessions : SessionsAreKept s
  pub standers_told : StandersWereTold s
  -- the opened logs were sound, and who stands in them is used
  pub opened_sound : AreSound s.opened_member s.opened_coord
  pub opened_used : (m t : ℕ) → stands (recovered_view (s.opened_member m)) t ≡ true → holds s.used t ≡ true
