-- Each move keeps all facts where its votes do not ask for active readers.
use Rattle.std.proofs.Common.{ℕ, ◌≡◌, List, [], ◌∷◌}
use Rattle.co_base.specs.declared.head.Kind.{Kind}
use Rattle.co_state.specs.declared.verdict.Verdict.TheVariants.{VoteYes}
use Rattle.co_plain.specs.AllInvariants.{AllInvariants}
use Rattle.co_plain.specs.Decisions.{told_of}
use Rattle.co_plain.specs.Federation.{Federation}
use Rattle.co_plain.specs.Invariants.{ReadsAreSerial}
use Rattle.co_plain.specs.Moves.{Move, Operate, MarkAsked, Cast, DropActive, DropVoted, Install, CommitLocally, CrashMember, RestartMember, ArmMember, CloseMemberSpare, FillMemberSpare, Begin, Collect, RecordYes, Decide, Leave, RecordAck, End, CrashCoord, RestartCoord, ArmCoord, CloseCoordSpare, FillCoordSpare, BeginLocal, AskEnd, Send, Guard, effect, all_effects}
use Rattle.co_plain.specs.Opening.{Found, opened}
use Rattle.co_plain.specs.Premises.{AreOpenable}
use Rattle.co_plain.specs.Sessions.{count_at}
use Rattle.co_law_base.proofs.VoteMoves.{keeps_cast, MayCast}
use Rattle.co_law_base.proofs.Locally.{keeps_local, MayCommitLocally}
use Rattle.co_law_moves.proofs.OwnMembers.{own_yes}
use Rattle.co_law_moves.proofs.OwnDecisions.{own_local}
use Rattle.co_law_runs.proofs.Working as working
use Rattle.co_law.proofs.AllBack.{all_back}
use Rattle.co_law.proofs.AllFacts.{AllFacts, all_move, all_start, opened_stay}
use Rattle.co_law.proofs.AllFrom.{all_from}
use Rattle.co_law.proofs.MovesGrow.{effect_grows}
use Rattle.co_law.proofs.CommitRecords.{cast_records, local_records}
use Rattle.co_law_minimal.specs.Rule.{ActiveReader}
use Rattle.co_law_minimal.proofs.LeftOut as left_out
use Rattle.co_law_courtesy.specs.Without.{GuardWithout, GuardsHoldWithout}
use Rattle.co_law_courtesy.proofs.Granting.{grants}

cast_keeps : (s : Federation) → AllFacts s → (t m c n : ℕ) → MayCast s t m c n → AllFacts (effect s (Cast t m c n))
cast_keeps s a t m c n g =
    record {
      facts = keeps_cast s a.facts t m c n g;
      own = own_yes s a.own m t c n g;
      records = cast_records s a.facts a.records t m c n;
      working = working.cast s a.facts t m c n g a.working;
      opened = opened_stay s (effect s (Cast t m c n)) (effect_grows s (Cast t m c n)) a.opened;
    }

local_keeps : (s : Federation) → AllFacts s → (t m : ℕ) → MayCommitLocally s t m → AllFacts (effect s (CommitLocally t m))
local_keeps s a t m g =
    record {
      facts = keeps_local s a.facts t m g;
      own = own_local s a.own t m g;
      records = local_records s a.facts a.records t m;
      working = working.local s a.facts t m g a.working;
      opened = opened_stay s (effect s (CommitLocally t m)) (effect_grows s (CommitLocally t m)) a.opened;
    }

move_keeps_all : (s : Federation) → AllFacts s → (move : Move) → GuardWithout ActiveReader s move → AllFacts (effect s move)
move_keeps_all s a (Cast t m c n) g = cast_keeps s a t m c n (g.0, grants (s.member m).engine t n g.1)
move_keeps_all s a (CommitLocally t m) g = local_keeps s a t m (g.0, g.1, g.2, grants (s.member m).engine t (count_at (told_of s t) m) g.3)
move_keeps_all s a (Operate t m o) g = all_move s a (Operate t m o) g
move_keeps_all s a (MarkAsked t m c n) g = all_move s a (MarkAsked t m c n) g
move_keeps_all s a (DropActive t m) g = all_move s a (DropActive t m) g
move_keeps_all s a (DropVoted t m) g = all_move s a (DropVoted t m) g
move_keeps_all s a (Install t m) g = all_move s a (Install t m) g
move_keeps_all s a (CrashMember m) g = all_move s a (CrashMember m) g
move_keeps_all s a (RestartMember m) g = all_move s a (RestartMember m) g
move_keeps_all s a (ArmMember m stop) g = all_move s a (ArmMember m stop) g
move_keeps_all s a (CloseMemberSpare m closed) g = all_move s a (CloseMemberSpare m closed) g
move_keeps_all s a (FillMemberSpare m) g = all_move s a (FillMemberSpare m) g
move_keeps_all s a (Begin t c) g = all_move s a (Begin t c) g
move_keeps_all s a (Collect t c) g = all_move s a (Collect t c) g
move_keeps_all s a (RecordYes t c m) g = all_move s a (RecordYes t c m) g
move_keeps_all s a (Decide t c) g = all_move s a (Decide t c) g
move_keeps_all s a (Leave t c) g = all_move s a (Leave t c) g
move_keeps_all s a (RecordAck t c m) g = all_move s a (RecordAck t c m) g
move_keeps_all s a (End t c) g = all_move s a (End t c) g
move_keeps_all s a (CrashCoord c) g = all_move s a (CrashCoord c) g
move_keeps_all s a (RestartCoord c) g = all_move s a (RestartCoord c) g
move_keeps_all s a (ArmCoord c stop) g = all_move s a (ArmCoord c stop) g
move_keeps_all s a (CloseCoordSpare c closed) g = all_move s a (CloseCoordSpare c closed) g
move_keeps_all s a (FillCoordSpare c) g = all_move s a (FillCoordSpare c) g
move_keeps_all s a (BeginLocal t m) g = all_move s a (BeginLocal t m) g
move_keeps_all s a (AskEnd t) g = all_move s a (AskEnd t) g
move_keeps_all s a (Send note) g = all_move s a (Send note) g

moves_keep_all : (moves : List Move) (s : Federation) → AllFacts s → GuardsHoldWithout ActiveReader moves s → AllFacts (all_effects moves s)
moves_keep_all [] s a g = a
moves_keep_all (move ∷ moves) s a g = moves_keep_all moves (effect s move) (move_keeps_all s a move g.0) g.1

pub kept : (moves : List Move) (s : Federation) → AllInvariants s → GuardsHoldWithout ActiveReader moves s → AllInvariants (all_effects moves s)
kept moves s i g = all_from (all_effects moves s) (moves_keep_all moves s (all_back s i) g)

pub serial : (kinds : List Kind) (coords : ℕ) (fm fc : ℕ → Found) (moves : List Move) → AreOpenable kinds coords fm fc →
    GuardsHoldWithout ActiveReader moves (opened kinds coords fm fc) → ReadsAreSerial (all_effects moves (opened kinds coords fm fc))
serial kinds coords fm fc moves o g =
    (all_from (all_effects moves (opened kinds coords fm fc)) (moves_keep_all moves (opened kinds coords fm fc) (all_start kinds coords fm fc o) g)).reads

-- a move that may be made may be made so
pub weaker : (move : Move) (s : Federation) → Guard s move → GuardWithout ActiveReader s move
weaker (Cast t m c n) s g = (g.0, left_out.weaker (s.member m).engine t n ActiveReader g.1)
weaker (CommitLocally t m) s g = (g.0, g.1, g.2, left_out.weaker (s.member m).engine t (count_at (told_of s t) m) ActiveReader g.3)
weaker (Operate t m o) s g = g
weaker (MarkAsked t m c n) s g = g
weaker (DropActive t m) s g = g
weaker (DropVoted t m) s g = g
weaker (Install t m) s g = g
weaker (CrashMember m) s g = g
weaker (RestartMember m) s g = g
weaker (ArmMember m stop) s g = g
weaker (CloseMemberSpare m closed) s g = g
weaker (FillMemberSpare m) s g = g
weaker (Begin t c) s g = g
weaker (Collect t c) s g = g
weaker (RecordYes t c m) s g = g
weaker (Decide t c) s g = g
weaker (Leave t c) s g = g
weaker (RecordAck t c m) s g = g
weaker (End t c) s g = g
weaker (CrashCoord c) s g = g
weaker (RestartCoord c) s g = g
weaker (ArmCoord c stop) s g = g
weaker (CloseCoordSpare c closed) s g = g
weaker (FillCoordSpare c) s g = g
weaker (BeginLocal t m) s g = g
weaker (AskEnd t) s g = g
weaker (Send note) s g = g
