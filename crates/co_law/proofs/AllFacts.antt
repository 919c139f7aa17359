-- What the invariants are proved by: the facts of all nodes, those of each node by itself, commit records and the opened logs; and
-- that each move and each event keeps them.
use Rattle.std.proofs.Common.{ℕ, true, false, List, [], ◌∷◌, sym, subst}
use Rattle.co_base.specs.declared.head.Kind.{Kind}
use Rattle.co_message.specs.declared.message.Message.{Message}
use Rattle.co_message.specs.declared.message.Message.TheVariants as message
use Rattle.co_plain.specs.declared.happening.Happening.{Happening}
use Rattle.co_plain.specs.Federation.{Federation}
use Rattle.co_plain.specs.Moves.{Move, Operate, MarkAsked, Cast, DropActive, DropVoted, Install, CommitLocally, CrashMember, RestartMember, ArmMember, CloseMemberSpare, FillMemberSpare, Begin, Collect, RecordYes, Decide, Leave, RecordAck, End, CrashCoord, RestartCoord, ArmCoord, CloseCoordSpare, FillCoordSpare, BeginLocal, AskEnd, Send, Guard, GuardsHold, effect, all_effects, may_send}
use Rattle.co_plain.specs.Opening.{Found, opened}
use Rattle.co_plain.specs.Premises.{AreOpenable, AreTrueVerdicts, IsTrueVerdict}
use Rattle.co_plain.specs.Runs.{run}
use Rattle.co_plain.specs.SoundLogs.{AreSound}
use Rattle.co_plain.specs.Step.{step}
use Rattle.co_law_base.proofs.Facts.{Facts}
use Rattle.co_law_moves.specs.OwnGuards.{AnyLogs, GuardOver, may_say}
use Rattle.co_law_moves.proofs.Growing.{Grows, step_grows}
use Rattle.co_law_moves.proofs.MoveByMove.{move_keeps}
use Rattle.co_law_moves.proofs.Own.{OwnFacts}
use Rattle.co_law_moves.proofs.OwnMoves.{own_move}
use Rattle.co_law_moves.proofs.OwnRuns.{own_step}
use Rattle.co_law_moves.proofs.Start.{start_facts}
use Rattle.co_law_moves.proofs.Steps.{step_keeps}
use Rattle.co_law_runs.proofs.Agreement.{opened_works}
use Rattle.co_law_runs.proofs.Hopeless.{step_works}
use Rattle.co_law_runs.proofs.Working.{Working, move_works}
use Rattle.co_law.proofs.CommitRecords.{CommitRecords, start_records, move_records, step_records}
use Rattle.co_law.proofs.MovesGrow.{effect_grows}
use Rattle.co_law.proofs.OwnStart.{own_start}

pub record AllFacts (s : Federation) : Type 0 where
  pub facts : Facts s
  pub own : OwnFacts s
  pub records : CommitRecords s
  pub working : Working s
  pub opened : AreSound s.opened_member s.opened_coord

pub all_start : (kinds : List Kind) (coords : ℕ) (fm fc : ℕ → Found) → AreOpenable kinds coords fm fc → AllFacts (opened kinds coords fm fc)
all_start kinds coords fm fc g =
    record {
      facts = start_facts kinds coords fm fc g;
      own = own_start kinds coords fm fc g.free g.apart g.members_used g.coords_used;
      working = opened_works kinds coords fm fc;
      records = start_records kinds coords fm fc;
      opened = g.sound;
    }

pub opened_stay : (s z : Federation) → Grows s z → AreSound s.opened_member s.opened_coord → AreSound z.opened_member z.opened_coord
opened_stay s z g h = subst (λ logs. AreSound logs z.opened_coord) (sym g.members) (subst (AreSound s.opened_member) (sym g.coords) h)

-- a guard over sound logs is one over any
say_any : (s : Federation) (note : Message) → may_send s note → may_say AnyLogs s note
say_any s (message.Decide t c m true) g = (tt, g.2)
say_any s (message.Decide t c m false) g = (tt, g.1)
say_any s (message.Prepare t c m n) g = g
say_any s (message.Vote t m c true) g = g
say_any s (message.Vote t m c false) g = g
say_any s (message.Ask t m c) g = g
say_any s (message.Ack t m c) g = g

guard_any : (s : Federation) (move : Move) → Guard s move → GuardOver AnyLogs s move
guard_any s (DropVoted t m) g = (g.0, tt)
guard_any s (Install t m) g = (g.0, tt)
guard_any s (Send note) g = say_any s note g
guard_any s (Operate t m o) g = g
guard_any s (MarkAsked t m c n) g = g
guard_any s (Cast t m c n) g = g
guard_any s (DropActive t m) g = g
guard_any s (CommitLocally t m) g = g
guard_any s (CrashMember m) g = g
guard_any s (RestartMember m) g = g
guard_any s (ArmMember m stop) g = g
guard_any s (CloseMemberSpare m closed) g = g
guard_any s (FillMemberSpare m) g = g
guard_any s (Begin t c) g = g
guard_any s (Collect t c) g = g
guard_any s (RecordYes t c m) g = g
guard_any s (Decide t c) g = g
guard_any s (Leave t c) g = g
guard_any s (RecordAck t c m) g = g
guard_any s (End t c) g = g
guard_any s (CrashCoord c) g = g
guard_any s (RestartCoord c) g = g
guard_any s (ArmCoord c stop) g = g
guard_any s (CloseCoordSpare c closed) g = g
guard_any s (FillCoordSpare c) g = g
guard_any s (BeginLocal t m) g = g
guard_any s (AskEnd t) g = g

pub all_move : (s : Federation) → AllFacts s → (move : Move) → Guard s move → AllFacts (effect s move)
all_move s a move g =
    record {
      facts = move_keeps s a.facts move g;
      own = own_move s a.own move (guard_any s move g);
      records = move_records s a.facts a.records move g;
      working = move_works s a.facts move g a.working;
      opened = opened_stay s (effect s move) (effect_grows s move) a.opened;
    }

pub all_moves : (moves : List Move) (s : Federation) → AllFacts s → GuardsHold moves s → AllFacts (all_effects moves s)
all_moves [] s a g = a
all_moves (move ∷ moves) s a g = all_moves moves (effect s move) (all_move s a move g.0) g.1

pub all_step : (s : Federation) → AllFacts s → (h : Happening) → IsTrueVerdict s h → AllFacts (step s h).state
all_step s a h v =
    record {
      facts = step_keeps s a.facts h v;
      own = own_step s a.own h;
      records = step_records s a.facts h v a.records;
      working = step_works s a.facts h v a.working;
      opened = opened_stay s (step s h).state (step_grows s h) a.opened;
    }

pub all_run : (hs : List Happening) (s : Federation) → AllFacts s → AreTrueVerdicts hs s → AllFacts (run hs s)
all_run [] s a v = a
all_run (h ∷ hs) s a v = all_run hs (step s h).state (all_step s a h v.0) v.1
