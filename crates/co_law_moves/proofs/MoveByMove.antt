-- Each move keeps the facts, under its guard.
use Rattle.std.proofs.Common.{◌≡◌, ◌⊎◌, inl, inr, ℕ, true, false, sym, ap, ◌∙◌}
use Rattle.std.proofs.lemmas.Bool.{eq-eqb}
use Rattle.co_message.specs.declared.message.Message.{Message}
use Rattle.co_message.specs.declared.message.Message.TheVariants as message
use Rattle.co_state.specs.Table.{look, holds}
use Rattle.co_plain.specs.Member.{coord_in, coord_of}
use Rattle.co_plain.specs.Federation.{Federation}
use Rattle.co_plain.specs.Decisions.{votes_for, BelongsTo, IsPresumedAborted}
use Rattle.co_plain.specs.SoundLogs.{log_has_committed}
use Rattle.co_plain.specs.Invariants.{TakesPart, HeldOperations, NamedBefore, TookPart, HeldAtDecision, NamedInOpened, Stable, view}
use Rattle.co_plain.specs.Moves.{Move, Operate, MarkAsked, Cast, DropActive, DropVoted, Install, CommitLocally, CrashMember, RestartMember, ArmMember, CloseMemberSpare, FillMemberSpare, Begin, Collect, RecordYes, Decide, Leave, RecordAck, End, CrashCoord, RestartCoord, ArmCoord, CloseCoordSpare, FillCoordSpare, BeginLocal, AskEnd, Send, Guard, effect, may_send}
use Rattle.co_law_base.proofs.Lookups.{holds_found}
use Rattle.co_law_base.proofs.Facts.{rest_of, takes, ByTold, Named, took, AtDecision, InOpened, alive, belongs, Facts}
use Rattle.co_law_base.proofs.CoordMoves.{keeps_record_yes, keeps_record_ack, keeps_collect, keeps_leave, keeps_end, keeps_coord_crash, keeps_coord_restart, keeps_coord_arm, keeps_coord_close, keeps_coord_fill}
use Rattle.co_law_base.proofs.LogMoves.{as_belongs, dead_there, keeps_mark, keeps_drop_active, keeps_drop_voted, keeps_member_crash, keeps_member_restart, keeps_member_arm, keeps_member_close}
use Rattle.co_law_base.proofs.VoteMoves.{as_settled, may_cast, keeps_cast, keeps_install}
use Rattle.co_law_base.proofs.Filling.{keeps_member_fill}
use Rattle.co_law_base.proofs.Beginning.{keeps_begin, keeps_begin_local}
use Rattle.co_law_base.proofs.Asking.{keeps_ask}
use Rattle.co_law_base.proofs.Operating.{keeps_operate}
use Rattle.co_law_base.proofs.Sending.{Allowed, keeps_send}
use Rattle.co_law_base.proofs.AtCoord.{keeps_decide}
use Rattle.co_law_base.proofs.Locally.{may_commit_locally, keeps_local}

pub as_takes : (s : Federation) (t m : ℕ) → TakesPart s t m → takes (rest_of s) t m
as_takes s t m (HeldOperations h) = ByTold h
as_takes s t m (NamedBefore c members h k) = Named c members h k

pub as_took : (s : Federation) (t m : ℕ) → TookPart s t m → took (rest_of s) t m
as_took s t m (HeldAtDecision h) = AtDecision h
as_took s t m (NamedInOpened c members h k) = InOpened c members h k

votes_it : (s : Federation) (t m c : ℕ) → holds (s.member m).engine.voted t ≡ true → coord_of (s.member m) t ≡ c → votes_for (look (s.member m).engine.voted t) c ≡ true
votes_it s t m c h e =
    let p = holds_found (s.member m).engine.voted t h in
    ap (λ o. votes_for o c) p.1 ∙ eq-eqb p.0.coord c (sym (ap coord_in p.1) ∙ e)

-- the guard of a message says that it is true
allowed : (s : Federation) → Facts s → (note : Message) → may_send s note → Allowed s note
allowed s f (message.Prepare t c m n) g = g
allowed s f (message.Vote t m c true) g = votes_it s t m c g.0 g.1
allowed s f (message.Vote t m c false) g = g
allowed s f (message.Decide t c m true) g = (as_settled s t g.0, as_took s t m g.1, g.2)
allowed s f (message.Decide t c m false) g = (by g.0, g.1)
  where
    by : (BelongsTo s t c × IsPresumedAborted s t) ⊎ (log_has_committed (s.member m).log.stable t ≡ true) → (belongs (rest_of s) t c × (alive (rest_of s) c t ≡ false)) ⊎ (holds (view Stable (s.member m)).committed t ≡ true)
    by (inl p) = let b = as_belongs s t c p.0 in inl (b, dead_there s f.numbers t c b p.1)
    by (inr h) = inr h
allowed s f (message.Ask t m c) g = votes_it s t m c g.0 g.1
allowed s f (message.Ack t m c) g = g

pub move_keeps : (s : Federation) → Facts s → (move : Move) → Guard s move → Facts (effect s move)
move_keeps s f (Operate t m o) g = keeps_operate s f t m o g
move_keeps s f (MarkAsked t m c n) g = keeps_mark s f t m c n g
move_keeps s f (Cast t m c n) g = keeps_cast s f t m c n (may_cast s t m c n g)
move_keeps s f (DropActive t m) g = keeps_drop_active s f t m g
move_keeps s f (DropVoted t m) g = keeps_drop_voted s f t m g
move_keeps s f (Install t m) g = keeps_install s f t m g
move_keeps s f (CommitLocally t m) g = keeps_local s f t m (may_commit_locally s t m g)
move_keeps s f (CrashMember m) g = keeps_member_crash s f m g
move_keeps s f (RestartMember m) g = keeps_member_restart s f m g
move_keeps s f (ArmMember m stop) g = keeps_member_arm s f m stop g
move_keeps s f (CloseMemberSpare m closed) g = keeps_member_close s f m closed g
move_keeps s f (FillMemberSpare m) g = keeps_member_fill s f m g
move_keeps s f (Begin t c) g = keeps_begin s f t c g
move_keeps s f (Collect t c) g = keeps_collect s f t c g
move_keeps s f (RecordYes t c m) g = keeps_record_yes s f t c m g
move_keeps s f (Decide t c) g = keeps_decide s f t c g
move_keeps s f (Leave t c) g = keeps_leave s f t c g
move_keeps s f (RecordAck t c m) g = keeps_record_ack s f t c m g
move_keeps s f (End t c) g = keeps_end s f t c g
move_keeps s f (CrashCoord c) g = keeps_coord_crash s f c g
move_keeps s f (RestartCoord c) g = keeps_coord_restart s f c g
move_keeps s f (ArmCoord c stop) g = keeps_coord_arm s f c stop g
move_keeps s f (CloseCoordSpare c closed) g = keeps_coord_close s f c closed g
move_keeps s f (FillCoordSpare c) g = keeps_coord_fill s f c g
move_keeps s f (BeginLocal t m) g = keeps_begin_local s f t m g
move_keeps s f (AskEnd t) g = keeps_ask s f t g
move_keeps s f (Send note) g = keeps_send s f note (allowed s f note g)
