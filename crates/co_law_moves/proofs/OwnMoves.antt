-- Each move keeps what each node keeps by itself, under its guard.
use Rattle.std.proofs.Common.{List, [], ◌∷◌}
use Rattle.co_plain.specs.Federation.{Federation}
use Rattle.co_plain.specs.Moves.{Move, Operate, MarkAsked, Cast, DropActive, DropVoted, Install, CommitLocally, CrashMember, RestartMember, ArmMember, CloseMemberSpare, FillMemberSpare, Begin, Collect, RecordYes, Decide, Leave, RecordAck, End, CrashCoord, RestartCoord, ArmCoord, CloseCoordSpare, FillCoordSpare, BeginLocal, AskEnd, Send, effect, all_effects}
use Rattle.co_law_base.proofs.VoteMoves.{may_cast}
use Rattle.co_law_base.proofs.Locally.{may_commit_locally}
use Rattle.co_law_moves.specs.OwnGuards.{AnyLogs, GuardOver, GuardsOver}
use Rattle.co_law_moves.proofs.Own.{OwnFacts}
use Rattle.co_law_moves.proofs.OwnMembers as members
use Rattle.co_law_moves.proofs.OwnCoords as coords
use Rattle.co_law_moves.proofs.OwnClients as clients
use Rattle.co_law_moves.proofs.OwnOperations as operations
use Rattle.co_law_moves.proofs.OwnDecisions as decisions

pub own_move : (s : Federation) → OwnFacts s → (move : Move) → GuardOver AnyLogs s move → OwnFacts (effect s move)
own_move s f (Operate t m o) g = operations.own_operate s f t m o g
own_move s f (MarkAsked t m c n) g = members.own_mark s f m t c n g.0 g.1
own_move s f (Cast t m c n) g = members.own_yes s f m t c n (may_cast s t m c n g)
own_move s f (DropActive t m) g = members.own_drop_active s f m t g
own_move s f (DropVoted t m) g = members.own_drop_voted s f m t g.0
own_move s f (Install t m) g = members.own_installed s f m t g.0
own_move s f (CommitLocally t m) g = decisions.own_local s f t m (may_commit_locally s t m g)
own_move s f (CrashMember m) g = members.own_crash s f m
own_move s f (RestartMember m) g = members.own_restart s f m
own_move s f (ArmMember m stop) g = members.own_arm s f m stop
own_move s f (CloseMemberSpare m closed) g = members.own_close s f m closed
own_move s f (FillMemberSpare m) g = members.own_fill s f m
own_move s f (Begin t c) g = clients.own_begin s f t c g
own_move s f (Collect t c) g = coords.own_collect s f c t g
own_move s f (RecordYes t c m) g = coords.own_record_yes s f c t m g
own_move s f (Decide t c) g = decisions.own_decide s f t c g
own_move s f (Leave t c) g = coords.own_leave s f c t
own_move s f (RecordAck t c m) g = coords.own_record_ack s f c t m g
own_move s f (End t c) g = coords.own_end s f c t g
own_move s f (CrashCoord c) g = coords.own_coord_crash s f c
own_move s f (RestartCoord c) g = coords.own_coord_restart s f c
own_move s f (ArmCoord c stop) g = coords.own_coord_arm s f c stop
own_move s f (CloseCoordSpare c closed) g = coords.own_coord_close s f c closed
own_move s f (FillCoordSpare c) g = coords.own_coord_fill s f c
own_move s f (BeginLocal t m) g = clients.own_begin_local s f t m g
own_move s f (AskEnd t) g = clients.own_ask s f t g
own_move s f (Send note) g = clients.own_send s f note g

pub own_moves : (moves : List Move) (s : Federation) → OwnFacts s → GuardsOver AnyLogs moves s → OwnFacts (all_effects moves s)
own_moves [] s f g = f
own_moves (move ∷ moves) s f g = own_moves moves (effect s move) (own_move s f move g.0) g.1
