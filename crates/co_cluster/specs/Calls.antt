-- What is asked of a node, what the node does, and what it has to be for it.
use Rattle.std.specs.Prelude.{ℕ, true, false, ◌≡◌, ◌≤◌}
use Rattle.co_plain.specs.declared.coord_state.CoordState.{CoordState}
use Rattle.co_plain.specs.declared.coord_step.CoordStep.{CoordStep}
use Rattle.co_plain.specs.declared.member_state.MemberState.{MemberState}
use Rattle.co_plain.specs.declared.member_step.MemberStep.{MemberStep}
use Rattle.co_plain.specs.Member.{member_deliver, member_vote, member_timer, member_ask}
use Rattle.co_plain.specs.MemberLog.{member_checkpoint, member_crash, member_restart, member_arm}
use Rattle.co_plain.specs.LocalCommit.{member_local_commit, member_local_abort}
use Rattle.co_plain.specs.Coordinator.{coord_begin, coord_commit, coord_abort, coord_deliver, coord_timer, coord_resend}
use Rattle.co_plain.specs.CoordLog.{coord_checkpoint, coord_crash, coord_restart, coord_arm}
use Rattle.co_state.specs.Table.{holds}
use Rattle.co_coord.specs.Standing.{MayDecide}
use Rattle.co_coord.specs.Opening.{MayRestart}
use Rattle.co_coord.specs.Restating.{MayRestate}
use Rattle.co_member.specs.Attaching.{IsReadable}
use Rattle.co_member.specs.Checkpoint.{MayFill}
use Rattle.co_member.specs.Conditions.{IsAboutSome, MayTake, MayVote, MayCommit}
use Rattle.co_cluster.specs.declared.calls.CoordCall.{CoordCall}
use Rattle.co_cluster.specs.declared.calls.CoordCall.TheVariants as coord
use Rattle.co_cluster.specs.declared.calls.MemberCall.{MemberCall}
use Rattle.co_cluster.specs.declared.calls.MemberCall.TheVariants as member

abbrev pub member_does : ℕ → MemberCall → MemberState → MemberStep
member_does m (member.Deliver note) x = member_deliver m x note
member_does m (member.Vote t) x = member_vote m x t
member_does m (member.Timer t) x = member_timer x t
member_does m (member.Ask t) x = member_ask m x t
member_does m (member.LocalCommit t carried) x = member_local_commit m x t carried
member_does m (member.LocalAbort t) x = member_local_abort x t
member_does m member.Crash x = member_crash x
member_does m member.Restart x = member_restart x
member_does m (member.Arm call leaves) x = member_arm x call leaves
member_does m member.Checkpoint x = member_checkpoint m x

abbrev pub coord_does : ℕ → CoordCall → CoordState → CoordStep
coord_does c (coord.Begin t) y = coord_begin y t
coord_does c (coord.Commit t parts) y = coord_commit c y t parts
coord_does c (coord.Abort t parts) y = coord_abort c y t parts
coord_does c (coord.Deliver note) y = coord_deliver c y note
coord_does c (coord.Timer t) y = coord_timer c y t
coord_does c (coord.Resend t) y = coord_resend c y t
coord_does c coord.Crash y = coord_crash y
coord_does c coord.Restart y = coord_restart y
coord_does c (coord.Arm call leaves) y = coord_arm y call leaves
coord_does c coord.Checkpoint y = coord_checkpoint c y

-- A member is up but for a restart, and what it would force can be written.
abbrev pub MemberMay : ℕ → MemberCall → MemberState → Type 0
MemberMay coords (member.Deliver note) x = (x.up ≡ true) × IsAboutSome note × MayTake x note
MemberMay coords (member.Vote t) x = (x.up ≡ true) × MayVote x t
MemberMay coords (member.Timer t) x = x.up ≡ true
MemberMay coords (member.Ask t) x = x.up ≡ true
MemberMay coords (member.LocalCommit t carried) x = (x.up ≡ true) × (holds x.engine.voted t ≡ false) × MayCommit x t carried
MemberMay coords (member.LocalAbort t) x = x.up ≡ true
MemberMay coords member.Crash x = x.up ≡ true
MemberMay coords member.Restart x = IsReadable coords x.log
MemberMay coords (member.Arm call leaves) x = (x.up ≡ true) × (1 ≤ call) × (call ≤ 4)
MemberMay coords member.Checkpoint x = (x.up ≡ true) × MayFill x

-- So for a coordinator.
abbrev pub CoordMay : ℕ → ℕ → CoordCall → CoordState → Type 0
CoordMay members c (coord.Begin t) y = y.up ≡ true
CoordMay members c (coord.Commit t parts) y = y.up ≡ true
CoordMay members c (coord.Abort t parts) y = y.up ≡ true
CoordMay members c (coord.Deliver note) y = (y.up ≡ true) × MayDecide y
CoordMay members c (coord.Timer t) y = y.up ≡ true
CoordMay members c (coord.Resend t) y = y.up ≡ true
CoordMay members c coord.Crash y = y.up ≡ true
CoordMay members c coord.Restart y = MayRestart members y
CoordMay members c (coord.Arm call leaves) y = (y.up ≡ true) × (1 ≤ call) × (call ≤ 4)
CoordMay members c coord.Checkpoint y = (y.up ≡ true) × MayRestate c y
