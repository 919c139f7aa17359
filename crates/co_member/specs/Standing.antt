-- For which plain member a member stands, and what a call of it does.
use Rattle.std.specs.Prelude.{ℕ, Bool, ◌≡◌, List, [], Option, None, Some, is_some, Result, Ok, Err}
use Rattle.co_base.specs.declared.head.Kind.{Kind}
use Rattle.co_base.specs.declared.mark.Mark.{Mark}
use Rattle.co_base.specs.declared.node.Node.TheVariants as node
use Rattle.co_log.specs.declared.fault.NodeFault.{NodeFault}
use Rattle.co_message.specs.declared.answer.Answer.{Answer}
use Rattle.co_message.specs.declared.answer.Answer.TheVariants as answer
use Rattle.co_message.specs.declared.message.Message.{Message}
use Rattle.co_node.specs.NodeLog.{RepresentsLog}
use Rattle.co_node.specs.Writing.{written_with}
use Rattle.co_node.specs.declared.written.Written.{Written}
use Rattle.co_node.specs.declared.written.Written.TheVariants.{Done, Stopped}
use Rattle.co_plain.specs.MemberStep.{member_down_with, standing_of}
use Rattle.co_plain.specs.declared.member_state.MemberState.{MemberState}
use Rattle.co_plain.specs.declared.member_step.MemberStep.{MemberStep as PlainStep}
use Rattle.co_state.specs.declared.engine_state.EngineState.{EngineState}
use Rattle.co_undecided.specs.Represented.{Represents}
use Rattle.co_plain.specs.declared.standing.Standing.TheVariants.{IsActive, IsVoted}
use Rattle.co_member.specs.declared.member.Member.{Member}
use Rattle.co_member.specs.declared.plan.Change.{Change}
use Rattle.co_member.specs.declared.plan.Change.TheVariants.{Stays, Casts, Drops, Installs, CastsAndInstalls}
use Rattle.co_member.specs.declared.plan.Plan.{Plan}
use Rattle.co_member.specs.declared.running.Running.{Running}
use Rattle.co_member.specs.declared.step.MemberStep.{MemberStep}

-- whether it runs
abbrev pub is_up : {E : Type 0} → Member E → Bool
is_up m = is_some m.running

-- What it has in memory while it runs: its undecided transactions stand for the engine state and the marks of the plain member, whose engine
-- is of its kind; and it has the same committed ones.
pub record RepresentsRunning {E : Type 0} (stands_for : E → EngineState → Type 0) (k : Kind) (r : Running E) (x : MemberState) : Type 0 where
  pub undecided : Represents stands_for r.undecided x.engine x.asked
  pub committed : x.committed ≡ r.committed
  pub kind : x.engine.kind ≡ k

-- Its log stands for the log of the plain member. While it is up, so does what it has in memory; while it is down, the plain
-- member is what its stable records tell.
pub record RepresentsMember {E : Type 0} (stands_for : E → EngineState → Type 0) (m : Member E) (x : MemberState) : Type 0 where
  pub log : RepresentsLog (node.Member m.number) m.log x.log
  pub up : x.up ≡ is_some m.running
  pub running : (r : Running E) → m.running ≡ Some r → RepresentsRunning stands_for m.kind r x
  pub down : m.running ≡ None → x ≡ member_down_with m.kind x.log

-- A call answered, sent and told what the plain step does, and left a member that stands for what the step leaves.
pub record HasDone {E : Type 0} (stands_for : E → EngineState → Type 0) (step : PlainStep) (d : MemberStep) (after : Member E) : Type 0 where
  pub answer : d.answer ≡ step.answer
  pub sent : d.sent ≡ step.sent
  pub marks : d.marks ≡ step.marks
  pub state : RepresentsMember stands_for after step.state

-- it is the same member, of the same kind, of a federation with as many coordinators
pub record IsSame {E : Type 0} (old new : Member E) : Type 0 where
  pub number : new.number ≡ old.number
  pub kind : new.kind ≡ old.kind
  pub coords : new.coords ≡ old.coords

-- the marks of a step
abbrev pub marks_in : MemberStep → List Mark
marks_in d = d.marks

-- what a call of a member says of its log write
abbrev pub written_by : Result MemberStep NodeFault → Result Written NodeFault
written_by out = written_with marks_in out

-- what a plan that writes nothing tells
abbrev pub told : Plan → MemberStep
told p = record { answer = p.answer; sent = p.sent; marks = [] }

-- what is left once a log write ended: the answer and what is sent where it was done, and a member that is down where it was stopped
abbrev pub HasEnded : {E : Type 0} → Answer → Option Message → Written → Member E → MemberStep → Member E → Type 0
HasEnded a sent (Done marks) old d new = (d ≡ record { answer = a; sent = sent; marks = marks }) × (new ≡ old)
HasEnded a sent (Stopped call marks) old d new = (d ≡ record { answer = answer.Stopped call; sent = None; marks = marks }) × (new.running ≡ None)

-- so it is where the log write may have failed: then its fault is given back, and nothing of the member changes
abbrev pub HasEndedAs : {E : Type 0} → Answer → Option Message → Result Written NodeFault → Member E → Result MemberStep NodeFault → Member E → Type 0
HasEndedAs a sent (Ok written) old result new = (d : MemberStep) × (result ≡ Ok d) × HasEnded a sent written old d new
HasEndedAs a sent (Err e) old result new = (result ≡ Err e) × (new ≡ old)

-- a change is one of a transaction that stands so: a vote is cast by an active one, and a voted one is installed
abbrev pub Suits : MemberState → ℕ → Change → Type 0
Suits x t Stays = Unit {0}
Suits x t (Casts coord count) = standing_of x t ≡ IsActive
Suits x t Drops = Unit {0}
Suits x t Installs = standing_of x t ≡ IsVoted
Suits x t (CastsAndInstalls coord count) = standing_of x t ≡ IsActive

-- A call answered what the plain step does, sends and tells nothing, and left a member that stands for what the step leaves.
pub record HasAnswered {E : Type 0} (stands_for : E → EngineState → Type 0) (step : PlainStep) (a : Answer) (after : Member E) : Type 0 where
  pub answer : a ≡ step.answer
  pub state : RepresentsMember stands_for after step.state
