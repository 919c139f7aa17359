-- How a member goes up: at first with what its log tells, and after a crash or a stop with what its files give again.
use Rattle.std.specs.Prelude.{ℕ, ◌≡◌, None, reverse, Result, Ok, Err}
use Rattle.co_base.specs.declared.node.Node.TheVariants as node
use Rattle.co_log.specs.LogView.{LogView}
use Rattle.co_log.specs.declared.fault.NodeFault.{NodeFault}
use Rattle.co_node.specs.NodeLog.{RepresentsLog}
use Rattle.co_plain.specs.Invariants.{VotedAreConflictFree}
use Rattle.co_plain.specs.MemberView.{recovered_view, first_refused_at_member}
use Rattle.co_plain.specs.declared.log_state.LogState.{LogState}
use Rattle.co_recover.specs.Recovered.{past_of_member}
use Rattle.co_recover.specs.declared.past.MemberPast.{MemberPast}
use Rattle.co_member.specs.declared.step.MemberStep.{MemberStep}

-- the stable records are allowed where they stand, and their votes are free of conflicts
pub record IsReadable (coords : ℕ) (l : LogState) : Type 0 where
  pub allowed : first_refused_at_member coords (reverse l.stable) ≡ None
  pub free : VotedAreConflictFree (recovered_view l.stable)

-- the log stands for this plain log, whose stable records tell this past
pub record IsPastOf (m : ℕ) (v : LogView) (found : MemberPast) (l : LogState) : Type 0 where
  pub log : RepresentsLog (node.Member m) v l
  pub past : found ≡ past_of_member (recovered_view l.stable)

-- what a restart says of its reading
abbrev pub read_by : Result MemberStep NodeFault → Result (Unit {0}) NodeFault
read_by (Ok d) = Ok tt
read_by (Err e) = Err e
