-- The plans of a timer, of a question and of a local abort write nothing.
use Rattle.std.proofs.Common.{◌≡◌, ℕ, refl}
use Rattle.co_plain.specs.declared.member_state.MemberState.{MemberState}
use Rattle.co_plain.specs.declared.standing.Standing.{Standing}
use Rattle.co_plain.specs.declared.standing.Standing.TheVariants.{IsActive, IsVoted, IsInstalled, IsAbsent}
use Rattle.co_member.specs.Plans.{timer_plan, ask_plan, local_abort_plan}
use Rattle.co_member.specs.Standing.{Suits}
use Rattle.co_member.specs.declared.plan.Change.TheVariants.{Stays}
use Rattle.co_node.specs.declared.writing.Writes.TheVariants.{Nothing}

pub timer_quiet : (s : Standing) → (timer_plan s).writes ≡ Nothing
timer_quiet IsActive = refl
timer_quiet IsVoted = refl
timer_quiet IsInstalled = refl
timer_quiet IsAbsent = refl

pub timer_suits : (x : MemberState) (t : ℕ) (s : Standing) → Suits x t (timer_plan s).change
timer_suits x t IsActive = tt
timer_suits x t IsVoted = tt
timer_suits x t IsInstalled = tt
timer_suits x t IsAbsent = tt

pub abort_quiet : (s : Standing) → (local_abort_plan s).writes ≡ Nothing
abort_quiet IsActive = refl
abort_quiet IsVoted = refl
abort_quiet IsInstalled = refl
abort_quiet IsAbsent = refl

pub abort_suits : (x : MemberState) (t : ℕ) (s : Standing) → Suits x t (local_abort_plan s).change
abort_suits x t IsActive = tt
abort_suits x t IsVoted = tt
abort_suits x t IsInstalled = tt
abort_suits x t IsAbsent = tt

pub ask_quiet : (m t c : ℕ) (s : Standing) → (ask_plan m t c s).writes ≡ Nothing
ask_quiet m t c IsActive = refl
ask_quiet m t c IsVoted = refl
ask_quiet m t c IsInstalled = refl
ask_quiet m t c IsAbsent = refl

pub ask_stays : (m t c : ℕ) (s : Standing) → (ask_plan m t c s).change ≡ Stays
ask_stays m t c IsActive = refl
ask_stays m t c IsVoted = refl
ask_stays m t c IsInstalled = refl
ask_stays m t c IsAbsent = refl
