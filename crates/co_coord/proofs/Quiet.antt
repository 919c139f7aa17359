-- The plans of what a client begins and aborts, of a timer and of what is sent again write nothing.
use Rattle.std.proofs.Common.{◌≡◌, ℕ, List, refl}
use Rattle.std.specs.Prelude.{Option, None, Some}
use Rattle.co_base.specs.declared.part.Part.{Part}
use Rattle.co_plain.specs.declared.coord_state.Entry.{Entry}
use Rattle.co_plain.specs.declared.coord_state.Entry.TheVariants as entry
use Rattle.co_coord.specs.Plans.{abort_plan, timer_plan, resend_plan}
use Rattle.co_coord.specs.declared.plan.Change.TheVariants.{Stays}
use Rattle.co_node.specs.declared.writing.Writes.TheVariants.{Nothing}

pub abort_quiet : (c t : ℕ) (parts : List Part) (e : Option Entry) → (abort_plan c t parts e).writes ≡ Nothing
abort_quiet c t parts None = refl
abort_quiet c t parts (Some entry.Idle) = refl
abort_quiet c t parts (Some (entry.Collecting ps yeses)) = refl
abort_quiet c t parts (Some (entry.Committed ms acks)) = refl

pub timer_quiet : (c t : ℕ) (e : Option Entry) → (timer_plan c t e).writes ≡ Nothing
timer_quiet c t None = refl
timer_quiet c t (Some entry.Idle) = refl
timer_quiet c t (Some (entry.Collecting ps yeses)) = refl
timer_quiet c t (Some (entry.Committed ms acks)) = refl

pub resend_quiet : (c t : ℕ) (e : Option Entry) → (resend_plan c t e).writes ≡ Nothing
resend_quiet c t None = refl
resend_quiet c t (Some entry.Idle) = refl
resend_quiet c t (Some (entry.Collecting ps yeses)) = refl
resend_quiet c t (Some (entry.Committed ms acks)) = refl

pub resend_stays : (c t : ℕ) (e : Option Entry) → (resend_plan c t e).change ≡ Stays
resend_stays c t None = refl
resend_stays c t (Some entry.Idle) = refl
resend_stays c t (Some (entry.Collecting ps yeses)) = refl
resend_stays c t (Some (entry.Committed ms acks)) = refl
