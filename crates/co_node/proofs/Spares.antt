-- How the spare file is closed and filled, for the plain log.
use Rattle.std.proofs.Common.{◌≡◌, ℕ, ◌+◌, ◌≤◌, Bool, true, false, List, [], ◌∷◌, refl, sym, ap, subst, ◌∙◌, arith, inr}
use Rattle.std.specs.Prelude.{reverse, nat_le, Some, None, Option, Result, Ok, Err, if◌then◌else◌}
use Rattle.std.proofs.lemmas.List.{reverse-reverse}
use Rattle.co_base.specs.declared.mark.Mark.{Mark}
use Rattle.co_base.specs.declared.node.Node.{Node}
use Rattle.co_outside.specs.Home.{HomeView}
use Rattle.co_record.specs.declared.record.Record.{Record}
use Rattle.co_frame.specs.Gate.{batch_is_stable, closes_spare}
use Rattle.co_log.specs.declared.fault.LogFault.{LogFault}
use Rattle.co_log.specs.declared.fault.LogFault.TheVariants.{Device, Stopped, Bad, Differs, Full, InUse, Memory}
use Rattle.co_log.specs.declared.fault.NodeFault.{NodeFault}
use Rattle.co_base.specs.declared.leaves.Stop.{Stop}
use Rattle.co_log.specs.LogView.{LogView}
use Rattle.co_log.specs.Calls.{HasClosed, HasFilled}
use Rattle.co_log.specs.Spare.{filling_mark}
use Rattle.co_log.specs.Stopping.{IsPast}
use Rattle.co_plain.specs.declared.log_state.LogState.{LogState}
use Rattle.co_plain.specs.declared.outcome.Outcome.TheVariants.{Completes, StopsAt}
use Rattle.co_plain.specs.LogWrite.{outcome_of, with_filled_spare, crashed_log, checkpoint_marks, generation_of}
use Rattle.co_plain.specs.Numbers.{next_generation}
use Rattle.co_node.specs.NodeLog.{RepresentsLog}
use Rattle.co_node.specs.Ended.{IsPassedOn}
use Rattle.co_node.specs.Writes.{closing, filling, filled_with, HasWritten}
use Rattle.co_node.specs.declared.written.Written.{Written}
use Rattle.co_node.specs.declared.written.Written.TheVariants as written
use Rattle.co_node.proofs.Standing.{closed_stands, filled_stands, next_is}
use Rattle.co_node.proofs.Ended.{unarmed, armed_at, within_four}

-- an armed stop behind the device calls of a write passes unused
past_of : (o : Option Stop) (calls : ℕ) → IsPast calls o → outcome_of o calls ≡ Completes
past_of None calls past = refl
past_of (Some stop) calls past = ap (λ (b : Bool). if b then StopsAt stop.call stop.leaves else Completes) (let h : nat_le stop.call calls ≡ false = grind (arith, past stop refl) in h)

passed : (owner : Node) (log : LogView) (l : LogState) (calls : ℕ) → RepresentsLog owner log l → IsPast calls log.stop → outcome_of l.armed calls ≡ Completes
passed owner log l calls s past = ap (λ (o : Option Stop). outcome_of o calls) s.armed ∙ past_of log.stop calls past

within : (n m : ℕ) → n ≤ m → nat_le n m ≡ true
within n m le = grind (arith, le)

pub close_done : (owner : Node) (log after : LogView) (l : LogState) (old new : HomeView) (marks : List Mark) → RepresentsLog owner log l → marks ≡ [] → HasClosed log after old new (Ok tt) → HasWritten (closing l) owner l after (Ok (written.Done marks))
close_done owner log after l old new marks s none did =
    let c = did.answered.0 in
    (passed owner log l 2 s c.2, none, closed_stands true owner log after l l.waiting s c.0 (c.1 ∙ sym (reverse-reverse log.waiting) ∙ ap reverse (sym s.waiting)))

pub close_ended : (owner : Node) (log after : LogView) (l : LogState) (old new : HomeView) (fault : LogFault) (out : Result Written NodeFault) → RepresentsLog owner log l → HasClosed log after old new (Err fault) → IsPassedOn fault out
    → HasWritten (closing l) owner l after out
close_ended owner log after l old new (Stopped call stable marks) out s did is =
    let c = did.answered.0 in
    let leaves = c.0 in
    subst (HasWritten (closing l) owner l after) (sym is) (
      leaves,
      armed_at owner log l 2 call leaves s c.1 (within call 2 c.2),
      c.4,
      closed_stands (closes_spare leaves) owner log after l [] s c.5 c.6,
    )
close_ended owner log after l old new (Device spot) out s did is = subst (HasWritten (closing l) owner l after) (sym is) tt
close_ended owner log after l old new (Full spot) out s did is = subst (HasWritten (closing l) owner l after) (sym is) tt
close_ended owner log after l old new (Differs spot at kept read) out s did is = subst (HasWritten (closing l) owner l after) (sym is) tt
close_ended owner log after l old new Memory out s did is = subst (HasWritten (closing l) owner l after) (sym is) tt
close_ended owner log after l old new (Bad spot at) out s did is = absurd is
close_ended owner log after l old new (InUse spot) out s did is = absurd is

-- the mark of the checkpoint
mark_is : (owner : Node) (log : LogView) (l : LogState) → RepresentsLog owner log l → next_generation (generation_of l.stable) ≡ log.generation + 1 → filling_mark log ∷ [] ≡ checkpoint_marks owner (next_generation (generation_of l.stable))
mark_is owner log l s next = ap (λ (n : Node). checkpoint_marks n (log.generation + 1)) s.owned ∙ ap (checkpoint_marks owner) (sym next)

pub fill_done : (owner : Node) (log after : LogView) (l : LogState) (items : List Record) (old new : HomeView) (mark : Mark) (marks : List Mark) → RepresentsLog owner log l → l.spare_closed ≡ true → marks ≡ mark ∷ []
    → HasFilled log after items old new (Ok mark) → HasWritten (filling owner l (reverse items)) owner l after (Ok (written.Done marks))
fill_done owner log after l items old new mark marks s closed is did =
    let f = did.answered.0 in
    let next = next_is owner log l s (λ last. did.answered.2 (inr last)) in
    (unarmed owner log l 4 s f.0, is ∙ ap (λ (m : Mark). m ∷ []) f.1 ∙ mark_is owner log l s next, filled_stands true owner log after l items s next f.2 closed)

pub fill_ended : (owner : Node) (log after : LogView) (l : LogState) (items : List Record) (old new : HomeView) (fault : LogFault) (out : Result Written NodeFault) → RepresentsLog owner log l → l.spare_closed ≡ true
    → HasFilled log after items old new (Err fault) → IsPassedOn fault out → HasWritten (filling owner l (reverse items)) owner l after out
fill_ended owner log after l items old new (Stopped call stable marks) out s closed did is =
    let f = did.answered.0 in
    let leaves = f.0 in
    let next = next_is owner log l s (λ last. did.answered.2 (inr last)) in
    let told = ap (λ (b : Bool). if b then filling_mark log ∷ [] else []) f.2 ∙ ap (λ (ms : List Mark). if batch_is_stable call leaves then ms else []) (mark_is owner log l s next) in
    let stands = subst (λ (b : Bool). RepresentsLog owner after (crashed_log (if b then with_filled_spare l (filled_with owner l (reverse items)) else l))) f.2 (filled_stands stable owner log after l items s next f.4 closed) in
    subst (HasWritten (filling owner l (reverse items)) owner l after) (sym is) (leaves, armed_at owner log l 4 call leaves s f.1 (within_four owner log l call leaves s f.1), f.3 ∙ told, stands)
fill_ended owner log after l items old new (Device spot) out s closed did is = subst (HasWritten (filling owner l (reverse items)) owner l after) (sym is) tt
fill_ended owner log after l items old new (Full spot) out s closed did is = subst (HasWritten (filling owner l (reverse items)) owner l after) (sym is) tt
fill_ended owner log after l items old new (Differs spot at kept read) out s closed did is = subst (HasWritten (filling owner l (reverse items)) owner l after) (sym is) tt
fill_ended owner log after l items old new Memory out s closed did is = subst (HasWritten (filling owner l (reverse items)) owner l after) (sym is) tt
fill_ended owner log after l items old new (Bad spot at) out s closed did is = absurd is
fill_ended owner log after l items old new (InUse spot) out s closed did is = absurd is
