-- How a log write ends for the plain log.
use Rattle.std.proofs.Common.{◌≡◌, ℕ, Bool, true, List, [], ◌++◌, sym, ap, subst, ◌∙◌, arith}
use Rattle.std.specs.Prelude.{reverse, nat_le, ◌≤◌, IfSome, Some, None, Option, Result, Ok, Err, if◌then◌else◌}
use Rattle.std.proofs.lemmas.List.{reverse-append, reverse-reverse}
use Rattle.co_base.specs.declared.leaves.Leaves.{Leaves}
use Rattle.co_base.specs.declared.mark.Mark.{Mark}
use Rattle.co_base.specs.declared.node.Node.{Node}
use Rattle.co_outside.specs.Home.{HomeView}
use Rattle.co_record.specs.declared.record.Record.{Record}
use Rattle.co_frame.specs.Gate.{batch_is_stable}
use Rattle.co_log.specs.declared.fault.LogFault.{LogFault}
use Rattle.co_log.specs.declared.fault.LogFault.TheVariants.{Device, Stopped, Bad, Differs, Full, InUse, Memory}
use Rattle.co_log.specs.declared.fault.NodeFault.{NodeFault}
use Rattle.co_base.specs.declared.leaves.Stop.{Stop}
use Rattle.co_log.specs.Calls.{HasForced}
use Rattle.co_log.specs.LogView.{LogView}
use Rattle.co_log.specs.Marks.{marks_of as told_of}
use Rattle.co_plain.specs.declared.log_state.LogState.{LogState}
use Rattle.co_plain.specs.declared.outcome.Outcome.TheVariants.{Completes, StopsAt}
use Rattle.co_plain.specs.LogWrite.{outcome_of, with_batch, crashed_log, marks_of}
use Rattle.co_node.specs.NodeLog.{RepresentsLog}
use Rattle.co_node.specs.Ended.{IsPassedOn}
use Rattle.co_node.specs.Writes.{forcing, HasWritten}
use Rattle.co_node.specs.declared.written.Written.{Written}
use Rattle.co_node.specs.declared.written.Written.TheVariants as written
use Rattle.co_node.proofs.Standing.{written_stands}

-- with no armed stop a write completes
pub unarmed : (owner : Node) (log : LogView) (l : LogState) (calls : ℕ) → RepresentsLog owner log l → log.stop ≡ None → outcome_of l.armed calls ≡ Completes
unarmed owner log l calls s none = ap (λ (o : Option Stop). outcome_of o calls) (s.armed ∙ none)

-- an armed stop within the device calls of a write is its outcome
pub armed_at : (owner : Node) (log : LogView) (l : LogState) (calls call : ℕ) (leaves : Leaves) → RepresentsLog owner log l → log.stop ≡ Some (record { call = call; leaves = leaves }) → nat_le call calls ≡ true
    → outcome_of l.armed calls ≡ StopsAt call leaves
armed_at owner log l calls call leaves s is within =
    ap (λ (o : Option Stop). outcome_of o calls) (s.armed ∙ is)
    ∙ ap (λ (b : Bool). if b then StopsAt call leaves else Completes) within

-- an armed stop is in one of the four device calls
pub within_four : (owner : Node) (log : LogView) (l : LogState) (call : ℕ) (leaves : Leaves) → RepresentsLog owner log l → log.stop ≡ Some (record { call = call; leaves = leaves }) → nat_le call 4 ≡ true
within_four owner log l call leaves s is =
    let bound : call ≤ 4 = subst (λ (o : Option Stop). IfSome o (λ stop. stop.call ≤ 4)) is s.bound in
    grind (arith, bound)

-- what a transcript is told of the waiting records and of these behind them, the oldest first
told_marks : (owner : Node) (log : LogView) (l : LogState) (forced : List Record) → RepresentsLog owner log l → told_of log.node (log.waiting ++ forced) ≡ marks_of owner (reverse forced ++ l.waiting)
told_marks owner log l forced s =
    let waiting : reverse l.waiting ≡ log.waiting = ap reverse s.waiting ∙ reverse-reverse log.waiting in
    let back : reverse (reverse forced ++ l.waiting) ≡ log.waiting ++ forced =
    reverse-append (reverse forced) l.waiting ∙ ap (λ (xs : List Record). xs ++ reverse (reverse forced)) waiting ∙ ap (λ (xs : List Record). log.waiting ++ xs) (reverse-reverse forced) in
    ap (λ (n : Node). told_of n (log.waiting ++ forced)) s.owned ∙ ap (told_of owner) (sym back)

pub force_done : (owner : Node) (log after : LogView) (l : LogState) (forced : List Record) (long : Type 0) (old new : HomeView) (marks : List Mark) → RepresentsLog owner log l → HasForced long log after forced old new (Ok marks)
    → HasWritten (forcing owner l (reverse forced)) owner l after (Ok (written.Done marks))
force_done owner log after l forced long old new marks s did =
    let f = did.answered.0 s.items s.ordered.live in
    (unarmed owner log l 4 s f.0, f.1 ∙ told_marks owner log l forced s, written_stands true owner log after l forced s f.2)

pub force_ended : (owner : Node) (log after : LogView) (l : LogState) (forced : List Record) (long : Type 0) (old new : HomeView) (fault : LogFault) (out : Result Written NodeFault) → RepresentsLog owner log l → HasForced long log after forced old new (Err fault)
    → IsPassedOn fault out → HasWritten (forcing owner l (reverse forced)) owner l after out
force_ended owner log after l forced long old new (Stopped call stable marks) out s did is =
    let f = did.answered.0 s.items s.ordered.live in
    let leaves = f.0 in
    let told = ap (λ (b : Bool). if b then told_of log.node (log.waiting ++ forced) else []) f.2 ∙ ap (λ (ms : List Mark). if batch_is_stable call leaves then ms else []) (told_marks owner log l forced s) in
    let stands = subst (λ (b : Bool). RepresentsLog owner after (crashed_log (if b then with_batch l (reverse forced) else l))) f.2 (written_stands stable owner log after l forced s f.4) in
    subst (HasWritten (forcing owner l (reverse forced)) owner l after) (sym is) (leaves, armed_at owner log l 4 call leaves s f.1 (within_four owner log l call leaves s f.1), f.3 ∙ told, stands)
force_ended owner log after l forced long old new (Device spot) out s did is = subst (HasWritten (forcing owner l (reverse forced)) owner l after) (sym is) tt
force_ended owner log after l forced long old new (Full spot) out s did is = subst (HasWritten (forcing owner l (reverse forced)) owner l after) (sym is) tt
force_ended owner log after l forced long old new (Differs spot at kept read) out s did is = subst (HasWritten (forcing owner l (reverse forced)) owner l after) (sym is) tt
force_ended owner log after l forced long old new Memory out s did is = subst (HasWritten (forcing owner l (reverse forced)) owner l after) (sym is) tt
force_ended owner log after l forced long old new (Bad spot at) out s did is = absurd is
force_ended owner log after l forced long old new (InUse spot) out s did is = absurd is
