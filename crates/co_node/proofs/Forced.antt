-- How a log write on the current file that ended in a fault is answered.
use Rattle.std.proofs.Common.{◌≡◌, List, ◌++◌, sym, refl, subst, inl, inr, true}
use Rattle.std.specs.Prelude.{Result, Err, reverse}
use Rattle.co_base.specs.declared.mark.Mark.{Mark}
use Rattle.co_base.specs.declared.node.Node.{Node}
use Rattle.co_outside.specs.Home.{HomeView}
use Rattle.co_record.specs.declared.record.Record.{Record}
use Rattle.co_log.proofs.Answered.{force_parts}
use Rattle.co_log.specs.Appending.{IsTooLong}
use Rattle.co_log.specs.Calls.{HasForced}
use Rattle.co_log.specs.LogFile.{next_items}
use Rattle.co_log.specs.LogView.{LogView, IsHeld}
use Rattle.co_log.specs.declared.fault.LogFault.{LogFault}
use Rattle.co_log.specs.declared.fault.NodeFault.{NodeFault}
use Rattle.co_plain.specs.LogWrite.{with_batch}
use Rattle.co_plain.specs.declared.log_state.LogState.{LogState}
use Rattle.co_node.specs.Answers.{IsAnswered}
use Rattle.co_node.specs.Ended.{IsPassedOn}
use Rattle.co_node.specs.NodeLog.{RepresentsLog}
use Rattle.co_node.specs.Sizes.{IsOverlong}
use Rattle.co_node.specs.declared.written.Written.{Written}
use Rattle.co_node.proofs.Homes.{Wrote, fault_answered, forced_left, forced_wants, old_records, told_of}
use Rattle.co_node.proofs.Standing.{next_newest}

pub forced_answered : (owner : Node) (log after : LogView) (l : LogState) (more : List Record) (old new : HomeView) (fault : LogFault) (out : Result Written NodeFault) → RepresentsLog owner log l → IsHeld old log
    → (IsTooLong log.gate (log.waiting ++ more) → IsOverlong (with_batch l (reverse more)).stable × (new ≡ old))
    → HasForced (IsTooLong log.gate (log.waiting ++ more)) log after more old new (Err fault) → IsPassedOn fault out
    → IsAnswered owner log.current.spot (IsTooLong log.gate (log.waiting ++ more)) l.stable (with_batch l (reverse more)).stable after old new out
forced_answered owner log after l more old new fault out s held refused did passed =
    let all = log.waiting ++ more in
    let both = next_newest owner log l more s in
    let wrote : Wrote {T = List Mark} log after log.current.spot (IsTooLong log.gate all) l.stable (with_batch l (reverse more)).stable old new (Err fault) =
    record {
      spots = held.spots;
      its = inl refl;
      parts = force_parts log after old new (IsTooLong log.gate all) more (Err fault) did.answered;
      overlong = λ is. (refused is).0;
      untouched = λ is. (refused is).1;
      broken = λ failed told.
          let files = told_of new.file log held.spots told in
          elim (forced_left log s.items all files.current.bytes files.spare.bytes fault log.current.spot failed (did.current s.items s.ordered files.current files.spare files.is_current files.is_spare)) [
            | inl kept ↦ (s.items, old_records new.file log log.version log.generation s.items held.spots did.short files kept, inl (sym s.stable))
            | inr written ↦ (next_items true log.gate s.items all, old_records new.file log log.version log.generation (next_items true log.gate s.items all) held.spots did.short files written, inr both)
          ];
      wanting = λ wants told.
          let files = told_of new.file log held.spots told in
          let kept = forced_wants log s.items all files.current.bytes files.spare.bytes fault wants (did.current s.items s.ordered files.current files.spare files.is_current files.is_spare) in
          (s.items, old_records new.file log log.version log.generation s.items held.spots did.short files kept, inl (sym s.stable));
      short = did.short;
      rest = did.rest;
    } in
    subst (λ (n : Node). IsAnswered n log.current.spot (IsTooLong log.gate all) l.stable (with_batch l (reverse more)).stable after old new out) s.owned
    (fault_answered log after log.current.spot (IsTooLong log.gate all) l.stable (with_batch l (reverse more)).stable old new (List Mark) fault out wrote passed)
