-- What an event of a node gives to its log: what may be written, when it is too long, and which stable records a completed write leaves.
use Rattle.std.specs.Prelude.{◌≡◌, List, [], ◌∷◌, ◌++◌, Result, Ok, Err}
use Rattle.co_base.specs.declared.mark.Mark.{Mark}
use Rattle.co_base.specs.declared.node.Node.{Node}
use Rattle.co_record.specs.declared.record.Record.{Record}
use Rattle.co_record.specs.Spelling.{IsWritable}
use Rattle.co_log.specs.Appending.{IsTooLong}
use Rattle.co_log.specs.LogView.{LogView, IsForcible, MayWait}
use Rattle.co_log.specs.declared.fault.NodeFault.{NodeFault}
use Rattle.co_outside.specs.Home.{HomeView}
use Rattle.co_node.specs.Answers.{IsAnswered}
use Rattle.co_node.specs.NodeLog.{RepresentsLog}
use Rattle.co_node.specs.Writes.{forcing, HasWritten}
use Rattle.co_node.specs.declared.written.Written.{Written}
use Rattle.co_node.specs.declared.written.Written.TheVariants.{Done, Stopped}
use Rattle.co_plain.specs.LogWrite.{with_batch, with_waiting}
use Rattle.co_plain.specs.declared.log_state.LogState.{LogState}
use Rattle.co_node.specs.declared.writing.Writes.{Writes}
use Rattle.co_node.specs.declared.writing.Writes.TheVariants.{Nothing, Keeps, Forces, ForcesBoth}

-- each record is within its bounds, and of a kind that waits, or that is forced
abbrev pub MayWrite : Writes → Type 0
MayWrite Nothing = Unit {0}
MayWrite (Keeps r) = IsWritable r × MayWait r
MayWrite (Forces r) = IsWritable r × IsForcible r
MayWrite (ForcesBoth first r) = (IsWritable first × MayWait first) × (IsWritable r × IsForcible r)

-- so it is, and at most one record is given to the log
abbrev pub MayWriteOne : Writes → Type 0
MayWriteOne Nothing = Unit {0}
MayWriteOne (Keeps r) = IsWritable r × MayWait r
MayWriteOne (Forces r) = IsWritable r × IsForcible r
MayWriteOne (ForcesBoth first r) = ⊥

-- what is forced, with what waits, would make the file too long
abbrev pub IsTooLongFor : Writes → LogView → Type 0
IsTooLongFor Nothing log = ⊥
IsTooLongFor (Keeps r) log = ⊥
IsTooLongFor (Forces r) log = IsTooLong log.gate (log.waiting ++ r ∷ [])
IsTooLongFor (ForcesBoth first r) log = IsTooLong log.gate (log.waiting ++ first ∷ r ∷ [])

-- the stable records behind a completed write
abbrev pub stable_after : Writes → LogState → List Record
stable_after Nothing l = l.stable
stable_after (Keeps r) l = l.stable
stable_after (Forces r) l = (with_batch l (r ∷ [])).stable
stable_after (ForcesBoth first r) l = (with_batch l (r ∷ first ∷ [])).stable

-- how a call that writes so leaves the directory
abbrev pub IsAnsweredFor : Writes → Node → LogState → LogView → LogView → HomeView → HomeView → Result Written NodeFault → Type 0
IsAnsweredFor w owner l log after old new result = IsAnswered owner log.current.spot (IsTooLongFor w log) l.stable (stable_after w l) after old new result

-- nothing was forced, and the log stands for this plain log
abbrev pub HasKept : Node → LogState → LogView → Result Written NodeFault → Type 0
HasKept owner l after (Ok (Done marks)) = (marks ≡ []) × RepresentsLog owner after l
HasKept owner l after (Ok (Stopped call marks)) = ⊥
HasKept owner l after (Err e) = Unit {0}

-- what is given is written, or stopped as the armed stop says
abbrev pub HasWrittenFor : Writes → Node → LogState → LogView → Result Written NodeFault → Type 0
HasWrittenFor Nothing owner l after result = HasKept owner l after result
HasWrittenFor (Keeps r) owner l after result = HasKept owner (with_waiting l r) after result
HasWrittenFor (Forces r) owner l after result = HasWritten (forcing owner l (r ∷ [])) owner l after result
HasWrittenFor (ForcesBoth first r) owner l after result = HasWritten (forcing owner l (r ∷ first ∷ [])) owner l after result

-- what a call of a node says of its log write, where what it gives has these marks
abbrev pub written_with : {D : Type 0} → (D → List Mark) → Result D NodeFault → Result Written NodeFault
written_with marks (Ok d) = Ok (Done (marks d))
written_with marks (Err e) = Err e
