-- How a call of a node that makes no call of the directory, or passes a fault on, leaves it.
use Rattle.std.proofs.Common.{◌≡◌, List, refl, sym, subst}
use Rattle.std.specs.Prelude.{Result, Ok, Err, IsErr}
use Rattle.std.specs.Result.{IsErrAnd}
use Rattle.co_base.specs.declared.mark.Mark.{Mark}
use Rattle.co_base.specs.declared.node.Node.{Node}
use Rattle.co_outside.specs.Home.{HomeView}
use Rattle.co_outside.specs.declared.spot.Spot.{Spot}
use Rattle.co_record.specs.declared.record.Record.{Record}
use Rattle.co_log.specs.LogView.{LogView, IsHeld, IsShort}
use Rattle.co_log.specs.declared.fault.NodeFault.{NodeFault}
use Rattle.co_log.specs.declared.fault.NodeFault.TheVariants.{Memory}
use Rattle.co_plain.specs.declared.log_state.LogState.{LogState}
use Rattle.co_node.specs.Answers.{IsAnswered, IsServed}
use Rattle.co_node.specs.NodeLog.{RepresentsLog}
use Rattle.co_node.specs.Writing.{IsAnsweredFor, IsTooLongFor, stable_after, written_with}
use Rattle.co_node.specs.declared.writing.Writes.{Writes}
use Rattle.co_node.proofs.Homes.{memory_answered}
use Rattle.co_node.proofs.Opened.{files_within, left_before}

-- the directory stays as it is
pub still_served : (owner : Node) (home : HomeView) (log after : LogView) (l : LogState) → RepresentsLog owner log l → IsHeld home log → IsShort log.current × IsShort log.spare → IsHeld home after
    → IsServed owner after home home
still_served owner home log after l s held short now =
    record {
      held = now;
      clean_a = λ clean. clean;
      clean_b = λ clean. clean;
      within = files_within owner home log l s held short;
      quiet = refl;
    }

module _ {D : Type 0} (marks : D → List Mark) where
  -- there was no memory before anything was written at this file
  pub wanting : (owner : Node) (at : Spot) (long : Type 0) (that : List Record) (l : LogState) (log : LogView) (home : HomeView) (out : Result D NodeFault) → IsErr out × IsErrAnd out (λ e. e ≡ Memory) → RepresentsLog owner log l → IsHeld home log
      → IsShort log.current × IsShort log.spare → IsAnswered owner at long l.stable that log home home (written_with marks out)
  wanting owner at long that l log home (Ok d) is s held short = absurd is.1
  wanting owner at long that l log home (Err e) is s held short = memory_answered owner at long l.stable that log home (Err e) is (left_before owner home log l s held short)

  pub wants_memory : (owner : Node) (w : Writes) (l : LogState) (log : LogView) (home : HomeView) (out : Result D NodeFault) → IsErr out × IsErrAnd out (λ e. e ≡ Memory) → RepresentsLog owner log l → IsHeld home log
      → IsShort log.current × IsShort log.spare → IsAnsweredFor w owner l log log home home (written_with marks out)
  wants_memory owner w l log home out is s held short = wanting owner log.current.spot (IsTooLongFor w log) (stable_after w l) l log home out is s held short

  -- a fault that is passed on
  pub passed : (owner : Node) (at : Spot) (long : Type 0) (this that : List Record) (after : LogView) (old new : HomeView) (e : NodeFault) (out : Result D NodeFault) → IsErr out × IsErrAnd out (λ f. f ≡ e)
      → IsAnswered owner at long this that after old new (Err e) → IsAnswered owner at long this that after old new (written_with marks out)
  passed owner at long this that after old new e (Ok d) is left = absurd is.1
  passed owner at long this that after old new e (Err f) is left = subst (λ (h : NodeFault). IsAnswered owner at long this that after old new (Err h)) (sym is.1) left

  pub passed_on : (owner : Node) (w : Writes) (l : LogState) (log after : LogView) (old new : HomeView) (e : NodeFault) (out : Result D NodeFault) → IsErr out × IsErrAnd out (λ f. f ≡ e) → IsAnsweredFor w owner l log after old new (Err e)
      → IsAnsweredFor w owner l log after old new (written_with marks out)
  passed_on owner w l log after old new e out is left = passed owner log.current.spot (IsTooLongFor w log) l.stable (stable_after w l) after old new e out is left
