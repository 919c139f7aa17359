-- How the directory stays where records were not spelled out.
use Rattle.std.proofs.Common.{◌≤◌, List, ◌++◌, length, refl}
use Rattle.std.specs.Prelude.{reverse, Err}
use Rattle.co_base.specs.declared.node.Node.{Node}
use Rattle.co_record.specs.declared.record.Record.{Record}
use Rattle.co_log.specs.Appending.{IsTooLong}
use Rattle.co_log.specs.LogView.{LogView, IsHeld, IsShort}
use Rattle.co_log.specs.declared.fault.NodeFault.{NodeFault}
use Rattle.co_log.specs.declared.fault.NodeFault.TheVariants.{Device, Differs, Full, Memory}
use Rattle.co_plain.specs.LogWrite.{with_batch}
use Rattle.co_plain.specs.declared.log_state.LogState.{LogState}
use Rattle.co_outside.specs.Home.{HomeView}
use Rattle.co_node.specs.Answers.{IsAnswered}
use Rattle.co_node.specs.Batches.{AreSpelledOut}
use Rattle.co_node.specs.NodeLog.{RepresentsLog}
use Rattle.co_node.proofs.Opened.{left_before}
use Rattle.co_node.proofs.Sizes.{forced_is_overlong}

pub unspelled_answered : (owner : Node) (log : LogView) (l : LogState) (more : List Record) (home : HomeView) (e : NodeFault) → RepresentsLog owner log l → IsHeld home log → IsShort log.current × IsShort log.spare → 1 ≤ length more
    → AreSpelledOut log more (Err e) → IsAnswered owner log.current.spot (IsTooLong log.gate (log.waiting ++ more)) l.stable (with_batch l (reverse more)).stable log home home (Err e)
unspelled_answered owner log l more home (Device spot) s held short some is = absurd is
unspelled_answered owner log l more home (Differs spot at kept read) s held short some is = absurd is
unspelled_answered owner log l more home (Full spot) s held short some is = record { spot = is.0; long = is.1; overlong = forced_is_overlong owner log l more s some is.1; untouched = refl }
unspelled_answered owner log l more home Memory s held short some is = record { left = left_before owner home log l s held short; quiet = refl }
