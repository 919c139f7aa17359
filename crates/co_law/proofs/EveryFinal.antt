-- What is final, from any state with all invariants.
use Rattle.std.proofs.Common.{ℕ, List}
use Rattle.co_base.specs.declared.node.Node.{Node}
use Rattle.co_plain.specs.AllInvariants.{AllInvariants}
use Rattle.co_plain.specs.declared.happening.Happening.{Happening}
use Rattle.co_plain.specs.Decisions.{IsPresumedAborted}
use Rattle.co_plain.specs.Federation.{Federation}
use Rattle.co_plain.specs.Premises.{AreTrueVerdicts}
use Rattle.co_plain.specs.Runs.{run}
use Rattle.co_law_runs.specs.Finality.{IsFinal, IsLostAt, StaysLost}
use Rattle.co_law_runs.proofs.DeadStays.{run_presumed}
use Rattle.co_law_runs.proofs.Final.{timer_final}
use Rattle.co_law_runs.proofs.LostStays.{run_lost}
use Rattle.co_law.proofs.AllBack.{all_back}

pub every_presumed : (s : Federation) (hs : List Happening) (t : ℕ) → AllInvariants s → AreTrueVerdicts hs s → IsPresumedAborted s t → IsPresumedAborted (run hs s) t
every_presumed s hs t i v h = run_presumed hs s (all_back s i).facts v t h

pub every_timer : (s : Federation) (t : ℕ) (at : Node) → AllInvariants s → IsFinal s t at
every_timer s t at i = timer_final s (all_back s i).facts (all_back s i).working t at

pub every_lost : (s : Federation) (hs : List Happening) (t m : ℕ) → AllInvariants s → IsLostAt s t m → AreTrueVerdicts hs s → StaysLost s hs t m
every_lost s hs t m i l v = run_lost hs s (all_back s i).facts t m l v
