-- The invariants: at the start, and by each event, each move and each run.
use Rattle.std.proofs.Common.{ℕ, ◌≤◌, List}
use Rattle.co_base.specs.declared.head.Kind.{Kind}
use Rattle.co_plain.specs.AllInvariants.{AllInvariants}
use Rattle.co_plain.specs.declared.happening.Happening.{Happening}
use Rattle.co_plain.specs.Federation.{Federation}
use Rattle.co_plain.specs.Moves.{Move, GuardsHold, all_effects}
use Rattle.co_plain.specs.Opening.{Found, opened}
use Rattle.co_plain.specs.Premises.{AreOpenable, AreTrueVerdicts, IsTrueVerdict, IsOwn}
use Rattle.co_plain.specs.Runs.{run}
use Rattle.co_plain.specs.Step.{step}
use Rattle.co_law_moves.specs.OwnFacts.{KeptByEach}
use Rattle.co_law_moves.proofs.KeptBySelf.{kept_by_each}
use Rattle.co_law_node.specs.WholeNodes.{AreWhole}
use Rattle.co_law.specs.MessageHomes.{MessagesNameHomes}
use Rattle.co_law.proofs.AllBack.{all_back}
use Rattle.co_law.proofs.AllFacts.{all_start, all_step, all_moves, all_run}
use Rattle.co_law.proofs.AllFrom.{all_from}
use Rattle.co_law.proofs.EveryHome.{step_names}
use Rattle.co_law.proofs.WholeRuns.{step_whole}

pub start_invariants : (kinds : List Kind) (coords : ℕ) (fm fc : ℕ → Found) → AreOpenable kinds coords fm fc → AllInvariants (opened kinds coords fm fc)
start_invariants kinds coords fm fc g = all_from (opened kinds coords fm fc) (all_start kinds coords fm fc g)

pub step_invariants : (s : Federation) (h : Happening) → AllInvariants s → IsTrueVerdict s h → AllInvariants (step s h).state
step_invariants s h i v = all_from (step s h).state (all_step s (all_back s i) h v)

pub moves_invariants : (s : Federation) (moves : List Move) → AllInvariants s → GuardsHold moves s → AllInvariants (all_effects moves s)
moves_invariants s moves i g = all_from (all_effects moves s) (all_moves moves s (all_back s i) g)

pub every_invariant : (kinds : List Kind) (coords : ℕ) (fm fc : ℕ → Found) (hs : List Happening) → AreOpenable kinds coords fm fc →
    AreTrueVerdicts hs (opened kinds coords fm fc) → AllInvariants (run hs (opened kinds coords fm fc))
every_invariant kinds coords fm fc hs g v =
    all_from (run hs (opened kinds coords fm fc)) (all_run hs (opened kinds coords fm fc) (all_start kinds coords fm fc g) v)

pub each_by_itself : (s : Federation) → AllInvariants s → KeptByEach s
each_by_itself s i = kept_by_each s (all_back s i).own

pub step_nodes_whole : (members coords : ℕ) (s : Federation) (h : Happening) → 1 ≤ coords → AllInvariants s → AreWhole members coords s → IsOwn members coords h →
    AreWhole members coords (step s h).state
step_nodes_whole members coords s h some i w own = step_whole members coords some s (all_back s i).own w h own

pub step_homes : (s : Federation) (h : Happening) → AllInvariants s → MessagesNameHomes s → IsTrueVerdict s h → MessagesNameHomes (step s h).state
step_homes s h i named v = step_names s (all_back s i).facts h v named
