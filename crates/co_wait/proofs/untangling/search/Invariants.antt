use Rattle.co_wait.specs.Searching.{IsSearching, KeepsEnded, work_left}
use Rattle.co_wait.proofs.untangling.search.Given as goal

abbrev pub invariant-loop-path : goal.invariant-loop-path
invariant-loop-path l = record {
  searching : IsSearching l.waits l.fn.first l.known l.path.items l.visit;
  kept : KeepsEnded l.fn.known l.known;
}

abbrev pub decreases-loop-path : goal.decreases-loop-path
decreases-loop-path l = work_left l.waits l.known l.path.items l.visit.place
