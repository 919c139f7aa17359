-- In every quiet state of a run some timer ends an open transaction for good.
use Rattle.std.proofs.Common.{ℕ, List, length}
use Rattle.co_base.specs.declared.head.Kind.{Kind}
use Rattle.co_plain.specs.declared.happening.Happening.{Happening}
use Rattle.co_plain.specs.Opening.{Found, opened}
use Rattle.co_plain.specs.Runs.{run}
use Rattle.co_plain.specs.Quiet.{IsOpen, IsQuiet}
use Rattle.co_plain.specs.Premises.{AreTrueVerdicts, AreOwn, AreOwnLogs, AreOpenable}
use Rattle.co_law_runs.proofs.Agreement.{run_works, opened_works}
use Rattle.co_law_runs.specs.OnlyTimers.{SomeTimerEnds}
use Rattle.co_law_runs.proofs.InQuiet.{timer_there, ends_for_good}
use Rattle.co_law_runs.proofs.Reached.{reached}
use Rattle.co_law_moves.proofs.Start.{start_facts}

pub every_quiet : (kinds : List Kind) (coords : ℕ) (fm fc : ℕ → Found) (hs : List Happening) (t : ℕ) → AreOpenable kinds coords fm fc → AreOwnLogs kinds coords fm fc → AreTrueVerdicts hs (opened kinds coords fm fc) →
    AreOwn (length kinds) coords hs → IsQuiet (run hs (opened kinds coords fm fc)) → IsOpen (run hs (opened kinds coords fm fc)) t → SomeTimerEnds (run hs (opened kinds coords fm fc))
every_quiet kinds coords fm fc hs t g own v names quiet open' =
    let s = run hs (opened kinds coords fm fc) in
    let r = reached kinds coords fm fc hs g own v names in
    ends_for_good s r.facts (run_works hs (opened kinds coords fm fc) (start_facts kinds coords fm fc g) v (opened_works kinds coords fm fc)) quiet
    (timer_there s r.facts r.sessions r.opened quiet t open')
