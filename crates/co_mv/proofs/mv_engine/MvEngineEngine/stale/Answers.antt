use Rattle.std.proofs.Common.{sym, ap, ◌∙◌}
use Rattle.std.specs.FinMap.{entries}
use Rattle.co_state.specs.Keys.{least_key}
use Rattle.co_mv.specs.Overwritten.{written_within}
use Rattle.co_engine.specs.Undecided.{or_nothing}
use Rattle.co_mv.proofs.Seeing.{all_ordered}
use Rattle.co_mv.proofs.Standing.{stale_alike, stale_absent}
use Rattle.co_mv.proofs.mv_engine.MvEngineEngine.stale.Goals as goal

pub returns-in-Some : goal.returns-in-Some
returns-in-Some c = λ b s h.
    c.least_written.ensures (all_ordered c.args.self.now.archive b.base b.installed s.keeps)
    ∙ (λ i. least_key (written_within (c.stamp_of.ensures i) (entries c.args.self.now.archive.chains) ((c.reads.ensures ∙ ap (λ x. (or_nothing x).reads) c.in-Some.ensures) i)))
    ∙ stale_alike c.args.self.now b c.args.t s h

pub returns-in-None : goal.returns-in-None
returns-in-None c = λ b s h. stale_absent c.args.self.now b c.args.t s h (sym c.in-None.ensures)
