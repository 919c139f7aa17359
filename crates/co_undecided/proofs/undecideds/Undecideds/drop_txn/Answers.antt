use Rattle.std.proofs.Common.{None, ap, ◌∙◌}
use Rattle.co_state.specs.Table.{look, without}
use Rattle.co_undecided.specs.Kept.{entry_of}
use Rattle.co_state.specs.Effects.{after_drop}
use Rattle.co_undecided.proofs.Numbered.{gone, left}
use Rattle.co_undecided.proofs.Entering.{taken}
use Rattle.co_undecided.proofs.Standing.{left_apart, left_marks}
use Rattle.co_undecided.proofs.undecideds.Undecideds.drop_txn.Goals as goal

pub returns-clause-stands : goal.returns-clause-stands
returns-clause-stands g c = λ b asked r undecided.
    let t = c.args.t in
    record {
      engine = c.drop_txn.ensures.state b r.engine undecided;
      index = c.forget.ensures b r.index (c.sets.ensures b r.engine undecided);
      entries = λ u. ap (λ es. look es u) c.take.ensures ∙ taken b asked _ t r.entries (after_drop b t) (without asked t)
          (ap (λ a. entry_of a (look (without b.voted t) t) (look (without asked t) t)) (gone b.active t) ∙ ap (λ v. entry_of None v (look (without asked t) t)) (gone b.voted t))
          (λ v n. ap (λ a. entry_of a (look (without b.voted t) v) (look (without asked t) v)) (left b.active t v n)
          ∙ ap (λ w. entry_of (look b.active v) w (look (without asked t) v)) (left b.voted t v n) ∙ ap (entry_of (look b.active v) (look b.voted v)) (left asked t v n)) u;
      apart = left_apart b.active b.voted asked r.apart r.marks t;
      marks = left_marks b.active b.voted asked r.apart r.marks t;
    }
