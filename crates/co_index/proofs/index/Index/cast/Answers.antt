use Rattle.std.proofs.Common.{sym, ap, subst, ◌∙◌}
use Rattle.co_state.specs.Effects.{after_cast}
use Rattle.co_index.specs.Indexed.{IsIndexOf}
use Rattle.co_index.specs.Touching.{with_votes}
use Rattle.co_index.proofs.Indexing.{index_cast}
use Rattle.co_index.proofs.index.Index.cast.Goals as goal

pub returns : goal.returns
returns c = λ b coord count is unvoted same.
    subst (λ y. IsIndexOf y (after_cast b c.args.t coord count)) (sym (c.mark_writes.ensures ∙ ap (λ ws. with_votes c.args.self.now ws c.args.t) c.writes.ensures))
    (index_cast b c.args.t c.args.self.now c.args.own.now coord count unvoted same is)
