use Rattle.std.proofs.Common.{sym, ap, subst, ◌∙◌}
use Rattle.co_state.specs.Effects.{after_drop}
use Rattle.co_index.specs.Indexed.{IsIndexOf}
use Rattle.co_index.specs.Touching.{without_reads, without_writes}
use Rattle.co_index.proofs.Indexing.{index_gone}
use Rattle.co_index.proofs.index.Index.forget.Goals as goal

pub returns : goal.returns
returns c = λ b is same.
    let own = c.args.own.now in
    subst (λ y. IsIndexOf y (after_drop b c.args.t))
    (sym (c.forget_writes.ensures ∙ ap (λ ws. without_writes c.forget_reads.new.self ws c.args.t) c.writes.ensures
    ∙ ap (λ x. without_writes x own.writes c.args.t) (c.forget_reads.ensures ∙ ap (λ rs. without_reads c.args.self.now rs c.args.t) c.reads.ensures)))
    (index_gone b c.args.t c.args.self.now own same is)
