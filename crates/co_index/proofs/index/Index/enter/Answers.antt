use Rattle.std.proofs.Common.{sym, ap, subst, ◌∙◌}
use Rattle.co_state.proofs.Tables.{on_ok}
use Rattle.co_index.specs.Indexed.{IsIndexOf, with_vote}
use Rattle.co_index.specs.Touching.{with_reads, with_writes}
use Rattle.co_index.proofs.Indexing.{index_entered}
use Rattle.co_index.proofs.index.Index.enter.Goals as goal

pub returns : goal.returns
returns c = λ b is absent.
    let p = c.args.vote.now in
    on_ok c.add_writes.result (λ e.
    subst (λ y. IsIndexOf y (with_vote b p))
    (sym (e ∙ ap (λ ws. with_writes c.add_reads.new.self ws p.txn) c.writes.ensures
    ∙ ap (λ x. with_writes x p.sets.writes p.txn) (c.in_ok-add_reads.ensures ∙ ap (λ rs. with_reads c.args.self.now rs p.txn) c.reads.ensures)))
    (index_entered b c.args.self.now p absent is)) c.add_writes.ensures
