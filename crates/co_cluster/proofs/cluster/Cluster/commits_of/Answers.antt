use Rattle.std.proofs.Common.{◌≡◌, ◌∙◌, ap}
use Rattle.std.proofs.lemmas.Result.{IfOk-weaker}
use Rattle.co_plain.specs.CoordView.{recovered_commits}
use Rattle.co_plain.specs.MemberView.{numbers_from}
use Rattle.co_recover.specs.declared.past.CoordPast.{CoordPast}
use Rattle.co_durable.proofs.Rows.{numbers_again}
use Rattle.co_cluster.proofs.cluster.Cluster.commits_of.Goals as goal

pub returns : goal.returns
returns g c = λ s r.
    IfOk-weaker c.numbers_from.result (λ commits. commits ≡ numbers_from c.as_slice.result.now) (λ commits. commits ≡ (recovered_commits (s.coord c.args.coord).log.stable).seen)
    (λ commits is. is ∙ ap numbers_from (c.as_slice.ensures.value ∙ ap (λ (p : CoordPast). p.seen) (c.in_ok-past.ensures s r)) ∙ numbers_again (recovered_commits (s.coord c.args.coord).log.stable).seen)
    c.numbers_from.ensures
