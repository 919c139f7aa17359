use Rattle.std.proofs.Common.{◌+◌, refl, sym, ap, subst, ◌∙◌, arith}
use Rattle.co_record.specs.Lent.{record_of}
use Rattle.co_plain.specs.declared.coord_view.CoordView.{CoordView}
use Rattle.co_plain.specs.CoordView.{coord_allows, commits_with, first_refused_commit, recovered_commits}
use Rattle.co_recover.specs.Recovered.{past_of_coord}
use Rattle.co_recover.proofs.Folds.{Reached, one_more, refused_here, at_end, none_means, some_means}
use Rattle.co_recover.proofs.coord.recover_coord.Goals as goal

pub returns-in-None : goal.returns-in-None
returns-in-None c = λ items left.
    let reached = c.records.invariant.reached items left in
    let last = at_end (coord_allows c.args.members) commits_with (first_refused_commit c.args.members) recovered_commits (λ place v. refl) (λ place v r rs. refl) (λ r rs. refl)
    items c.records.views c.records.place c.records.view reached (c.in-None.ensures.lends reached.rest reached.left) in
    (last.0, c.in_ok-past_of-in-None.ensures ∙ ap past_of_coord last.1)

pub returns-in-None-2 : goal.returns-in-None-2
returns-in-None-2 c = λ items left.
    let reached = c.records.invariant.reached items left in
    let lent = c.in-Some.ensures.lends reached.rest reached.left in
    refused_here (coord_allows c.args.members) commits_with (first_refused_commit c.args.members) recovered_commits (λ place v. refl) (λ place v r rs. refl) (λ r rs. refl)
    items lent.0 c.records.views c.records.place c.in-Some.at c.records.view (record_of c.in-Some.item) reached lent.1
    (none_means _ _ (sym c.in_ok-next_view-in-Some.ensures ∙ c.in-None-2.is))

pub records-preserved : goal.records-preserved
records-preserved c = record {
  counted = omega (arith, c.records.invariant.counted, c.in-Some.ensures.shorter);
  reached = λ items left.
      let reached = c.records.invariant.reached items left in
      let lent = c.in-Some.ensures.lends reached.rest reached.left in
      let next = some_means _ _ _ (sym c.in_ok-next_view-in-Some.ensures ∙ c.in-Some-2.is) in
      subst (λ (v : CoordView). Reached (first_refused_commit c.args.members) recovered_commits items c.next.new.self (c.records.place + 1) v) next.1
      (one_more (coord_allows c.args.members) commits_with (first_refused_commit c.args.members) recovered_commits (λ place v. refl) (λ place v r rs. refl) (λ r rs. refl)
      items lent.0 c.records.views c.next.new.self c.records.place c.in-Some.at c.records.view (record_of c.in-Some.item) reached lent.1 lent.2 next.0);
}
