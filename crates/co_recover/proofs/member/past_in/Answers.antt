use Rattle.std.proofs.Common.{◌+◌, Bool, Some, None, if◌then◌else◌, refl, sym, ap, subst, ◌∙◌, arith}
use Rattle.co_record.specs.Lent.{record_of}
use Rattle.co_plain.specs.declared.member_view.MemberView.{MemberView}
use Rattle.co_plain.specs.MemberView.{member_allows, view_with, first_refused_from, recovered_view}
use Rattle.co_recover.specs.Recovered.{past_of_member}
use Rattle.co_recover.proofs.Folds.{Reached, at_start, one_more, refused_here, at_end, none_means, some_means}
use Rattle.co_recover.proofs.member.past_in.Goals as goal

pub records-init : goal.records-init
records-init c = record {
  counted = omega arith;
  reached = λ items left.
      subst (λ (v : MemberView). Reached (first_refused_from c.args.coords) recovered_view items c.args.views 0 v) (sym c.requires)
      (at_start (member_allows c.args.coords) view_with (first_refused_from c.args.coords) recovered_view (λ place v. refl) (λ place v r rs. refl) (λ r rs. refl) items c.args.views left);
}

pub returns-in-None : goal.returns-in-None
returns-in-None c = λ items left.
    let reached = c.records.invariant.reached items left in
    let last = at_end (member_allows c.args.coords) view_with (first_refused_from c.args.coords) recovered_view (λ place v. refl) (λ place v r rs. refl) (λ r rs. refl)
    items c.records.views c.records.place c.records.view reached (c.in-None.ensures.lends reached.rest reached.left) in
    (last.0, c.in_ok-past-in-None.ensures ∙ ap past_of_member last.1)

pub returns-then-not-is_allowed : goal.returns-then-not-is_allowed
returns-then-not-is_allowed c = λ items left.
    let reached = c.records.invariant.reached items left in
    let lent = c.in-Some.ensures.lends reached.rest reached.left in
    refused_here (member_allows c.args.coords) view_with (first_refused_from c.args.coords) recovered_view (λ place v. refl) (λ place v r rs. refl) (λ r rs. refl)
    items lent.0 c.records.views c.records.place c.in-Some.at c.records.view (record_of c.in-Some.item) reached lent.1
    (none_means _ _ (sym c.in_ok-is_allowed-in-Some.ensures ∙ ap (λ (b : Bool). if b then Some c.next_view.new.view else None) c.if-not-is_allowed.true))

pub records-preserved : goal.records-preserved
records-preserved c = record {
  counted = omega (arith, c.records.invariant.counted, c.in-Some.ensures.shorter);
  reached = λ items left.
      let reached = c.records.invariant.reached items left in
      let lent = c.in-Some.ensures.lends reached.rest reached.left in
      let next = some_means _ _ _ (sym c.in_ok-is_allowed-in-Some.ensures ∙ ap (λ (b : Bool). if b then Some c.next_view.new.view else None) c.if-not-is_allowed.false) in
      subst (λ (v : MemberView). Reached (first_refused_from c.args.coords) recovered_view items c.next.new.self (c.records.place + 1) v) next.1
      (one_more (member_allows c.args.coords) view_with (first_refused_from c.args.coords) recovered_view (λ place v. refl) (λ place v r rs. refl) (λ r rs. refl)
      items lent.0 c.records.views c.next.new.self c.records.place c.in-Some.at c.records.view (record_of c.in-Some.item) reached lent.1 lent.2 next.0);
}
