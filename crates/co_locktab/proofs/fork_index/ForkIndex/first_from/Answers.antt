use Rattle.std.proofs.Common.{◌≡◌, List, refl, ap, sym, ◌∙◌, subst, false}
use Rattle.std.specs.BTreeSet.{IsKeyInRange}
use Rattle.std.specs.BTreeMap.Range.{IsLeBy}
use Rattle.std.specs.List.{slice_get}
use Rattle.std.specs.Option.{IfSome}
use Rattle.std.specs.Ordering.{is_gt}
use Rattle.std.specs.declared.ops.Bound.TheVariants.{Included, Unbounded}
use Rattle.co_base.specs.Span.{Span}
use Rattle.co_locktab.specs.declared.place.Place.{Place}
use Rattle.co_locktab.specs.Places.{by_lower, fork_cmp}
use Rattle.co_locktab.proofs.Behind.{place_before, from_place, not_above}
use Rattle.co_locktab.proofs.fork_index.ForkIndex.first_from.Goals as goal

pub returns : goal.returns
returns c =
    let set = c.args.self.now.lower in
    let fork = c.args.fork.now in
    let first = c.in_ok-first.first.now in
    let start : c.before-start.result ≡ place_before fork = c.before-start.ensures in
    let all = c.range.ensures.in_range tt in
    let in_set : IsKeyInRange by_lower (Included c.before-start.result) Unbounded set first =
    subst (λ (ps : List (Place Span)). IfSome (slice_get ps 0) (IsKeyInRange by_lower (Included c.before-start.result) Unbounded set)) c.in_ok-first.ensures.steps all.1 in
    let from : is_gt (by_lower (place_before fork) first) ≡ false = ap (λ (p : Place Span). is_gt (by_lower p first)) (sym start) ∙ in_set.0.0 in (
      (first, refl, not_above (fork_cmp fork first.fork) _ from, in_set.1),
      λ p l e. not_above (fork_cmp first.fork p.fork) _
          (subst (λ (ps : List (Place Span)). IfSome (slice_get ps 0) (λ k. IsLeBy by_lower k p)) c.in_ok-first.ensures.steps
          (all.2 p (ap (λ (q : Place Span). is_gt (by_lower q p)) start ∙ from_place fork p l, tt) e)),
    )
