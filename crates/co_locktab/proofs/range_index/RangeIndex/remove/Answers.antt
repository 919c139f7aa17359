use Rattle.std.proofs.Common.{subst, sym, ap, ◌∙◌, not, ◌&&◌}
use Rattle.std.specs.BTreeSet.{contains}
use Rattle.std.specs.Ordering.{eq_by_cmp}
use Rattle.co_base.specs.Span.{Span}
use Rattle.std.specs.FinMap.{get}
use Rattle.co_locktab.specs.Holding.{is_left, left_at}
use Rattle.co_locktab.specs.Places.{IsIndexed, lower_place, upper_place, by_lower, by_upper}
use Rattle.co_locktab.proofs.Indexing.{ended_is, not_ended, indexed_left, indexed_without}
use Rattle.co_locktab.proofs.range_index.RangeIndex.remove.Goals as goal

pub returns-in-Some-clause-indexed : goal.returns-in-Some-clause-indexed
returns-in-Some-clause-indexed c = λ x.
    let table = c.args.self.now in
    let range = c.args.range.now in
    let b = is_left (get (left_at table.held range c.args.t) range) in
    let ended = ended_is b c.in-Some.ended range c.in-Some.ensures.ended in
    subst (λ m. IsIndexed m c.remove-in-Some.new.self) (sym c.in-Some.ensures.rest)
    (indexed_without table.held table.forks c.remove-in-Some.new.self range c.args.t ended.0
    (λ p. c.remove-in-Some.ensures.lower p ∙ ap (λ (s : Span). not (eq_by_cmp by_lower (lower_place s) p) && contains by_lower table.forks.lower p) ended.1)
    (λ p. c.remove-in-Some.ensures.upper p ∙ ap (λ (s : Span). not (eq_by_cmp by_upper (upper_place s) p) && contains by_upper table.forks.upper p) ended.1) x)

pub returns-in_default-clause-indexed : goal.returns-in_default-clause-indexed
returns-in_default-clause-indexed c = λ x.
    let table = c.args.self.now in
    let range = c.args.range.now in
    let b = is_left (get (left_at table.held range c.args.t) range) in
    subst (λ m. IsIndexed m table.forks) (sym c.in_default.ensures.rest)
    (indexed_left table.held table.forks range c.args.t (not_ended b range c.in_default.ensures.ended) x)
