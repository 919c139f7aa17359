use Rattle.std.proofs.Common.{List, map, Ok, sym, ap, ◌∙◌}
use Rattle.std.specs.Int.{w16}
use Rattle.co_base.specs.Span.{Span, span_cmp}
use Rattle.co_base.specs.Limits.{most_operations}
use Rattle.co_record.specs.Reading.{ranges_at, number_within, range_at, bounds_at, span_of}
use Rattle.co_record.proofs.Elements.{elements_as, list_read}
use Rattle.co_record.proofs.list.read_ranges.Goals as goal

pub returns : goal.returns
unfolding ranges_at
returns c =
    list_read (number_within w16 0 most_operations) range_at span_cmp c.args.bytes.now _ _ _ c.in_ok-count.ensures c.in_ok-rest.ensures
    ∙ ap (λ (xs : List Span). Ok (xs, c.in_ok-rest.rest.now)) (elements_as span_of bounds_at _ _ ∙ ap (map span_of) (sym (rw c.from.ensures at c.new.ensures)))
