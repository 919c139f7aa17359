use Rattle.std.proofs.Common.{List, map, Ok, sym, ap, ◌∙◌}
use Rattle.std.specs.Int.{w32}
use Rattle.co_base.specs.declared.row.Row.{Row}
use Rattle.co_record.specs.Reading.{rows_at, number_at, row_at, entry_at, row_of, row_cmp}
use Rattle.co_record.proofs.Elements.{elements_as, list_read}
use Rattle.co_record.proofs.list.read_rows.Goals as goal

pub returns : goal.returns
unfolding rows_at
returns c =
    list_read (number_at w32) (row_at c.args.version) row_cmp _ _ _ _ c.in_ok-count.ensures c.in_ok-rest.ensures
    ∙ ap (λ (xs : List Row). Ok (xs, c.in_ok-rest.rest.now)) (elements_as row_of (entry_at c.args.version) _ _ ∙ ap (map row_of) (sym c.new.ensures))
