use Rattle.std.proofs.Common.{◌≡◌, [], map, filter, ap, ◌∙◌, sym, subst, rules}
use Rattle.std.specs.FinMap.{entries}
use Rattle.co_base.specs.RowOrder.{IsInKeyOrder}
use Rattle.co_base.specs.Span.{span_has}
use Rattle.co_serial.specs.Records.{row_of}
use Rattle.co_serial.proofs.RecordRows.{made_all}
use Rattle.co_serial.proofs.RowsInOrder.{rows_ordered}
use Rattle.co_serial.proofs.record_map.RecordMap.rows_within.Goals as goal

pub of-requires : goal.of-requires
of-requires c =
    let e : c.loop-key.key-iterator ≡ [] = search rules in
    let i : c.into_iter-key-iterator.result ≡ filter (λ entry. span_has c.args.range.now entry.0) (entries c.args.self.now) = cc in
    subst IsInKeyOrder (sym (made_all _ _ _ (c.loop-key.invariant ∙ ap (map row_of) i) e)) (rows_ordered c.args.self.now c.args.range.now)

pub returns : goal.returns
returns c =
    let e : c.loop-key.key-iterator ≡ [] = search rules in
    let i : c.into_iter-key-iterator.result ≡ filter (λ entry. span_has c.args.range.now entry.0) (entries c.args.self.now) = cc in
    c.of.ensures ∙ made_all _ _ _ (c.loop-key.invariant ∙ ap (map row_of) i) e
