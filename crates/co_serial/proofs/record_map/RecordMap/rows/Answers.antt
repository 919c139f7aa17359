use Rattle.std.proofs.Common.{◌≡◌, [], ◌++◌, map, ap, sym, ◌∙◌, subst, rules}
use Rattle.co_base.specs.RowOrder.{IsInKeyOrder}
use Rattle.co_serial.specs.Records.{row_of, all_rows}
use Rattle.co_serial.proofs.RecordRows.{made_all, rows-in_order, all_rows-view}
use Rattle.co_serial.proofs.record_map.RecordMap.rows.Goals as goal

pub of-requires : goal.of-requires
of-requires c =
    let e : c.loop-key.key-iterator ≡ [] = search rules in
    let i : c.into_iter-key-iterator.result ≡ c.self.inside.map.entries = cc in
    let h : c.loop-key.rows.items ++ map row_of c.loop-key.key-iterator ≡ map row_of c.self.inside.map.entries = cc in
    subst IsInKeyOrder (sym (made_all _ _ _ h e)) (rows-in_order _ c.iter-key-items.ensures.ordered)

pub returns : goal.returns
returns c =
    let e : c.loop-key.key-iterator ≡ [] = search rules in
    let i : c.into_iter-key-iterator.result ≡ c.self.inside.map.entries = cc in
    let h : c.loop-key.rows.items ++ map row_of c.loop-key.key-iterator ≡ map row_of c.self.inside.map.entries = cc in
    c.of.ensures ∙ made_all _ _ _ h e ∙ sym (all_rows-view _ c.iter-key-items.ensures.ordered) ∙ ap all_rows c.self.view_is
