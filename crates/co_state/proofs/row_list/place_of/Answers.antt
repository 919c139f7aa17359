use Rattle.std.proofs.Common.{rules}
use Rattle.std.proofs.lemmas.Fn.{always_returns_same}
use Rattle.co_base.specs.Order.{key_cmp}
use Rattle.co_state.proofs.Ascending.{end_found}
use Rattle.co_state.proofs.row_list.place_of.Goals as goal

pub returns-then-lt-clause-position : goal.returns-then-lt-clause-position
returns-then-lt-clause-position c =
    let at = c.in-Some.ensures.item.3 in
    end_found c.args.rows.now c.in-Some.last.now c.args.key.now at.0 at.1 c.if-lt.ensures

pub returns-clause-position : goal.returns-clause-position
returns-clause-position c = c.binary_search_by.ensures.position (λ row. key_cmp row.key c.args.key.now) (always_returns_same _ _ _ (λ a r f called. (search rules, search rules)))
