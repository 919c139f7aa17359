use Rattle.std.proofs.Common.{ap, ◌∙◌, sym}
use Rattle.std.specs.FinMap.{entries}
use Rattle.co_state.specs.Table.{is_above, first_in}
use Rattle.co_state.proofs.Above.{first_passes, first_first}
use Rattle.co_state.proofs.table.Table.first_above.Goals as goal

pub returns-in-Some : goal.returns-in-Some
returns-in-Some g c =
    c.next_above.ensures ∙ first_passes c.in-Some.txn (entries c.args.self.now) ∙ ap (λ o. first_in (λ t e. is_above o t) (entries c.args.self.now)) (sym c.in-Some.is)

pub returns-in-None : goal.returns-in-None
returns-in-None g c =
    c.first.ensures ∙ first_first (entries c.args.self.now) ∙ ap (λ o. first_in (λ t e. is_above o t) (entries c.args.self.now)) (sym c.in-None.is)
