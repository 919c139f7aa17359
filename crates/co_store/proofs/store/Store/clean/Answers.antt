use Rattle.std.proofs.Common.{ap, ◌∙◌}
use Rattle.std.specs.FinMap.{entries}
use Rattle.co_serial.specs.Records.{all_rows}
use Rattle.co_store.specs.StoreState.{all_laid_back}
use Rattle.co_store.proofs.store.Store.clean.Goals as goal

pub returns : goal.returns
returns c = λ s h. c.into_rows.ensures ∙ ap all_rows (c.in_ok-lay_all.ensures ∙ (λ i. all_laid_back (c.in_ok-records.ensures s h i) (entries (h.undos_are i))))
