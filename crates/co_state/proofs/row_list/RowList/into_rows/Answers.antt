use Rattle.std.proofs.Common.{sym, ap, ◌∙◌}
use Rattle.co_serial.specs.Records.{all_rows}
use Rattle.co_state.proofs.Ascending.{all_rows-from}
use Rattle.co_state.proofs.row_list.RowList.into_rows.Goals as goal

pub returns : goal.returns
returns c = c.of.ensures ∙ sym (all_rows-from _ c.self.invariant) ∙ ap all_rows c.self.view_is
