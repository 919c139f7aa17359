use Rattle.std.proofs.Common.{sym, subst}
use Rattle.co_check.specs.Checked.{IsCheck}
use Rattle.co_check.proofs.Plainly.{reading_checks}
use Rattle.co_check.proofs.lines.check_items.Goals as goal

pub returns-clause-checked : goal.returns-clause-checked
returns-clause-checked g c = λ text e. subst (IsCheck text) (sym c.verdict_of.ensures) (reading_checks text c.read_items.result (c.read_items.ensures.checked text e))

pub returns-clause-heard : goal.returns-clause-heard
returns-clause-heard g c = λ text more ahead. subst (IsCheck text) (sym c.verdict_of.ensures) (reading_checks text c.read_items.result (c.read_items.ensures.heard text more ahead))
