use Rattle.std.proofs.Common.{◌∙◌, ℕ, List, length, ap, arith}
use Rattle.co_log.proofs.attaching.open_file.Goals as goal

pub returns-in-Ok-clause-told_short : goal.returns-in-Ok-clause-told_short
returns-in-Ok-clause-told_short g c = λ f told.
    let opened = c.in-Ok.ensures.answered.0 in
    omega (arith, opened.short, ap (λ (b : List ℕ). length b) (opened.agrees.told f (c.in-Ok.ensures.file ∙ told)))
