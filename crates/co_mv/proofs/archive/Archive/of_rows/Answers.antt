use Rattle.std.proofs.Common.{ap, ◌∙◌, refl}
use Rattle.co_mv.specs.Chains.{chains_from}
use Rattle.co_mv.proofs.Archiving.{keeps_rows}
use Rattle.co_mv.proofs.archive.Archive.of_rows.Goals as goal

pub returns-clause-keeps : goal.returns-clause-keeps
returns-clause-keeps c = keeps_rows _ c.args.rows refl c.new.ensures c.new-2.ensures (c.in_ok-of_rows.ensures ∙ ap chains_from c.into_vec.ensures.value) c.new-3.ensures
