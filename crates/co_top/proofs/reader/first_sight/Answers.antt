use Rattle.std.proofs.Common.{◌∙◌, sym}
use Rattle.co_top.proofs.reader.first_sight.Goals as goal

pub rows_asked-requires-clause-up : goal.rows_asked-requires-clause-up
rows_asked-requires-clause-up g c = let w = c.requires.stands in (w.0, w.1, sym (c.up.ensures w.0 w.1) ∙ c.if-up.true)
