use Rattle.std.proofs.Common.{ap, ◌∙◌}
use Rattle.co_serial.specs.Records.{all_rows}
use Rattle.co_store.proofs.Reading.{noted_within}
use Rattle.co_store.proofs.store.Store.range.Goals as goal

pub returns : goal.returns
returns c = λ s h. c.into_rows.ensures ∙ ap all_rows c.in_ok-records.ensures ∙ noted_within c.args.self.now.slots s.now c.args.range.now h.values_are
