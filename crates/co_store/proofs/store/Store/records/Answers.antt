use Rattle.std.proofs.Common.{◌≡◌, subst, IfOk}
use Rattle.co_serial.specs.Records.{Records}
use Rattle.co_store.proofs.Reading.{noted_slots}
use Rattle.co_store.proofs.store.Store.records.Goals as goal

pub returns : goal.returns
returns c = λ s h.
    subst (λ (m : Records). IfOk c.all_records.result (λ records. records ≡ m)) (noted_slots c.args.self.now.slots s.now h.values_are) c.all_records.ensures
