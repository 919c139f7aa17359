use Rattle.std.proofs.Common.{sym, subst}
use Rattle.std.proofs.lemmas.List.{take_rest}
use Rattle.co_record.specs.Lent.{record_of}
use Rattle.co_record.specs.Stored.{RecordWalk, HasLeft}
use Rattle.co_record.proofs.Walks.{lent, not_missed}
use Rattle.co_record.proofs.Records.{newest_too}
use Rattle.co_record.proofs.views.Views.next.Goals as goal

pub returns-in-None-clause-lends : goal.returns-in-None-clause-lends
returns-in-None-clause-lends c = λ items left. c.in-None.ensures.left c.self.inside.version items (subst (λ (w : RecordWalk). HasLeft w items) (sym c.self.view_is) left)

pub returns-in-Ok-clause-lends : goal.returns-in-Ok-clause-lends
returns-in-Ok-clause-lends c = λ items left.
    lent c.self.inside.version c.next_bytes.new.batches c.in-Some.at c.in-Ok.length c.in-Some.rest.now _ (record_of c.in-Ok.view) (take_rest c.in-Some.rest.now c.in-Ok.length) c.in-Ok.ensures.only items
    (c.in-Some.ensures.left c.self.inside.version items (subst (λ (w : RecordWalk). HasLeft w items) (sym c.self.view_is) left))

pub returns-in-Err-clause-lends : goal.returns-in-Err-clause-lends
returns-in-Err-clause-lends c = λ items left.
    not_missed c.self.inside.version c.next_bytes.new.batches c.in-Some.at c.in-Some.rest.now c.in-Err.field-0 c.in-Err.ensures.only items
    (c.in-Some.ensures.left c.self.inside.version items (subst (λ (w : RecordWalk). HasLeft w items) (sym c.self.view_is) left))

pub returns-in-Ok-clause-spelled : goal.returns-in-Ok-clause-spelled
returns-in-Ok-clause-spelled c = newest_too c.self.inside.version c.self.invariant.0 (record_of c.in-Ok.view) c.in-Ok.ensures.found.spelled
