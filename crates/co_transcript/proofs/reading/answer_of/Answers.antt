use Rattle.std.proofs.Common.{sym, subst}
use Rattle.std.specs.Prelude.{IfErr}
use Rattle.co_schedule.specs.Faults.{IsFirstFault}
use Rattle.co_schedule.specs.Places.{Places}
use Rattle.co_transcript.proofs.reading.answer_of.Goals as goal

pub returns-in-Some-clause-fault : goal.returns-in-Some-clause-fault
returns-in-Some-clause-fault c =
    subst (λ (places : Places). IfErr c.alone.result (IsFirstFault places c.args.words.now)) (sym c.in-Some.ensures.found.2) c.alone.ensures.fault
