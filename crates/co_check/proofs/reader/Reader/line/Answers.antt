use Rattle.co_check.proofs.Entries.{line_taken}
use Rattle.co_check.proofs.reader.Reader.line.Goals as goal

pub returns-in-Some-clause-taken : goal.returns-in-Some-clause-taken
returns-in-Some-clause-taken c = λ s k.
    let told = rw c.in-Some.is at c.in_ok-entry.ensures.found in
    line_taken s c.args.number c.args.line.now c.in-Some.entry c.take.result told.0 told.1 (c.take.ensures.taken s k)
