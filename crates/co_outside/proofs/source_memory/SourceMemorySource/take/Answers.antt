use Rattle.std.proofs.Common.{arith}
use Rattle.std.proofs.lemmas.Grind.{common_steps}
use Rattle.std.proofs.Math.Seq.{take-add}
use Rattle.co_outside.proofs.source_memory.SourceMemorySource.take.Goals as goal

pub returns-clause-gave : goal.returns-clause-gave
returns-clause-gave c =
    let more = take-add c.args.self.now.at c.min-count.result c.args.self.now.bytes.items in
    grind (arith, common_steps)
