use Rattle.std.proofs.Common.{Some}
use Rattle.co_check.specs.Text.{told_in}
use Rattle.co_check.specs.Written.{answers_of}
use Rattle.co_check.proofs.Verdicts.{written}
use Rattle.co_check.proofs.writing.write_judged.Goals as goal

pub returns-in-Ok-clause-written : goal.returns-in-Ok-clause-written
returns-in-Ok-clause-written g c = λ text held is told.
    written (told_in c.args.detail) (answers_of c.args.input) text held (g.K.Sink.told c.write_verdict.new.out) c.in-Ok.verdict c.write_verdict.result (c.in-Ok.ensures.checked text is) (c.write_verdict.ensures.put held told)

pub returns-in-Ok-clause-heard : goal.returns-in-Ok-clause-heard
returns-in-Ok-clause-heard g c = λ text more ahead.
    written (told_in c.args.detail) (answers_of c.args.input) text (g.K.Sink.took c.args.out.now) (Some (g.K.Sink.took c.write_verdict.new.out)) c.in-Ok.verdict c.write_verdict.result
    (c.in-Ok.ensures.heard text more ahead) c.write_verdict.ensures.took
