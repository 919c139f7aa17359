use Rattle.std.proofs.Common.{◌∙◌, sym, arith}
use Rattle.co_schedule.proofs.EventLaws.{line_of_words, words_of_line, same_event, no_fault}
use Rattle.co_schedule.proofs.reading.read_for.Goals as goal

pub returns-in-Ok-clause-found : goal.returns-in-Ok-clause-found
returns-in-Ok-clause-found c = (c.in-Ok.ensures.found.0, line_of_words c.args.line.now _ c.in-Ok.ensures.found.1)

pub returns-in-Ok-clause-only : goal.returns-in-Ok-clause-only
returns-in-Ok-clause-only c event it h small =
    same_event _ _ _ event (omega arith) (omega arith) c.in-Ok.ensures.found.0 it (sym c.in-Ok.ensures.found.1 ∙ words_of_line _ _ event c.args.line.now (omega arith) (omega arith) it h)

pub returns-in-Err-clause-only : goal.returns-in-Err-clause-only
returns-in-Err-clause-only c event it h small =
    no_fault _ _ event _ c.in-Err.mistake (omega arith) (omega arith) it (words_of_line _ _ event c.args.line.now (omega arith) (omega arith) it h) c.in-Err.ensures.fault
