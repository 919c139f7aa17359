use Rattle.std.proofs.Common.{refl, sym, ◌∙◌, arith}
use Rattle.co_schedule.specs.Spelling.{line_text}
use Rattle.co_schedule.proofs.EventLaws.{words_of_line, same_event}
use Rattle.co_schedule.proofs.HeadUnique.{head_line}
use Rattle.co_schedule.proofs.laws.one_line.Goals as goal

pub returns-clause-events : goal.returns-clause-events
returns-clause-events c members coords this that m n p q e =
    same_event members coords this that (omega arith) (omega arith) p q (sym (words_of_line members coords this (line_text this) (omega arith) (omega arith) p refl) ∙ words_of_line members coords that (line_text this) (omega arith) (omega arith) q e)

pub returns-clause-heads : goal.returns-clause-heads
returns-clause-heads c this that e = head_line this that e
