use Rattle.co_law_exact.proofs.AnswerEvents.{operation_answers}
use Rattle.co_law_exact.proofs.events.operation_answers_are_exact_events.Goals as goal

pub returns : goal.returns
returns c = operation_answers
