use Rattle.co_law_exact.proofs.AnswerEvents.{vote_answers}
use Rattle.co_law_exact.proofs.events.vote_answers_are_exact_events.Goals as goal

pub returns : goal.returns
returns c = vote_answers
