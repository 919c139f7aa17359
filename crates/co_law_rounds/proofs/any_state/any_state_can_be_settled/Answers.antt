use Rattle.co_law_rounds.proofs.AnyState.{can_be_settled}
use Rattle.co_law_rounds.proofs.any_state.any_state_can_be_settled.Goals as goal

pub returns : goal.returns
returns c = can_be_settled
