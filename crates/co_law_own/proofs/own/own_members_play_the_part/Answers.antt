use Rattle.co_law_own.proofs.OwnRun.{plays}
use Rattle.co_law_own.proofs.own.own_members_play_the_part.Goals as goal

pub returns : goal.returns
returns c = plays
