use Rattle.co_law_rounds.proofs.Fairly.{few_rounds, one_more_round, all_ended}
use Rattle.co_law_rounds.proofs.rounds.every_transaction_ends.Goals as goal

pub returns-clause-few : goal.returns-clause-few
returns-clause-few c = λ kinds coords fm fc hs rounds g own v names unarmed go. few_rounds kinds coords fm fc hs g own v names unarmed rounds go

pub returns-clause-next : goal.returns-clause-next
returns-clause-next c = λ kinds coords fm fc hs rounds t g own v names unarmed go up o. one_more_round kinds coords fm fc hs g own v names unarmed rounds go up t o

pub returns-clause-ended : goal.returns-clause-ended
returns-clause-ended c = λ kinds coords fm fc hs rounds g own v names unarmed go up most. all_ended kinds coords fm fc hs g own v names unarmed rounds go up most
