use Rattle.co_law_courtesy.proofs.Courteous.{kept, serial, weaker}
use Rattle.co_law_courtesy.proofs.courtesy.active_readers_are_a_courtesy.Goals as goal

pub returns-clause-kept : goal.returns-clause-kept
returns-clause-kept c = kept

pub returns-clause-serial : goal.returns-clause-serial
returns-clause-serial c = serial

pub returns-clause-weaker : goal.returns-clause-weaker
returns-clause-weaker c = weaker
