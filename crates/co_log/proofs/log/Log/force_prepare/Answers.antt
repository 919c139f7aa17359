use Rattle.co_log.proofs.log.Log.force_prepare.Goals as goal

pub returns-clause-called : goal.returns-clause-called
returns-clause-called g c = c.force_all.ensures.called
