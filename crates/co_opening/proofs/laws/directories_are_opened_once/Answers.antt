use Rattle.co_opening.proofs.OpenedOnce.{refused_once, fit_or_refused}
use Rattle.co_opening.proofs.laws.directories_are_opened_once.Goals as goal

pub returns-clause-refused : goal.returns-clause-refused
returns-clause-refused c = λ file head resume this that told own its. refused_once file head resume told this that own its

pub returns-clause-either : goal.returns-clause-either
returns-clause-either c = λ file head resume fm fc fault told own fit found few. fit_or_refused file head resume told fm fc fault own fit found few
