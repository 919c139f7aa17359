use Rattle.co_top.proofs.Resuming.{found_soundly}
use Rattle.co_top.proofs.runs.runs_go_on.Goals as goal

pub returns : goal.returns
returns c = λ resume input more old new r next sound left kinds coords told. found_soundly r next sound kinds coords told left
