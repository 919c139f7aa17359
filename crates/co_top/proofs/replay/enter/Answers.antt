use Rattle.std.proofs.Common.{refl}
use Rattle.co_top.proofs.replay.enter.Goals as goal

pub returns-in-Err-Failed-clause-quiet : goal.returns-in-Err-Failed-clause-quiet
returns-in-Err-Failed-clause-quiet g c = λ h. absurd (h (record { node = 1; part = 0 }) refl)
