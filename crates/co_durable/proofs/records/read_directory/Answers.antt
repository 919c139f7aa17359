use Rattle.std.proofs.Common.{refl, subst, Option}
use Rattle.std.specs.Prelude.{IfOk}
use Rattle.co_base.specs.Limits.{most_coordinators, most_members}
use Rattle.co_outside.specs.declared.spot.Spot.{Spot}
use Rattle.co_outside.specs.Home.{File}
use Rattle.co_durable.specs.Durable.{IsDurable}
use Rattle.co_durable.proofs.Readings.{same_files}
use Rattle.co_durable.proofs.Refusals.{unread_result}
use Rattle.co_durable.proofs.records.read_directory.Goals as goal

pub returns-in-Ok-clause-durable : goal.returns-in-Ok-clause-durable
returns-in-Ok-clause-durable g c =
    subst (λ (file : Spot → Option File). IfOk c.read_rows.result (IsDurable file most_members most_coordinators)) (same_files (g.H.Home.seen c.enter.new.self).file (g.H.Home.seen c.args.home.now).file c.enter.ensures.files) c.read_rows.ensures.durable

pub returns-in-Ok-clause-refused : goal.returns-in-Ok-clause-refused
returns-in-Ok-clause-refused g c =
    unread_result c.read_rows.result (g.H.Home.seen c.enter.new.self).file (g.H.Home.seen c.args.home.now).file (same_files (g.H.Home.seen c.enter.new.self).file (g.H.Home.seen c.args.home.now).file c.enter.ensures.files) c.read_rows.ensures.undurable

pub returns-in-Err-Failed-clause-quiet : goal.returns-in-Err-Failed-clause-quiet
returns-in-Err-Failed-clause-quiet g c = λ quiet. absurd (quiet (record { node = 1; part = 0 }) refl)
