use Rattle.std.proofs.Common.{Option, refl, subst}
use Rattle.co_base.specs.Limits.{most_coordinators, most_members}
use Rattle.co_outside.specs.Home.{File}
use Rattle.co_outside.specs.declared.spot.Spot.{Spot}
use Rattle.co_durable.specs.Told.{AreTold}
use Rattle.co_durable.proofs.Readings.{same_files}
use Rattle.co_migrate.specs.Migrating.{IsMigrated}
use Rattle.co_migrate.proofs.Outcomes.{clean_behind}
use Rattle.co_migrate.proofs.migrating.migrate_directory.Goals as goal

pub returns-in-Ok-clause-migrated : goal.returns-in-Ok-clause-migrated
returns-in-Ok-clause-migrated g c =
    subst (λ (f : Spot → Option File). AreTold f most_members most_coordinators → IsMigrated f (g.H.Home.seen c.migrate.new.home).file c.migrate.result)
    (same_files (g.H.Home.seen c.enter.new.self).file (g.H.Home.seen c.args.home.now).file c.enter.ensures.files) c.migrate.ensures.migrated

pub returns-in-Ok-clause-clean : goal.returns-in-Ok-clause-clean
returns-in-Ok-clause-clean g c =
    clean_behind (g.H.Home.seen c.args.home.now) (g.H.Home.seen c.enter.new.self) (g.H.Home.seen c.migrate.new.home) c.migrate.result c.enter.ensures.files c.migrate.ensures.clean

pub returns-in-Err-Failed-clause-quiet : goal.returns-in-Err-Failed-clause-quiet
returns-in-Err-Failed-clause-quiet g c = λ quiet. absurd (quiet (record { node = 1; part = 0 }) refl)
