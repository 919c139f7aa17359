use Rattle.std.proofs.Common.{◌∙◌, sym, subst}
use Rattle.co_top.specs.Migrating.{IsMigrateEnd}
use Rattle.co_top.proofs.Migrations.{told_end, fault_end, device_passed, never_done}
use Rattle.co_top.proofs.migrating.told_migration.Goals as goal

pub returns-in-Ok-clause-end : goal.returns-in-Ok-clause-end
returns-in-Ok-clause-end g c = λ told held l.
    told_end (g.H.Home.seen c.args.home.now).file (g.H.Home.seen c.migrate_directory.new.home).file c.in-Ok.count held (g.K.Sink.told c.args.out.now) (g.K.Sink.told c.tell_migrated.new.out) c.tell_migrated.result
    (c.in-Ok.ensures.migrated told) l c.tell_migrated.ensures.told

pub returns-in-Err-clause-end : goal.returns-in-Err-clause-end
returns-in-Err-clause-end g c = λ told held l.
    let old = (g.H.Home.seen c.args.home.now).file in
    let new = (g.H.Home.seen c.migrate_directory.new.home).file in
    subst (IsMigrateEnd old new held (g.K.Sink.told c.args.out.now)) (sym c.of_migrate.ensures) (fault_end old new held (g.K.Sink.told c.args.out.now) c.in-Err.fault (c.in-Err.ensures.migrated told) l)

pub returns-in-Err-clause-quiet_home : goal.returns-in-Err-clause-quiet_home
returns-in-Err-clause-quiet_home g c = λ none. c.in-Err.ensures.quiet (λ spot is. none spot (device_passed c.in-Err.fault spot c.of_migrate.result c.of_migrate.ensures is))

pub returns-in-Err-clause-entered : goal.returns-in-Err-clause-entered
returns-in-Err-clause-entered g c = λ done. absurd (never_done c.in-Err.fault (sym c.of_migrate.ensures ∙ done))

pub returns-in-Err-clause-clean : goal.returns-in-Err-clause-clean
returns-in-Err-clause-clean g c = λ done. absurd (never_done c.in-Err.fault (sym c.of_migrate.ensures ∙ done))
