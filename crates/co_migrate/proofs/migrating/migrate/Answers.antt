use Rattle.std.proofs.Common.{◌≡◌, Err, sym, ap, subst, ◌∙◌}
use Rattle.co_durable.specs.declared.fault.WorldFault.TheVariants as world
use Rattle.co_migrate.specs.Migrating.{IsMigrated}
use Rattle.co_migrate.specs.Planning.{migrate_fault}
use Rattle.co_migrate.specs.declared.fault.MigrateFault.{MigrateFault}
use Rattle.co_migrate.proofs.Apart.{all_apart}
use Rattle.co_migrate.proofs.Outcomes.{outcome_read, unplanned_outcome, clean_behind, refilled_clean}
use Rattle.co_migrate.proofs.migrating.migrate.Goals as goal

pub refill_all-requires-clause-apart : goal.refill_all-requires-clause-apart
refill_all-requires-clause-apart g c = all_apart (g.H.Home.seen c.args.home.now).file c.in-Ok.plan.items c.in-Ok.ensures.planned

pub returns-in-Ok-clause-migrated : goal.returns-in-Ok-clause-migrated
returns-in-Ok-clause-migrated g c =
    outcome_read (g.H.Home.seen c.args.home.now) (g.H.Home.seen c.read_plan.new.home) (g.H.Home.seen c.refill_all.new.home) c.in-Ok.plan.items c.refill_all.result c.read_plan.ensures.reads
    c.in-Ok.ensures.planned c.in-Ok.ensures.may c.in-Ok.ensures.stand c.refill_all.ensures.told c.refill_all.ensures.refilled

pub returns-in-Ok-clause-clean : goal.returns-in-Ok-clause-clean
returns-in-Ok-clause-clean g c =
    clean_behind (g.H.Home.seen c.args.home.now) (g.H.Home.seen c.read_plan.new.home) (g.H.Home.seen c.refill_all.new.home) c.refill_all.result c.read_plan.ensures.reads.files
    (refilled_clean c.in-Ok.plan.items (g.H.Home.seen c.read_plan.new.home) (g.H.Home.seen c.refill_all.new.home) c.refill_all.result c.refill_all.ensures.refilled)

pub returns-in-Err-clause-migrated : goal.returns-in-Err-clause-migrated
returns-in-Err-clause-migrated g c = λ told.
    subst (λ (e : MigrateFault). IsMigrated (g.H.Home.seen c.args.home.now).file (g.H.Home.seen c.read_plan.new.home).file (Err e)) (sym c.of_world.ensures)
    (unplanned_outcome (g.H.Home.seen c.args.home.now) (g.H.Home.seen c.read_plan.new.home) c.in-Err.fault c.read_plan.ensures.reads c.in-Err.ensures.unplanned)

pub returns-in-Err-clause-quiet : goal.returns-in-Err-clause-quiet
returns-in-Err-clause-quiet g c = λ quiet. c.in-Err.ensures.quiet (λ spot is.
    quiet spot (ap Err (c.of_world.ensures ∙ ap migrate_fault (let e : c.in-Err.fault ≡ world.Device spot = cc in e))))
