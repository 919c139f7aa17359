use Rattle.std.proofs.Common.{refl, ap, ◌∙◌}
use Rattle.std.specs.Prelude.{Err}
use Rattle.co_log.specs.declared.fault.LogFault.TheVariants as log
use Rattle.co_durable.specs.declared.fault.WorldFault.TheVariants.{Device, Bad, Full, InUse, Memory}
use Rattle.co_opening.proofs.Attachings.{refused_as, bad_unattached, full_unattached, not_device}
use Rattle.co_opening.proofs.Handed.{not_err, same_device, no_device, found_device}
use Rattle.co_opening.proofs.attaching.attach_log.Goals as goal

pub returns-in-Ok-clause-attached : goal.returns-in-Ok-clause-attached
returns-in-Ok-clause-attached g c = c.in-Ok.ensures.attached

pub returns-in-Ok-clause-kept : goal.returns-in-Ok-clause-kept
returns-in-Ok-clause-kept g c = c.in-Ok.ensures.kept

pub returns-in-Ok-clause-reads : goal.returns-in-Ok-clause-reads
returns-in-Ok-clause-reads g c = c.attach.ensures.reads

pub returns-in-Ok-clause-others : goal.returns-in-Ok-clause-others
returns-in-Ok-clause-others g c = c.attach.ensures.others

pub returns-in-Ok-clause-device : goal.returns-in-Ok-clause-device
returns-in-Ok-clause-device g c = λ spot is. absurd (not_err c.in-Ok.log (Device spot) is)

pub returns-in-Ok-clause-quiet : goal.returns-in-Ok-clause-quiet
returns-in-Ok-clause-quiet g c = λ quiet. c.in-Ok.ensures.quiet (λ spot is. not_err c.in-Ok.log (log.Device spot) is)

-- ---- the directory failed

pub returns-in-Err-Device-clause-unattached : goal.returns-in-Err-Device-clause-unattached
returns-in-Err-Device-clause-unattached g c = refused_as (g.H.Home.seen c.args.home.now).file c.args.resume c.args.node c.in-Err-Device.field-0 c.in-Err-Device.ensures.refused (log.Device c.in-Err-Device.spot) c.in-Err-Device.field-0-is

pub returns-in-Err-Device-clause-reads : goal.returns-in-Err-Device-clause-reads
returns-in-Err-Device-clause-reads g c = c.attach.ensures.reads

pub returns-in-Err-Device-clause-others : goal.returns-in-Err-Device-clause-others
returns-in-Err-Device-clause-others g c = c.attach.ensures.others

pub returns-in-Err-Device-clause-device : goal.returns-in-Err-Device-clause-device
returns-in-Err-Device-clause-device g c = λ spot is. c.in-Err-Device.ensures.device spot (ap Err (c.in-Err-Device.field-0-is ∙ ap log.Device (same_device c.in-Err-Device.spot spot is)))

pub returns-in-Err-Device-clause-quiet : goal.returns-in-Err-Device-clause-quiet
returns-in-Err-Device-clause-quiet g c = λ quiet. absurd (quiet c.in-Err-Device.spot refl)

-- ---- the files are refused

pub returns-in-Err-Bad-clause-unattached : goal.returns-in-Err-Bad-clause-unattached
returns-in-Err-Bad-clause-unattached g c = bad_unattached (g.H.Home.seen c.args.home.now).file c.args.resume c.args.node c.in-Err-Bad.field-0 c.in-Err-Bad.ensures.refused c.in-Err-Bad.spot c.in-Err-Bad.at c.in-Err-Bad.field-0-is

pub returns-in-Err-Bad-clause-reads : goal.returns-in-Err-Bad-clause-reads
returns-in-Err-Bad-clause-reads g c = c.attach.ensures.reads

pub returns-in-Err-Bad-clause-others : goal.returns-in-Err-Bad-clause-others
returns-in-Err-Bad-clause-others g c = c.attach.ensures.others

pub returns-in-Err-Bad-clause-device : goal.returns-in-Err-Bad-clause-device
returns-in-Err-Bad-clause-device g c = λ spot is. absurd (found_device (Bad c.in-Err-Bad.spot c.in-Err-Bad.at) spot tt is)

pub returns-in-Err-Bad-clause-quiet : goal.returns-in-Err-Bad-clause-quiet
returns-in-Err-Bad-clause-quiet g c = λ quiet. c.in-Err-Bad.ensures.quiet (λ spot is. not_device c.in-Err-Bad.field-0 (log.Bad c.in-Err-Bad.spot c.in-Err-Bad.at) spot c.in-Err-Bad.field-0-is tt is)

pub returns-in-Err-Full-clause-unattached : goal.returns-in-Err-Full-clause-unattached
returns-in-Err-Full-clause-unattached g c = full_unattached (g.H.Home.seen c.args.home.now).file c.args.resume c.args.node c.in-Err-Full.field-0 c.in-Err-Full.ensures.refused c.in-Err-Full.spot c.in-Err-Full.field-0-is

pub returns-in-Err-Full-clause-reads : goal.returns-in-Err-Full-clause-reads
returns-in-Err-Full-clause-reads g c = c.attach.ensures.reads

pub returns-in-Err-Full-clause-others : goal.returns-in-Err-Full-clause-others
returns-in-Err-Full-clause-others g c = c.attach.ensures.others

pub returns-in-Err-Full-clause-device : goal.returns-in-Err-Full-clause-device
returns-in-Err-Full-clause-device g c = λ spot is. absurd (found_device (Full c.in-Err-Full.spot) spot tt is)

pub returns-in-Err-Full-clause-quiet : goal.returns-in-Err-Full-clause-quiet
returns-in-Err-Full-clause-quiet g c = λ quiet. c.in-Err-Full.ensures.quiet (λ spot is. not_device c.in-Err-Full.field-0 (log.Full c.in-Err-Full.spot) spot c.in-Err-Full.field-0-is tt is)

pub returns-in-Err-InUse-clause-unattached : goal.returns-in-Err-InUse-clause-unattached
returns-in-Err-InUse-clause-unattached g c = refused_as (g.H.Home.seen c.args.home.now).file c.args.resume c.args.node c.in-Err-InUse.field-0 c.in-Err-InUse.ensures.refused (log.InUse c.in-Err-InUse.spot) c.in-Err-InUse.field-0-is

pub returns-in-Err-InUse-clause-reads : goal.returns-in-Err-InUse-clause-reads
returns-in-Err-InUse-clause-reads g c = c.attach.ensures.reads

pub returns-in-Err-InUse-clause-others : goal.returns-in-Err-InUse-clause-others
returns-in-Err-InUse-clause-others g c = c.attach.ensures.others

pub returns-in-Err-InUse-clause-device : goal.returns-in-Err-InUse-clause-device
returns-in-Err-InUse-clause-device g c = λ spot is. absurd (found_device (InUse c.in-Err-InUse.spot) spot tt is)

pub returns-in-Err-InUse-clause-quiet : goal.returns-in-Err-InUse-clause-quiet
returns-in-Err-InUse-clause-quiet g c = λ quiet. c.in-Err-InUse.ensures.quiet (λ spot is. not_device c.in-Err-InUse.field-0 (log.InUse c.in-Err-InUse.spot) spot c.in-Err-InUse.field-0-is tt is)

-- ---- there was no memory

pub returns-in-Err-Memory-clause-reads : goal.returns-in-Err-Memory-clause-reads
returns-in-Err-Memory-clause-reads g c = c.attach.ensures.reads

pub returns-in-Err-Memory-clause-others : goal.returns-in-Err-Memory-clause-others
returns-in-Err-Memory-clause-others g c = c.attach.ensures.others

pub returns-in-Err-Memory-clause-device : goal.returns-in-Err-Memory-clause-device
returns-in-Err-Memory-clause-device g c = λ spot is. absurd (no_device (Err Memory) spot refl is)

pub returns-in-Err-Memory-clause-quiet : goal.returns-in-Err-Memory-clause-quiet
returns-in-Err-Memory-clause-quiet g c = λ quiet. c.in-Err-Memory.ensures.quiet (λ spot is. not_device c.in-Err-Memory.field-0 log.Memory spot c.in-Err-Memory.field-0-is tt is)

pub unreachable-requires : goal.unreachable-requires
unreachable-requires g c =
    refused_as (g.H.Home.seen c.args.home.now).file c.args.resume c.args.node c.in-Err-Stopped.field-0 c.in-Err-Stopped.ensures.refused (log.Stopped c.in-Err-Stopped.field-0-0 c.in-Err-Stopped.field-0-1 c.in-Err-Stopped.field-0-2) c.in-Err-Stopped.field-0-is

pub unreachable-requires-in-Err-Differs : goal.unreachable-requires-in-Err-Differs
unreachable-requires-in-Err-Differs g c =
    refused_as (g.H.Home.seen c.args.home.now).file c.args.resume c.args.node c.in-Err-Differs.field-0 c.in-Err-Differs.ensures.refused (log.Differs c.in-Err-Differs.field-0-0 c.in-Err-Differs.field-0-1 c.in-Err-Differs.field-0-2 c.in-Err-Differs.field-0-3) c.in-Err-Differs.field-0-is
