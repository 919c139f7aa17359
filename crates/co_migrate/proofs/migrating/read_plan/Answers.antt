use Rattle.std.proofs.Common.{true}
use Rattle.co_opening.proofs.Handed.{handed_in}
use Rattle.co_migrate.specs.Planning.{IsUnplanned}
use Rattle.co_migrate.proofs.ReadPlans.{unread_plan, untold_plan, plan_read, plan_may, plan_few, all_stand, members_pair, coords_pair}
use Rattle.co_migrate.proofs.migrating.read_plan.Goals as goal

pub returns-in_err-logs-clause-unplanned : goal.returns-in_err-logs-clause-unplanned
returns-in_err-logs-clause-unplanned g c =
    handed_in (IsUnplanned (g.H.Home.seen c.args.home.now).file) c.from_residual-in_err-logs.result c.in_err-logs.field-0.0 c.from_residual-in_err-logs.ensures.1
    (unread_plan (g.H.Home.seen c.args.home.now).file c.in_ok-head.head c.in_ok-head.ensures.members c.in_ok-head.ensures.coords c.in_err-logs.field-0.0 c.in_err-logs.ensures.faults c.in_err-logs.ensures.refused)

pub returns-in_err-pasts-clause-unplanned : goal.returns-in_err-pasts-clause-unplanned
returns-in_err-pasts-clause-unplanned g c =
    handed_in (IsUnplanned (g.H.Home.seen c.args.home.now).file) c.from_residual-in_err-pasts.result c.in_err-pasts.field-0.0 c.from_residual-in_err-pasts.ensures.1
    (untold_plan (g.H.Home.seen c.args.home.now).file c.in_ok-head.head c.in_ok-head.ensures.members c.in_ok-head.ensures.coords c.in_err-pasts.field-0.0 c.in_err-pasts.ensures.faults
    (c.in_err-pasts.ensures.refused (g.H.Home.seen c.args.home.now).file true c.in_ok-logs.ensures.attached))

pub plan_of-requires-clause-members : goal.plan_of-requires-clause-members
plan_of-requires-clause-members g c =
    members_pair (g.H.Home.seen c.args.home.now).file (g.H.Home.seen c.attach_all.new.home) c.in_ok-head.head c.in_ok-head.ensures.members c.in_ok-head.ensures.coords c.in_ok-logs.logs.members.items c.in_ok-logs.logs.coords.items
    c.in_ok-logs.ensures.attached c.in_ok-pasts.pasts.members.items c.in_ok-pasts.pasts.coords.items c.in_ok-pasts.ensures.members c.in_ok-pasts.ensures.coords c.in_ok-logs.ensures.kept_members c.in_ok-logs.ensures.kept_coords

pub plan_of-requires-clause-coords : goal.plan_of-requires-clause-coords
plan_of-requires-clause-coords g c =
    coords_pair (g.H.Home.seen c.args.home.now).file (g.H.Home.seen c.attach_all.new.home) c.in_ok-head.head c.in_ok-head.ensures.members c.in_ok-head.ensures.coords c.in_ok-logs.logs.members.items c.in_ok-logs.logs.coords.items
    c.in_ok-logs.ensures.attached c.in_ok-pasts.pasts.members.items c.in_ok-pasts.pasts.coords.items c.in_ok-pasts.ensures.members c.in_ok-pasts.ensures.coords c.in_ok-logs.ensures.kept_members c.in_ok-logs.ensures.kept_coords

pub returns-clause-planned : goal.returns-clause-planned
returns-clause-planned g c =
    plan_read (g.H.Home.seen c.args.home.now).file (g.H.Home.seen c.attach_all.new.home) c.in_ok-head.head c.in_ok-head.ensures.members c.in_ok-head.ensures.coords c.in_ok-logs.logs.members.items c.in_ok-logs.logs.coords.items
    c.in_ok-logs.ensures.attached c.in_ok-pasts.pasts.members.items c.in_ok-pasts.pasts.coords.items c.in_ok-pasts.ensures.members c.in_ok-pasts.ensures.coords c.in_ok-logs.ensures.kept_members c.in_ok-logs.ensures.kept_coords
    c.in_ok-plan_of.field-0.items c.in_ok-plan_of.ensures

pub returns-clause-may : goal.returns-clause-may
returns-clause-may g c =
    plan_may (g.H.Home.seen c.args.home.now).file (g.H.Home.seen c.attach_all.new.home) c.in_ok-head.head c.in_ok-head.ensures.members c.in_ok-head.ensures.coords c.in_ok-logs.logs.members.items c.in_ok-logs.logs.coords.items
    c.in_ok-logs.ensures.attached c.in_ok-pasts.pasts.members.items c.in_ok-pasts.pasts.coords.items c.in_ok-pasts.ensures.members c.in_ok-pasts.ensures.coords c.in_ok-logs.ensures.kept_members c.in_ok-logs.ensures.kept_coords
    c.in_ok-plan_of.field-0.items c.in_ok-plan_of.ensures

pub returns-clause-few : goal.returns-clause-few
returns-clause-few g c =
    plan_few (g.H.Home.seen c.args.home.now).file (g.H.Home.seen c.attach_all.new.home) c.in_ok-head.head c.in_ok-head.ensures.members c.in_ok-head.ensures.coords c.in_ok-logs.logs.members.items c.in_ok-logs.logs.coords.items
    c.in_ok-logs.ensures.attached c.in_ok-pasts.pasts.members.items c.in_ok-pasts.pasts.coords.items c.in_ok-pasts.ensures.members c.in_ok-pasts.ensures.coords c.in_ok-logs.ensures.kept_members c.in_ok-logs.ensures.kept_coords
    c.in_ok-plan_of.field-0.items c.in_ok-plan_of.ensures

pub returns-clause-stand : goal.returns-clause-stand
returns-clause-stand g c =
    all_stand (g.H.Home.seen c.args.home.now).file (g.H.Home.seen c.attach_all.new.home) c.in_ok-head.head c.in_ok-head.ensures.members c.in_ok-head.ensures.coords c.in_ok-logs.logs.members.items c.in_ok-logs.logs.coords.items
    c.in_ok-logs.ensures.attached c.in_ok-pasts.pasts.members.items c.in_ok-pasts.pasts.coords.items c.in_ok-pasts.ensures.members c.in_ok-pasts.ensures.coords c.in_ok-logs.ensures.kept_members c.in_ok-logs.ensures.kept_coords
