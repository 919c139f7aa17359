use Rattle.std.proofs.Common.{subst}
use Rattle.co_base.specs.declared.node.Node.{Node}
use Rattle.co_base.specs.declared.node.Node.TheVariants as node
use Rattle.co_coord.specs.Plans.{commit_plan, deliver_plan, txn_of}
use Rattle.co_coord.specs.Standing.{is_up, marks_in}
use Rattle.co_log.specs.Others.{OtherNodesStay}
use Rattle.std.proofs.Common.{List, sym, ap, ◌∙◌}
use Rattle.std.specs.Prelude.{IfErr}
use Rattle.co_base.specs.declared.part.Part.{Part}
use Rattle.co_state.specs.Table.{look}
use Rattle.co_plain.specs.Coordinator.{coord_commit, coord_deliver}
use Rattle.co_cluster.specs.Calls.{coord_does, CoordMay}
use Rattle.co_cluster.specs.Left.{IsLeftBy, coord_disarmed}
use Rattle.co_cluster.proofs.Leaving.{kept_left, never_left, own_spots, plan_left, restart_left, still_left}
use Rattle.co_cluster.proofs.CoordLeaving.{checkpoint_left, commit_stable, coord_read, deliver_stable}
use Rattle.co_cluster.specs.declared.calls.CoordCall.{CoordCall}
use Rattle.co_cluster.proofs.Serving.{IsLeft, coord_checkpoint_ended, coord_checkpoint_served, coord_restarted, coord_unrestarted, plan_ended, plan_served}
use Rattle.co_cluster.proofs.coords.coord_does.Goals as goal

pub deliver-requires-clause-stands : goal.deliver-requires-clause-stands
deliver-requires-clause-stands g c =
    let may = subst (λ (k : CoordCall). CoordMay c.args.coord.now.members c.args.coord.now.number k c.requires.stands.0) c.in-Deliver.is c.requires.stands.2 in
    (c.requires.stands.0, c.requires.stands.1, may.1)

pub restart-requires-clause-stands : goal.restart-requires-clause-stands
restart-requires-clause-stands g c =
    let may = subst (λ (k : CoordCall). CoordMay c.args.coord.now.members c.args.coord.now.number k c.requires.stands.0) c.in-Restart.is c.requires.stands.2 in
    (c.requires.stands.0, c.requires.stands.1, may)

pub checkpoint-requires-clause-stands : goal.checkpoint-requires-clause-stands
checkpoint-requires-clause-stands g c =
    let may = subst (λ (k : CoordCall). CoordMay c.args.coord.now.members c.args.coord.now.number k c.requires.stands.0) c.in-Checkpoint.is c.requires.stands.2 in
    (c.requires.stands.0, c.requires.stands.1, may.1)

pub returns-in-Deliver-clause-served : goal.returns-in-Deliver-clause-served
returns-in-Deliver-clause-served g c =
    let m = c.args.coord.now in
    let y = c.requires.stands.0 in
    let r = c.requires.stands.1 in
    let old = g.H.Home.seen c.args.home.now in
    let new = g.H.Home.seen c.deliver.new.home in
    plan_served marks_in (deliver_plan m.number c.in-Deliver.message (look y.table (txn_of c.in-Deliver.message))).writes (node.Coord m.number) y.log m.log c.deliver.new.self.log old new c.deliver.result (c.deliver.ensures.answered y r) r.log.owned c.deliver.ensures.rest.others

pub returns-in-Deliver-clause-ended : goal.returns-in-Deliver-clause-ended
returns-in-Deliver-clause-ended g c =
    let m = c.args.coord.now in
    let y = c.requires.stands.0 in
    let r = c.requires.stands.1 in
    let old = g.H.Home.seen c.args.home.now in
    let new = g.H.Home.seen c.deliver.new.home in
    plan_ended marks_in (deliver_plan m.number c.in-Deliver.message (look y.table (txn_of c.in-Deliver.message))).writes (node.Coord m.number) y.log m.log c.deliver.new.self.log old new c.deliver.result (c.deliver.ensures.answered y r)

pub returns-in-Commit-clause-served : goal.returns-in-Commit-clause-served
returns-in-Commit-clause-served g c =
    let m = c.args.coord.now in
    let y = c.requires.stands.0 in
    let r = c.requires.stands.1 in
    let old = g.H.Home.seen c.args.home.now in
    let new = g.H.Home.seen c.commit.new.home in
    plan_served marks_in (commit_plan m.number c.in-Commit.txn c.as_slice.result.now (look y.table c.in-Commit.txn)).writes (node.Coord m.number) y.log m.log c.commit.new.self.log old new c.commit.result (c.commit.ensures.answered y r) r.log.owned c.commit.ensures.rest.others

pub returns-in-Commit-clause-ended : goal.returns-in-Commit-clause-ended
returns-in-Commit-clause-ended g c =
    let m = c.args.coord.now in
    let y = c.requires.stands.0 in
    let r = c.requires.stands.1 in
    let old = g.H.Home.seen c.args.home.now in
    let new = g.H.Home.seen c.commit.new.home in
    plan_ended marks_in (commit_plan m.number c.in-Commit.txn c.as_slice.result.now (look y.table c.in-Commit.txn)).writes (node.Coord m.number) y.log m.log c.commit.new.self.log old new c.commit.result (c.commit.ensures.answered y r)

pub returns-in-Checkpoint-clause-served : goal.returns-in-Checkpoint-clause-served
returns-in-Checkpoint-clause-served g c =
    let m = c.args.coord.now in
    let y = c.requires.stands.0 in
    let r = c.requires.stands.1 in
    let old = g.H.Home.seen c.args.home.now in
    let new = g.H.Home.seen c.checkpoint.new.home in
    coord_checkpoint_served (node.Coord m.number) y m.log c.checkpoint.new.self.log old new c.checkpoint.result (c.checkpoint.ensures.answered y r) r.log.owned c.checkpoint.ensures.rest.others

pub returns-in-Checkpoint-clause-ended : goal.returns-in-Checkpoint-clause-ended
returns-in-Checkpoint-clause-ended g c =
    let m = c.args.coord.now in
    let y = c.requires.stands.0 in
    let r = c.requires.stands.1 in
    let old = g.H.Home.seen c.args.home.now in
    let new = g.H.Home.seen c.checkpoint.new.home in
    coord_checkpoint_ended (node.Coord m.number) y m.log c.checkpoint.new.self.log old new c.checkpoint.result (c.checkpoint.ensures.answered y r)

pub returns-in-Restart-clause-served : goal.returns-in-Restart-clause-served
returns-in-Restart-clause-served g c =
    let m = c.args.coord.now in
    let r = c.requires.stands.1 in
    let e = c.restart.ensures in
    let left : IsLeft g.H.Home.gives g.H.Home.seen m.log c.args.home.now c.restart.new.home (node.Coord m.number) c.restart.new.self.log =
    record {
      owned = r.log.owned;
      kept = c.requires.kept;
      held = e.held;
      current = e.files.0;
      spare = e.files.1;
      rest = subst (λ (n : Node). OtherNodesStay n (g.H.Home.seen c.args.home.now) (g.H.Home.seen c.restart.new.home)) r.log.owned e.rest;
    } in
    coord_restarted g.H.Home.gives g.H.Home.seen m.log c.args.home.now c.restart.new.home (node.Coord m.number) c.restart.new.self.log (is_up m) c.restart.result left e.reread

pub returns-in-Restart-clause-ended : goal.returns-in-Restart-clause-ended
returns-in-Restart-clause-ended g c =
    let m = c.args.coord.now in
    let e = c.restart.ensures in
    coord_unrestarted g.H.Home.gives g.H.Home.seen m.log c.args.home.now c.restart.new.home c.requires.kept.held.spots (is_up m) c.restart.result e.reread

pub returns-in-Begin-clause-left : goal.returns-in-Begin-clause-left
returns-in-Begin-clause-left g c = λ y r.
    let m = c.args.coord.now in
    let n = node.Coord m.number in
    subst (λ (k : CoordCall). IfErr c.begin.result (IsLeftBy (g.H.Home.seen c.args.home.now).file n y.log.stable (coord_does m.number k (coord_disarmed y)).state.log.stable)) (sym c.in-Begin.is)
    (still_left c.begin.result n (g.H.Home.seen c.args.home.now) m.log y.log _ c.begin.ensures.memory r.log c.requires.kept)

pub returns-in-Abort-clause-left : goal.returns-in-Abort-clause-left
returns-in-Abort-clause-left g c = λ y r.
    let m = c.args.coord.now in
    let n = node.Coord m.number in
    subst (λ (k : CoordCall). IfErr c.abort.result (IsLeftBy (g.H.Home.seen c.args.home.now).file n y.log.stable (coord_does m.number k (coord_disarmed y)).state.log.stable)) (sym c.in-Abort.is)
    (still_left c.abort.result n (g.H.Home.seen c.args.home.now) m.log y.log _ c.abort.ensures.memory r.log c.requires.kept)

pub returns-in-Timer-clause-left : goal.returns-in-Timer-clause-left
returns-in-Timer-clause-left g c = λ y r.
    let m = c.args.coord.now in
    let n = node.Coord m.number in
    subst (λ (k : CoordCall). IfErr c.timer.result (IsLeftBy (g.H.Home.seen c.args.home.now).file n y.log.stable (coord_does m.number k (coord_disarmed y)).state.log.stable)) (sym c.in-Timer.is)
    (still_left c.timer.result n (g.H.Home.seen c.args.home.now) m.log y.log _ c.timer.ensures.memory r.log c.requires.kept)

pub returns-in-Resend-clause-left : goal.returns-in-Resend-clause-left
returns-in-Resend-clause-left g c = λ y r.
    let m = c.args.coord.now in
    let n = node.Coord m.number in
    subst (λ (k : CoordCall). IfErr c.resend.result (IsLeftBy (g.H.Home.seen c.args.home.now).file n y.log.stable (coord_does m.number k (coord_disarmed y)).state.log.stable)) (sym c.in-Resend.is)
    (still_left c.resend.result n (g.H.Home.seen c.args.home.now) m.log y.log _ c.resend.ensures.memory r.log c.requires.kept)

pub returns-in-Deliver-clause-left : goal.returns-in-Deliver-clause-left
returns-in-Deliver-clause-left g c = λ y r.
    let m = c.args.coord.now in
    let n = node.Coord m.number in
    subst (λ (k : CoordCall). IfErr c.deliver.result (IsLeftBy (g.H.Home.seen c.deliver.new.home).file n y.log.stable (coord_does m.number k (coord_disarmed y)).state.log.stable)) (sym c.in-Deliver.is)
    (plan_left marks_in (deliver_plan m.number c.in-Deliver.message (look y.table (txn_of c.in-Deliver.message))).writes n y.log m.log c.deliver.new.self.log (g.H.Home.seen c.args.home.now) (g.H.Home.seen c.deliver.new.home) c.deliver.result (coord_deliver m.number (coord_disarmed y) c.in-Deliver.message).state.log.stable (deliver_stable m.number y c.in-Deliver.message) r.log c.requires.kept (c.deliver.ensures.answered y r))

pub returns-in-Commit-clause-left : goal.returns-in-Commit-clause-left
returns-in-Commit-clause-left g c = λ y r.
    let m = c.args.coord.now in
    let n = node.Coord m.number in
    subst (λ (k : CoordCall). IfErr c.commit.result (IsLeftBy (g.H.Home.seen c.commit.new.home).file n y.log.stable (coord_does m.number k (coord_disarmed y)).state.log.stable)) (sym c.in-Commit.is)
    (plan_left marks_in (commit_plan m.number c.in-Commit.txn c.as_slice.result.now (look y.table c.in-Commit.txn)).writes n y.log m.log c.commit.new.self.log (g.H.Home.seen c.args.home.now) (g.H.Home.seen c.commit.new.home) c.commit.result (coord_commit m.number (coord_disarmed y) c.in-Commit.txn c.in-Commit.parts).state.log.stable
    (commit_stable m.number c.in-Commit.txn y c.as_slice.result.now ∙ ap (λ (parts : List Part). (coord_commit m.number (coord_disarmed y) c.in-Commit.txn parts).state.log.stable) c.as_slice.ensures) r.log c.requires.kept (c.commit.ensures.answered y r))

pub returns-in-Checkpoint-clause-left : goal.returns-in-Checkpoint-clause-left
returns-in-Checkpoint-clause-left g c = λ y r.
    let m = c.args.coord.now in
    let n = node.Coord m.number in
    subst (λ (k : CoordCall). IfErr c.checkpoint.result (IsLeftBy (g.H.Home.seen c.checkpoint.new.home).file n y.log.stable (coord_does m.number k (coord_disarmed y)).state.log.stable)) (sym c.in-Checkpoint.is)
    (checkpoint_left m.number y m.log c.checkpoint.new.self.log (g.H.Home.seen c.args.home.now) (g.H.Home.seen c.checkpoint.new.home) c.checkpoint.result (own_spots n m.log r.log.owned c.requires.kept.held.spots).1 (c.checkpoint.ensures.answered y r) (λ that. kept_left n (g.H.Home.seen c.args.home.now) m.log y.log that r.log c.requires.kept))

pub returns-in-Crash-clause-left : goal.returns-in-Crash-clause-left
returns-in-Crash-clause-left g c = λ y r.
    let m = c.args.coord.now in
    let n = node.Coord m.number in
    subst (λ (k : CoordCall). IfErr c.crash.result (IsLeftBy (g.H.Home.seen c.crash.new.home).file n y.log.stable (coord_does m.number k (coord_disarmed y)).state.log.stable)) (sym c.in-Crash.is)
    (never_left c.crash.result _ c.crash.ensures.done)

pub returns-in-Restart-clause-left : goal.returns-in-Restart-clause-left
returns-in-Restart-clause-left g c = λ y r.
    let m = c.args.coord.now in
    let n = node.Coord m.number in
    subst (λ (k : CoordCall). IfErr c.restart.result (IsLeftBy (g.H.Home.seen c.restart.new.home).file n y.log.stable (coord_does m.number k (coord_disarmed y)).state.log.stable)) (sym c.in-Restart.is)
    (restart_left c.restart.result n (g.H.Home.seen c.args.home.now) (g.H.Home.seen c.restart.new.home) m.log y.log _ (coord_read g.H.Home.gives g.H.Home.seen m.log c.args.home.now c.restart.new.home (is_up m) c.restart.result c.restart.ensures.reread) r.log c.requires.kept c.restart.ensures.files.0 c.restart.ensures.files.1 c.restart.ensures.rest.others)
