use Rattle.std.proofs.Common.{sym, subst}
use Rattle.co_base.specs.declared.node.Node.{Node}
use Rattle.co_base.specs.declared.node.Node.TheVariants as node
use Rattle.co_log.specs.Others.{OtherNodesStay}
use Rattle.co_member.specs.Plans.{again_plan, deliver_plan, local_commit_plan}
use Rattle.co_member.specs.Standing.{marks_in}
use Rattle.std.specs.Prelude.{IfErr}
use Rattle.co_plain.specs.MemberStep.{standing_of}
use Rattle.co_plain.specs.LocalCommit.{member_local_commit}
use Rattle.co_plain.specs.Member.{member_deliver, member_vote}
use Rattle.co_cluster.specs.Calls.{member_does, MemberMay}
use Rattle.co_cluster.specs.Left.{IsLeftBy, member_disarmed}
use Rattle.co_cluster.proofs.Leaving.{checkpoint_left, deliver_stable, kept_left, local_commit_stable, member_read, never_left, own_spots, plan_left, restart_left, still_left, vote_stable}
use Rattle.co_cluster.specs.declared.calls.MemberCall.{MemberCall}
use Rattle.co_cluster.proofs.Serving.{IsLeft, checkpoint_ended, checkpoint_served, member_restarted, member_unrestarted, plan_ended, plan_served}
use Rattle.co_cluster.proofs.members.member_does.Goals as goal

pub deliver-requires-clause-stands : goal.deliver-requires-clause-stands
deliver-requires-clause-stands g c =
    let may = subst (λ (k : MemberCall). MemberMay c.args.member.now.coords k c.requires.stands.0) c.in-Deliver.is c.requires.stands.2 in
    (c.requires.stands.0, c.requires.stands.1, may.2)

pub vote-requires-clause-stands : goal.vote-requires-clause-stands
vote-requires-clause-stands g c =
    let may = subst (λ (k : MemberCall). MemberMay c.args.member.now.coords k c.requires.stands.0) c.in-Vote.is c.requires.stands.2 in
    (c.requires.stands.0, c.requires.stands.1, may.1)

pub restart-requires-clause-stands : goal.restart-requires-clause-stands
restart-requires-clause-stands g c =
    let may = subst (λ (k : MemberCall). MemberMay c.args.member.now.coords k c.requires.stands.0) c.in-Restart.is c.requires.stands.2 in
    (c.requires.stands.0, c.requires.stands.1, may)

pub checkpoint-requires-clause-stands : goal.checkpoint-requires-clause-stands
checkpoint-requires-clause-stands g c =
    let may = subst (λ (k : MemberCall). MemberMay c.args.member.now.coords k c.requires.stands.0) c.in-Checkpoint.is c.requires.stands.2 in
    (c.requires.stands.0, c.requires.stands.1, may.1)

pub local_commit-requires-clause-stands : goal.local_commit-requires-clause-stands
local_commit-requires-clause-stands g c =
    let may = subst (λ (k : MemberCall). MemberMay c.args.member.now.coords k c.requires.stands.0) c.in-LocalCommit.is c.requires.stands.2 in
    (c.requires.stands.0, c.requires.stands.1, may.1, may.2)

pub returns-in-Deliver-clause-served : goal.returns-in-Deliver-clause-served
returns-in-Deliver-clause-served g c =
    let m = c.args.member.now in
    let x = c.requires.stands.0 in
    let r = c.requires.stands.1 in
    let old = g.H.Home.seen c.args.home.now in
    let new = g.H.Home.seen c.deliver.new.home in
    plan_served marks_in (deliver_plan m.number x c.in-Deliver.message).writes (node.Member m.number) x.log m.log c.deliver.new.self.log old new c.deliver.result (c.deliver.ensures.answered x r) r.log.owned c.deliver.ensures.rest.others

pub returns-in-Deliver-clause-ended : goal.returns-in-Deliver-clause-ended
returns-in-Deliver-clause-ended g c =
    let m = c.args.member.now in
    let x = c.requires.stands.0 in
    let r = c.requires.stands.1 in
    let old = g.H.Home.seen c.args.home.now in
    let new = g.H.Home.seen c.deliver.new.home in
    plan_ended marks_in (deliver_plan m.number x c.in-Deliver.message).writes (node.Member m.number) x.log m.log c.deliver.new.self.log old new c.deliver.result (c.deliver.ensures.answered x r)

pub returns-in-Vote-clause-served : goal.returns-in-Vote-clause-served
returns-in-Vote-clause-served g c =
    let m = c.args.member.now in
    let x = c.requires.stands.0 in
    let r = c.requires.stands.1 in
    let old = g.H.Home.seen c.args.home.now in
    let new = g.H.Home.seen c.vote.new.home in
    plan_served marks_in (again_plan m.number x c.in-Vote.t (standing_of x c.in-Vote.t)).writes (node.Member m.number) x.log m.log c.vote.new.self.log old new c.vote.result (c.vote.ensures.answered x r) r.log.owned c.vote.ensures.rest.others

pub returns-in-Vote-clause-ended : goal.returns-in-Vote-clause-ended
returns-in-Vote-clause-ended g c =
    let m = c.args.member.now in
    let x = c.requires.stands.0 in
    let r = c.requires.stands.1 in
    let old = g.H.Home.seen c.args.home.now in
    let new = g.H.Home.seen c.vote.new.home in
    plan_ended marks_in (again_plan m.number x c.in-Vote.t (standing_of x c.in-Vote.t)).writes (node.Member m.number) x.log m.log c.vote.new.self.log old new c.vote.result (c.vote.ensures.answered x r)

pub returns-in-LocalCommit-clause-served : goal.returns-in-LocalCommit-clause-served
returns-in-LocalCommit-clause-served g c =
    let m = c.args.member.now in
    let x = c.requires.stands.0 in
    let r = c.requires.stands.1 in
    let old = g.H.Home.seen c.args.home.now in
    let new = g.H.Home.seen c.local_commit.new.home in
    plan_served marks_in (local_commit_plan x c.in-LocalCommit.txn c.in-LocalCommit.carried).writes (node.Member m.number) x.log m.log c.local_commit.new.self.log old new c.local_commit.result (c.local_commit.ensures.answered x r) r.log.owned c.local_commit.ensures.rest.others

pub returns-in-LocalCommit-clause-ended : goal.returns-in-LocalCommit-clause-ended
returns-in-LocalCommit-clause-ended g c =
    let m = c.args.member.now in
    let x = c.requires.stands.0 in
    let r = c.requires.stands.1 in
    let old = g.H.Home.seen c.args.home.now in
    let new = g.H.Home.seen c.local_commit.new.home in
    plan_ended marks_in (local_commit_plan x c.in-LocalCommit.txn c.in-LocalCommit.carried).writes (node.Member m.number) x.log m.log c.local_commit.new.self.log old new c.local_commit.result (c.local_commit.ensures.answered x r)

pub returns-in-Checkpoint-clause-served : goal.returns-in-Checkpoint-clause-served
returns-in-Checkpoint-clause-served g c =
    let m = c.args.member.now in
    let x = c.requires.stands.0 in
    let r = c.requires.stands.1 in
    let old = g.H.Home.seen c.args.home.now in
    let new = g.H.Home.seen c.checkpoint.new.home in
    checkpoint_served m.number x m.log c.checkpoint.new.self.log old new c.checkpoint.result (c.checkpoint.ensures.answered x r) r.log.owned c.checkpoint.ensures.rest.others

pub returns-in-Checkpoint-clause-ended : goal.returns-in-Checkpoint-clause-ended
returns-in-Checkpoint-clause-ended g c =
    let m = c.args.member.now in
    let x = c.requires.stands.0 in
    let r = c.requires.stands.1 in
    let old = g.H.Home.seen c.args.home.now in
    let new = g.H.Home.seen c.checkpoint.new.home in
    checkpoint_ended m.number x m.log c.checkpoint.new.self.log old new c.checkpoint.result (c.checkpoint.ensures.answered x r)

pub returns-in-Restart-clause-served : goal.returns-in-Restart-clause-served
returns-in-Restart-clause-served g c =
    let m = c.args.member.now in
    let r = c.requires.stands.1 in
    let e = c.restart.ensures in
    let left : IsLeft g.H.Home.gives g.H.Home.seen m.log c.args.home.now c.restart.new.home (node.Member m.number) c.restart.new.self.log =
    record {
      owned = r.log.owned;
      kept = c.requires.kept;
      held = e.held;
      current = e.files.0;
      spare = e.files.1;
      rest = subst (λ (n : Node). OtherNodesStay n (g.H.Home.seen c.args.home.now) (g.H.Home.seen c.restart.new.home)) r.log.owned e.rest;
    } in
    member_restarted g.H.Home.gives g.H.Home.seen m.log c.args.home.now c.restart.new.home (node.Member m.number) c.restart.new.self.log m.running c.restart.result left e.stays e.reread

pub returns-in-Restart-clause-ended : goal.returns-in-Restart-clause-ended
returns-in-Restart-clause-ended g c =
    let m = c.args.member.now in
    let e = c.restart.ensures in
    member_unrestarted g.H.Home.gives g.H.Home.seen m.log c.args.home.now c.restart.new.home c.requires.kept.held.spots m.running c.restart.result e.stays e.reread

pub returns-in-Timer-clause-left : goal.returns-in-Timer-clause-left
returns-in-Timer-clause-left g c = λ x r.
    let m = c.args.member.now in
    let n = node.Member m.number in
    subst (λ (k : MemberCall). IfErr c.timer.result (IsLeftBy (g.H.Home.seen c.args.home.now).file n x.log.stable (member_does m.number k (member_disarmed x)).state.log.stable)) (sym c.in-Timer.is)
    (still_left c.timer.result n (g.H.Home.seen c.args.home.now) m.log x.log _ c.timer.ensures.memory r.log c.requires.kept)

pub returns-in-Ask-clause-left : goal.returns-in-Ask-clause-left
returns-in-Ask-clause-left g c = λ x r.
    let m = c.args.member.now in
    let n = node.Member m.number in
    subst (λ (k : MemberCall). IfErr c.ask.result (IsLeftBy (g.H.Home.seen c.args.home.now).file n x.log.stable (member_does m.number k (member_disarmed x)).state.log.stable)) (sym c.in-Ask.is)
    (never_left c.ask.result _ c.ask.ensures.done)

pub returns-in-LocalAbort-clause-left : goal.returns-in-LocalAbort-clause-left
returns-in-LocalAbort-clause-left g c = λ x r.
    let m = c.args.member.now in
    let n = node.Member m.number in
    subst (λ (k : MemberCall). IfErr c.local_abort.result (IsLeftBy (g.H.Home.seen c.args.home.now).file n x.log.stable (member_does m.number k (member_disarmed x)).state.log.stable)) (sym c.in-LocalAbort.is)
    (still_left c.local_abort.result n (g.H.Home.seen c.args.home.now) m.log x.log _ c.local_abort.ensures.memory r.log c.requires.kept)

pub returns-in-Deliver-clause-left : goal.returns-in-Deliver-clause-left
returns-in-Deliver-clause-left g c = λ x r.
    let m = c.args.member.now in
    let n = node.Member m.number in
    subst (λ (k : MemberCall). IfErr c.deliver.result (IsLeftBy (g.H.Home.seen c.deliver.new.home).file n x.log.stable (member_does m.number k (member_disarmed x)).state.log.stable)) (sym c.in-Deliver.is)
    (plan_left marks_in (deliver_plan m.number x c.in-Deliver.message).writes n x.log m.log c.deliver.new.self.log (g.H.Home.seen c.args.home.now) (g.H.Home.seen c.deliver.new.home) c.deliver.result (member_deliver m.number (member_disarmed x) c.in-Deliver.message).state.log.stable (deliver_stable m.number x c.in-Deliver.message) r.log c.requires.kept (c.deliver.ensures.answered x r))

pub returns-in-Vote-clause-left : goal.returns-in-Vote-clause-left
returns-in-Vote-clause-left g c = λ x r.
    let m = c.args.member.now in
    let n = node.Member m.number in
    subst (λ (k : MemberCall). IfErr c.vote.result (IsLeftBy (g.H.Home.seen c.vote.new.home).file n x.log.stable (member_does m.number k (member_disarmed x)).state.log.stable)) (sym c.in-Vote.is)
    (plan_left marks_in (again_plan m.number x c.in-Vote.t (standing_of x c.in-Vote.t)).writes n x.log m.log c.vote.new.self.log (g.H.Home.seen c.args.home.now) (g.H.Home.seen c.vote.new.home) c.vote.result (member_vote m.number (member_disarmed x) c.in-Vote.t).state.log.stable (vote_stable m.number c.in-Vote.t x) r.log c.requires.kept (c.vote.ensures.answered x r))

pub returns-in-LocalCommit-clause-left : goal.returns-in-LocalCommit-clause-left
returns-in-LocalCommit-clause-left g c = λ x r.
    let m = c.args.member.now in
    let n = node.Member m.number in
    subst (λ (k : MemberCall). IfErr c.local_commit.result (IsLeftBy (g.H.Home.seen c.local_commit.new.home).file n x.log.stable (member_does m.number k (member_disarmed x)).state.log.stable)) (sym c.in-LocalCommit.is)
    (plan_left marks_in (local_commit_plan x c.in-LocalCommit.txn c.in-LocalCommit.carried).writes n x.log m.log c.local_commit.new.self.log (g.H.Home.seen c.args.home.now) (g.H.Home.seen c.local_commit.new.home) c.local_commit.result (member_local_commit m.number (member_disarmed x) c.in-LocalCommit.txn c.in-LocalCommit.carried).state.log.stable (local_commit_stable m.number c.in-LocalCommit.txn c.in-LocalCommit.carried x) r.log c.requires.kept (c.local_commit.ensures.answered x r))

pub returns-in-Checkpoint-clause-left : goal.returns-in-Checkpoint-clause-left
returns-in-Checkpoint-clause-left g c = λ x r.
    let m = c.args.member.now in
    let n = node.Member m.number in
    subst (λ (k : MemberCall). IfErr c.checkpoint.result (IsLeftBy (g.H.Home.seen c.checkpoint.new.home).file n x.log.stable (member_does m.number k (member_disarmed x)).state.log.stable)) (sym c.in-Checkpoint.is)
    (checkpoint_left m.number x m.log c.checkpoint.new.self.log (g.H.Home.seen c.args.home.now) (g.H.Home.seen c.checkpoint.new.home) c.checkpoint.result (own_spots n m.log r.log.owned c.requires.kept.held.spots).1 (c.checkpoint.ensures.answered x r) (λ that. kept_left n (g.H.Home.seen c.args.home.now) m.log x.log that r.log c.requires.kept))

pub returns-in-Crash-clause-left : goal.returns-in-Crash-clause-left
returns-in-Crash-clause-left g c = λ x r.
    let m = c.args.member.now in
    let n = node.Member m.number in
    subst (λ (k : MemberCall). IfErr c.crash.result (IsLeftBy (g.H.Home.seen c.crash.new.home).file n x.log.stable (member_does m.number k (member_disarmed x)).state.log.stable)) (sym c.in-Crash.is)
    (never_left c.crash.result _ c.crash.ensures.done)

pub returns-in-Restart-clause-left : goal.returns-in-Restart-clause-left
returns-in-Restart-clause-left g c = λ x r.
    let m = c.args.member.now in
    let n = node.Member m.number in
    subst (λ (k : MemberCall). IfErr c.restart.result (IsLeftBy (g.H.Home.seen c.restart.new.home).file n x.log.stable (member_does m.number k (member_disarmed x)).state.log.stable)) (sym c.in-Restart.is)
    (restart_left c.restart.result n (g.H.Home.seen c.args.home.now) (g.H.Home.seen c.restart.new.home) m.log x.log _ (member_read g.H.Home.gives g.H.Home.seen m.log c.args.home.now c.restart.new.home m.running c.restart.result c.restart.ensures.stays c.restart.ensures.reread) r.log c.requires.kept c.restart.ensures.files.0 c.restart.ensures.files.1 c.restart.ensures.rest.others)
