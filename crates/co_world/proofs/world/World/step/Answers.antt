use Rattle.std.proofs.Common.{refl, length, subst}
use Rattle.co_message.specs.declared.event.Event.{Event}
use Rattle.co_schedule.specs.View.{IsEventFor}
use Rattle.co_world.proofs.Acting.{own_member}
use Rattle.co_world.proofs.Limits.{through, limits_alike}
use Rattle.co_opening.proofs.Rests.{unchanged}
use Rattle.co_cluster.proofs.Ready.{votes_again}
use Rattle.co_world.proofs.Ends.{no_limit, of_memory}
use Rattle.co_world.proofs.Stepped.{limit_of, answered_at, alone_at}
use Rattle.co_world.proofs.Nodes.{pins_on}
use Rattle.co_world.proofs.world.World.step.Goals as goal

pub begin-requires-clause-in_head : goal.begin-requires-clause-in_head
begin-requires-clause-in_head g c =
    (subst (λ (e : Event). IsEventFor (length c.args.self.now.cluster.members.items) (length c.args.self.now.cluster.coords.items) e) c.in-Begin.is c.requires.event).1

pub begin-requires-clause-stands : goal.begin-requires-clause-stands
begin-requires-clause-stands g c = (c.requires.stands.0, c.requires.stands.1)

pub returns-in-Begin : goal.returns-in-Begin
returns-in-Begin g c =
    let count = limit_of c.begin.result c.in-Begin.is c.args.self.now.sessions c.begin.ensures.count in
    record {
      count = count;
      limit = λ s r. through count (limits_alike g.E.Engine.takes g.E.Engine.stands_for c.args.self.now s r c.args.event.now);
      answered = λ s r ready. answered_at g.E.Engine.takes g.E.Engine.stands_for c.args.number c.in-Begin.is s c.begin.new.self (g.H.Home.seen c.args.home.now) (g.H.Home.seen c.begin.new.home) c.begin.result (c.begin.ensures.answered s r);
      rest = c.begin.ensures.rest;
      pins = c.begin.ensures.pins;
    }

pub begin_local-requires : goal.begin_local-requires
begin_local-requires g c =
    record { in_head = (subst (λ (e : Event). IsEventFor (length c.args.self.now.cluster.members.items) (length c.args.self.now.cluster.coords.items) e) c.in-Local.is c.requires.event).1 }

pub returns-in-Local : goal.returns-in-Local
returns-in-Local g c =
    let count = limit_of c.begin_local.result c.in-Local.is c.args.self.now.sessions c.begin_local.ensures.count in
    record {
      count = count;
      limit = λ s r. through count (limits_alike g.E.Engine.takes g.E.Engine.stands_for c.args.self.now s r c.args.event.now);
      answered = λ s r ready.
          alone_at g.E.Engine.takes g.E.Engine.stands_for c.args.number c.in-Local.is s c.args.self.now c.begin_local.new.self (g.H.Home.seen c.args.home.now) c.begin_local.result r c.requires.held (c.begin_local.ensures.items s r) (c.begin_local.ensures.stands s r)
          (c.begin_local.ensures.held (g.H.Home.seen c.args.home.now) c.requires.held) c.begin_local.ensures.ended;
      rest = unchanged _ _ _;
      pins = pins_on g.E.Engine.pins c.args.self.now c.args.self.now c.begin_local.new.self (λ m up. refl) c.begin_local.ensures.nodes;
    }

pub reads-requires-clause-in_head : goal.reads-requires-clause-in_head
reads-requires-clause-in_head g c =
    (subst (λ (e : Event). IsEventFor (length c.args.self.now.cluster.members.items) (length c.args.self.now.cluster.coords.items) e) c.in-Read.is c.requires.event).1

pub reads-requires-clause-stands : goal.reads-requires-clause-stands
reads-requires-clause-stands g c = c.requires.stands

pub returns-in-Read : goal.returns-in-Read
returns-in-Read g c =
    let count = limit_of c.reads.result c.in-Read.is c.args.self.now.sessions (no_limit c.reads.result c.reads.ensures.memory, λ none. absurd none) in
    record {
      count = count;
      limit = λ s r. through count (limits_alike g.E.Engine.takes g.E.Engine.stands_for c.args.self.now s r c.args.event.now);
      answered = λ s r ready.
          alone_at g.E.Engine.takes g.E.Engine.stands_for c.args.number c.in-Read.is s c.args.self.now c.reads.new.self (g.H.Home.seen c.args.home.now) c.reads.result r c.requires.held (c.reads.ensures.items s r ready) (c.reads.ensures.stands s r ready)
          (c.reads.ensures.held (g.H.Home.seen c.args.home.now) c.requires.held) (of_memory c.reads.result c.reads.ensures.memory);
      rest = unchanged _ _ _;
      pins = c.reads.ensures.pins;
    }

pub writes-requires-clause-in_head : goal.writes-requires-clause-in_head
writes-requires-clause-in_head g c =
    (subst (λ (e : Event). IsEventFor (length c.args.self.now.cluster.members.items) (length c.args.self.now.cluster.coords.items) e) c.in-Write.is c.requires.event).1

pub writes-requires-clause-stands : goal.writes-requires-clause-stands
writes-requires-clause-stands g c = c.requires.stands

pub returns-in-Write : goal.returns-in-Write
returns-in-Write g c =
    let count = limit_of c.writes.result c.in-Write.is c.args.self.now.sessions (no_limit c.writes.result c.writes.ensures.memory, λ none. absurd none) in
    record {
      count = count;
      limit = λ s r. through count (limits_alike g.E.Engine.takes g.E.Engine.stands_for c.args.self.now s r c.args.event.now);
      answered = λ s r ready.
          alone_at g.E.Engine.takes g.E.Engine.stands_for c.args.number c.in-Write.is s c.args.self.now c.writes.new.self (g.H.Home.seen c.args.home.now) c.writes.result r c.requires.held (c.writes.ensures.items s r ready) (c.writes.ensures.stands s r ready)
          (c.writes.ensures.held (g.H.Home.seen c.args.home.now) c.requires.held) (of_memory c.writes.result c.writes.ensures.memory);
      rest = unchanged _ _ _;
      pins = c.writes.ensures.pins;
    }

pub erases-requires-clause-in_head : goal.erases-requires-clause-in_head
erases-requires-clause-in_head g c =
    (subst (λ (e : Event). IsEventFor (length c.args.self.now.cluster.members.items) (length c.args.self.now.cluster.coords.items) e) c.in-Erase.is c.requires.event).1

pub erases-requires-clause-stands : goal.erases-requires-clause-stands
erases-requires-clause-stands g c = c.requires.stands

pub returns-in-Erase : goal.returns-in-Erase
returns-in-Erase g c =
    let count = limit_of c.erases.result c.in-Erase.is c.args.self.now.sessions (no_limit c.erases.result c.erases.ensures.memory, λ none. absurd none) in
    record {
      count = count;
      limit = λ s r. through count (limits_alike g.E.Engine.takes g.E.Engine.stands_for c.args.self.now s r c.args.event.now);
      answered = λ s r ready.
          alone_at g.E.Engine.takes g.E.Engine.stands_for c.args.number c.in-Erase.is s c.args.self.now c.erases.new.self (g.H.Home.seen c.args.home.now) c.erases.result r c.requires.held (c.erases.ensures.items s r ready) (c.erases.ensures.stands s r ready)
          (c.erases.ensures.held (g.H.Home.seen c.args.home.now) c.requires.held) (of_memory c.erases.result c.erases.ensures.memory);
      rest = unchanged _ _ _;
      pins = c.erases.ensures.pins;
    }

pub scans-requires-clause-in_head : goal.scans-requires-clause-in_head
scans-requires-clause-in_head g c =
    (subst (λ (e : Event). IsEventFor (length c.args.self.now.cluster.members.items) (length c.args.self.now.cluster.coords.items) e) c.in-Scan.is c.requires.event).1

pub scans-requires-clause-stands : goal.scans-requires-clause-stands
scans-requires-clause-stands g c = c.requires.stands

pub returns-in-Scan : goal.returns-in-Scan
returns-in-Scan g c =
    let count = limit_of c.scans.result c.in-Scan.is c.args.self.now.sessions (no_limit c.scans.result c.scans.ensures.memory, λ none. absurd none) in
    record {
      count = count;
      limit = λ s r. through count (limits_alike g.E.Engine.takes g.E.Engine.stands_for c.args.self.now s r c.args.event.now);
      answered = λ s r ready.
          alone_at g.E.Engine.takes g.E.Engine.stands_for c.args.number c.in-Scan.is s c.args.self.now c.scans.new.self (g.H.Home.seen c.args.home.now) c.scans.result r c.requires.held (c.scans.ensures.items s r ready) (c.scans.ensures.stands s r ready)
          (c.scans.ensures.held (g.H.Home.seen c.args.home.now) c.requires.held) (of_memory c.scans.result c.scans.ensures.memory);
      rest = unchanged _ _ _;
      pins = c.scans.ensures.pins;
    }

pub end-requires-clause-stands : goal.end-requires-clause-stands
end-requires-clause-stands g c = c.requires.stands

pub returns-in-Commit : goal.returns-in-Commit
returns-in-Commit g c =
    let count = limit_of c.end.result c.in-Commit.is c.args.self.now.sessions (c.end.ensures.count, λ none. absurd none) in
    record {
      count = count;
      limit = λ s r. through count (limits_alike g.E.Engine.takes g.E.Engine.stands_for c.args.self.now s r c.args.event.now);
      answered = λ s r ready. answered_at g.E.Engine.takes g.E.Engine.stands_for c.args.number c.in-Commit.is s c.end.new.self (g.H.Home.seen c.args.home.now) (g.H.Home.seen c.end.new.home) c.end.result (c.end.ensures.answered s r ready);
      rest = c.end.ensures.rest;
      pins = c.end.ensures.pins;
    }

pub end-requires-in-Abort-clause-stands : goal.end-requires-in-Abort-clause-stands
end-requires-in-Abort-clause-stands g c = c.requires.stands

pub returns-in-Abort : goal.returns-in-Abort
returns-in-Abort g c =
    let count = limit_of c.end-in-Abort.result c.in-Abort.is c.args.self.now.sessions (c.end-in-Abort.ensures.count, λ none. absurd none) in
    record {
      count = count;
      limit = λ s r. through count (limits_alike g.E.Engine.takes g.E.Engine.stands_for c.args.self.now s r c.args.event.now);
      answered = λ s r ready. answered_at g.E.Engine.takes g.E.Engine.stands_for c.args.number c.in-Abort.is s c.end-in-Abort.new.self (g.H.Home.seen c.args.home.now) (g.H.Home.seen c.end-in-Abort.new.home) c.end-in-Abort.result (c.end-in-Abort.ensures.answered s r ready);
      rest = c.end-in-Abort.ensures.rest;
      pins = c.end-in-Abort.ensures.pins;
    }

pub deliver-requires-clause-in_head : goal.deliver-requires-clause-in_head
deliver-requires-clause-in_head g c =
    subst (λ (e : Event). IsEventFor (length c.args.self.now.cluster.members.items) (length c.args.self.now.cluster.coords.items) e) c.in-Deliver.is c.requires.event

pub deliver-requires-clause-stands : goal.deliver-requires-clause-stands
deliver-requires-clause-stands g c = c.requires.stands

pub returns-in-Deliver : goal.returns-in-Deliver
returns-in-Deliver g c =
    let count = limit_of c.deliver.result c.in-Deliver.is c.args.self.now.sessions (c.deliver.ensures.count, λ none. absurd none) in
    record {
      count = count;
      limit = λ s r. through count (limits_alike g.E.Engine.takes g.E.Engine.stands_for c.args.self.now s r c.args.event.now);
      answered = λ s r ready. answered_at g.E.Engine.takes g.E.Engine.stands_for c.args.number c.in-Deliver.is s c.deliver.new.self (g.H.Home.seen c.args.home.now) (g.H.Home.seen c.deliver.new.home) c.deliver.result (c.deliver.ensures.answered s r ready);
      rest = c.deliver.ensures.rest;
      pins = c.deliver.ensures.pins;
    }

pub at_member-requires-clause-in_head : goal.at_member-requires-clause-in_head
at_member-requires-clause-in_head g c =
    (subst (λ (e : Event). IsEventFor (length c.args.self.now.cluster.members.items) (length c.args.self.now.cluster.coords.items) e) c.in-Vote.is c.requires.event).1

pub at_member-requires-clause-stands : goal.at_member-requires-clause-stands
at_member-requires-clause-stands g c =
    let s = c.requires.stands.0 in
    let r = c.requires.stands.1 in
    let ready = c.requires.stands.2 in
    let own = own_member g.E.Engine.takes g.E.Engine.stands_for c.args.self.now s r c.in-Vote.member (subst (λ (e : Event). IsEventFor (length c.args.self.now.cluster.members.items) (length c.args.self.now.cluster.coords.items) e) c.in-Vote.is c.requires.event).1 in
    (s, r, λ up. votes_again s ready c.in-Vote.member own c.in-Vote.txn up)

pub returns-in-Vote : goal.returns-in-Vote
returns-in-Vote g c =
    let count = limit_of c.at_member.result c.in-Vote.is c.args.self.now.sessions (c.at_member.ensures.count, λ none. absurd none) in
    record {
      count = count;
      limit = λ s r. through count (limits_alike g.E.Engine.takes g.E.Engine.stands_for c.args.self.now s r c.args.event.now);
      answered = λ s r ready. answered_at g.E.Engine.takes g.E.Engine.stands_for c.args.number c.in-Vote.is s c.at_member.new.self (g.H.Home.seen c.args.home.now) (g.H.Home.seen c.at_member.new.home) c.at_member.result (c.at_member.ensures.answered s r);
      rest = c.at_member.ensures.rest;
      pins = c.at_member.ensures.pins;
    }

pub at_member-requires-in-Ask-clause-in_head : goal.at_member-requires-in-Ask-clause-in_head
at_member-requires-in-Ask-clause-in_head g c =
    (subst (λ (e : Event). IsEventFor (length c.args.self.now.cluster.members.items) (length c.args.self.now.cluster.coords.items) e) c.in-Ask.is c.requires.event).1

pub at_member-requires-in-Ask-clause-stands : goal.at_member-requires-in-Ask-clause-stands
at_member-requires-in-Ask-clause-stands g c = (c.requires.stands.0, c.requires.stands.1, λ up. up)

pub returns-in-Ask : goal.returns-in-Ask
returns-in-Ask g c =
    let count = limit_of c.at_member-in-Ask.result c.in-Ask.is c.args.self.now.sessions (c.at_member-in-Ask.ensures.count, λ none. absurd none) in
    record {
      count = count;
      limit = λ s r. through count (limits_alike g.E.Engine.takes g.E.Engine.stands_for c.args.self.now s r c.args.event.now);
      answered = λ s r ready. answered_at g.E.Engine.takes g.E.Engine.stands_for c.args.number c.in-Ask.is s c.at_member-in-Ask.new.self (g.H.Home.seen c.args.home.now) (g.H.Home.seen c.at_member-in-Ask.new.home) c.at_member-in-Ask.result (c.at_member-in-Ask.ensures.answered s r);
      rest = c.at_member-in-Ask.ensures.rest;
      pins = c.at_member-in-Ask.ensures.pins;
    }

pub at_coord-requires-clause-in_head : goal.at_coord-requires-clause-in_head
at_coord-requires-clause-in_head g c =
    (subst (λ (e : Event). IsEventFor (length c.args.self.now.cluster.members.items) (length c.args.self.now.cluster.coords.items) e) c.in-Resend.is c.requires.event).1

pub at_coord-requires-clause-stands : goal.at_coord-requires-clause-stands
at_coord-requires-clause-stands g c = (c.requires.stands.0, c.requires.stands.1, λ up. up)

pub returns-in-Resend : goal.returns-in-Resend
returns-in-Resend g c =
    let count = limit_of c.at_coord.result c.in-Resend.is c.args.self.now.sessions (c.at_coord.ensures.count, λ none. absurd none) in
    record {
      count = count;
      limit = λ s r. through count (limits_alike g.E.Engine.takes g.E.Engine.stands_for c.args.self.now s r c.args.event.now);
      answered = λ s r ready. answered_at g.E.Engine.takes g.E.Engine.stands_for c.args.number c.in-Resend.is s c.at_coord.new.self (g.H.Home.seen c.args.home.now) (g.H.Home.seen c.at_coord.new.home) c.at_coord.result (c.at_coord.ensures.answered s r);
      rest = c.at_coord.ensures.rest;
      pins = c.at_coord.ensures.pins;
    }

pub timer-requires-clause-in_head : goal.timer-requires-clause-in_head
timer-requires-clause-in_head g c =
    (subst (λ (e : Event). IsEventFor (length c.args.self.now.cluster.members.items) (length c.args.self.now.cluster.coords.items) e) c.in-Timer.is c.requires.event).1

pub timer-requires-clause-stands : goal.timer-requires-clause-stands
timer-requires-clause-stands g c = c.requires.stands

pub returns-in-Timer : goal.returns-in-Timer
returns-in-Timer g c =
    let count = limit_of c.timer.result c.in-Timer.is c.args.self.now.sessions (c.timer.ensures.count, λ none. absurd none) in
    record {
      count = count;
      limit = λ s r. through count (limits_alike g.E.Engine.takes g.E.Engine.stands_for c.args.self.now s r c.args.event.now);
      answered = λ s r ready. answered_at g.E.Engine.takes g.E.Engine.stands_for c.args.number c.in-Timer.is s c.timer.new.self (g.H.Home.seen c.args.home.now) (g.H.Home.seen c.timer.new.home) c.timer.result (c.timer.ensures.answered s r);
      rest = c.timer.ensures.rest;
      pins = c.timer.ensures.pins;
    }

pub crash-requires-clause-in_head : goal.crash-requires-clause-in_head
crash-requires-clause-in_head g c =
    subst (λ (e : Event). IsEventFor (length c.args.self.now.cluster.members.items) (length c.args.self.now.cluster.coords.items) e) c.in-Crash.is c.requires.event

pub crash-requires-clause-stands : goal.crash-requires-clause-stands
crash-requires-clause-stands g c = c.requires.stands

pub returns-in-Crash : goal.returns-in-Crash
returns-in-Crash g c =
    let count = limit_of c.crash.result c.in-Crash.is c.args.self.now.sessions (c.crash.ensures.count, λ none. absurd none) in
    record {
      count = count;
      limit = λ s r. through count (limits_alike g.E.Engine.takes g.E.Engine.stands_for c.args.self.now s r c.args.event.now);
      answered = λ s r ready. answered_at g.E.Engine.takes g.E.Engine.stands_for c.args.number c.in-Crash.is s c.crash.new.self (g.H.Home.seen c.args.home.now) (g.H.Home.seen c.crash.new.home) c.crash.result (c.crash.ensures.answered s r);
      rest = c.crash.ensures.rest;
      pins = c.crash.ensures.pins;
    }

pub restart-requires-clause-in_head : goal.restart-requires-clause-in_head
restart-requires-clause-in_head g c =
    subst (λ (e : Event). IsEventFor (length c.args.self.now.cluster.members.items) (length c.args.self.now.cluster.coords.items) e) c.in-Restart.is c.requires.event

pub restart-requires-clause-stands : goal.restart-requires-clause-stands
restart-requires-clause-stands g c = c.requires.stands

pub returns-in-Restart : goal.returns-in-Restart
returns-in-Restart g c =
    let count = limit_of c.restart.result c.in-Restart.is c.args.self.now.sessions (c.restart.ensures.count, λ none. absurd none) in
    record {
      count = count;
      limit = λ s r. through count (limits_alike g.E.Engine.takes g.E.Engine.stands_for c.args.self.now s r c.args.event.now);
      answered = λ s r ready. answered_at g.E.Engine.takes g.E.Engine.stands_for c.args.number c.in-Restart.is s c.restart.new.self (g.H.Home.seen c.args.home.now) (g.H.Home.seen c.restart.new.home) c.restart.result (c.restart.ensures.answered s r);
      rest = c.restart.ensures.rest;
      pins = c.restart.ensures.pins;
    }

pub checkpoint-requires-clause-in_head : goal.checkpoint-requires-clause-in_head
checkpoint-requires-clause-in_head g c =
    subst (λ (e : Event). IsEventFor (length c.args.self.now.cluster.members.items) (length c.args.self.now.cluster.coords.items) e) c.in-Checkpoint.is c.requires.event

pub checkpoint-requires-clause-stands : goal.checkpoint-requires-clause-stands
checkpoint-requires-clause-stands g c = c.requires.stands

pub returns-in-Checkpoint : goal.returns-in-Checkpoint
returns-in-Checkpoint g c =
    let count = limit_of c.checkpoint.result c.in-Checkpoint.is c.args.self.now.sessions (c.checkpoint.ensures.count, λ none. absurd none) in
    record {
      count = count;
      limit = λ s r. through count (limits_alike g.E.Engine.takes g.E.Engine.stands_for c.args.self.now s r c.args.event.now);
      answered = λ s r ready. answered_at g.E.Engine.takes g.E.Engine.stands_for c.args.number c.in-Checkpoint.is s c.checkpoint.new.self (g.H.Home.seen c.args.home.now) (g.H.Home.seen c.checkpoint.new.home) c.checkpoint.result (c.checkpoint.ensures.answered s r);
      rest = c.checkpoint.ensures.rest;
      pins = c.checkpoint.ensures.pins;
    }

pub arm-requires-clause-in_head : goal.arm-requires-clause-in_head
arm-requires-clause-in_head g c =
    (subst (λ (e : Event). IsEventFor (length c.args.self.now.cluster.members.items) (length c.args.self.now.cluster.coords.items) e) c.in-Arm.is c.requires.event).0

pub arm-requires-clause-call : goal.arm-requires-clause-call
arm-requires-clause-call g c =
    (subst (λ (e : Event). IsEventFor (length c.args.self.now.cluster.members.items) (length c.args.self.now.cluster.coords.items) e) c.in-Arm.is c.requires.event).1

pub arm-requires-clause-stands : goal.arm-requires-clause-stands
arm-requires-clause-stands g c = c.requires.stands

pub returns-in-Arm : goal.returns-in-Arm
returns-in-Arm g c =
    let count = limit_of c.arm.result c.in-Arm.is c.args.self.now.sessions (c.arm.ensures.count, λ none. absurd none) in
    record {
      count = count;
      limit = λ s r. through count (limits_alike g.E.Engine.takes g.E.Engine.stands_for c.args.self.now s r c.args.event.now);
      answered = λ s r ready. answered_at g.E.Engine.takes g.E.Engine.stands_for c.args.number c.in-Arm.is s c.arm.new.self (g.H.Home.seen c.args.home.now) (g.H.Home.seen c.arm.new.home) c.arm.result (c.arm.ensures.answered s r);
      rest = c.arm.ensures.rest;
      pins = c.arm.ensures.pins;
    }
