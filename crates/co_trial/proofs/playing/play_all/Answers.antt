use Rattle.std.proofs.Common.{◌≡◌, subst, refl, ap, ◌∙◌, arith}
use Rattle.co_make.specs.Making.{next_event}
use Rattle.co_trial.specs.Playing.{HasGone}
use Rattle.co_trial.proofs.Going.{going_none, goes, goes_on, short_next, may_play, is_ready, here, es}
use Rattle.co_trial.proofs.Rooms.{line_has_room}
use Rattle.co_trial.proofs.Unused.{no_limit}
use Rattle.co_trial.proofs.playing.play_all.Goals as goal

pub loop-place-init : goal.loop-place-init
loop-place-init g c =
    record {
      going = λ o stands run. going_none o g.E.Engine.takes g.E.Engine.stands_for c.args.number c.args.told.now c.args.decisions.now c.new-maker.result c.args.world.now c.new-maker.ensures stands run;
      held = c.requires.held;
      quiet = refl;
    }

pub play-requires-clause-event : goal.play-requires-clause-event
play-requires-clause-event g c =
    let w = c.requires.stands in
    let p = c.loop-place.invariant.going w.0 w.1 w.2 in
    may_play w.0 g.E.Engine.takes g.E.Engine.stands_for c.args.number c.loop-place.place c.args.told.now c.loop-place.told c.loop-place.decisions c.loop-place.maker c.loop-place.world p c.in_ok-event.event c.next.new.self
    (c.in_ok-event.ensures ∙ ap (λ sent. next_event sent c.loop-place.maker) c.wire.ensures) c.fields_in_sets.ensures

pub play-requires-clause-stands : goal.play-requires-clause-stands
play-requires-clause-stands g c =
    let w = c.requires.stands in
    let p = c.loop-place.invariant.going w.0 w.1 w.2 in
    let few = c.requires.events in
    let below = c.loop-place-test.true in
    let long = p.long in (
      here w.0 g.E.Engine.takes g.E.Engine.stands_for c.args.number c.loop-place.place c.args.told.now c.loop-place.told c.loop-place.decisions c.loop-place.maker c.loop-place.world p,
      p.stands,
      is_ready w.0 g.E.Engine.takes g.E.Engine.stands_for c.args.number c.loop-place.place c.args.told.now c.loop-place.told c.loop-place.decisions c.loop-place.maker c.loop-place.world p,
      no_limit w.0.head.kinds w.0.head.coords w.0.found_member w.0.found_coord w.0.unused (es w.0 g.E.Engine.takes g.E.Engine.stands_for c.args.number c.loop-place.place c.args.told.now c.loop-place.told c.loop-place.decisions c.loop-place.maker c.loop-place.world p) c.in_ok-event.event (omega (arith, few, below, long)),
      line_has_room w.0 (es w.0 g.E.Engine.takes g.E.Engine.stands_for c.args.number c.loop-place.place c.args.told.now c.loop-place.told c.loop-place.decisions c.loop-place.maker c.loop-place.world p) c.in_ok-event.event p.short
          (short_next w.0 g.E.Engine.takes g.E.Engine.stands_for c.args.number c.loop-place.place c.args.told.now c.loop-place.told c.loop-place.decisions c.loop-place.maker c.loop-place.world p c.in_ok-event.event c.next.new.self
          (c.in_ok-event.ensures ∙ ap (λ sent. next_event sent c.loop-place.maker) c.wire.ensures) c.fields_in_sets.ensures (omega (arith, few, below)))
          (omega (arith, few, below, long)),
    )

pub loop-place-preserved : goal.loop-place-preserved
loop-place-preserved g c =
    record {
      going = λ o stands run.
          let p = c.loop-place.invariant.going o stands run in
          goes_on o g.E.Engine.takes g.E.Engine.stands_for c.args.number c.loop-place.place c.args.told.now c.loop-place.told c.loop-place.decisions c.loop-place.maker c.loop-place.world p c.in_ok-event.event c.next.new.self
          (c.in_ok-event.ensures ∙ ap (λ sent. next_event sent c.loop-place.maker) c.wire.ensures) c.fields_in_sets.ensures c.play.new.told c.play.new.decisions c.play.new.world (let few = c.requires.events in let below = c.loop-place-test.true in omega (arith, few, below))
          (c.in_ok-play.ensures.played (here o g.E.Engine.takes g.E.Engine.stands_for c.args.number c.loop-place.place c.args.told.now c.loop-place.told c.loop-place.decisions c.loop-place.maker c.loop-place.world p) p.stands
          (is_ready o g.E.Engine.takes g.E.Engine.stands_for c.args.number c.loop-place.place c.args.told.now c.loop-place.told c.loop-place.decisions c.loop-place.maker c.loop-place.world p));
      held = c.in_ok-play.ensures.held;
      quiet = c.in_ok-play.ensures.ended ∙ c.loop-place.invariant.quiet;
    }

pub returns-clause-gone : goal.returns-clause-gone
returns-clause-gone g c = λ o stands run.
    let end : c.loop-place.place ≡ c.args.events = omega (arith, c.loop-place-test.false, c.loop-place.auto.place-end) in
    subst (λ n. HasGone g.E.Engine.takes g.E.Engine.stands_for o c.args.number n c.args.told.now c.loop-place.told c.loop-place.decisions c.loop-place.world) end
    (goes o g.E.Engine.takes g.E.Engine.stands_for c.args.number c.loop-place.place c.args.told.now c.loop-place.told c.loop-place.decisions c.loop-place.maker c.loop-place.world (c.loop-place.invariant.going o stands run))
