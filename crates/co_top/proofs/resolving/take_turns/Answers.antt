use Rattle.std.proofs.Common.{◌≡◌, ◌≤◌, ◌+◌, ◌*◌, ◌∙◌, List, length, take, drop, suc, Ok, Err, refl, sym, ap, subst, arith}
use Rattle.std.proofs.lemmas.List.{take_all}
use Rattle.co_base.specs.declared.head.Kind.{Kind}
use Rattle.co_cluster.specs.declared.doubting.Doubt.{Doubt}
use Rattle.co_coop.specs.Resolution.{AreDoubts, resolution}
use Rattle.co_opening.proofs.Rests.{unchanged}
use Rattle.co_plain.specs.Runs.{run}
use Rattle.co_top.specs.Replayed.{status_of}
use Rattle.co_top.specs.Running.{IsBetween}
use Rattle.co_top.specs.Telling.{HasEnded}
use Rattle.co_top.specs.Turns.{AreTurnsTold}
use Rattle.co_top.specs.declared.status.Status.TheVariants as status
use Rattle.co_top.proofs.Plays.{err_is, ended_behind}
use Rattle.co_top.proofs.TurnsTaken.{AreTurnsBehind, behind_more, cut_by, may_ask_next, next_parts, next_taken, nothing_put, rest_more, same_nodes, turns_keep}
use Rattle.co_top.proofs.TurnsAlong.{turn_few}
use Rattle.co_top.proofs.resolving.take_turns.Goals as goal

pub loop-doubt-init : goal.loop-doubt-init
loop-doubt-init g c = record {
  turns = λ s r reached are.
      record { counted = refl; put = nothing_put s c.args.number (g.K.Sink.told c.args.out.now); stands = r; kept = c.requires.held; rest = unchanged _ _ _ };
  few = omega arith;
  quiet_home = refl;
  quiet_sink = refl;
  clean = λ s clean. clean;
}

pub take_turn-requires-clause-number : goal.take_turn-requires-clause-number
take_turn-requires-clause-number g c =
    let few = c.loop-doubt.invariant.few in
    let first = c.requires.number.0 in
    let many = c.requires.number.1 in
    let within = c.loop-doubt-test.true in
    omega (arith, few, first, many, within)

pub take_turn-requires-clause-held : goal.take_turn-requires-clause-held
take_turn-requires-clause-held g c = let w = c.requires.asks in (c.loop-doubt.invariant.turns w.0 w.1 w.2 w.3).kept

pub take_turn-requires-clause-asks : goal.take_turn-requires-clause-asks
take_turn-requires-clause-asks g c =
    let w = c.requires.asks in
    let doubts = c.args.doubts.now in
    let i = c.loop-doubt.doubt-index in
    let turns = take i doubts in
    let parts = next_parts doubts i c.doubt-item.result c.loop-doubt-test.true c.doubt-item.is in
    let may = may_ask_next w.0 turns c.doubt-item.result (drop (suc i) doubts) w.2 (subst (AreDoubts w.0) (sym parts) w.3) in
    (run (resolution w.0 turns) w.0, (c.loop-doubt.invariant.turns w.0 w.1 w.2 w.3).stands, may.0, may.1, w.4 ∙ ap (λ (ks : List Kind). length ks) (sym (turns_keep w.0 turns).kinds))

pub loop-doubt-preserved : goal.loop-doubt-preserved
loop-doubt-preserved g c =
    let doubts = c.args.doubts.now in
    let i = c.loop-doubt.doubt-index in
    let next = c.doubt-item.result in
    let turns = take i doubts in
    let behind = drop (suc i) doubts in
    let parts = next_parts doubts i next c.loop-doubt-test.true c.doubt-item.is in
    let few : c.in_ok-last.last ≤ c.args.number + 2 * (i + 1) =
    (let w = c.requires.asks in
    let b = c.loop-doubt.invariant.turns w.0 w.1 w.2 w.3 in
    let may = may_ask_next w.0 turns next behind w.2 (subst (AreDoubts w.0) (sym parts) w.3) in
    let one = c.in_ok-last.ensures.told (run (resolution w.0 turns) w.0) b.stands may.0 may.1 in
    let most = turn_few c.loop-doubt.last c.in_ok-last.last (run (resolution w.0 turns) w.0) next one.0 in
    let before = c.loop-doubt.invariant.few in
    omega (arith, most, before)) in
    record {
      turns = λ s r reached are.
          let b = c.loop-doubt.invariant.turns s r reached are in
          let may = may_ask_next s turns next behind reached (subst (AreDoubts s) (sym parts) are) in
          let z = run (resolution s turns) s in
          subst (λ (ds : List Doubt). AreTurnsBehind g.E.Engine.takes g.E.Engine.stands_for s c.args.number ds (g.K.Sink.told c.args.out.now) (g.K.Sink.told c.take_turn.new.out) (g.H.Home.seen c.args.home.now) (g.H.Home.seen c.take_turn.new.home)
          c.take_turn.new.world c.in_ok-last.last) (next_taken doubts i next c.loop-doubt-test.true c.doubt-item.is)
          (behind_more g.E.Engine.takes g.E.Engine.stands_for s c.args.number turns (g.K.Sink.told c.args.out.now) (g.K.Sink.told c.loop-doubt.out) (g.H.Home.seen c.args.home.now) (g.H.Home.seen c.loop-doubt.home) c.loop-doubt.world
          c.loop-doubt.last b (g.H.Home.seen c.take_turn.new.home) doubts next behind parts (g.K.Sink.told c.take_turn.new.out) c.take_turn.new.world c.in_ok-last.last
          (c.in_ok-last.ensures.told z b.stands may.0 may.1) (c.take_turn.ensures.rest z b.stands));
      few = few;
      quiet_home = c.in_ok-last.ensures.ended ∙ c.loop-doubt.invariant.quiet_home;
      quiet_sink = c.in_ok-last.ensures.quiet (λ is. let e : Ok c.in_ok-last.last ≡ Err status.Write = is in cc) ∙ c.loop-doubt.invariant.quiet_sink;
      clean = λ s clean. c.in_ok-last.ensures.clean tt s (c.loop-doubt.invariant.clean s clean);
    }

pub returns-in_err-last-clause-told : goal.returns-in_err-last-clause-told
returns-in_err-last-clause-told g c = λ s r reached are.
    let doubts = c.args.doubts.now in
    let i = c.loop-doubt.doubt-index in
    let next = c.doubt-item.result in
    let turns = take i doubts in
    let behind = drop (suc i) doubts in
    let parts = next_parts doubts i next c.loop-doubt-test.true c.doubt-item.is in
    let b = c.loop-doubt.invariant.turns s r reached are in
    let may = may_ask_next s turns next behind reached (subst (AreDoubts s) (sym parts) are) in
    let why = c.in_err-last.field-0.0 in
    let home = g.H.Home.seen c.take_turn.new.home in
    let held = g.K.Sink.told c.args.out.now in
    let told = g.K.Sink.told c.take_turn.new.out in
    subst (AreTurnsTold g.E.Engine.takes g.E.Engine.stands_for s c.args.number doubts held told home c.take_turn.new.world) (sym (err_is c.from_residual.result why c.from_residual.ensures))
    (cut_by s c.args.number c.loop-doubt.last doubts turns next behind parts held (g.K.Sink.told c.loop-doubt.out) told b.counted b.put g.E.Engine.takes g.E.Engine.stands_for home c.take_turn.new.world why
    (c.in_err-last.ensures.told (run (resolution s turns) s) b.stands may.0 may.1))

pub returns-in_err-last-clause-rest : goal.returns-in_err-last-clause-rest
returns-in_err-last-clause-rest g c = λ s r.
    let w = c.requires.asks in
    let turns = take c.loop-doubt.doubt-index c.args.doubts.now in
    let b = c.loop-doubt.invariant.turns w.0 w.1 w.2 w.3 in
    let new = g.H.Home.seen c.take_turn.new.home in
    same_nodes g.E.Engine.takes g.E.Engine.stands_for c.args.world.now s w.0 (g.H.Home.seen c.args.home.now) new r w.1
    (rest_more g.E.Engine.takes g.E.Engine.stands_for w.0 c.args.number turns (g.K.Sink.told c.args.out.now) (g.K.Sink.told c.loop-doubt.out) (g.H.Home.seen c.args.home.now) (g.H.Home.seen c.loop-doubt.home) c.loop-doubt.world c.loop-doubt.last b new
    (c.take_turn.ensures.rest (run (resolution w.0 turns) w.0) b.stands))

pub returns-in_err-last-clause-clean : goal.returns-in_err-last-clause-clean
returns-in_err-last-clause-clean g c = λ between s was.
    c.in_err-last.ensures.clean (subst (λ o. IsBetween (status_of o)) (err_is c.from_residual.result c.in_err-last.field-0.0 c.from_residual.ensures) between) s (c.loop-doubt.invariant.clean s was)

pub returns-in_err-last-clause-ended : goal.returns-in_err-last-clause-ended
returns-in_err-last-clause-ended g c =
    let w = c.requires.asks in
    let b = c.loop-doubt.invariant.turns w.0 w.1 w.2 w.3 in
    let new = g.H.Home.seen c.take_turn.new.home in
    subst (λ o. HasEnded (g.H.Home.seen c.args.home.now) new (status_of o)) (sym (err_is c.from_residual.result c.in_err-last.field-0.0 c.from_residual.ensures))
    (ended_behind (g.H.Home.seen c.args.home.now) (g.H.Home.seen c.loop-doubt.home) new c.in_err-last.field-0.0 c.loop-doubt.invariant.quiet_home b.rest.files.told c.in_err-last.ensures.ended)

pub returns-clause-told : goal.returns-clause-told
returns-clause-told g c = λ s r reached are.
    let doubts = c.args.doubts.now in
    let over = c.loop-doubt-test.false in
    let whole : take c.loop-doubt.doubt-index doubts ≡ doubts = take_all c.loop-doubt.doubt-index doubts over in
    let b =
    subst (λ (ds : List Doubt). AreTurnsBehind g.E.Engine.takes g.E.Engine.stands_for s c.args.number ds (g.K.Sink.told c.args.out.now) (g.K.Sink.told c.loop-doubt.out) (g.H.Home.seen c.args.home.now) (g.H.Home.seen c.loop-doubt.home) c.loop-doubt.world
    c.loop-doubt.last) whole (c.loop-doubt.invariant.turns s r reached are) in
    (b.put, b.stands, b.kept)

pub returns-clause-rest : goal.returns-clause-rest
returns-clause-rest g c = λ s r.
    let w = c.requires.asks in
    same_nodes g.E.Engine.takes g.E.Engine.stands_for c.args.world.now s w.0 (g.H.Home.seen c.args.home.now) (g.H.Home.seen c.loop-doubt.home) r w.1 (c.loop-doubt.invariant.turns w.0 w.1 w.2 w.3).rest

pub returns-clause-clean : goal.returns-clause-clean
returns-clause-clean g c = λ between. c.loop-doubt.invariant.clean
