use Rattle.std.proofs.Common.{◌≡◌, ◌∙◌, ◌++◌, ◌∷◌, [], List, Err, sym, ap, subst}
use Rattle.co_message.specs.declared.item.Item.{Item}
use Rattle.co_message.specs.declared.item.ItemKind.TheVariants as item
use Rattle.co_plain.specs.Runs.{numbered}
use Rattle.co_replay.specs.Transcript.{items_text}
use Rattle.co_world.proofs.Nodes.{held_left}
use Rattle.co_top.specs.Telling.{IsToldOf, IsTextPut, HasEnded}
use Rattle.co_top.specs.declared.status.Status.{Status}
use Rattle.co_top.specs.declared.status.Status.TheVariants as status
use Rattle.co_top.specs.Running.{IsBetween}
use Rattle.co_top.proofs.Plays.{told_as, untold, ended_as, put_ended, not_write, fault_clean}
use Rattle.co_top.proofs.playing.tell_event.Goals as goal

pub returns-in-Ok-clause-told : goal.returns-in-Ok-clause-told
returns-in-Ok-clause-told g c = λ s r ready.
    let done = c.in-Ok.ensures.answered s r ready in
    told_as g.E.Engine.takes g.E.Engine.stands_for s c.args.number c.args.event (g.K.Sink.told c.args.out.now) (g.K.Sink.told c.tell.new.out)
    (g.H.Home.seen c.step.new.home) c.step.new.self c.in-Ok.items c.tell.result done.told
    (record { stands = done.stands; held = done.served.kept })
    (subst (λ (xs : List Item). IsTextPut (items_text (numbered c.args.number (item.Event c.args.event ∷ []) ++ xs)) (g.K.Sink.told c.args.out.now) (g.K.Sink.told c.tell.new.out) c.tell.result)
    c.as_slice.ensures c.tell.ensures.put)

pub returns-in-Err-clause-told : goal.returns-in-Err-clause-told
returns-in-Err-clause-told g c = λ s r ready.
    let cut = c.in-Err.ensures.answered s r ready in
    subst (λ (why : Status). IsToldOf g.E.Engine.takes g.E.Engine.stands_for s c.args.number c.args.event (g.K.Sink.told c.args.out.now) (g.K.Sink.told c.args.out.now)
    (g.H.Home.seen c.step.new.home) c.step.new.self (Err why)) (sym c.undone.ensures)
    (untold g.E.Engine.takes g.E.Engine.stands_for s c.args.number c.args.event (g.K.Sink.told c.args.out.now) _ _ c.step.new.self c.in-Err.fault cut.ended
    cut.left
    (held_left g.E.Engine.takes g.E.Engine.stands_for c.args.world.now s (g.H.Home.seen c.args.home.now) r c.requires.held)
    (λ is. (c.in-Err.ensures.limit s r).0 (ap Err is)))

pub returns-in-Err-clause-ended : goal.returns-in-Err-clause-ended
returns-in-Err-clause-ended g c =
    let w = c.requires.stands in
    subst (HasEnded (g.H.Home.seen c.args.home.now)
    (g.H.Home.seen c.step.new.home)) (sym c.undone.ensures)
    (ended_as _ _ c.in-Err.fault (c.in-Err.ensures.answered w.0 w.1 w.2).ended)

pub returns-in-Err-clause-failed : goal.returns-in-Err-clause-failed
returns-in-Err-clause-failed g c = λ h.
    let is : c.undone.result ≡ status.Write = (let z : Err c.undone.result ≡ Err status.Write = h in cc) in
    absurd (not_write c.in-Err.fault (sym c.undone.ensures ∙ is))

pub returns-in-Ok-clause-clean : goal.returns-in-Ok-clause-clean
returns-in-Ok-clause-clean g c = let w = c.requires.stands in λ between. (c.in-Ok.ensures.answered w.0 w.1 w.2).served.clean

pub returns-in-Err-clause-clean : goal.returns-in-Err-clause-clean
returns-in-Err-clause-clean g c = λ between.
    let w = c.requires.stands in
    fault_clean _ _ c.in-Err.fault (c.in-Err.ensures.answered w.0 w.1 w.2).ended (subst IsBetween c.undone.ensures between)

pub returns-in-Ok-clause-ended : goal.returns-in-Ok-clause-ended
returns-in-Ok-clause-ended g c =
    let w = c.requires.stands in
    put_ended _ _ _ (g.H.Home.seen c.args.home.now) (g.H.Home.seen c.step.new.home) c.tell.result (c.in-Ok.ensures.answered w.0 w.1 w.2).served.quiet c.tell.ensures.put
