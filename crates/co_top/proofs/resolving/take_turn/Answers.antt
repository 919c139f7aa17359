use Rattle.std.proofs.Common.{◌∙◌, List, Ok, Err, sym, ap, subst}
use Rattle.co_message.specs.declared.item.Item.{Item}
use Rattle.co_replay.specs.Transcript.{items_text}
use Rattle.co_top.specs.Telling.{IsTextPut}
use Rattle.co_top.specs.Turns.{IsTurnTold, last_number}
use Rattle.co_top.proofs.Plays.{err_is}
use Rattle.co_top.proofs.TurnsTaken.{short_told, undone_told, whole_told}
use Rattle.co_top.proofs.resolving.take_turn.Goals as goal

pub returns-in_err-tell_items-in-Ok-clause-told : goal.returns-in_err-tell_items-in-Ok-clause-told
returns-in_err-tell_items-in-Ok-clause-told g c = λ s r reached may.
    let did = c.in-Ok.ensures.did s r reached may in
    let held = g.K.Sink.told c.args.out.now in
    let told = g.K.Sink.told c.tell_items.new.out in
    let home = g.H.Home.seen c.consult_others.new.home in
    let world = c.consult_others.new.world in
    let why = c.in_err-tell_items-in-Ok.field-0.0 in
    subst (IsTurnTold g.E.Engine.takes g.E.Engine.stands_for s c.args.number c.args.doubt.now held told home world) (sym (err_is c.from_residual.result why c.from_residual.ensures))
    (short_told g.E.Engine.takes g.E.Engine.stands_for s c.args.number c.args.doubt.now held told home world c.in-Ok.items did.0 did.1 c.in-Ok.ensures.ended.kept why
    (subst (λ (xs : List Item). IsTextPut (items_text xs) held told (Err why)) c.as_slice.ensures c.in_err-tell_items-in-Ok.ensures.put))

pub returns-in-Err-clause-told : goal.returns-in-Err-clause-told
returns-in-Err-clause-told g c = λ s r reached may.
    let held = g.K.Sink.told c.args.out.now in
    let new = g.H.Home.seen c.consult_others.new.home in
    subst (λ why. IsTurnTold g.E.Engine.takes g.E.Engine.stands_for s c.args.number c.args.doubt.now held held new c.consult_others.new.world (Err why)) (sym c.of_world.ensures)
    (undone_told g.E.Engine.takes g.E.Engine.stands_for s c.args.number c.args.doubt.now held (g.H.Home.seen c.args.home.now) new c.consult_others.new.world c.in-Err.fault c.in-Err.ensures.ended (c.in-Err.ensures.did s r reached may))

pub returns-in_ok-tell_items-in-Ok-clause-told : goal.returns-in_ok-tell_items-in-Ok-clause-told
returns-in_ok-tell_items-in-Ok-clause-told g c = λ s r reached may.
    let did = c.in-Ok.ensures.did s r reached may in
    let held = g.K.Sink.told c.args.out.now in
    let told = g.K.Sink.told c.tell_items.new.out in
    let home = g.H.Home.seen c.consult_others.new.home in
    let world = c.consult_others.new.world in
    let last = c.last_number.ensures ∙ ap (last_number c.args.number) c.as_slice-in-Ok.ensures in
    subst (λ n. IsTurnTold g.E.Engine.takes g.E.Engine.stands_for s c.args.number c.args.doubt.now held told home world (Ok n)) (sym last)
    (whole_told g.E.Engine.takes g.E.Engine.stands_for s c.args.number c.args.doubt.now held told home world c.in-Ok.items did.0 did.1 c.in-Ok.ensures.ended.kept
    (subst (λ (xs : List Item). IsTextPut (items_text xs) held told (Ok tt)) c.as_slice.ensures c.in_ok-tell_items-in-Ok.ensures.put))
