use Rattle.std.proofs.Common.{◌≤◌, List, length, refl, sym, subst}
use Rattle.co_cluster.specs.declared.doubting.Doubt.{Doubt}
use Rattle.co_coop.specs.Resolution.{AreDoubts, resolution}
use Rattle.co_plain.specs.Runs.{run}
use Rattle.co_world.proofs.Nodes.{held_left}
use Rattle.co_top.specs.Resolving.{AreListed, doubts_text}
use Rattle.co_top.specs.Telling.{IsTextPut}
use Rattle.co_top.specs.Turns.{AreResolved, InTurns, Unlisted}
use Rattle.co_top.specs.declared.status.Status.TheVariants as status
use Rattle.co_top.proofs.FewDoubts.{few_doubts}
use Rattle.co_top.proofs.Plays.{err_is}
use Rattle.co_top.proofs.TurnsLeft.{listed_doubts}
use Rattle.co_top.proofs.TurnsListed.{lines_told, none_listed}
use Rattle.co_top.proofs.resolving.consult_all.Goals as goal

pub returns-in_err-doubts-clause-resolved : goal.returns-in_err-doubts-clause-resolved
returns-in_err-doubts-clause-resolved g c = λ s r reached.
    let held = g.K.Sink.told c.args.out.now in
    let home = g.H.Home.seen c.args.home.now in
    subst (AreResolved s c.args.number held held home.file) (sym (err_is c.from_residual.result status.Memory c.from_residual.ensures))
    (Unlisted refl refl (held_left g.E.Engine.takes g.E.Engine.stands_for c.args.world.now s home r c.requires.held))

pub take_turns-requires-clause-number : goal.take_turns-requires-clause-number
take_turns-requires-clause-number g c =
    let w = c.requires.asks in
    let doubts = c.in_ok-doubts.doubts in
    let listed : AreListed w.0 doubts = record { ascending = c.in_ok-doubts.ensures.ascending; listed = c.in_ok-doubts.ensures.doubts w.0 w.1 } in
    (c.requires.number, subst (λ (ds : List Doubt). length ds ≤ 1048576) (sym c.as_slice.ensures) (few_doubts w.0 w.2 doubts listed g.E.Engine.takes g.E.Engine.stands_for c.args.world.now w.1))

pub take_turns-requires-clause-asks : goal.take_turns-requires-clause-asks
take_turns-requires-clause-asks g c =
    let w = c.requires.asks in
    let doubts = c.in_ok-doubts.doubts in
    let listed : AreListed w.0 doubts = record { ascending = c.in_ok-doubts.ensures.ascending; listed = c.in_ok-doubts.ensures.doubts w.0 w.1 } in
    (w.0, w.1, w.2, subst (AreDoubts w.0) (sym c.as_slice.ensures) (listed_doubts w.0 doubts listed), w.3)

pub returns-in_err-take_turns-clause-resolved : goal.returns-in_err-take_turns-clause-resolved
returns-in_err-take_turns-clause-resolved g c = λ s r reached.
    let turns = c.as_slice.result.now in
    let held = g.K.Sink.told c.args.out.now in
    let mid = g.K.Sink.told c.take_turns.new.out in
    let home = g.H.Home.seen c.take_turns.new.home in
    let listed : AreListed s turns =
    subst (AreListed s) (sym c.as_slice.ensures) (record { ascending = c.in_ok-doubts.ensures.ascending; listed = c.in_ok-doubts.ensures.doubts s r }) in
    let why = c.in_err-take_turns.field-0.0 in
    subst (AreResolved s c.args.number held mid home.file) (sym (err_is c.from_residual-in_err-take_turns.result why c.from_residual-in_err-take_turns.ensures))
    (InTurns turns listed (c.in_err-take_turns.ensures.told s r reached (listed_doubts s turns listed)))

pub doubts-requires-2 : goal.doubts-requires-2
doubts-requires-2 g c =
    let w = c.requires.asks in
    let doubts = c.in_ok-doubts.doubts in
    let listed : AreListed w.0 doubts = record { ascending = c.in_ok-doubts.ensures.ascending; listed = c.in_ok-doubts.ensures.doubts w.0 w.1 } in
    let turns = c.as_slice.result.now in
    let are = subst (AreDoubts w.0) (sym c.as_slice.ensures) (listed_doubts w.0 doubts listed) in
    record { stands = (run (resolution w.0 turns) w.0, (c.in_ok-take_turns.ensures.told w.0 w.1 w.2 are).1) }

pub returns-in_err-remaining-clause-resolved : goal.returns-in_err-remaining-clause-resolved
returns-in_err-remaining-clause-resolved g c = λ s r reached.
    let turns = c.as_slice.result.now in
    let held = g.K.Sink.told c.args.out.now in
    let mid = g.K.Sink.told c.take_turns.new.out in
    let home = g.H.Home.seen c.take_turns.new.home in
    let listed : AreListed s turns =
    subst (AreListed s) (sym c.as_slice.ensures) (record { ascending = c.in_ok-doubts.ensures.ascending; listed = c.in_ok-doubts.ensures.doubts s r }) in
    let z = run (resolution s turns) s in
    let did = c.in_ok-take_turns.ensures.told s r reached (listed_doubts s turns listed) in
    let left = held_left g.E.Engine.takes g.E.Engine.stands_for c.take_turns.new.world z home did.1 did.2 in
    subst (AreResolved s c.args.number held mid home.file) (sym (err_is c.from_residual-in_err-remaining.result status.Memory c.from_residual-in_err-remaining.ensures))
    (none_listed s c.args.number turns listed held mid home.file did.0 left)

pub returns-clause-resolved : goal.returns-clause-resolved
returns-clause-resolved g c = λ s r reached.
    let turns = c.as_slice.result.now in
    let held = g.K.Sink.told c.args.out.now in
    let mid = g.K.Sink.told c.take_turns.new.out in
    let home = g.H.Home.seen c.take_turns.new.home in
    let listed : AreListed s turns =
    subst (AreListed s) (sym c.as_slice.ensures) (record { ascending = c.in_ok-doubts.ensures.ascending; listed = c.in_ok-doubts.ensures.doubts s r }) in
    let z = run (resolution s turns) s in
    let did = c.in_ok-take_turns.ensures.told s r reached (listed_doubts s turns listed) in
    let left = held_left g.E.Engine.takes g.E.Engine.stands_for c.take_turns.new.world z home did.1 did.2 in
    let told = g.K.Sink.told c.tell_doubts.new.out in
    let result = c.tell_doubts.result in
    lines_told s c.args.number turns listed held mid home.file did.0 left c.in_ok-remaining.remaining
    (record { ascending = c.in_ok-remaining.ensures.ascending; listed = c.in_ok-remaining.ensures.doubts z did.1 }) told result
    (subst (λ (ds : List Doubt). IsTextPut (doubts_text ds) mid told result) c.as_slice-2.ensures c.tell_doubts.ensures.put)
