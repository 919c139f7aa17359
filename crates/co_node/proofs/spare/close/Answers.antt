use Rattle.std.proofs.Common.{sym, refl, subst, inl, inr}
use Rattle.std.specs.Prelude.{Err}
use Rattle.co_base.specs.declared.node.Node.{Node}
use Rattle.co_log.proofs.Answered.{close_parts}
use Rattle.co_node.specs.Answers.{IsAnswered, LeftAs}
use Rattle.co_node.proofs.Homes.{Wrote, fault_answered, old_records, told_of}
use Rattle.co_node.proofs.Spares.{close_done, close_ended}
use Rattle.co_node.proofs.spare.close.Goals as goal

pub returns-in-Ok-clause-written : goal.returns-in-Ok-clause-written
returns-in-Ok-clause-written g c = λ owner l s. close_done owner c.args.log.now c.close_spare.new.self l _ _ c.new.result s c.new.ensures c.in-Ok.ensures

pub returns-in-Err-clause-written : goal.returns-in-Err-clause-written
returns-in-Err-clause-written g c = λ owner l s. close_ended owner c.args.log.now c.close_spare.new.self l _ _ c.in-Err.fault c.stopped.result s c.in-Err.ensures c.stopped.ensures

pub returns-in-Err-clause-answered : goal.returns-in-Err-clause-answered
returns-in-Err-clause-answered g c = λ owner l s.
    let log = c.args.log.now in
    let after = c.close_spare.new.self in
    let old = g.H.Home.seen c.args.home.now in
    let new = g.H.Home.seen c.close_spare.new.home in
    let did = c.in-Err.ensures in
    let left : LeftAs new.file log.node l.stable l.stable = λ told.
    let files = told_of new.file log c.requires.held.spots told in
    let kept = did.current s.items s.ordered files.current files.spare files.is_current files.is_spare in
    (s.items, old_records new.file log log.version log.generation s.items c.requires.held.spots did.short files kept, inl (sym s.stable)) in
    let wrote : Wrote log after log.spare.spot ⊥ l.stable l.stable old new (Err c.in-Err.fault) =
    record {
      spots = c.requires.held.spots;
      its = inr refl;
      parts = close_parts log after old new (Err c.in-Err.fault) did.answered;
      overlong = λ long. absurd long;
      untouched = λ long. absurd long;
      broken = λ is told. left told;
      wanting = λ is told. left told;
      short = did.short;
      rest = did.rest;
    } in
    subst (λ (n : Node). IsAnswered n log.spare.spot ⊥ l.stable l.stable after old new c.stopped.result) s.owned
    (fault_answered log after log.spare.spot ⊥ l.stable l.stable old new _ c.in-Err.fault c.stopped.result wrote c.stopped.ensures)
