use Rattle.std.proofs.Common.{sym, subst}
use Rattle.std.specs.Prelude.{Ok}
use Rattle.co_node.specs.declared.written.Written.TheVariants.{Done}
use Rattle.co_node.proofs.Homes.{memory_answered}
use Rattle.co_node.proofs.Opened.{left_before}
use Rattle.co_node.specs.Writing.{IsAnsweredFor, IsTooLongFor, stable_after, HasWrittenFor}
use Rattle.co_node.specs.declared.writing.Writes.{Writes}
use Rattle.co_node.proofs.Directories.{still_served}
use Rattle.co_node.proofs.writing.write.Goals as goal

pub returns-in-Nothing-clause-written : goal.returns-in-Nothing-clause-written
returns-in-Nothing-clause-written g c = λ owner l s. subst (λ (w : Writes). HasWrittenFor w owner l c.args.log.now (Ok (Done c.new.result))) (sym c.in-Nothing.is) (c.new.ensures, s)

pub returns-in-Nothing-clause-answered : goal.returns-in-Nothing-clause-answered
returns-in-Nothing-clause-answered g c = λ owner l s.
    let log = c.args.log.now in
    let home = g.H.Home.seen c.args.home.now in
    (λ long. subst (λ (w : Writes). IsTooLongFor w log) c.in-Nothing.is long, still_served owner home log log l s c.requires.held c.lengths.ensures.within c.requires.held)

pub returns-in_err-keep_waiting-in-Keeps-clause-answered : goal.returns-in_err-keep_waiting-in-Keeps-clause-answered
returns-in_err-keep_waiting-in-Keeps-clause-answered g c = λ owner l s.
    let log = c.args.log.now in
    memory_answered owner log.current.spot (IsTooLongFor c.args.writes log) l.stable (stable_after c.args.writes l) c.keep_waiting.new.log
    (g.H.Home.seen c.args.home.now) c.from_residual.result c.from_residual.ensures
    (left_before owner (g.H.Home.seen c.args.home.now) log l s c.requires.held c.lengths.ensures.within)

pub returns-in-Forces-clause-written : goal.returns-in-Forces-clause-written
returns-in-Forces-clause-written g c = λ owner l s. subst (λ (w : Writes). HasWrittenFor w owner l c.force.new.log c.force.result) (sym c.in-Forces.is) (c.force.ensures.written owner l s)

pub returns-in-Forces-clause-answered : goal.returns-in-Forces-clause-answered
returns-in-Forces-clause-answered g c = λ owner l s.
    let old = g.H.Home.seen c.args.home.now in
    let new = g.H.Home.seen c.force.new.home in
    subst (λ (w : Writes). IsAnsweredFor w owner l c.args.log.now c.force.new.log old new c.force.result) (sym c.in-Forces.is) (c.force.ensures.answered owner l s)
