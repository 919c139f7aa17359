use Rattle.std.proofs.Common.{◌≡◌, ◌∙◌, Ok, Err, ap, sym, subst}
use Rattle.co_durable.specs.declared.fault.WorldFault.TheVariants as world
use Rattle.co_top.specs.Ends.{of_world}
use Rattle.co_top.specs.Replayed.{IsUnopenedAs, IsOfFiles}
use Rattle.co_top.proofs.Plays.{unopened_as, of_found}
use Rattle.co_top.proofs.replay.attach.Goals as goal

pub returns-in-Err-clause-refused : goal.returns-in-Err-clause-refused
returns-in-Err-clause-refused g c =
    subst (IsUnopenedAs (g.H.Home.seen c.args.home.now).file c.args.head.now c.args.resume) (sym c.of_world.ensures)
    (unopened_as (g.H.Home.seen c.args.home.now).file c.args.head.now c.args.resume c.in-Err.fault c.in-Err.ensures.refused)

pub returns-in-Ok-clause-quiet : goal.returns-in-Ok-clause-quiet
returns-in-Ok-clause-quiet g c = λ h. c.in-Ok.ensures.quiet (λ spot e. absurd (let z : Ok c.in-Ok.opened ≡ Err (world.Device spot) = e in cc))

pub returns-in-Err-clause-quiet : goal.returns-in-Err-clause-quiet
returns-in-Err-clause-quiet g c = λ h.
    c.in-Err.ensures.quiet (λ spot e. h spot (ap Err (c.of_world.ensures ∙ ap of_world (let z : c.in-Err.fault ≡ world.Device spot = (let q : Err c.in-Err.fault ≡ Err (world.Device spot) = e in cc) in z))))

pub returns-in-Err-clause-untouched : goal.returns-in-Err-clause-untouched
returns-in-Err-clause-untouched g c = λ own. c.in-Err.ensures.untouched (of_found c.in-Err.fault (subst IsOfFiles c.of_world.ensures own))
