use Rattle.std.proofs.Common.{subst}
use Rattle.std.specs.Prelude.{suc}
use Rattle.co_base.specs.declared.node.Node.{Node}
use Rattle.co_base.specs.declared.node.Node.TheVariants.{Coord}
use Rattle.co_durable.specs.declared.fault.WorldFault.TheVariants.{Device, Memory}
use Rattle.co_opening.specs.Judged.{IsOfMaking}
use Rattle.co_opening.specs.Rest.{OnlyOneIsMade}
use Rattle.co_opening.proofs.Handed.{handed, handed_back, handed_in, no_value, not_err, no_device}
use Rattle.co_opening.proofs.Placed.{coord_at}
use Rattle.co_opening.proofs.Stays.{own_log, own_again}
use Rattle.co_opening.proofs.coords.open_coord.Goals as goal

pub returns-clause-opened : goal.returns-clause-opened
returns-clause-opened g c = λ found f.
    coord_at c.args.members c.args.place c.args.log c.make_fresh.new.log c.args.past found f (c.in_ok-make_fresh.ensures.stands (Coord (suc c.args.place)) found f.standing) c.in_ok-attach.field-0 c.in_ok-attach.ensures.stands
    c.in_ok-attach.ensures.numbers

pub returns-clause-marks : goal.returns-clause-marks
returns-clause-marks g c = λ found f. c.in_ok-make_fresh.ensures.marks (Coord (suc c.args.place)) found f.standing

pub make_fresh-requires-clause-stands : goal.make_fresh-requires-clause-stands
make_fresh-requires-clause-stands g c = (Coord (suc c.args.place), c.requires.found.0, c.requires.found.1.standing)

pub make_fresh-requires-clause-kept : goal.make_fresh-requires-clause-kept
make_fresh-requires-clause-kept g c = own_log (Coord (suc c.args.place)) (g.H.Home.seen c.args.home.now) c.args.log c.requires.kept

-- ---- the log was not made

pub returns-in_err-make_fresh-clause-opened : goal.returns-in_err-make_fresh-clause-opened
returns-in_err-make_fresh-clause-opened g c = λ found f. no_value _ c.from_residual.result c.from_residual.ensures.0

pub returns-in_err-make_fresh-clause-marks : goal.returns-in_err-make_fresh-clause-marks
returns-in_err-make_fresh-clause-marks g c = λ found f. no_value _ c.from_residual.result c.from_residual.ensures.0

pub returns-in_err-make_fresh-clause-kept : goal.returns-in_err-make_fresh-clause-kept
returns-in_err-make_fresh-clause-kept g c = no_value _ c.from_residual.result c.from_residual.ensures.0

pub returns-in_err-make_fresh-clause-clean : goal.returns-in_err-make_fresh-clause-clean
returns-in_err-make_fresh-clause-clean g c = no_value _ c.from_residual.result c.from_residual.ensures.0

pub returns-in_err-make_fresh-clause-rest : goal.returns-in_err-make_fresh-clause-rest
returns-in_err-make_fresh-clause-rest g c =
    subst (λ (n : Node). OnlyOneIsMade n (g.H.Home.seen c.args.home.now) (g.H.Home.seen c.make_fresh.new.home)) c.requires.kept.owned c.make_fresh.ensures.rest

pub returns-in_err-make_fresh-clause-fault : goal.returns-in_err-make_fresh-clause-fault
returns-in_err-make_fresh-clause-fault g c =
    handed_in IsOfMaking c.from_residual.result c.in_err-make_fresh.field-0.0 c.from_residual.ensures.1 c.in_err-make_fresh.ensures.fault

pub returns-in_err-make_fresh-clause-device : goal.returns-in_err-make_fresh-clause-device
returns-in_err-make_fresh-clause-device g c = λ spot is.
    c.in_err-make_fresh.ensures.device spot (handed_back c.from_residual.result c.in_err-make_fresh.field-0.0 (Device spot) c.from_residual.ensures.1 is)

pub returns-in_err-make_fresh-clause-quiet : goal.returns-in_err-make_fresh-clause-quiet
returns-in_err-make_fresh-clause-quiet g c = λ quiet.
    c.in_err-make_fresh.ensures.quiet (λ spot is. quiet spot (handed c.from_residual.result c.in_err-make_fresh.field-0.0 (Device spot) c.from_residual.ensures.1 is))

-- ---- there was no memory for the node

pub returns-in_err-attach-clause-opened : goal.returns-in_err-attach-clause-opened
returns-in_err-attach-clause-opened g c = λ found f. no_value _ c.from_residual-in_err-attach.result c.from_residual-in_err-attach.ensures.0

pub returns-in_err-attach-clause-marks : goal.returns-in_err-attach-clause-marks
returns-in_err-attach-clause-marks g c = λ found f. no_value _ c.from_residual-in_err-attach.result c.from_residual-in_err-attach.ensures.0

pub returns-in_err-attach-clause-kept : goal.returns-in_err-attach-clause-kept
returns-in_err-attach-clause-kept g c = no_value _ c.from_residual-in_err-attach.result c.from_residual-in_err-attach.ensures.0

pub returns-in_err-attach-clause-clean : goal.returns-in_err-attach-clause-clean
returns-in_err-attach-clause-clean g c = no_value _ c.from_residual-in_err-attach.result c.from_residual-in_err-attach.ensures.0

pub returns-in_err-attach-clause-rest : goal.returns-in_err-attach-clause-rest
returns-in_err-attach-clause-rest g c =
    subst (λ (n : Node). OnlyOneIsMade n (g.H.Home.seen c.args.home.now) (g.H.Home.seen c.make_fresh.new.home)) c.requires.kept.owned c.make_fresh.ensures.rest

pub returns-in_err-attach-clause-fault : goal.returns-in_err-attach-clause-fault
returns-in_err-attach-clause-fault g c = handed_in IsOfMaking c.from_residual-in_err-attach.result Memory c.from_residual-in_err-attach.ensures.1 tt

pub returns-in_err-attach-clause-device : goal.returns-in_err-attach-clause-device
returns-in_err-attach-clause-device g c = λ spot is. absurd (no_device c.from_residual-in_err-attach.result spot c.from_residual-in_err-attach.ensures.1 is)

pub returns-in_err-attach-clause-quiet : goal.returns-in_err-attach-clause-quiet
returns-in_err-attach-clause-quiet g c = λ quiet. c.in_ok-make_fresh.ensures.quiet (λ spot is. not_err c.in_ok-make_fresh.field-0 (Device spot) is)

-- ---- the node is opened

pub returns-clause-kept : goal.returns-clause-kept
returns-clause-kept g c =
    own_again c.args.log.node (Coord (suc c.args.place)) (g.H.Home.seen c.make_fresh.new.home) c.make_fresh.new.log c.in_ok-attach.field-0.log c.requires.kept.owned c.in_ok-attach.ensures.log c.in_ok-make_fresh.ensures.kept

pub returns-clause-clean : goal.returns-clause-clean
returns-clause-clean g c = c.in_ok-make_fresh.ensures.clean

pub returns-clause-rest : goal.returns-clause-rest
returns-clause-rest g c =
    subst (λ (n : Node). OnlyOneIsMade n (g.H.Home.seen c.args.home.now) (g.H.Home.seen c.make_fresh.new.home)) c.requires.kept.owned c.make_fresh.ensures.rest

pub returns-clause-device : goal.returns-clause-device
returns-clause-device g c = λ spot is. absurd (not_err c.in_ok-attach.field-0 (Device spot) is)

pub returns-clause-quiet : goal.returns-clause-quiet
returns-clause-quiet g c = λ quiet. c.in_ok-make_fresh.ensures.quiet (λ spot is. not_err c.in_ok-make_fresh.field-0 (Device spot) is)
