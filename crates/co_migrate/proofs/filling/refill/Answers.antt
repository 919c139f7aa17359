use Rattle.std.proofs.Common.{List, subst}
use Rattle.co_record.specs.declared.record.Record.{Record}
use Rattle.co_migrate.specs.Refilling.{IsFilledAs}
use Rattle.co_migrate.proofs.Carried.{as_filling, handed_fill, filled_on}
use Rattle.co_migrate.proofs.filling.refill.Goals as goal

pub returns-in_err-close-clause-filled : goal.returns-in_err-close-clause-filled
returns-in_err-close-clause-filled g c =
    let log = c.args.refill.log in
    let old = g.H.Home.seen c.args.home.now in
    let new = g.H.Home.seen c.close.new.home in
    handed_fill log c.args.refill.records old new c.in_err-close.field-0.0 c.from_residual.result c.from_residual.ensures.1
    (as_filling log c.close.new.log c.args.refill.records old new c.in_err-close.field-0.0 c.close.ensures.unturned c.in_err-close.ensures.closed)

pub returns-clause-filled : goal.returns-clause-filled
returns-clause-filled g c =
    let log = c.args.refill.log in
    let old = g.H.Home.seen c.args.home.now in
    let mid = g.H.Home.seen c.close.new.home in
    let new = g.H.Home.seen c.fill.new.home in
    let did = c.in_ok-close.ensures.closed in
    filled_on log c.close.new.log did.0 c.args.refill.records old mid new did.1 c.close.ensures.unturned did.3 did.4 c.fill.result
    (subst (λ (records : List Record). IsFilledAs c.close.new.log records mid new c.fill.result) c.as_slice.ensures c.fill.ensures.filled)
