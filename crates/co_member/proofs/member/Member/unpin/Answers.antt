use Rattle.std.proofs.Common.{Some, refl}
use Rattle.co_member.proofs.Carrying.{stands_on}
use Rattle.co_member.proofs.Changing.{keeps}
use Rattle.co_member.proofs.member.Member.unpin.Goals as goal

pub returns-clause-stands : goal.returns-clause-stands
returns-clause-stands g c = λ x r.
    let m = c.args.self.now in
    let running = c.in-Some.running in
    let here = r.running running c.in-Some.is in
    let after = record running { undecided = c.unpin.new.self } in
    stands_on g.E.Engine.stands_for m (record m { running = Some after }) x x after r c.requires.up refl refl refl refl
    (keeps g.E.Engine.stands_for m.kind running c.unpin.new.self x x here (c.unpin.ensures.stands x.engine x.asked here.undecided) refl refl) r.log
