use Rattle.co_stamps.proofs.Agreeing.{agree_absent, agree_gone}
use Rattle.co_stamps.proofs.stamps.Stamps.remove.Goals as goal

pub invariant_of-self : goal.invariant_of-self
invariant_of-self c = agree_absent c.self.inside.numbers c.remove.new.self c.self.inside.bearers c.args.t c.self.invariant c.in_err-number.ensures.entry c.in_err-number.ensures.rest

pub invariant_of-self-2 : goal.invariant_of-self-2
invariant_of-self-2 c =
    agree_gone c.self.inside.numbers c.remove.new.self c.self.inside.bearers c.remove-2.new.self c.in_ok-number.number c.args.t c.self.invariant c.in_ok-number.ensures.entry c.in_ok-number.ensures.rest c.remove-2.ensures
