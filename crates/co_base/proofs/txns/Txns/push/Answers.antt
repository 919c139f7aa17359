use Rattle.co_base.proofs.txns.Txns.push.Goals as goal

pub invariant_of-self-2 : goal.invariant_of-self-2
invariant_of-self-2 c = rw c.in_ok-push.ensures.items (rw c.self.view_is c.requires)
