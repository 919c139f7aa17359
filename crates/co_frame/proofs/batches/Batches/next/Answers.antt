use Rattle.co_frame.proofs.Steps.{told_short, told_closed, told_broken, lent}
use Rattle.co_frame.proofs.batches.Batches.next.Goals as goal
use Rattle.co_frame.proofs.batches.Batches.next.Goals.{then-self-le1-via-then-self-le1, then-self-le1-via-else-self-le1+then-self}

pub returns-then-self-le1-clause-text : goal.returns-then-self-le1-clause-text
returns-then-self-le1-clause-text c =
    elim c.then-self-le1.branch [
      | then-self-le1-via-then-self-le1 w ↦ told_short _ _ _ c.self.view_is w.if-self-le1.true
      | then-self-le1-via-else-self-le1+then-self w ↦ told_closed _ _ _ c.self.view_is w.if-self-le1.false (c.self.invariant.1 w.if-self-le1.false) w.if-self.true
    ]

pub returns-in_default-clause-text : goal.returns-in_default-clause-text
returns-in_default-clause-text c = told_broken _ _ _ c.self.view_is c.if-self-le1.false (c.self.invariant.1 c.if-self-le1.false) c.if-self.false c.in_default.ensures.none

pub returns-clause-lent : goal.returns-clause-lent
returns-clause-lent c = let p = lent _ _ _ _ _ c.self.view_is c.in-Some.ensures.text in (c.in-Some.ensures.batch.0, p.0, p.1)
