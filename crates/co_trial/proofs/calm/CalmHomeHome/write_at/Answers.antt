use Rattle.std.proofs.Common.{IsErrOf, subst}
use Rattle.co_outside.specs.declared.home.HomeCall.TheVariants.{WriteAt}
use Rattle.co_outside.specs.declared.home.HomeFault.TheVariants.{Failed}
use Rattle.co_trial.proofs.Calming.{never, due_none, counted_none}
use Rattle.co_trial.proofs.calm.CalmHomeHome.write_at.Goals as goal

pub invariant_of-self : goal.invariant_of-self
invariant_of-self c = record { never_fails = (never (Unit {0}) (c.args.spot) WriteAt c.args.self.now.memory c.write_at.new.self c.write_at.result c.args.self.now.never_fails c.write_at.ensures.due).1 }

pub answered-requires : goal.answered-requires
answered-requires c = (never (Unit {0}) (c.args.spot) WriteAt c.args.self.now.memory c.write_at.new.self c.write_at.result c.args.self.now.never_fails c.write_at.ensures.due).0

pub returns-clause-counted : goal.returns-clause-counted
returns-clause-counted c = counted_none (Unit {0}) (c.args.spot) WriteAt c.args.self.now.memory c.write_at.new.self c.answered.result (λ h. (never (Unit {0}) (c.args.spot) WriteAt c.args.self.now.memory c.write_at.new.self c.write_at.result c.args.self.now.never_fails c.write_at.ensures.due).0 (subst (λ r. IsErrOf r Failed) c.answered.ensures h))

pub returns-clause-due : goal.returns-clause-due
returns-clause-due c = due_none (Unit {0}) (c.args.spot) WriteAt c.args.self.now.memory c.write_at.new.self c.answered.result (λ h. (never (Unit {0}) (c.args.spot) WriteAt c.args.self.now.memory c.write_at.new.self c.write_at.result c.args.self.now.never_fails c.write_at.ensures.due).0 (subst (λ r. IsErrOf r Failed) c.answered.ensures h))
