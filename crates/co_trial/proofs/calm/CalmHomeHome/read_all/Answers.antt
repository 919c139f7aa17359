use Rattle.std.proofs.Common.{Vec, Global, ℕ, IsErrOf, subst}
use Rattle.co_outside.specs.declared.home.HomeCall.TheVariants.{ReadAll}
use Rattle.co_outside.specs.declared.home.HomeFault.TheVariants.{Failed}
use Rattle.co_trial.proofs.Calming.{never, due_none, counted_none}
use Rattle.co_trial.proofs.calm.CalmHomeHome.read_all.Goals as goal

pub invariant_of-self : goal.invariant_of-self
invariant_of-self c = record { never_fails = (never (Vec ℕ Global) (c.args.spot) ReadAll c.args.self.now.memory c.read_all.new.self c.read_all.result c.args.self.now.never_fails c.read_all.ensures.due).1 }

pub answered-requires : goal.answered-requires
answered-requires c = (never (Vec ℕ Global) (c.args.spot) ReadAll c.args.self.now.memory c.read_all.new.self c.read_all.result c.args.self.now.never_fails c.read_all.ensures.due).0

pub returns-clause-counted : goal.returns-clause-counted
returns-clause-counted c = counted_none (Vec ℕ Global) (c.args.spot) ReadAll c.args.self.now.memory c.read_all.new.self c.answered.result (λ h. (never (Vec ℕ Global) (c.args.spot) ReadAll c.args.self.now.memory c.read_all.new.self c.read_all.result c.args.self.now.never_fails c.read_all.ensures.due).0 (subst (λ r. IsErrOf r Failed) c.answered.ensures h))

pub returns-clause-due : goal.returns-clause-due
returns-clause-due c = due_none (Vec ℕ Global) (c.args.spot) ReadAll c.args.self.now.memory c.read_all.new.self c.answered.result (λ h. (never (Vec ℕ Global) (c.args.spot) ReadAll c.args.self.now.memory c.read_all.new.self c.read_all.result c.args.self.now.never_fails c.read_all.ensures.due).0 (subst (λ r. IsErrOf r Failed) c.answered.ensures h))
