use Rattle.std.proofs.Common.{◌≡◌, Bool, true, false, ◌||◌, cond, ◌∙◌, refl, Some}
use Rattle.std.specs.BTreeSet.{contains}
use Rattle.std.specs.Ordering.{eq_by_cmp}
use Rattle.co_locktab.specs.Places.{by_lower, by_upper}
use Rattle.co_locktab.proofs.fork_index.ForkIndex.add.Goals as goal

either : (b c : Bool) → cond b true c ≡ (b || c)
either true c = refl
either false c = refl

pub returns-clause-lower : goal.returns-clause-lower
returns-clause-lower c = λ p.
    c.in_ok-insert.ensures.updates.0 p
    ∙ either _ (contains by_lower c.args.self.now.lower p)
    ∙ (λ i. eq_by_cmp by_lower (record { fork = c.of-fork.ensures.value i; range = Some (c.in_ok-copy.ensures i) }) p || contains by_lower c.args.self.now.lower p)

pub returns-clause-upper : goal.returns-clause-upper
returns-clause-upper c = λ p.
    c.in_ok-insert-2.ensures.updates.0 p
    ∙ either _ (contains by_upper c.args.self.now.upper p)
    ∙ (λ i. eq_by_cmp by_upper (record { fork = c.of-fork.ensures.value i; range = Some (record { range = c.in_ok-copy-2.ensures i }) }) p || contains by_upper c.args.self.now.upper p)
