use Rattle.std.proofs.Common.{◌≡◌, Bool, true, false, ◌&&◌, not, cond, ◌∙◌, refl, Some, rules}
use Rattle.std.specs.BTreeSet.{contains}
use Rattle.std.specs.Ordering.{eq_by_cmp}
use Rattle.co_locktab.specs.Places.{by_lower, by_upper}
use Rattle.co_locktab.proofs.fork_index.ForkIndex.remove.Goals as goal

unless : (b c : Bool) → cond b false c ≡ (not b && c)
unless true c = refl
unless false c = refl

pub returns-clause-lower : goal.returns-clause-lower
returns-clause-lower c = λ p.
    c.remove.ensures.updates.0 p
    ∙ unless _ (contains by_lower c.args.self.now.lower p)
    ∙ (λ i. not (eq_by_cmp by_lower (record { fork = c.of-fork.ensures.value i; range = Some c.args.range }) p) && contains by_lower c.args.self.now.lower p)

pub returns-clause-upper : goal.returns-clause-upper
returns-clause-upper c = λ p.
    let is : c.map.result ≡ Some (record { range = c.args.range }) = search rules in
    c.remove-2.ensures.updates.0 p
    ∙ unless _ (contains by_upper c.args.self.now.upper p)
    ∙ (λ i. not (eq_by_cmp by_upper (record { fork = c.of-fork.ensures.value i; range = is i }) p) && contains by_upper c.args.self.now.upper p)
