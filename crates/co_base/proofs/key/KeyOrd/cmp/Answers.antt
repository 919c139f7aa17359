use Rattle.std.proofs.Common.{◌∙◌}
use Rattle.std.specs.Ordering.{nat_cmp}
use Rattle.std.specs.Cmp.Lexicographic.{slice_cmp}
use Rattle.co_base.proofs.Numbers.{padded_alike}
use Rattle.co_base.proofs.key.KeyOrd.cmp.Goals as goal

pub returns : goal.returns
returns c =
    c.order_by_words.ensures
    ∙ padded_alike c.self.inside.len c.other.inside.len c.self.inside.bytes c.other.inside.bytes c.self.invariant.0 c.self.invariant.1 c.other.invariant.0 c.other.invariant.1 c.self.told c.other.told
    ∙ (λ i. slice_cmp nat_cmp (c.self.view_is i) (c.other.view_is i))
