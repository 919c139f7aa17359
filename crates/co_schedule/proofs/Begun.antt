-- What a lent list begins with, over more than one writing.
use Rattle.std.proofs.Common.{List, ◌++◌, ap, ◌∙◌, append_assoc}
use Rattle.co_base.specs.Lent.{Begins}

-- what begins with a list begins with what that list begins with
pub begins_again : {A : Type 0} (old mid new : List A) → Begins old mid → Begins mid new → Begins old new
begins_again {A} old mid new (x, e) (y, f) = (x ++ y, f ∙ ap (λ (t : List A). t ++ y) e ∙ append_assoc old x y)
