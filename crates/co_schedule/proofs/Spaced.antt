-- Words behind spaces.
use Rattle.std.proofs.Common.{◌≡◌, List, [], ◌∷◌, ◌++◌, refl, ap, ◌∙◌, sym, append_assoc}
use Rattle.co_schedule.specs.Words.{Word, space, behind}

-- words behind spaces, and then more of them
pub behind-append : (a b : List Word) → behind (a ++ b) ≡ behind a ++ behind b
behind-append [] b = refl
behind-append (word ∷ words) b = ap (λ x. (space ∷ word) ++ x) (behind-append words b) ∙ sym (append_assoc (space ∷ word) (behind words) (behind b))
