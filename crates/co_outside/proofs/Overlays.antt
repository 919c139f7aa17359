-- Facts of pieces that are laid into bytes.
use Rattle.std.proofs.Common.{◌≡◌, ℕ, zero, suc, ◌+◌, List, [], ◌++◌, length, take, drop, refl, sym, ◌∙◌, ap}
use Rattle.std.proofs.lemmas.List.{append-nil}
use Rattle.co_outside.specs.Overlay.{overlaid}

pub take_none : (n : ℕ) → take {A = ℕ} n [] ≡ []
take_none zero = refl
take_none (suc n) = refl

pub drop_none : (n : ℕ) → drop {A = ℕ} n [] ≡ []
drop_none zero = refl
drop_none (suc n) = refl

-- a piece laid into no bytes is all that there is
pub laid_over_none : (bytes : List ℕ) (at : ℕ) (piece : List ℕ) → bytes ≡ [] → piece ≡ overlaid bytes at piece
laid_over_none bytes at piece none =
    sym (ap (λ (b : List ℕ). overlaid b at piece) none ∙ ap (λ (front : List ℕ). front ++ piece ++ drop (at + length piece) []) (take_none at) ∙ ap (λ (back : List ℕ). piece ++ back) (drop_none (at + length piece)) ∙ append-nil piece)
