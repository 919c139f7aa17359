use Rattle.std.proofs.Common.{◌≡◌, ℕ, zero, suc, true, get_or, refl}
use Rattle.std.specs.Prelude.{replicate}
use Rattle.co_outside.specs.Stored.{mark_place}
use Rattle.co_outside.proofs.stored.all_clean.Goals as goal

-- so many copies have that one everywhere
copies : (count place : ℕ) → get_or (replicate count true) place true ≡ true
copies zero zero = refl
copies zero (suc place) = refl
copies (suc count) zero = refl
copies (suc count) (suc place) = copies count place

pub returns : goal.returns
returns c s = copies 512 (mark_place s)
