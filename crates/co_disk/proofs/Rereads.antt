-- What a reading again shows.
use Rattle.std.proofs.Common.{◌≡◌, ℕ, zero, suc, ◌≤◌, List, [], ◌∷◌, length, take, refl, sym, ◌∙◌, ap, arith}
use Rattle.std.specs.Prelude.{Option, Some, None, slice_get}
use Rattle.co_outside.specs.Home.{File}
use Rattle.co_disk.specs.Faults.{IsFirstDifference}

take_long : (n : ℕ) (xs : List ℕ) → length xs ≤ n → take n xs ≡ xs
take_long zero [] le = refl
take_long zero (x ∷ xs) le = absurd (omega arith)
take_long (suc n) [] le = refl
take_long (suc n) (x ∷ xs) le = ap (λ (l : List ℕ). x ∷ l) (take_long n xs (omega arith))

-- a home that tells its bytes gives them
pub never_told : (kept read : List ℕ) (most : ℕ) (file : Option File) (at : ℕ) → length kept ≤ most → ((f : File) → file ≡ Some f → f.bytes ≡ kept) → ((f : File) → file ≡ Some f → read ≡ take most f.bytes) → IsFirstDifference kept read at → file ≡ None
never_told kept read most None at short told gives differs = refl
never_told kept read most (Some f) at short told gives differs =
    let same : read ≡ kept = gives f refl ∙ ap (λ (l : List ℕ). take most l) (told f refl) ∙ take_long most kept short in
    absurd (differs.here (ap (λ (l : List ℕ). slice_get l at) (sym same)))
