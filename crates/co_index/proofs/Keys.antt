-- Keys that tie.
use Rattle.std.proofs.Common.{◌≡◌, ℕ, Bool, true, List}
use Rattle.co_state.proofs.Ties.{key_ties, tied_keys, key_ties-itself, key_ties-swap}

abbrev pub ties : List ℕ → List ℕ → Bool
ties = key_ties

pub tied : (q k : List ℕ) → ties q k ≡ true → q ≡ k
tied = tied_keys

pub itself : (q : List ℕ) → ties q q ≡ true
itself = key_ties-itself

pub swapped : (q k : List ℕ) → ties q k ≡ ties k q
swapped = key_ties-swap
