-- What a source tells of its past, and which texts may lie ahead of it then. No source can tell what is still to come: so what a reader made of its bytes is
-- said of every text that begins with them, and that goes on with whatever comes behind, with nothing where the source has ended.
use Rattle.std.specs.Prelude.{ℕ, Bool, true, false, ◌≡◌, List, [], ◌++◌}

-- the bytes that it gave, whether its last answer was the end, and whether it gave bytes behind an end
pub record Past : Type 0 where
  pub gave : List ℕ
  pub ended : Bool
  pub went_on : Bool

abbrev pub past : {S : Type 0} → (S → List ℕ) → (S → Bool) → (S → Bool) → S → Past
past gave ended went_on source = record { gave = gave source; ended = ended source; went_on = went_on source }

-- between two moments bytes were added; and a source that had ended, and never gave bytes behind an end, added none
pub record IsOnward (old new : Past) : Type 0 where
  pub given : List ℕ
  pub grown : new.gave ≡ old.gave ++ given
  pub steady : new.went_on ≡ false → old.went_on ≡ false
  pub over : old.ended ≡ true → new.went_on ≡ false → (given ≡ []) × (new.ended ≡ true)

-- A text that may have lain ahead at the first moment, and what is ahead of it at the second one: no byte came behind an end, and behind an end comes none.
pub record LiesAhead (old new : Past) (text more : List ℕ) : Type 0 where
  pub same : old.gave ++ text ≡ new.gave ++ more
  pub over : new.ended ≡ true → more ≡ []
  pub steady : new.went_on ≡ false
