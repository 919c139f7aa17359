-- The files that are kept: what is found at a spot, and what a change at one spot leaves.
use Rattle.std.proofs.Common.{◌≡◌, ◌≢◌, ℕ, suc, ◌+◌, ◌<◌, ◌≤◌, ◌⊎◌, subst, true, false, List, [], ◌∷◌, ◌++◌, length, get_or, refl, sym, ◌∙◌, ap, inl, inr, arith}
use Rattle.std.proofs.Math.ListN.{set}
use Rattle.std.proofs.lemmas.Bool.{cases_Bool}
use Rattle.std.proofs.lemmas.Bool.Decides.{nat_tests}
use Rattle.std.specs.List.{position, position_or_len}
use Rattle.std.specs.Prelude.{Option, Some, None, is_some, false, nat_lt}
use Rattle.co_outside.specs.declared.spot.Spot.{Spot}
use Rattle.co_files.specs.declared.log_file.LogFile.{LogFile}
use Rattle.co_files.specs.Calls.{is_used}
use Rattle.co_files.specs.Folder.{calls_at, is_of}

-- a file of a spot has that spot
pub same_spot : (spot : Spot) (f : LogFile) → is_of spot f ≡ true → f.spot ≡ spot
same_spot spot f is =
    let node : f.spot.node ≡ spot.node = grind (arith, nat_tests) in
    let part : f.spot.part ≡ spot.part = grind (arith, nat_tests) in
    λ i. record { node = node i; part = part i }

pub of_its_spot : (spot : Spot) (f : LogFile) → f.spot ≡ spot → is_of spot f ≡ true
of_its_spot spot f is =
    let node : f.spot.node ≡ spot.node = ap (λ (s : Spot). s.node) is in
    let part : f.spot.part ≡ spot.part = ap (λ (s : Spot). s.part) is in
    grind (arith, nat_tests)

-- a file of one spot is none of another
pub of_one : (spot s : Spot) (f : LogFile) → f.spot ≡ spot → s ≢ spot → is_of s f ≡ false
of_one spot s f is other = elim (cases_Bool (is_of s f)) [
  | inl same ↦ absurd (other (sym (same_spot s f same) ∙ is))
  | inr not_same ↦ not_same
]

one_more : (n : ℕ) → 1 + n ≡ suc n
one_more n = omega arith

-- the first place of a file of the spot, in a longer list
first : (spot : Spot) (f : LogFile) (files : List LogFile) → is_of spot f ≡ true → position_or_len (is_of spot) (f ∷ files) ≡ 0
first spot f files same = rw same refl

later : (spot : Spot) (f : LogFile) (files : List LogFile) → is_of spot f ≡ false → position_or_len (is_of spot) (f ∷ files) ≡ suc (position_or_len (is_of spot) files)
later spot f files other = rw other (one_more _)

bytes_first : (spot : Spot) (f : LogFile) (files : List LogFile) → is_of spot f ≡ true → calls_at (f ∷ files) spot ≡ f.file
bytes_first spot f files same = rw same refl

bytes_later : (spot : Spot) (f : LogFile) (files : List LogFile) → is_of spot f ≡ false → calls_at (f ∷ files) spot ≡ calls_at files spot
bytes_later spot f files other = rw other refl

-- What stands at the first place of a file of the spot, and what another file of the spot there changes.
pub record IsPlaced (spot : Spot) (files : List LogFile) (place : ℕ) : Type 0 where
  pub bytes : (d : LogFile) → (get_or files place d).file ≡ calls_at files spot
  pub its_spot : (d : LogFile) → (get_or files place d).spot ≡ spot
  pub changed : (f : LogFile) → f.spot ≡ spot → calls_at (set files place f) spot ≡ f.file
  pub others : (f : LogFile) → f.spot ≡ spot → (s : Spot) → s ≢ spot → calls_at (set files place f) s ≡ calls_at files s

placed_first : (spot : Spot) (f : LogFile) (files : List LogFile) → is_of spot f ≡ true → IsPlaced spot (f ∷ files) 0
placed_first spot f files same = record {
  bytes = λ d. sym (bytes_first spot f files same);
  its_spot = λ d. same_spot spot f same;
  changed = λ g is. bytes_first spot g files (of_its_spot spot g is);
  others = λ g is s other. bytes_later s g files (of_one spot s g is other) ∙ sym (bytes_later s f files (of_one spot s f (same_spot spot f same) other));
}

placed_later : (spot : Spot) (f : LogFile) (files : List LogFile) (place : ℕ) → is_of spot f ≡ false → IsPlaced spot files place → IsPlaced spot (f ∷ files) (suc place)
placed_later spot f files place not_same rest = record {
  bytes = λ d. rest.bytes d ∙ sym (bytes_later spot f files not_same);
  its_spot = λ d. rest.its_spot d;
  changed = λ g is. bytes_later spot f (set files place g) not_same ∙ rest.changed g is;
  others = λ g is s other. either g is s other (cases_Bool (is_of s f));
}
  where
    either : (g : LogFile) → g.spot ≡ spot → (s : Spot) → s ≢ spot → (is_of s f ≡ true) ⊎ (is_of s f ≡ false) → calls_at (f ∷ set files place g) s ≡ calls_at (f ∷ files) s
    either g is s other (inl same) = bytes_first s f (set files place g) same ∙ sym (bytes_first s f files same)
    either g is s other (inr not) = bytes_later s f (set files place g) not ∙ rest.others g is s other ∙ sym (bytes_later s f files not)

pub placed : (spot : Spot) (files : List LogFile) (place : ℕ) → position_or_len (is_of spot) files ≡ place → place < length files → IsPlaced spot files place
placed spot [] place is within = absurd (omega arith)
placed spot (f ∷ files) place is within = elim (cases_Bool (is_of spot f)) [
  | inl same ↦ subst (IsPlaced spot (f ∷ files)) (sym (first spot f files same) ∙ is) (placed_first spot f files same)
  | inr not ↦
      let inner : position_or_len (is_of spot) files < length files = omega (arith, later spot f files not) in
      subst (IsPlaced spot (f ∷ files)) (sym (later spot f files not) ∙ is) (placed_later spot f files _ not (placed spot files _ refl inner))
]

-- where no file of the spot is found, its bytes are none
pub absent : (spot : Spot) (files : List LogFile) → length files ≤ position_or_len (is_of spot) files → calls_at files spot ≡ []
absent spot [] none = refl
absent spot (f ∷ files) none = elim (cases_Bool (is_of spot f)) [
  | inl same ↦ absurd (omega (arith, first spot f files same))
  | inr not ↦ bytes_later spot f files not ∙ absent spot files (omega (arith, later spot f files not))
]

-- a file more at the end counts where none was found before
pub pushed : (spot : Spot) (files : List LogFile) (g : LogFile) → g.spot ≡ spot → length files ≤ position_or_len (is_of spot) files → calls_at (files ++ g ∷ []) spot ≡ g.file
pushed spot [] g is none = bytes_first spot g [] (of_its_spot spot g is)
pushed spot (f ∷ files) g is none = elim (cases_Bool (is_of spot f)) [
  | inl same ↦ absurd (omega (arith, first spot f files same))
  | inr not ↦ bytes_later spot f (files ++ g ∷ []) not ∙ pushed spot files g is (omega (arith, later spot f files not))
]

pub pushed_others : (spot : Spot) (files : List LogFile) (g : LogFile) → g.spot ≡ spot → (s : Spot) → s ≢ spot → calls_at (files ++ g ∷ []) s ≡ calls_at files s
pushed_others spot [] g is s other = bytes_later s g [] (of_one spot s g is other)
pushed_others spot (f ∷ files) g is s other = elim (cases_Bool (is_of s f)) [
  | inl same ↦ bytes_first s f (files ++ g ∷ []) same ∙ sym (bytes_first s f files same)
  | inr not ↦ bytes_later s f (files ++ g ∷ []) not ∙ pushed_others spot files g is s other ∙ sym (bytes_later s f files not)
]

-- what `position` finds
pub found : (spot : Spot) (files : List LogFile) (place : ℕ) → Some place ≡ position (is_of spot) files → (place < length files) × IsPlaced spot files place
found spot files place is = elim (cases_Bool (nat_lt (position_or_len (is_of spot) files) (length files))) [
  | inl within ↦
      let here : Some place ≡ Some (position_or_len (is_of spot) files) = is ∙ rw within refl in
      let same : position_or_len (is_of spot) files ≡ place = cc in
      let lt : position_or_len (is_of spot) files < length files = grind (arith, nat_tests) in
      (omega arith, placed spot files place same (omega arith))
  | inr none ↦
      let here : Some place ≡ None = is ∙ rw none refl in
      absurd (cc)
]

pub missing : (spot : Spot) (files : List LogFile) → None ≡ position (is_of spot) files → length files ≤ position_or_len (is_of spot) files
missing spot files is = elim (cases_Bool (nat_lt (position_or_len (is_of spot) files) (length files))) [
  | inl within ↦
      let here : None ≡ Some (position_or_len (is_of spot) files) = is ∙ rw within refl in
      absurd (cc)
  | inr none ↦ grind (arith, nat_tests)
]

-- a file that is found was used
pub used_at : (spot : Spot) (files : List LogFile) (place : ℕ) → position_or_len (is_of spot) files ≡ place → place < length files → is_used (calls_at files spot) ≡ true
used_at spot [] place is within = absurd (omega arith)
used_at spot (f ∷ files) place is within = elim (cases_Bool (is_of spot f)) [
  | inl same ↦ ap is_used (bytes_first spot f files same) ∙ f.used
  | inr not ↦
      let inner : position_or_len (is_of spot) files < length files = omega (arith, later spot f files not) in
      ap is_used (bytes_later spot f files not) ∙ used_at spot files _ refl inner
]

pub used_where_kept : (spot : Spot) (files : List LogFile) (place : Option ℕ) → place ≡ position (is_of spot) files → is_some place ≡ true → calls_at files spot ≡ [] → ⊥
used_where_kept spot files place is some none = elim (cases_Bool (nat_lt (position_or_len (is_of spot) files) (length files))) [
  | inl within ↦
      let lt : position_or_len (is_of spot) files < length files = grind (arith, nat_tests) in
      let used : is_used (calls_at files spot) ≡ true = used_at spot files _ refl lt in
      let unused : is_used (calls_at files spot) ≡ false = ap is_used none in
      absurd (cc)
  | inr beyond ↦
      let here : place ≡ None = is ∙ rw beyond refl in
      let nowhere : is_some place ≡ false = ap is_some here in
      absurd (cc)
]
