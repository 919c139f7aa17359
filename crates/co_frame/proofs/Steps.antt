-- The steps of a walk, in the words of its fields: the text, the place, and what it stands for.
use Rattle.std.proofs.Common.{◌≡◌, ◌≢◌, ℕ, ◌+◌, ◌-◌, ◌<◌, ◌≤◌, List, ◌++◌, length, get_or, take, drop, refl, sym, ap, subst, ◌∙◌, arith}
use Rattle.std.specs.List.{slice_range}
use Rattle.std.proofs.lemmas.List.{take_rest, take_at, drop-drop}
use Rattle.co_frame.specs.LogText.{IsLogText, HasBatch, IsBrokenAt, GateWalk, HasPassed, batch_text}
use Rattle.co_frame.proofs.Texts.{ends_short, ends_closed, breaks}

abbrev pub walk_of : List ℕ → ℕ → GateWalk
walk_of source at = record { source = source; at = at }

abbrev pub behind_gate : List ℕ → ℕ → List ℕ
behind_gate source at = take (length source - (at + 1)) (drop (at + 1) source)

pub told_short : (source : List ℕ) (at : ℕ) (walk : GateWalk) → walk_of source at ≡ walk → length source ≤ 1
    → (batches : List (List ℕ)) → HasPassed walk batches → IsLogText walk.source batches × (walk ≡ walk)
told_short source at walk is short batches passed =
    (ends_short walk batches passed (subst (λ (w : GateWalk). length w.source ≤ 1) is short), refl)

pub told_closed : (source : List ℕ) (at : ℕ) (walk : GateWalk) → walk_of source at ≡ walk → 1 < length source → at < length source → get_or source at 0 ≢ 165
    → (batches : List (List ℕ)) → HasPassed walk batches → IsLogText walk.source batches × (walk ≡ walk)
told_closed source at walk is long within closed batches passed =
    (subst (λ (w : GateWalk). HasPassed w batches → IsLogText w.source batches) is (λ p. ends_closed (walk_of source at) batches p long within closed) passed, refl)

pub told_broken : (source : List ℕ) (at : ℕ) (walk : GateWalk) → walk_of source at ≡ walk → 1 < length source → at < length source → get_or source at 0 ≡ 165 → ¬ (HasBatch (behind_gate source at))
    → (batches : List (List ℕ)) → HasPassed walk batches → IsBrokenAt walk.source at × (at ≡ walk.at) × (walk ≡ walk)
told_broken source at walk is long within opened broken batches passed = (
  subst (λ (w : GateWalk). HasPassed w batches → IsBrokenAt w.source at) is (λ p. breaks (walk_of source at) batches p long within opened (subst (λ (t : List ℕ). ¬ (HasBatch t)) (take_rest source (at + 1)) broken)) passed,
  ap (λ (w : GateWalk). w.at) is,
  refl,
)

-- a batch that stands behind the gate is the slice behind its length
pub lent : (source : List ℕ) (at : ℕ) (walk : GateWalk) (records more : List ℕ) → walk_of source at ≡ walk → behind_gate source at ≡ batch_text records ++ more
    → (at + 5 ≡ walk.at + 5) × (records ≡ slice_range walk.source (at + 5) (at + 5 + length records))
lent source at walk records more is text =
    let behind : drop (at + 1) source ≡ batch_text records ++ more = sym (take_rest source (at + 1)) ∙ text in
    let from : drop (at + 5) source ≡ records ++ more = ap (λ (n : ℕ). drop n source) (let e : at + 5 ≡ (at + 1) + 4 = omega arith in e) ∙ sym (drop-drop 4 (at + 1) source) ∙ ap (drop 4) behind in
    let many : at + 5 + length records - (at + 5) ≡ length records = omega arith in (
      ap (λ (w : GateWalk). w.at + 5) is,
      subst (λ (w : GateWalk). records ≡ slice_range w.source (at + 5) (at + 5 + length records)) is
          (sym (take_at records more (length records) refl) ∙ ap (take (length records)) (sym from) ∙ ap (λ (n : ℕ). take n (drop (at + 5) source)) (sym many)),
    )
