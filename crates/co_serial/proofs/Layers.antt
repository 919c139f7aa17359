-- Changes laid one after another over records.
use Rattle.std.proofs.Common.{◌≡◌, ℕ, ◌+◌, ◌<◌, List, [], ◌∷◌, ◌++◌, length, take, get_or, refl, sym, ap, ◌∙◌}
use Rattle.std.proofs.lemmas.List.{take_more}
use Rattle.co_base.specs.declared.written.Written.{Written}
use Rattle.co_serial.specs.Records.{Records, with_change, with_changes}

pub with_changes-push : (records : Records) (ws : List Written) (w : Written) → with_changes records (ws ++ w ∷ []) ≡ with_change (with_changes records ws) w.key w.value
with_changes-push records [] w = refl
with_changes-push records (v ∷ ws) w = with_changes-push (with_change records v.key v.value) ws w

-- one more change is laid
pub laid_more : (start now : Records) (changes : List Written) (place : ℕ) (w : Written) → place < length changes → w ≡ get_or changes place w
    → now ≡ with_changes start (take place changes) → with_change now w.key w.value ≡ with_changes start (take (place + 1) changes)
laid_more start now changes place w h is e =
    ap (λ m. with_change m w.key w.value) e ∙ sym (with_changes-push start (take place changes) w)
    ∙ ap (λ v. with_changes start (take place changes ++ v ∷ [])) is ∙ ap (with_changes start) (sym (take_more changes place w h))
