-- The value at one key, as changes are laid over records.
use Rattle.std.proofs.Common.{◌≡◌, ℕ, Bool, true, false, cond, List, [], ◌∷◌, if◌then◌else◌, Option, None, Some, refl, ap, ◌∙◌}
use Rattle.std.proofs.lemmas.Cmp.{nat_list_cmp_total}
use Rattle.std.specs.FinMap.{get, get-insert, get-remove}
use Rattle.co_base.specs.declared.written.Written.{Written}
use Rattle.co_serial.specs.Records.{Records, with_change, with_changes}
use Rattle.co_state.specs.Keys.{same_key}
use Rattle.co_index.proofs.Keys.{swapped}

pub get-with_change : (records : Records) (k : List ℕ) (v : Option (List ℕ)) (q : List ℕ) → get (with_change records k v) q ≡ cond (same_key q k) v (get records q)
get-with_change records k None q = get-remove nat_list_cmp_total records k q
get-with_change records k (Some v) q = get-insert nat_list_cmp_total records k v q

abbrev pub value_after : Option (List ℕ) → List Written → List ℕ → Option (List ℕ)
value_after found [] key = found
value_after found (w ∷ ws) key = value_after (if same_key w.key key then w.value else found) ws key

as_if : (b : Bool) {A : Type 0} (x y : A) → cond b x y ≡ (if b then x else y)
as_if true x y = refl
as_if false x y = refl

pub get-with_changes : (records : Records) (ws : List Written) (q : List ℕ) → get (with_changes records ws) q ≡ value_after (get records q) ws q
get-with_changes records [] q = refl
get-with_changes records (w ∷ ws) q =
    get-with_changes (with_change records w.key w.value) ws q
    ∙ ap (λ v. value_after v ws q)
    (get-with_change records w.key w.value q ∙ as_if (same_key q w.key) w.value (get records q) ∙ ap (λ b. if b then w.value else get records q) (swapped q w.key))
