-- A ring is turned.
use Rattle.std.proofs.Common.{◌≡◌, ℕ, suc, ◌<◌, ◌≤◌, List, ◌++◌, length, take, drop, get_or, sym, ap, ◌∙◌, subst, drop-cons}
use Rattle.std.specs.Prelude.{All}
use Rattle.std.proofs.lemmas.List.{get_or_default, take-append-drop}
use Rattle.std.proofs.lemmas.List.Elements.{All-append, All-drop, All-take}
use Rattle.co_wait.specs.declared.wait.Wait.{Wait}
use Rattle.co_wait.specs.Knots.{IsTurned, LeastIsFirst}
use Rattle.co_wait.specs.Searching.{IsLeastUpTo}

all_above : (ring : List Wait) (place : ℕ) (d : Wait) → place < length ring → IsLeastUpTo ring place (length ring) → All (λ v. (get_or ring place d).held ≤ v.held) ring
all_above ring place d lt least k e in_range =
    subst (λ (x : Wait). x.held ≤ (get_or ring k e).held) (get_or_default ring place e d lt) (least k e in_range)

pub turned_at : (ring legs : List Wait) (place : ℕ) → place < length ring → IsLeastUpTo ring place (length ring) → legs ≡ drop place ring ++ take place ring → IsTurned ring legs
turned_at ring legs place lt least is = record {
  front = take place ring;
  back = drop place ring;
  cut = sym (take-append-drop place ring);
  joined = is;
  least = subst LeastIsFirst (sym (is ∙ ap (λ back. back ++ take place ring) (drop-cons ring place d lt)))
      (All-append (λ v. (get_or ring place d).held ≤ v.held) (drop (suc place) ring) (take place ring) (All-drop (λ v. (get_or ring place d).held ≤ v.held) (suc place) ring above)
      (All-take (λ v. (get_or ring place d).held ≤ v.held) place ring above));
}
  where
    d : Wait
    d = record { member = 0; held = 0; by = 0 }

    above : All (λ v. (get_or ring place d).held ≤ v.held) ring
    above = all_above ring place d lt least
