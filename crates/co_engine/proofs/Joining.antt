-- Lists of changes joined from the last one on.
use Rattle.std.proofs.Common.{◌≡◌, ℕ, ◌+◌, ◌<◌, List, ◌∷◌, length, drop, get_or, sym, ap, ◌∙◌}
use Rattle.std.proofs.lemmas.List.{drop_more}
use Rattle.co_base.specs.declared.written.Written.{Written}
use Rattle.co_state.specs.Effects.{joined}
use Rattle.co_state.specs.Joined.{joined_all}

-- one more list is joined
pub lists_more : (wss : List (List Written)) (p place : ℕ) (ws : List Written) → p < length wss → p + 1 ≡ place → ws ≡ get_or wss p ws
    → joined ws (joined_all (drop place wss)) ≡ joined_all (drop p wss)
lists_more wss p place ws h e is =
    ap (λ n. joined ws (joined_all (drop n wss))) (sym e) ∙ ap joined_all (ap (λ v. v ∷ drop (p + 1) wss) is ∙ sym (drop_more wss p ws h))
