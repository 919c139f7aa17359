-- Rows as versions before all installs, the last row first.
use Rattle.std.proofs.Common.{◌≡◌, List, [], ◌∷◌, ◌++◌, Some, refl, ap}
use Rattle.std.specs.FinMap.{empty, insert}
use Rattle.co_base.specs.declared.row.Row.{Row}
use Rattle.co_mv.specs.Chains.{Chains, chains_from}
use Rattle.co_mv.specs.Versions.{base_versions}

abbrev pub chains_under : List Row → Chains → Chains
chains_under [] m = m
chains_under (r ∷ rs) m = insert (chains_under rs m) r.key (base_versions (Some r.value))

pub chains_under-push : (rs : List Row) (r : Row) (m : Chains) → chains_under (rs ++ r ∷ []) m ≡ chains_under rs (insert m r.key (base_versions (Some r.value)))
chains_under-push [] r m = refl
chains_under-push (s ∷ rs) r m = ap (λ n. insert n s.key (base_versions (Some s.value))) (chains_under-push rs r m)

pub chains_under-empty : (rs : List Row) → chains_under rs empty ≡ chains_from rs
chains_under-empty [] = refl
chains_under-empty (r ∷ rs) = ap (λ m. insert m r.key (base_versions (Some r.value))) (chains_under-empty rs)
