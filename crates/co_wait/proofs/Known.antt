-- What is known of transactions, and how many they are.
use Rattle.std.proofs.Common.{◌≡◌, ◌≢◌, ℕ, ◌+◌, ◌<◌, ◌≤◌, ◌⊎◌, inl, inr, true, cond, None, Some, sym, ap, ◌∙◌, subst}
use Rattle.std.specs.Prelude.{All, is_some}
use Rattle.std.specs.List.{list_any}
use Rattle.std.specs.FinMap.{entries, keys, len, len-entries, len-insert, contains_key-keys}
use Rattle.std.specs.Cmp.{nat_cmp_total}
use Rattle.std.proofs.lemmas.Cmp.{nat_eq_equiv}
use Rattle.std.proofs.lemmas.List.{length-map}
use Rattle.std.proofs.lemmas.Map.Views.{All-from_any, length-le_from_below}
use Rattle.co_state.specs.Table.{Table, look, holds, put}
use Rattle.co_state.proofs.Tables.{same_test}
use Rattle.co_law_base.proofs.Lookups.{put_there, put_cases, found_holds, holds_found}
use Rattle.co_recover.proofs.Ascending.{keys_ascend}
use Rattle.co_wait.specs.declared.search.Progress.{Progress}
use Rattle.co_wait.specs.declared.search.Progress.TheVariants.{Open, Ended}
use Rattle.co_wait.specs.Searching.{IsKnownToEnd, KeepsEnded}

-- a table of numbers below a bound has no more entries than the bound
pub few : {X : Type 0} (table : Table X) (n : ℕ) → ((t : ℕ) → holds table t ≡ true → t < n) → len table ≤ n
few table n below =
    let all : All (λ t. t < n) (keys table) =
    All-from_any nat_eq_equiv (λ t. t < n) (keys table) (λ t found. below t (contains_key-keys table t ∙ (λ i. list_any (λ k. same_test t k i) (keys table)) ∙ found)) in
    subst (λ k. k ≤ n) (length-map (entries table) (λ e. e.0) ∙ sym (len-entries table)) (length-le_from_below n (keys table) (keys_ascend table) all)

pub one_more : {X : Type 0} (table : Table X) (t : ℕ) (x : X) → look table t ≡ None → len (put table t x) ≡ len table + 1
one_more table t x none = len-insert nat_cmp_total table t x ∙ ap (λ b. cond b (len table) (len table + 1)) (ap is_some none)

pub no_more : {X : Type 0} (table : Table X) (t : ℕ) (x y : X) → look table t ≡ Some y → len (put table t x) ≡ len table
no_more table t x y found = len-insert nat_cmp_total table t x ∙ ap (λ b. cond b (len table) (len table + 1)) (ap is_some found)

-- an entry beside those that have ended
pub keeps : (known : Table Progress) (t : ℕ) (x : Progress) → ((rank : ℕ) → look known t ≢ Some (Ended rank)) → KeepsEnded known (put known t x)
keeps known t x never u rank e = put_there known t x u (λ same. never rank (ap (look known) same ∙ e)) ∙ e

pub open_not_ended : (known : Table Progress) (t : ℕ) → look known t ≡ Some Open → (rank : ℕ) → look known t ≢ Some (Ended rank)
open_not_ended known t is rank e = let z : Some Open ≡ Some (Ended rank) = sym is ∙ e in cc

pub none_not_ended : (known : Table Progress) (t : ℕ) → look known t ≡ None → (rank : ℕ) → look known t ≢ Some (Ended rank)
none_not_ended known t is rank e = let z : None ≡ Some (Ended rank) = sym is ∙ e in cc

pub still : (old new : Table Progress) (t : ℕ) → KeepsEnded old new → IsKnownToEnd old t → IsKnownToEnd new t
still old new t kept ended = (ended.0, kept t ended.0 ended.1)

-- who is known after an entry was laid in
pub known_before : {X : Type 0} (table : Table X) (t : ℕ) (x y : X) (u : ℕ) → look table t ≡ Some y → holds (put table t x) u ≡ true → holds table u ≡ true
known_before {X = X} table t x y u found h = let f = holds_found (put table t x) u h in by (put_cases table t x u f.0 f.1)
  where
    by : {z : X} → ((t ≡ u) × (x ≡ z)) ⊎ ((t ≢ u) × (look table u ≡ Some z)) → holds table u ≡ true
    by (inl same) = subst (λ v. holds table v ≡ true) same.0 (found_holds table t y found)
    by {z} (inr other) = found_holds table u z other.1

pub known_or_new : {X : Type 0} (table : Table X) (t : ℕ) (x : X) (u : ℕ) → holds (put table t x) u ≡ true → (t ≡ u) ⊎ (holds table u ≡ true)
known_or_new {X = X} table t x u h = let f = holds_found (put table t x) u h in by (put_cases table t x u f.0 f.1)
  where
    by : {z : X} → ((t ≡ u) × (x ≡ z)) ⊎ ((t ≢ u) × (look table u ≡ Some z)) → (t ≡ u) ⊎ (holds table u ≡ true)
    by (inl same) = inl same.0
    by {z} (inr other) = inr (found_holds table u z other.1)
