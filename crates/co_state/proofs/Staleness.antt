-- The least overwritten key, found over the installs and the operations from the newest ones on.
use Rattle.std.proofs.Common.{◌≡◌, ℕ, ◌+◌, ◌<◌, ◌≤◌, nat_le, Bool, true, false, cond, List, [], ◌∷◌, ◌++◌, length, take, get_or, reverse, map, filter, Option, None, Some, refl, sym, ap, ◌∙◌, if◌then◌else◌, arith}
use Rattle.std.proofs.lemmas.Bool.Decides.{nat_tests}
use Rattle.std.proofs.lemmas.List.{length-reverse, length-take-le}
use Rattle.std.specs.Ordering.{is_lt}
use Rattle.co_base.specs.Order.{key_cmp}
use Rattle.co_base.specs.Span.{Span}
use Rattle.co_state.specs.declared.engine_state.Install.{Install}
use Rattle.co_state.specs.declared.engine_state.Operation.{Operation}
use Rattle.co_state.specs.Changes.{span_read}
use Rattle.co_state.specs.Keys.{least_from}
use Rattle.co_state.specs.Search.{least_with, range_has}
use Rattle.co_state.specs.StaleRead.{keys_since, overwritten, stale_keys}
use Rattle.co_state.proofs.Newest.{newest_more}

least_from-append : (key : List ℕ) (xs ys : List (List ℕ)) → least_from key (xs ++ ys) ≡ least_from (least_from key xs) ys
least_from-append key [] ys = refl
least_from-append key (x ∷ xs) ys =
    elim (is_lt (key_cmp x key))
    as (λ b. (if b then least_from x (xs ++ ys) else least_from key (xs ++ ys)) ≡ least_from (if b then least_from x xs else least_from key xs) ys)
    [ true ↦ least_from-append x xs ys | false ↦ least_from-append key xs ys ]

pub least_with-append : (found : Option (List ℕ)) (xs ys : List (List ℕ)) → least_with found (xs ++ ys) ≡ least_with (least_with found xs) ys
least_with-append None [] ys = refl
least_with-append None (x ∷ xs) ys = ap Some (least_from-append x xs ys)
least_with-append (Some key) xs ys = ap Some (least_from-append key xs ys)

filter-none : (ks : List (List ℕ)) → [] ≡ filter (range_has None) ks
filter-none [] = refl
filter-none (k ∷ ks) = filter-none ks

pub overwritten-filter : (span : Option Span) (ks : List (List ℕ)) → overwritten span ks ≡ filter (range_has span) ks
overwritten-filter None ks = filter-none ks
overwritten-filter (Some span) ks = refl

filter-append : (p : List ℕ → Bool) (xs ys : List (List ℕ)) → filter p (xs ++ ys) ≡ filter p xs ++ filter p ys
filter-append p [] ys = refl
filter-append p (x ∷ xs) ys =
    elim (p x) as (λ b. cond b (x ∷ filter p (xs ++ ys)) (filter p (xs ++ ys)) ≡ cond b (x ∷ filter p xs) (filter p xs) ++ filter p ys)
    [ true ↦ ap (λ zs. x ∷ zs) (filter-append p xs ys) | false ↦ filter-append p xs ys ]

-- installs that are as many as were seen, or fewer, wrote nothing since
pub none_since : (is : List Install) (stamp : ℕ) → length is ≤ stamp → keys_since is stamp ≡ []
none_since [] stamp h = refl
none_since (i ∷ is) stamp h =
    let t : nat_le stamp (length is) ≡ false = grind (arith, nat_tests) in
    ap (λ b. if b then map (λ w. w.key) i.writes ++ keys_since is stamp else []) t

keys_since-more : (xs : List Install) (p place stamp : ℕ) (x : Install) → p < length xs → p + 1 ≡ place → x ≡ get_or xs p x → stamp ≤ p
    → keys_since (reverse (take place xs)) stamp ≡ map (λ w. w.key) x.writes ++ keys_since (reverse (take p xs)) stamp
keys_since-more xs p place stamp x h e is s =
    let l : length (reverse (take p xs)) ≡ p = length-reverse (take p xs) ∙ length-take-le p xs (omega arith) in
    let t : nat_le stamp (length (reverse (take p xs))) ≡ true = grind (arith, nat_tests) in
    ap (λ n. keys_since (reverse (take n xs)) stamp) (sym e) ∙ ap (λ is. keys_since is stamp) (newest_more xs p x h is)
    ∙ ap (λ b. if b then map (λ w. w.key) x.writes ++ keys_since (reverse (take p xs)) stamp else []) t

-- one more install is searched
pub since_more : (found : Option (List ℕ)) (span : Option Span) (xs : List Install) (p place stamp : ℕ) (x : Install)
    → p < length xs → p + 1 ≡ place → x ≡ get_or xs p x → stamp ≤ p
    → least_with (least_with found (filter (range_has span) (map (λ w. w.key) x.writes))) (overwritten span (keys_since (reverse (take p xs)) stamp))
    ≡ least_with found (overwritten span (keys_since (reverse (take place xs)) stamp))
since_more found span xs p place stamp x h e is s =
    let old = keys_since (reverse (take p xs)) stamp in
    let ks = map (λ w. w.key) x.writes in
    ap (least_with (least_with found (filter (range_has span) ks))) (overwritten-filter span old)
    ∙ sym (least_with-append found (filter (range_has span) ks) (filter (range_has span) old))
    ∙ ap (least_with found) (sym (filter-append (range_has span) ks old) ∙ ap (filter (range_has span)) (sym (keys_since-more xs p place stamp x h e is s))
    ∙ sym (overwritten-filter span (keys_since (reverse (take place xs)) stamp)))

overwritten-none : (span : Option Span) → overwritten span [] ≡ []
overwritten-none None = refl
overwritten-none (Some span) = refl

least_with-none : (found : Option (List ℕ)) → least_with found [] ≡ found
least_with-none None = refl
least_with-none (Some key) = refl

-- no more installs are to be searched
pub since_none : (found : Option (List ℕ)) (span : Option Span) (xs : List Install) (place stamp : ℕ) → place ≤ length xs → place ≤ stamp
    → found ≡ least_with found (overwritten span (keys_since (reverse (take place xs)) stamp))
since_none found span xs place stamp h s =
    let l : length (reverse (take place xs)) ≤ stamp = let e : length (reverse (take place xs)) ≡ place = length-reverse (take place xs) ∙ length-take-le place xs h in omega arith in
    sym (ap (λ ks. least_with found (overwritten span ks)) (none_since (reverse (take place xs)) stamp l) ∙ ap (least_with found) (overwritten-none span) ∙ least_with-none found)

-- one more operation is searched
pub stale_more : (found : Option (List ℕ)) (is : List Install) (xs : List Operation) (p place : ℕ) (x : Operation)
    → p < length xs → p + 1 ≡ place → x ≡ get_or xs p x
    → least_with (least_with found (overwritten (span_read x.op) (keys_since is x.stamp))) (stale_keys is (reverse (take p xs)))
    ≡ least_with found (stale_keys is (reverse (take place xs)))
stale_more found is xs p place x h e at =
    sym (least_with-append found _ _) ∙ ap (λ os. least_with found (stale_keys is os)) (sym (newest_more xs p x h at)) ∙ ap (λ n. least_with found (stale_keys is (reverse (take n xs)))) e
