-- The numbers that stand in logs, as they are laid into one set.
use Rattle.std.proofs.Common.{◌≡◌, ℕ, zero, suc, ◌+◌, Bool, true, false, cond, ◌||◌, ◌==◌, List, [], ◌∷◌, map, length, Option, Some, refl, sym, ap, ◌∙◌, arith}
use Rattle.std.specs.Option.{is_some}
use Rattle.std.specs.List.{list_any}
use Rattle.std.specs.Ordering.{nat_cmp, eq_by_cmp}
use Rattle.std.specs.Cmp.{nat_cmp_total, unsigned_ties}
use Rattle.std.proofs.lemmas.Bool.Decides.{nat_tests}
use Rattle.std.specs.FinMap.{entries, keys, get, len-entries, len-empty, get-insert, contains_key-keys, same_map, nat_cmp-IsAntisymmetric}
use Rattle.co_pairs.specs.Votes.{prepared_of}
use Rattle.co_state.specs.declared.engine_state.Vote.{Vote}
use Rattle.co_state.specs.Table.{no_entries, holds}
use Rattle.co_log.specs.LogView.{LogView}
use Rattle.co_plain.specs.MemberView.{Numbers, with_number, with_numbers, recovered_view}
use Rattle.co_plain.specs.CoordView.{recovered_commits}
use Rattle.co_plain.specs.Numbers.{has_number}
use Rattle.co_plain.specs.Opening.{Found, with_all, numbers_in, union_to, used_numbers}
use Rattle.co_plain.specs.declared.member_view.MemberView.{MemberView}
use Rattle.co_recover.specs.Recovered.{past_of_member}
use Rattle.co_recover.specs.declared.past.CoordPast.{CoordPast}
use Rattle.co_recover.specs.declared.past.MemberPast.{MemberPast}
use Rattle.co_opening.specs.Counted.{with_member, with_members, with_coords}
use Rattle.co_opening.specs.Standing.{AreMembersFound, AreCoordsFound}

-- ---- sets of numbers

either : {A : Type 0} (a b : Bool) (x y : A) → cond b x (cond a x y) ≡ cond (a || b) x y
either true true x y = refl
either true false x y = refl
either false true x y = refl
either false false x y = refl

laid : (ts : List ℕ) (n : Numbers) (q : ℕ) → get (with_numbers n ts) q ≡ cond (list_any (eq_by_cmp nat_cmp q) ts) (Some tt) (get n q)
laid [] n q = refl
laid (t ∷ ts) n q =
    laid ts (with_number n t) q ∙ ap (cond (list_any (eq_by_cmp nat_cmp q) ts) (Some tt)) (get-insert nat_cmp_total n t tt q)
    ∙ either (eq_by_cmp nat_cmp q t) (list_any (eq_by_cmp nat_cmp q) ts) (Some tt) (get n q)

none_of : {A : Type 0} (es : List A) → length es ≡ 0 → es ≡ []
none_of [] h = refl
none_of (e ∷ es) h = absurd (omega (arith, h))

no_keys : (X : Type 0) → keys (no_entries {X = X}) ≡ []
no_keys X = ap (λ (es : List (ℕ × X)). map (λ e. e.0) es) (none_of (entries no_entries) (sym (len-entries no_entries) ∙ len-empty nat_cmp X))

split : (b : Bool) (o r : Option (Unit {0})) → cond (is_some (cond b (Some tt) o)) (Some tt) r ≡ cond b (Some tt) (cond (is_some o) (Some tt) r)
split true o r = refl
split false o r = refl

-- the numbers of a set that had more laid into it are its own and those
laid_again : (n m : Numbers) (ts : List ℕ) → with_numbers n (keys (with_numbers m ts)) ≡ with_numbers (with_numbers n (keys m)) ts
laid_again n m ts = same_map nat_cmp_total nat_cmp-IsAntisymmetric _ _ here
  where
    here : (q : ℕ) → get (with_numbers n (keys (with_numbers m ts))) q ≡ get (with_numbers (with_numbers n (keys m)) ts) q
    here q =
        laid (keys (with_numbers m ts)) n q
        ∙ ap (λ b. cond b (Some tt) (get n q)) (sym (contains_key-keys (with_numbers m ts) q) ∙ ap is_some (laid ts m q))
        ∙ split (list_any (eq_by_cmp nat_cmp q) ts) (get m q) (get n q)
        ∙ ap (λ b. cond (list_any (eq_by_cmp nat_cmp q) ts) (Some tt) (cond b (Some tt) (get n q))) (contains_key-keys m q)
        ∙ ap (cond (list_any (eq_by_cmp nat_cmp q) ts) (Some tt)) (sym (laid (keys m) n q)) ∙ sym (laid ts (with_numbers n (keys m)) q)

-- the list of a set has its numbers
any_same : (f g : ℕ → Bool) (xs : List ℕ) → ((x : ℕ) → f x ≡ g x) → list_any f xs ≡ list_any g xs
any_same f g [] same = refl
any_same f g (x ∷ xs) same = ap (λ b. b || list_any f xs) (same x) ∙ ap (λ b. g x || b) (any_same f g xs same)

-- ---- members

txns_of : (es : List (ℕ × Vote)) → map (λ vote. vote.txn) (map prepared_of es) ≡ map (λ e. e.0) es
txns_of [] = refl
txns_of (e ∷ es) = ap (λ (ts : List ℕ). e.0 ∷ ts) (txns_of es)

member_laid : (n : Numbers) (v : MemberView) → with_member n (past_of_member v) ≡ with_all n (numbers_in v)
member_laid n v =
    ap (λ (ts : List ℕ). with_numbers (with_numbers n ts) (keys v.committed)) (txns_of (entries v.voted))
    ∙ ap (λ (ts : List ℕ). with_numbers (with_numbers (with_numbers n ts) (keys v.voted)) (keys v.committed)) (sym (no_keys (Unit {0})))
    ∙ ap (λ (m : Numbers). with_numbers m (keys v.committed)) (sym (laid_again n no_entries (keys v.voted)))
    ∙ sym (laid_again n (with_numbers no_entries (keys v.voted)) (keys v.committed))

members_laid : (coords : ℕ) (found : ℕ → Found) (p : ℕ) (logs : List LogView) (pasts : List MemberPast) → AreMembersFound coords found p logs pasts
    → with_members (union_to p (λ m. numbers_in (recovered_view (found m).records))) pasts ≡ union_to (p + length logs) (λ m. numbers_in (recovered_view (found m).records))
members_laid coords found p [] [] all = ap (λ n. union_to n (λ m. numbers_in (recovered_view (found m).records))) (let e : p ≡ p + 0 = omega arith in e)
members_laid coords found p [] (t ∷ ts) all = absurd all
members_laid coords found p (l ∷ ls) [] all = absurd all
members_laid coords found p (l ∷ ls) (t ∷ ts) all =
    let sets : ℕ → Numbers = λ m. numbers_in (recovered_view (found m).records) in
    ap (λ (n : Numbers). with_members n ts) (ap (with_member (union_to p sets)) all.0.past_is ∙ member_laid (union_to p sets) (recovered_view (found (suc p)).records))
    ∙ members_laid coords found (suc p) ls ts all.1 ∙ ap (λ n. union_to n sets) (let e : suc p + length ls ≡ p + suc (length ls) = omega arith in e)

-- ---- coordinators

coords_laid : (members : ℕ) (found : ℕ → Found) (n : Numbers) (p : ℕ) (logs : List LogView) (pasts : List CoordPast) → AreCoordsFound members found p logs pasts
    → with_coords (with_all n (union_to p (λ c. (recovered_commits (found c).records).seen))) pasts ≡ with_all n (union_to (p + length logs) (λ c. (recovered_commits (found c).records).seen))
coords_laid members found n p [] [] all = ap (λ k. with_all n (union_to k (λ c. (recovered_commits (found c).records).seen))) (let e : p ≡ p + 0 = omega arith in e)
coords_laid members found n p [] (t ∷ ts) all = absurd all
coords_laid members found n p (l ∷ ls) [] all = absurd all
coords_laid members found n p (l ∷ ls) (t ∷ ts) all =
    let sets : ℕ → Numbers = λ c. (recovered_commits (found c).records).seen in
    ap (λ (m : Numbers). with_coords m ts)
    (ap (λ (past : CoordPast). with_numbers (with_all n (union_to p sets)) past.seen) all.0.past_is ∙ sym (laid_again n (union_to p sets) (keys (sets (suc p)))))
    ∙ coords_laid members found n (suc p) ls ts all.1 ∙ ap (λ k. with_all n (union_to k sets)) (let e : suc p + length ls ≡ p + suc (length ls) = omega arith in e)

-- what is laid of all logs is what stands in them
pub all_laid : (members coords : ℕ) (found_member found_coord : ℕ → Found) (member_logs coord_logs : List LogView) (member_pasts : List MemberPast) (coord_pasts : List CoordPast)
    → length member_logs ≡ members → length coord_logs ≡ coords → AreMembersFound coords found_member 0 member_logs member_pasts → AreCoordsFound members found_coord 0 coord_logs coord_pasts
    → with_coords (with_members no_entries member_pasts) coord_pasts ≡ used_numbers members coords found_member found_coord
all_laid members coords found_member found_coord member_logs coord_logs member_pasts coord_pasts many few m c =
    let member_of : ℕ → Numbers = λ n. numbers_in (recovered_view (found_member n).records) in
    let coord_of : ℕ → Numbers = λ n. (recovered_commits (found_coord n).records).seen in
    ap (λ (n : Numbers). with_coords n coord_pasts) (members_laid coords found_member 0 member_logs member_pasts m ∙ ap (λ n. union_to n member_of) (let e : 0 + length member_logs ≡ members = omega (arith, many) in e))
    ∙ ap (λ (ts : List ℕ). with_coords (with_numbers (union_to members member_of) ts) coord_pasts) (sym (no_keys (Unit {0})))
    ∙ coords_laid members found_coord (union_to members member_of) 0 coord_logs coord_pasts c
    ∙ ap (λ n. with_all (union_to members member_of) (union_to n coord_of)) (let e : 0 + length coord_logs ≡ coords = omega (arith, few) in e)

-- ---- logs without records

union_none : (n : ℕ) (sets : ℕ → Numbers) → ((k : ℕ) → sets k ≡ no_entries) → union_to n sets ≡ no_entries
union_none zero sets none = refl
union_none (suc n) sets none =
    ap (λ (m : Numbers). with_all m (sets (suc n))) (union_none n sets none) ∙ ap (λ (m : Numbers). with_all no_entries m) (none (suc n)) ∙ ap (with_numbers no_entries) (no_keys (Unit {0}))

pub none_used : (members coords : ℕ) (found_member found_coord : ℕ → Found) → ((m : ℕ) → (found_member m).records ≡ []) → ((c : ℕ) → (found_coord c).records ≡ []) → length (keys (used_numbers members coords found_member found_coord)) ≡ 0
none_used members coords found_member found_coord m c =
    let member_of : ℕ → Numbers = λ n. numbers_in (recovered_view (found_member n).records) in
    let coord_of : ℕ → Numbers = λ n. (recovered_commits (found_coord n).records).seen in
    let no_votes : numbers_in (recovered_view []) ≡ no_entries =
    ap (λ (ts : List ℕ). with_numbers (with_numbers no_entries ts) (keys (no_entries {X = Unit {0}}))) (no_keys Vote) ∙ ap (with_numbers no_entries) (no_keys (Unit {0})) in
    let one : union_to members member_of ≡ no_entries = union_none members member_of (λ k. ap (λ (rs : List _). numbers_in (recovered_view rs)) (m k) ∙ no_votes) in
    let two : union_to coords coord_of ≡ no_entries = union_none coords coord_of (λ k. ap (λ (rs : List _). (recovered_commits rs).seen) (c k)) in
    ap (λ (n : Numbers). length (keys (with_all n (union_to coords coord_of)))) one ∙ ap (λ (n : Numbers). length (keys (with_all no_entries n))) two
    ∙ ap (λ (ts : List ℕ). length (keys (with_numbers no_entries ts))) (no_keys (Unit {0})) ∙ ap length (no_keys (Unit {0}))

-- ---- the list of a set

swapped : (k t : ℕ) → (k == t) ≡ (t == k)
swapped k t = grind (arith, nat_tests)

pub has_keys : (numbers : Numbers) (t : ℕ) → has_number (keys numbers) t ≡ holds numbers t
has_keys numbers t = any_same (λ k. k == t) (eq_by_cmp nat_cmp t) (keys numbers) (λ k. swapped k t ∙ unsigned_ties t k) ∙ sym (contains_key-keys numbers t)
