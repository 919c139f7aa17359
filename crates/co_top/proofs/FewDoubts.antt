-- A federation has no more doubts than its members have open transactions.
use Rattle.std.proofs.Common.{◌≡◌, ◌⊎◌, inl, inr, ℕ, zero, suc, ◌≤◌, ◌<◌, ◌+◌, ◌*◌, Bool, true, false, ◌||◌, ◌==◌, List, [], ◌∷◌, ◌++◌, map, length, get_or, Option, None, Some, refl, sym, ap, ◌∙◌, subst, arith}
use Rattle.std.specs.Prelude.{nat_eq}
use Rattle.std.specs.FinMap.{keys}
use Rattle.std.specs.List.{list_any}
use Rattle.std.specs.Option.{is_some}
use Rattle.std.proofs.lemmas.Bool.{or_cases, eq-eqb, eqb-true, false_from_ne_true}
use Rattle.std.proofs.lemmas.Cmp.{nat_eq_equiv}
use Rattle.std.proofs.lemmas.List.{get_or-map, length-append}
use Rattle.std.proofs.lemmas.List.Folds.{list_any-append}
use Rattle.std.proofs.lemmas.Map.Keys.{IsDistinct-from_apart}
use Rattle.std.proofs.lemmas.Map.Made.{length-le_from_is_member}
use Rattle.co_base.specs.declared.head.Kind.{Kind}
use Rattle.co_cluster.specs.Listed.{IsDoubt, IsDoubtBefore}
use Rattle.co_cluster.specs.declared.doubting.Doubt.{Doubt}
use Rattle.co_coop.specs.Resolution.{AreDoubts}
use Rattle.co_law_base.proofs.Lookups.{is_nothing}
use Rattle.co_law_settle.proofs.OpenSets.{open_counted}
use Rattle.co_plain.specs.Federation.{Federation}
use Rattle.co_plain.specs.Numbers.{has_number}
use Rattle.co_plain.specs.Quiet.{VotedAt, open_count, open_numbers}
use Rattle.co_settle.specs.Reached.{IsReached}
use Rattle.co_settle.proofs.Bounded.{or_left, or_right}
use Rattle.co_settle.proofs.Few.{few_open}
use Rattle.co_settle.proofs.Reaching.{kinds_are}
use Rattle.co_state.specs.Table.{Table, look, holds}
use Rattle.co_state.specs.declared.engine_state.EngineState.{EngineState}
use Rattle.co_state.specs.declared.engine_state.Vote.{Vote}
use Rattle.co_undecided.specs.Kept.{coord_asked}
use Rattle.co_world.specs.Standing.{RepresentsWorld}
use Rattle.co_world.specs.declared.world.World.{World}
use Rattle.co_top.specs.Resolving.{AreListed}
use Rattle.co_top.proofs.Lists.{map_count}
use Rattle.co_top.proofs.TurnsLeft.{listed_doubts}

-- a number for each doubt of a member from 1 to 16, and all such numbers of some transactions
abbrev code_of : Doubt → ℕ
code_of d = d.txn * 17 + d.member

abbrev codes_to : ℕ → ℕ → List ℕ
codes_to t zero = []
codes_to t (suc n) = (t * 17 + suc n) ∷ codes_to t n

abbrev all_codes : List ℕ → List ℕ
all_codes [] = []
all_codes (t ∷ ts) = codes_to t 16 ++ all_codes ts

codes_many : (t n : ℕ) → length (codes_to t n) ≡ n
codes_many t zero = refl
codes_many t (suc n) = ap suc (codes_many t n)

all_many : (ts : List ℕ) → length (all_codes ts) ≡ 16 * length ts
all_many [] = refl
all_many (t ∷ ts) = let both = length-append (codes_to t 16) (all_codes ts) in let one = codes_many t 16 in let rest = all_many ts in omega (arith, both, one, rest)

code_among : (t m n : ℕ) → 1 ≤ m → m ≤ n → list_any (nat_eq (t * 17 + m)) (codes_to t n) ≡ true
code_among t m zero low high = absurd (omega (arith, low, high))
code_among t m (suc n) low high = by (code_among t m n low) (m == suc n) refl
  where
    by : (m ≤ n → list_any (nat_eq (t * 17 + m)) (codes_to t n) ≡ true) → (b : Bool) → (m == suc n) ≡ b → (nat_eq (t * 17 + m) (t * 17 + suc n) || list_any (nat_eq (t * 17 + m)) (codes_to t n)) ≡ true
    by rest true e = or_left (nat_eq (t * 17 + m) (t * 17 + suc n)) _ (eq-eqb (t * 17 + m) (t * 17 + suc n) (ap (λ k. t * 17 + k) (eqb-true m (suc n) e)))
    by rest false e =
        let other : m ≡ suc n → ⊥ = λ is. let z : true ≡ false = sym (eq-eqb m (suc n) is) ∙ e in cc in
        or_right (nat_eq (t * 17 + m) (t * 17 + suc n)) _ (rest (below m n high other))
      where
        below : (m n : ℕ) → m ≤ suc n → (m ≡ suc n → ⊥) → m ≤ n
        below zero n high other = omega arith
        below (suc m) zero high other = absurd (other (omega (arith, high)))
        below (suc m) (suc n) high other = let k = below m n (omega (arith, high)) (λ e. other (ap suc e)) in omega (arith, k)

code_within : (ts : List ℕ) (t m : ℕ) → has_number ts t ≡ true → 1 ≤ m → m ≤ 16 → list_any (nat_eq (t * 17 + m)) (all_codes ts) ≡ true
code_within [] t m h low high = absurd (let z : false ≡ true = h in cc)
code_within (u ∷ ts) t m h low high = list_any-append (nat_eq (t * 17 + m)) (codes_to u 16) (all_codes ts) ∙ by (code_within ts t m) (or_cases (u == t) (has_number ts t) h)
  where
    by : (has_number ts t ≡ true → 1 ≤ m → m ≤ 16 → list_any (nat_eq (t * 17 + m)) (all_codes ts) ≡ true) → ((u == t) ≡ true) ⊎ (has_number ts t ≡ true) →
        (list_any (nat_eq (t * 17 + m)) (codes_to u 16) || list_any (nat_eq (t * 17 + m)) (all_codes ts)) ≡ true
    by rest (inl e) = or_left _ _ (subst (λ k. list_any (nat_eq (t * 17 + m)) (codes_to k 16) ≡ true) (sym (eqb-true u t e)) (code_among t m 16 low high))
    by rest (inr k) = or_right (list_any (nat_eq (t * 17 + m)) (codes_to u 16)) _ (rest k low high)

-- ---- the doubts of a federation

module _ (s : Federation) (r : IsReached s) where
  few_kinds : length s.kinds ≤ 16
  few_kinds = let same = ap length (kinds_are s r) in let few = r.few_members in omega (arith, same, few)

  doubt_within : (d : Doubt) → IsDoubt s d → list_any (nat_eq (code_of d)) (all_codes (keys (open_numbers s))) ≡ true
  doubt_within d is = code_within (keys (open_numbers s)) d.txn d.member (open_counted s d.txn (VotedAt d.member is.own (by ((s.member d.member).engine.voted) is.voted))) is.own.0 (let high = is.own.1 in let few = few_kinds in omega (arith, high, few))
    where
      by : (table : Table Vote) → coord_asked (look table d.txn) ≡ Some d.coord → holds table d.txn ≡ true
      by table h = found (look table d.txn) h
        where
          found : (o : Option Vote) → coord_asked o ≡ Some d.coord → is_some o ≡ true
          found None e = is_nothing e
          found (Some vote) e = refl

  codes_within : (doubts : List Doubt) → AreDoubts s doubts → (q : ℕ) → list_any (nat_eq q) (map code_of doubts) ≡ true → list_any (nat_eq q) (all_codes (keys (open_numbers s))) ≡ true
  codes_within [] are q h = absurd (let z : false ≡ true = h in cc)
  codes_within (d ∷ doubts) are q h = by (codes_within doubts are.1 q) (or_cases (nat_eq q (code_of d)) (list_any (nat_eq q) (map code_of doubts)) h)
    where
      by : (list_any (nat_eq q) (map code_of doubts) ≡ true → list_any (nat_eq q) (all_codes (keys (open_numbers s))) ≡ true) → (nat_eq q (code_of d) ≡ true) ⊎ (list_any (nat_eq q) (map code_of doubts) ≡ true) →
          list_any (nat_eq q) (all_codes (keys (open_numbers s))) ≡ true
      by rest (inl e) = subst (λ k. list_any (nat_eq k) (all_codes (keys (open_numbers s))) ≡ true) (sym (eqb-true q (code_of d) e)) (doubt_within d are.0)
      by rest (inr k) = rest k

  member_few : (doubts : List Doubt) (i : ℕ) (other : Doubt) → AreDoubts s doubts → i < length doubts → (get_or doubts i other).member ≤ 16
  member_few [] i other are within = absurd (omega (arith, within))
  member_few (d ∷ doubts) zero other are within = let high = are.0.own.1 in let few = few_kinds in omega (arith, high, few)
  member_few (d ∷ doubts) (suc i) other are within = member_few doubts i other are.1 (omega (arith, within))

  code_less : (d e : Doubt) → d.member ≤ 16 → IsDoubtBefore d e → code_of d < code_of e
  code_less d e few (inl less) = omega (arith, few, less)
  code_less d e few (inr less) = let t = less.0 in let m = less.1 in omega (arith, t, m)

  module _ (doubts : List Doubt) (are : AreListed s doubts) where
    apart : (i j : ℕ) (k : ℕ) → i < j → j < length (map code_of doubts) → nat_eq (get_or (map code_of doubts) i k) (get_or (map code_of doubts) j k) ≡ false
    apart i j k less within =
        let no : Doubt = record { txn = 0; member = 0; coord = 0 } in
        let many = map_count code_of doubts in
        let high : j < length doubts = omega (arith, within, many) in
        let low : i < length doubts = omega (arith, high, less) in
        let one = get_or-map code_of doubts i no k low in
        let other = get_or-map code_of doubts j no k high in
        let below = code_less (get_or doubts i no) (get_or doubts j no) (member_few doubts i no (listed_doubts s doubts are) low) (are.ascending i j no less high) in
        false_from_ne_true _ (λ same. let z : get_or (map code_of doubts) i k ≡ get_or (map code_of doubts) j k = eqb-true (get_or (map code_of doubts) i k) (get_or (map code_of doubts) j k) same in omega (arith, below, sym one ∙ z ∙ other))

    no_more : length doubts ≤ 16 * open_count s
    no_more =
        let many = map_count code_of doubts in
        let all = all_many (keys (open_numbers s)) in
        let most = length-le_from_is_member nat_eq_equiv (map code_of doubts) (all_codes (keys (open_numbers s))) (IsDistinct-from_apart nat_eq (map code_of doubts) apart) (codes_within doubts (listed_doubts s doubts are)) in
        omega (arith, many, all, most)

    pub few_doubts : {E : Type 0} (takes : Kind → Type 0) (stands_for : E → EngineState → Type 0) (w : World E) → RepresentsWorld takes stands_for w s → length doubts ≤ 1048576
    few_doubts takes stands_for w stands =
        let counted = stands.counted in
        let begun = counted.begun in
        let used = ap length counted.used in
        let few = counted.few in
        let some = few_open s r in
        let most = no_more in
        omega (arith, begun, used, few, some, most)
