-- What a yes tells: nothing that was read was overwritten, and no voted transaction is in conflict.
use Rattle.std.proofs.Common.{◌≡◌, ◌≢◌, ℕ, Bool, true, false, not, cond, ◌||◌, ◌&&◌, ◌==◌, nat_lt, nat_le, min, if◌then◌else◌, List, [], ◌∷◌, ◌++◌, length, map, filter, Option, None, Some, refl, sym, ap, ◌∙◌, arith}
use Rattle.std.proofs.lemmas.Bool.{or_from, eqb-true, ne_eqb}
use Rattle.std.proofs.lemmas.Bool.Decides.{nat_tests}
use Rattle.std.specs.Option.{unwrap_or}
use Rattle.std.specs.Ordering.{nat_cmp, eq_by_cmp}
use Rattle.std.specs.FinMap.{get, entries, get-entries}
use Rattle.std.specs.FinMap.Entries.{find}
use Rattle.co_base.specs.Span.{Span, span_has}
use Rattle.co_base.specs.declared.written.Written.{Written}
use Rattle.co_serial.specs.Records.{Records}
use Rattle.co_state.specs.declared.engine_state.EngineState.{EngineState}
use Rattle.co_state.specs.declared.engine_state.Install.{Install}
use Rattle.co_state.specs.declared.engine_state.Operation.{Operation}
use Rattle.co_state.specs.declared.engine_state.Vote.{Vote}
use Rattle.co_state.specs.declared.verdict.Verdict.TheVariants.{LostOperations, StaleRead, HeldBy, VoteYes}
use Rattle.co_state.specs.Table.{Table, look, first_in, least_where, lesser}
use Rattle.co_state.specs.Keys.{same_key, writes_key, least_key, least_from}
use Rattle.co_state.specs.Changes.{span_read, sets_of}
use Rattle.co_state.specs.EngineState.{records_now, records_at, operations_of}
use Rattle.co_state.specs.StaleRead.{keys_since, overwritten, stale_keys, stale_key}
use Rattle.co_state.specs.VotingRule.{vote_of, voted_holds, holder_of, unless_held, unless_stale, kept_count}
use Rattle.co_law_engine.proofs.Keys.{same_key_is, unchanged}
use Rattle.co_law_engine.proofs.SeenAlike.{AgreeOn}

pub in_some : {X : Type 0} {x y : X} → Some x ≡ Some y → x ≡ y
in_some {X} {x} {y} e = ap (λ o. unwrap_or o x) e

-- the number of the first entry that passes: none does
none_passes : {X : Type 0} (test : ℕ → X → Bool) (es : List (ℕ × X)) (u : ℕ) (x : X) → first_in test es ≡ None → find nat_cmp u es ≡ Some x → test u x ≡ false
none_passes test [] u x n f = absurd (let q : None ≡ Some x = f in cc)
none_passes {X} test (e ∷ es) u x n f = by (none_passes test es u x) (test e.0 e.1) refl (eq_by_cmp nat_cmp u e.0) refl
  where
    by : (first_in test es ≡ None → find nat_cmp u es ≡ Some x → test u x ≡ false) → (b : Bool) → test e.0 e.1 ≡ b → (c : Bool) → eq_by_cmp nat_cmp u e.0 ≡ c → test u x ≡ false
    by rest true g c k = absurd (let q : Some e.0 ≡ None = sym (ap (λ b. if b then Some e.0 else first_in test es) g) ∙ n in cc)
    by rest false g true k =
        let same : u ≡ e.0 = grind (arith, nat_tests, k) in
        let here : Some e.1 ≡ Some x = sym (ap (λ b. cond b (Some e.1) (find nat_cmp u es)) k) ∙ f in
        let is : e.1 ≡ x = in_some here in
        ap (λ v. test v x) same ∙ ap (test e.0) (sym is) ∙ g
    by rest false g false k =
        rest (sym (ap (λ b. if b then Some e.0 else first_in test es) g) ∙ n) (sym (ap (λ b. cond b (Some e.1) (find nat_cmp u es)) k) ∙ f)

pub passes_none : {X : Type 0} (test : ℕ → X → Bool) (table : Table X) (u : ℕ) (x : X) → least_where test table ≡ None → look table u ≡ Some x → test u x ≡ false
passes_none test table u x n f = none_passes test (entries table) u x n (sym (get-entries table u) ∙ f)

neither : (a b : Option ℕ) → lesser a b ≡ None → (a ≡ None) × (b ≡ None)
neither None b e = (refl, e)
neither (Some t) None e = absurd (let q : Some t ≡ None = e in cc)
neither (Some t) (Some u) e = absurd (let q : Some (min t u) ≡ None = e in cc)

-- the least voted transaction in the way
abbrev pub voted_holder : EngineState → ℕ → Option ℕ
voted_holder b t = least_where (λ u vote. not (u == t) && voted_holds (sets_of (operations_of b t)) vote.sets) b.voted

-- The parts of a yes that anything rests on: nobody voted is in the way. That no active reader is, which the rule asks for too, is a courtesy to it.
pub record SaysYes (b : EngineState) (t n : ℕ) : Type 0 where
  pub count : kept_count b t ≡ n
  pub fresh : stale_key b t ≡ None
  pub free : voted_holder b t ≡ None

pub yes_parts : (b : EngineState) (t n : ℕ) → vote_of b t n ≡ VoteYes → SaysYes b t n
yes_parts b t n h = by (kept_count b t == n) refl (stale_key b t) refl (holder_of b t (sets_of (operations_of b t))) refl
  where
    yes_as : {key : Option (List ℕ)} → (kept_count b t == n) ≡ true → stale_key b t ≡ key → vote_of b t n ≡ unless_stale key (holder_of b t (sets_of (operations_of b t)))
    yes_as c k = ap (λ z. if z then unless_stale (stale_key b t) (holder_of b t (sets_of (operations_of b t))) else LostOperations) c ∙ ap (λ z. unless_stale z (holder_of b t (sets_of (operations_of b t)))) k

    by : (c : Bool) → (kept_count b t == n) ≡ c → (k : Option (List ℕ)) → stale_key b t ≡ k → (o : Option ℕ) → holder_of b t (sets_of (operations_of b t)) ≡ o → SaysYes b t n
    by true c None k None o = record { count = eqb-true (kept_count b t) n c; fresh = k; free = (neither _ _ o).1 }
    by false c k0 k o0 o = absurd (let q : LostOperations ≡ VoteYes = sym (ap (λ z. if z then unless_stale (stale_key b t) (holder_of b t (sets_of (operations_of b t))) else LostOperations) c) ∙ h in cc)
    by true c (Some key) k o0 o = absurd (let q : StaleRead key ≡ VoteYes = sym (yes_as c k) ∙ h in cc)
    by true c None k (Some u) o = absurd (let q : HeldBy u ≡ VoteYes = sym (yes_as c k ∙ ap unless_held o) ∙ h in cc)

-- no voted transaction is in conflict
pub yes_apart : (b : EngineState) (t n u : ℕ) (vote : Vote) → SaysYes b t n → t ≢ u → look b.voted u ≡ Some vote → voted_holds (sets_of (operations_of b t)) vote.sets ≡ false
yes_apart b t n u vote y apart f =
    let p = passes_none (λ v other. not (v == t) && voted_holds (sets_of (operations_of b t)) other.sets) b.voted u vote y.free f in
    sym (ap (λ c. not c && voted_holds (sets_of (operations_of b t)) vote.sets) (ne_eqb u t (λ e. apart (sym e)))) ∙ p

pub no_keys : (ks : List (List ℕ)) → least_key ks ≡ None → ks ≡ []
no_keys [] e = refl
no_keys (k ∷ ks) e = absurd (let q : Some (least_from k ks) ≡ None = e in cc)

-- both parts of an empty list are empty
pub both_empty : {A : Type 0} (xs ys : List A) → xs ++ ys ≡ [] → (xs ≡ []) × (ys ≡ [])
both_empty [] ys e = (refl, e)
both_empty (x ∷ xs) ys e = absurd (let q : x ∷ (xs ++ ys) ≡ [] = e in cc)

pub filter-append' : {A : Type 0} (p : A → Bool) (xs ys : List A) → filter p (xs ++ ys) ≡ filter p xs ++ filter p ys
filter-append' p [] ys = refl
filter-append' p (x ∷ xs) ys = by (filter-append' p xs ys) (p x)
  where
    by : filter p (xs ++ ys) ≡ filter p xs ++ filter p ys → (b : Bool) → cond b (x ∷ filter p (xs ++ ys)) (filter p (xs ++ ys)) ≡ cond b (x ∷ filter p xs) (filter p xs) ++ filter p ys
    by rest true = ap (λ zs. x ∷ zs) rest
    by rest false = rest

-- no change of a key in the range
pub out_of_range : (span : Span) (ws : List Written) (q : List ℕ) → filter (span_has span) (map (λ w. w.key) ws) ≡ [] → span_has span q ≡ true → writes_key ws q ≡ false
out_of_range span [] q e h = refl
out_of_range span (w ∷ ws) q e h = by (out_of_range span ws q) (span_has span w.key) refl (same_key w.key q) refl
  where
    by : (filter (span_has span) (map (λ w. w.key) ws) ≡ [] → span_has span q ≡ true → writes_key ws q ≡ false) →
        (b : Bool) → span_has span w.key ≡ b → (c : Bool) → same_key w.key q ≡ c → (same_key w.key q || writes_key ws q) ≡ false
    by rest true f c g =
        absurd (let z : w.key ∷ filter (span_has span) (map (λ w. w.key) ws) ≡ [] =
        sym (ap (λ b. cond b (w.key ∷ filter (span_has span) (map (λ w. w.key) ws)) (filter (span_has span) (map (λ w. w.key) ws))) f) ∙ e in cc)
    by rest false f true g = absurd (let z : true ≡ false = sym h ∙ ap (span_has span) (sym (same_key_is w.key q g)) ∙ f in cc)
    by rest false f false g =
        or_from (same_key w.key q) (writes_key ws q) g
        (rest (sym (ap (λ b. cond b (w.key ∷ filter (span_has span) (map (λ w. w.key) ws)) (filter (span_has span) (map (λ w. w.key) ws))) f) ∙ e) h)

-- what a fresh read saw is installed still
pub fresh_agrees : (base : Records) (is : List Install) (stamp : ℕ) (span : Span) → filter (span_has span) (keys_since is stamp) ≡ [] →
    AgreeOn (Some span) (records_at base is stamp) (records_now base is)
fresh_agrees base [] stamp span e q h = refl
fresh_agrees base (i ∷ is) stamp span e q h = by (fresh_agrees base is stamp span) (nat_lt (length is) stamp) refl
  where
    by : (filter (span_has span) (keys_since is stamp) ≡ [] → AgreeOn (Some span) (records_at base is stamp) (records_now base is)) →
        (b : Bool) → nat_lt (length is) stamp ≡ b →
        get (if nat_lt (length is) stamp then records_now base (i ∷ is) else records_at base is stamp) q ≡ get (records_now base (i ∷ is)) q
    by rest true f = ap (λ b. get (if b then records_now base (i ∷ is) else records_at base is stamp) q) f
    by rest false f =
        let g : nat_le stamp (length is) ≡ true = grind (arith, nat_tests, f) in
        let z : filter (span_has span) (map (λ w. w.key) i.writes ++ keys_since is stamp) ≡ [] =
        sym (ap (λ b. filter (span_has span) (if b then map (λ w. w.key) i.writes ++ keys_since is stamp else [])) g) ∙ e in
        let p = both_empty _ _ (sym (filter-append' (span_has span) (map (λ w. w.key) i.writes) (keys_since is stamp)) ∙ z) in
        ap (λ b. get (if b then records_now base (i ∷ is) else records_at base is stamp) q) f
        ∙ rest p.1 q h ∙ sym (unchanged i.writes (records_now base is) q (out_of_range span i.writes q p.0 h))

fresh_by : (base : Records) (is : List Install) (stamp : ℕ) (span : Option Span) → overwritten span (keys_since is stamp) ≡ [] → AgreeOn span (records_at base is stamp) (records_now base is)
fresh_by base is stamp None e = tt
fresh_by base is stamp (Some span) e = fresh_agrees base is stamp span e

-- every read of a list of operations sees what is installed
abbrev pub SeeInstalled : Records → List Install → List Operation → Type 0
SeeInstalled base is [] = Unit {0}
SeeInstalled base is (o ∷ os) = AgreeOn (span_read o.op) (records_at base is o.stamp) (records_now base is) × SeeInstalled base is os

see_installed : (base : Records) (is : List Install) (os : List Operation) → stale_keys is os ≡ [] → SeeInstalled base is os
see_installed base is [] e = tt
see_installed base is (o ∷ os) e =
    let p = both_empty _ _ e in
    (fresh_by base is o.stamp (span_read o.op) p.0, see_installed base is os p.1)

pub yes_sees : (b : EngineState) (t n : ℕ) → SaysYes b t n → SeeInstalled b.base b.installed (operations_of b t)
yes_sees b t n y = see_installed b.base b.installed (operations_of b t) (no_keys _ y.fresh)
