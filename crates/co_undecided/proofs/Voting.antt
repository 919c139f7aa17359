-- The votes among the entries, ascending, are those of the state that they stand for.
use Rattle.std.proofs.Common.{◌≡◌, T, ℕ, Bool, true, false, cond, ◌&&◌, ◌||◌, List, [], ◌∷◌, ◌++◌, map, Option, None, Some, is_some, refl, sym, ap, subst, ◌∙◌}
use Rattle.std.proofs.lemmas.Cmp.{tied_itself}
use Rattle.std.specs.Cmp.{nat_cmp_total}
use Rattle.std.specs.FinMap.{entries, entries_sorted, get-entries, nat_cmp-IsAntisymmetric}
use Rattle.std.specs.FinMap.Entries.{find, below_all, is_sorted, same_entries}
use Rattle.std.specs.List.{AllByRecursion}
use Rattle.std.specs.Ordering.{nat_cmp, eq_by_cmp, is_eq, is_lt}
use Rattle.std.specs.declared.cmp.Ordering.{Ordering}
use Rattle.std.specs.declared.cmp.Ordering.TheVariants.{Less, Equal, Greater}
use Rattle.co_pairs.specs.Votes.{prepared_of, voted_of}
use Rattle.co_plain.specs.declared.member_state.AskedMark.{AskedMark}
use Rattle.co_state.specs.EngineState.{operations_in, sets_at, sets_in}
use Rattle.co_state.specs.Table.{Table, look}
use Rattle.co_state.specs.declared.engine_state.EngineState.{EngineState}
use Rattle.co_state.specs.declared.engine_state.Operation.{Operation}
use Rattle.co_state.specs.declared.engine_state.Sets.{Sets}
use Rattle.co_state.specs.declared.engine_state.Vote.{Vote}
use Rattle.co_undecided.specs.declared.entry.Entry.{Entry}
use Rattle.co_undecided.specs.declared.entry.Entry.TheVariants.{Active, Voted}
use Rattle.co_undecided.specs.Kept.{entry_of, entry_at, vote_told, votes_told}

-- the vote of an entry, with what it read and wrote
abbrev picked : (ℕ → Sets) → ℕ → Entry → Option Vote
picked sets t (Active kept asked) = None
picked sets t (Voted coord count) = Some (record { coord = coord; count = count; sets = sets t })

abbrev picked_in : (ℕ → Sets) → ℕ → Option Entry → Option Vote
picked_in sets t None = None
picked_in sets t (Some e) = picked sets t e

abbrev onto : ℕ → Option Vote → List (ℕ × Vote) → List (ℕ × Vote)
onto t None vs = vs
onto t (Some v) vs = (t, v) ∷ vs

abbrev among : (ℕ → Sets) → List (ℕ × Entry) → List (ℕ × Vote)
among sets [] = []
among sets (e ∷ es) = onto e.0 (picked sets e.0 e.1) (among sets es)

told_one : (sets : ℕ → Sets) (t : ℕ) (e : Entry) (vs : List (ℕ × Vote)) → vote_told sets t e ++ map prepared_of vs ≡ map prepared_of (onto t (picked sets t e) vs)
told_one sets t (Active kept asked) vs = refl
told_one sets t (Voted coord count) vs = refl

told_among : (sets : ℕ → Sets) (es : List (ℕ × Entry)) → votes_told sets es ≡ map prepared_of (among sets es)
told_among sets [] = refl
told_among sets (e ∷ es) = ap (λ ps. vote_told sets e.0 e.1 ++ ps) (told_among sets es) ∙ told_one sets e.0 e.1 (among sets es)

-- ---- they are in order, and each is found at its number

first : (a b : Bool) → T (a && b) → T a
first true b p = tt
first false b p = p

second : (a b : Bool) → T (a && b) → T b
second true b p = p
second false b p = absurd p

both : (a b : Bool) → T a → T b → T (a && b)
both true b p q = q
both false b p q = p

below_onto : (k t : ℕ) (o : Option Vote) (vs : List (ℕ × Vote)) → T (is_lt (nat_cmp k t)) → T (below_all nat_cmp k vs) → T (below_all nat_cmp k (onto t o vs))
below_onto k t None vs l h = h
below_onto k t (Some v) vs l h = both _ _ l h

below_among : (sets : ℕ → Sets) (k : ℕ) (es : List (ℕ × Entry)) → T (below_all nat_cmp k es) → T (below_all nat_cmp k (among sets es))
below_among sets k [] h = tt
below_among sets k (e ∷ es) h = below_onto k e.0 (picked sets e.0 e.1) (among sets es) (first _ _ h) (below_among sets k es (second _ _ h))

sorted_onto : (t : ℕ) (o : Option Vote) (vs : List (ℕ × Vote)) → T (below_all nat_cmp t vs) → T (is_sorted nat_cmp vs) → T (is_sorted nat_cmp (onto t o vs))
sorted_onto t None vs b h = h
sorted_onto t (Some v) vs b h = both _ _ b h

sorted_among : (sets : ℕ → Sets) (es : List (ℕ × Entry)) → T (is_sorted nat_cmp es) → T (is_sorted nat_cmp (among sets es))
sorted_among sets [] h = tt
sorted_among sets (e ∷ es) h = sorted_onto e.0 (picked sets e.0 e.1) (among sets es) (below_among sets e.0 es (first _ _ h)) (sorted_among sets es (second _ _ h))

less : (r : Ordering) → T (is_lt r) → r ≡ Less
less Less p = refl
less Equal p = absurd p
less Greater p = absurd p

tie : (r : Ordering) → is_eq r ≡ true → r ≡ Equal
tie Less e = absurd (subst T (sym e) tt)
tie Equal e = refl
tie Greater e = absurd (subst T (sym e) tt)

find_below : {X : Type 0} (q : ℕ) (es : List (ℕ × X)) → T (below_all nat_cmp q es) → find nat_cmp q es ≡ None
find_below q [] h = refl
find_below q (e ∷ es) h = ap (λ r. cond (is_eq r) (Some e.1) (find nat_cmp q es)) (less _ (first _ _ h)) ∙ find_below q es (second _ _ h)

find_onto : (sets : ℕ → Sets) (q t : ℕ) (e : Entry) (found : Option Entry) (vs : List (ℕ × Vote)) (b : Bool) → eq_by_cmp nat_cmp q t ≡ b → (eq_by_cmp nat_cmp q t ≡ true → found ≡ None)
    → find nat_cmp q vs ≡ picked_in sets q found → (o : Option Vote) → picked sets t e ≡ o → find nat_cmp q (onto t o vs) ≡ picked_in sets q (cond b (Some e) found)
find_onto sets q t e found vs true h none is None p = is ∙ ap (picked_in sets q) (none h) ∙ sym p ∙ ap (λ k. picked sets k e) (sym (nat_cmp-IsAntisymmetric q t (tie (nat_cmp q t) h)))
find_onto sets q t e found vs false h none is None p = is
find_onto sets q t e found vs true h none is (Some v) p = ap (λ b. cond b (Some v) (find nat_cmp q vs)) h ∙ sym p ∙ ap (λ k. picked sets k e) (sym (nat_cmp-IsAntisymmetric q t (tie (nat_cmp q t) h)))
find_onto sets q t e found vs false h none is (Some v) p = ap (λ b. cond b (Some v) (find nat_cmp q vs)) h ∙ is

find_among : (sets : ℕ → Sets) (q : ℕ) (es : List (ℕ × Entry)) → T (is_sorted nat_cmp es) → find nat_cmp q (among sets es) ≡ picked_in sets q (find nat_cmp q es)
find_among sets q [] h = refl
find_among sets q (e ∷ es) h =
    find_onto sets q e.0 e.1 (find nat_cmp q es) (among sets es) (eq_by_cmp nat_cmp q e.0) refl
    (λ t. find_below q es (subst (λ k. T (below_all nat_cmp k es)) (sym (nat_cmp-IsAntisymmetric q e.0 (tie (nat_cmp q e.0) t))) (first _ _ h)))
    (find_among sets q es (second _ _ h)) (picked sets e.0 e.1) refl

-- ---- those of a state

vote_here : (os : Option (List Operation)) (vote : Option Vote) (asked : Option AskedMark) (sets : ℕ → Sets) (t : ℕ) → sets t ≡ sets_in vote (operations_in os) → picked_in sets t (entry_of os vote asked) ≡ vote
vote_here os (Some vote) asked sets t is = ap (λ s. Some (record { coord = vote.coord; count = vote.count; sets = s })) is
vote_here (Some os) None asked sets t is = refl
vote_here None None asked sets t is = refl

pub told_votes : (es : Table Entry) (b : EngineState) (asked : Table AskedMark) → ((t : ℕ) → look es t ≡ entry_at b asked t) → votes_told (sets_at b) (entries es) ≡ voted_of b.voted
told_votes es b asked are =
    told_among (sets_at b) (entries es)
    ∙ ap (map prepared_of) (same_entries nat_cmp nat_cmp_total nat_cmp-IsAntisymmetric (among (sets_at b) (entries es)) (entries b.voted) (sorted_among (sets_at b) (entries es) (entries_sorted es)) (entries_sorted b.voted) alike)
  where
    alike : (q : ℕ) → find nat_cmp q (among (sets_at b) (entries es)) ≡ find nat_cmp q (entries b.voted)
    alike q =
        find_among (sets_at b) q (entries es) (entries_sorted es) ∙ ap (picked_in (sets_at b) q) (sym (get-entries es q) ∙ are q)
        ∙ vote_here (look b.active q) (look b.voted q) (look asked q) (sets_at b) q refl ∙ get-entries b.voted q

-- ---- each entry of a table is found at its number

abbrev pub AreFound : {X : Type 0} → Table X → List (ℕ × X) → Type 0
AreFound es fs = AllByRecursion (λ f. look es f.0 ≡ Some f.1) fs

apart : (f e : ℕ) → T (is_lt (nat_cmp e f)) → (b : Bool) → eq_by_cmp nat_cmp f e ≡ b → b ≡ false
apart f e l false h = refl
apart f e l true h =
    let same : f ≡ e = nat_cmp-IsAntisymmetric f e (tie (nat_cmp f e) h) in
    absurd (subst T (ap is_lt (ap (nat_cmp e) same) ∙ ap is_lt (tied_itself nat_cmp_total e)) l)

later : {X : Type 0} (e : ℕ × X) (es fs : List (ℕ × X)) → T (below_all nat_cmp e.0 fs) → AllByRecursion (λ f. find nat_cmp f.0 es ≡ Some f.1) fs → AllByRecursion (λ f. find nat_cmp f.0 (e ∷ es) ≡ Some f.1) fs
later e es [] below are = tt
later e es (f ∷ fs) below are =
    (ap (λ b. cond b (Some e.1) (find nat_cmp f.0 es)) (apart f.0 e.0 (first _ _ below) (eq_by_cmp nat_cmp f.0 e.0) refl) ∙ are.0, later e es fs (second _ _ below) are.1)

found : {X : Type 0} (es : List (ℕ × X)) → T (is_sorted nat_cmp es) → AllByRecursion (λ f. find nat_cmp f.0 es ≡ Some f.1) es
found [] sorted = tt
found (e ∷ es) sorted = (ap (λ r. cond (is_eq r) (Some e.1) (find nat_cmp e.0 es)) (tied_itself nat_cmp_total e.0), later e es es (first _ _ sorted) (found es (second _ _ sorted)))

looked : {X : Type 0} (table : Table X) (fs : List (ℕ × X)) → AllByRecursion (λ f. find nat_cmp f.0 (entries table) ≡ Some f.1) fs → AreFound table fs
looked table [] are = tt
looked table (f ∷ fs) are = (get-entries table f.0 ∙ are.0, looked table fs are.1)

pub all_found : {X : Type 0} (table : Table X) → AreFound table (entries table)
all_found table = looked table (entries table) (found (entries table) (entries_sorted table))

-- who has a vote is undecided
pub voted_here : (os : Option (List Operation)) (vote : Option Vote) (asked : Option AskedMark) (coord count : ℕ) → entry_of os vote asked ≡ Some (Voted coord count) → (is_some os || is_some vote) ≡ true
voted_here os (Some vote) asked coord count e = right (is_some os)
  where
    right : (a : Bool) → (a || true) ≡ true
    right true = refl
    right false = refl
voted_here (Some os) None asked coord count e = refl
voted_here None None asked coord count e = absurd (let z : None ≡ Some (Voted coord count) = e in cc)
