-- A table of votes that is listed and made again is the same table, and votes that are free of conflicts are free as a list.
use Rattle.std.proofs.Common.{◌≡◌, ◌≢◌, ℕ, Bool, true, false, cond, not, ◌&&◌, ◌||◌, ◌==◌, T, List, [], ◌∷◌, map, Option, None, Some, refl, sym, ap, ◌∙◌, arith}
use Rattle.std.proofs.lemmas.Bool.{or_from}
use Rattle.std.proofs.lemmas.Bool.Decides.{nat_tests}
use Rattle.std.proofs.lemmas.Cmp.{tied_itself}
use Rattle.std.specs.Cmp.{nat_cmp_total}
use Rattle.std.specs.Option.{option_map}
use Rattle.std.specs.FinMap.{entries, entries_sorted, from_entries, get-empty, get-entries, get-from_entries, same_map, nat_cmp-IsAntisymmetric}
use Rattle.std.specs.FinMap.Entries.{find, is_sorted, below_all}
use Rattle.std.specs.Ordering.{nat_cmp, eq_by_cmp, is_lt, is_eq}
use Rattle.co_pairs.specs.declared.prepared.Prepared.{Prepared}
use Rattle.co_pairs.specs.Free.{clash, clashes_with, are_free}
use Rattle.co_pairs.specs.Votes.{vote_in, votes_of, told_of, prepared_of, voted_of}
use Rattle.co_state.specs.declared.engine_state.Vote.{Vote}
use Rattle.co_state.specs.Conflicts.{sets_conflict}
use Rattle.co_state.specs.Table.{Table, look, put}
use Rattle.co_state.proofs.Tables.{look-put}
use Rattle.co_state.proofs.Ties.{nothing_below}

from_votes : (es : List (ℕ × Vote)) → votes_of (map prepared_of es) ≡ from_entries es
from_votes [] = refl
from_votes (e ∷ es) = ap (λ t. put t e.0 e.1) (from_votes es)

-- the votes of a table make the table
pub votes_again : (voted : Table Vote) → votes_of (voted_of voted) ≡ voted
votes_again voted =
    from_votes (entries voted)
    ∙ same_map nat_cmp_total nat_cmp-IsAntisymmetric _ _ (λ t. get-from_entries nat_cmp_total (entries voted) t ∙ sym (get-entries voted t))

-- ---- what is told of each prepared transaction is told of its vote
module _ {X : Type 0} (told : Prepared → X) (of_vote : Vote → X) (same : (p : Prepared) → told p ≡ of_vote (vote_in p)) where
  told_by : (c : Bool) (p : Prepared) (o : Option X) (vote : Option Vote) → o ≡ option_map of_vote vote → cond c (Some (told p)) o ≡ option_map of_vote (cond c (Some (vote_in p)) vote)
  told_by true p o vote e = ap Some (same p)
  told_by false p o vote e = e

  pub told_voted : (ps : List Prepared) (t : ℕ) → look (told_of told ps) t ≡ option_map of_vote (look (votes_of ps) t)
  told_voted [] t = get-empty nat_cmp t ∙ sym (ap (option_map of_vote) (get-empty nat_cmp t))
  told_voted (p ∷ ps) t =
      look-put (told_of told ps) p.txn (told p) t
      ∙ told_by (eq_by_cmp nat_cmp t p.txn) p (look (told_of told ps) t) (look (votes_of ps) t) (told_voted ps t)
      ∙ ap (option_map of_vote) (sym (look-put (votes_of ps) p.txn (vote_in p) t))

-- ---- votes that are free of conflicts

-- an entry that is found behind the first one
found_later : {X : Type 0} (e : ℕ × X) (es : List (ℕ × X)) (u : ℕ) (x : X) → T (below_all nat_cmp e.0 es) → find nat_cmp u es ≡ Some x → find nat_cmp u (e ∷ es) ≡ Some x
found_later {X} e es u x below f = by (eq_by_cmp nat_cmp u e.0) refl
  where
    by : (c : Bool) → eq_by_cmp nat_cmp u e.0 ≡ c → cond (eq_by_cmp nat_cmp u e.0) (Some e.1) (find nat_cmp u es) ≡ Some x
    by false g = ap (λ c. cond c (Some e.1) (find nat_cmp u es)) g ∙ f
    by true g =
        let same : u ≡ e.0 = grind (arith, nat_tests, g) in
        absurd (let q : None ≡ Some x = sym (nothing_below nat_cmp e.0 es below) ∙ ap (λ k. find nat_cmp k es) (sym same) ∙ f in cc)

both_T : (a b : Bool) → T (a && b) → T a × T b
both_T true b h = (tt, h)
both_T false b h = absurd h

found_first : {X : Type 0} (e : ℕ × X) (es : List (ℕ × X)) → find nat_cmp e.0 (e ∷ es) ≡ Some e.1
found_first e es = ap (λ r. cond (is_eq r) (Some e.1) (find nat_cmp e.0 es)) (tied_itself nat_cmp_total e.0)

below_is : (k j : ℕ) → T (is_lt (nat_cmp k j)) → (k == j) ≡ false
below_is k j h = grind (arith, nat_tests, h)

numbered : (e x y z : Bool) → e ≡ false → (x || y || z) ≡ false → (e || x || y || z) ≡ false
numbered true x y z n h = absurd (let q : true ≡ false = n in cc)
numbered false x y z n h = h

clashes_not : (p : ℕ × Vote) (es : List (ℕ × Vote)) → ((u : ℕ) (b : Vote) → find nat_cmp u es ≡ Some b → sets_conflict p.1.sets b.sets ≡ false) →
    T (below_all nat_cmp p.0 es) → T (is_sorted nat_cmp es) → clashes_with (prepared_of p) (map prepared_of es) ≡ false
clashes_not p [] apart below sorted = refl
clashes_not p (e ∷ es) apart below sorted =
    let b = both_T (is_lt (nat_cmp p.0 e.0)) _ below in
    let s = both_T _ (is_sorted nat_cmp es) sorted in
    or_from (clash (prepared_of p) (prepared_of e)) (clashes_with (prepared_of p) (map prepared_of es))
    (numbered (p.0 == e.0) _ _ _ (below_is p.0 e.0 b.0) (apart e.0 e.1 (found_first e es)))
    (clashes_not p es (λ u v f. apart u v (found_later e es u v s.0 f)) b.1 s.1)

both_free : (a b : Bool) → a ≡ false → b ≡ true → (not a && b) ≡ true
both_free true b h k = absurd (let q : true ≡ false = h in cc)
both_free false b h k = k

list_free : (es : List (ℕ × Vote)) → T (is_sorted nat_cmp es) →
    ((t u : ℕ) (a b : Vote) → t ≢ u → find nat_cmp t es ≡ Some a → find nat_cmp u es ≡ Some b → sets_conflict a.sets b.sets ≡ false) → are_free (map prepared_of es) ≡ true
list_free [] sorted apart = refl
list_free (e ∷ es) sorted apart =
    let s = both_T _ (is_sorted nat_cmp es) sorted in
    both_free (clashes_with (prepared_of e) (map prepared_of es)) (are_free (map prepared_of es))
    (clashes_not e es (λ u b f. apart e.0 u e.1 b (λ q. absurd (let z : None ≡ Some b = sym (nothing_below nat_cmp e.0 es s.0) ∙ ap (λ k. find nat_cmp k es) q ∙ f in cc)) (found_first e es) (found_later e es u b s.0 f)) s.0 s.1)
    (list_free es s.1 (λ t u a b n f g. apart t u a b n (found_later e es t a s.0 f) (found_later e es u b s.0 g)))

-- votes of which no two are in conflict are free of each other as a list
pub votes_free : (voted : Table Vote) →
    ((t u : ℕ) (a b : Vote) → t ≢ u → look voted t ≡ Some a → look voted u ≡ Some b → sets_conflict a.sets b.sets ≡ false) → are_free (voted_of voted) ≡ true
votes_free voted apart =
    list_free (entries voted) (entries_sorted voted) (λ t u a b n f g. apart t u a b n (get-entries voted t ∙ f) (get-entries voted u ∙ g))
