-- The records of a view with its settled votes laid over are those that it tells, but for what these votes wrote.
use Rattle.std.proofs.Common.{◌≡◌, ◌≢◌, ℕ, Bool, true, false, cond, T, if◌then◌else◌, List, [], ◌∷◌, Some, refl, sym, ap, ◌∙◌, subst}
use Rattle.std.specs.Ordering.{nat_cmp, eq_by_cmp}
use Rattle.std.specs.FinMap.{get, entries, entries_sorted, get-entries}
use Rattle.std.specs.FinMap.Entries.{find, is_sorted}
use Rattle.co_serial.specs.Records.{Records, with_changes}
use Rattle.co_state.specs.declared.engine_state.Vote.{Vote}
use Rattle.co_state.specs.Table.{look}
use Rattle.co_state.specs.Keys.{writes_key, reads_meet, writes_meet}
use Rattle.co_plain.specs.declared.member_view.MemberView.{MemberView}
use Rattle.co_plain.specs.DurableRecords.{laid_where}
use Rattle.co_plain.specs.Invariants.{VotedAreConflictFree}
use Rattle.co_law_engine.proofs.Keys.{unchanged, overlaid}
use Rattle.co_law_engine.proofs.SetsMade.{unwritten, meet_turned}
use Rattle.co_law_engine.proofs.YesTells.{in_some}
use Rattle.co_law_base.proofs.Lookups.{is_nothing, same_number}
use Rattle.co_law_base.proofs.Commits.{none_below, both_T}
use Rattle.co_law_base.proofs.ViewRules.{three_parts}
use Rattle.co_law_base.proofs.ImageRules.{EachEntry, each_entry, entry_has, IsImage}

-- each decided vote among the entries leaves the key
abbrev Leaves : (ℕ → Vote → Bool) → List ℕ → ℕ → Vote → Type 0
Leaves test q u x = test u x ≡ true → writes_key x.sets.writes q ≡ false

left_alone : (test : ℕ → Vote → Bool) (r : Records) (es : List (ℕ × Vote)) (q : List ℕ) → EachEntry (Leaves test q) es → get (laid_where test r es) q ≡ get r q
left_alone test r [] q h = refl
left_alone test r (e ∷ es) q h = by (λ x. left_alone test x es q h.1) (test e.0 e.1) refl
  where
    by : ((x : Records) → get (laid_where test x es) q ≡ get x q) → (b : Bool) → test e.0 e.1 ≡ b →
        get (laid_where test (if test e.0 e.1 then with_changes r e.1.sets.writes else r) es) q ≡ get r q
    by rest true d = ap (λ b. get (laid_where test (if b then with_changes r e.1.sets.writes else r) es) q) d ∙ rest (with_changes r e.1.sets.writes) ∙ unchanged e.1.sets.writes r q (h.0 d)
    by rest false d = ap (λ b. get (laid_where test (if b then with_changes r e.1.sets.writes else r) es) q) d ∙ rest r

-- each other decided vote leaves the key
abbrev LeavesBut : (ℕ → Vote → Bool) → List ℕ → ℕ → ℕ → Vote → Type 0
LeavesBut test q t u x = t ≢ u → Leaves test q u x

written_last : (test : ℕ → Vote → Bool) (r x : Records) (es : List (ℕ × Vote)) (q : List ℕ) (t : ℕ) (vote : Vote) → T (is_sorted nat_cmp es) → EachEntry (LeavesBut test q t) es →
    find nat_cmp t es ≡ Some vote → test t vote ≡ true → writes_key vote.sets.writes q ≡ true → get (laid_where test r es) q ≡ get (with_changes x vote.sets.writes) q
written_last test r x [] q t vote s h f d w = is_nothing f
written_last test r x (e ∷ es) q t vote s h f d w = by (λ z. written_last test z x es q t vote (both_T _ _ s).1 h.1) (eq_by_cmp nat_cmp t e.0) refl (test e.0 e.1) refl
  where
    goal : Bool → Type 0
    goal b = get (laid_where test (if b then with_changes r e.1.sets.writes else r) es) q ≡ get (with_changes x vote.sets.writes) q

    apart_rest : (u : ℕ) (y : Vote) → t ≡ e.0 → find nat_cmp u es ≡ Some y → t ≢ u
    apart_rest u y same g n = is_nothing (sym (none_below e.0 es (both_T _ _ s).0) ∙ ap (λ k. find nat_cmp k es) (sym same ∙ n) ∙ g)

    by : ((z : Records) → find nat_cmp t es ≡ Some vote → test t vote ≡ true → writes_key vote.sets.writes q ≡ true → get (laid_where test z es) q ≡ get (with_changes x vote.sets.writes) q) →
        (a : Bool) → eq_by_cmp nat_cmp t e.0 ≡ a → (b : Bool) → test e.0 e.1 ≡ b → goal (test e.0 e.1)
    by rest true a b k =
        let same : t ≡ e.0 = same_number t e.0 a in
        let is : e.1 ≡ vote = in_some (sym (ap (λ c. cond c (Some e.1) (find nat_cmp t es)) a) ∙ f) in
        let decided : test e.0 e.1 ≡ true = ap (test e.0) is ∙ ap (λ k. test k vote) (sym same) ∙ d in
        subst goal (sym decided)
        (left_alone test (with_changes r e.1.sets.writes) es q
        (each_entry (Leaves test q) es (both_T _ _ s).1 (λ u y g. found_leaves u y same g))
        ∙ overlaid e.1.sets.writes r x q (ap (λ z. writes_key z.sets.writes q) is ∙ w) ∙ ap (λ z. get (with_changes x z.sets.writes) q) is)
      where
        found_leaves : (u : ℕ) (y : Vote) → t ≡ e.0 → find nat_cmp u es ≡ Some y → Leaves test q u y
        found_leaves u y same g = entry_has (LeavesBut test q t) es h.1 u y g (apart_rest u y same g)
    by rest false a true k =
        let f' : find nat_cmp t es ≡ Some vote = sym (ap (λ c. cond c (Some e.1) (find nat_cmp t es)) a) ∙ f in
        subst goal (sym k) (rest (with_changes r e.1.sets.writes) f' d w)
    by rest false a false k =
        let f' : find nat_cmp t es ≡ Some vote = sym (ap (λ c. cond c (Some e.1) (find nat_cmp t es)) a) ∙ f in
        subst goal (sym k) (rest r f' d w)

-- a view is an image of its records with its settled votes laid over
pub laid_image : (test : ℕ → Vote → Bool) (settled : ℕ → Type 0) (v : MemberView) → VotedAreConflictFree v →
    ((t : ℕ) (vote : Vote) → look v.voted t ≡ Some vote → test t vote ≡ true → settled t) →
    ((t : ℕ) (vote : Vote) → look v.voted t ≡ Some vote → settled t → test t vote ≡ true) →
    IsImage (laid_where test v.records (entries v.voted)) settled v
laid_image test settled v free there back =
    record {
      untouched = λ key h. left_alone test v.records (entries v.voted) key
          (each_entry (Leaves test key) (entries v.voted) (entries_sorted v.voted) (λ u x g d. let f = get-entries v.voted u ∙ g in h u x f (there u x f d)));
      written = λ t vote key f d w r.
          written_last test v.records r (entries v.voted) key t vote (entries_sorted v.voted)
          (each_entry (LeavesBut test key t) (entries v.voted) (entries_sorted v.voted) (λ u x g n k. others t vote key f w u x (get-entries v.voted u ∙ g) n))
          (sym (get-entries v.voted t) ∙ f) (back t vote f d) w;
    }
  where
    others : (t : ℕ) (vote : Vote) (key : List ℕ) → look v.voted t ≡ Some vote → writes_key vote.sets.writes key ≡ true → (u : ℕ) (x : Vote) → look v.voted u ≡ Some x → t ≢ u → writes_key x.sets.writes key ≡ false
    others t vote key f w u x g n =
        unwritten x.sets.writes vote.sets.writes key
        (meet_turned vote.sets.writes x.sets.writes
        (three_parts (reads_meet vote.sets.reads x.sets.writes) (reads_meet x.sets.reads vote.sets.writes) (writes_meet vote.sets.writes x.sets.writes) (free t u vote x n f g)).2) w
