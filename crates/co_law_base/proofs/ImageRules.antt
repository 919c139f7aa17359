-- A view as an image of the serial run: its records, but for what decided voted transactions wrote.
use Rattle.std.proofs.Common.{◌≡◌, ◌≢◌, ◌⊎◌, inl, inr, ℕ, Bool, true, false, ◌==◌, if◌then◌else◌, cond, ◌&&◌, T, ◌<◌, List, [], ◌∷◌, Option, None, Some, refl, sym, ap, ◌∙◌, subst, arith}
use Rattle.std.proofs.lemmas.Bool.Decides.{nat_tests}
use Rattle.std.proofs.lemmas.Bool.{eqb-true, eqb-false}
use Rattle.std.proofs.lemmas.Cmp.{nat_list_cmp_total}
use Rattle.std.specs.FinMap.{get, entries, entries_sorted, get-entries, same_map, slice_cmp-IsAntisymmetric, nat_cmp-IsAntisymmetric}
use Rattle.std.specs.FinMap.Entries.{find, below_all, is_sorted}
use Rattle.std.specs.Ordering.{nat_cmp, eq_by_cmp, is_lt}
use Rattle.co_base.specs.declared.written.Written.{Written}
use Rattle.co_serial.specs.Records.{Records, with_changes}
use Rattle.co_state.specs.declared.engine_state.Sets.{Sets}
use Rattle.co_state.specs.declared.engine_state.Vote.{Vote}
use Rattle.co_state.specs.Table.{look}
use Rattle.co_state.specs.Keys.{reads_key, writes_key, reads_meet, writes_meet}
use Rattle.co_plain.specs.declared.member_view.MemberView.{MemberView}
use Rattle.co_plain.specs.declared.session.Told.{Told}
use Rattle.co_plain.specs.MemberView.{cast_in, forget_in, install_in}
use Rattle.co_plain.specs.DurableRecords.{laid_where}
use Rattle.co_plain.specs.Invariants.{VotedAreConflictFree, Replays, told_spans}
use Rattle.co_law_engine.proofs.Keys.{unchanged, overlaid}
use Rattle.co_law_engine.proofs.YesTells.{in_some}
use Rattle.co_law_engine.proofs.SetsMade.{unread, unwritten}
use Rattle.co_law_base.proofs.Lookups.{own_number, same_number, put_cases, put_there, without_cases, without_there, is_nothing}
use Rattle.co_law_base.proofs.ToldRuns.{replays_agree}
use Rattle.co_law_base.proofs.ViewRules.{three_parts}

and_T : (a b : Bool) → T (a && b) → T a
and_T true b h = tt
and_T false b h = h

left_true : (a b : Bool) → T (a && b) → a ≡ true
left_true true b h = refl
left_true false b h = absurd h

right_true : (a b : Bool) → T (a && b) → T b
right_true true b h = h
right_true false b h = absurd h

pub record IsImage (serial : Records) (settled : ℕ → Type 0) (v : MemberView) : Type 0 where
  -- where no settled vote wrote a key, the serial value is the installed one
  pub untouched : (key : List ℕ) → ((t : ℕ) (vote : Vote) → look v.voted t ≡ Some vote → settled t → writes_key vote.sets.writes key ≡ false) → get serial key ≡ get v.records key
  -- where one did, it is its write
  pub written : (t : ℕ) (vote : Vote) (key : List ℕ) → look v.voted t ≡ Some vote → settled t → writes_key vote.sets.writes key ≡ true →
      (r : Records) → get serial key ≡ get (with_changes r vote.sets.writes) key

pub image_cast : (serial : Records) (settled : ℕ → Type 0) (v : MemberView) (t : ℕ) (vote : Vote) → ¬ (settled t) → IsImage serial settled v → IsImage serial settled (cast_in v t vote)
image_cast serial settled v t vote open' i =
    record {
      untouched = λ key h. i.untouched key (λ u a f d. h u a (put_there v.voted t vote u (λ e. open' (subst settled (sym e) d)) ∙ f) d);
      written = λ u a key f d w. by u a key d w (put_cases v.voted t vote u a f);
    }
  where
    by : (u : ℕ) (a : Vote) (key : List ℕ) → settled u → writes_key a.sets.writes key ≡ true → ((t ≡ u) × (vote ≡ a)) ⊎ ((t ≢ u) × (look v.voted u ≡ Some a)) →
        (r : Records) → get serial key ≡ get (with_changes r a.sets.writes) key
    by u a key d w (inl p) = absurd (open' (subst settled (sym p.0) d))
    by u a key d w (inr p) = i.written u a key p.1 d w

pub image_forget : (serial : Records) (settled : ℕ → Type 0) (v : MemberView) (t : ℕ) → ¬ (settled t) → IsImage serial settled v → IsImage serial settled (forget_in v t)
image_forget serial settled v t open' i =
    record {
      untouched = λ key h. i.untouched key (λ u a f d. h u a (without_there v.voted t u (λ e. open' (subst settled (sym e) d)) ∙ f) d);
      written = λ u a key f d w. i.written u a key (without_cases v.voted t u a f).1 d w;
    }

pub image_install : (serial : Records) (settled : ℕ → Type 0) (v : MemberView) (t : ℕ) (vote : Vote) → look v.voted t ≡ Some vote → settled t → IsImage serial settled v →
    IsImage serial settled (install_in v t (Some vote))
image_install serial settled v t vote here d i =
    record {
      untouched = λ key h. by key h (writes_key vote.sets.writes key) refl;
      written = λ u a key f e w. i.written u a key (without_cases v.voted t u a f).1 e w;
    }
  where
    others : (key : List ℕ) → writes_key vote.sets.writes key ≡ false →
        ((u : ℕ) (a : Vote) → look (install_in v t (Some vote)).voted u ≡ Some a → settled u → writes_key a.sets.writes key ≡ false) →
        (u : ℕ) (a : Vote) → look v.voted u ≡ Some a → settled u → (b : Bool) → (t == u) ≡ b → writes_key a.sets.writes key ≡ false
    others key w h u a f e true k =
        ap (λ o. writes_key (sets_at o).writes key) (sym f ∙ ap (look v.voted) (sym (eqb-true t u k)) ∙ here) ∙ w
      where
        sets_at : Option Vote → Sets
        sets_at None = a.sets
        sets_at (Some x) = x.sets
    others key w h u a f e false k = h u a (without_there v.voted t u (eqb-false t u k) ∙ f) e

    by : (key : List ℕ) → ((u : ℕ) (a : Vote) → look (install_in v t (Some vote)).voted u ≡ Some a → settled u → writes_key a.sets.writes key ≡ false) →
        (b : Bool) → writes_key vote.sets.writes key ≡ b → get serial key ≡ get (with_changes v.records vote.sets.writes) key
    by key h true w = i.written t vote key here d w v.records
    by key h false w = i.untouched key (λ u a f e. others key w h u a f e (t == u) refl) ∙ sym (unchanged vote.sets.writes v.records key w)

-- one more transaction is decided, of which the changes at this member are given
pub image_decide : (serial next : Records) (settled later : ℕ → Type 0) (v : MemberView) (t : ℕ) (changes : List Written) →
    ((q : List ℕ) → get next q ≡ get (with_changes serial changes) q) →
    ((u : ℕ) → settled u → later u) → later t → ((u : ℕ) → t ≢ u → later u → settled u) →
    ((vote : Vote) → look v.voted t ≡ Some vote → vote.sets.writes ≡ changes) → (look v.voted t ≡ None → changes ≡ []) →
    VotedAreConflictFree v → IsImage serial settled v → IsImage next later v
image_decide serial next settled later v t changes grows keeps here others voted absent free i =
    record {
      untouched = λ key h. grows key ∙ first key h (look v.voted t) refl;
      written = λ u a key f d w r. second u a key f d w r (t == u) refl;
    }
  where
    old : (key : List ℕ) → ((u : ℕ) (a : Vote) → look v.voted u ≡ Some a → later u → writes_key a.sets.writes key ≡ false) → get serial key ≡ get v.records key
    old key h = i.untouched key (λ u a f d. h u a f (keeps u d))

    first : (key : List ℕ) → ((u : ℕ) (a : Vote) → look v.voted u ≡ Some a → later u → writes_key a.sets.writes key ≡ false) →
        (o : Option Vote) → look v.voted t ≡ o → get (with_changes serial changes) key ≡ get v.records key
    first key h None e = ap (λ ws. get (with_changes serial ws) key) (absent e) ∙ old key h
    first key h (Some vote) e =
        unchanged changes serial key (ap (λ ws. writes_key ws key) (sym (voted vote e)) ∙ h t vote e here) ∙ old key h

    unmet : (u : ℕ) (a : Vote) (key : List ℕ) → look v.voted u ≡ Some a → writes_key a.sets.writes key ≡ true → t ≢ u → (o : Option Vote) → look v.voted t ≡ o → writes_key changes key ≡ false
    unmet u a key f w n None e = ap (λ ws. writes_key ws key) (absent e)
    unmet u a key f w n (Some vote) e =
        ap (λ ws. writes_key ws key) (sym (voted vote e))
        ∙ unwritten vote.sets.writes a.sets.writes key
        (three_parts (reads_meet vote.sets.reads a.sets.writes) (reads_meet a.sets.reads vote.sets.writes) (writes_meet vote.sets.writes a.sets.writes) (free t u vote a n e f)).2 w

    second : (u : ℕ) (a : Vote) (key : List ℕ) → look v.voted u ≡ Some a → later u → writes_key a.sets.writes key ≡ true → (r : Records) → (b : Bool) → (t == u) ≡ b →
        get next key ≡ get (with_changes r a.sets.writes) key
    second u a key f d w r true k =
        let same : a.sets.writes ≡ changes = voted a (ap (look v.voted) (eqb-true t u k) ∙ f) in
        grows key ∙ overlaid changes serial r key (ap (λ ws. writes_key ws key) (sym same) ∙ w) ∙ ap (λ ws. get (with_changes r ws) key) (sym same)
    second u a key f d w r false k =
        let n = eqb-false t u k in
        grows key ∙ unchanged changes serial key (unmet u a key f w n (look v.voted t) refl) ∙ i.written u a key f (others u n d) w r

-- a voted transaction that is not settled replays on the serial records
pub replays_serially : (serial : Records) (settled : ℕ → Type 0) (v : MemberView) (t : ℕ) (vote : Vote) (told : List Told) → ¬ (settled t) → look v.voted t ≡ Some vote →
    vote.sets.reads ≡ told_spans told → VotedAreConflictFree v → IsImage serial settled v → Replays v.records told → Replays serial told
replays_serially serial settled v t vote told open' here reads free i p =
    replays_agree told v.records serial
    (λ q h. sym (i.untouched q (λ u a f d. by u a q f d h (writes_key a.sets.writes q) refl))) p
  where
    by : (u : ℕ) (a : Vote) (q : List ℕ) → look v.voted u ≡ Some a → settled u → reads_key (told_spans told) q ≡ true → (b : Bool) → writes_key a.sets.writes q ≡ b → writes_key a.sets.writes q ≡ false
    by u a q f d h true w =
        let apart = three_parts (reads_meet vote.sets.reads a.sets.writes) (reads_meet a.sets.reads vote.sets.writes) (writes_meet vote.sets.writes a.sets.writes)
        (free t u vote a (λ e. open' (subst settled (sym e) d)) here f) in
        absurd (let z : true ≡ false = sym h ∙ ap (λ spans. reads_key spans q) (sym reads) ∙ unread vote.sets.reads a.sets.writes q apart.0 w in cc)
    by u a q f d h false w = w

-- a statement of every entry
abbrev pub EachEntry : {X : Type 0} → (ℕ → X → Type 0) → List (ℕ × X) → Type 0
EachEntry P [] = Unit {0}
EachEntry P (e ∷ es) = P e.0 e.1 × EachEntry P es

pub below_found : {X : Type 0} (k : ℕ) (es : List (ℕ × X)) (u : ℕ) (x : X) → T (below_all nat_cmp k es) → find nat_cmp u es ≡ Some x → k < u
below_found k [] u x b f = is_nothing f
below_found {X} k (e ∷ es) u x b f = by (below_found k es u x) (eq_by_cmp nat_cmp u e.0) refl
  where
    by : (T (below_all nat_cmp k es) → find nat_cmp u es ≡ Some x → k < u) → (c : Bool) → eq_by_cmp nat_cmp u e.0 ≡ c → k < u
    by rest true g =
        let h : is_lt (nat_cmp k e.0) ≡ true = left_true (is_lt (nat_cmp k e.0)) (below_all nat_cmp k es) b in
        grind (arith, nat_tests, h, same_number u e.0 g)
    by rest false g = rest (right_true (is_lt (nat_cmp k e.0)) (below_all nat_cmp k es) b) (sym (ap (λ c. cond c (Some e.1) (find nat_cmp u es)) g) ∙ f)

-- it holds of each entry of a table, where it holds of what is found
pub each_entry : {X : Type 0} (P : ℕ → X → Type 0) (es : List (ℕ × X)) → T (is_sorted nat_cmp es) → ((u : ℕ) (x : X) → find nat_cmp u es ≡ Some x → P u x) → EachEntry P es
each_entry P [] s h = tt
each_entry P (e ∷ es) s h = (
  h e.0 e.1 (ap (λ c. cond c (Some e.1) (find nat_cmp e.0 es)) (own_number e.0)),
  each_entry P es (right_true (below_all nat_cmp e.0 es) (is_sorted nat_cmp es) s)
      (λ u x f. h u x (ap (λ c. cond c (Some e.1) (find nat_cmp u es)) (above_other u (below_found e.0 es u x (and_T (below_all nat_cmp e.0 es) (is_sorted nat_cmp es) s) f)) ∙ f)),
)
  where
    above_other : (u : ℕ) → e.0 < u → eq_by_cmp nat_cmp u e.0 ≡ false
    above_other u l = grind (arith, nat_tests, l)

-- and the other way round
pub entry_has : {X : Type 0} (P : ℕ → X → Type 0) (es : List (ℕ × X)) → EachEntry P es → (u : ℕ) (x : X) → find nat_cmp u es ≡ Some x → P u x
entry_has P [] h u x f = is_nothing f
entry_has P (e ∷ es) h u x f = by (entry_has P es h.1 u x) (eq_by_cmp nat_cmp u e.0) refl
  where
    by : (find nat_cmp u es ≡ Some x → P u x) → (c : Bool) → eq_by_cmp nat_cmp u e.0 ≡ c → P u x
    by rest true g =
        let same : Some e.1 ≡ Some x = sym (ap (λ c. cond c (Some e.1) (find nat_cmp u es)) g) ∙ f in
        subst (λ k. P k x) (sym (same_number u e.0 g)) (subst (P e.0) (in_some same) h.0)
    by rest false g = rest (sym (ap (λ c. cond c (Some e.1) (find nat_cmp u es)) g) ∙ f)

-- none of the votes that the test names wrote the key
abbrev pub NoneWrites : (ℕ → Vote → Bool) → List (ℕ × Vote) → List ℕ → Type 0
NoneWrites test [] q = Unit {0}
NoneWrites test (e ∷ es) q = (test e.0 e.1 ≡ true → writes_key e.1.sets.writes q ≡ false) × NoneWrites test es q

-- each that does gives the serial value
abbrev pub EachGives : Records → (ℕ → Vote → Bool) → List (ℕ × Vote) → List ℕ → Type 0
EachGives serial test [] q = Unit {0}
EachGives serial test (e ∷ es) q =
    (test e.0 e.1 ≡ true → writes_key e.1.sets.writes q ≡ true → (r : Records) → get serial q ≡ get (with_changes r e.1.sets.writes) q)
    × EachGives serial test es q

laid_over : (serial : Records) (test : ℕ → Vote → Bool) (r : Records) (es : List (ℕ × Vote)) (q : List ℕ) →
    (NoneWrites test es q → get serial q ≡ get r q) → EachGives serial test es q → get serial q ≡ get (laid_where test r es) q
laid_over serial test r [] q none each = none tt
laid_over serial test r (e ∷ es) q none each =
    by (λ x f. laid_over serial test x es q f each.1) (test e.0 e.1) refl (writes_key e.1.sets.writes q) refl
  where
    by : ((x : Records) → (NoneWrites test es q → get serial q ≡ get x q) → get serial q ≡ get (laid_where test x es) q) →
        (b : Bool) → test e.0 e.1 ≡ b → (c : Bool) → writes_key e.1.sets.writes q ≡ c →
        get serial q ≡ get (laid_where test (if test e.0 e.1 then with_changes r e.1.sets.writes else r) es) q
    by rest true d true w =
        subst (λ b. get serial q ≡ get (laid_where test (if b then with_changes r e.1.sets.writes else r) es) q) (sym d)
        (rest (with_changes r e.1.sets.writes) (λ n. each.0 d w r))
    by rest true d false w =
        subst (λ b. get serial q ≡ get (laid_where test (if b then with_changes r e.1.sets.writes else r) es) q) (sym d)
        (rest (with_changes r e.1.sets.writes) (λ n. none ((λ k. w), n) ∙ sym (unchanged e.1.sets.writes r q w)))
    by rest false d c w =
        subst (λ b. get serial q ≡ get (laid_where test (if b then with_changes r e.1.sets.writes else r) es) q) (sym d)
        (rest r (λ n. none ((λ k. absurd (let z : true ≡ false = sym k ∙ d in cc)), n)))

as_each : (test : ℕ → Vote → Bool) (q : List ℕ) (es : List (ℕ × Vote)) → NoneWrites test es q → EachEntry (λ u x. test u x ≡ true → writes_key x.sets.writes q ≡ false) es
as_each test q [] n = tt
as_each test q (e ∷ es) n = (n.0, as_each test q es n.1)

as_gives : (serial : Records) (test : ℕ → Vote → Bool) (q : List ℕ) (es : List (ℕ × Vote)) →
    EachEntry (λ u x. test u x ≡ true → writes_key x.sets.writes q ≡ true → (r : Records) → get serial q ≡ get (with_changes r x.sets.writes) q) es →
    EachGives serial test es q
as_gives serial test q [] n = tt
as_gives serial test q (e ∷ es) n = (n.0, as_gives serial test q es n.1)

-- The serial records are those of a view, with every settled vote laid over.
pub laid_serial : (serial : Records) (settled : ℕ → Type 0) (test : ℕ → Vote → Bool) (v : MemberView) → IsImage serial settled v →
    ((t : ℕ) (vote : Vote) → look v.voted t ≡ Some vote → test t vote ≡ true → settled t) →
    ((t : ℕ) (vote : Vote) → look v.voted t ≡ Some vote → settled t → test t vote ≡ true) →
    laid_where test v.records (entries v.voted) ≡ serial
laid_serial serial settled test v i there back =
    same_map nat_list_cmp_total (slice_cmp-IsAntisymmetric nat_cmp-IsAntisymmetric) _ _
    (λ q. sym (laid_over serial test v.records (entries v.voted) q
    (λ n. i.untouched q (λ t a f d. from_none q n t a f (back t a f d)))
    (all_give q)))
  where
    from_none : (q : List ℕ) → NoneWrites test (entries v.voted) q → (t : ℕ) (a : Vote) → look v.voted t ≡ Some a → test t a ≡ true → writes_key a.sets.writes q ≡ false
    from_none q n t a f =
        entry_has (λ u x. test u x ≡ true → writes_key x.sets.writes q ≡ false) (entries v.voted) (as_each test q (entries v.voted) n) t a (sym (get-entries v.voted t) ∙ f)

    all_give : (q : List ℕ) → EachGives serial test (entries v.voted) q
    all_give q =
        as_gives serial test q (entries v.voted)
        (each_entry (λ u x. test u x ≡ true → writes_key x.sets.writes q ≡ true → (r : Records) → get serial q ≡ get (with_changes r x.sets.writes) q)
        (entries v.voted) (entries_sorted v.voted) (λ t a f d w. i.written t a q (get-entries v.voted t ∙ f) (there t a (get-entries v.voted t ∙ f) d) w))
