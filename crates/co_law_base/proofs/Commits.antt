-- What a coordinator's records tell, number by number.
use Rattle.std.proofs.Common.{◌≡◌, ◌≢◌, ◌⊎◌, inl, inr, ℕ, Bool, true, false, not, cond, ◌||◌, ◌&&◌, ◌==◌, ◌<◌, T, List, [], ◌∷◌, Option, None, Some, refl, sym, ap, ◌∙◌, subst, arith}
use Rattle.std.specs.Option.{is_some}
use Rattle.std.proofs.lemmas.Bool.{eqb-true, eqb-false}
use Rattle.std.specs.Ordering.{nat_cmp, eq_by_cmp}
use Rattle.std.specs.FinMap.{entries, entries_sorted, get-entries}
use Rattle.std.specs.FinMap.Entries.{find, is_sorted, below_all}
use Rattle.co_record.specs.declared.record.Record.{Record}
use Rattle.co_record.specs.declared.record.Record.TheVariants as log
use Rattle.co_state.specs.Table.{Table, look, put, holds, no_entries}
use Rattle.co_plain.specs.declared.coord_state.Entry.{Entry}
use Rattle.co_plain.specs.declared.coord_state.Entry.TheVariants as entry
use Rattle.co_plain.specs.Numbers.{first_lacking, has_number}
use Rattle.co_plain.specs.MemberView.{Numbers, with_number}
use Rattle.co_plain.specs.CoordView.{recovered_commits, has_commit_of}
use Rattle.co_plain.specs.CoordStep.{table_onto, table_from}
use Rattle.co_plain.specs.CoordLog.{commit_onto, commits_onto}
use Rattle.co_plain.specs.SoundLogs.{unended_in}
use Rattle.co_law_engine.proofs.YesTells.{in_some}
use Rattle.co_law_base.proofs.Lookups.{is_nothing, look_none, put_here, put_there, put_cases, without_cases, own_number, same_number}
use Rattle.co_law_base.proofs.ImageRules.{EachEntry, each_entry, below_found}

-- who lacks nothing has all
pub lacks_none : (numbers given : List ℕ) (m : ℕ) → first_lacking numbers given ≡ None → has_number numbers m ≡ true → has_number given m ≡ true
lacks_none [] given m e h = absurd (let f : false ≡ true = h in cc)
lacks_none (k ∷ ks) given m e h = by (lacks_none ks given m) (has_number given k) refl (k == m) refl
  where
    by : (first_lacking ks given ≡ None → has_number ks m ≡ true → has_number given m ≡ true) → (b : Bool) → has_number given k ≡ b → (c : Bool) → (k == m) ≡ c → has_number given m ≡ true
    by rest false g c i = absurd (let f : Some k ≡ None = sym (ap (λ b. cond (not b) (Some k) (first_lacking ks given)) g) ∙ e in cc)
    by rest true g true i = ap (has_number given) (sym (eqb-true k m i)) ∙ g
    by rest true g false i = rest (sym (ap (λ b. cond (not b) (Some k) (first_lacking ks given)) g) ∙ e) (sym (ap (λ b. b || has_number ks m) i) ∙ h)

pub lacks_at_first : (numbers : List ℕ) → numbers ≢ [] → first_lacking numbers [] ≢ None
lacks_at_first [] n e = n refl
lacks_at_first (k ∷ ks) n e = absurd (let f : Some k ≡ None = e in cc)

pub holds_more : (n : Numbers) (t u : ℕ) → holds n u ≡ true → holds (with_number n t) u ≡ true
holds_more n t u h = by (t == u) refl
  where
    by : (b : Bool) → (t == u) ≡ b → holds (with_number n t) u ≡ true
    by true e = ap is_some (ap (look (put n t tt)) (sym (eqb-true t u e)) ∙ put_here n t tt)
    by false e = ap is_some (put_there n t tt u (eqb-false t u e)) ∙ h

pub holds_new : (n : Numbers) (t : ℕ) → holds (with_number n t) t ≡ true
holds_new n t = ap is_some (put_here n t tt)

pub holds_cases : (n : Numbers) (t u : ℕ) → holds (with_number n t) u ≡ true → (t ≡ u) ⊎ (holds n u ≡ true)
holds_cases n t u h = by (t == u) refl
  where
    by : (b : Bool) → (t == u) ≡ b → (t ≡ u) ⊎ (holds n u ≡ true)
    by true e = inl (eqb-true t u e)
    by false e = inr (ap is_some (sym (put_there n t tt u (eqb-false t u e))) ∙ h)

-- one more commit
pub commit_cases : (rs : List Record) (t : ℕ) (ms : List ℕ) (u : ℕ) (ns : List ℕ) → unended_in (log.Commit t ms ∷ rs) u ≡ Some ns →
    ((t ≡ u) × (ms ≡ ns) × (ms ≢ [])) ⊎ (unended_in rs u ≡ Some ns)
commit_cases rs t [] u ns h = inr h
commit_cases rs t (m ∷ ms) u ns h = by (put_cases (recovered_commits rs).unended t (m ∷ ms) u ns h)
  where
    by : ((t ≡ u) × (m ∷ ms ≡ ns)) ⊎ ((t ≢ u) × (unended_in rs u ≡ Some ns)) → ((t ≡ u) × (m ∷ ms ≡ ns) × (m ∷ ms ≢ [])) ⊎ (unended_in rs u ≡ Some ns)
    by (inl p) = inl (p.0, p.1, λ e. absurd (let f : m ∷ ms ≡ [] = e in cc))
    by (inr p) = inr p.1

pub commit_here : (rs : List Record) (t : ℕ) (ms : List ℕ) → ms ≢ [] → unended_in (log.Commit t ms ∷ rs) t ≡ Some ms
commit_here rs t [] n = absurd (n refl)
commit_here rs t (m ∷ ms) n = put_here (recovered_commits rs).unended t (m ∷ ms)

pub commit_there : (rs : List Record) (t : ℕ) (ms : List ℕ) (u : ℕ) → t ≢ u → unended_in (log.Commit t ms ∷ rs) u ≡ unended_in rs u
commit_there rs t [] u n = refl
commit_there rs t (m ∷ ms) u n = put_there (recovered_commits rs).unended t (m ∷ ms) u n

-- a commit without end is a commit, and has participants
pub unended_seen : (rs : List Record) (t : ℕ) (ms : List ℕ) → unended_in rs t ≡ Some ms → has_commit_of rs t ≡ true
unended_seen [] t ms h = is_nothing (sym (look_none t) ∙ h)
unended_seen (log.Header a b ∷ rs) t ms h = unended_seen rs t ms h
unended_seen (log.Prepare a b c d e ∷ rs) t ms h = unended_seen rs t ms h
unended_seen (log.Abort a ∷ rs) t ms h = unended_seen rs t ms h
unended_seen (log.Checkpoint a b c ∷ rs) t ms h = unended_seen rs t ms h
unended_seen (log.End u ∷ rs) t ms h = unended_seen rs t ms (without_cases (recovered_commits rs).unended u t ms h).1
unended_seen (log.Commit u ns ∷ rs) t ms h = by (unended_seen rs t ms) (commit_cases rs u ns t ms h)
  where
    by : (unended_in rs t ≡ Some ms → has_commit_of rs t ≡ true) → ((u ≡ t) × (ns ≡ ms) × (ns ≢ [])) ⊎ (unended_in rs t ≡ Some ms) → holds (with_number (recovered_commits rs).seen u) t ≡ true
    by rest (inl p) = ap (holds (with_number (recovered_commits rs).seen u)) (sym p.0) ∙ holds_new (recovered_commits rs).seen u
    by rest (inr k) = holds_more (recovered_commits rs).seen u t (rest k)

pub unended_some : (rs : List Record) (t : ℕ) (ms : List ℕ) → unended_in rs t ≡ Some ms → ms ≢ []
unended_some [] t ms h = is_nothing (sym (look_none t) ∙ h)
unended_some (log.Header a b ∷ rs) t ms h = unended_some rs t ms h
unended_some (log.Prepare a b c d e ∷ rs) t ms h = unended_some rs t ms h
unended_some (log.Abort a ∷ rs) t ms h = unended_some rs t ms h
unended_some (log.Checkpoint a b c ∷ rs) t ms h = unended_some rs t ms h
unended_some (log.End u ∷ rs) t ms h = unended_some rs t ms (without_cases (recovered_commits rs).unended u t ms h).1
unended_some (log.Commit u ns ∷ rs) t ms h = by (unended_some rs t ms) (commit_cases rs u ns t ms h)
  where
    by : (unended_in rs t ≡ Some ms → ms ≢ []) → ((u ≡ t) × (ns ≡ ms) × (ns ≢ [])) ⊎ (unended_in rs t ≡ Some ms) → ms ≢ []
    by rest (inl p) = subst (λ k. k ≢ []) p.1 p.2
    by rest (inr k) = rest k

-- a table that is made from the commits without end
onto_cases : (P : ℕ → List ℕ → Type 0) (es : List (ℕ × List ℕ)) (table : Table Entry) (t : ℕ) (x : Entry) → EachEntry P es → look (table_onto table es) t ≡ Some x →
    (look table t ≡ Some x) ⊎ ((ms : List ℕ) × P t ms × (entry.Committed ms [] ≡ x))
onto_cases P [] table t x h f = inl f
onto_cases P (e ∷ es) table t x h f = by (onto_cases P es (put table e.0 (entry.Committed e.1 [])) t x h.1 f)
  where
    by : (look (put table e.0 (entry.Committed e.1 [])) t ≡ Some x) ⊎ ((ms : List ℕ) × P t ms × (entry.Committed ms [] ≡ x)) →
        (look table t ≡ Some x) ⊎ ((ms : List ℕ) × P t ms × (entry.Committed ms [] ≡ x))
    by (inr p) = inr p
    by (inl g) = now (put_cases table e.0 (entry.Committed e.1 []) t x g)
      where
        now : ((e.0 ≡ t) × (entry.Committed e.1 [] ≡ x)) ⊎ ((e.0 ≢ t) × (look table t ≡ Some x)) → (look table t ≡ Some x) ⊎ ((ms : List ℕ) × P t ms × (entry.Committed ms [] ≡ x))
        now (inl q) = inr (e.1, subst (λ k. P k e.1) q.0 h.0, q.1)
        now (inr q) = inl q.1

pub from_cases : (unended : Table (List ℕ)) (t : ℕ) (x : Entry) → look (table_from (entries unended)) t ≡ Some x →
    (ms : List ℕ) × (look unended t ≡ Some ms) × (entry.Committed ms [] ≡ x)
from_cases unended t x f =
    by (onto_cases (λ u ms. look unended u ≡ Some ms) (entries unended) no_entries t x
    (each_entry (λ u ms. look unended u ≡ Some ms) (entries unended) (entries_sorted unended) (λ u ms g. get-entries unended u ∙ g)) f)
  where
    by : (look no_entries t ≡ Some x) ⊎ ((ms : List ℕ) × (look unended t ≡ Some ms) × (entry.Committed ms [] ≡ x)) → (ms : List ℕ) × (look unended t ≡ Some ms) × (entry.Committed ms [] ≡ x)
    by (inl g) = is_nothing (sym (look_none t) ∙ g)
    by (inr p) = p

pub none_below : {X : Type 0} (k : ℕ) (es : List (ℕ × X)) → T (below_all nat_cmp k es) → find nat_cmp k es ≡ None
none_below {X} k es b = by (find nat_cmp k es) refl
  where
    by : (o : Option X) → find nat_cmp k es ≡ o → find nat_cmp k es ≡ None
    by None e = e
    by (Some x) e = absurd (let l : k < k = below_found k es k x b e in omega (arith, l))

onto_other : (es : List (ℕ × List ℕ)) (table : Table Entry) (t : ℕ) → find nat_cmp t es ≡ None → look (table_onto table es) t ≡ look table t
onto_other [] table t n = refl
onto_other (e ∷ es) table t n = by (onto_other es (put table e.0 (entry.Committed e.1 [])) t) (eq_by_cmp nat_cmp t e.0) refl
  where
    by : (find nat_cmp t es ≡ None → look (table_onto (put table e.0 (entry.Committed e.1 [])) es) t ≡ look (put table e.0 (entry.Committed e.1 [])) t) → (b : Bool) → eq_by_cmp nat_cmp t e.0 ≡ b →
        look (table_onto (put table e.0 (entry.Committed e.1 [])) es) t ≡ look table t
    by rest true g = absurd (let f : Some e.1 ≡ None = sym (ap (λ c. cond c (Some e.1) (find nat_cmp t es)) g) ∙ n in cc)
    by rest false g =
        rest (sym (ap (λ c. cond c (Some e.1) (find nat_cmp t es)) g) ∙ n)
        ∙ put_there table e.0 (entry.Committed e.1 []) t (λ q. let f : false ≡ true = sym g ∙ ap (λ k. eq_by_cmp nat_cmp k e.0) (sym q) ∙ own_number e.0 in cc)

pub both_T : (a b : Bool) → T (a && b) → T a × T b
both_T true b h = (tt, h)
both_T false b h = absurd h

onto_found : (es : List (ℕ × List ℕ)) (table : Table Entry) (t : ℕ) (ms : List ℕ) → T (is_sorted nat_cmp es) → find nat_cmp t es ≡ Some ms → look (table_onto table es) t ≡ Some (entry.Committed ms [])
onto_found [] table t ms s f = is_nothing f
onto_found (e ∷ es) table t ms s f = by (onto_found es (put table e.0 (entry.Committed e.1 [])) t ms (both_T _ _ s).1) (eq_by_cmp nat_cmp t e.0) refl
  where
    by : (find nat_cmp t es ≡ Some ms → look (table_onto (put table e.0 (entry.Committed e.1 [])) es) t ≡ Some (entry.Committed ms [])) → (b : Bool) → eq_by_cmp nat_cmp t e.0 ≡ b →
        look (table_onto (put table e.0 (entry.Committed e.1 [])) es) t ≡ Some (entry.Committed ms [])
    by rest false g = rest (sym (ap (λ c. cond c (Some e.1) (find nat_cmp t es)) g) ∙ f)
    by rest true g =
        let same : t ≡ e.0 = same_number t e.0 g in
        let is : e.1 ≡ ms = in_some (sym (ap (λ c. cond c (Some e.1) (find nat_cmp t es)) g) ∙ f) in
        onto_other es (put table e.0 (entry.Committed e.1 [])) t (ap (λ k. find nat_cmp k es) same ∙ none_below e.0 es (both_T _ _ s).0)
        ∙ ap (look (put table e.0 (entry.Committed e.1 []))) same ∙ put_here table e.0 (entry.Committed e.1 []) ∙ ap (λ k. Some (entry.Committed k [])) is

pub from_found : (unended : Table (List ℕ)) (t : ℕ) (ms : List ℕ) → look unended t ≡ Some ms → look (table_from (entries unended)) t ≡ Some (entry.Committed ms [])
from_found unended t ms f = onto_found (entries unended) no_entries t ms (entries_sorted unended) (sym (get-entries unended t) ∙ f)

-- a spare that is filled with the commits of a table
pub spare_cases : (P : ℕ → Entry → Type 0) (es : List (ℕ × Entry)) (rs : List Record) (t : ℕ) (ms : List ℕ) → EachEntry P es → unended_in (commits_onto rs es) t ≡ Some ms →
    (unended_in rs t ≡ Some ms) ⊎ ((acks : List ℕ) × P t (entry.Committed ms acks))
spare_cases P [] rs t ms h f = inl f
spare_cases P (e ∷ es) rs t ms h f = by e.1 h.0 (spare_cases P es (commit_onto rs e.0 e.1) t ms h.1 f)
  where
    by : (x : Entry) → P e.0 x → (unended_in (commit_onto rs e.0 x) t ≡ Some ms) ⊎ ((acks : List ℕ) × P t (entry.Committed ms acks)) →
        (unended_in rs t ≡ Some ms) ⊎ ((acks : List ℕ) × P t (entry.Committed ms acks))
    by x p (inr q) = inr q
    by entry.Idle p (inl g) = inl g
    by (entry.Collecting parts yeses) p (inl g) = inl g
    by (entry.Committed ns acks) p (inl g) = now (commit_cases rs e.0 ns t ms g)
      where
        now : ((e.0 ≡ t) × (ns ≡ ms) × (ns ≢ [])) ⊎ (unended_in rs t ≡ Some ms) → (unended_in rs t ≡ Some ms) ⊎ ((acks : List ℕ) × P t (entry.Committed ms acks))
        now (inl q) = inr (acks, subst (λ k. P k (entry.Committed ms acks)) q.0 (subst (λ k. P e.0 (entry.Committed k acks)) q.1 p))
        now (inr q) = inl q

pub seen_cases : (P : ℕ → Entry → Type 0) (es : List (ℕ × Entry)) (rs : List Record) (t : ℕ) → EachEntry P es → has_commit_of (commits_onto rs es) t ≡ true →
    (has_commit_of rs t ≡ true) ⊎ ((ms acks : List ℕ) × P t (entry.Committed ms acks))
seen_cases P [] rs t h f = inl f
seen_cases P (e ∷ es) rs t h f = by e.1 h.0 (seen_cases P es (commit_onto rs e.0 e.1) t h.1 f)
  where
    by : (x : Entry) → P e.0 x → (has_commit_of (commit_onto rs e.0 x) t ≡ true) ⊎ ((ms acks : List ℕ) × P t (entry.Committed ms acks)) →
        (has_commit_of rs t ≡ true) ⊎ ((ms acks : List ℕ) × P t (entry.Committed ms acks))
    by x p (inr q) = inr q
    by entry.Idle p (inl g) = inl g
    by (entry.Collecting parts yeses) p (inl g) = inl g
    by (entry.Committed ns acks) p (inl g) = now (holds_cases (recovered_commits rs).seen e.0 t g)
      where
        now : (e.0 ≡ t) ⊎ (has_commit_of rs t ≡ true) → (has_commit_of rs t ≡ true) ⊎ ((ms acks : List ℕ) × P t (entry.Committed ms acks))
        now (inl q) = inr (ns, acks, subst (λ k. P k (entry.Committed ns acks)) q p)
        now (inr q) = inl q

spare_other : (es : List (ℕ × Entry)) (rs : List Record) (t : ℕ) → find nat_cmp t es ≡ None → unended_in (commits_onto rs es) t ≡ unended_in rs t
spare_other [] rs t n = refl
spare_other (e ∷ es) rs t n = by (spare_other es (commit_onto rs e.0 e.1) t) (eq_by_cmp nat_cmp t e.0) refl
  where
    step : (x : Entry) → e.0 ≢ t → unended_in (commit_onto rs e.0 x) t ≡ unended_in rs t
    step entry.Idle d = refl
    step (entry.Collecting parts yeses) d = refl
    step (entry.Committed ns acks) d = commit_there rs e.0 ns t d

    by : (find nat_cmp t es ≡ None → unended_in (commits_onto (commit_onto rs e.0 e.1) es) t ≡ unended_in (commit_onto rs e.0 e.1) t) → (b : Bool) → eq_by_cmp nat_cmp t e.0 ≡ b →
        unended_in (commits_onto (commit_onto rs e.0 e.1) es) t ≡ unended_in rs t
    by rest true g = absurd (let f : Some e.1 ≡ None = sym (ap (λ c. cond c (Some e.1) (find nat_cmp t es)) g) ∙ n in cc)
    by rest false g =
        rest (sym (ap (λ c. cond c (Some e.1) (find nat_cmp t es)) g) ∙ n)
        ∙ step e.1 (λ q. let f : false ≡ true = sym g ∙ ap (λ k. eq_by_cmp nat_cmp k e.0) (sym q) ∙ own_number e.0 in cc)

pub spare_found : (es : List (ℕ × Entry)) (rs : List Record) (t : ℕ) (ms acks : List ℕ) → T (is_sorted nat_cmp es) → ms ≢ [] → find nat_cmp t es ≡ Some (entry.Committed ms acks) →
    unended_in (commits_onto rs es) t ≡ Some ms
spare_found [] rs t ms acks s n f = is_nothing f
spare_found (e ∷ es) rs t ms acks s n f = by (spare_found es (commit_onto rs e.0 e.1) t ms acks (both_T _ _ s).1 n) (eq_by_cmp nat_cmp t e.0) refl
  where
    by : (find nat_cmp t es ≡ Some (entry.Committed ms acks) → unended_in (commits_onto (commit_onto rs e.0 e.1) es) t ≡ Some ms) → (b : Bool) → eq_by_cmp nat_cmp t e.0 ≡ b →
        unended_in (commits_onto (commit_onto rs e.0 e.1) es) t ≡ Some ms
    by rest false g = rest (sym (ap (λ c. cond c (Some e.1) (find nat_cmp t es)) g) ∙ f)
    by rest true g =
        let same : t ≡ e.0 = same_number t e.0 g in
        let is : e.1 ≡ entry.Committed ms acks = in_some (sym (ap (λ c. cond c (Some e.1) (find nat_cmp t es)) g) ∙ f) in
        spare_other es (commit_onto rs e.0 e.1) t (ap (λ k. find nat_cmp k es) same ∙ none_below e.0 es (both_T _ _ s).0)
        ∙ ap (λ x. unended_in (commit_onto rs e.0 x) t) is ∙ ap (λ k. unended_in (log.Commit e.0 ms ∷ rs) k) same ∙ commit_here rs e.0 ms n
