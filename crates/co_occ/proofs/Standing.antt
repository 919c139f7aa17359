-- For which states an engine with backward validation stands after each call.
use Rattle.std.proofs.Common.{◌≡◌, ℕ, ◌+◌, ◌-◌, true, List, [], ◌∷◌, ◌++◌, length, drop, if◌then◌else◌, is_some, Option, None, Some, IsTrue, refl, sym, ap, ◌∙◌, subst, true≢false, arith, suc}
use Rattle.std.specs.Option.{option_map}
use Rattle.std.specs.FinMap.{empty, entries, get-empty}
use Rattle.std.specs.Ordering.{nat_cmp, eq_by_cmp}
use Rattle.co_base.specs.Span.{Span}
use Rattle.co_base.specs.declared.head.Kind.{Kind}
use Rattle.co_base.specs.declared.head.Kind.TheVariants.{Occ}
use Rattle.co_base.specs.declared.op.Op.{Op}
use Rattle.co_base.specs.declared.written.Written.{Written}
use Rattle.co_serial.specs.Records.{Records, with_changes, all_rows}
use Rattle.co_serial.specs.SerialRun.{reply_to}
use Rattle.co_pairs.specs.declared.prepared.Prepared.{Prepared}
use Rattle.co_state.specs.declared.engine_state.EngineState.{EngineState}
use Rattle.co_state.specs.declared.engine_state.Operation.{Operation}
use Rattle.co_state.specs.declared.engine_state.Sets.{Sets}
use Rattle.co_state.specs.declared.engine_state.Vote.{Vote}
use Rattle.co_state.specs.Changes.{sets_of, span_read}
use Rattle.co_state.specs.Effects.{with_operation, after_operation, after_cast, after_install, after_drop, install_vote, restored, dumped_rows}
use Rattle.co_state.specs.EngineState.{operations_in, operations_of, sets_in, sets_at, records_at}
use Rattle.co_state.specs.Keys.{least_key}
use Rattle.co_state.specs.LockRule.{lock_blocker, lock_holder, blocker_by}
use Rattle.co_state.specs.ReadRule.{stamp_after, snapshot_of, operation_reply}
use Rattle.co_state.specs.StaleRead.{stale_key}
use Rattle.co_state.specs.Table.{Table, no_entries, look, put, without, holds, lesser}
use Rattle.co_state.proofs.Tables.{look-put, look-without, put-without}
use Rattle.co_engine.specs.declared.answers.Seen.TheVariants.{Answer}
use Rattle.co_engine.specs.Calls.{may_operate, votes_of, seen_by, seen_of}
use Rattle.co_engine.specs.Undecided.{or_nothing, grown_by, grown_at}
use Rattle.co_engine.proofs.Answering.{cond-same, not_voted, records_at-all}
use Rattle.co_pairs.proofs.Picking.{tied}
use Rattle.co_pairs.specs.Votes.{told_of}
use Rattle.co_pairs.proofs.Votes.{told_voted}
use Rattle.co_occ.specs.declared.engine.OccEngine.{OccEngine}
use Rattle.co_occ.specs.declared.reads.Reads.{Reads}
use Rattle.co_occ.specs.Kept.{reads_of, or_unread, with_read}
use Rattle.co_occ.specs.Last.{Lasts, AreLast, noted, keys_after}
use Rattle.co_occ.specs.Old.{with_stamp, oldest_stamp, oldest_of, oldest_read, installed_writes, writes_after, old_writes}
use Rattle.co_occ.specs.Stands.{IsKept, KeepsState, StandsFor, count_after, needed, recent_needed, with_needed, own_records, own_reads}
use Rattle.co_occ.specs.Unseen.{keys_overwritten}
use Rattle.co_occ.proofs.Lasting.{least_after, none_last}
use Rattle.co_occ.proofs.Keeping.{sets_kept, reads_kept, kept_along, kept_cond, nothing_kept, cast_kept, voted_unread, not_active, absent_vote}
use Rattle.co_occ.proofs.Oldest.{oldest-put, oldest-without, oldest_alike, lesser-assoc, after_read, after_gone, after_none, stamps-reads}
use Rattle.co_occ.proofs.Oldest as later
use Rattle.co_occ.proofs.Unseeing.{length-installed, installed-more, AllNotOlder, reads_not_older, lower_right, stale_alike}

-- ---- reading a state
pub stamp_alike : (o : OccEngine) (b : EngineState) (t : ℕ) → KeepsState o b → o.installs ≡ snapshot_of b t
stamp_alike o b t k = k.count_is ∙ ap (λ kind. stamp_after kind (length b.installed) (operations_of b t)) k.kind_is

pub sets_alike : (o : OccEngine) (b : EngineState) (t : ℕ) → KeepsState o b → sets_at b t ≡ or_nothing (look o.undecided t)
sets_alike o b t k = sets_kept (look o.reads t) (look o.undecided t) (look b.active t) (look b.voted t) (k.each t)

reads_alike : (o : OccEngine) (b : EngineState) (t : ℕ) → KeepsState o b → reads_of (operations_of b t) ≡ or_unread (look o.reads t)
reads_alike o b t k = reads_kept (look o.reads t) (look b.active t) (k.each t).reads_are

pub own_sets : (o : OccEngine) (b : EngineState) (t : ℕ) → KeepsState o b → look b.voted t ≡ None → sets_of (operations_of b t) ≡ or_nothing (look o.undecided t)
own_sets o b t k none = ap (λ v. sets_in v (operations_of b t)) (sym none) ∙ sets_alike o b t k

pub reply_alike : (o : OccEngine) (b : EngineState) (t : ℕ) (op : Op) → StandsFor o b → IsTrue (may_operate b t) → reply_to (own_records o t) op ≡ operation_reply b t op
reply_alike o b t op s h =
    let k = s.keeps in
    let now : o.records ≡ records_at b.base b.installed (snapshot_of b t) =
    k.records_are ∙ sym (records_at-all b.base b.installed) ∙ ap (records_at b.base b.installed) (sym k.count_is ∙ stamp_alike o b t k) in
    (λ i. reply_to (with_changes (now i) (sym (own_sets o b t k (not_voted b t h)) i).writes) op)

-- no operation is blocked
pub not_blocked : (o : OccEngine) (b : EngineState) (t : ℕ) (op : Op) → StandsFor o b → lock_blocker b t op ≡ None
not_blocked o b t op s = ap (λ kind. blocker_by kind (lock_holder b t op)) (sym s.keeps.kind_is)

pub seen_alike : (o : OccEngine) (b : EngineState) (t : ℕ) (op : Op) → StandsFor o b → IsTrue (may_operate b t) → Answer (reply_to (own_records o t) op) ≡ seen_of b t op
seen_alike o b t op s h = ap Answer (reply_alike o b t op s h) ∙ ap (λ holder. seen_by holder (operation_reply b t op)) (sym (not_blocked o b t op s))

pub after_alike : (o : OccEngine) (b : EngineState) (t : ℕ) (op : Op) → StandsFor o b → with_operation b t op ≡ after_operation b t op
after_alike o b t op s = ap (λ holder. if is_some holder then b else with_operation b t op) (sym (not_blocked o b t op s))

-- ---- an operation is added to its transaction
-- the engine with other undecided transactions
abbrev pub moved : OccEngine → Table Reads → Table Sets → OccEngine
moved o reads undecided = record o { reads = reads; undecided = undecided }

-- what its active transactions read, after an operation
abbrev pub read_by : OccEngine → ℕ → Op → Table Reads
read_by o t op = put (without o.reads t) t (with_read (span_read op) o.installs (or_unread (look o.reads t)))

module _ (o : OccEngine) (b : EngineState) (t : ℕ) (op : Op) (h : IsTrue (may_operate b t)) (reads : Table Reads) (undecided : Table Sets) (er : reads ≡ read_by o t op) (es : undecided ≡ grown_at o.undecided t op) where
  pub keeps_with : KeepsState o b → KeepsState (moved o reads undecided) (with_operation b t op)
  keeps_with k =
      let none = not_voted b t h in
      let sets = grown_by op (or_nothing (look o.undecided t)) in
      record {
        kind_is = k.kind_is;
        records_are = k.records_are;
        count_is = k.count_is;
        each = λ u.
            kept_along
            (sym (ap (λ m. look m u) (er ∙ put-without o.reads t (with_read (span_read op) o.installs (or_unread (look o.reads t)))) ∙ look-put o.reads t (with_read (span_read op) o.installs (or_unread (look o.reads t))) u))
            (sym (ap (λ m. look m u) (es ∙ put-without o.undecided t sets) ∙ look-put o.undecided t sets u))
            (sym (look-put b.active t (record { op = op; stamp = snapshot_of b t } ∷ operations_of b t) u)) (cond-same (eq_by_cmp nat_cmp u t) (look b.voted u))
            (kept_cond (eq_by_cmp nat_cmp u t)
            (λ y. record {
              reads_are = (λ i. Some (with_read (span_read op) (sym (stamp_alike o b t k) i) (reads_alike o b t k i)));
              sets_are = ap (λ x. Some (grown_by op x)) (own_sets o b t k none);
              votes_are = ap (option_map (λ v. v.sets)) (ap (look b.voted) (tied u t y) ∙ none);
            })
            (λ n. k.each u));
      }

-- ---- the kept write sets
stamp_more : (span : Option Span) (stamp : ℕ) (old rest : Option ℕ) (wss : List (List Written)) → length wss ≡ stamp
    → writes_after (lesser old rest) wss ≡ writes_after (lesser (with_stamp span stamp old) rest) wss
stamp_more None stamp old rest wss e = refl
stamp_more (Some span) stamp old rest wss e = after_read (lesser old rest) wss stamp e ∙ ap (λ o. writes_after o wss) (sym (lesser-assoc (Some stamp) old rest))

counted : (o : OccEngine) (b : EngineState) → KeepsState o b → length (installed_writes b.installed) ≡ o.installs
counted o b k = length-installed b.installed ∙ sym k.count_is

pub stands_with : (o : OccEngine) (b : EngineState) (t : ℕ) (op : Op) (reads : Table Reads) (undecided : Table Sets) → StandsFor o b → IsTrue (may_operate b t) → reads ≡ read_by o t op
    → undecided ≡ grown_at o.undecided t op → StandsFor (moved o reads undecided) (with_operation b t op)
stands_with o b t op reads undecided s h er es = record {
  keeps = keeps_with o b t op h reads undecided er es s.keeps;
  recent_are = s.recent_are
      ∙ ap (λ old. writes_after old (installed_writes b.installed)) (oldest-without b.active t)
      ∙ stamp_more (span_read op) (snapshot_of b t) (oldest_stamp (operations_of b t)) (oldest_of (entries (without b.active t))) (installed_writes b.installed) (counted o b s.keeps ∙ stamp_alike o b t s.keeps)
      ∙ ap (λ old. writes_after old (installed_writes b.installed)) (sym (oldest-put b.active t (record { op = op; stamp = snapshot_of b t } ∷ operations_of b t)));
  lasts_are = s.lasts_are;
}

needed_alike : (o : OccEngine) (b : EngineState) → KeepsState o b → needed o ≡ count_after (oldest_read b) o.installs
needed_alike o b k = ap (λ old. count_after old o.installs) (oldest_alike o.reads b.active (λ t. (k.each t).reads_are))

-- what no read needs is forgotten
pub stands_needed : (o : OccEngine) (b : EngineState) (lasts : Lasts) → KeepsState o b → drop (length o.recent - count_after (oldest_read b) o.installs) o.recent ≡ old_writes b → AreLast lasts (recent_needed o) o.installs
    → StandsFor (with_needed o lasts) b
stands_needed o b lasts k e l = record {
  keeps = record { kind_is = k.kind_is; records_are = k.records_are; count_is = k.count_is; each = k.each };
  recent_are = ap (λ n. drop (length o.recent - n) o.recent) (needed_alike o b k) ∙ e;
  lasts_are = l;
}

-- a transaction is no longer active
gone : (o : OccEngine) (b : EngineState) (t : ℕ) → StandsFor o b
    → drop (length o.recent - count_after (oldest_of (entries (without b.active t))) o.installs) o.recent ≡ writes_after (oldest_of (entries (without b.active t))) (installed_writes b.installed)
gone o b t s =
    let is : o.recent ≡ writes_after (lesser (oldest_stamp (operations_of b t)) (oldest_of (entries (without b.active t)))) (installed_writes b.installed) =
    s.recent_are ∙ ap (λ old. writes_after old (installed_writes b.installed)) (oldest-without b.active t) in
    ap (λ wss. drop (length wss - count_after (oldest_of (entries (without b.active t))) o.installs) wss) is
    ∙ after_gone (oldest_stamp (operations_of b t)) (oldest_of (entries (without b.active t))) (installed_writes b.installed) o.installs (counted o b s.keeps)

-- ---- votes and drops
pub stands_cast : (o : OccEngine) (b : EngineState) (t coord count : ℕ) (reads : Table Reads) (lasts : Lasts) → StandsFor o b → IsTrue (holds b.active t) → reads ≡ without o.reads t
    → AreLast lasts (recent_needed (moved o reads o.undecided)) o.installs → StandsFor (with_needed (moved o reads o.undecided) lasts) (after_cast b t coord count)
stands_cast o b t coord count reads lasts s h er l =
    let k = s.keeps in
    stands_needed (moved o reads o.undecided) (after_cast b t coord count) lasts
    (record {
      kind_is = k.kind_is;
      records_are = k.records_are;
      count_is = k.count_is;
      each = λ u.
          kept_along (sym (ap (λ m. look m u) er ∙ look-without o.reads t u)) (cond-same (eq_by_cmp nat_cmp u t) (look o.undecided u)) (sym (look-without b.active t u)) (sym (look-put b.voted t _ u))
          (kept_cond (eq_by_cmp nat_cmp u t)
          (λ y. kept_along refl (ap (look o.undecided) (sym (tied u t y))) refl refl (cast_kept (look o.reads t) (look o.undecided t) (look b.active t) (look b.voted t) coord count (k.each t) h))
          (λ n. k.each u));
    })
    (gone o b t s) l

pub stands_drop : (o : OccEngine) (b : EngineState) (t : ℕ) (reads : Table Reads) (undecided : Table Sets) (lasts : Lasts) → StandsFor o b → reads ≡ without o.reads t → undecided ≡ without o.undecided t
    → AreLast lasts (recent_needed (moved o reads undecided)) o.installs → StandsFor (with_needed (moved o reads undecided) lasts) (after_drop b t)
stands_drop o b t reads undecided lasts s er es l =
    let k = s.keeps in
    stands_needed (moved o reads undecided) (after_drop b t) lasts
    (record {
      kind_is = k.kind_is;
      records_are = k.records_are;
      count_is = k.count_is;
      each = λ u.
          kept_along (sym (ap (λ m. look m u) er ∙ look-without o.reads t u)) (sym (ap (λ m. look m u) es ∙ look-without o.undecided t u)) (sym (look-without b.active t u)) (sym (look-without b.voted t u))
          (kept_cond (eq_by_cmp nat_cmp u t) (λ y. nothing_kept) (λ n. k.each u));
    })
    (gone o b t s) l

-- ---- commits
-- the engine after the commit, before it forgets anything
abbrev pub installed_with : OccEngine → Table Sets → List Written → OccEngine
installed_with o undecided ws = record o {
  records = with_changes o.records ws;
  installs = o.installs + 1;
  recent = o.recent ++ ws ∷ [];
  lasts = noted o.lasts ws (o.installs + 1);
  undecided = undecided;
}

install_at : (o : OccEngine) (b : EngineState) (t : ℕ) (own : Sets) (undecided : Table Sets) (lasts : Lasts) (v : Option Vote) → StandsFor o b → is_some v ≡ true → look b.voted t ≡ v → look o.undecided t ≡ Some own
    → undecided ≡ without o.undecided t → AreLast lasts (recent_needed (installed_with o undecided own.writes)) (o.installs + 1)
    → StandsFor (with_needed (installed_with o undecided own.writes) lasts) (install_vote b t v)
install_at o b t own undecided lasts None s h f is es l = absurd (true≢false (sym h))
install_at o b t own undecided lasts (Some vote) s h f is es l =
    let keeps = s.keeps in
    let ws = vote.sets.writes in
    let there : IsKept (look o.reads t) (look o.undecided t) (look b.active t) (Some vote) = kept_along refl refl refl f (keeps.each t) in
    let unread : look o.reads t ≡ None = voted_unread (look o.reads t) (look o.undecided t) (look b.active t) vote there in
    let kept : IsKept None (Some own) (look b.active t) (Some vote) = kept_along unread is refl refl there in
    let same : own.writes ≡ ws = (let g : Some vote.sets ≡ Some own = kept.votes_are in let e : vote.sets ≡ own = cc in ap (λ sets. sets.writes) (sym e)) in
    let more = installed-more b.installed (record { txn = t; writes = ws }) in
    subst (λ (xs : List Written). StandsFor (with_needed (installed_with o undecided xs) lasts) (install_vote b t (Some vote))) (sym same)
    (stands_needed (installed_with o undecided ws) (install_vote b t (Some vote)) lasts
    (record {
      kind_is = keeps.kind_is;
      records_are = ap (λ m. with_changes m ws) keeps.records_are;
      count_is = ap (λ n. n + 1) keeps.count_is ∙ (let n : length b.installed + 1 ≡ suc (length b.installed) = omega arith in n);
      each = λ u.
          kept_along (cond-same (eq_by_cmp nat_cmp u t) (look o.reads u)) (sym (ap (λ m. look m u) es ∙ look-without o.undecided t u)) (cond-same (eq_by_cmp nat_cmp u t) (look b.active u)) (sym (look-without b.voted t u))
          (kept_cond (eq_by_cmp nat_cmp u t)
          (λ y. kept_along (sym (ap (look o.reads) (tied u t y) ∙ unread)) refl (sym (ap (look b.active) (tied u t y) ∙ not_active (Some own) (look b.active t) (Some vote) kept)) refl nothing_kept)
          (λ n. keeps.each u));
    })
    (ap (λ wss. drop (length (wss ++ ws ∷ []) - count_after (oldest_read b) (o.installs + 1)) (wss ++ ws ∷ [])) s.recent_are
    ∙ later.after_install (oldest_read b) (installed_writes b.installed) ws o.installs (counted o b keeps)
    ∙ ap (writes_after (oldest_read b)) (sym more))
    (subst (λ (xs : List Written). AreLast lasts (recent_needed (installed_with o undecided xs)) (o.installs + 1)) same l))

pub stands_install : (o : OccEngine) (b : EngineState) (t : ℕ) (own : Sets) (undecided : Table Sets) (lasts : Lasts) → StandsFor o b → IsTrue (holds b.voted t) → look o.undecided t ≡ Some own
    → undecided ≡ without o.undecided t → AreLast lasts (recent_needed (installed_with o undecided own.writes)) (o.installs + 1)
    → StandsFor (with_needed (installed_with o undecided own.writes) lasts) (after_install b t)
stands_install o b t own undecided lasts s h is es l = install_at o b t own undecided lasts (look b.voted t) s h refl is es l

-- a voted transaction is there
pub install_absent : (o : OccEngine) (b : EngineState) (t : ℕ) {A : Type 0} → StandsFor o b → IsTrue (holds b.voted t) → look o.undecided t ≡ None → A
install_absent o b t s h is = absurd (true≢false (sym h ∙ absent_vote (look o.reads t) (look b.active t) (look b.voted t) (kept_along refl is refl refl (s.keeps.each t))))

-- ---- the start
prepared_kept : (vote : Option Vote) → IsKept None (option_map (λ v. v.sets) vote) None vote
prepared_kept None = nothing_kept
prepared_kept (Some vote) = record { reads_are = refl; sets_are = refl; votes_are = refl }

pub stands_restored : (o : OccEngine) (kind : Kind) (records : Records) (ps : List Prepared) → kind ≡ Occ → o.records ≡ records → o.installs ≡ 0 → o.recent ≡ [] → o.lasts ≡ empty → o.reads ≡ no_entries → o.undecided ≡ told_of (λ p. p.sets) ps
    → StandsFor o (restored kind records (votes_of ps))
stands_restored o kind records ps is base count recent lasts reads sets = record {
  keeps = record {
    kind_is = sym is;
    records_are = base;
    count_is = count;
    each = λ u. kept_along (sym (ap (λ m. look m u) reads ∙ get-empty nat_cmp u)) (sym (ap (λ m. look m u) sets ∙ told_voted (λ p. p.sets) (λ v. v.sets) (λ p. refl) ps u)) (sym (get-empty nat_cmp u)) refl (prepared_kept (look (votes_of ps) u));
  };
  recent_are = recent ∙ after_none (oldest_of (entries (no_entries {X = List Operation})));
  lasts_are = subst (λ (m : Lasts). AreLast m o.recent o.installs) (sym lasts)
      (subst (λ (wss : List (List Written)). AreLast empty wss o.installs) (sym recent) (subst (λ (n : ℕ). AreLast empty [] n) (sym count) none_last));
}

-- ---- overwritten reads
own_older : (os : Option (List Operation)) → AllNotOlder (oldest_stamp (operations_in os)) (reads_of (operations_in os)).list
own_older None = tt
own_older (Some os) = subst (λ a. AllNotOlder a (reads_of os).list) (sym (stamps-reads os)) (reads_not_older os)

pub validated : (o : OccEngine) (b : EngineState) (t : ℕ) → StandsFor o b → least_key (keys_after (entries o.lasts) (own_reads o t)) ≡ stale_key b t
validated o b t s =
    let k = s.keeps in
    let os = operations_of b t in
    let older : AllNotOlder (oldest_read b) (reads_of os).list =
    subst (λ a. AllNotOlder a (reads_of os).list) (sym (oldest-without b.active t))
    (lower_right (oldest_stamp os) (oldest_of (entries (without b.active t))) (reads_of os).list (own_older (look b.active t))) in
    least_after o.lasts o.recent o.installs s.lasts_are (own_reads o t)
    ∙ ap least_key
    ((λ i. keys_overwritten (s.recent_are i) (k.count_is i) (sym (reads_alike o b t k) i).list)
    ∙ sym (stale_alike b.installed os (oldest_read b) older))

-- ---- dumps
pub dump_alike : (o : OccEngine) (b : EngineState) → StandsFor o b → all_rows o.records ≡ dumped_rows b.kind b
dump_alike o b s = ap all_rows s.keeps.records_are ∙ ap (λ kind. dumped_rows kind b) s.keeps.kind_is

-- ---- the state after a call
pub stands_after : (o next : OccEngine) (b : EngineState) (t : ℕ) (op done : Op) → StandsFor o b → done ≡ op → StandsFor next (with_operation b t done) → StandsFor next (after_operation b t op)
stands_after o next b t op done s e n =
    subst (λ (b' : EngineState). StandsFor next b') (after_alike o b t op s) (subst (λ (p : Op). StandsFor next (with_operation b t p)) e n)
