-- For which states a plain engine stands after each call.
use Rattle.std.proofs.Common.{◌≡◌, ℕ, Bool, true, false, List, [], ◌∷◌, length, if◌then◌else◌, is_some, Option, None, Some, IsTrue, refl, sym, ap, ◌∙◌, true≢false}
use Rattle.std.specs.FinMap.{entries, get-empty}
use Rattle.std.specs.Ordering.{nat_cmp}
use Rattle.co_base.specs.declared.op.Op.{Op}
use Rattle.co_serial.specs.Records.{Records, with_changes}
use Rattle.co_serial.specs.SerialRun.{reply_to}
use Rattle.co_state.specs.declared.engine_state.EngineState.{EngineState}
use Rattle.co_state.specs.declared.engine_state.Operation.{Operation}
use Rattle.co_state.specs.declared.engine_state.Sets.{Sets}
use Rattle.co_state.specs.declared.engine_state.Vote.{Vote}
use Rattle.co_state.specs.Changes.{sets_of}
use Rattle.co_state.specs.Effects.{with_operation, after_cast, after_install, after_drop, install_vote, restored, undecided_changes}
use Rattle.co_state.specs.EngineState.{operations_in, operations_of, records_at, records_now, installed_records}
use Rattle.co_state.specs.LockRule.{lock_blocker, lock_holder, blocker_by}
use Rattle.co_state.specs.ReadRule.{stamp_after, snapshot_of, operation_reply}
use Rattle.co_state.specs.Table.{no_entries, look, put, without, holds, lesser}
use Rattle.co_state.proofs.Tables.{put-without}
use Rattle.co_pairs.specs.declared.prepared.Prepared.{Prepared}
use Rattle.co_engine.specs.declared.undecided.Undecided.{Undecided}
use Rattle.co_engine.specs.Calls.{may_operate, votes_of, vote_in}
use Rattle.co_engine.specs.Undecided.{with_vote, IsKept, changes_kept}
use Rattle.co_engine.proofs.Keeping.{kept_changes}
use Rattle.co_engine.proofs.Answering.{not_voted}
use Rattle.co_engine.proofs.Rolling.{kept_along, nothing_kept, none_mapped, sets_kept, own_kept, each_grown, each_cast, each_gone, each_installed, each_voted}
use Rattle.co_plain_engine.specs.declared.plain.PlainEngine.{PlainEngine}
use Rattle.co_plain_engine.specs.Plain.{StandsFor, voted_roll, own_operations, own_stamp, own_sets, own_records, own_holder, with_own}
use Rattle.co_plain_engine.proofs.Blocking.{active_holder, voted_holder}

-- ---- reading a state
pub operations_alike : (p : PlainEngine) (b : EngineState) (t : ℕ) → StandsFor p b → own_operations p t ≡ operations_of b t
operations_alike p b t s = ap (λ m. operations_in (look m t)) s.active_is

pub stamp_alike : (p : PlainEngine) (b : EngineState) (t : ℕ) → StandsFor p b → own_stamp p t ≡ snapshot_of b t
stamp_alike p b t s = λ i. stamp_after (s.kind_is i) (length (s.installed_is i)) (operations_alike p b t s i)

pub holder_alike : (p : PlainEngine) (b : EngineState) (t : ℕ) (op : Op) → StandsFor p b → own_holder p t op ≡ lock_holder b t op
holder_alike p b t op s = λ i. lesser
    (active_holder p.undecided b.active t op (λ u. (s.each u).sets_are) i)
    (voted_holder p.undecided b.voted t op (λ u. (s.each u).votes_are) i)

pub blocker_alike : (p : PlainEngine) (b : EngineState) (t : ℕ) (op : Op) → StandsFor p b → blocker_by p.kind (own_holder p t op) ≡ lock_blocker b t op
blocker_alike p b t op s = λ i. blocker_by (s.kind_is i) (holder_alike p b t op s i)

pub reply_alike : (p : PlainEngine) (b : EngineState) (t : ℕ) (op : Op) → StandsFor p b → IsTrue (may_operate b t) → reply_to (own_records p t) op ≡ operation_reply b t op
reply_alike p b t op s h =
    let sets : sets_of (operations_of b t) ≡ own_sets p t = own_kept p.undecided b t (s.each t) (not_voted b t h) in
    λ i. reply_to (with_changes (records_at (s.base_is i) (s.installed_is i) (stamp_alike p b t s i)) (sym sets i).writes) op

-- ---- an operation is added to its transaction
pub stands_with : (p : PlainEngine) (b : EngineState) (t : ℕ) (op : Op) → StandsFor p b → IsTrue (may_operate b t) → StandsFor (with_own p t op) (with_operation b t op)
stands_with p b t op s h = record {
  kind_is = s.kind_is;
  base_is = s.base_is;
  installed_is = s.installed_is;
  active_is = put-without p.active t _ ∙ (λ i. put (s.active_is i) t (record { op = op; stamp = stamp_alike p b t s i } ∷ operations_alike p b t s i));
  each = each_grown p.undecided b t op (snapshot_of b t) s.each (not_voted b t h);
}

-- ---- votes, commits and drops
pub stands_cast : (p : PlainEngine) (b : EngineState) (t coord count : ℕ) → StandsFor p b → IsTrue (holds b.active t)
    → StandsFor (record p { active = without p.active t; undecided = with_vote p.undecided t }) (after_cast b t coord count)
stands_cast p b t coord count s h = record {
  kind_is = s.kind_is;
  base_is = s.base_is;
  installed_is = s.installed_is;
  active_is = ap (λ m. without m t) s.active_is;
  each = each_cast p.undecided b t coord count s.each h;
}

pub stands_drop : (p : PlainEngine) (b : EngineState) (t : ℕ) → StandsFor p b → StandsFor (record p { active = without p.active t; undecided = without p.undecided t }) (after_drop b t)
stands_drop p b t s = record {
  kind_is = s.kind_is;
  base_is = s.base_is;
  installed_is = s.installed_is;
  active_is = ap (λ m. without m t) s.active_is;
  each = each_gone p.undecided b t s.each;
}

voted_flag : (voted : Bool) (e : Undecided) (sets : Sets) → Some sets ≡ (if voted then Some e.sets else None) → voted ≡ true
voted_flag true e sets is = refl
voted_flag false e sets is = absurd (let f : Some sets ≡ None = is in cc)

not_active : (e : Undecided) (os : Option (List Operation)) (vote : Vote) → IsKept (Some e) os (Some vote) → os ≡ None
not_active e os vote k = none_mapped sets_of os (k.sets_are ∙ ap (λ v. if v then None else Some e.sets) (voted_flag e.voted e vote.sets k.votes_are))

vote_kept : (e : Undecided) (os : Option (List Operation)) (vote : Vote) → IsKept (Some e) os (Some vote) → e.sets ≡ vote.sets
vote_kept e os vote k = sym (sets_kept (Some e) os (Some vote) k)

install_at : (p : PlainEngine) (b : EngineState) (t : ℕ) (e : Undecided) (o : Option Vote) → StandsFor p b → is_some o ≡ true → look b.voted t ≡ o → IsKept (Some e) (look b.active t) o
    → StandsFor (record p { installed = record { txn = t; writes = e.sets.writes } ∷ p.installed; undecided = without p.undecided t }) (install_vote b t o)
install_at p b t e None s h f k = absurd (true≢false (sym h))
install_at p b t e (Some vote) s h f k = record {
  kind_is = s.kind_is;
  base_is = s.base_is;
  installed_is = λ i. record { txn = t; writes = (vote_kept e (look b.active t) vote k i).writes } ∷ s.installed_is i;
  active_is = s.active_is;
  each = each_installed p.undecided b t s.each (not_active e (look b.active t) vote k);
}

pub stands_install : (p : PlainEngine) (b : EngineState) (t : ℕ) (e : Undecided) → StandsFor p b → IsTrue (holds b.voted t) → look p.undecided t ≡ Some e
    → StandsFor (record p { installed = record { txn = t; writes = e.sets.writes } ∷ p.installed; undecided = without p.undecided t }) (after_install b t)
stands_install p b t e s h is = install_at p b t e (look b.voted t) s h refl (kept_along is refl refl (s.each t))

absent_kept : (os : Option (List Operation)) (vote : Option Vote) → IsKept None os vote → is_some vote ≡ false
absent_kept os None k = refl
absent_kept os (Some vote) k = absurd (let f : Some vote.sets ≡ None = k.votes_are in cc)

-- a voted transaction is there
pub install_absent : (p : PlainEngine) (b : EngineState) (t : ℕ) {A : Type 0} → StandsFor p b → IsTrue (holds b.voted t) → look p.undecided t ≡ None → A
install_absent p b t s h is = absurd (true≢false (sym h ∙ absent_kept (look b.active t) (look b.voted t) (kept_along is refl refl (s.each t))))

-- ---- the start
voteds_at : (ps : List Prepared) (u : ℕ) → IsKept (look (voted_roll ps) u) (look (no_entries {X = List Operation}) u) (look (votes_of ps) u)
voteds_at [] u = kept_along (sym (get-empty nat_cmp u)) (sym (get-empty nat_cmp u)) (sym (get-empty nat_cmp u)) nothing_kept
voteds_at (q ∷ ps) u = each_voted (voted_roll ps) (no_entries {X = List Operation}) (votes_of ps) q.txn (vote_in q) (λ v. voteds_at ps v) (get-empty nat_cmp q.txn) u

pub stands_restored : (p : PlainEngine) (records : Records) (ps : List Prepared) → p.base ≡ records → p.installed ≡ [] → p.active ≡ no_entries → p.undecided ≡ voted_roll ps → StandsFor p (restored p.kind records (votes_of ps))
stands_restored p records ps base installed active undecided = record {
  kind_is = refl;
  base_is = base;
  installed_is = installed;
  active_is = active;
  each = λ u. kept_along (ap (λ m. look m u) (sym undecided)) refl refl (voteds_at ps u);
}

-- ---- dumps
pub records_alike : (p : PlainEngine) (b : EngineState) → StandsFor p b → records_now p.base p.installed ≡ installed_records b
records_alike p b s = λ i. records_now (s.base_is i) (s.installed_is i)

pub dump_alike : (p : PlainEngine) (b : EngineState) → StandsFor p b → changes_kept (entries p.undecided) ≡ undecided_changes b
dump_alike p b s = kept_changes p.undecided b s.each
