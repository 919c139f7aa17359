-- What a member writes is within its bounds, and what it would write next can be written.
use Rattle.std.proofs.Common.{◌≡◌, ◌≢◌, ◌⊎◌, inl, inr, ℕ, Bool, true, false, ◌==◌, ◌≤◌, if◌then◌else◌, List, [], ◌∷◌, ◌++◌, length, Option, None, Some, reverse, refl, sym, ap, ◌∙◌, subst, arith}
use Rattle.std.proofs.lemmas.Bool.Decides.{nat_tests}
use Rattle.std.specs.FinMap.{entries, entries_sorted, get-entries, keys}
use Rattle.std.specs.List.{AllByRecursion}
use Rattle.co_base.proofs.Ordered.{sorted_none}
use Rattle.co_base.specs.declared.head.Kind.{Kind}
use Rattle.co_base.specs.declared.node.Node.TheVariants as node
use Rattle.co_base.specs.declared.op.Op.{Op}
use Rattle.co_base.specs.Limits.{most_coordinators, most_members, most_operations}
use Rattle.co_message.specs.declared.answer.Answer.{Answer}
use Rattle.co_message.specs.declared.answer.Answer.TheVariants as answer
use Rattle.co_message.specs.declared.message.Message.{Message}
use Rattle.co_message.specs.declared.message.Message.TheVariants as message
use Rattle.co_record.specs.declared.record.Record.{Record}
use Rattle.co_record.specs.declared.record.Record.TheVariants as log
use Rattle.co_frame.specs.Gate.{batch_is_stable}
use Rattle.co_record.specs.Spelling.{IsWritable}
use Rattle.co_state.proofs.InOrder.{sorted-spans_of, ordered-changes_of, ordered-dumped_undos, length-spans_of, length-changes_of}
use Rattle.co_state.specs.declared.engine_state.Vote.{Vote}
use Rattle.co_state.specs.declared.verdict.Verdict.{Verdict}
use Rattle.co_state.specs.declared.verdict.Verdict.TheVariants.{LostOperations, StaleRead, HeldBy, VoteYes}
use Rattle.co_state.specs.Changes.{sets_of, spans_of, changes_of}
use Rattle.co_state.specs.Effects.{dumped_rows, dumped_undos}
use Rattle.co_state.specs.EngineState.{operations_of}
use Rattle.co_state.specs.LockRule.{lock_blocker}
use Rattle.co_state.specs.Table.{look, holds}
use Rattle.co_state.specs.VotingRule.{vote_of, kept_count}
use Rattle.co_plain.specs.declared.member_state.AskedMark.{AskedMark}
use Rattle.co_plain.specs.declared.member_state.MemberState.{MemberState}
use Rattle.co_plain.specs.declared.outcome.Outcome.{Outcome}
use Rattle.co_plain.specs.declared.outcome.Outcome.TheVariants.{Completes, StopsAt}
use Rattle.co_plain.specs.Numbers.{counted, next_generation, IsAmong}
use Rattle.co_plain.specs.LogWrite.{outcome_of, generation_of}
use Rattle.co_plain.specs.MemberView.{recovered_view, install_in, first_refused_at_member}
use Rattle.co_plain.specs.MemberStep.{says, standing_by, stopped_member, forced_by, force_member}
use Rattle.co_plain.specs.Member.{prepare_record, voted_state, installed_state, unless_blocked, member_op, vote_by, vote_on, with_mark, prepare_by, member_prepare, vote_where_asked, vote_again_by, member_vote, commit_by, abort_by, member_decide, timer_by, member_timer, ask_by, member_ask}
use Rattle.co_plain.specs.MemberLog.{prepares_onto, member_spare, stopped_fill, fill_by, close_by, checkpoint_by, member_checkpoint, restart_by, member_restart}
use Rattle.co_plain.specs.LocalCommit.{local_coord, local_commit_by, member_local_commit, local_abort_by, member_local_abort}
use Rattle.co_plain.specs.Opening.{Found, made, opened_member}
use Rattle.co_law_engine.proofs.YesTells.{yes_parts}
use Rattle.co_law_base.proofs.Lookups.{is_nothing, look_none, put_cases, without_cases}
use Rattle.co_law_base.proofs.ImageRules.{EachEntry, each_entry}
use Rattle.co_law_node.specs.WholeMembers.{IsWholeMember}
use Rattle.co_law_node.specs.Writable.{IsWithinBounds, IsWritableMember, MemberStaysWritable}
use Rattle.co_law_node.proofs.WholeMoves.{Whole}
use Rattle.co_law_node.proofs.MemberEvents.{few_kept, whole_operation, whole_local_commit, whole_local_abort, whole_prepare, whole_decision, whole_vote, whole_timer, whole_question, whole_crash, whole_restart, whole_arming, whole_disarmed, whole_opened}
use Rattle.co_law_node.proofs.MemberLaws.{as_kept}
use Rattle.co_law_node.proofs.WholeFilling.{checkpoints}

module _ (P : Record → Type 0) where
  -- of a list without its newest records
  pub all_older : (front rs : List Record) → AllByRecursion P (front ++ rs) → AllByRecursion P rs
  all_older [] rs b = b
  all_older (r ∷ front) rs b = all_older front rs b.1

  pub all_more : (front rs : List Record) → AllByRecursion P front → AllByRecursion P rs → AllByRecursion P (front ++ rs)
  all_more [] rs a b = b
  all_more (r ∷ front) rs a b = (a.0, all_more front rs a.1 b)

-- what can be written is within its bounds
pub in_bounds : (r : Record) → IsWritable r → IsWithinBounds r
in_bounds (log.Header a b) w = w
in_bounds (log.Prepare a b c d e) w = w
in_bounds (log.Commit a b) w = w
in_bounds (log.Abort a) w = w
in_bounds (log.End a) w = w
in_bounds (log.Checkpoint a b c) w = w.2

-- a commit that names no participants
pub alone_writable : (t : ℕ) → IsWritable (log.Commit t [])
alone_writable t = (omega arith, tt, sorted_none _)

abbrev pub Bounded : MemberState → Type 0
Bounded x = AllByRecursion IsWithinBounds (x.log.waiting ++ x.log.stable)

-- the votes that records tell were written so
vote_bounded : (rs : List Record) → AllByRecursion IsWithinBounds rs → (t : ℕ) (vote : Vote) → look (recovered_view rs).voted t ≡ Some vote →
    IsWithinBounds (prepare_record t vote.coord vote.count vote.sets)
vote_bounded [] b t vote e = is_nothing (sym (look_none t) ∙ e)
vote_bounded (log.Header x y ∷ rs) b t vote e = vote_bounded rs b.1 t vote e
vote_bounded (log.End u ∷ rs) b t vote e = vote_bounded rs b.1 t vote e
vote_bounded (log.Checkpoint x y z ∷ rs) b t vote e = is_nothing (sym (look_none t) ∙ e)
vote_bounded (log.Abort u ∷ rs) b t vote e = vote_bounded rs b.1 t vote (without_cases (recovered_view rs).voted u t vote e).1
vote_bounded (log.Commit u ms ∷ rs) b t vote e = by (vote_bounded rs b.1 t vote) (look (recovered_view rs).voted u) e
  where
    by : (look (recovered_view rs).voted t ≡ Some vote → IsWithinBounds (prepare_record t vote.coord vote.count vote.sets)) →
        (o : Option Vote) → look (install_in (recovered_view rs) u o).voted t ≡ Some vote → IsWithinBounds (prepare_record t vote.coord vote.count vote.sets)
    by rest None h = rest h
    by rest (Some w) h = rest (without_cases (recovered_view rs).voted u t vote h).1
vote_bounded (log.Prepare u coord count reads writes ∷ rs) b t vote e =
    by (vote_bounded rs b.1 t vote) (put_cases (recovered_view rs).voted u (record { coord = coord; count = count; sets = record { reads = reads; writes = writes } }) t vote e)
  where
    by : (look (recovered_view rs).voted t ≡ Some vote → IsWithinBounds (prepare_record t vote.coord vote.count vote.sets)) →
        ((u ≡ t) × (◌≡◌ {A = Vote} (record { coord = coord; count = count; sets = record { reads = reads; writes = writes } }) vote)) ⊎ ((u ≢ t) × (look (recovered_view rs).voted t ≡ Some vote)) →
        IsWithinBounds (prepare_record t vote.coord vote.count vote.sets)
    by rest (inl p) =
        subst (λ k. IsWithinBounds (prepare_record k vote.coord vote.count vote.sets)) p.0
        (subst (λ (z : Vote). IsWithinBounds (prepare_record u z.coord z.count z.sets)) p.1 b.0)
    by rest (inr p) = rest p.1

-- votes that are told again
prepares_bounded : (P : Record → Type 0) (es : List (ℕ × Vote)) (rs : List Record) → AllByRecursion P rs →
    EachEntry (λ u vote. P (prepare_record u vote.coord vote.count vote.sets)) es → AllByRecursion P (prepares_onto rs es)
prepares_bounded P [] rs b h = b
prepares_bounded P (e ∷ es) rs b h = prepares_bounded P es (prepare_record e.0 e.1.coord e.1.count e.1.sets ∷ rs) (h.0, b) h.1

-- however a forced write ends
forces_bounded : (m : ℕ) (next : MemberState) (batch : List Record) (a : Answer) (message : Option Message) → AllByRecursion IsWithinBounds batch → Bounded next →
    Bounded (force_member m next batch a message).state
forces_bounded m next batch a message h b = by (outcome_of next.log.armed 4)
  where
    all : AllByRecursion IsWithinBounds (batch ++ (next.log.waiting ++ next.log.stable))
    all = all_more IsWithinBounds batch (next.log.waiting ++ next.log.stable) h b

    stopped : (call : ℕ) (c : Bool) → Bounded (stopped_member m next call c batch).state
    stopped call true = all
    stopped call false = all_older IsWithinBounds next.log.waiting next.log.stable b

    by : (o : Outcome) → Bounded (forced_by m next batch a message o).state
    by Completes = all
    by (StopsAt call leaves) = stopped call (batch_is_stable call leaves)

-- a vote, where a yes can be written
votes_bounded : (x : MemberState) → Bounded x → (m t coord count : ℕ) →
    (vote_of x.engine t count ≡ VoteYes → IsWritable (prepare_record t coord count (sets_of (operations_of x.engine t)))) → Bounded (vote_on m x t coord count).state
votes_bounded x b m t coord count may = by (vote_of x.engine t count) refl
  where
    by : (v : Verdict) → vote_of x.engine t count ≡ v → Bounded (vote_by m x t coord count v).state
    by LostOperations e = b
    by (StaleRead key) e = b
    by (HeldBy k) e = b
    by VoteYes e =
        forces_bounded m (voted_state x t coord count) (prepare_record t coord count (sets_of (operations_of x.engine t)) ∷ []) answer.Yes (Some (message.Vote t m coord true)) (may e, tt) b

module _ (coords m : ℕ) (few : coords ≤ most_coordinators) (own : IsAmong m most_members) (x : MemberState) (w : Whole coords x) (b : Bounded x) where
  -- a yes counts what is kept, which is bounded
  yes_writable : (t coord count : ℕ) → IsAmong coord coords → 1 ≤ count → vote_of x.engine t count ≡ VoteYes →
      IsWritable (prepare_record t coord count (sets_of (operations_of x.engine t)))
  yes_writable t coord count among some granted =
      let os = operations_of x.engine t in
      let kept : length (operations_of x.engine t) ≡ count = (yes_parts x.engine t count granted).count in
      let most : length (operations_of x.engine t) ≤ most_operations = few_kept coords x w t in
      let reads : length (spans_of (operations_of x.engine t)) ≤ length (operations_of x.engine t) = length-spans_of os in
      let writes : length (changes_of (operations_of x.engine t)) ≤ length (operations_of x.engine t) = length-changes_of os in (
        (among.0, (let among' = among.1 in omega (arith, among', few))),
        (some, omega (arith, kept, most)),
        omega (arith, reads, most),
        sorted-spans_of os,
        omega (arith, writes, most),
        ordered-changes_of os,
      )

  -- a count within the bounds stands in 16 bits
  alone_may : (t carried : ℕ) → 1 ≤ carried → vote_of x.engine t carried ≡ VoteYes → IsWritable (prepare_record t local_coord (counted carried) (sets_of (operations_of x.engine t)))
  alone_may t carried some granted =
      let kept : length (operations_of x.engine t) ≡ carried = (yes_parts x.engine t carried granted).count in
      let most : length (operations_of x.engine t) ≤ most_operations = few_kept coords x w t in
      let small : carried ≤ most_operations = omega (arith, kept, most) in
      subst (λ n. IsWritable (prepare_record t local_coord n (sets_of (operations_of x.engine t)))) (sym (as_counted carried small))
      (yes_fits t carried some granted)
    where
      as_counted : (n : ℕ) → n ≤ most_operations → counted n ≡ n
      as_counted n l = omega (arith, l)

      yes_fits : (t carried : ℕ) → 1 ≤ carried → vote_of x.engine t carried ≡ VoteYes → IsWritable (prepare_record t local_coord carried (sets_of (operations_of x.engine t)))
      yes_fits t carried some granted =
          let os = operations_of x.engine t in
          let kept : length (operations_of x.engine t) ≡ carried = (yes_parts x.engine t carried granted).count in
          let most : length (operations_of x.engine t) ≤ most_operations = few_kept coords x w t in
          let reads : length (spans_of (operations_of x.engine t)) ≤ length (operations_of x.engine t) = length-spans_of os in
          let writes : length (changes_of (operations_of x.engine t)) ≤ length (operations_of x.engine t) = length-changes_of os in (
            (omega arith, omega arith),
            (some, omega (arith, kept, most)),
            omega (arith, reads, most),
            sorted-spans_of os,
            omega (arith, writes, most),
            ordered-changes_of os,
          )

  voted_bounded : (u : ℕ) (vote : Vote) → look x.engine.voted u ≡ Some vote → IsWritable (prepare_record u vote.coord vote.count vote.sets)
  voted_bounded u vote e = vote_bounded (x.log.waiting ++ x.log.stable) b u vote (ap (λ v. look v.voted u) w.logged ∙ e)

  abbrev first_two : ℕ → List Record
  first_two generation =
      log.Checkpoint (dumped_rows x.engine.kind x.engine) (dumped_undos x.engine.kind x.engine) (keys x.committed) ∷ log.Header (node.Member m) generation ∷ []

  spare_of : (P : Record → Type 0) → ((r : Record) → IsWritable r → P r) → (generation : ℕ) →
      P (log.Checkpoint (dumped_rows x.engine.kind x.engine) (dumped_undos x.engine.kind x.engine) (keys x.committed)) → AllByRecursion P (member_spare m x generation)
  spare_of P of generation first =
      prepares_bounded P (entries x.engine.voted) (first_two generation) (first, (of (log.Header (node.Member m) generation) own, tt))
      (each_entry (λ u vote. P (prepare_record u vote.coord vote.count vote.sets)) (entries x.engine.voted) (entries_sorted x.engine.voted)
      (λ u vote g. of (prepare_record u vote.coord vote.count vote.sets) (voted_bounded u vote (get-entries x.engine.voted u ∙ g))))

  spare_bounded : (generation : ℕ) → AllByRecursion IsWithinBounds (member_spare m x generation)
  spare_bounded generation = spare_of IsWithinBounds in_bounds generation (ordered-dumped_undos x.engine.kind x.engine)

  pub member_writable : IsWritableMember coords m x
  member_writable =
      record {
        records = b;
        vote = yes_writable;
        alone = λ t carried some granted. (alone_writable t, (alone_may t carried some granted, tt));
        spare = λ generation fits. spare_of IsWritable (λ r h. h) generation (fits.rows, fits.undos, ordered-dumped_undos x.engine.kind x.engine, fits.committed);
        spare_within = spare_bounded;
      }

  bounded_operation : (t carried : ℕ) (op : Op) → Bounded (member_op x t carried op).state
  bounded_operation t carried op = by (kept_count x.engine t == carried) (carried == most_operations) (lock_blocker x.engine t op)
    where
      by : (kept most : Bool) (o : Option ℕ) →
          Bounded (if kept then (if most then says x answer.TooMany else unless_blocked x t op o) else says x (answer.Gone (counted (kept_count x.engine t)) (counted carried))).state
      by false most o = b
      by true true o = b
      by true false (Some k) = b
      by true false None = b

  bounded_local_commit : (t carried : ℕ) → Bounded (member_local_commit m x t carried).state
  bounded_local_commit t carried = by (carried == 0) refl
    where
      granted : 1 ≤ carried → (v : Verdict) → vote_of x.engine t carried ≡ v → Bounded (local_commit_by m x t carried v).state
      granted some LostOperations e = b
      granted some (StaleRead key) e = b
      granted some (HeldBy k) e = b
      granted some VoteYes e =
          forces_bounded m (installed_state (voted_state x t local_coord (counted carried)) t)
          (log.Commit t [] ∷ prepare_record t local_coord (counted carried) (sets_of (operations_of x.engine t)) ∷ []) answer.Committed None
          (alone_writable t, (alone_may t carried some e, tt)) b

      by : (c : Bool) → (carried == 0) ≡ c → Bounded (if c then says x answer.Absent else local_commit_by m x t carried (vote_of x.engine t carried)).state
      by true e = b
      by false e = granted (some_of carried e) (vote_of x.engine t carried) refl
        where
          some_of : (n : ℕ) → (n == 0) ≡ false → 1 ≤ n
          some_of n h = grind (arith, nat_tests, h)

  bounded_local_abort : (t : ℕ) → Bounded (member_local_abort x t).state
  bounded_local_abort t = by (holds x.engine.active t) (holds x.engine.voted t) (holds x.committed t)
    where
      by : (a v c : Bool) → Bounded (local_abort_by x t (standing_by a v c)).state
      by true v c = b
      by false true c = b
      by false false true = b
      by false false false = b

  bounded_prepare : (t coord count : ℕ) → IsAmong coord coords → 1 ≤ count → Bounded (member_prepare m x t coord count).state
  bounded_prepare t coord count among some = by (holds x.engine.active t) (holds x.engine.voted t) (holds x.committed t)
    where
      by : (a v c : Bool) → Bounded (prepare_by m x t coord count (standing_by a v c)).state
      by true v c = votes_bounded (with_mark x t coord count) b m t coord count (yes_writable t coord count among some)
      by false true c = b
      by false false true = b
      by false false false = votes_bounded x b m t coord count (yes_writable t coord count among some)

  bounded_decision : (t coord : ℕ) (commit : Bool) → Bounded (member_decide m x t coord commit).state
  bounded_decision t coord true = by (holds x.engine.active t) (holds x.engine.voted t) (holds x.committed t)
    where
      by : (a v c : Bool) → Bounded (commit_by m x t coord (standing_by a v c)).state
      by true v c = b
      by false true c = forces_bounded m (installed_state x t) (log.Commit t [] ∷ []) answer.Installed (Some (message.Ack t m coord)) (alone_writable t, tt) b
      by false false true = b
      by false false false = b
  bounded_decision t coord false = by (holds x.engine.active t) (holds x.engine.voted t) (holds x.committed t)
    where
      by : (a v c : Bool) → Bounded (abort_by x t (standing_by a v c)).state
      by true v c = b
      by false true c = (tt, b)
      by false false true = b
      by false false false = b

  bounded_vote : (t : ℕ) → Bounded (member_vote m x t).state
  bounded_vote t = by (holds x.engine.active t) (holds x.engine.voted t) (holds x.committed t)
    where
      asked : (o : Option AskedMark) → look x.asked t ≡ o → Bounded (vote_where_asked m x t o).state
      asked None e = b
      asked (Some mark) e =
          let q = w.keeps.marked t mark e in votes_bounded x b m t mark.coord mark.count (yes_writable t mark.coord mark.count q.1 q.2)

      by : (a v c : Bool) → Bounded (vote_again_by m x t (standing_by a v c)).state
      by true v c = asked (look x.asked t) refl
      by false true c = b
      by false false true = b
      by false false false = b

  bounded_timer : (t : ℕ) → Bounded (member_timer x t).state
  bounded_timer t = by (holds x.engine.active t) (holds x.engine.voted t) (holds x.committed t)
    where
      by : (a v c : Bool) → Bounded (timer_by x t (standing_by a v c)).state
      by true v c = b
      by false true c = b
      by false false true = b
      by false false false = b

  bounded_question : (t : ℕ) → Bounded (member_ask m x t).state
  bounded_question t = by (holds x.engine.active t) (holds x.engine.voted t) (holds x.committed t)
    where
      by : (a v c : Bool) → Bounded (ask_by m x t (standing_by a v c)).state
      by true v c = b
      by false true c = b
      by false false true = b
      by false false false = b

  bounded_stable : AllByRecursion IsWithinBounds x.log.stable
  bounded_stable = all_older IsWithinBounds x.log.waiting x.log.stable b

  bounded_restart : Bounded (member_restart x).state
  bounded_restart = by x.up
    where
      by : (c : Bool) → Bounded (restart_by x c).state
      by true = b
      by false = b

  bounded_checkpoint : Bounded (member_checkpoint m x).state
  bounded_checkpoint = by x.log.spare_closed
    where
      stopped : (generation call : ℕ) (c : Bool) → Bounded (stopped_fill m x generation call c).state
      stopped generation call true = spare_bounded generation
      stopped generation call false = bounded_stable

      fills : (generation : ℕ) (o : Outcome) → Bounded (fill_by m x generation o).state
      fills generation Completes = spare_bounded generation
      fills generation (StopsAt call leaves) = stopped generation call (batch_is_stable call leaves)

      closes : (o : Outcome) → Bounded (close_by x o).state
      closes Completes = b
      closes (StopsAt call leaves) = bounded_stable

      by : (c : Bool) → Bounded (checkpoint_by m x c).state
      by false = closes (outcome_of x.log.armed 2)
      by true = fills (next_generation (generation_of x.log.stable)) (outcome_of x.log.armed 4)

-- each event
module _ (coords m : ℕ) (few : coords ≤ most_coordinators) (own : IsAmong m most_members) (x : MemberState) (w : Whole coords x) (b : Bounded x) where
  next : (y : MemberState) → Whole coords y → Bounded y → IsWritableMember coords m y
  next = member_writable coords m few own

  pub member_stays_writable : MemberStaysWritable coords m x
  member_stays_writable =
      record {
        operation = λ t carried op u n. next _ (whole_operation coords x w t carried op u n) (bounded_operation coords m few own x w b t carried op);
        local_commit = λ t carried some u n. next _ (whole_local_commit coords x w m t carried some u n) (bounded_local_commit coords m few own x w b t carried);
        local_abort = λ t u. next _ (whole_local_abort coords x w t u) (bounded_local_abort coords m few own x w b t);
        prepare = λ t coord count among some u. next _ (whole_prepare coords x w m t coord count among some u) (bounded_prepare coords m few own x w b t coord count among some);
        decision = λ t coord commit u. next _ (whole_decision coords x w m t coord commit u) (bounded_decision coords m few own x w b t coord commit);
        vote = λ t u. next _ (whole_vote coords x w m t u) (bounded_vote coords m few own x w b t);
        timer = λ t u. next _ (whole_timer coords x w t u) (bounded_timer coords m few own x w b t);
        question = λ t. next _ (whole_question coords x w m t) (bounded_question coords m few own x w b t);
        checkpoint = λ u. next _ (checkpoints coords m x w u) (bounded_checkpoint coords m few own x w b);
        crash = next _ (whole_crash coords x w) (bounded_stable coords m few own x w b);
        restart = next _ (whole_restart coords x w) (bounded_restart coords m few own x w b);
        armed = λ call leaves u. next _ (whole_arming coords x w call leaves u) b;
        disarmed = next _ (whole_disarmed coords x w) b;
      }

-- a member that is opened over records within their bounds
opened_bounded : (m : ℕ) → IsAmong m most_members → (rs : List Record) → AllByRecursion IsWithinBounds rs → AllByRecursion IsWithinBounds (made (node.Member m) rs)
opened_bounded m own [] b = (own, tt)
opened_bounded m own (r ∷ rs) b = b

-- what is told of a member that is whole and writable is what the induction keeps
pub stays_writable : (coords m : ℕ) (x : MemberState) → coords ≤ most_coordinators → IsAmong m most_members → IsWholeMember coords x → IsWritableMember coords m x →
    MemberStaysWritable coords m x
stays_writable coords m x few own whole f = member_stays_writable coords m few own x (as_kept coords x whole) f.records

pub opened_writable : (coords : ℕ) (kinds : List Kind) (m : ℕ) (found : Found) → coords ≤ most_coordinators → IsAmong m most_members →
    first_refused_at_member coords (reverse found.records) ≡ None → AllByRecursion IsWithinBounds found.records → IsWritableMember coords m (opened_member kinds m found)
opened_writable coords kinds m found few own allowed b =
    member_writable coords m few own (opened_member kinds m found) (whole_opened coords kinds m found allowed) (opened_bounded m own found.records b)
