-- What a coordinator writes can be written, and so can what it would write next.
use Rattle.std.proofs.Common.{◌≡◌, ◌≢◌, ◌⊎◌, inl, inr, ℕ, suc, Bool, true, false, not, ◌&&◌, ◌+◌, ◌≤◌, nat_le, if◌then◌else◌, List, [], ◌∷◌, ◌++◌, length, reverse, Option, None, Some, refl, sym, ◌∙◌, subst, arith}
use Rattle.std.proofs.lemmas.Bool.{and_parts}
use Rattle.std.proofs.lemmas.Bool.Decides.{nat_tests}
use Rattle.std.specs.FinMap.{entries, entries_sorted, get-entries}
use Rattle.std.specs.List.{AllByRecursion}
use Rattle.std.specs.List.Sorted.{IsStrictlySortedBy}
use Rattle.std.specs.Ordering.{nat_cmp}
use Rattle.std.specs.declared.cmp.Ordering.TheVariants.{Less}
use Rattle.co_base.specs.Order.{IsAscending}
use Rattle.co_base.specs.declared.node.Node.TheVariants as node
use Rattle.co_base.specs.declared.part.Part.{Part}
use Rattle.co_base.specs.Limits.{most_coordinators, most_members}
use Rattle.co_message.specs.declared.answer.Answer.{Answer}
use Rattle.co_message.specs.declared.answer.Answer.TheVariants as answer
use Rattle.co_message.specs.declared.answer.Cause.TheVariants as cause
use Rattle.co_message.specs.declared.message.Message.{Message}
use Rattle.co_record.specs.declared.record.Record.{Record}
use Rattle.co_record.specs.declared.record.Record.TheVariants as log
use Rattle.co_frame.specs.Gate.{batch_is_stable, closes_spare}
use Rattle.co_record.specs.Spelling.{IsWritable, IsMember}
use Rattle.co_state.specs.Table.{look, put, without}
use Rattle.co_plain.specs.declared.coord_state.CoordState.{CoordState}
use Rattle.co_plain.specs.declared.coord_state.Entry.{Entry}
use Rattle.co_plain.specs.declared.coord_state.Entry.TheVariants as entry
use Rattle.co_plain.specs.declared.log_state.LogState.{LogState}
use Rattle.co_plain.specs.declared.outcome.Outcome.{Outcome}
use Rattle.co_plain.specs.declared.outcome.Outcome.TheVariants.{Completes, StopsAt}
use Rattle.co_plain.specs.Numbers.{first_lacking, has_number, next_generation, IsAmong}
use Rattle.co_plain.specs.LogWrite.{outcome_of, with_batch, with_filled_spare, with_stop, generation_of}
use Rattle.co_plain.specs.CoordView.{recovered_commits, all_up_to, first_refused_at_coord}
use Rattle.co_plain.specs.CoordStep.{coord_says, with_coord_log, with_table, members_of, has_part, coord_down, stopped_coord, coord_forced_by, force_coord}
use Rattle.co_plain.specs.Coordinator.{ask_commit, commit_entry, coord_commit, aborts, abort_entry, coord_abort, waits, decisions_to, decided_by, yes_entry, no_entry, coord_vote, ask_entry, coord_ask, ended_by, ack_entry, coord_ack, timer_entry, coord_timer, resend_entry, coord_resend}
use Rattle.co_plain.specs.CoordLog.{commit_onto, commits_onto, coord_spare, coord_stopped_fill, coord_fill_by, coord_close_by, coord_checkpoint_by, coord_checkpoint, coord_restart_by, coord_restart}
use Rattle.co_plain.specs.Opening.{Found, made, opened_coord}
use Rattle.co_plain.specs.SoundLogs.{unended_in}
use Rattle.co_law_base.proofs.Lookups.{is_nothing, look_none, put_cases, without_cases}
use Rattle.co_law_base.proofs.Commits.{commit_cases, from_cases}
use Rattle.co_law_base.proofs.ImageRules.{EachEntry, each_entry}
use Rattle.co_law_node.specs.WholeCoords.{FitsRecords, IsWholeCoord}
use Rattle.co_law_node.specs.Writable.{IsWritableCoord, CoordStaysWritable}
use Rattle.co_law_node.proofs.WholeTables.{WholeTable, coord_checkpoints}
use Rattle.co_law_node.proofs.CoordEvents.{whole_begin, whole_commit, whole_abort, whole_coord_vote, whole_coord_question, whole_acknowledgement, whole_coord_timer, whole_resending, whole_coord_crash, whole_coord_restart, whole_coord_arming, whole_coord_disarmed, whole_coord_opened}
use Rattle.co_law_node.proofs.CoordLaws.{coord_as_kept}
use Rattle.co_law_node.proofs.WritableMembers.{all_older, all_more, alone_writable}

-- ---- participants

-- ascending numbers between two bounds are no more than there are between them
few_between : (low high : ℕ) (ms : List ℕ) → low ≤ suc high → IsAscending ms → AllByRecursion (λ m. (low ≤ m) × (m ≤ high)) ms → length ms + low ≤ suc high
unfolding IsStrictlySortedBy
few_between low high [] l a h = omega (arith, l)
few_between low high (m ∷ ms) l a h =
    let rest = few_between (suc m) high ms (let up = h.0.1 in omega (arith, up)) a.1 (raised ms a.0 h.1) in
    let down = h.0.0 in omega (arith, rest, down)
  where
    above : (k : ℕ) → nat_cmp m k ≡ Less → suc m ≤ k
    above k e = grind (arith, nat_tests, e)

    raised : (ks : List ℕ) → AllByRecursion (λ k. nat_cmp m k ≡ Less) ks → AllByRecursion (λ k. (low ≤ k) × (k ≤ high)) ks → AllByRecursion (λ k. (suc m ≤ k) × (k ≤ high)) ks
    raised [] a h = tt
    raised (k ∷ ks) a h = ((above k a.0, h.0.1), raised ks a.1 h.1)

members_up : (members : ℕ) (ms : List ℕ) → members ≤ most_members → all_up_to members ms ≡ true → AllByRecursion IsMember ms
members_up members [] few h = tt
members_up members (m ∷ ms) few h =
    let p = and_parts _ _ h in
    let q = and_parts _ _ p.0 in
    ((low m q.0, high m q.1), members_up members ms few p.1)
  where
    low : (k : ℕ) → nat_le 1 k ≡ true → 1 ≤ k
    low k e = grind (arith, nat_tests, e)

    high : (k : ℕ) → nat_le k members ≡ true → k ≤ most_members
    high k e = let l : k ≤ members = grind (arith, nat_tests, e) in omega (arith, l, few)

-- a commit that names members, ascending
pub names_writable : (members t : ℕ) (ms : List ℕ) → members ≤ most_members → all_up_to members ms ≡ true → IsAscending ms → IsWritable (log.Commit t ms)
names_writable members t ms few up a =
    let each = members_up members ms few up in
    let short = few_between 1 most_members ms (omega arith) a each in
    (omega (arith, short), each, a)

-- ---- records and the table
pub record BoundedCoord (y : CoordState) : Type 0 where
  pub records : AllByRecursion IsWritable (y.log.waiting ++ y.log.stable)
  pub collecting : (t : ℕ) (parts : List Part) (yeses : List ℕ) → look y.table t ≡ Some (entry.Collecting parts yeses) → IsAscending (members_of parts)

-- the commits that records tell were written so
commit_writable : (rs : List Record) → AllByRecursion IsWritable rs → (t : ℕ) (ms : List ℕ) → unended_in rs t ≡ Some ms → IsWritable (log.Commit t ms)
commit_writable [] b t ms e = is_nothing (sym (look_none t) ∙ e)
commit_writable (log.Header x y ∷ rs) b t ms e = commit_writable rs b.1 t ms e
commit_writable (log.Prepare x y z u v ∷ rs) b t ms e = commit_writable rs b.1 t ms e
commit_writable (log.Abort x ∷ rs) b t ms e = commit_writable rs b.1 t ms e
commit_writable (log.Checkpoint x y z ∷ rs) b t ms e = commit_writable rs b.1 t ms e
commit_writable (log.End u ∷ rs) b t ms e = commit_writable rs b.1 t ms (without_cases (recovered_commits rs).unended u t ms e).1
commit_writable (log.Commit u ns ∷ rs) b t ms e = by (commit_writable rs b.1 t ms) (commit_cases rs u ns t ms e)
  where
    by : (unended_in rs t ≡ Some ms → IsWritable (log.Commit t ms)) → ((u ≡ t) × (ns ≡ ms) × (ns ≢ [])) ⊎ (unended_in rs t ≡ Some ms) → IsWritable (log.Commit t ms)
    by rest (inl p) = subst (λ k. IsWritable (log.Commit t k)) p.1 b.0
    by rest (inr k) = rest k

-- what is down has commits alone
down_bounded : (l : LogState) → AllByRecursion IsWritable l.stable → BoundedCoord (coord_down l)
down_bounded l b =
    record {
      records = b;
      collecting = λ t parts yeses e. by t parts yeses (from_cases (recovered_commits l.stable).unended t (entry.Collecting parts yeses) e);
    }
  where
    by : (t : ℕ) (parts : List Part) (yeses : List ℕ) →
        (ms : List ℕ) × (look (recovered_commits l.stable).unended t ≡ Some ms) × (entry.Committed ms [] ≡ entry.Collecting parts yeses) → IsAscending (members_of parts)
    by t parts yeses p = absurd (let z : entry.Committed p.0 [] ≡ entry.Collecting parts yeses = p.2 in cc)

-- however a forced write ends
coord_forces_bounded : (c : ℕ) (next : CoordState) (batch : List Record) (a : Answer) (messages : List Message) → AllByRecursion IsWritable batch → BoundedCoord next →
    BoundedCoord (force_coord c next batch a messages).state
coord_forces_bounded c next batch a messages h b = by (outcome_of next.log.armed 4)
  where
    all : AllByRecursion IsWritable (batch ++ (next.log.waiting ++ next.log.stable))
    all = all_more IsWritable batch (next.log.waiting ++ next.log.stable) h b.records

    stopped : (call : ℕ) (k : Bool) → BoundedCoord (stopped_coord c next call k batch).state
    stopped call true = down_bounded (with_batch next.log batch) all
    stopped call false = down_bounded next.log (all_older IsWritable next.log.waiting next.log.stable b.records)

    by : (o : Outcome) → BoundedCoord (coord_forced_by c next batch a messages o).state
    by Completes = record { records = all; collecting = b.collecting }
    by (StopsAt call leaves) = stopped call (batch_is_stable call leaves)

abbrev AsAscending : Entry → Type 0
AsAscending entry.Idle = Unit {0}
AsAscending (entry.Collecting parts yeses) = IsAscending (members_of parts)
AsAscending (entry.Committed ms acks) = Unit {0}

module _ (y : CoordState) (b : BoundedCoord y) where
  -- an entry is laid in
  lays : (t : ℕ) (e : Entry) → AsAscending e → BoundedCoord (with_table y (put y.table t e))
  lays t e new =
      record { records = b.records; collecting = λ u parts yeses h. by u parts yeses (put_cases y.table t e u (entry.Collecting parts yeses) h) }
    where
      by : (u : ℕ) (parts : List Part) (yeses : List ℕ) →
          ((t ≡ u) × (e ≡ entry.Collecting parts yeses)) ⊎ ((t ≢ u) × (look y.table u ≡ Some (entry.Collecting parts yeses))) → IsAscending (members_of parts)
      by u parts yeses (inl p) = subst AsAscending p.1 new
      by u parts yeses (inr p) = b.collecting u parts yeses p.1

  -- an entry is taken out
  takes : (t : ℕ) → BoundedCoord (with_table y (without y.table t))
  takes t = record { records = b.records; collecting = λ u parts yeses h. b.collecting u parts yeses (without_cases y.table t u (entry.Collecting parts yeses) h).1 }

module _ (members c : ℕ) (few : members ≤ most_members) (own : IsAmong c most_coordinators) (y : CoordState) (w : WholeTable members y) (b : BoundedCoord y) where
  decision_writable : (t : ℕ) (parts : List Part) (yeses : List ℕ) → look y.table t ≡ Some (entry.Collecting parts yeses) → IsWritable (log.Commit t (members_of parts))
  decision_writable t parts yeses e = names_writable members t (members_of parts) few (w.table.fits t (entry.Collecting parts yeses) e).1.1 (b.collecting t parts yeses e)

  -- commits that are told again
  commits_writable : (es : List (ℕ × Entry)) (rs : List Record) → AllByRecursion IsWritable rs →
      EachEntry (λ u x. FitsRecords members (y.log.waiting ++ y.log.stable) u x) es → AllByRecursion IsWritable (commits_onto rs es)
  commits_writable [] rs r h = r
  commits_writable (e ∷ es) rs r h = by (λ qs q. commits_writable es qs q h.1) e.1 h.0
    where
      by : ((qs : List Record) → AllByRecursion IsWritable qs → AllByRecursion IsWritable (commits_onto qs es)) →
          (x : Entry) → FitsRecords members (y.log.waiting ++ y.log.stable) e.0 x → AllByRecursion IsWritable (commits_onto (commit_onto rs e.0 x) es)
      by rest entry.Idle p = rest rs r
      by rest (entry.Collecting parts yeses) p = rest rs r
      by rest (entry.Committed ms acks) p = rest (log.Commit e.0 ms ∷ rs) (commit_writable (y.log.waiting ++ y.log.stable) b.records e.0 ms p, r)

  spare_writable : (generation : ℕ) → AllByRecursion IsWritable (coord_spare c y generation)
  spare_writable generation =
      commits_writable (entries y.table) (log.Header (node.Coord c) generation ∷ []) (own, tt)
      (each_entry (λ u x. FitsRecords members (y.log.waiting ++ y.log.stable) u x) (entries y.table) (entries_sorted y.table) (λ u x g. w.table.fits u x (get-entries y.table u ∙ g)))

  pub coord_writable : IsWritableCoord c y
  coord_writable = record { records = b.records; decision = decision_writable; spare = spare_writable }

  bounded_commit : (t : ℕ) (parts : List Part) → IsAscending (members_of parts) → BoundedCoord (coord_commit c y t parts).state
  bounded_commit t parts a = by (look y.table t)
    where
      asks : (ps : List Part) → IsAscending (members_of ps) → BoundedCoord (ask_commit c y t ps).state
      asks [] up = coord_forces_bounded c (with_table y (without y.table t)) (log.Commit t [] ∷ []) answer.Committed [] (alone_writable t, tt) (takes y b t)
      asks (p ∷ ps) up = lays y b t (entry.Collecting (p ∷ ps) []) up

      by : (o : Option Entry) → BoundedCoord (commit_entry c y t parts o).state
      by None = b
      by (Some entry.Idle) = asks parts a
      by (Some (entry.Collecting ps yeses)) = b
      by (Some (entry.Committed ms acks)) = b

  bounded_abort : (t : ℕ) (parts : List Part) → BoundedCoord (coord_abort c y t parts).state
  bounded_abort t parts = by (look y.table t)
    where
      by : (o : Option Entry) → BoundedCoord (abort_entry c y t parts o).state
      by None = b
      by (Some entry.Idle) = takes y b t
      by (Some (entry.Collecting ps yeses)) = b
      by (Some (entry.Committed ms acks)) = b

  bounded_vote : (t m : ℕ) (granted : Bool) → BoundedCoord (coord_vote c y t m granted).state
  bounded_vote t m true = by (look y.table t) refl
    where
      counts : (parts : List Part) (yeses : List ℕ) (lacking : Option ℕ) → IsAscending (members_of parts) → IsWritable (log.Commit t (members_of parts)) → BoundedCoord (decided_by c y t parts yeses lacking).state
      counts parts yeses (Some k) up can = lays y b t (entry.Collecting parts yeses) up
      counts parts yeses None up can =
          coord_forces_bounded c (with_table y (put y.table t (entry.Committed (members_of parts) []))) (log.Commit t (members_of parts) ∷ []) answer.Committed
          (decisions_to c t true (members_of parts)) (can, tt) (lays y b t (entry.Committed (members_of parts) []) tt)

      counted : (parts : List Part) (yeses : List ℕ) → IsAscending (members_of parts) → IsWritable (log.Commit t (members_of parts)) → (k : Bool) →
          BoundedCoord (if k then decided_by c y t parts (m ∷ yeses) (first_lacking (members_of parts) (m ∷ yeses)) else waits y parts yeses).state
      counted parts yeses up can true = counts parts (m ∷ yeses) (first_lacking (members_of parts) (m ∷ yeses)) up can
      counted parts yeses up can false = b

      by : (o : Option Entry) → look y.table t ≡ o → BoundedCoord (yes_entry c y t m o).state
      by None e = b
      by (Some entry.Idle) e = b
      by (Some (entry.Collecting parts yeses)) e = counted parts yeses (b.collecting t parts yeses e) (decision_writable t parts yeses e) (has_part parts m && not (has_number yeses m))
      by (Some (entry.Committed ms acks)) e = b
  bounded_vote t m false = by (look y.table t)
    where
      counted : (parts : List Part) (yeses : List ℕ) (k : Bool) → BoundedCoord (if k then aborts c y t cause.Vote parts else waits y parts yeses).state
      counted parts yeses true = takes y b t
      counted parts yeses false = b

      by : (o : Option Entry) → BoundedCoord (no_entry c y t m o).state
      by None = b
      by (Some entry.Idle) = b
      by (Some (entry.Collecting parts yeses)) = counted parts yeses (has_part parts m)
      by (Some (entry.Committed ms acks)) = b

  bounded_question : (t m : ℕ) → BoundedCoord (coord_ask c y t m).state
  bounded_question t m = by (look y.table t)
    where
      by : (o : Option Entry) → BoundedCoord (ask_entry c y t m o).state
      by None = b
      by (Some entry.Idle) = b
      by (Some (entry.Collecting parts yeses)) = b
      by (Some (entry.Committed ms acks)) = b

  bounded_acknowledgement : (t m : ℕ) → BoundedCoord (coord_ack y t m).state
  bounded_acknowledgement t m = by (look y.table t)
    where
      ended : (ms acks : List ℕ) (lacking : Option ℕ) → BoundedCoord (ended_by y t ms acks lacking).state
      ended ms acks (Some k) = lays y b t (entry.Committed ms acks) tt
      ended ms acks None = record { records = (tt, b.records); collecting = (takes y b t).collecting }

      counted : (ms acks : List ℕ) (k : Bool) → BoundedCoord (if k then ended_by y t ms (m ∷ acks) (first_lacking ms (m ∷ acks)) else coord_says y answer.Decided).state
      counted ms acks true = ended ms (m ∷ acks) (first_lacking ms (m ∷ acks))
      counted ms acks false = b

      by : (o : Option Entry) → BoundedCoord (ack_entry y t m o).state
      by None = b
      by (Some entry.Idle) = b
      by (Some (entry.Collecting parts yeses)) = b
      by (Some (entry.Committed ms acks)) = counted ms acks (has_number ms m && not (has_number acks m))

  bounded_timer : (t : ℕ) → BoundedCoord (coord_timer c y t).state
  bounded_timer t = by (look y.table t)
    where
      by : (o : Option Entry) → BoundedCoord (timer_entry c y t o).state
      by None = b
      by (Some entry.Idle) = takes y b t
      by (Some (entry.Collecting parts yeses)) = takes y b t
      by (Some (entry.Committed ms acks)) = b

  bounded_resending : (t : ℕ) → BoundedCoord (coord_resend c y t).state
  bounded_resending t = by (look y.table t)
    where
      by : (o : Option Entry) → BoundedCoord (resend_entry c y t o).state
      by None = b
      by (Some entry.Idle) = b
      by (Some (entry.Collecting parts yeses)) = b
      by (Some (entry.Committed ms acks)) = b

  bounded_stable : AllByRecursion IsWritable y.log.stable
  bounded_stable = all_older IsWritable y.log.waiting y.log.stable b.records

  relogged : (up : Bool) (l : LogState) → AllByRecursion IsWritable (l.waiting ++ l.stable) → BoundedCoord (record { up = up; table = y.table; log = l })
  relogged up l r = record { records = r; collecting = b.collecting }

  bounded_restart : BoundedCoord (coord_restart y).state
  bounded_restart = by y.up
    where
      by : (k : Bool) → BoundedCoord (coord_restart_by y k).state
      by true = b
      by false = relogged true y.log b.records

  bounded_checkpoint : BoundedCoord (coord_checkpoint c y).state
  bounded_checkpoint = by y.log.spare_closed
    where
      stopped : (generation call : ℕ) (k : Bool) → BoundedCoord (coord_stopped_fill c y generation call k).state
      stopped generation call true = down_bounded (with_filled_spare y.log (coord_spare c y generation)) (spare_writable generation)
      stopped generation call false = down_bounded y.log bounded_stable

      fills : (generation : ℕ) (o : Outcome) → BoundedCoord (coord_fill_by c y generation o).state
      fills generation Completes = relogged y.up (with_filled_spare y.log (coord_spare c y generation)) (spare_writable generation)
      fills generation (StopsAt call leaves) = stopped generation call (batch_is_stable call leaves)

      closes : (o : Outcome) → BoundedCoord (coord_close_by y o).state
      closes Completes = relogged y.up (with_coord_log y (record { stable = y.log.stable; waiting = y.log.waiting; armed = None; spare_closed = true })).log b.records
      closes (StopsAt call leaves) = down_bounded (record { stable = y.log.stable; waiting = y.log.waiting; armed = None; spare_closed = closes_spare leaves }) bounded_stable

      by : (k : Bool) → BoundedCoord (coord_checkpoint_by c y k).state
      by false = closes (outcome_of y.log.armed 2)
      by true = fills (next_generation (generation_of y.log.stable)) (outcome_of y.log.armed 4)

-- each event
module _ (members c : ℕ) (few : members ≤ most_members) (own : IsAmong c most_coordinators) (y : CoordState) (w : WholeTable members y) (b : BoundedCoord y) where
  next : (z : CoordState) → WholeTable members z → BoundedCoord z → IsWritableCoord c z
  next = coord_writable members c few own

  pub coord_stays_writable : CoordStaysWritable members c y
  coord_stays_writable =
      record {
        begin = λ t u new. next _ (whole_begin members y w t u new) (lays y b t entry.Idle tt);
        commit = λ t parts u may. next _ (whole_commit members y w c t parts u may.0) (bounded_commit members c few own y w b t parts may.1);
        abort = λ t parts u. next _ (whole_abort members y w c t parts u) (bounded_abort members c few own y w b t parts);
        vote = λ t m granted u. next _ (whole_coord_vote members y w c t m granted u) (bounded_vote members c few own y w b t m granted);
        question = λ t m. next _ (whole_coord_question members y w c t m) (bounded_question members c few own y w b t m);
        acknowledgement = λ t m u. next _ (whole_acknowledgement members y w t m u) (bounded_acknowledgement members c few own y w b t m);
        timer = λ t u. next _ (whole_coord_timer members y w c t u) (bounded_timer members c few own y w b t);
        resending = λ t. next _ (whole_resending members y w c t) (bounded_resending members c few own y w b t);
        checkpoint = λ u. next _ (coord_checkpoints members c y w u) (bounded_checkpoint members c few own y w b);
        crash = next _ (whole_coord_crash members y w) (down_bounded y.log (bounded_stable members c few own y w b));
        restart = next _ (whole_coord_restart members y w) (bounded_restart members c few own y w b);
        armed = λ call leaves u. next _ (whole_coord_arming members y w call leaves u) (relogged members c few own y w b y.up (with_stop y.log (Some (record { call = call; leaves = leaves }))) b.records);
        disarmed = next _ (whole_coord_disarmed members y w) (relogged members c few own y w b y.up (with_stop y.log None) b.records);
      }

as_bounded : (c : ℕ) (y : CoordState) → IsWritableCoord c y → BoundedCoord y
as_bounded c y f = record { records = f.records; collecting = λ t parts yeses e. (f.decision t parts yeses e).2 }

pub coord_stays : (members c : ℕ) (y : CoordState) → members ≤ most_members → IsAmong c most_coordinators → IsWholeCoord members y → IsWritableCoord c y →
    CoordStaysWritable members c y
coord_stays members c y few own whole f = coord_stays_writable members c few own y (coord_as_kept members y whole) (as_bounded c y f)

opened_records : (c : ℕ) → IsAmong c most_coordinators → (rs : List Record) → AllByRecursion IsWritable rs → AllByRecursion IsWritable (made (node.Coord c) rs)
opened_records c own [] b = (own, tt)
opened_records c own (r ∷ rs) b = b

pub opened_coord_writable : (members c : ℕ) (found : Found) → members ≤ most_members → IsAmong c most_coordinators →
    first_refused_at_coord members (reverse found.records) ≡ None → AllByRecursion IsWritable found.records → IsWritableCoord c (opened_coord c found)
opened_coord_writable members c found few own allowed b =
    coord_writable members c few own (opened_coord c found) (whole_coord_opened members c found allowed)
    (record {
      records = opened_records c own found.records b;
      collecting = λ t parts yeses e. by t parts yeses (from_cases (recovered_commits found.records).unended t (entry.Collecting parts yeses) e);
    })
  where
    by : (t : ℕ) (parts : List Part) (yeses : List ℕ) →
        (ms : List ℕ) × (look (recovered_commits found.records).unended t ≡ Some ms) × (entry.Committed ms [] ≡ entry.Collecting parts yeses) → IsAscending (members_of parts)
    by t parts yeses p = absurd (let z : entry.Committed p.0 [] ≡ entry.Collecting parts yeses = p.2 in cc)
