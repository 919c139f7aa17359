-- Each event of a coordinator whose table and records name such members, counts and numbers answers, sends, marks and leaves such ones. It sends
-- at most 16 messages, and beside the records that waited it tells of at most one.
use Rattle.std.proofs.Common.{◌≡◌, ℕ, Bool, true, false, not, ◌&&◌, ◌+◌, ◌≤◌, if◌then◌else◌, List, [], ◌∷◌, ◌++◌, length, Option, None, Some, refl, subst, arith, length-append}
use Rattle.std.specs.FinMap.{entries}
use Rattle.std.specs.List.{AllByRecursion}
use Rattle.co_base.proofs.Ordered.{sorted_none}
use Rattle.co_base.specs.declared.leaves.Leaves.{Leaves}
use Rattle.co_base.specs.declared.node.Node.TheVariants as node
use Rattle.co_base.specs.declared.part.Part.{Part}
use Rattle.co_base.specs.Limits.{most_coordinators, most_members}
use Rattle.co_message.specs.declared.answer.Answer.{Answer}
use Rattle.co_message.specs.declared.answer.Answer.TheVariants as answer
use Rattle.co_message.specs.declared.answer.Cause.{Cause}
use Rattle.co_message.specs.declared.answer.Cause.TheVariants as cause
use Rattle.co_message.specs.declared.message.Message.{Message}
use Rattle.co_message.specs.declared.message.Message.TheVariants as message
use Rattle.co_frame.specs.Gate.{batch_is_stable, closes_spare}
use Rattle.co_record.specs.declared.record.Record.{Record}
use Rattle.co_record.specs.declared.record.Record.TheVariants as log
use Rattle.co_schedule.specs.View.{IsWithin, IsTxn, IsMessageFor}
use Rattle.co_state.specs.Table.{look, put, without}
use Rattle.co_plain.specs.CoordLog.{commit_onto, commits_onto, coord_spare, coord_stopped_fill, coord_fill_by, coord_close_by, coord_checkpoint_by, coord_checkpoint, coord_crash, coord_restart_by, coord_restart, coord_arm}
use Rattle.co_plain.specs.CoordStep.{coord_says, coord_sends, with_table, with_coord_log, has_part, members_of, coord_down, stopped_coord, coord_forced_by, force_coord, table_from}
use Rattle.co_plain.specs.CoordView.{recovered_commits}
use Rattle.co_plain.specs.Coordinator.{prepares_to, decisions_to, parts_lacking, member_or_none, waits, coord_begin, ask_commit, commit_entry, coord_commit, aborts, abort_entry, coord_abort, decided_by, yes_entry, no_entry, coord_vote, ask_entry, coord_ask, ended_by, ack_entry, coord_ack, timer_entry, coord_timer, resend_entry, coord_resend, coord_deliver}
use Rattle.co_plain.specs.LogWrite.{outcome_of, with_batch, with_filled_spare, with_spare, with_stop, with_waiting, generation_of, marks_of, checkpoint_marks}
use Rattle.co_plain.specs.Numbers.{first_lacking, has_number, numbers_lacking, next_generation}
use Rattle.co_plain.specs.declared.coord_state.CoordState.{CoordState}
use Rattle.co_plain.specs.declared.coord_state.Entry.{Entry}
use Rattle.co_plain.specs.declared.coord_state.Entry.TheVariants as entry
use Rattle.co_plain.specs.declared.coord_step.CoordStep.{CoordStep}
use Rattle.co_plain.specs.declared.log_state.LogState.{LogState}
use Rattle.co_plain.specs.declared.outcome.Outcome.{Outcome}
use Rattle.co_plain.specs.declared.outcome.Outcome.TheVariants.{Completes, StopsAt}
use Rattle.co_transcript.specs.Items.{IsMark}
use Rattle.co_law_base.proofs.Commits.{from_cases}
use Rattle.co_law_base.proofs.ImageRules.{EachEntry}
use Rattle.co_law_items.proofs.Named.{all_append, all_filter, Holds, holds_put, holds_without, holds_each}
use Rattle.co_law_items.proofs.Logs.{IsOutcome, outcome_named, generation_small, IsRecordOf, IsLogOf, unended_named, batched, crashed, marks_named, marks_counted, checkpoint_named}
use Rattle.co_law_items.proofs.Answers.{IsAnswerOf}
use Rattle.co_law_items.proofs.Parts.{IsPart, AreParts, few_members, parts_members, few_parts, few_filtered, found_in, IsEntry, lacking_named, prepares_named, decisions_named, decisions_few, prepares_few}

module _ (P : List ℕ → Type 0) where
  pub record IsCoordOf (y : CoordState) : Type 0 where
    pub table : Holds IsEntry y.table
    pub log : IsLogOf P y.log

  -- a step of a coordinator with so many records that wait
  pub record CoordDid (waiting : ℕ) (did : CoordStep) : Type 0 where
    pub state : IsCoordOf did.state
    pub answer : IsAnswerOf P did.answer
    pub sent : AllByRecursion (IsMessageFor most_members most_coordinators) did.sent
    pub sent_few : length did.sent ≤ most_members
    pub marks : AllByRecursion IsMark did.marks
    pub few : length did.marks + length did.state.log.waiting ≤ waiting + 1

  pub recovered_named : (rs : List Record) → AllByRecursion (IsRecordOf P) rs → Holds IsEntry (table_from (entries (recovered_commits rs).unended))
  recovered_named rs h t e f = by (from_cases (recovered_commits rs).unended t e f)
    where
      by : (ms : List ℕ) × (look (recovered_commits rs).unended t ≡ Some ms) × (entry.Committed ms [] ≡ e) → IsEntry t e
      by p = subst (IsEntry t) p.2 (unended_named P rs h t p.0 p.1)

  coord_down_named : (l : LogState) → AllByRecursion (IsRecordOf P) l.stable → IsCoordOf (coord_down l)
  coord_down_named l h = record { table = recovered_named l.stable h; log = crashed P l h }

  coord_logged : (y : CoordState) → IsCoordOf y → (l : LogState) → IsLogOf P l → IsCoordOf (with_coord_log y l)
  coord_logged y n l h = record { table = n.table; log = h }

  module _ (c : ℕ) (own : IsWithin 1 most_coordinators c) where
    -- however a forced write ends
    coord_forces : (next : CoordState) → IsCoordOf next → (batch : List Record) → AllByRecursion (IsRecordOf P) batch → length batch ≤ 1 →
        (a : Answer) → IsAnswerOf P a → (sent : List Message) → AllByRecursion (IsMessageFor most_members most_coordinators) sent → length sent ≤ most_members →
        CoordDid (length next.log.waiting) (force_coord c next batch a sent)
    coord_forces next n batch h short a said sent goes sent_few = by (outcome_of next.log.armed 4) (outcome_named next.log.armed n.log.armed 4)
      where
        out : List Record
        out = batch ++ next.log.waiting

        all : AllByRecursion (IsRecordOf P) out
        all = all_append (IsRecordOf P) batch next.log.waiting h n.log.waiting

        count : length (marks_of (node.Coord c) out) + 0 ≤ length next.log.waiting + 1
        count = let k = marks_counted (node.Coord c) out in let d = length-append batch next.log.waiting in omega (arith, k, d, short)

        stopped : (call : ℕ) → IsWithin 1 4 call → (b : Bool) → CoordDid (length next.log.waiting) (stopped_coord c next call b batch)
        stopped call k true =
            record {
              state = coord_down_named (with_batch next.log batch) (batched P next.log n.log batch h).stable;
              answer = k;
              sent = tt;
              sent_few = omega arith;
              marks = marks_named P (node.Coord c) own out all;
              few = count;
            }
        stopped call k false =
            record { state = coord_down_named next.log n.log.stable; answer = k; sent = tt; sent_few = omega arith; marks = tt; few = omega arith }

        by : (o : Outcome) → IsOutcome o → CoordDid (length next.log.waiting) (coord_forced_by c next batch a sent o)
        by Completes k =
            record {
              state = coord_logged next n (with_batch next.log batch) (batched P next.log n.log batch h);
              answer = said;
              sent = goes;
              sent_few = sent_few;
              marks = marks_named P (node.Coord c) own out all;
              few = count;
            }
        by (StopsAt call leaves) k = stopped call k (batch_is_stable call leaves)

    module _ (y : CoordState) (n : IsCoordOf y) where
      abbrev Did : CoordStep → Type 0
      Did = CoordDid (length y.log.waiting)

      coord_tells : (z : CoordState) → IsCoordOf z → length z.log.waiting ≤ length y.log.waiting + 1 → (a : Answer) → IsAnswerOf P a → Did (coord_says z a)
      coord_tells z k more a said = record { state = k; answer = said; sent = tt; sent_few = omega arith; marks = tt; few = omega (arith, more) }

      coord_stays : (a : Answer) → IsAnswerOf P a → Did (coord_says y a)
      coord_stays a said = coord_tells y n (omega arith) a said

      coord_goes : (z : CoordState) → IsCoordOf z → length z.log.waiting ≤ length y.log.waiting + 1 → (a : Answer) → IsAnswerOf P a → (sent : List Message) →
          AllByRecursion (IsMessageFor most_members most_coordinators) sent → length sent ≤ most_members → Did (coord_sends z a sent)
      coord_goes z k more a said sent goes few = record { state = k; answer = said; sent = goes; sent_few = few; marks = tt; few = omega (arith, more) }

      tabled : (t : ℕ) (e : Entry) → IsEntry t e → IsCoordOf (with_table y (put y.table t e))
      tabled t e h = record { table = holds_put IsEntry y.table n.table t e h; log = n.log }

      untabled : (t : ℕ) → IsCoordOf (with_table y (without y.table t))
      untabled t = record { table = holds_without IsEntry y.table n.table t; log = n.log }

      did_wait : (parts : List Part) (yeses : List ℕ) → AreParts parts → ((m : ℕ) × (first_lacking (members_of parts) yeses ≡ Some m)) → Did (waits y parts yeses)
      did_wait parts yeses h l = coord_stays _ (lacking_named parts h yeses l)

      did_aborts : (t : ℕ) (by : Cause) (parts : List Part) → IsTxn t → AreParts parts → Did (aborts c y t by parts)
      did_aborts t by parts small h =
          coord_goes (with_table y (without y.table t)) (untabled t) (omega arith) (answer.Aborted by) tt (decisions_to c t false (members_of parts))
          (decisions_named c t false own small (members_of parts) (parts_members parts h).0) (decisions_few c t false (members_of parts) (few_members (members_of parts) (parts_members parts h)))

      pub did_begin : (t : ℕ) → IsTxn t → Did (coord_begin y t)
      did_begin t small = coord_tells (with_table y (put y.table t entry.Idle)) (tabled t entry.Idle small) (omega arith) answer.Begun tt

      pub did_commit : (t : ℕ) (parts : List Part) → IsTxn t → AreParts parts → Did (coord_commit c y t parts)
      did_commit t parts small h = by (look y.table t) refl
        where
          asks : (ps : List Part) → AreParts ps → Did (ask_commit c y t ps)
          asks [] k =
              coord_forces (with_table y (without y.table t)) (untabled t) (log.Commit t [] ∷ []) ((small, (tt, sorted_none _)), tt) (omega arith) answer.Committed tt [] tt (omega arith)
          asks (p ∷ ps) k =
              coord_goes (with_table y (put y.table t (entry.Collecting (p ∷ ps) []))) (tabled t (entry.Collecting (p ∷ ps) []) (small, k, (p.member, refl))) (omega arith)
              (answer.Waiting p.member) k.0.0.0 (prepares_to c t (p ∷ ps)) (prepares_named c t own small (p ∷ ps) k.0) (prepares_few c t (p ∷ ps) (few_parts (p ∷ ps) k))

          by : (o : Option Entry) → look y.table t ≡ o → Did (commit_entry c y t parts o)
          by None e = coord_stays answer.Unknown tt
          by (Some entry.Idle) e = asks parts h
          by (Some (entry.Collecting ps yeses)) e = let k = n.table t (entry.Collecting ps yeses) e in did_wait ps yeses k.1 k.2
          by (Some (entry.Committed ms acks)) e = coord_stays answer.Decided tt

      pub did_abort : (t : ℕ) (parts : List Part) → IsTxn t → AreParts parts → Did (coord_abort c y t parts)
      did_abort t parts small h = by (look y.table t) refl
        where
          by : (o : Option Entry) → look y.table t ≡ o → Did (abort_entry c y t parts o)
          by None e = coord_stays answer.Unknown tt
          by (Some entry.Idle) e = did_aborts t cause.Client parts small h
          by (Some (entry.Collecting ps yeses)) e = let k = n.table t (entry.Collecting ps yeses) e in did_wait ps yeses k.1 k.2
          by (Some (entry.Committed ms acks)) e = coord_stays answer.Decided tt

      pub did_coord_vote : (t m : ℕ) (granted : Bool) → Did (coord_vote c y t m granted)
      did_coord_vote t m true = by (look y.table t) refl
        where
          decides : (parts : List Part) (yeses : List ℕ) → IsTxn t → AreParts parts → (o : Option ℕ) → first_lacking (members_of parts) yeses ≡ o → Did (decided_by c y t parts yeses o)
          decides parts yeses small h (Some k) e =
              coord_tells (with_table y (put y.table t (entry.Collecting parts yeses))) (tabled t (entry.Collecting parts yeses) (small, h, (k, e))) (omega arith) (answer.Waiting k)
              (found_in (IsWithin 1 most_members) (λ i. not (has_number yeses i)) (members_of parts) (parts_members parts h).0 k e)
          decides parts yeses small h None e =
              let named = parts_members parts h in
              coord_forces (with_table y (put y.table t (entry.Committed (members_of parts) []))) (tabled t (entry.Committed (members_of parts) []) (small, named))
              (log.Commit t (members_of parts) ∷ []) ((small, named), tt) (omega arith) answer.Committed tt (decisions_to c t true (members_of parts))
              (decisions_named c t true own small (members_of parts) named.0) (decisions_few c t true (members_of parts) (few_members (members_of parts) named))

          counts : (parts : List Part) (yeses : List ℕ) → IsEntry t (entry.Collecting parts yeses) → (b : Bool) →
              Did (if b then decided_by c y t parts (m ∷ yeses) (first_lacking (members_of parts) (m ∷ yeses)) else waits y parts yeses)
          counts parts yeses k true = decides parts (m ∷ yeses) k.0 k.1 (first_lacking (members_of parts) (m ∷ yeses)) refl
          counts parts yeses k false = did_wait parts yeses k.1 k.2

          by : (o : Option Entry) → look y.table t ≡ o → Did (yes_entry c y t m o)
          by None e = coord_stays answer.Unknown tt
          by (Some entry.Idle) e = coord_stays answer.Idle tt
          by (Some (entry.Collecting parts yeses)) e = counts parts yeses (n.table t (entry.Collecting parts yeses) e) (has_part parts m && not (has_number yeses m))
          by (Some (entry.Committed ms acks)) e = coord_stays answer.Decided tt
      did_coord_vote t m false = by (look y.table t) refl
        where
          counts : (parts : List Part) (yeses : List ℕ) → IsEntry t (entry.Collecting parts yeses) → (b : Bool) → Did (if b then aborts c y t cause.Vote parts else waits y parts yeses)
          counts parts yeses k true = did_aborts t cause.Vote parts k.0 k.1
          counts parts yeses k false = did_wait parts yeses k.1 k.2

          by : (o : Option Entry) → look y.table t ≡ o → Did (no_entry c y t m o)
          by None e = coord_stays answer.Unknown tt
          by (Some entry.Idle) e = coord_stays answer.Idle tt
          by (Some (entry.Collecting parts yeses)) e = counts parts yeses (n.table t (entry.Collecting parts yeses) e) (has_part parts m)
          by (Some (entry.Committed ms acks)) e = coord_stays answer.Decided tt

      pub did_coord_ask : (t m : ℕ) → IsTxn t → IsWithin 1 most_members m → Did (coord_ask c y t m)
      did_coord_ask t m small near = by (look y.table t) refl
        where
          by : (o : Option Entry) → look y.table t ≡ o → Did (ask_entry c y t m o)
          by None e = coord_goes y n (omega arith) answer.Unknown tt (message.Decide t c m false ∷ []) ((small, own, near), tt) (omega arith)
          by (Some entry.Idle) e = coord_stays answer.Idle tt
          by (Some (entry.Collecting parts yeses)) e = let k = n.table t (entry.Collecting parts yeses) e in did_wait parts yeses k.1 k.2
          by (Some (entry.Committed ms acks)) e = coord_goes y n (omega arith) answer.Decided tt (message.Decide t c m true ∷ []) ((small, own, near), tt) (omega arith)

      pub did_coord_ack : (t m : ℕ) → Did (coord_ack y t m)
      did_coord_ack t m = by (look y.table t) refl
        where
          ends : (ms acks : List ℕ) → IsEntry t (entry.Committed ms acks) → (o : Option ℕ) → Did (ended_by y t ms acks o)
          ends ms acks k (Some u) = coord_tells (with_table y (put y.table t (entry.Committed ms acks))) (tabled t (entry.Committed ms acks) k) (omega arith) answer.Decided tt
          ends ms acks k None =
              let l = with_waiting y.log (log.End t) in
              coord_tells (with_coord_log (with_table y (without y.table t)) l)
              (coord_logged (with_table y (without y.table t)) (untabled t) l (record { stable = n.log.stable; waiting = (k.0, n.log.waiting); armed = n.log.armed })) (omega arith) answer.Ended tt

          counts : (ms acks : List ℕ) → IsEntry t (entry.Committed ms acks) → (b : Bool) → Did (if b then ended_by y t ms (m ∷ acks) (first_lacking ms (m ∷ acks)) else coord_says y answer.Decided)
          counts ms acks k true = ends ms (m ∷ acks) k (first_lacking ms (m ∷ acks))
          counts ms acks k false = coord_stays answer.Decided tt

          by : (o : Option Entry) → look y.table t ≡ o → Did (ack_entry y t m o)
          by None e = coord_stays answer.Unknown tt
          by (Some entry.Idle) e = coord_stays answer.Idle tt
          by (Some (entry.Collecting parts yeses)) e = let k = n.table t (entry.Collecting parts yeses) e in did_wait parts yeses k.1 k.2
          by (Some (entry.Committed ms acks)) e = counts ms acks (n.table t (entry.Committed ms acks) e) (has_number ms m && not (has_number acks m))

      pub did_coord_timer : (t : ℕ) → IsTxn t → Did (coord_timer c y t)
      did_coord_timer t small = by (look y.table t) refl
        where
          by : (o : Option Entry) → look y.table t ≡ o → Did (timer_entry c y t o)
          by None e = coord_stays answer.Unknown tt
          by (Some entry.Idle) e = coord_tells (with_table y (without y.table t)) (untabled t) (omega arith) (answer.Aborted cause.Timer) tt
          by (Some (entry.Collecting parts yeses)) e = did_aborts t cause.Timer parts small (n.table t (entry.Collecting parts yeses) e).1
          by (Some (entry.Committed ms acks)) e = coord_stays answer.Decided tt

      pub did_resend : (t : ℕ) → Did (coord_resend c y t)
      did_resend t = by (look y.table t) refl
        where
          by : (o : Option Entry) → look y.table t ≡ o → Did (resend_entry c y t o)
          by None e = coord_stays answer.Unknown tt
          by (Some entry.Idle) e = coord_stays answer.Idle tt
          by (Some (entry.Collecting parts yeses)) e =
              let k = n.table t (entry.Collecting parts yeses) e in
              let test = λ (p : Part). not (has_number yeses p.member) in
              let short = few_parts parts k.1 in
              let fewer = few_filtered test parts in
              coord_goes y n (omega arith) (answer.Waiting (member_or_none (first_lacking (members_of parts) yeses))) (lacking_named parts k.1 yeses k.2) (prepares_to c t (parts_lacking parts yeses))
              (prepares_named c t own k.0 (parts_lacking parts yeses) (all_filter IsPart test parts k.1.0)) (prepares_few c t (parts_lacking parts yeses) (omega (arith, short, fewer)))
          by (Some (entry.Committed ms acks)) e =
              let k = n.table t (entry.Committed ms acks) e in
              let test = λ (u : ℕ). not (has_number acks u) in
              let short = few_members ms k.1 in
              let fewer = few_filtered test ms in
              coord_goes y n (omega arith) answer.Decided tt (decisions_to c t true (numbers_lacking ms acks))
              (decisions_named c t true own k.0 (numbers_lacking ms acks) (all_filter (IsWithin 1 most_members) test ms k.1.0)) (decisions_few c t true (numbers_lacking ms acks) (omega (arith, short, fewer)))

      pub did_coord_deliver : (note : Message) → IsMessageFor most_members most_coordinators note → Did (coord_deliver c y note)
      did_coord_deliver (message.Vote t m coord granted) h = did_coord_vote t m granted
      did_coord_deliver (message.Ask t m coord) h = did_coord_ask t m h.0 h.1
      did_coord_deliver (message.Ack t m coord) h = did_coord_ack t m
      did_coord_deliver (message.Prepare t coord m count) h = coord_stays answer.Unknown tt
      did_coord_deliver (message.Decide t coord m commit) h = coord_stays answer.Unknown tt

      pub did_coord_crash : Did (coord_crash y)
      did_coord_crash = coord_tells (coord_down y.log) (coord_down_named y.log n.log.stable) (omega arith) answer.Crashed tt

      pub did_coord_restart : Did (coord_restart y)
      did_coord_restart = by y.up
        where
          by : (b : Bool) → Did (coord_restart_by y b)
          by true = coord_stays answer.Running tt
          by false = coord_tells (record { up = true; table = y.table; log = y.log }) (record { table = n.table; log = n.log }) (omega arith) answer.Up tt

      pub did_coord_arm : (call : ℕ) (leaves : Leaves) → IsWithin 1 4 call → Did (coord_arm y call leaves)
      did_coord_arm call leaves h =
          let stop = with_stop y.log (Some (record { call = call; leaves = leaves })) in
          coord_tells (with_coord_log y stop) (coord_logged y n stop (record { stable = n.log.stable; waiting = n.log.waiting; armed = h })) (omega arith) answer.Armed tt

      -- commits that are told again
      told_again : (es : List (ℕ × Entry)) (rs : List Record) → AllByRecursion (IsRecordOf P) rs → EachEntry IsEntry es → AllByRecursion (IsRecordOf P) (commits_onto rs es)
      told_again [] rs h k = h
      told_again (e ∷ es) rs h k = by (λ qs q. told_again es qs q k.1) e.1 k.0
        where
          by : ((qs : List Record) → AllByRecursion (IsRecordOf P) qs → AllByRecursion (IsRecordOf P) (commits_onto qs es)) →
              (x : Entry) → IsEntry e.0 x → AllByRecursion (IsRecordOf P) (commits_onto (commit_onto rs e.0 x) es)
          by rest entry.Idle p = rest rs h
          by rest (entry.Collecting parts yeses) p = rest rs h
          by rest (entry.Committed ms acks) p = rest (log.Commit e.0 ms ∷ rs) (p, h)

      pub did_coord_checkpoint : Did (coord_checkpoint c y)
      did_coord_checkpoint = by y.log.spare_closed
        where
          generation : ℕ
          generation = next_generation (generation_of y.log.stable)

          full : AllByRecursion (IsRecordOf P) (coord_spare c y generation)
          full = told_again (entries y.table) (log.Header (node.Coord c) generation ∷ []) (generation_small (generation_of y.log.stable), tt) (holds_each IsEntry y.table n.table)

          marked : AllByRecursion IsMark (checkpoint_marks (node.Coord c) generation)
          marked = checkpoint_named (node.Coord c) own (generation_of y.log.stable)

          stopped : (call : ℕ) → IsWithin 1 4 call → (b : Bool) → Did (coord_stopped_fill c y generation call b)
          stopped call k true =
              record {
                state = coord_down_named (with_filled_spare y.log (coord_spare c y generation)) full;
                answer = k;
                sent = tt;
                sent_few = omega arith;
                marks = marked;
                few = omega arith;
              }
          stopped call k false = record { state = coord_down_named y.log n.log.stable; answer = k; sent = tt; sent_few = omega arith; marks = tt; few = omega arith }

          fills : (o : Outcome) → IsOutcome o → Did (coord_fill_by c y generation o)
          fills Completes k =
              record {
                state = coord_logged y n (with_filled_spare y.log (coord_spare c y generation)) (record { stable = full; waiting = tt; armed = tt });
                answer = generation_small (generation_of y.log.stable);
                sent = tt;
                sent_few = omega arith;
                marks = marked;
                few = omega arith;
              }
          fills (StopsAt call leaves) k = stopped call k (batch_is_stable call leaves)

          closes : (o : Outcome) → IsOutcome o → Did (coord_close_by y o)
          closes Completes k =
              coord_tells (with_coord_log y (with_spare y.log true)) (coord_logged y n (with_spare y.log true) (record { stable = n.log.stable; waiting = n.log.waiting; armed = tt })) (omega arith) answer.Closed tt
          closes (StopsAt call leaves) k =
              coord_tells (coord_down (with_spare y.log (closes_spare leaves))) (coord_down_named (with_spare y.log (closes_spare leaves)) n.log.stable) (omega arith) (answer.Stopped call) k

          by : (b : Bool) → Did (coord_checkpoint_by c y b)
          by false = closes (outcome_of y.log.armed 2) (outcome_named y.log.armed n.log.armed 2)
          by true = fills (outcome_of y.log.armed 4) (outcome_named y.log.armed n.log.armed 4)
