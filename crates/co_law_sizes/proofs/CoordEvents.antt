-- Each event of a coordinator takes thirty bytes of room at most.
use Rattle.std.proofs.Common.{◌≡◌, ℕ, suc, ◌+◌, ◌≤◌, Bool, true, false, if◌then◌else◌, List, [], ◌∷◌, length, Option, None, Some, refl, ap, arith}
use Rattle.std.specs.Prelude.{not, ◌&&◌}
use Rattle.std.specs.Cmp.{nat_cmp_total}
use Rattle.std.specs.FinMap.{entries, nat_cmp-IsAntisymmetric}
use Rattle.std.proofs.lemmas.List.{length-map}
use Rattle.co_base.specs.declared.leaves.Leaves.{Leaves}
use Rattle.co_base.specs.declared.node.Node.TheVariants as node
use Rattle.co_base.specs.declared.part.Part.{Part}
use Rattle.co_message.specs.declared.answer.Answer.TheVariants as answer
use Rattle.co_message.specs.declared.answer.Cause.TheVariants as cause
use Rattle.co_message.specs.declared.message.Message.{Message}
use Rattle.co_message.specs.declared.message.Message.TheVariants as message
use Rattle.co_record.specs.declared.record.Record.{Record}
use Rattle.co_record.specs.declared.record.Record.TheVariants as log
use Rattle.co_frame.specs.Gate.{batch_is_stable, closes_spare}
use Rattle.co_state.specs.Table.{Table, look, put, without}
use Rattle.co_plain.specs.declared.coord_state.CoordState.{CoordState}
use Rattle.co_plain.specs.declared.coord_state.Entry.{Entry}
use Rattle.co_plain.specs.declared.coord_state.Entry.TheVariants as entry
use Rattle.co_plain.specs.declared.coord_step.CoordStep.{CoordStep}
use Rattle.co_plain.specs.declared.outcome.Outcome.{Outcome}
use Rattle.co_plain.specs.declared.outcome.Outcome.TheVariants.{Completes, StopsAt}
use Rattle.co_plain.specs.Numbers.{next_generation, first_lacking, has_number}
use Rattle.co_plain.specs.LogWrite.{outcome_of, generation_of, with_filled_spare, with_spare, with_stop}
use Rattle.co_plain.specs.CoordStep.{coord_says, stopped_coord, with_table, with_coord_log, has_part, members_of, coord_forced_by}
use Rattle.co_plain.specs.Coordinator.{coord_begin, ask_commit, commit_entry, coord_commit, aborts, abort_entry, coord_abort, decided_by, yes_entry, no_entry, coord_vote, ask_entry, coord_ask, ended_by, ack_entry, coord_ack, timer_entry, coord_timer, resend_entry, coord_resend, coord_deliver, decisions_to, waits}
use Rattle.co_plain.specs.CoordLog.{commit_onto, commits_onto, coord_spare, coord_stopped_fill, coord_fill_by, coord_close_by, coord_checkpoint_by, coord_checkpoint, coord_crash, coord_restart_by, coord_restart, coord_arm}
use Rattle.co_plain.specs.Step.{is_stopped}
use Rattle.co_log.specs.Sizes.{log_bytes}
use Rattle.co_law_sizes.proofs.Weights.{weighs, held, insert_weighs, remove_weighs}
use Rattle.co_law_sizes.proofs.Records.{headers, generation_bound, older_bytes, older_headers, header_bytes, commit_bytes, end_bytes}
use Rattle.co_law_sizes.proofs.LightCoords.{LightCoord, collecting_weight, entry_weight, collecting, tabled, coord_more, coord_light_down, coord_light_ends}

-- ---- tables

put_collecting : (table : Table Entry) (t : ℕ) (e : Entry) → collecting (put table t e) + held collecting_weight t (look table t) ≤ collecting_weight t e + collecting table
put_collecting table t e = insert_weighs nat_cmp_total nat_cmp-IsAntisymmetric collecting_weight table t e

put_tabled : (table : Table Entry) (t : ℕ) (e : Entry) → tabled (put table t e) + held entry_weight t (look table t) ≤ entry_weight t e + tabled table
put_tabled table t e = insert_weighs nat_cmp_total nat_cmp-IsAntisymmetric entry_weight table t e

out_collecting : (table : Table Entry) (t : ℕ) → collecting (without table t) ≤ collecting table
out_collecting table t = omega (arith, remove_weighs nat_cmp_total nat_cmp-IsAntisymmetric collecting_weight table t)

out_tabled : (table : Table Entry) (t : ℕ) → tabled (without table t) ≤ tabled table
out_tabled table t = omega (arith, remove_weighs nat_cmp_total nat_cmp-IsAntisymmetric entry_weight table t)

-- a filled spare has the commits of the table
commits_bytes : (rs : List Record) (es : List (ℕ × Entry)) → log_bytes (commits_onto rs es) + weighs collecting_weight es ≤ log_bytes rs + weighs entry_weight es
commits_bytes rs [] = omega arith
commits_bytes rs (e ∷ es) = by (λ qs. commits_bytes qs es) e.1
  where
    by : ((qs : List Record) → log_bytes (commits_onto qs es) + weighs collecting_weight es ≤ log_bytes qs + weighs entry_weight es) → (x : Entry) → log_bytes (commits_onto (commit_onto rs e.0 x) es) + (collecting_weight e.0 x + weighs collecting_weight es) ≤ log_bytes rs + (entry_weight e.0 x + weighs entry_weight es)
    by rest entry.Idle = omega (arith, rest rs)
    by rest (entry.Collecting parts yeses) = omega (arith, rest rs)
    by rest (entry.Committed members acks) = omega (arith, rest (log.Commit e.0 members ∷ rs), commit_bytes e.0 members)

commits_headers : (rs : List Record) (es : List (ℕ × Entry)) → headers (commits_onto rs es) ≡ headers rs
commits_headers rs [] = refl
commits_headers rs (e ∷ es) = by (λ qs. commits_headers qs es) e.1
  where
    by : ((qs : List Record) → headers (commits_onto qs es) ≡ headers qs) → (x : Entry) → headers (commits_onto (commit_onto rs e.0 x) es) ≡ headers rs
    by rest entry.Idle = rest rs
    by rest (entry.Collecting parts yeses) = rest rs
    by rest (entry.Committed members acks) = rest (log.Commit e.0 members ∷ rs)

module _ (k g z c : ℕ) (y : CoordState) (l : LightCoord k g z y) where
  stays : LightCoord (30 + k) g z y
  stays = coord_more k g z y (30 + k) g z (omega arith) (omega arith) l

  stable_bytes : log_bytes y.log.stable + z ≤ k
  stable_bytes = omega (arith, l.bytes, older_bytes y.log.waiting y.log.stable)

  stable_headers : headers y.log.stable ≤ g
  stable_headers = omega (arith, l.headed, older_headers y.log.waiting y.log.stable)

  leaves_table : (t : ℕ) → LightCoord (30 + k) g z (with_table y (without y.table t))
  leaves_table t =
      record {
        bytes = omega (arith, l.bytes, out_collecting y.table t);
        spare = omega (arith, l.spare, out_tabled y.table t);
        headed = l.headed;
      }

  pub light_begin : (t : ℕ) → LightCoord (30 + k) g z (coord_begin y t).state
  light_begin t =
      record {
        bytes = omega (arith, l.bytes, put_collecting y.table t entry.Idle);
        spare = omega (arith, l.spare, put_tabled y.table t entry.Idle);
        headed = l.headed;
      }

  -- A commit that is asked: unless it was stopped, its session is asked to end, and the operations that were told of the
  -- transaction count no longer.
  module _ (w t : ℕ) (parts : List Part) (less : w + length parts ≤ z) where
    abbrev IsAsked : CoordStep → Type 0
    IsAsked did = LightCoord (30 + k) g (if not (is_stopped did.answer) then w else z) did.state

    asked : (x : CoordState) → LightCoord (30 + k) g z x → LightCoord (30 + k) g w x
    asked x s = coord_more (30 + k) g z x (30 + k) g w (omega (arith, less)) (omega arith) s

    decided_alone : (o : Outcome) → IsAsked (coord_forced_by c (with_table y (without y.table t)) (log.Commit t [] ∷ []) answer.Committed [] o)
    decided_alone o = by o (all o)
      where
        all : (o : Outcome) → LightCoord (30 + k) g z (coord_forced_by c (with_table y (without y.table t)) (log.Commit t [] ∷ []) answer.Committed [] o).state
        all =
            coord_light_ends (30 + k) g z c (with_table y (without y.table t)) (log.Commit t [] ∷ []) answer.Committed []
            (omega (arith, l.bytes, out_collecting y.table t, commit_bytes t [])) (omega (arith, l.spare, out_tabled y.table t)) l.headed

        stopped : (call : ℕ) (b : Bool) → LightCoord (30 + k) g z (stopped_coord c (with_table y (without y.table t)) call b (log.Commit t [] ∷ [])).state →
            IsAsked (stopped_coord c (with_table y (without y.table t)) call b (log.Commit t [] ∷ []))
        stopped call true s = s
        stopped call false s = s

        by : (o : Outcome) → LightCoord (30 + k) g z (coord_forced_by c (with_table y (without y.table t)) (log.Commit t [] ∷ []) answer.Committed [] o).state →
            IsAsked (coord_forced_by c (with_table y (without y.table t)) (log.Commit t [] ∷ []) answer.Committed [] o)
        by Completes s = asked _ s
        by (StopsAt call leaves) s = stopped call (batch_is_stable call leaves) s

    collects : (ps : List Part) → ps ≡ parts → look y.table t ≡ Some entry.Idle → IsAsked (ask_commit c y t ps)
    collects [] e found = decided_alone (outcome_of y.log.armed 4)
    collects (p ∷ ps) e found =
        let long = ap (λ (qs : List Part). length qs) e in
        record {
          bytes = omega (arith, l.bytes, less, long, put_collecting y.table t (entry.Collecting (p ∷ ps) []));
          spare = omega (arith, l.spare, less, long, put_tabled y.table t (entry.Collecting (p ∷ ps) []));
          headed = l.headed;
        }

    pub light_commit : IsAsked (coord_commit c y t parts)
    light_commit = by (look y.table t) refl
      where
        by : (o : Option Entry) → look y.table t ≡ o → IsAsked (commit_entry c y t parts o)
        by None e = asked y stays
        by (Some entry.Idle) e = collects parts refl e
        by (Some (entry.Collecting ps yeses)) e = asked y stays
        by (Some (entry.Committed ms acks)) e = asked y stays

  pub light_abort : (t : ℕ) (parts : List Part) → LightCoord (30 + k) g z (coord_abort c y t parts).state
  light_abort t parts = by (look y.table t)
    where
      by : (o : Option Entry) → LightCoord (30 + k) g z (abort_entry c y t parts o).state
      by None = stays
      by (Some entry.Idle) = leaves_table t
      by (Some (entry.Collecting ps yeses)) = stays
      by (Some (entry.Committed ms acks)) = stays

  light_yes : (t m : ℕ) → LightCoord (30 + k) g z (coord_vote c y t m true).state
  light_yes t m = by (look y.table t) refl
    where
      decides : (parts : List Part) (yeses : List ℕ) → look y.table t ≡ Some (entry.Collecting parts yeses) → (o : Option ℕ) →
          LightCoord (30 + k) g z (decided_by c y t parts (m ∷ yeses) o).state
      decides parts yeses e (Some j) =
          record {
            bytes = omega (arith, l.bytes, put_collecting y.table t (entry.Collecting parts (m ∷ yeses)), ap (held collecting_weight t) e);
            spare = omega (arith, l.spare, put_tabled y.table t (entry.Collecting parts (m ∷ yeses)), ap (held entry_weight t) e);
            headed = l.headed;
          }
      decides parts yeses e None =
          let long : length (members_of parts) ≡ length parts = length-map parts (λ (p : Part). p.member) in
          coord_light_ends (30 + k) g z c (with_table y (put y.table t (entry.Committed (members_of parts) []))) (log.Commit t (members_of parts) ∷ []) answer.Committed
          (decisions_to c t true (members_of parts))
          (omega (arith, l.bytes, put_collecting y.table t (entry.Committed (members_of parts) []), ap (held collecting_weight t) e, commit_bytes t (members_of parts), long))
          (omega (arith, l.spare, put_tabled y.table t (entry.Committed (members_of parts) []), ap (held entry_weight t) e, long))
          l.headed (outcome_of y.log.armed 4)

      counts : (parts : List Part) (yeses : List ℕ) → look y.table t ≡ Some (entry.Collecting parts yeses) → (b : Bool) →
          LightCoord (30 + k) g z (if b then decided_by c y t parts (m ∷ yeses) (first_lacking (members_of parts) (m ∷ yeses)) else waits y parts yeses).state
      counts parts yeses e true = decides parts yeses e (first_lacking (members_of parts) (m ∷ yeses))
      counts parts yeses e false = stays

      by : (o : Option Entry) → look y.table t ≡ o → LightCoord (30 + k) g z (yes_entry c y t m o).state
      by None e = stays
      by (Some entry.Idle) e = stays
      by (Some (entry.Collecting parts yeses)) e = counts parts yeses e (has_part parts m && not (has_number yeses m))
      by (Some (entry.Committed members acks)) e = stays

  light_no : (t m : ℕ) → LightCoord (30 + k) g z (coord_vote c y t m false).state
  light_no t m = by (look y.table t)
    where
      counts : (parts : List Part) (yeses : List ℕ) (b : Bool) → LightCoord (30 + k) g z (if b then aborts c y t cause.Vote parts else waits y parts yeses).state
      counts parts yeses true = leaves_table t
      counts parts yeses false = stays

      by : (o : Option Entry) → LightCoord (30 + k) g z (no_entry c y t m o).state
      by None = stays
      by (Some entry.Idle) = stays
      by (Some (entry.Collecting parts yeses)) = counts parts yeses (has_part parts m)
      by (Some (entry.Committed members acks)) = stays

  light_asked : (t m : ℕ) → LightCoord (30 + k) g z (coord_ask c y t m).state
  light_asked t m = by (look y.table t)
    where
      by : (o : Option Entry) → LightCoord (30 + k) g z (ask_entry c y t m o).state
      by None = stays
      by (Some entry.Idle) = stays
      by (Some (entry.Collecting parts yeses)) = stays
      by (Some (entry.Committed members acks)) = stays

  light_ack : (t m : ℕ) → LightCoord (30 + k) g z (coord_ack y t m).state
  light_ack t m = by (look y.table t) refl
    where
      ends : (members acks : List ℕ) → look y.table t ≡ Some (entry.Committed members acks) → (o : Option ℕ) → LightCoord (30 + k) g z (ended_by y t members (m ∷ acks) o).state
      ends members acks e (Some j) =
          record {
            bytes = omega (arith, l.bytes, put_collecting y.table t (entry.Committed members (m ∷ acks)));
            spare = omega (arith, l.spare, put_tabled y.table t (entry.Committed members (m ∷ acks)), ap (held entry_weight t) e);
            headed = l.headed;
          }
      ends members acks e None =
          record {
            bytes = omega (arith, l.bytes, out_collecting y.table t, end_bytes t);
            spare = omega (arith, l.spare, out_tabled y.table t);
            headed = l.headed;
          }

      counts : (members acks : List ℕ) → look y.table t ≡ Some (entry.Committed members acks) → (b : Bool) →
          LightCoord (30 + k) g z (if b then ended_by y t members (m ∷ acks) (first_lacking members (m ∷ acks)) else coord_says y answer.Decided).state
      counts members acks e true = ends members acks e (first_lacking members (m ∷ acks))
      counts members acks e false = stays

      by : (o : Option Entry) → look y.table t ≡ o → LightCoord (30 + k) g z (ack_entry y t m o).state
      by None e = stays
      by (Some entry.Idle) e = stays
      by (Some (entry.Collecting parts yeses)) e = stays
      by (Some (entry.Committed members acks)) e = counts members acks e (has_number members m && not (has_number acks m))

  pub light_timer : (t : ℕ) → LightCoord (30 + k) g z (coord_timer c y t).state
  light_timer t = by (look y.table t)
    where
      by : (o : Option Entry) → LightCoord (30 + k) g z (timer_entry c y t o).state
      by None = stays
      by (Some entry.Idle) = leaves_table t
      by (Some (entry.Collecting parts yeses)) = leaves_table t
      by (Some (entry.Committed members acks)) = stays

  pub light_resend : (t : ℕ) → LightCoord (30 + k) g z (coord_resend c y t).state
  light_resend t = by (look y.table t)
    where
      by : (o : Option Entry) → LightCoord (30 + k) g z (resend_entry c y t o).state
      by None = stays
      by (Some entry.Idle) = stays
      by (Some (entry.Collecting parts yeses)) = stays
      by (Some (entry.Committed members acks)) = stays

  pub light_delivery : (note : Message) → LightCoord (30 + k) g z (coord_deliver c y note).state
  light_delivery (message.Vote t m coord true) = light_yes t m
  light_delivery (message.Vote t m coord false) = light_no t m
  light_delivery (message.Ask t m coord) = light_asked t m
  light_delivery (message.Ack t m coord) = light_ack t m
  light_delivery (message.Prepare t coord m count) = stays
  light_delivery (message.Decide t coord m commit) = stays

  pub light_crash : LightCoord (30 + k) g z (coord_crash y).state
  light_crash = coord_light_down (30 + k) g z y.log (omega (arith, stable_bytes)) stable_headers

  pub light_restart : LightCoord (30 + k) g z (coord_restart y).state
  light_restart = by y.up
    where
      by : (b : Bool) → LightCoord (30 + k) g z (coord_restart_by y b).state
      by true = stays
      by false = let s = stays in record { bytes = s.bytes; spare = s.spare; headed = s.headed }

  pub light_arming : (call : ℕ) (leaves : Leaves) → LightCoord (30 + k) g z (coord_arm y call leaves).state
  light_arming call leaves = let s = stays in record { bytes = s.bytes; spare = s.spare; headed = s.headed }

  pub light_disarmed : LightCoord (30 + k) g z (with_coord_log y (with_stop y.log None))
  light_disarmed = let s = stays in record { bytes = s.bytes; spare = s.spare; headed = s.headed }

  pub light_checkpoint : LightCoord (30 + k) (suc g) z (coord_checkpoint c y).state
  light_checkpoint = by y.log.spare_closed
    where
      generation : ℕ
      generation = next_generation (generation_of y.log.stable)

      up_one : generation ≤ suc g
      up_one = omega (arith, generation_bound y.log.stable, stable_headers)

      filled : log_bytes (coord_spare c y generation) + collecting y.table + z ≤ 30 + k
      filled = omega (arith, l.spare, commits_bytes (log.Header (node.Coord c) generation ∷ []) (entries y.table), header_bytes (node.Coord c) generation)

      headed : headers (coord_spare c y generation) ≤ suc g
      headed = omega (arith, commits_headers (log.Header (node.Coord c) generation ∷ []) (entries y.table), up_one)

      stopped : (call : ℕ) (b : Bool) → LightCoord (30 + k) (suc g) z (coord_stopped_fill c y generation call b).state
      stopped call true = coord_light_down (30 + k) (suc g) z (with_filled_spare y.log (coord_spare c y generation)) (omega (arith, filled)) headed
      stopped call false = coord_light_down (30 + k) (suc g) z y.log (omega (arith, stable_bytes)) (omega (arith, stable_headers))

      fills : (o : Outcome) → LightCoord (30 + k) (suc g) z (coord_fill_by c y generation o).state
      fills Completes = record { bytes = filled; spare = omega (arith, l.spare); headed = headed }
      fills (StopsAt call leaves) = stopped call (batch_is_stable call leaves)

      closes : (o : Outcome) → LightCoord (30 + k) (suc g) z (coord_close_by y o).state
      closes Completes = record { bytes = omega (arith, l.bytes); spare = omega (arith, l.spare); headed = omega (arith, l.headed) }
      closes (StopsAt call leaves) = coord_light_down (30 + k) (suc g) z (with_spare y.log (closes_spare leaves)) (omega (arith, stable_bytes)) (omega (arith, stable_headers))

      by : (b : Bool) → LightCoord (30 + k) (suc g) z (coord_checkpoint_by c y b).state
      by false = closes (outcome_of y.log.armed 2)
      by true = fills (outcome_of y.log.armed 4)
