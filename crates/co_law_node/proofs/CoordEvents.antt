-- Each event keeps a coordinator whole.
use Rattle.std.proofs.Common.{◌≡◌, ◌≢◌, ℕ, Bool, true, false, not, ◌&&◌, ◌≤◌, if◌then◌else◌, List, [], ◌∷◌, ◌++◌, length, reverse, Option, None, Some, refl, sym, ap, ◌∙◌, arith}
use Rattle.std.specs.Option.{is_some}
use Rattle.co_base.specs.declared.leaves.Leaves.{Leaves}
use Rattle.co_base.specs.declared.node.Node.TheVariants as node
use Rattle.co_base.specs.declared.part.Part.{Part}
use Rattle.co_message.specs.declared.answer.Answer.TheVariants as answer
use Rattle.co_message.specs.declared.answer.Cause.TheVariants as cause
use Rattle.co_record.specs.declared.record.Record.{Record}
use Rattle.co_record.specs.declared.record.Record.TheVariants as log
use Rattle.co_state.specs.Table.{look, put, without}
use Rattle.co_plain.specs.declared.coord_state.CoordState.{CoordState}
use Rattle.co_plain.specs.declared.coord_state.Entry.{Entry}
use Rattle.co_plain.specs.declared.coord_state.Entry.TheVariants as entry
use Rattle.co_plain.specs.Numbers.{first_lacking, has_number}
use Rattle.co_plain.specs.LogWrite.{with_stop}
use Rattle.co_plain.specs.CoordView.{has_commit_of, all_up_to, first_refused_at_coord}
use Rattle.co_plain.specs.CoordStep.{coord_says, with_coord_log, with_table, members_of, has_part}
use Rattle.co_plain.specs.Coordinator.{coord_begin, ask_commit, commit_entry, coord_commit, aborts, abort_entry, coord_abort, waits, decisions_to, decided_by, yes_entry, no_entry, coord_vote, ask_entry, coord_ask, ended_by, ack_entry, coord_ack, timer_entry, coord_timer, resend_entry, coord_resend}
use Rattle.co_plain.specs.CoordLog.{coord_crash, coord_restart_by, coord_restart, coord_arm}
use Rattle.co_plain.specs.Opening.{Found, opened_coord}
use Rattle.co_plain.specs.SoundLogs.{unended_in}
use Rattle.co_law_engine.proofs.YesTells.{in_some}
use Rattle.co_law_node.specs.WholeCoords.{AreParticipants}
use Rattle.co_law_node.proofs.AllowedCommits.{may_commit, commits_from}
use Rattle.co_law_node.proofs.WholeTables.{WholeTable, coord_runs, none_unended, fits_put, fits_without, fits_end, fits_alone, fits_decided, fits_from, whole_coord_down, stable_commits, coord_alike, retabled, coord_forces}

some_members : (parts : List Part) → parts ≢ [] → members_of parts ≢ []
some_members [] n e = n refl
some_members (p ∷ ps) n e = absurd (let z : p.member ∷ members_of ps ≡ [] = e in cc)

module _ (members : ℕ) (y : CoordState) (w : WholeTable members y) where
  abbrev all : List Record
  all = y.log.waiting ++ y.log.stable

  behind : 1 ≤ length all
  behind = longer y.log.waiting y.log.stable w.headed
    where
      longer : (front rs : List Record) → 1 ≤ length rs → 1 ≤ length (front ++ rs)
      longer [] rs h = h
      longer (r ∷ front) rs h = omega arith

  pub whole_begin : (t : ℕ) → y.up ≡ true → has_commit_of all t ≡ false → WholeTable members (coord_begin y t).state
  whole_begin t u new = retabled members y w (put y.table t entry.Idle) u (fits_put members all y.table w.table t entry.Idle new (λ ms h. none_unended all t ms new h))

  -- a transaction leaves the table undecided
  leaves : (t : ℕ) → y.up ≡ true → has_commit_of all t ≡ false → WholeTable members (with_table y (without y.table t))
  leaves t u new = retabled members y w (without y.table t) u (fits_without members all y.table w.table t new)

  -- the client asks for the commit of an idle transaction
  asks : (c t : ℕ) (parts : List Part) → y.up ≡ true → has_commit_of all t ≡ false → all_up_to members (members_of parts) ≡ true → WholeTable members (ask_commit c y t parts).state
  asks c t [] u new up =
      coord_forces members c (with_table y (without y.table t)) (log.Commit t [] ∷ []) answer.Committed []
      (record {
        allowed = (may_commit members (length all) all t [] behind new refl, w.allowed);
        headed = w.headed;
        up = u;
        table = fits_alone members all y.table w.table t new;
      })
  asks c t (p ∷ ps) u new up =
      retabled members y w (put y.table t (entry.Collecting (p ∷ ps) [])) u
      (fits_put members all y.table w.table t (entry.Collecting (p ∷ ps) []) (new, ((λ e. absurd (let z : p ∷ ps ≡ [] = e in cc)), up)) (λ ms h. none_unended all t ms new h))

  pub whole_commit : (c t : ℕ) (parts : List Part) → y.up ≡ true → all_up_to members (members_of parts) ≡ true → WholeTable members (coord_commit c y t parts).state
  whole_commit c t parts u up = by (look y.table t) refl
    where
      by : (o : Option Entry) → look y.table t ≡ o → WholeTable members (commit_entry c y t parts o).state
      by None e = w
      by (Some entry.Idle) e = asks c t parts u (w.table.fits t entry.Idle e) up
      by (Some (entry.Collecting ps yeses)) e = w
      by (Some (entry.Committed ms acks)) e = w

  pub whole_abort : (c t : ℕ) (parts : List Part) → y.up ≡ true → WholeTable members (coord_abort c y t parts).state
  whole_abort c t parts u = by (look y.table t) refl
    where
      by : (o : Option Entry) → look y.table t ≡ o → WholeTable members (abort_entry c y t parts o).state
      by None e = w
      by (Some entry.Idle) e = leaves t u (w.table.fits t entry.Idle e)
      by (Some (entry.Collecting ps yeses)) e = w
      by (Some (entry.Committed ms acks)) e = w

  -- a yes is counted
  counts : (c t : ℕ) (parts : List Part) (yeses : List ℕ) (lacking : Option ℕ) → y.up ≡ true → (has_commit_of all t ≡ false) × AreParticipants members parts →
      WholeTable members (decided_by c y t parts yeses lacking).state
  counts c t parts yeses (Some m) u f =
      retabled members y w (put y.table t (entry.Collecting parts yeses)) u
      (fits_put members all y.table w.table t (entry.Collecting parts yeses) f (λ ms h. none_unended all t ms f.0 h))
  counts c t parts yeses None u f =
      coord_forces members c (with_table y (put y.table t (entry.Committed (members_of parts) []))) (log.Commit t (members_of parts) ∷ []) answer.Committed
      (decisions_to c t true (members_of parts))
      (record {
        allowed = (may_commit members (length all) all t (members_of parts) behind f.0 f.1.1, w.allowed);
        headed = w.headed;
        up = u;
        table = fits_decided members all y.table w.table t (members_of parts) f.0 (some_members parts f.1.0);
      })

  pub whole_coord_vote : (c t m : ℕ) (granted : Bool) → y.up ≡ true → WholeTable members (coord_vote c y t m granted).state
  whole_coord_vote c t m true u = by (look y.table t) refl
    where
      counted : (parts : List Part) (yeses : List ℕ) → (has_commit_of all t ≡ false) × AreParticipants members parts → (b : Bool) →
          WholeTable members (if b then decided_by c y t parts (m ∷ yeses) (first_lacking (members_of parts) (m ∷ yeses)) else waits y parts yeses).state
      counted parts yeses f true = counts c t parts (m ∷ yeses) (first_lacking (members_of parts) (m ∷ yeses)) u f
      counted parts yeses f false = w

      by : (o : Option Entry) → look y.table t ≡ o → WholeTable members (yes_entry c y t m o).state
      by None e = w
      by (Some entry.Idle) e = w
      by (Some (entry.Collecting parts yeses)) e = counted parts yeses (w.table.fits t (entry.Collecting parts yeses) e) (has_part parts m && not (has_number yeses m))
      by (Some (entry.Committed ms acks)) e = w
  whole_coord_vote c t m false u = by (look y.table t) refl
    where
      counted : (parts : List Part) (yeses : List ℕ) → has_commit_of all t ≡ false → (b : Bool) →
          WholeTable members (if b then aborts c y t cause.Vote parts else waits y parts yeses).state
      counted parts yeses f true = leaves t u f
      counted parts yeses f false = w

      by : (o : Option Entry) → look y.table t ≡ o → WholeTable members (no_entry c y t m o).state
      by None e = w
      by (Some entry.Idle) e = w
      by (Some (entry.Collecting parts yeses)) e = counted parts yeses (w.table.fits t (entry.Collecting parts yeses) e).0 (has_part parts m)
      by (Some (entry.Committed ms acks)) e = w

  pub whole_coord_question : (c t m : ℕ) → WholeTable members (coord_ask c y t m).state
  whole_coord_question c t m = by (look y.table t)
    where
      by : (o : Option Entry) → WholeTable members (ask_entry c y t m o).state
      by None = w
      by (Some entry.Idle) = w
      by (Some (entry.Collecting parts yeses)) = w
      by (Some (entry.Committed ms acks)) = w

  pub whole_acknowledgement : (t m : ℕ) → y.up ≡ true → WholeTable members (coord_ack y t m).state
  whole_acknowledgement t m u = by (look y.table t) refl
    where
      ended : (ms acks : List ℕ) (lacking : Option ℕ) → unended_in all t ≡ Some ms → WholeTable members (ended_by y t ms acks lacking).state
      ended ms acks (Some k) f =
          retabled members y w (put y.table t (entry.Committed ms acks)) u
          (fits_put members all y.table w.table t (entry.Committed ms acks) f (λ ns h. (acks, ap (λ z. entry.Committed z acks) (in_some (sym f ∙ h)))))
      ended ms acks None f =
          record {
            allowed = (ap is_some f, w.allowed);
            headed = w.headed;
            ends = w.ends;
            table = fits_end members all y.table w.table t;
            down = coord_runs y u;
          }

      counted : (ms acks : List ℕ) → unended_in all t ≡ Some ms → (b : Bool) →
          WholeTable members (if b then ended_by y t ms (m ∷ acks) (first_lacking ms (m ∷ acks)) else coord_says y answer.Decided).state
      counted ms acks f true = ended ms (m ∷ acks) (first_lacking ms (m ∷ acks)) f
      counted ms acks f false = w

      by : (o : Option Entry) → look y.table t ≡ o → WholeTable members (ack_entry y t m o).state
      by None e = w
      by (Some entry.Idle) e = w
      by (Some (entry.Collecting parts yeses)) e = w
      by (Some (entry.Committed ms acks)) e = counted ms acks (w.table.fits t (entry.Committed ms acks) e) (has_number ms m && not (has_number acks m))

  pub whole_coord_timer : (c t : ℕ) → y.up ≡ true → WholeTable members (coord_timer c y t).state
  whole_coord_timer c t u = by (look y.table t) refl
    where
      by : (o : Option Entry) → look y.table t ≡ o → WholeTable members (timer_entry c y t o).state
      by None e = w
      by (Some entry.Idle) e = leaves t u (w.table.fits t entry.Idle e)
      by (Some (entry.Collecting parts yeses)) e = leaves t u (w.table.fits t (entry.Collecting parts yeses) e).0
      by (Some (entry.Committed ms acks)) e = w

  pub whole_resending : (c t : ℕ) → WholeTable members (coord_resend c y t).state
  whole_resending c t = by (look y.table t)
    where
      by : (o : Option Entry) → WholeTable members (resend_entry c y t o).state
      by None = w
      by (Some entry.Idle) = w
      by (Some (entry.Collecting parts yeses)) = w
      by (Some (entry.Committed ms acks)) = w

  pub whole_coord_crash : WholeTable members (coord_crash y).state
  whole_coord_crash = whole_coord_down members y.log (stable_commits members y w) w.headed

  pub whole_coord_restart : WholeTable members (coord_restart y).state
  whole_coord_restart = by y.up
    where
      by : (b : Bool) → WholeTable members (coord_restart_by y b).state
      by true = w
      by false = coord_alike members y w true y.log.armed y.log.spare_closed (λ e. absurd (let z : true ≡ false = e in cc))

  pub whole_coord_arming : (call : ℕ) (leaves : Leaves) → y.up ≡ true → WholeTable members (coord_arm y call leaves).state
  whole_coord_arming call leaves u = coord_alike members y w y.up (Some (record { call = call; leaves = leaves })) y.log.spare_closed (coord_runs y u)

  pub whole_coord_disarmed : WholeTable members (with_coord_log y (with_stop y.log None))
  whole_coord_disarmed = coord_alike members y w y.up None y.log.spare_closed (λ e. ap (λ z. with_coord_log z (with_stop z.log None)) (w.down e))

-- an opened coordinator is whole
pub whole_coord_opened : (members c : ℕ) (found : Found) → first_refused_at_coord members (reverse found.records) ≡ None → WholeTable members (opened_coord c found)
whole_coord_opened members c found h = by found.records h
  where
    by : (rs : List Record) → first_refused_at_coord members (reverse rs) ≡ None →
        WholeTable members (opened_coord c (record { records = rs; spare_closed = found.spare_closed }))
    by [] a =
        record {
          allowed = (refl, tt);
          headed = omega arith;
          ends = tt;
          table = fits_from members (log.Header (node.Coord c) 1 ∷ []);
          down = λ e. absurd (let z : true ≡ false = e in cc);
        }
    by (r ∷ rs) a =
        record {
          allowed = commits_from members (r ∷ rs) a;
          headed = omega arith;
          ends = tt;
          table = fits_from members (r ∷ rs);
          down = λ e. absurd (let z : true ≡ false = e in cc);
        }
