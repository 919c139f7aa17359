-- What a coordinator sends names it, and it is the home of the transaction.
use Rattle.std.proofs.Common.{◌≡◌, ◌⊎◌, inl, inr, ℕ, Bool, true, false, not, ◌&&◌, if◌then◌else◌, List, [], ◌∷◌, Option, None, Some, refl}
use Rattle.std.proofs.lemmas.Bool.{and_parts}
use Rattle.std.specs.List.{AllByRecursion}
use Rattle.co_base.specs.declared.part.Part.{Part}
use Rattle.co_message.specs.declared.answer.Answer.{Answer}
use Rattle.co_message.specs.declared.answer.Answer.TheVariants as answer
use Rattle.co_message.specs.declared.answer.Cause.TheVariants as cause
use Rattle.co_message.specs.declared.message.Message.{Message}
use Rattle.co_record.specs.declared.record.Record.{Record}
use Rattle.co_record.specs.declared.record.Record.TheVariants as log
use Rattle.co_frame.specs.Gate.{batch_is_stable}
use Rattle.co_state.specs.Table.{look, put, without}
use Rattle.co_plain.specs.declared.coord_state.CoordState.{CoordState}
use Rattle.co_plain.specs.declared.coord_state.Entry.{Entry}
use Rattle.co_plain.specs.declared.coord_state.Entry.TheVariants as entry
use Rattle.co_plain.specs.declared.coord_step.CoordStep.{CoordStep}
use Rattle.co_plain.specs.declared.outcome.Outcome.{Outcome}
use Rattle.co_plain.specs.declared.outcome.Outcome.TheVariants.{Completes, StopsAt}
use Rattle.co_plain.specs.Numbers.{first_lacking, has_number, numbers_lacking, next_generation}
use Rattle.co_plain.specs.LogWrite.{outcome_of, generation_of}
use Rattle.co_plain.specs.CoordStep.{coord_says, with_table, has_part, members_of, stopped_coord, coord_forced_by, force_coord}
use Rattle.co_plain.specs.Coordinator.{prepares_to, decisions_to, parts_lacking, ask_commit, commit_entry, coord_commit, aborts, abort_entry, coord_abort, waits, decided_by, yes_entry, no_entry, coord_vote, ask_entry, coord_ask, ended_by, ack_entry, coord_ack, timer_entry, coord_timer, resend_entry, coord_resend}
use Rattle.co_plain.specs.CoordLog.{coord_stopped_fill, coord_fill_by, coord_close_by, coord_checkpoint_by, coord_checkpoint, coord_restart_by, coord_restart}
use Rattle.co_plain.specs.Decisions.{is_decided}
use Rattle.co_plain.specs.Federation.{Federation}
use Rattle.co_plain.specs.SoundLogs.{unended_in}
use Rattle.co_law_base.proofs.Facts.{rest_of, by_coord, Begun, OpenEntry, Facts}
use Rattle.co_law_moves.proofs.KeptFrom.{belongs_is}
use Rattle.co_law.specs.MessageHomes.{IsHome, Belongs, CommittedBefore, NamesHome}

-- what one step of a coordinator sends
abbrev pub CoordNames : Federation → CoordStep → Type 0
CoordNames s did = AllByRecursion (NamesHome s) did.sent

module _ (s : Federation) (f : Facts s) (c : ℕ) where
  prepares : (t : ℕ) (parts : List Part) → IsHome s t c → AllByRecursion (NamesHome s) (prepares_to c t parts)
  prepares t [] home = tt
  prepares t (p ∷ ps) home = (home, prepares t ps home)

  decisions : (t : ℕ) (commit : Bool) (members : List ℕ) → IsHome s t c → AllByRecursion (NamesHome s) (decisions_to c t commit members)
  decisions t commit [] home = tt
  decisions t commit (m ∷ ms) home = (home, decisions t commit ms home)

  -- who is in the table is at home there
  open_home : (t : ℕ) → OpenEntry (rest_of s) c (s.coord c).log.stable t → IsHome s t c
  open_home t o = Belongs (belongs_is s t c (Begun o.begun_there))

  entry_home : (t : ℕ) (e : Entry) → look (s.coord c).table t ≡ Some e → IsHome s t c
  entry_home t entry.Idle e = open_home t ((f.coords c).idle t e)
  entry_home t (entry.Collecting parts yeses) e = open_home t ((f.coords c).collecting t parts yeses e).still
  entry_home t (entry.Committed members acks) e = by ((f.coords c).unended_known t members ((f.coords c).committed t members acks e).recorded)
    where
      by : ((by_coord (look s.sessions t) c && is_decided s.decided t) ≡ true) ⊎ (unended_in (s.opened_coord c) t ≡ Some members) → IsHome s t c
      by (inl p) = Belongs (belongs_is s t c (Begun (and_parts (by_coord (look s.sessions t) c) (is_decided s.decided t) p).0))
      by (inr o) = CommittedBefore members o

  forced : (next : CoordState) (batch : List Record) (a : Answer) (notes : List Message) → AllByRecursion (NamesHome s) notes → CoordNames s (force_coord c next batch a notes)
  forced next batch a notes h = by (outcome_of next.log.armed 4)
    where
      stopped : (call : ℕ) (b : Bool) → CoordNames s (stopped_coord c next call b batch)
      stopped call true = tt
      stopped call false = tt

      by : (o : Outcome) → CoordNames s (coord_forced_by c next batch a notes o)
      by Completes = h
      by (StopsAt call leaves) = stopped call (batch_is_stable call leaves)

  pub names_commit : (t : ℕ) (parts : List Part) → CoordNames s (coord_commit c (s.coord c) t parts)
  names_commit t parts = by (look (s.coord c).table t) refl
    where
      asked : (ps : List Part) → IsHome s t c → CoordNames s (ask_commit c (s.coord c) t ps)
      asked [] home = forced (with_table (s.coord c) (without (s.coord c).table t)) (log.Commit t [] ∷ []) answer.Committed [] tt
      asked (p ∷ ps) home = prepares t (p ∷ ps) home

      by : (o : Option Entry) → look (s.coord c).table t ≡ o → CoordNames s (commit_entry c (s.coord c) t parts o)
      by None e = tt
      by (Some entry.Idle) e = asked parts (entry_home t entry.Idle e)
      by (Some (entry.Collecting ps yeses)) e = tt
      by (Some (entry.Committed ms acks)) e = tt

  pub names_abort : (t : ℕ) (parts : List Part) → CoordNames s (coord_abort c (s.coord c) t parts)
  names_abort t parts = by (look (s.coord c).table t) refl
    where
      by : (o : Option Entry) → look (s.coord c).table t ≡ o → CoordNames s (abort_entry c (s.coord c) t parts o)
      by None e = tt
      by (Some entry.Idle) e = decisions t false (members_of parts) (entry_home t entry.Idle e)
      by (Some (entry.Collecting ps yeses)) e = tt
      by (Some (entry.Committed ms acks)) e = tt

  pub names_counted : (t m : ℕ) (granted : Bool) → CoordNames s (coord_vote c (s.coord c) t m granted)
  names_counted t m true = by (look (s.coord c).table t) refl
    where
      counts : (parts : List Part) (yeses : List ℕ) (lacking : Option ℕ) → IsHome s t c → CoordNames s (decided_by c (s.coord c) t parts yeses lacking)
      counts parts yeses (Some k) home = tt
      counts parts yeses None home =
          forced (with_table (s.coord c) (put (s.coord c).table t (entry.Committed (members_of parts) []))) (log.Commit t (members_of parts) ∷ []) answer.Committed
          (decisions_to c t true (members_of parts)) (decisions t true (members_of parts) home)

      counted : (parts : List Part) (yeses : List ℕ) (b : Bool) → IsHome s t c →
          CoordNames s (if b then decided_by c (s.coord c) t parts (m ∷ yeses) (first_lacking (members_of parts) (m ∷ yeses)) else waits (s.coord c) parts yeses)
      counted parts yeses true home = counts parts (m ∷ yeses) (first_lacking (members_of parts) (m ∷ yeses)) home
      counted parts yeses false home = tt

      by : (o : Option Entry) → look (s.coord c).table t ≡ o → CoordNames s (yes_entry c (s.coord c) t m o)
      by None e = tt
      by (Some entry.Idle) e = tt
      by (Some (entry.Collecting parts yeses)) e = counted parts yeses (has_part parts m && not (has_number yeses m)) (entry_home t (entry.Collecting parts yeses) e)
      by (Some (entry.Committed ms acks)) e = tt
  names_counted t m false = by (look (s.coord c).table t) refl
    where
      counted : (parts : List Part) (yeses : List ℕ) (b : Bool) → IsHome s t c → CoordNames s (if b then aborts c (s.coord c) t cause.Vote parts else waits (s.coord c) parts yeses)
      counted parts yeses true home = decisions t false (members_of parts) home
      counted parts yeses false home = tt

      by : (o : Option Entry) → look (s.coord c).table t ≡ o → CoordNames s (no_entry c (s.coord c) t m o)
      by None e = tt
      by (Some entry.Idle) e = tt
      by (Some (entry.Collecting parts yeses)) e = counted parts yeses (has_part parts m) (entry_home t (entry.Collecting parts yeses) e)
      by (Some (entry.Committed ms acks)) e = tt

  -- who is unknown is aborted towards its own coordinator, since it asked this one
  pub names_answer : (t m : ℕ) → IsHome s t c → CoordNames s (coord_ask c (s.coord c) t m)
  names_answer t m home = by (look (s.coord c).table t)
    where
      by : (o : Option Entry) → CoordNames s (ask_entry c (s.coord c) t m o)
      by None = (home, tt)
      by (Some entry.Idle) = tt
      by (Some (entry.Collecting parts yeses)) = tt
      by (Some (entry.Committed ms acks)) = (home, tt)

  pub names_acknowledged : (t m : ℕ) → CoordNames s (coord_ack (s.coord c) t m)
  names_acknowledged t m = by (look (s.coord c).table t)
    where
      ended : (ms acks : List ℕ) (lacking : Option ℕ) → CoordNames s (ended_by (s.coord c) t ms acks lacking)
      ended ms acks (Some k) = tt
      ended ms acks None = tt

      counted : (ms acks : List ℕ) (b : Bool) → CoordNames s (if b then ended_by (s.coord c) t ms (m ∷ acks) (first_lacking ms (m ∷ acks)) else coord_says (s.coord c) answer.Decided)
      counted ms acks true = ended ms (m ∷ acks) (first_lacking ms (m ∷ acks))
      counted ms acks false = tt

      by : (o : Option Entry) → CoordNames s (ack_entry (s.coord c) t m o)
      by None = tt
      by (Some entry.Idle) = tt
      by (Some (entry.Collecting parts yeses)) = tt
      by (Some (entry.Committed ms acks)) = counted ms acks (has_number ms m && not (has_number acks m))

  pub names_timer : (t : ℕ) → CoordNames s (coord_timer c (s.coord c) t)
  names_timer t = by (look (s.coord c).table t) refl
    where
      by : (o : Option Entry) → look (s.coord c).table t ≡ o → CoordNames s (timer_entry c (s.coord c) t o)
      by None e = tt
      by (Some entry.Idle) e = tt
      by (Some (entry.Collecting parts yeses)) e = decisions t false (members_of parts) (entry_home t (entry.Collecting parts yeses) e)
      by (Some (entry.Committed ms acks)) e = tt

  pub names_resent : (t : ℕ) → CoordNames s (coord_resend c (s.coord c) t)
  names_resent t = by (look (s.coord c).table t) refl
    where
      by : (o : Option Entry) → look (s.coord c).table t ≡ o → CoordNames s (resend_entry c (s.coord c) t o)
      by None e = tt
      by (Some entry.Idle) e = tt
      by (Some (entry.Collecting parts yeses)) e = prepares t (parts_lacking parts yeses) (entry_home t (entry.Collecting parts yeses) e)
      by (Some (entry.Committed ms acks)) e = decisions t true (numbers_lacking ms acks) (entry_home t (entry.Committed ms acks) e)

  pub names_restart : CoordNames s (coord_restart (s.coord c))
  names_restart = by (s.coord c).up
    where
      by : (b : Bool) → CoordNames s (coord_restart_by (s.coord c) b)
      by true = tt
      by false = tt

  pub names_checkpoint : CoordNames s (coord_checkpoint c (s.coord c))
  names_checkpoint = by (s.coord c).log.spare_closed
    where
      stopped : (generation call : ℕ) (b : Bool) → CoordNames s (coord_stopped_fill c (s.coord c) generation call b)
      stopped generation call true = tt
      stopped generation call false = tt

      fills : (generation : ℕ) (o : Outcome) → CoordNames s (coord_fill_by c (s.coord c) generation o)
      fills generation Completes = tt
      fills generation (StopsAt call leaves) = stopped generation call (batch_is_stable call leaves)

      closes : (o : Outcome) → CoordNames s (coord_close_by (s.coord c) o)
      closes Completes = tt
      closes (StopsAt call leaves) = tt

      by : (b : Bool) → CoordNames s (coord_checkpoint_by c (s.coord c) b)
      by false = closes (outcome_of (s.coord c).log.armed 2)
      by true = fills (next_generation (generation_of (s.coord c).log.stable)) (outcome_of (s.coord c).log.armed 4)
