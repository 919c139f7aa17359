-- What a client does is its list of moves.
use Rattle.std.proofs.Common.{◌≡◌, ◌≢◌, inl, ℕ, Bool, true, false, not, ◌==◌, if◌then◌else◌, List, [], ◌∷◌, Option, None, Some, refl, sym, ap, ◌∙◌, subst}
use Rattle.std.proofs.lemmas.Bool.{eqb-true, eqb-false, or_left, eq-eqb}
use Rattle.co_base.specs.declared.node.Node.TheVariants as node
use Rattle.co_base.specs.declared.op.Op.{Op}
use Rattle.co_base.specs.declared.part.Part.{Part}
use Rattle.co_base.specs.Limits.{most_operations}
use Rattle.co_message.specs.declared.answer.Answer.TheVariants as answer
use Rattle.co_message.specs.declared.answer.Cause.TheVariants as cause
use Rattle.co_record.specs.declared.record.Record.TheVariants as log
use Rattle.co_state.specs.Table.{look, put, without, holds}
use Rattle.co_state.specs.LockRule.{lock_blocker}
use Rattle.co_state.specs.VotingRule.{kept_count}
use Rattle.co_state.specs.Effects.{with_operation}
use Rattle.co_plain.specs.declared.coord_state.Entry.{Entry}
use Rattle.co_plain.specs.declared.coord_state.Entry.TheVariants as entry
use Rattle.co_plain.specs.declared.outcome.Outcome.{Outcome}
use Rattle.co_plain.specs.declared.outcome.Outcome.TheVariants.{Completes, StopsAt}
use Rattle.co_plain.specs.declared.session.Session.{Session}
use Rattle.co_plain.specs.LogWrite.{outcome_of, with_batch}
use Rattle.co_frame.specs.Gate.{batch_is_stable}
use Rattle.co_plain.specs.Numbers.{counted}
use Rattle.co_plain.specs.MemberStep.{says, with_engine}
use Rattle.co_plain.specs.Member.{unless_blocked, member_op}
use Rattle.co_plain.specs.CoordStep.{with_table, with_coord_log, stopped_coord, coord_forced_by}
use Rattle.co_plain.specs.Coordinator.{prepares_to, ask_commit, commit_entry, abort_entry}
use Rattle.co_plain.specs.Sessions.{parts_of, count_at, asked_to_end}
use Rattle.co_base.specs.Nodes.{same_node}
use Rattle.co_plain.specs.Federation.{Federation, with_session, with_coord, with_member, at_coord, at_member}
use Rattle.co_plain.specs.Step.{marked_asked, is_stopped, operated, entered, reply_in}
use Rattle.co_plain.specs.Decisions.{told_of, told_in, asked_in}
use Rattle.co_plain.specs.Moves.{Move, AskEnd, Collect, Decide, CrashCoord, effect, marked_over, with_decision, decide_entry, session_by_coord, entered_reply, may_operate_at}
use Rattle.co_law_base.proofs.Lookups.{put_here, found_holds}
use Rattle.co_law_base.proofs.Carrying.{at_here}
use Rattle.co_law_base.proofs.Facts.{rest_of, over, by_coord}
use Rattle.co_law_moves.proofs.CoordNotes.{prepares_allowed}
use Rattle.co_law_moves.specs.EventMoves.{sends, stopped_moves, decided_at_once, ask_commit_moves, commit_entry_moves, leave_moves, abort_entry_moves, unless_lock, operation_moves, where_up}
use Rattle.co_law_moves.proofs.Made.{all_prepares, MadeOver, no_move, one_more, made_from, coord_still, member_still, sends_made}
use Rattle.co_law_moves.proofs.CoordMade.{deciding_made, leave_made}
use Rattle.co_law_moves.specs.OwnGuards.{Logs}
use Rattle.co_law_moves.proofs.FactsOver.{FactsOver, coords_over, asks_over}

-- the session of who asked, at its coordinator
module _ (s : Federation) (t c : ℕ) (session : Session) where
  asked_here : look (put s.sessions t (asked_to_end session)) t ≡ Some (asked_to_end session)
  asked_here = put_here s.sessions t (asked_to_end session)

  over_asked : over (rest_of (with_session s t (asked_to_end session))) t ≡ true
  over_asked = or_left (asked_in (look (put s.sessions t (asked_to_end session)) t)) (holds s.used t) (ap asked_in asked_here)

  by_here : look s.sessions t ≡ Some session → session.by ≡ node.Coord c → by_coord (look s.sessions t) c ≡ true
  by_here e mine = ap (λ o. by_coord o c) e ∙ ap (λ k. same_node k (node.Coord c)) mine ∙ eq-eqb c c refl

  pub by_there : session.by ≡ node.Coord c → by_coord (look (put s.sessions t (asked_to_end session)) t) c ≡ true
  by_there mine = ap (λ o. by_coord o c) asked_here ∙ ap (λ k. same_node k (node.Coord c)) mine ∙ eq-eqb c c refl

-- the client asked, and then
pub ask_first : (l : Logs) (s : Federation) (t : ℕ) (session : Session) → look s.sessions t ≡ Some session → (moves : List Move) (z : Federation) → MadeOver l (with_session s t (asked_to_end session)) moves z → MadeOver l s (AskEnd t ∷ moves) z
ask_first l s t session e moves z r =
    one_more l s z (AskEnd t) moves (found_holds s.sessions t session e)
    (made_from l (effect s (AskEnd t)) (with_session s t (asked_to_end session)) moves z (ap (marked_over s t) e) r)

module _ (l : Logs) (s : Federation) (f : FactsOver l s) (t c : ℕ) (session : Session) (e : look s.sessions t ≡ Some session) (mine : session.by ≡ node.Coord c) where
  f1 : FactsOver l (with_session s t (asked_to_end session))
  f1 = asks_over l s f t session e

  found : look (put s.sessions t (asked_to_end session)) t ≡ Some (asked_to_end session)
  found = put_here s.sessions t (asked_to_end session)

  still1 : MadeOver l s (AskEnd t ∷ []) (with_coord (with_session s t (asked_to_end session)) c (s.coord c))
  still1 = ask_first l s t session e [] (with_coord (with_session s t (asked_to_end session)) c (s.coord c)) (coord_still l (with_session s t (asked_to_end session)) c)

  at_once : (z : Federation) → look (z.coord c).table t ≡ Some entry.Idle →
      effect z (Decide t c) ≡ with_decision (with_coord z c (with_coord_log (with_table (z.coord c) (without (z.coord c).table t)) (with_batch (z.coord c).log (log.Commit t [] ∷ [])))) t
  at_once z i = ap (λ o. with_decision (with_coord z c (decide_entry (z.coord c) t o)) t) i

  none_told : parts_of session.told ≡ [] → (o : Outcome) → look (s.coord c).table t ≡ Some entry.Idle →
      MadeOver l s (decided_at_once t c o) (at_coord (marked_asked s t session (not (is_stopped (coord_forced_by c (with_table (s.coord c) (without (s.coord c).table t)) (log.Commit t [] ∷ []) answer.Committed [] o).answer))) c
      (coord_forced_by c (with_table (s.coord c) (without (s.coord c).table t)) (log.Commit t [] ∷ []) answer.Committed [] o)).state
  none_told p Completes i =
      ask_first l s t session e (Decide t c ∷ []) (at_coord (with_session s t (asked_to_end session)) c (coord_forced_by c (with_table (s.coord c) (without (s.coord c).table t)) (log.Commit t [] ∷ []) answer.Committed [] Completes)).state
      (deciding_made l (with_session s t (asked_to_end session)) c t f1 (with_table (s.coord c) (without (s.coord c).table t)) [] answer.Committed [] refl (by_there s t c session mine)
      (inl (i, ap (λ o. parts_of (told_in o)) found ∙ p)) (at_once (with_session s t (asked_to_end session)) i) tt Completes)
  none_told p (StopsAt call leaves) i =
      by (batch_is_stable call leaves)
      (deciding_made l s c t f (with_table (s.coord c) (without (s.coord c).table t)) [] answer.Committed [] refl (by_here s t c session e mine)
      (inl (i, ap (λ o. parts_of (told_in o)) e ∙ p)) (at_once s i) tt (StopsAt call leaves))
    where
      by : (b : Bool) → MadeOver l s (stopped_moves (Decide t c) (CrashCoord c) b) (at_coord s c (stopped_coord c (with_table (s.coord c) (without (s.coord c).table t)) call b (log.Commit t [] ∷ []))).state →
          MadeOver l s (stopped_moves (Decide t c) (CrashCoord c) b) (at_coord (marked_asked s t session (not (is_stopped (stopped_coord c (with_table (s.coord c) (without (s.coord c).table t)) call b (log.Commit t [] ∷ [])).answer))) c
          (stopped_coord c (with_table (s.coord c) (without (s.coord c).table t)) call b (log.Commit t [] ∷ []))).state
      by true h = h
      by false h = h

  abbrev s1 : Federation
  s1 = with_session s t (asked_to_end session)

  abbrev collecting : List Part → Federation
  collecting ps = with_coord (with_session s t (asked_to_end session)) c (with_table (s.coord c) (put (s.coord c).table t (entry.Collecting ps [])))

  abbrev asked_for : Part → List Part → Federation
  asked_for p ps = (at_coord (with_session s t (asked_to_end session)) c (ask_commit c (s.coord c) t (p ∷ ps))).state

  some_told : (p : Part) (ps : List Part) → parts_of session.told ≡ p ∷ ps → look (s.coord c).table t ≡ Some entry.Idle →
      MadeOver l s (ask_commit_moves (s.coord c) t c (p ∷ ps)) (at_coord (with_session s t (asked_to_end session)) c (ask_commit c (s.coord c) t (p ∷ ps))).state
  some_told p ps q i =
      ask_first l s t session e (Collect t c ∷ sends (prepares_to c t (p ∷ ps))) (asked_for p ps)
      (one_more l s1 (asked_for p ps) (Collect t c) (sends (prepares_to c t (p ∷ ps)))
      (i, subst (λ o. session_by_coord o c) (sym found) mine, ap asked_in found, λ n. let r : p ∷ ps ≡ [] = sym same ∙ n in cc)
      (made_from l (effect s1 (Collect t c)) (collecting (p ∷ ps)) (sends (prepares_to c t (p ∷ ps))) (asked_for p ps)
      (ap (λ parts. with_coord s1 c (with_table (s.coord c) (put (s.coord c).table t (entry.Collecting parts [])))) same)
      (sends_made l (collecting (p ∷ ps)) [] (prepares_to c t (p ∷ ps)) refl
      (all_prepares l (collecting (p ∷ ps)) t c (p ∷ ps)
      (prepares_allowed (collecting (p ∷ ps)) t c (p ∷ ps) []
      (ap (λ y. look y.table t) (at_here s.coord c (with_table (s.coord c) (put (s.coord c).table t (entry.Collecting (p ∷ ps) [])))) ∙ put_here (s.coord c).table t (entry.Collecting (p ∷ ps) []))
      (sym same))))))
    where
      same : parts_of (told_of (with_session s t (asked_to_end session)) t) ≡ p ∷ ps
      same = ap (λ o. parts_of (told_in o)) found ∙ q

  asks : (ps : List Part) → parts_of session.told ≡ ps → look (s.coord c).table t ≡ Some entry.Idle →
      MadeOver l s (ask_commit_moves (s.coord c) t c ps) (at_coord (marked_asked s t session (not (is_stopped (ask_commit c (s.coord c) t ps).answer))) c (ask_commit c (s.coord c) t ps)).state
  asks [] q i = none_told q (outcome_of (s.coord c).log.armed 4) i
  asks (p ∷ ps) q i = some_told p ps q i

  pub commit_made : (o : Option Entry) → look (s.coord c).table t ≡ o →
      MadeOver l s (commit_entry_moves (s.coord c) t c (parts_of session.told) o) (at_coord (marked_asked s t session (not (is_stopped (commit_entry c (s.coord c) t (parts_of session.told) o).answer))) c (commit_entry c (s.coord c) t (parts_of session.told) o)).state
  commit_made None i = still1
  commit_made (Some entry.Idle) i = asks (parts_of session.told) refl i
  commit_made (Some (entry.Collecting parts yeses)) i = still1
  commit_made (Some (entry.Committed members acks)) i = still1

  pub abort_made : (o : Option Entry) → look (s.coord c).table t ≡ o →
      MadeOver l s (abort_entry_moves t c (parts_of session.told) o) (at_coord (marked_asked s t session (not (is_stopped (abort_entry c (s.coord c) t (parts_of session.told) o).answer))) c (abort_entry c (s.coord c) t (parts_of session.told) o)).state
  abort_made None i = still1
  abort_made (Some entry.Idle) i =
      ask_first l s t session e (leave_moves t c (parts_of session.told)) (at_coord (with_session s t (asked_to_end session)) c (abort_entry c (s.coord c) t (parts_of session.told) (Some entry.Idle))).state
      (leave_made l (with_session s t (asked_to_end session)) c f1 t cause.Client (parts_of session.told) ((coords_over l (with_session s t (asked_to_end session)) f1 c).idle t i) (over_asked s t c session) (inl i))
  abort_made (Some (entry.Collecting parts yeses)) i = still1
  abort_made (Some (entry.Committed members acks)) i = still1

-- an operation
module _ (l : Logs) (s : Federation) (f : FactsOver l s) (t m : ℕ) (o : Op) (session : Session) (e : look s.sessions t ≡ Some session) (may : may_operate_at (Some session) m) where
  blocked_made : (z : Option ℕ) → lock_blocker (s.member m).engine t o ≡ z → kept_count (s.member m).engine t ≡ count_at session.told m → count_at session.told m ≢ most_operations →
      MadeOver l s (unless_lock t m o z) (at_member (entered s t session m o (reply_in (unless_blocked (s.member m) t o z).answer)) m (unless_blocked (s.member m) t o z)).state
  blocked_made (Some u) b k n = member_still l s m
  blocked_made None b k n =
      record {
        same = ap (λ z. with_member (entered_reply s t m o z) m (with_engine (s.member m) (with_operation (s.member m).engine t o))) e;
        guards = ((subst (λ z. may_operate_at z m) (sym e) may, k ∙ sym (ap (λ z. count_at (told_in z) m) e), (λ q. n (sym (ap (λ z. count_at (told_in z) m) e) ∙ q)), b), tt);
      }

  full_made : (b : Bool) → (count_at session.told m == most_operations) ≡ b → kept_count (s.member m).engine t ≡ count_at session.told m →
      MadeOver l s (if b then [] else unless_lock t m o (lock_blocker (s.member m).engine t o))
      (at_member (entered s t session m o (reply_in (if b then says (s.member m) answer.TooMany else unless_blocked (s.member m) t o (lock_blocker (s.member m).engine t o)).answer)) m
      (if b then says (s.member m) answer.TooMany else unless_blocked (s.member m) t o (lock_blocker (s.member m).engine t o))).state
  full_made true b k = member_still l s m
  full_made false b k = blocked_made (lock_blocker (s.member m).engine t o) refl k (eqb-false (count_at session.told m) most_operations b)

  kept_made : (b : Bool) → (kept_count (s.member m).engine t == count_at session.told m) ≡ b →
      MadeOver l s (if b then (if count_at session.told m == most_operations then [] else unless_lock t m o (lock_blocker (s.member m).engine t o)) else [])
      (at_member (entered s t session m o (reply_in (if b
      then (if count_at session.told m == most_operations then says (s.member m) answer.TooMany else unless_blocked (s.member m) t o (lock_blocker (s.member m).engine t o))
      else says (s.member m) (answer.Gone (counted (kept_count (s.member m).engine t)) (counted (count_at session.told m)))).answer)) m
      (if b
      then (if count_at session.told m == most_operations then says (s.member m) answer.TooMany else unless_blocked (s.member m) t o (lock_blocker (s.member m).engine t o))
      else says (s.member m) (answer.Gone (counted (kept_count (s.member m).engine t)) (counted (count_at session.told m))))).state
  kept_made false b = member_still l s m
  kept_made true b = full_made (count_at session.told m == most_operations) refl (eqb-true (kept_count (s.member m).engine t) (count_at session.told m) b)

  pub operation_made : (up : Bool) → MadeOver l s (where_up up (operation_moves (s.member m) t m o (count_at session.told m))) (operated s t session m o up (member_op (s.member m) t (count_at session.told m) o)).state
  operation_made false = no_move l s
  operation_made true = kept_made (kept_count (s.member m).engine t == count_at session.told m) refl
