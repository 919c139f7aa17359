-- Each event of a coordinator is its list of moves.
use Rattle.std.proofs.Common.{◌≡◌, ◌≢◌, ◌⊎◌, inl, inr, ℕ, Bool, true, false, not, ◌||◌, ◌&&◌, ◌==◌, if◌then◌else◌, List, [], ◌∷◌, Option, None, Some, refl, sym, ap, ◌∙◌, subst}
use Rattle.std.specs.Option.{is_some}
use Rattle.std.proofs.lemmas.Bool.{or_left, or_from, and_parts, eq-eqb, false_from_ne_true, or_cases, or_right}
use Rattle.co_base.specs.declared.node.Node.TheVariants as node
use Rattle.co_base.specs.declared.part.Part.{Part}
use Rattle.co_message.specs.declared.answer.Answer.{Answer}
use Rattle.co_message.specs.declared.answer.Answer.TheVariants as answer
use Rattle.co_message.specs.declared.answer.Cause.{Cause}
use Rattle.co_message.specs.declared.answer.Cause.TheVariants as cause
use Rattle.co_message.specs.declared.message.Message.{Message}
use Rattle.co_message.specs.declared.message.Message.TheVariants as message
use Rattle.co_record.specs.declared.record.Record.TheVariants as log
use Rattle.co_serial.specs.SerialRun.{with_at}
use Rattle.co_state.specs.Table.{look, holds, put, without}
use Rattle.co_plain.specs.declared.coord_state.CoordState.{CoordState}
use Rattle.co_plain.specs.declared.coord_state.Entry.{Entry}
use Rattle.co_plain.specs.declared.coord_state.Entry.TheVariants as entry
use Rattle.co_base.specs.declared.leaves.Stop.{Stop}
use Rattle.co_plain.specs.declared.outcome.Outcome.{Outcome}
use Rattle.co_plain.specs.declared.outcome.Outcome.TheVariants.{Completes, StopsAt}
use Rattle.co_plain.specs.Numbers.{first_lacking, has_number, numbers_lacking, next_generation}
use Rattle.co_plain.specs.LogWrite.{checkpoint_marks, marks_of, outcome_of, with_batch, with_filled_spare, with_spare, with_stop, generation_of}
use Rattle.co_frame.specs.Gate.{batch_is_stable, closes_spare}
use Rattle.co_plain.specs.CoordStep.{with_table, with_coord_log, coord_down, has_part, members_of, stopped_coord, coord_forced_by, coord_says}
use Rattle.co_plain.specs.Coordinator.{member_or_none, waits, aborts, decided_by, yes_entry, no_entry, ask_entry, ended_by, ack_entry, timer_entry, resend_entry, parts_lacking, decisions_to, prepares_to}
use Rattle.co_plain.specs.CoordLog.{coord_stopped_fill, coord_fill_by, coord_close_by, coord_checkpoint_by, coord_restart_by, coord_spare, coord_crash}
use Rattle.co_plain.specs.Wire.{was_sent}
use Rattle.co_plain.specs.Federation.{Federation, with_coord, at_coord, noted, decide_all, decided_where}
use Rattle.co_plain.specs.Decisions.{told_of, told_in}
use Rattle.co_plain.specs.Invariants.{Stable, view, ends_only, takes_part_in}
use Rattle.co_plain.specs.Moves.{Decide, Leave, CrashCoord, RestartCoord, ArmCoord, CloseCoordSpare, FillCoordSpare, Guard, effect, with_decision, table_decided, decide_entry, record_yes, record_ack}
use Rattle.co_plain.specs.declared.session.Session.{Session}
use Rattle.co_plain.specs.declared.session.Decided.{Decided}
use Rattle.co_law_base.proofs.Lookups.{without_here, found_holds}
use Rattle.co_law_base.proofs.Facts.{rest_of, over, asked, told, Here, AtDecision, settled_at, by_coord, belongs, Begun, OpenEntry, Facts, took}
use Rattle.co_law_base.proofs.Carrying.{at_here}
use Rattle.co_law_base.proofs.MemberFrame.{unended_settled}
use Rattle.co_law_base.proofs.CoordMoves.{open_unsettled}
use Rattle.co_law_base.proofs.Sending.{parts_told, part_member}
use Rattle.co_law_base.proofs.Taking.{took_here, some_member, takes_took}
use Rattle.co_law_base.proofs.TwoViews.{committed_both}
use Rattle.co_law_moves.proofs.Marks.{ends_quiet, commit_marks}
use Rattle.co_law_moves.proofs.CoordNotes.{each_filter, lacking_among, prepares_allowed}
use Rattle.co_law_moves.specs.EventMoves.{sends, written_moves, stopped_moves, leave_moves, yes_counted_moves, yes_moves, no_moves, ask_moves, ack_counted_moves, ack_moves, coord_timer_moves, resend_moves, closing_moves, coord_checkpoint_moves, restart_moves}
use Rattle.co_law_moves.proofs.Made.{all_commits, all_aborts, all_prepares, always, AllowedOver, AllAllowedOver, MadeOver, one_more, made_to, made_from, coord_first, coord_still, coord_then, sends_made, coord_crash_made}
use Rattle.co_law_moves.specs.OwnGuards.{Logs}
use Rattle.co_law_moves.proofs.FactsOver.{FactsOver, where_sound, coords_over, sent_over}

-- a commit record at the deciding coordinator decides
pub decides_there : (o : Option Session) (c t : ℕ) (ds : List Decided) → by_coord o c ≡ true → decided_where o (node.Coord c) t ds ≡ record { txn = t; told = told_in o } ∷ ds
decides_there None c t ds h = absurd (let z : false ≡ true = h in cc)
decides_there (Some session) c t ds h = ap (λ b. if b then record { txn = t; told = session.told } ∷ ds else ds) h

module _ (s : Federation) (c : ℕ) (f : Facts s) where
  -- an abort of what is not in the table is true, or goes to a member that committed
  unknown_aborts : (t m : ℕ) → was_sent s.sent (message.Ask t m c) ≡ true → look (s.coord c).table t ≡ None →
      (belongs (rest_of s) t c × ((holds (s.coord c).table t || settled_at (rest_of s) c t) ≡ false)) ⊎ (holds (view Stable (s.member m)).committed t ≡ true)
  unknown_aborts t m a e = by (settled_at (rest_of s) c t) refl
    where
      held : (takes_part_in (look (s.coord c).table t) m ≡ true) ⊎ (holds (s.member m).committed t ≡ true) → holds (view Stable (s.member m)).committed t ≡ true
      held (inl h) = absurd (let z : false ≡ true = ap (λ o. takes_part_in o m) (sym e) ∙ h in cc)
      held (inr h) = sym (ap (λ n. holds n t) (committed_both (rest_of s) m (s.member m) (f.members m))) ∙ h

      by : (b : Bool) → settled_at (rest_of s) c t ≡ b → (belongs (rest_of s) t c × ((holds (s.coord c).table t || settled_at (rest_of s) c t) ≡ false)) ⊎ (holds (view Stable (s.member m)).committed t ≡ true)
      by false h = inl (f.sent.asks_named t m c a, or_from _ _ (ap is_some e) h)
      by true h = inr (held (or_cases _ _ (f.sent.asks_held t m c a (or_right (holds (s.coord c).table t) (settled_at (rest_of s) c t) h))))

  -- who asks about a committed one took part in it
  took_by_asker : (t m : ℕ) (members acks : List ℕ) → look (s.coord c).table t ≡ Some (entry.Committed members acks) → was_sent s.sent (message.Ask t m c) ≡ true → took (rest_of s) t m
  took_by_asker t m members acks e a =
      let x = (f.coords c).committed t members acks e in
      let some = some_member members acks x.lacks in
      takes_took (rest_of s) f.numbers t some.0 m (f.records.taking t c some.0 members x.recorded some.1)
      (f.sent.asks_take t m c a (or_left (holds (s.coord c).table t) (settled_at (rest_of s) c t) (found_holds (s.coord c).table t (entry.Committed members acks) e)))

-- A decision is forced: the move, or the move and a crash, or the crash alone.
pub deciding_made : (l : Logs) (s : Federation) (c t : ℕ) → FactsOver l s → (next : CoordState) (members : List ℕ) (a : Answer) (notes : List Message) → next.log ≡ (s.coord c).log → by_coord (look s.sessions t) c ≡ true →
    Guard s (Decide t c) → effect s (Decide t c) ≡ with_decision (with_coord s c (with_coord_log next (with_batch next.log (log.Commit t members ∷ [])))) t →
    AllAllowedOver l (with_decision (with_coord s c (with_coord_log next (with_batch next.log (log.Commit t members ∷ [])))) t) notes → (o : Outcome) →
    MadeOver l s (written_moves (Decide t c) (CrashCoord c) (sends notes) o) (at_coord s c (coord_forced_by c next (log.Commit t members ∷ []) a notes o)).state
deciding_made l s c t f next members a notes same mine guard done g o = by o
  where
    y : CoordState
    y = with_coord_log next (with_batch next.log (log.Commit t members ∷ []))

    d : Federation
    d = with_decision (with_coord s c (with_coord_log next (with_batch next.log (log.Commit t members ∷ [])))) t

    decides : decide_all s.sessions s.decided (marks_of (node.Coord c) (log.Commit t members ∷ next.log.waiting)) ≡ record { txn = t; told = told_of s t } ∷ s.decided
    decides =
        commit_marks s.sessions (node.Coord c) s.decided t members next.log.waiting (ends_quiet s.sessions (node.Coord c) next.log.waiting (ap (λ l. ends_only l.waiting) same ∙ (coords_over l s f c).ends))
        ∙ decides_there (look s.sessions t) c t s.decided mine

    by' : (b : Bool) (call : ℕ) → MadeOver l s (stopped_moves (Decide t c) (CrashCoord c) b) (at_coord s c (stopped_coord c next call b (log.Commit t members ∷ []))).state
    by' true call =
        one_more l s (at_coord s c (stopped_coord c next call true (log.Commit t members ∷ []))).state (Decide t c) (CrashCoord c ∷ []) guard
        (made_from l (effect s (Decide t c)) d (CrashCoord c ∷ []) (at_coord s c (stopped_coord c next call true (log.Commit t members ∷ []))).state done
        (made_to l d (CrashCoord c ∷ []) (noted (with_coord (with_decision s t) c (coord_down (with_batch next.log (log.Commit t members ∷ [])))) [] []) (at_coord s c (stopped_coord c next call true (log.Commit t members ∷ []))).state
        (λ i. record (noted (with_coord (with_decision s t) c (coord_down (with_batch next.log (log.Commit t members ∷ [])))) [] []) { decided = sym decides i })
        (coord_crash_made l (with_decision s t) c (with_coord_log next (with_batch next.log (log.Commit t members ∷ []))) [] refl)))
    by' false call =
        made_to l s (CrashCoord c ∷ []) (noted (with_coord s c (coord_down (s.coord c).log)) [] []) (noted (with_coord s c (coord_down next.log)) [] [])
        (λ i. noted (with_coord s c (coord_down (sym same i))) [] [])
        (coord_first l s c (CrashCoord c ∷ []) (noted (with_coord s c (coord_down (s.coord c).log)) [] []) (coord_crash_made l s c (s.coord c) [] refl))

    by : (o : Outcome) → MadeOver l s (written_moves (Decide t c) (CrashCoord c) (sends notes) o) (at_coord s c (coord_forced_by c next (log.Commit t members ∷ []) a notes o)).state
    by Completes =
        one_more l s (at_coord s c (coord_forced_by c next (log.Commit t members ∷ []) a notes Completes)).state (Decide t c) (sends notes) guard
        (made_from l (effect s (Decide t c)) d (sends notes) (at_coord s c (coord_forced_by c next (log.Commit t members ∷ []) a notes Completes)).state done
        (made_to l d (sends notes) (noted d [] notes) (at_coord s c (coord_forced_by c next (log.Commit t members ∷ []) a notes Completes)).state
        (λ i. record (noted d [] notes) { decided = sym decides i }) (sends_made l d [] notes refl g)))
    by (StopsAt call leaves) = by' (batch_is_stable call leaves) call

module _ (l : Logs) (s : Federation) (c : ℕ) (f : FactsOver l s) where
  still : MadeOver l s [] (with_coord s c (s.coord c))
  still = coord_still l s c

  -- a transaction leaves the table, and its participants are told
  pub leave_made : (t : ℕ) (by : Cause) (parts : List Part) → OpenEntry (rest_of s) c (s.coord c).log.stable t → over (rest_of s) t ≡ true → Guard s (Leave t c) →
      MadeOver l s (leave_moves t c parts) (at_coord s c (aborts c (s.coord c) t by parts)).state
  leave_made t by parts e o g =
      one_more l s (at_coord s c (aborts c (s.coord c) t by parts)).state (Leave t c) (sends (decisions_to c t false (members_of parts))) g
      (sends_made l (with_coord s c (with_table (s.coord c) (without (s.coord c).table t))) [] (decisions_to c t false (members_of parts)) refl
      (all_aborts l (with_coord s c (with_table (s.coord c) (without (s.coord c).table t))) t c (members_of parts) (λ m. (where_sound l s f (λ g. inl (Begun e.begun_there, dead g)), o))))
    where
      dead : Facts s → (holds (with_at s.coord c (with_table (s.coord c) (without (s.coord c).table t)) c).table t || settled_at (rest_of s) c t) ≡ false
      dead g =
          or_from _ _ (ap (λ z. holds z.table t) (at_here s.coord c (with_table (s.coord c) (without (s.coord c).table t))) ∙ ap is_some (without_here (s.coord c).table t))
          (false_from_ne_true _ (open_unsettled (rest_of s) g.numbers c (s.coord c).log.stable t e))

  -- a yes of a participant
  yes_missing : (t m : ℕ) (parts : List Part) (yeses : List ℕ) → look (s.coord c).table t ≡ Some (entry.Collecting parts yeses) → has_part parts m ≡ true → was_sent s.sent (message.Vote t m c true) ≡ true →
      (o : Option ℕ) → first_lacking (members_of parts) (m ∷ yeses) ≡ o → MadeOver l s (yes_counted_moves (s.coord c) t c m parts o) (at_coord s c (decided_by c (s.coord c) t parts (m ∷ yeses) o)).state
  yes_missing t m parts yeses e h v (Some k) lacks =
      record { same = ap (record_yes s t c m) e; guards = ((parts, yeses, e, h, v, λ n. let z : Some k ≡ None = sym lacks ∙ n in cc), tt) }
  yes_missing t m parts yeses e h v None lacks =
      deciding_made l s c t f (with_table (s.coord c) (put (s.coord c).table t (entry.Committed (members_of parts) []))) (members_of parts) answer.Committed (decisions_to c t true (members_of parts)) refl
      ((coords_over l s f c).collecting t parts yeses e).still.begun_there (inr (parts, yeses, m, e, v, lacks)) done
      (all_commits l (with_decision (with_coord s c (with_coord_log (with_table (s.coord c) (put (s.coord c).table t (entry.Committed (members_of parts) []))) (with_batch (s.coord c).log (log.Commit t (members_of parts) ∷ [])))) t) t c (members_of parts)
      (λ k n. (
        always l (Here (or_left (t == t) _ (eq-eqb t t refl)), AtDecision (took_here s.decided t k (told (rest_of s) t) (parts_told (told (rest_of s) t) k (ap (λ ps. has_part ps k) (sym ((coords_over l s f c).collecting t parts yeses e).parts_told) ∙ sym (part_member parts k) ∙ n)))),
        or_left (asked (rest_of s) t) (holds s.used t) ((coords_over l s f c).collecting t parts yeses e).asked,
      )))
      (outcome_of (s.coord c).log.armed 4)
    where
      same : (ms : List ℕ) → ms ≢ [] → table_decided (s.coord c) t ms ≡ with_table (s.coord c) (put (s.coord c).table t (entry.Committed ms []))
      same [] n = absurd (n refl)
      same (k ∷ ms) n = refl

      some' : (ms : List ℕ) → has_number ms m ≡ true → ms ≢ []
      some' ms k q = let z : false ≡ true = ap (λ l. has_number l m) (sym q) ∙ k in cc

      done : effect s (Decide t c) ≡ with_decision (with_coord s c (with_coord_log (with_table (s.coord c) (put (s.coord c).table t (entry.Committed (members_of parts) []))) (with_batch (s.coord c).log (log.Commit t (members_of parts) ∷ [])))) t
      done =
          ap (λ o. with_decision (with_coord s c (decide_entry (s.coord c) t o)) t) e
          ∙ ap (λ z. with_decision (with_coord s c (with_coord_log z (with_batch (s.coord c).log (log.Commit t (members_of parts) ∷ [])))) t) (same (members_of parts) (some' (members_of parts) (part_member parts m ∙ h)))

  yes_new : (t m : ℕ) (parts : List Part) (yeses : List ℕ) → look (s.coord c).table t ≡ Some (entry.Collecting parts yeses) → was_sent s.sent (message.Vote t m c true) ≡ true →
      (b : Bool) → (has_part parts m && not (has_number yeses m)) ≡ b →
      MadeOver l s (if b then yes_counted_moves (s.coord c) t c m parts (first_lacking (members_of parts) (m ∷ yeses)) else [])
      (at_coord s c (if b then decided_by c (s.coord c) t parts (m ∷ yeses) (first_lacking (members_of parts) (m ∷ yeses)) else waits (s.coord c) parts yeses)).state
  yes_new t m parts yeses e v true h = yes_missing t m parts yeses e (and_parts _ _ h).0 v (first_lacking (members_of parts) (m ∷ yeses)) refl
  yes_new t m parts yeses e v false h = still

  pub yes_made : (t m : ℕ) → was_sent s.sent (message.Vote t m c true) ≡ true → (o : Option Entry) → look (s.coord c).table t ≡ o → MadeOver l s (yes_moves (s.coord c) t c m o) (at_coord s c (yes_entry c (s.coord c) t m o)).state
  yes_made t m v None e = still
  yes_made t m v (Some entry.Idle) e = still
  yes_made t m v (Some (entry.Collecting parts yeses)) e = yes_new t m parts yeses e v (has_part parts m && not (has_number yeses m)) refl
  yes_made t m v (Some (entry.Committed members acks)) e = still

  leave_collecting : (t : ℕ) (by : Cause) (parts : List Part) (yeses : List ℕ) → look (s.coord c).table t ≡ Some (entry.Collecting parts yeses) → MadeOver l s (leave_moves t c parts) (at_coord s c (aborts c (s.coord c) t by parts)).state
  leave_collecting t by parts yeses e =
      let x = (coords_over l s f c).collecting t parts yeses e in
      leave_made t by parts x.still (or_left (asked (rest_of s) t) (holds s.used t) x.asked) (inr (parts, yeses, e))

  pub no_made : (t m : ℕ) (o : Option Entry) → look (s.coord c).table t ≡ o → MadeOver l s (no_moves t c m o) (at_coord s c (no_entry c (s.coord c) t m o)).state
  no_made t m None e = still
  no_made t m (Some entry.Idle) e = still
  no_made t m (Some (entry.Committed members acks)) e = still
  no_made t m (Some (entry.Collecting parts yeses)) e = by (has_part parts m)
    where
      by : (b : Bool) → MadeOver l s (if b then leave_moves t c parts else []) (at_coord s c (if b then aborts c (s.coord c) t cause.Vote parts else waits (s.coord c) parts yeses)).state
      by true = leave_collecting t cause.Vote parts yeses e
      by false = still

  pub timer_made : (t : ℕ) (o : Option Entry) → look (s.coord c).table t ≡ o → MadeOver l s (coord_timer_moves t c o) (at_coord s c (timer_entry c (s.coord c) t o)).state
  timer_made t None e = still
  timer_made t (Some entry.Idle) e = record { same = refl; guards = (inl e, tt) }
  timer_made t (Some (entry.Collecting parts yeses)) e = leave_collecting t cause.Timer parts yeses e
  timer_made t (Some (entry.Committed members acks)) e = still

  -- a message of the coordinator as it stands
  sends_here : (a : Answer) (notes : List Message) → AllAllowedOver l (with_coord s c (s.coord c)) notes → MadeOver l s (sends notes) (at_coord s c (record { state = s.coord c; answer = a; sent = notes; marks = [] })).state
  sends_here a notes g = coord_first l s c (sends notes) (at_coord s c (record { state = s.coord c; answer = a; sent = notes; marks = [] })).state (sends_made l (with_coord s c (s.coord c)) [] notes refl g)

  at_c : (P : CoordState → Type 0) → P (s.coord c) → P (with_at s.coord c (s.coord c) c)
  at_c P h = subst P (sym (at_here s.coord c (s.coord c))) h

  pub ask_made : (t m : ℕ) → was_sent s.sent (message.Ask t m c) ≡ true → (o : Option Entry) → look (s.coord c).table t ≡ o → MadeOver l s (ask_moves t c m o) (at_coord s c (ask_entry c (s.coord c) t m o)).state
  ask_made t m a (Some entry.Idle) e = still
  ask_made t m a (Some (entry.Collecting parts yeses)) e = still
  ask_made t m a None e =
      sends_here answer.Unknown (message.Decide t c m false ∷ [])
      ((where_sound l s f (λ g. at_c (λ z. (belongs (rest_of s) t c × ((holds z.table t || settled_at (rest_of s) c t) ≡ false)) ⊎ (holds (view Stable (s.member m)).committed t ≡ true)) (unknown_aborts s c g t m a e)), sent_over l s f (message.Ask t m c) a), tt)
  ask_made t m a (Some (entry.Committed members acks)) e =
      let x = (coords_over l s f c).committed t members acks e in
      sends_here answer.Decided (message.Decide t c m true ∷ []) (
        (
          where_sound l s f (λ g. (unended_settled s g c t members x.recorded, took_by_asker s c g t m members acks e a)),
          sent_over l s f (message.Ask t m c) a,
        ),
        tt,
      )

  ack_missing : (t m : ℕ) (members acks : List ℕ) → look (s.coord c).table t ≡ Some (entry.Committed members acks) → has_number members m ≡ true → was_sent s.sent (message.Ack t m c) ≡ true →
      (o : Option ℕ) → first_lacking members (m ∷ acks) ≡ o → MadeOver l s (ack_counted_moves t c m o) (at_coord s c (ended_by (s.coord c) t members (m ∷ acks) o)).state
  ack_missing t m members acks e h v (Some k) lacks =
      record { same = ap (record_ack s t c m) e; guards = ((members, acks, e, h, v, λ n. let z : Some k ≡ None = sym lacks ∙ n in cc), tt) }
  ack_missing t m members acks e h v None lacks = record { same = refl; guards = ((members, acks, m, e, v, lacks), tt) }

  ack_new : (t m : ℕ) (members acks : List ℕ) → look (s.coord c).table t ≡ Some (entry.Committed members acks) → was_sent s.sent (message.Ack t m c) ≡ true →
      (b : Bool) → (has_number members m && not (has_number acks m)) ≡ b →
      MadeOver l s (if b then ack_counted_moves t c m (first_lacking members (m ∷ acks)) else [])
      (at_coord s c (if b then ended_by (s.coord c) t members (m ∷ acks) (first_lacking members (m ∷ acks)) else coord_says (s.coord c) answer.Decided)).state
  ack_new t m members acks e v true h = ack_missing t m members acks e (and_parts _ _ h).0 v (first_lacking members (m ∷ acks)) refl
  ack_new t m members acks e v false h = still

  pub ack_made : (t m : ℕ) → was_sent s.sent (message.Ack t m c) ≡ true → (o : Option Entry) → look (s.coord c).table t ≡ o → MadeOver l s (ack_moves t c m o) (at_coord s c (ack_entry (s.coord c) t m o)).state
  ack_made t m v None e = still
  ack_made t m v (Some entry.Idle) e = still
  ack_made t m v (Some (entry.Collecting parts yeses)) e = still
  ack_made t m v (Some (entry.Committed members acks)) e = ack_new t m members acks e v (has_number members m && not (has_number acks m)) refl

  pub resend_made : (t : ℕ) (o : Option Entry) → look (s.coord c).table t ≡ o → MadeOver l s (resend_moves t c o) (at_coord s c (resend_entry c (s.coord c) t o)).state
  resend_made t None e = still
  resend_made t (Some entry.Idle) e = still
  resend_made t (Some (entry.Collecting parts yeses)) e =
      sends_here (answer.Waiting (member_or_none (first_lacking (members_of parts) yeses))) (prepares_to c t (parts_lacking parts yeses))
      (all_prepares l (with_coord s c (s.coord c)) t c (parts_lacking parts yeses)
      (each_filter (λ p. AllowedOver l (with_coord s c (s.coord c)) (message.Prepare t c p.member p.count)) (λ p. not (has_number yeses p.member)) parts
      (prepares_allowed (with_coord s c (s.coord c)) t c parts yeses (at_c (λ z. look z.table t ≡ Some (entry.Collecting parts yeses)) e) ((coords_over l s f c).collecting t parts yeses e).parts_told)))
  resend_made t (Some (entry.Committed members acks)) e =
      let x = (coords_over l s f c).committed t members acks e in
      sends_here answer.Decided (decisions_to c t true (numbers_lacking members acks))
      (all_commits l (with_coord s c (s.coord c)) t c (numbers_lacking members acks)
      (λ m h. (where_sound l s f (λ g. (unended_settled s g c t members x.recorded, g.records.taking t c m members x.recorded (lacking_among members acks m h))), (coords_over l s f c).unended_over t members x.recorded)))

  pub crash_event_made : MadeOver l s (CrashCoord c ∷ []) (at_coord s c (coord_crash (s.coord c))).state
  crash_event_made = record { same = refl; guards = (tt, tt) }

  pub restart_made : (up : Bool) → MadeOver l s (restart_moves (RestartCoord c) up) (at_coord s c (coord_restart_by (s.coord c) up)).state
  restart_made true = still
  restart_made false = record { same = refl; guards = (tt, tt) }

  pub arm_made : (stop : Option Stop) → MadeOver l s (ArmCoord c stop ∷ []) (with_coord s c (with_coord_log (s.coord c) (with_stop (s.coord c).log stop)))
  arm_made stop = record { same = refl; guards = (tt, tt) }

  close_made : (o : Outcome) → MadeOver l s (closing_moves (CloseCoordSpare c true) (CrashCoord c) (CloseCoordSpare c) o) (at_coord s c (coord_close_by (s.coord c) o)).state
  close_made Completes = record { same = refl; guards = (tt, tt) }
  close_made (StopsAt call leaves) =
      coord_first l s c (CloseCoordSpare c (closes_spare leaves) ∷ CrashCoord c ∷ []) (at_coord s c (coord_close_by (s.coord c) (StopsAt call leaves))).state
      (coord_then l s c (s.coord c) (λ y. with_coord_log y (with_spare y.log (closes_spare leaves))) (CloseCoordSpare c (closes_spare leaves)) refl tt (CrashCoord c ∷ []) (at_coord s c (coord_close_by (s.coord c) (StopsAt call leaves))).state
      (coord_crash_made l s c (with_coord_log (s.coord c) (with_spare (s.coord c).log (closes_spare leaves))) [] refl))

  abbrev generation : ℕ
  generation = next_generation (generation_of (s.coord c).log.stable)

  abbrev filled : CoordState → CoordState
  filled y = with_coord_log y (with_filled_spare y.log (coord_spare c y (next_generation (generation_of y.log.stable))))

  fill_made : (o : Outcome) → MadeOver l s (written_moves (FillCoordSpare c) (CrashCoord c) [] o) (at_coord s c (coord_fill_by c (s.coord c) (next_generation (generation_of (s.coord c).log.stable)) o)).state
  fill_made Completes = record { same = refl; guards = (tt, tt) }
  fill_made (StopsAt call leaves) = by (batch_is_stable call leaves)
    where
      by : (b : Bool) → MadeOver l s (stopped_moves (FillCoordSpare c) (CrashCoord c) b) (at_coord s c (coord_stopped_fill c (s.coord c) (next_generation (generation_of (s.coord c).log.stable)) call b)).state
      by true =
          let z = (at_coord s c (coord_stopped_fill c (s.coord c) (next_generation (generation_of (s.coord c).log.stable)) call true)).state in
          coord_first l s c (FillCoordSpare c ∷ CrashCoord c ∷ []) z
          (coord_then l s c (s.coord c) filled (FillCoordSpare c) refl tt (CrashCoord c ∷ []) z
          (coord_crash_made l s c (filled (s.coord c)) (checkpoint_marks (node.Coord c) generation) refl))
      by false = coord_first l s c (CrashCoord c ∷ []) (at_coord s c (coord_stopped_fill c (s.coord c) (next_generation (generation_of (s.coord c).log.stable)) call false)).state (coord_crash_made l s c (s.coord c) [] refl)

  pub checkpoint_made : (closed : Bool) → MadeOver l s (coord_checkpoint_moves (s.coord c) c closed) (at_coord s c (coord_checkpoint_by c (s.coord c) closed)).state
  checkpoint_made false = close_made (outcome_of (s.coord c).log.armed 2)
  checkpoint_made true = fill_made (outcome_of (s.coord c).log.armed 4)
