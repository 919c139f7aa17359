-- No event of a node, and no delivery, raises what is left to settle.
use Rattle.std.proofs.Common.{◌≡◌, ℕ, Bool, true, false, not, ◌&&◌, ◌≤◌, if◌then◌else◌, List, [], ◌∷◌, length, Option, None, Some, inl, refl, sym, ap, ◌∙◌, subst, arith}
use Rattle.std.specs.Option.{is_some}
use Rattle.co_base.specs.declared.node.Node.{Node}
use Rattle.co_base.specs.declared.node.Node.TheVariants as node
use Rattle.co_message.specs.declared.answer.Answer.TheVariants as answer
use Rattle.co_message.specs.declared.event.Event.{Event}
use Rattle.co_message.specs.declared.event.Event.TheVariants as event
use Rattle.co_message.specs.declared.message.Message.{Message}
use Rattle.co_message.specs.declared.message.Message.TheVariants as message
use Rattle.co_record.specs.declared.record.Record.{Record}
use Rattle.co_record.specs.declared.record.Record.TheVariants as log
use Rattle.co_state.specs.declared.engine_state.Operation.{Operation}
use Rattle.co_state.specs.declared.verdict.Verdict.{Verdict}
use Rattle.co_state.specs.declared.verdict.Verdict.TheVariants.{LostOperations, StaleRead, HeldBy, VoteYes}
use Rattle.co_state.specs.EngineState.{operations_in}
use Rattle.co_state.specs.Table.{look, holds}
use Rattle.co_state.specs.VotingRule.{kept_count, vote_of}
use Rattle.co_plain.specs.declared.coord_state.CoordState.{CoordState}
use Rattle.co_plain.specs.declared.coord_state.Entry.{Entry}
use Rattle.co_plain.specs.declared.coord_state.Entry.TheVariants as entry
use Rattle.co_plain.specs.declared.coord_step.CoordStep.{CoordStep}
use Rattle.co_plain.specs.declared.happening.Happening.TheVariants as happening
use Rattle.co_plain.specs.declared.member_state.AskedMark.{AskedMark}
use Rattle.co_plain.specs.declared.member_state.MemberState.{MemberState}
use Rattle.co_plain.specs.declared.member_step.MemberStep.{MemberStep}
use Rattle.co_plain.specs.declared.standing.Standing.{Standing}
use Rattle.co_plain.specs.declared.standing.Standing.TheVariants.{IsActive, IsVoted, IsInstalled, IsAbsent}
use Rattle.co_plain.specs.Numbers.{first_lacking, has_number}
use Rattle.co_plain.specs.LogWrite.{outcome_of, with_batch, with_waiting}
use Rattle.co_plain.specs.MemberStep.{standing_of, forced_by, dropped}
use Rattle.co_plain.specs.Member.{with_mark, installed_state, vote_by, prepare_by, vote_where_asked, vote_again_by, commit_by, abort_by, member_decide, timer_by, ask_by, member_deliver, member_vote, member_timer, member_ask}
use Rattle.co_plain.specs.MemberLog.{restart_by}
use Rattle.co_plain.specs.CoordStep.{coord_says}
use Rattle.co_plain.specs.Coordinator.{ask_entry, ended_by, ack_entry, timer_entry, resend_entry, coord_deliver, coord_timer, coord_resend, coord_vote}
use Rattle.co_plain.specs.CoordLog.{coord_restart_by}
use Rattle.co_plain.specs.Federation.{Federation, answers}
use Rattle.co_plain.specs.Step.{arrives, member_step, up_member, coord_step, up_coord, step_line}
use Rattle.co_plain.specs.Wire.{was_sent}
use Rattle.co_law_engine.proofs.YesTells.{yes_parts}
use Rattle.co_law_base.proofs.Lookups.{holds_found}
use Rattle.co_law_base.proofs.Facts.{Facts}
use Rattle.co_law_moves.proofs.Standings.{active_is, voted_is, absent_is}
use Rattle.co_law_moves.proofs.Steps.{step_keeps}
use Rattle.co_law_settle.proofs.Falling.{Falls, falls_same, falls_on, Calm, MemberFalls, member_calm, member_up, member_falls, CoordFalls, coord_calm, coord_up, coord_falls}
use Rattle.co_law_settle.specs.SettlingTurns.{AllUp}
use Rattle.co_law_settle.proofs.AtMember.{falls_twice, member_same, dropped_falls, marked_falls, voted_falls, installed_falls, VoteDid, SaysNo, SaysYes, Holds, vote_did}
use Rattle.co_law_settle.proofs.AtCoord.{coord_same, yes_noted, no_noted, ack_noted, idle_ends}
use Rattle.co_law_rounds.specs.CanBeSettled.{MakesItself}
use Rattle.co_law_rounds.proofs.OneStep.{OneStep, one_same, one_member, one_coord}

-- what a calm state goes to
pub record Onward (s z : Federation) : Type 0 where
  pub falls : Falls s z
  pub calm : Calm z
  pub up : AllUp s → AllUp z

pub onward_same : (s : Federation) → Calm s → Onward s s
onward_same s calm = record { falls = falls_same s; calm = calm; up = λ u. u }

pub onward_then : (s w z : Federation) → Onward s w → Onward w z → Onward s z
onward_then s w z a b = record { falls = falls_on s w z a.falls b.falls; calm = b.calm; up = λ u. b.up (a.up u) }

-- by one event
pub record Moved (s z : Federation) : Type 0 where
  pub onward : Onward s z
  pub one : OneStep s z

moved : {s z : Federation} → OneStep s z → Onward s z → Moved s z
moved one onward = record { onward = onward; one = one }

moved_same : (s : Federation) → Calm s → Moved s s
moved_same s calm = record { onward = onward_same s calm; one = one_same s }

-- one member, at one transaction
module _ (x : MemberState) (t m : ℕ) (unarmed : x.log.armed ≡ None) where
  same_member : MemberFalls t x x
  same_member = member_same t x unarmed

  -- a vote on an active one, from a state that falls from x
  vote_falls : (y : MemberState) (c n : ℕ) (v : Verdict) → y.log.armed ≡ None → MemberFalls t x y → holds y.engine.active t ≡ true → MemberFalls t x (vote_by m y t c n v).state
  vote_falls y c n v e f active = by (vote_did m y t c n e v)
    where
      by : VoteDid m y t c n v (vote_by m y t c n v) → MemberFalls t x (vote_by m y t c n v).state
      by (SaysNo same sent) = subst (MemberFalls t x) (sym same) (falls_twice t x y (dropped y t) f (dropped_falls y t y.log e))
      by (SaysYes l le same sent) = subst (MemberFalls t x) (sym same) (falls_twice t x y _ f (voted_falls y t c n l le active))
      by (Holds free same sent) = subst (MemberFalls t x) (sym same) f

  -- on an absent one there is no yes
  absent_falls : (c n : ℕ) → holds x.engine.active t ≡ false → 1 ≤ n → (v : Verdict) → vote_of x.engine t n ≡ v → MemberFalls t x (vote_by m x t c n v).state
  absent_falls c n a l LostOperations e = dropped_falls x t x.log unarmed
  absent_falls c n a l (StaleRead key) e = dropped_falls x t x.log unarmed
  absent_falls c n a l (HeldBy u) e = same_member
  absent_falls c n a l VoteYes e = by (look x.engine.active t) refl a
    where
      by : {A : Type 0} (o : Option (List Operation)) → look x.engine.active t ≡ o → is_some o ≡ false → A
      by None q k =
          let none : kept_count x.engine t ≡ 0 = ap (λ o. length (operations_in o)) q in
          let some = (yes_parts x.engine t n e).count in
          absurd (omega (arith, none, some, l))
      by (Some os) q k = absurd (let z : true ≡ false = k in cc)

  prepare_falls : (c n : ℕ) → 1 ≤ n → MemberFalls t x (prepare_by m x t c n (standing_of x t)).state
  prepare_falls c n l = by (standing_of x t) refl
    where
      by : (st : Standing) → standing_of x t ≡ st → MemberFalls t x (prepare_by m x t c n st).state
      by IsActive e =
          let a = active_is (holds x.engine.active t) (holds x.engine.voted t) (holds x.committed t) e in
          vote_falls (with_mark x t c n) c n (vote_of x.engine t n) unarmed (marked_falls x t c n unarmed a) a
      by IsVoted e = same_member
      by IsInstalled e = same_member
      by IsAbsent e = absent_falls c n (absent_is (holds x.engine.active t) (holds x.engine.voted t) (holds x.committed t) e).0 l (vote_of x.engine t n) refl

  again_falls : MemberFalls t x (vote_again_by m x t (standing_of x t)).state
  again_falls = by (standing_of x t) refl
    where
      asked : holds x.engine.active t ≡ true → (o : Option AskedMark) → MemberFalls t x (vote_where_asked m x t o).state
      asked a None = same_member
      asked a (Some mark) = vote_falls x mark.coord mark.count (vote_of x.engine t mark.count) unarmed same_member a

      by : (st : Standing) → standing_of x t ≡ st → MemberFalls t x (vote_again_by m x t st).state
      by IsActive e = asked (active_is (holds x.engine.active t) (holds x.engine.voted t) (holds x.committed t) e) (look x.asked t)
      by IsVoted e = same_member
      by IsInstalled e = same_member
      by IsAbsent e = same_member

  decision_falls : (c : ℕ) (commit : Bool) → MemberFalls t x (member_decide m x t c commit).state
  decision_falls c true = by (standing_of x t) refl
    where
      batch : List Record
      batch = log.Commit t [] ∷ []

      by : (st : Standing) → standing_of x t ≡ st → MemberFalls t x (commit_by m x t c st).state
      by IsActive e = same_member
      by IsInstalled e = same_member
      by IsAbsent e = same_member
      by IsVoted e =
          let v = holds_found x.engine.voted t (voted_is (holds x.engine.active t) (holds x.engine.voted t) (holds x.committed t) e) in
          subst (MemberFalls t x) (sym (ap (λ o. (forced_by m (installed_state x t) batch answer.Installed (Some (message.Ack t m c)) (outcome_of o 4)).state) unarmed))
          (installed_falls x t v.0 (with_batch x.log batch) v.1 refl)
  decision_falls c false = by (standing_of x t)
    where
      by : (st : Standing) → MemberFalls t x (abort_by x t st).state
      by IsActive = dropped_falls x t x.log unarmed
      by IsVoted = dropped_falls x t (with_waiting x.log (log.Abort t)) unarmed
      by IsInstalled = same_member
      by IsAbsent = same_member

  timer_falls : MemberFalls t x (timer_by x t (standing_of x t)).state
  timer_falls = by (standing_of x t)
    where
      by : (st : Standing) → MemberFalls t x (timer_by x t st).state
      by IsActive = dropped_falls x t x.log unarmed
      by IsVoted = same_member
      by IsInstalled = same_member
      by IsAbsent = same_member

  question_falls : MemberFalls t x (ask_by m x t (standing_of x t)).state
  question_falls = by (standing_of x t)
    where
      by : (st : Standing) → MemberFalls t x (ask_by m x t st).state
      by IsActive = same_member
      by IsVoted = same_member
      by IsInstalled = same_member
      by IsAbsent = same_member

-- one coordinator, at one transaction
module _ (s : Federation) (f : Facts s) (c t : ℕ) (unarmed : (s.coord c).log.armed ≡ None) where
  same_coord : CoordFalls s t (s.coord c) (s.coord c)
  same_coord = coord_same s t (s.coord c) unarmed

  pub vote_noted : (m : ℕ) (granted : Bool) → was_sent s.sent (message.Vote t m c granted) ≡ true → CoordFalls s t (s.coord c) (coord_vote c (s.coord c) t m granted).state
  vote_noted m true sent = (yes_noted s f c t m unarmed (look (s.coord c).table t) refl sent).falls
  vote_noted m false sent = (no_noted s f c t m unarmed (look (s.coord c).table t) refl).falls

  pub asked_noted : (m : ℕ) → CoordFalls s t (s.coord c) (ask_entry c (s.coord c) t m (look (s.coord c).table t)).state
  asked_noted m = by (look (s.coord c).table t)
    where
      by : (o : Option Entry) → CoordFalls s t (s.coord c) (ask_entry c (s.coord c) t m o).state
      by None = same_coord
      by (Some entry.Idle) = same_coord
      by (Some (entry.Collecting parts yeses)) = same_coord
      by (Some (entry.Committed members acks)) = same_coord

  pub acked_noted : (m : ℕ) → CoordFalls s t (s.coord c) (ack_entry (s.coord c) t m (look (s.coord c).table t)).state
  acked_noted m = by (look (s.coord c).table t) refl
    where
      counted : (members acks : List ℕ) → look (s.coord c).table t ≡ Some (entry.Committed members acks) → (b : Bool) → (has_number members m && not (has_number acks m)) ≡ b →
          CoordFalls s t (s.coord c) (ack_entry (s.coord c) t m (Some (entry.Committed members acks))).state
      counted members acks h true e = (ack_noted s f c t m unarmed members acks h e).falls
      counted members acks h false e =
          subst (λ b. CoordFalls s t (s.coord c) (if b then ended_by (s.coord c) t members (m ∷ acks) (first_lacking members (m ∷ acks)) else coord_says (s.coord c) answer.Decided).state)
          (sym e) same_coord

      by : (o : Option Entry) → look (s.coord c).table t ≡ o → CoordFalls s t (s.coord c) (ack_entry (s.coord c) t m o).state
      by None h = same_coord
      by (Some entry.Idle) h = same_coord
      by (Some (entry.Collecting parts yeses)) h = same_coord
      by (Some (entry.Committed members acks)) h = counted members acks h (has_number members m && not (has_number acks m)) refl

  pub timer_noted : CoordFalls s t (s.coord c) (timer_entry c (s.coord c) t (look (s.coord c).table t)).state
  timer_noted = by (look (s.coord c).table t)
    where
      by : (o : Option Entry) → CoordFalls s t (s.coord c) (timer_entry c (s.coord c) t o).state
      by None = same_coord
      by (Some entry.Idle) = idle_ends s f c t 0 unarmed
      by (Some (entry.Collecting parts yeses)) = idle_ends s f c t 0 unarmed
      by (Some (entry.Committed members acks)) = same_coord

  pub resent_noted : CoordFalls s t (s.coord c) (resend_entry c (s.coord c) t (look (s.coord c).table t)).state
  resent_noted = by (look (s.coord c).table t)
    where
      by : (o : Option Entry) → CoordFalls s t (s.coord c) (resend_entry c (s.coord c) t o).state
      by None = same_coord
      by (Some entry.Idle) = same_coord
      by (Some (entry.Collecting parts yeses)) = same_coord
      by (Some (entry.Committed members acks)) = same_coord

module _ (s : Federation) (calm : Calm s) where
  -- a step of a member that is up, or of none
  member_moved : (e : Event) (m t : ℕ) (does : MemberState → MemberStep) → step_line s e ≡ member_step s m does → MemberFalls t (s.member m) (does (s.member m)).state → Moved s (step_line s e).state
  member_moved e m t does same f = by (s.member m).up refl
    where
      by : (b : Bool) → (s.member m).up ≡ b → Moved s (step_line s e).state
      by true u =
          let is = same ∙ ap (λ b. up_member s m b (does (s.member m))) u in
          moved (subst (λ z. OneStep s z.state) (sym is) (one_member s m t (does (s.member m)) f)) (record {
            falls = subst (λ z. Falls s z.state) (sym is) (member_falls s m t (does (s.member m)) f);
            calm = subst (λ z. Calm z.state) (sym is) (member_calm s m t (does (s.member m)) f calm (subst (λ z. Facts z.state) is (step_keeps s calm.facts (happening.Line e) tt)));
            up = λ a. subst (λ z. AllUp z.state) (sym is) (member_up s m t (does (s.member m)) f a);
          })
      by false u = subst (λ z. Moved s z.state) (sym (same ∙ ap (λ b. up_member s m b (does (s.member m))) u)) (moved_same s calm)

  coord_moved : (e : Event) (c t : ℕ) (does : CoordState → CoordStep) → step_line s e ≡ coord_step s c does → CoordFalls s t (s.coord c) (does (s.coord c)).state → Moved s (step_line s e).state
  coord_moved e c t does same f = by (s.coord c).up refl
    where
      by : (b : Bool) → (s.coord c).up ≡ b → Moved s (step_line s e).state
      by true u =
          let is = same ∙ ap (λ b. up_coord s c b (does (s.coord c))) u in
          moved (subst (λ z. OneStep s z.state) (sym is) (one_coord s c t (does (s.coord c)) f)) (record {
            falls = subst (λ z. Falls s z.state) (sym is) (coord_falls s c t (does (s.coord c)) f);
            calm = subst (λ z. Calm z.state) (sym is) (coord_calm s c t (does (s.coord c)) f calm (subst (λ z. Facts z.state) is (step_keeps s calm.facts (happening.Line e) tt)));
            up = λ a. subst (λ z. AllUp z.state) (sym is) (coord_up s c t (does (s.coord c)) f a);
          })
      by false u = subst (λ z. Moved s z.state) (sym (same ∙ ap (λ b. up_coord s c b (does (s.coord c))) u)) (moved_same s calm)

  -- a message that was sent
  delivered : (note : Message) → was_sent s.sent note ≡ true → step_line s (event.Deliver note) ≡ arrives s note → Moved s (step_line s (event.Deliver note)).state
  delivered (message.Prepare t c m n) h same =
      member_moved (event.Deliver (message.Prepare t c m n)) m t (λ x. member_deliver m x (message.Prepare t c m n)) same
      (prepare_falls (s.member m) t m (calm.members m) c n (calm.facts.sent.prepares_count t c m n h).1)
  delivered (message.Decide t c m commit) h same =
      member_moved (event.Deliver (message.Decide t c m commit)) m t (λ x. member_deliver m x (message.Decide t c m commit)) same (decision_falls (s.member m) t m (calm.members m) c commit)
  delivered (message.Vote t m c granted) h same =
      coord_moved (event.Deliver (message.Vote t m c granted)) c t (λ y. coord_deliver c y (message.Vote t m c granted)) same (vote_noted s calm.facts c t (calm.coords c) m granted h)
  delivered (message.Ask t m c) h same =
      coord_moved (event.Deliver (message.Ask t m c)) c t (λ y. coord_deliver c y (message.Ask t m c)) same (asked_noted s calm.facts c t (calm.coords c) m)
  delivered (message.Ack t m c) h same =
      coord_moved (event.Deliver (message.Ack t m c)) c t (λ y. coord_deliver c y (message.Ack t m c)) same (acked_noted s calm.facts c t (calm.coords c) m)

  delivery : (note : Message) → Moved s (step_line s (event.Deliver note)).state
  delivery note = by (was_sent s.sent note) refl
    where
      by : (b : Bool) → was_sent s.sent note ≡ b → Moved s (step_line s (event.Deliver note)).state
      by true e = delivered note e (ap (λ b. if b then arrives s note else answers s answer.Unsent) e)
      by false e = subst (λ z. Moved s z.state) (sym (ap (λ b. if b then arrives s note else answers s answer.Unsent) e)) (moved_same s calm)

  member_restart_falls : (m : ℕ) (b : Bool) → MemberFalls 0 (s.member m) (restart_by (s.member m) b).state
  member_restart_falls m true = member_same 0 (s.member m) (calm.members m)
  member_restart_falls m false = record { unarmed = calm.members m; up = λ u. refl; others = λ u n a b. refl; as_busy = λ u n. refl; falls = λ a b. omega arith }

  coord_restart_falls : (c : ℕ) (b : Bool) → CoordFalls s 0 (s.coord c) (coord_restart_by (s.coord c) b).state
  coord_restart_falls c true = coord_same s 0 (s.coord c) (calm.coords c)
  coord_restart_falls c false = record { unarmed = calm.coords c; up = λ u. refl; others = λ u n. refl; votes = λ m h. h; acks = λ m h. inl h; idles = λ h. h }

  -- a restart is answered by a node that is down too
  restart_moved : (at : Node) → Moved s (step_line s (event.Restart at)).state
  restart_moved (node.Member m) =
      let f = member_restart_falls m (s.member m).up in
      let did = restart_by (s.member m) (s.member m).up in
      moved (one_member s m 0 did f) (record {
        falls = member_falls s m 0 did f;
        calm = member_calm s m 0 did f calm (step_keeps s calm.facts (happening.Line (event.Restart (node.Member m))) tt);
        up = member_up s m 0 did f;
      })
  restart_moved (node.Coord c) =
      let f = coord_restart_falls c (s.coord c).up in
      let did = coord_restart_by (s.coord c) (s.coord c).up in
      moved (one_coord s c 0 did f) (record {
        falls = coord_falls s c 0 did f;
        calm = coord_calm s c 0 did f calm (step_keeps s calm.facts (happening.Line (event.Restart (node.Coord c))) tt);
        up = coord_up s c 0 did f;
      })

  timer_moved : (t : ℕ) (at : Node) → Moved s (step_line s (event.Timer t at)).state
  timer_moved t (node.Member m) = member_moved (event.Timer t (node.Member m)) m t (λ x. member_timer x t) refl (timer_falls (s.member m) t m (calm.members m))
  timer_moved t (node.Coord c) = coord_moved (event.Timer t (node.Coord c)) c t (λ y. coord_timer c y t) refl (timer_noted s calm.facts c t (calm.coords c))

  pub event_moved : (e : Event) → MakesItself e → Moved s (step_line s e).state
  event_moved (event.Deliver note) i = delivery note
  event_moved (event.Vote t m) i = member_moved (event.Vote t m) m t (λ x. member_vote m x t) refl (again_falls (s.member m) t m (calm.members m))
  event_moved (event.Timer t at) i = timer_moved t at
  event_moved (event.Ask t m) i = member_moved (event.Ask t m) m t (λ x. member_ask m x t) refl (question_falls (s.member m) t m (calm.members m))
  event_moved (event.Resend t c) i = coord_moved (event.Resend t c) c t (λ y. coord_resend c y t) refl (resent_noted s calm.facts c t (calm.coords c))
  event_moved (event.Restart at) i = restart_moved at
  event_moved _ i = absurd i

pub event_onward : (s : Federation) → Calm s → (e : Event) → MakesItself e → Onward s (step_line s e).state
event_onward s calm e i = (event_moved s calm e i).onward
