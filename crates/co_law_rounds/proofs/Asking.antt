-- A vote in doubt, of a transaction that its coordinator presumes aborted: it is dropped in a fair round, or less is left before.
use Rattle.std.proofs.Common.{◌≡◌, inl, ℕ, Bool, true, false, ◌≤◌, List, None, Some, refl, sym, ap, ◌∙◌, subst, arith}
use Rattle.std.proofs.lemmas.Bool.{or_left}
use Rattle.co_base.specs.declared.node.Node.TheVariants as node
use Rattle.co_message.specs.declared.event.Event.{Event}
use Rattle.co_message.specs.declared.event.Event.TheVariants as event
use Rattle.co_message.specs.declared.message.Message.TheVariants as message
use Rattle.co_record.specs.declared.record.Record.TheVariants as log
use Rattle.co_state.specs.Table.{look, holds}
use Rattle.co_plain.specs.declared.coord_state.Entry.TheVariants as entry
use Rattle.co_plain.specs.declared.coord_step.CoordStep.{CoordStep}
use Rattle.co_plain.specs.declared.member_step.MemberStep.{MemberStep}
use Rattle.co_plain.specs.declared.standing.Standing.TheVariants.{IsVoted}
use Rattle.co_plain.specs.Invariants.{Memory}
use Rattle.co_plain.specs.LogWrite.{with_waiting}
use Rattle.co_plain.specs.MemberStep.{standing_by, standing_of}
use Rattle.co_plain.specs.Member.{abort_by, ask_by, coord_of}
use Rattle.co_plain.specs.Coordinator.{ask_entry}
use Rattle.co_plain.specs.Federation.{Federation, at_member, at_coord}
use Rattle.co_plain.specs.Step.{step_line, up_coord, up_member}
use Rattle.co_plain.specs.Quiet.{IsMember, IsCoordinator, lacks_yes, lacks_ack}
use Rattle.co_law_base.proofs.Carrying.{at_here}
use Rattle.co_law_moves.proofs.Standings.{votes_own}
use Rattle.co_law_settle.specs.SettlingMeasure.{yes_lacking, ack_lacking, weight}
use Rattle.co_law_settle.proofs.AtMember.{dropped_weight}
use Rattle.co_law_settle.proofs.Homes.{Homes, one_home}
use Rattle.co_law_settle.proofs.Lowering.{deliver_is, left_by}
use Rattle.co_law_rounds.specs.CanBeSettled.{MakesItself}
use Rattle.co_law_rounds.proofs.EntryMoves.{EntryMove, Stays, Idles, Aborts, Counts, Acks, entry_moves}
use Rattle.co_law_rounds.proofs.NodeEvents.{event_moved}
use Rattle.co_law_rounds.proofs.Telling.{Tells, coord_tells, member_tells}
use Rattle.co_law_rounds.proofs.Following.{Good, good_on, Lowered, Move, Lowers, Keeps, Moves, Lasts, Follows, follow, Sent, sent_moves, passes, pair_lowered, fell_now}
use Rattle.co_law_rounds.proofs.LackingVotes.{member_on, coord_on, inactive_on}
use Rattle.co_law_rounds.proofs.Acknowledging.{zero_is, stands_apart}

vote_weighs : (a k v y b : Bool) → v ≡ true → 1 ≤ weight a k v y b
vote_weighs true true v y b e = omega arith
vote_weighs true false v y b e = omega arith
vote_weighs false k true true b e = omega arith
vote_weighs false k true false b e = omega arith
vote_weighs false k false y b e = absurd (let z : false ≡ true = e in cc)

pub nothing_weighs : (a k v y b : Bool) → a ≡ false → v ≡ false → y ≡ false → b ≡ false → weight a k v y b ≡ 0
nothing_weighs true k v y b e h g l = absurd (let z : true ≡ false = e in cc)
nothing_weighs false k true y b e h g l = absurd (let z : true ≡ false = h in cc)
nothing_weighs false k false true b e h g l = absurd (let z : true ≡ false = g in cc)
nothing_weighs false k false false true e h g l = absurd (let z : true ≡ false = l in cc)
nothing_weighs false k false false false e h g l = refl

-- voted at the member, and not in the table of its coordinator
pub record InDoubt (t m c : ℕ) (w : Federation) : Type 0 where
  pub member : IsMember w m
  pub coord : IsCoordinator w c
  pub voted : holds (w.member m).engine.voted t ≡ true
  pub gone : look (w.coord c).table t ≡ None
  pub home : Homes w t c

module _ (pairs : ℕ → List ℕ) (numbers : List ℕ) (t m c : ℕ) where
  still_gone : (w : Federation) (e : Event) → Good pairs numbers w → MakesItself e → look (w.coord c).table t ≡ None → look ((step_line w e).state.coord c).table t ≡ None
  still_gone w e g i h = by (entry_moves w g.calm c t e i)
    where
      by : EntryMove w c t (step_line w e) → look ((step_line w e).state.coord c).table t ≡ None
      by (Stays k) = k ∙ h
      by (Idles k) = absurd (let z : None ≡ Some entry.Idle = sym h ∙ k in cc)
      by (Aborts parts yeses k tells) = absurd (let z : None ≡ Some (entry.Collecting parts yeses) = sym h ∙ k in cc)
      by (Counts j sent l others) = absurd (let z : false ≡ true = sym (ap (λ o. lacks_yes o j) h) ∙ l in cc)
      by (Acks j sent l others) = absurd (let z : false ≡ true = sym (ap (λ o. lacks_ack o j) h) ∙ l in cc)

  -- once it is not voted there, less is left
  dropped_there : (w : Federation) (e : Event) → Good pairs numbers w → MakesItself e → InDoubt t m c w → holds ((step_line w e).state.member m).engine.voted t ≡ false → Lowered pairs numbers w e
  dropped_there w e g i p h = pair_lowered pairs numbers w e g i t m p.member
      (let z = (step_line w e).state in
      let one = (event_moved w g.calm e i).one in
      let inactive = inactive_on pairs numbers w e g i t m (stands_apart w g.calm.facts t m (or_left _ _ p.voted)) in
      let none = still_gone w e g i p.gone in
      let a = left_by z (good_on pairs numbers w e g i).calm.facts t m c (one.homes t c p.home) in
      let b = nothing_weighs (holds (z.member m).engine.active t) (holds (z.member m).asked t) (holds (z.member m).engine.voted t) (lacks_yes (look (z.coord c).table t) m) (lacks_ack (look (z.coord c).table t) m)
      inactive h (ap (λ o. lacks_yes o m) none) (ap (λ o. lacks_ack o m) none) in
      let d = vote_weighs (holds (w.member m).engine.active t) (holds (w.member m).asked t) (holds (w.member m).engine.voted t) (yes_lacking w t m) (ack_lacking w t m) p.voted in
      omega (arith, a, b, d))

  doubt_moves : Moves pairs numbers (InDoubt t m c)
  doubt_moves w e g i p = by (holds ((step_line w e).state.member m).engine.voted t) refl
    where
      by : (b : Bool) → holds ((step_line w e).state.member m).engine.voted t ≡ b → Move pairs numbers (InDoubt t m c) w e
      by true h = Keeps (record {
        member = member_on pairs numbers w e g i m p.member;
        coord = coord_on pairs numbers w e g i c p.coord;
        voted = h;
        gone = still_gone w e g i p.gone;
        home = (event_moved w g.calm e i).one.homes t c p.home;
      })
      by false h = Lowers (dropped_there w e g i p h)

  standing : (w : Federation) → Good pairs numbers w → InDoubt t m c w → standing_of (w.member m) t ≡ IsVoted
  standing w g p = λ j. standing_by (stands_apart w g.calm.facts t m (or_left _ _ p.voted) j) (p.voted j) (holds (w.member m).committed t)

  -- the abort comes
  abort_comes : Follows pairs numbers (Sent pairs numbers (InDoubt t m c) (message.Decide t c m false)) (event.Deliver (message.Decide t c m false))
  abort_comes = follow pairs numbers (Sent pairs numbers (InDoubt t m c) (message.Decide t c m false)) (event.Deliver (message.Decide t c m false)) (sent_moves pairs numbers (InDoubt t m c) (message.Decide t c m false) doubt_moves) last
    where
      last : Lasts pairs numbers (Sent pairs numbers (InDoubt t m c) (message.Decide t c m false)) (event.Deliver (message.Decide t c m false))
      last w es g i own all del p =
          fell_now pairs numbers w (event.Deliver (message.Decide t c m false)) es g tt own (dropped_there w (event.Deliver (message.Decide t c m false)) g tt p.0
          (ap (λ z. holds (z.state.member m).engine.voted t) arrived ∙ ap (λ y. holds y.engine.voted t) (at_here w.member m did.state) ∙ unvoted))
        where
          did : MemberStep
          did = abort_by (w.member m) t IsVoted

          arrived : step_line w (event.Deliver (message.Decide t c m false)) ≡ at_member w m did
          arrived = deliver_is w (message.Decide t c m false) p.1 ∙ (λ j. up_member w m (g.up (node.Member m) p.0.member j) (abort_by (w.member m) t (standing w g p.0 j)))

          unvoted : holds did.state.engine.voted t ≡ false
          unvoted =
              let a = dropped_weight (w.member m) t (with_waiting (w.member m).log (log.Abort t)) false false in
              (zero_is (holds did.state.engine.active t) (holds did.state.asked t) (holds did.state.engine.voted t) (omega (arith, a))).1

  -- the question comes, and is answered
  ask_comes : Follows pairs numbers (Sent pairs numbers (InDoubt t m c) (message.Ask t m c)) (event.Deliver (message.Ask t m c))
  ask_comes = follow pairs numbers (Sent pairs numbers (InDoubt t m c) (message.Ask t m c)) (event.Deliver (message.Ask t m c)) (sent_moves pairs numbers (InDoubt t m c) (message.Ask t m c) doubt_moves) last
    where
      last : Lasts pairs numbers (Sent pairs numbers (InDoubt t m c) (message.Ask t m c)) (event.Deliver (message.Ask t m c))
      last w es g i own all del p =
          let did : CoordStep = ask_entry c (w.coord c) t m None in
          let arrived : step_line w (event.Deliver (message.Ask t m c)) ≡ at_coord w c did =
          deliver_is w (message.Ask t m c) p.1 ∙ (λ j. up_coord w c (g.up (node.Coord c) p.0.coord j) (ask_entry c (w.coord c) t m (p.0.gone j))) in
          passes pairs numbers (InDoubt t m c) (message.Decide t c m false) abort_comes w (event.Deliver (message.Ask t m c)) es g tt own all del
          (subst (λ z. Tells z (message.Decide t c m false)) (sym arrived) (coord_tells w c did (message.Decide t c m false) (inl refl)))
          (doubt_moves w (event.Deliver (message.Ask t m c)) g tt p.0)

  -- the member asks
  pub question_comes : Follows pairs numbers (InDoubt t m c) (event.Ask t m)
  question_comes = follow pairs numbers (InDoubt t m c) (event.Ask t m) doubt_moves last
    where
      last : Lasts pairs numbers (InDoubt t m c) (event.Ask t m)
      last w es g i own all del p =
          let did : MemberStep = ask_by m (w.member m) t IsVoted in
          let asked : step_line w (event.Ask t m) ≡ at_member w m did = λ j. up_member w m (g.up (node.Member m) p.member j) (ask_by m (w.member m) t (standing w g p j)) in
          let named : coord_of (w.member m) t ≡ c = one_home w g.calm.facts t (coord_of (w.member m) t) c
          (inl (((g.calm.facts.members m).views Memory).named t (coord_of (w.member m) t) (votes_own w m t p.voted))) p.home in
          passes pairs numbers (InDoubt t m c) (message.Ask t m c) ask_comes w (event.Ask t m) es g tt own all del
          (subst (λ z. Tells z (message.Ask t m c)) (sym asked) (member_tells w m did (message.Ask t m c) (ap (λ d. Some (message.Ask t m d)) named)))
          (doubt_moves w (event.Ask t m) g tt p)
