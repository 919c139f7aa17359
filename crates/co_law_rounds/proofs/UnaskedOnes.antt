-- A participant that is active and was not asked: it is asked in a fair round, or told that its transaction is aborted, or less is left before.
use Rattle.std.proofs.Common.{◌≡◌, ◌⊎◌, inl, inr, ℕ, Bool, true, false, ◌≤◌, List, Option, None, Some, refl, sym, ap, ◌∙◌, subst, arith}
use Rattle.std.specs.Option.{is_some}
use Rattle.std.proofs.lemmas.Bool.{and_parts, or_left}
use Rattle.co_base.specs.declared.node.Node.TheVariants as node
use Rattle.co_message.specs.declared.event.Event.{Event}
use Rattle.co_message.specs.declared.event.Event.TheVariants as event
use Rattle.co_message.specs.declared.message.Message.{Message}
use Rattle.co_message.specs.declared.message.Message.TheVariants as message
use Rattle.co_state.specs.Table.{look, holds, without}
use Rattle.co_state.specs.VotingRule.{vote_of}
use Rattle.co_plain.specs.declared.coord_state.Entry.{Entry}
use Rattle.co_plain.specs.declared.member_step.MemberStep.{MemberStep}
use Rattle.co_plain.specs.declared.standing.Standing.TheVariants.{IsActive}
use Rattle.co_plain.specs.MemberStep.{standing_by}
use Rattle.co_plain.specs.Member.{with_mark, prepare_by, abort_by}
use Rattle.co_plain.specs.Invariants.{Memory, view, stands}
use Rattle.co_plain.specs.Wire.{was_sent}
use Rattle.co_plain.specs.Federation.{Federation, at_member}
use Rattle.co_plain.specs.Step.{step_line, up_member}
use Rattle.co_plain.specs.Quiet.{IsMember, IsCoordinator, lacks_yes}
use Rattle.co_law_base.proofs.Carrying.{at_here}
use Rattle.co_law_base.proofs.Facts.{Facts}
use Rattle.co_law_base.proofs.Lookups.{holds_found}
use Rattle.co_law_settle.specs.SettlingMeasure.{yes_lacking, ack_lacking, weight, weight_at}
use Rattle.co_law_settle.proofs.AtMember.{dropped_weight, marked_weight, voted_weight, VoteDid, SaysNo, SaysYes, Holds, vote_did}
use Rattle.co_law_settle.proofs.Lowering.{deliver_is}
use Rattle.co_law_rounds.specs.CanBeSettled.{MakesItself}
use Rattle.co_law_rounds.proofs.EntryMoves.{EntryMove, Stays, Idles, Aborts, Counts, Acks, entry_moves}
use Rattle.co_law_rounds.proofs.Following.{Good, good_on, Lowered, Move, Lowers, Keeps, Leaves, Moves, Lasts, Follows, follow, Sent, sent_moves, passes, pair_lowered, fell_now}
use Rattle.co_law_rounds.proofs.LackingVotes.{member_on, coord_on, one_lack, prepares_tells}

-- three is the weight of an active one that was not asked, whatever lacks
pub by_three : (a k v : Bool) → (weight a k v false false ≡ 3) ⊎ (weight a k v false false ≤ 2)
by_three true false v = inl refl
by_three true true v = inr (omega arith)
by_three false k true = inr (omega arith)
by_three false k false = inr (omega arith)

three_is : (a k v y b : Bool) → weight a k v false false ≡ 3 → (a ≡ true) × (weight a k v y b ≡ 3)
three_is true false v y b h = (refl, refl)
three_is true true v y b h = absurd (omega (arith, h))
three_is false k true y b h = absurd (omega (arith, h))
three_is false k false y b h = absurd (omega (arith, h))

two_is : (a k v y b : Bool) → weight a k v false false ≤ 2 → weight a k v y b ≤ 2
two_is true false v y b h = absurd (omega (arith, h))
two_is true true v y b h = omega arith
two_is false k true true b h = omega arith
two_is false k true false b h = omega arith
two_is false k false true b h = omega arith
two_is false k false false true h = omega arith
two_is false k false false false h = omega arith

few_weigh : (k v : Bool) → weight false k v false false ≤ 2
few_weigh k true = omega arith
few_weigh k false = omega arith

-- who is active stands nowhere
active_apart : (s : Federation) → Facts s → (t m : ℕ) → holds (s.member m).engine.active t ≡ true → stands (view Memory (s.member m)) t ≡ false
active_apart s f t m a = let p = holds_found (s.member m).engine.active t a in ((f.members m).active t p.0 p.1).apart

pub record Unasked (t m : ℕ) (w : Federation) : Type 0 where
  pub member : IsMember w m
  pub three : weight_at (w.member m) t false false ≡ 3

-- and its coordinator awaits its vote
pub record Wanted (t m c : ℕ) (w : Federation) : Type 0 where
  pub unasked : Unasked t m w
  pub coord : IsCoordinator w c
  pub lacks : lacks_yes (look (w.coord c).table t) m ≡ true

module _ (pairs : ℕ → List ℕ) (numbers : List ℕ) (t m : ℕ) where
  asked_now : (w : Federation) (e : Event) → Good pairs numbers w → MakesItself e → Unasked t m w → weight_at ((step_line w e).state.member m) t false false ≤ 2 → Lowered pairs numbers w e
  asked_now w e g i p l = pair_lowered pairs numbers w e g i t m p.member
      (let z = (step_line w e).state in
      let a = (three_is (holds (w.member m).engine.active t) (holds (w.member m).asked t) (holds (w.member m).engine.voted t) (yes_lacking w t m) (ack_lacking w t m) p.three).1 in
      let b = two_is (holds (z.member m).engine.active t) (holds (z.member m).asked t) (holds (z.member m).engine.voted t) (yes_lacking z t m) (ack_lacking z t m) l in
      omega (arith, a, b))

  unasked_moves : Moves pairs numbers (Unasked t m)
  unasked_moves w e g i p = by (by_three (holds (x.member m).engine.active t) (holds (x.member m).asked t) (holds (x.member m).engine.voted t))
    where
      x : Federation
      x = (step_line w e).state

      by : (weight_at ((step_line w e).state.member m) t false false ≡ 3) ⊎ (weight_at ((step_line w e).state.member m) t false false ≤ 2) → Move pairs numbers (Unasked t m) w e
      by (inl h) = Keeps (record { member = member_on pairs numbers w e g i m p.member; three = h })
      by (inr h) = Lowers (asked_now w e g i p h)

  active_here : (w : Federation) → Unasked t m w → holds (w.member m).engine.active t ≡ true
  active_here w p = (three_is (holds (w.member m).engine.active t) (holds (w.member m).asked t) (holds (w.member m).engine.voted t) false false p.three).0

  -- a message to the member, after which it is asked or no more active
  comes : (note : Message) → ((w : Federation) → Good pairs numbers w → Unasked t m w → was_sent w.sent note ≡ true → weight_at ((step_line w (event.Deliver note)).state.member m) t false false ≤ 2) →
      Follows pairs numbers (Sent pairs numbers (Unasked t m) note) (event.Deliver note)
  comes note light = follow pairs numbers (Sent pairs numbers (Unasked t m) note) (event.Deliver note) (sent_moves pairs numbers (Unasked t m) note unasked_moves)
      (λ w es g i own all del p. fell_now pairs numbers w (event.Deliver note) es g tt own (asked_now w (event.Deliver note) g tt p.0 (light w g p.0 p.1)))

  module _ (c : ℕ) where
    prepare_comes : (n : ℕ) → Follows pairs numbers (Sent pairs numbers (Unasked t m) (message.Prepare t c m n)) (event.Deliver (message.Prepare t c m n))
    prepare_comes n = comes (message.Prepare t c m n) light
      where
        light : (w : Federation) → Good pairs numbers w → Unasked t m w → was_sent w.sent (message.Prepare t c m n) ≡ true → weight_at ((step_line w (event.Deliver (message.Prepare t c m n))).state.member m) t false false ≤ 2
        light w g p sent = subst (λ z. weight_at (z.state.member m) t false false ≤ 2) (sym arrived) (subst (λ x. weight_at x t false false ≤ 2) (sym (at_here w.member m did.state)) (by voted))
          where
            did : MemberStep
            did = prepare_by m (w.member m) t c n IsActive

            arrived : step_line w (event.Deliver (message.Prepare t c m n)) ≡ at_member w m did
            arrived = deliver_is w (message.Prepare t c m n) sent
                ∙ (λ j. up_member w m (g.up (node.Member m) p.member j) (prepare_by m (w.member m) t c n (standing_by (active_here w p j) (holds (w.member m).engine.voted t) (holds (w.member m).committed t))))

            voted : VoteDid m (with_mark (w.member m) t c n) t c n (vote_of (w.member m).engine t n) did
            voted = vote_did m (with_mark (w.member m) t c n) t c n (g.calm.members m) (vote_of (w.member m).engine t n)

            by : VoteDid m (with_mark (w.member m) t c n) t c n (vote_of (w.member m).engine t n) did → weight_at did.state t false false ≤ 2
            by (SaysNo h sends) =
                let k = holds (without (with_mark (w.member m) t c n).asked t) t in
                let a = ap (λ x. weight_at x t false false) h ∙ dropped_weight (with_mark (w.member m) t c n) t (w.member m).log false false in
                let b = few_weigh k false in
                omega (arith, a, b)
            by (SaysYes l u h sends) =
                let k = holds (without (with_mark (w.member m) t c n).asked t) t in
                let a = ap (λ x. weight_at x t false false) h ∙ voted_weight (with_mark (w.member m) t c n) t c n l false false in
                let b = few_weigh k true in
                omega (arith, a, b)
            by (Holds q h sends) =
                let a = ap (λ x. weight_at x t false false) h ∙ marked_weight (w.member m) t c n (active_here w p) false false in
                omega (arith, a)

    abort_comes : Follows pairs numbers (Sent pairs numbers (Unasked t m) (message.Decide t c m false)) (event.Deliver (message.Decide t c m false))
    abort_comes = comes (message.Decide t c m false) light
      where
        light : (w : Federation) → Good pairs numbers w → Unasked t m w → was_sent w.sent (message.Decide t c m false) ≡ true → weight_at ((step_line w (event.Deliver (message.Decide t c m false))).state.member m) t false false ≤ 2
        light w g p sent = subst (λ z. weight_at (z.state.member m) t false false ≤ 2) (sym arrived) (subst (λ x. weight_at x t false false ≤ 2) (sym (at_here w.member m did.state))
            (let k = holds (without (w.member m).asked t) t in
            let a = dropped_weight (w.member m) t (w.member m).log false false in
            let b = few_weigh k false in
            omega (arith, a, b)))
          where
            did : MemberStep
            did = abort_by (w.member m) t IsActive

            arrived : step_line w (event.Deliver (message.Decide t c m false)) ≡ at_member w m did
            arrived = deliver_is w (message.Decide t c m false) sent
                ∙ (λ j. up_member w m (g.up (node.Member m) p.member j) (abort_by (w.member m) t (standing_by (active_here w p j) (holds (w.member m).engine.voted t) (holds (w.member m).committed t))))

    wanted_moves : Moves pairs numbers (Wanted t m c)
    wanted_moves w e g i p = by (unasked_moves w e g i p.unasked)
      where
        again : Unasked t m (step_line w e).state → (b : Bool) → lacks_yes (look ((step_line w e).state.coord c).table t) m ≡ b → Move pairs numbers (Wanted t m c) w e
        again q true h = Keeps (record { unasked = q; coord = coord_on pairs numbers w e g i c p.coord; lacks = h })
        again q false h = gone (entry_moves w g.calm c t e i)
          where
            lost : {A : Type 0} → lacks_yes (look ((step_line w e).state.coord c).table t) m ≡ true → A
            lost k = absurd (let z : true ≡ false = sym k ∙ h in cc)

            gone : EntryMove w c t (step_line w e) → Move pairs numbers (Wanted t m c) w e
            gone (Stays k) = lost (ap (λ o. lacks_yes o m) k ∙ p.lacks)
            gone (Idles k) = absurd (let z : false ≡ true = sym (ap (λ o. lacks_yes o m) k) ∙ p.lacks in cc)
            gone (Aborts parts yeses k tells) =
                let told = tells m (and_parts _ _ (sym (ap (λ o. lacks_yes o m) k) ∙ p.lacks)).0 in
                Leaves (λ es own all del. abort_comes es (step_line w e).state (good_on pairs numbers w e g i) own del (all (message.Decide t c m false) told.item) (q, told.sent))
            gone (Counts j sent l others) = counted (others m p.lacks)
              where
                counted : (j ≡ m) ⊎ (lacks_yes (look ((step_line w e).state.coord c).table t) m ≡ true) → Move pairs numbers (Wanted t m c) w e
                counted (inr k) = lost k
                counted (inl same) =
                    let yes = subst (λ k. was_sent w.sent (message.Vote t k c true) ≡ true) same sent in
                    let stood = g.calm.facts.sent.yeses_stand t m c Memory yes (or_left _ _ (there (look (w.coord c).table t) p.lacks)) in
                    absurd (let z : true ≡ false = sym stood ∙ active_apart w g.calm.facts t m (active_here w p.unasked) in cc)
                  where
                    there : (o : Option Entry) → lacks_yes o m ≡ true → is_some o ≡ true
                    there None l = l
                    there (Some x) l = refl
            gone (Acks j sent l others) = one_lack (look (w.coord c).table t) m j p.lacks l

        by : Move pairs numbers (Unasked t m) w e → Move pairs numbers (Wanted t m c) w e
        by (Lowers l) = Lowers l
        by (Keeps q) = again q (lacks_yes (look ((step_line w e).state.coord c).table t) m) refl
        by (Leaves go) = Leaves go

    pub asks_comes : Follows pairs numbers (Wanted t m c) (event.Resend t c)
    asks_comes = follow pairs numbers (Wanted t m c) (event.Resend t c) wanted_moves last
      where
        last : Lasts pairs numbers (Wanted t m c) (event.Resend t c)
        last w es g i own all del p =
            let told = prepares_tells pairs numbers t m c w g p.coord p.lacks in
            passes pairs numbers (Unasked t m) (message.Prepare t c m told.0) (prepare_comes told.0) w (event.Resend t c) es g tt own all del told.1 (unasked_moves w (event.Resend t c) g tt p.unasked)
