-- A vote that lacks from a member where the transaction is not active: it is recorded in a fair round, or less is left before.
use Rattle.std.proofs.Common.{◌≡◌, ◌⊎◌, inl, inr, ℕ, suc, Bool, true, false, not, ◌||◌, ◌&&◌, ◌==◌, ◌≤◌, if◌then◌else◌, List, [], ◌∷◌, length, Option, None, Some, refl, sym, ap, ◌∙◌, subst, arith}
use Rattle.std.specs.Option.{is_some}
use Rattle.std.proofs.lemmas.Bool.{and_parts, eqb-true, false_from_ne_true}
use Rattle.std.proofs.lemmas.Bool.Decides.{nat_tests}
use Rattle.co_base.specs.declared.node.Node.TheVariants as node
use Rattle.co_base.specs.declared.part.Part.{Part}
use Rattle.co_message.specs.declared.event.Event.{Event}
use Rattle.co_message.specs.declared.event.Event.TheVariants as event
use Rattle.co_message.specs.declared.message.Message.{Message}
use Rattle.co_message.specs.declared.message.Message.TheVariants as message
use Rattle.co_state.specs.declared.verdict.Verdict.TheVariants.{LostOperations}
use Rattle.co_state.specs.Table.{look, holds}
use Rattle.co_state.specs.EngineState.{operations_of, operations_in}
use Rattle.co_state.specs.StaleRead.{stale_key}
use Rattle.co_state.specs.Changes.{sets_of}
use Rattle.co_state.specs.VotingRule.{vote_of, kept_count, unless_stale, holder_of}
use Rattle.co_plain.specs.declared.member_state.MemberState.{MemberState}
use Rattle.co_plain.specs.declared.coord_state.Entry.{Entry}
use Rattle.co_plain.specs.declared.coord_state.Entry.TheVariants as entry
use Rattle.co_plain.specs.declared.coord_step.CoordStep.{CoordStep}
use Rattle.co_plain.specs.declared.standing.Standing.{Standing}
use Rattle.co_plain.specs.declared.standing.Standing.TheVariants.{IsActive, IsVoted, IsInstalled, IsAbsent}
use Rattle.co_plain.specs.Numbers.{has_number}
use Rattle.co_plain.specs.CoordStep.{has_part}
use Rattle.co_plain.specs.MemberStep.{standing_of}
use Rattle.co_plain.specs.Member.{prepare_by, vote_by, coord_of}
use Rattle.co_plain.specs.Coordinator.{coord_vote, prepares_to, parts_lacking, resend_entry}
use Rattle.co_plain.specs.Invariants.{Memory}
use Rattle.co_plain.specs.Wire.{was_sent}
use Rattle.co_plain.specs.Federation.{Federation, at_member, at_coord}
use Rattle.co_plain.specs.Step.{step_line, up_coord, up_member}
use Rattle.co_plain.specs.Quiet.{IsMember, IsCoordinator, lacks_yes, lacks_ack}
use Rattle.co_law_base.proofs.Carrying.{at_here, by_coord_begun}
use Rattle.co_law_moves.proofs.Standings.{active_is, voted_is, installed_is, absent_is, votes_own}
use Rattle.co_law_settle.specs.SettlingMeasure.{yes_lacking, ack_lacking, weight, weight_at, left_between}
use Rattle.co_law_settle.proofs.Falling.{any_found}
use Rattle.co_law_settle.proofs.Homes.{Homes, in_table, one_home}
use Rattle.co_law_settle.proofs.Lowering.{deliver_is, yes_there}
use Rattle.co_law_settle.proofs.AtCoord.{VoteNoted, yes_noted, no_noted}
use Rattle.co_law_rounds.specs.CanBeSettled.{MakesItself}
use Rattle.co_law_rounds.specs.FairRounds.{Stands}
use Rattle.co_law_rounds.proofs.NodeEvents.{event_moved}
use Rattle.co_law_rounds.proofs.OneStep.{OneStep}
use Rattle.co_law_rounds.proofs.Telling.{Tells, coord_tells, member_tells}
use Rattle.co_law_rounds.proofs.Following.{Good, Fell, Lowered, Move, Lowers, Keeps, Moves, Lasts, Follows, follow, Sent, sent_moves, passes, pair_lowered, fell_now}

-- an active one weighs two at least
pub still_inactive : (a k v b l w : Bool) → weight b l w false false ≤ weight a k v false false → a ≡ false → b ≡ false
still_inactive a k v false l w h e = refl
still_inactive true k v true l w h e = absurd (let z : true ≡ false = e in cc)
still_inactive false k true true true w h e = absurd (omega (arith, h))
still_inactive false k true true false w h e = absurd (omega (arith, h))
still_inactive false k false true true w h e = absurd (omega (arith, h))
still_inactive false k false true false w h e = absurd (omega (arith, h))

yes_lowers : (a k v x b c : Bool) → a ≡ false → (c ≡ true → (a || v) ≡ true) → x ≡ false → suc (weight a k v x c) ≤ weight a k v true b
yes_lowers true k v x b c e h g = absurd (let z : true ≡ false = e in cc)
yes_lowers false k v true b c e h g = absurd (let z : true ≡ false = g in cc)
yes_lowers false k true false b c e h g = omega arith
yes_lowers false k false false b false e h g = omega arith
yes_lowers false k false false b true e h g = absurd (let z : false ≡ true = h refl in cc)

-- an entry lacks a yes, or an acknowledgement
pub one_lack : (o : Option Entry) (i j : ℕ) {A : Type 0} → lacks_yes o i ≡ true → lacks_ack o j ≡ true → A
one_lack None i j h k = absurd (let z : false ≡ true = h in cc)
one_lack (Some entry.Idle) i j h k = absurd (let z : false ≡ true = h in cc)
one_lack (Some (entry.Collecting parts yeses)) i j h k = absurd (let z : false ≡ true = k in cc)
one_lack (Some (entry.Committed ms acks)) i j h k = absurd (let z : false ≡ true = h in cc)

pub some_entry : (o : Option Entry) (i : ℕ) → lacks_yes o i ≡ true → (parts : List Part) × (yeses : List ℕ) × (o ≡ Some (entry.Collecting parts yeses))
some_entry None i h = absurd (let z : false ≡ true = h in cc)
some_entry (Some entry.Idle) i h = absurd (let z : false ≡ true = h in cc)
some_entry (Some (entry.Collecting parts yeses)) i h = (parts, yeses, refl)
some_entry (Some (entry.Committed ms acks)) i h = absurd (let z : false ≡ true = h in cc)

-- the prepare of the member among those that are sent again
pub prepare_among : (t c m : ℕ) (parts : List Part) (yeses : List ℕ) → (has_part parts m && not (has_number yeses m)) ≡ true →
    (n : ℕ) × Stands (message.Prepare t c m n) (prepares_to c t (parts_lacking parts yeses))
prepare_among t c m [] yeses h = absurd (let z : false ≡ true = h in cc)
prepare_among t c m (p ∷ ps) yeses h = by (prepare_among t c m ps yeses) (p.member == m) refl (not (has_number yeses p.member)) refl
  where
    Found : List Part → Type 0
    Found qs = (n : ℕ) × Stands (message.Prepare t c m n) (prepares_to c t qs)

    by : ((has_part ps m && not (has_number yeses m)) ≡ true → Found (parts_lacking ps yeses)) → (b : Bool) → (p.member == m) ≡ b → (k : Bool) → not (has_number yeses p.member) ≡ k →
        Found (if k then p ∷ parts_lacking ps yeses else parts_lacking ps yeses)
    by more true e true g = (p.count, inl (ap (λ j. message.Prepare t c j p.count) (eqb-true p.member m e)))
    by more true e false g =
        absurd (let q : false ≡ true = sym g ∙ ap (λ j. not (has_number yeses j)) (eqb-true p.member m e) ∙ (and_parts (has_part (p ∷ ps) m) (not (has_number yeses m)) h).1 in cc)
    by more false e k g = kept k
      where
        found : Found (parts_lacking ps yeses)
        found = more (sym (ap (λ b. (b || has_part ps m) && not (has_number yeses m)) e) ∙ h)

        kept : (k : Bool) → Found (if k then p ∷ parts_lacking ps yeses else parts_lacking ps yeses)
        kept true = (found.0, inr found.1)
        kept false = found

-- who is not active has no operations, so a prepare about some finds them lost
absent_loses : (x : MemberState) (t n : ℕ) → holds x.engine.active t ≡ false → 1 ≤ n → vote_of x.engine t n ≡ LostOperations
absent_loses x t n h l = by (look x.engine.active t) refl h
  where
    by : (o : _) → look x.engine.active t ≡ o → is_some o ≡ false → vote_of x.engine t n ≡ LostOperations
    by None e k =
        let none : kept_count x.engine t ≡ 0 = ap (λ o. length (operations_in o)) e in
        ap (λ b. if b then unless_stale (stale_key x.engine t) (holder_of x.engine t (sets_of (operations_of x.engine t))) else LostOperations)
        (let q : (kept_count x.engine t == n) ≡ false = grind (arith, nat_tests, none, l) in q)
    by (Some os) e k = absurd (let z : true ≡ false = k in cc)

-- the member is not active, and its yes lacks
pub record Awaited (t m c : ℕ) (w : Federation) : Type 0 where
  pub member : IsMember w m
  pub coord : IsCoordinator w c
  pub inactive : holds (w.member m).engine.active t ≡ false
  pub lacks : lacks_yes (look (w.coord c).table t) m ≡ true

module _ (pairs : ℕ → List ℕ) (numbers : List ℕ) where
  pub member_on : (w : Federation) (e : Event) → Good pairs numbers w → MakesItself e → (m : ℕ) → IsMember w m → IsMember (step_line w e).state m
  member_on w e g i m k = subst (λ l. (1 ≤ m) × (m ≤ length l)) (sym (event_moved w g.calm e i).onward.falls.kinds) k

  pub coord_on : (w : Federation) (e : Event) → Good pairs numbers w → MakesItself e → (c : ℕ) → IsCoordinator w c → IsCoordinator (step_line w e).state c
  coord_on w e g i c k = subst (λ l. (1 ≤ c) × (c ≤ l)) (sym (event_moved w g.calm e i).onward.falls.coordinators) k

  pub inactive_on : (w : Federation) (e : Event) → Good pairs numbers w → MakesItself e → (t m : ℕ) → holds (w.member m).engine.active t ≡ false → holds ((step_line w e).state.member m).engine.active t ≡ false
  inactive_on w e g i t m a = still_inactive _ _ _ _ _ _ ((event_moved w g.calm e i).one.weights m t false false) a

  module _ (t m c : ℕ) where
    -- once it lacks no more, less is left
    recorded : (w : Federation) (e : Event) → Good pairs numbers w → MakesItself e → Awaited t m c w → lacks_yes (look ((step_line w e).state.coord c).table t) m ≡ false → Lowered pairs numbers w e
    recorded w e g i p gone = pair_lowered pairs numbers w e g i t m p.member less
      where
        z : Federation
        z = (step_line w e).state

        one : OneStep w (step_line w e).state
        one = (event_moved w g.calm e i).one

        entry_here : (parts : List Part) × (yeses : List ℕ) × (look (w.coord c).table t ≡ Some (entry.Collecting parts yeses))
        entry_here = some_entry (look (w.coord c).table t) m p.lacks

        home : Homes w t c
        home = in_table w g.calm.facts t c (entry.Collecting entry_here.0 entry_here.1) entry_here.2

        only : (d : ℕ) → lacks_yes (look (w.coord d).table t) m ≡ true → c ≡ d
        only d h = let x = some_entry (look (w.coord d).table t) m h in one_home w g.calm.facts t c d home (in_table w g.calm.facts t d (entry.Collecting x.0 x.1) x.2)

        no_yes : yes_lacking z t m ≡ false
        no_yes = false_from_ne_true _ (λ h.
            let f = any_found z.coordinators (λ d. lacks_yes (look (z.coord d).table t) m) h in
            let q : true ≡ false = sym f.3 ∙ subst (λ d. lacks_yes (look (z.coord d).table t) m ≡ false) (only f.0 (one.yeses f.0 t m f.3)) gone in cc)

        acked : (d : ℕ) → lacks_ack (look (w.coord d).table t) m ≡ true → (holds (w.member m).engine.active t || holds (w.member m).engine.voted t) ≡ true
        acked d h = by (look (w.coord d).table t) refl h
          where
            by : (o : Option Entry) → look (w.coord d).table t ≡ o → lacks_ack o m ≡ true → (holds (w.member m).engine.active t || holds (w.member m).engine.voted t) ≡ true
            by None q k = absurd (let z : false ≡ true = k in cc)
            by (Some x) q k =
                let same = one_home w g.calm.facts t c d home (in_table w g.calm.facts t d x q) in
                one_lack (look (w.coord c).table t) m m p.lacks (subst (λ j. lacks_ack (look (w.coord j).table t) m ≡ true) (sym same) h)

        stood : ack_lacking z t m ≡ true → (holds (w.member m).engine.active t || holds (w.member m).engine.voted t) ≡ true
        stood h = let f = any_found z.coordinators (λ d. lacks_ack (look (z.coord d).table t) m) h in by f.0 (one.acks f.0 t m f.3)
          where
            by : (d : ℕ) → (lacks_ack (look (w.coord d).table t) m ≡ true) ⊎ ((holds (w.member m).engine.active t || holds (w.member m).engine.voted t) ≡ true) →
                (holds (w.member m).engine.active t || holds (w.member m).engine.voted t) ≡ true
            by d (inl k) = acked d k
            by d (inr k) = k

        less : suc (left_between z t m) ≤ left_between w t m
        less =
            let a = one.weights m t (yes_lacking z t m) (ack_lacking z t m) in
            let b = yes_lowers (holds (w.member m).engine.active t) (holds (w.member m).asked t) (holds (w.member m).engine.voted t) (yes_lacking z t m) (ack_lacking w t m) (ack_lacking z t m) p.inactive stood no_yes in
            let d = ap (λ y. weight_at (w.member m) t y (ack_lacking w t m)) (yes_there w t m c p.coord p.lacks) in
            omega (arith, a, b, d)

    pub awaited_moves : Moves pairs numbers (Awaited t m c)
    awaited_moves w e g i p = by (lacks_yes (look ((step_line w e).state.coord c).table t) m) refl
      where
        by : (b : Bool) → lacks_yes (look ((step_line w e).state.coord c).table t) m ≡ b → Move pairs numbers (Awaited t m c) w e
        by true h = Keeps (record { member = member_on w e g i m p.member; coord = coord_on w e g i c p.coord; inactive = inactive_on w e g i t m p.inactive; lacks = h })
        by false h = Lowers (recorded w e g i p h)

    -- the vote comes
    pub vote_comes : (granted : Bool) → Follows pairs numbers (Sent pairs numbers (Awaited t m c) (message.Vote t m c granted)) (event.Deliver (message.Vote t m c granted))
    vote_comes granted = follow pairs numbers (Sent pairs numbers (Awaited t m c) note) (event.Deliver note) (sent_moves pairs numbers (Awaited t m c) note awaited_moves) last
      where
        note : Message
        note = message.Vote t m c granted

        last : Lasts pairs numbers (Sent pairs numbers (Awaited t m c) (message.Vote t m c granted)) (event.Deliver (message.Vote t m c granted))
        last w es g i own all del p = fell_now pairs numbers w (event.Deliver (message.Vote t m c granted)) es g tt own (recorded w (event.Deliver (message.Vote t m c granted)) g tt p.0 gone)
          where
            did : CoordStep
            did = coord_vote c (w.coord c) t m granted

            arrived : step_line w (event.Deliver (message.Vote t m c granted)) ≡ at_coord w c did
            arrived = deliver_is w (message.Vote t m c granted) p.1 ∙ ap (λ b. up_coord w c b did) (g.up (node.Coord c) p.0.coord)

            noted : (b : Bool) → was_sent w.sent (message.Vote t m c b) ≡ true → VoteNoted w t c m b (coord_vote c (w.coord c) t m b)
            noted true h = yes_noted w g.calm.facts c t m (g.calm.coords c) (look (w.coord c).table t) refl h
            noted false h = no_noted w g.calm.facts c t m (g.calm.coords c) (look (w.coord c).table t) refl

            gone : lacks_yes (look ((step_line w (event.Deliver (message.Vote t m c granted))).state.coord c).table t) m ≡ false
            gone = ap (λ z. lacks_yes (look (z.state.coord c).table t) m) arrived ∙ ap (λ y. lacks_yes (look y.table t) m) (at_here w.coord c did.state) ∙ (noted granted p.1).recorded

    -- the prepare comes, and is answered
    pub prepare_comes : (n : ℕ) → Follows pairs numbers (Sent pairs numbers (Awaited t m c) (message.Prepare t c m n)) (event.Deliver (message.Prepare t c m n))
    prepare_comes n = follow pairs numbers (Sent pairs numbers (Awaited t m c) note) (event.Deliver note) (sent_moves pairs numbers (Awaited t m c) note awaited_moves) last
      where
        note : Message
        note = message.Prepare t c m n

        last : Lasts pairs numbers (Sent pairs numbers (Awaited t m c) (message.Prepare t c m n)) (event.Deliver (message.Prepare t c m n))
        last w es g i own all del p = by (standing_of (w.member m) t) refl
          where
            x : Event
            x = event.Deliver (message.Prepare t c m n)

            entry_here : (parts : List Part) × (yeses : List ℕ) × (look (w.coord c).table t ≡ Some (entry.Collecting parts yeses))
            entry_here = some_entry (look (w.coord c).table t) m p.0.lacks

            arrived : (st : Standing) → standing_of (w.member m) t ≡ st → step_line w (event.Deliver (message.Prepare t c m n)) ≡ at_member w m (prepare_by m (w.member m) t c n st)
            arrived st e = deliver_is w (message.Prepare t c m n) p.1 ∙ (λ j. up_member w m (g.up (node.Member m) p.0.member j) (prepare_by m (w.member m) t c n (e j)))

            answered : (granted : Bool) → Tells (step_line w (event.Deliver (message.Prepare t c m n))) (message.Vote t m c granted) → Fell pairs numbers (event.Deliver (message.Prepare t c m n) ∷ es) w
            answered granted tells =
                passes pairs numbers (Awaited t m c) (message.Vote t m c granted) (vote_comes granted) w (event.Deliver (message.Prepare t c m n)) es g tt own all del tells
                (awaited_moves w (event.Deliver (message.Prepare t c m n)) g tt p.0)

            by : (st : Standing) → standing_of (w.member m) t ≡ st → Fell pairs numbers (event.Deliver (message.Prepare t c m n) ∷ es) w
            by IsActive e = absurd (let z : true ≡ false = sym (active_is _ _ _ e) ∙ p.0.inactive in cc)
            by IsVoted e =
                let home = in_table w g.calm.facts t c (entry.Collecting entry_here.0 entry_here.1) entry_here.2 in
                let named : coord_of (w.member m) t ≡ c = one_home w g.calm.facts t (coord_of (w.member m) t) c
                (inl (((g.calm.facts.members m).views Memory).named t (coord_of (w.member m) t) (votes_own w m t (voted_is _ _ _ e)))) home in
                answered true (subst (λ z. Tells z (message.Vote t m c true)) (sym (arrived IsVoted e))
                (member_tells w m (prepare_by m (w.member m) t c n IsVoted) (message.Vote t m c true) (ap (λ d. Some (message.Vote t m d true)) named)))
            by IsInstalled e =
                let y = (g.calm.facts.coords c).collecting t entry_here.0 entry_here.1 entry_here.2 in
                absurd (let z : true ≡ false =
                sym (((g.calm.facts.members m).views Memory).known t (installed_is _ _ _ e) (by_coord_begun (look w.sessions t) c y.still.begun_there)) ∙ y.still.undecided in cc)
            by IsAbsent e =
                let lost = absent_loses (w.member m) t n (absent_is _ _ _ e).0 (g.calm.facts.sent.prepares_count t c m n p.1).1 in
                answered false (subst (λ z. Tells z (message.Vote t m c false)) (sym (arrived IsAbsent e ∙ ap (λ v. at_member w m (vote_by m (w.member m) t c n v)) lost))
                (member_tells w m (vote_by m (w.member m) t c n LostOperations) (message.Vote t m c false) refl))

    -- the prepare is sent again
    pub prepares_tells : (w : Federation) → Good pairs numbers w → IsCoordinator w c → lacks_yes (look (w.coord c).table t) m ≡ true → (n : ℕ) × Tells (step_line w (event.Resend t c)) (message.Prepare t c m n)
    prepares_tells w g k l =
        let x = some_entry (look (w.coord c).table t) m l in
        let did : CoordStep = resend_entry c (w.coord c) t (Some (entry.Collecting x.0 x.1)) in
        let resent : step_line w (event.Resend t c) ≡ at_coord w c did = λ j. up_coord w c (g.up (node.Coord c) k j) (resend_entry c (w.coord c) t (x.2 j)) in
        let found = prepare_among t c m x.0 x.1 (sym (ap (λ o. lacks_yes o m) x.2) ∙ l) in
        (found.0, subst (λ z. Tells z (message.Prepare t c m found.0)) (sym resent) (coord_tells w c did (message.Prepare t c m found.0) found.1))

    pub resend_comes : Follows pairs numbers (Awaited t m c) (event.Resend t c)
    resend_comes = follow pairs numbers (Awaited t m c) (event.Resend t c) awaited_moves last
      where
        last : Lasts pairs numbers (Awaited t m c) (event.Resend t c)
        last w es g i own all del p =
            let told = prepares_tells w g p.coord p.lacks in
            passes pairs numbers (Awaited t m c) (message.Prepare t c m told.0) (prepare_comes told.0) w (event.Resend t c) es g tt own all del told.1 (awaited_moves w (event.Resend t c) g tt p)
