-- Steps of settling in calm states, and what is left between a transaction and a member after them.
use Rattle.std.proofs.Common.{◌≡◌, inl, ℕ, suc, Bool, true, false, ◌==◌, ◌≤◌, if◌then◌else◌, [], Option, None, refl, sym, ap, ◌∙◌, subst}
use Rattle.std.proofs.lemmas.Bool.{eqb-true, eqb-false}
use Rattle.co_base.specs.declared.node.Node.TheVariants as node
use Rattle.co_message.specs.declared.answer.Answer.TheVariants as answer
use Rattle.co_message.specs.declared.event.Event.{Event}
use Rattle.co_message.specs.declared.event.Event.TheVariants as event
use Rattle.co_message.specs.declared.message.Message.{Message}
use Rattle.co_message.specs.declared.message.Message.TheVariants as message
use Rattle.co_state.specs.Table.{look}
use Rattle.co_plain.specs.declared.coord_state.Entry.{Entry}
use Rattle.co_plain.specs.declared.coord_step.CoordStep.{CoordStep}
use Rattle.co_plain.specs.declared.happening.Happening.TheVariants as happening
use Rattle.co_plain.specs.declared.member_step.MemberStep.{MemberStep}
use Rattle.co_plain.specs.Coordinator.{coord_vote}
use Rattle.co_plain.specs.Wire.{was_sent}
use Rattle.co_plain.specs.Federation.{Federation, Stepped, at_member, at_coord, answers}
use Rattle.co_plain.specs.Step.{step_line, up_coord, arrives}
use Rattle.co_plain.specs.Quiet.{IsMember, IsCoordinator, lacks_yes, lacks_ack, busy_at, busy_in, IsBusy}
use Rattle.co_law_base.proofs.Facts.{Facts}
use Rattle.co_law_base.proofs.Carrying.{at_here}
use Rattle.co_law_moves.proofs.Steps.{step_keeps}
use Rattle.co_law_settle.specs.SettlingTurns.{AllUp, IsServed}
use Rattle.co_law_settle.specs.SettlingMeasure.{any_to, yes_lacking, ack_lacking, weight_at, left_between, left_idle, RaisesNothing}
use Rattle.co_law_settle.proofs.Falling.{Calm, Falls, falls_on, any_found, found_any, weight_falls, MemberFalls, member_calm, member_up, member_falls, member_wakes, CoordFalls, coord_calm, coord_up, coord_falls, coord_wakes}
use Rattle.co_law_settle.proofs.Homes.{Homes, elsewhere}
use Rattle.co_law_settle.proofs.Reaching.{Reaches, reaches_end}
use Rattle.co_law_settle.proofs.AtCoord.{VoteNoted, yes_noted, no_noted}

-- a calm state after some steps from another
pub record Next (s z : Federation) : Type 0 where
  pub calm : Calm z
  pub up : AllUp z
  pub falls : Falls s z
  pub busy : (u : ℕ) → IsBusy z u → IsBusy s u

-- and less is left there
pub record Lowered (s : Federation) (t m : ℕ) (z : Federation) : Type 0 where
  pub next : Next s z
  pub lower : suc (left_between z t m) ≤ left_between s t m

module _ (s w : Federation) (n : Next s w) where
  facts_after : (e : Event) (z : Stepped) → step_line w e ≡ z → Facts z.state
  facts_after e z h = subst (λ k. Facts k.state) h (step_keeps w n.calm.facts (happening.Line e) tt)

  pub member_next : (m t : ℕ) (e : Event) (did : MemberStep) → step_line w e ≡ at_member w m did → MemberFalls t (w.member m) did.state →
      (IsMember w m → busy_at did.state t ≡ true → IsBusy s t) → Next s (at_member w m did).state
  member_next m t e did h f own =
      record {
        calm = member_calm w m t did f n.calm (facts_after e (at_member w m did) h);
        up = member_up w m t did f n.up;
        falls = falls_on s w _ n.falls (member_falls w m t did f);
        busy = member_wakes w m t did f (IsBusy s) own n.busy;
      }

  pub coord_next : (c t : ℕ) (e : Event) (did : CoordStep) → step_line w e ≡ at_coord w c did → CoordFalls w t (w.coord c) did.state →
      (IsCoordinator w c → busy_in (look did.state.table t) ≡ true → IsBusy s t) → Next s (at_coord w c did).state
  coord_next c t e did h f own =
      record {
        calm = coord_calm w c t did f n.calm (facts_after e (at_coord w c did) h);
        up = coord_up w c t did f n.up;
        falls = falls_on s w _ n.falls (coord_falls w c t did f);
        busy = coord_wakes w c t did f (IsBusy s) own n.busy;
      }

-- a step of a member, or of a coordinator, at one transaction raises nothing
pub member_raises : (s : Federation) (m t : ℕ) (e : Event) (did : MemberStep) → step_line s e ≡ at_member s m did → MemberFalls t (s.member m) did.state → RaisesNothing s e
member_raises s m t e did h f =
    subst (λ z. ((u j : ℕ) → left_between z.state u j ≤ left_between s u j) × ((u : ℕ) → left_idle z.state u ≤ left_idle s u)) (sym h)
    ((member_falls s m t did f).between, (member_falls s m t did f).idle)

pub coord_raises : (s : Federation) (c t : ℕ) (e : Event) (did : CoordStep) → step_line s e ≡ at_coord s c did → CoordFalls s t (s.coord c) did.state → RaisesNothing s e
coord_raises s c t e did h f =
    subst (λ z. ((u j : ℕ) → left_between z.state u j ≤ left_between s u j) × ((u : ℕ) → left_idle z.state u ≤ left_idle s u)) (sym h)
    ((coord_falls s c t did f).between, (coord_falls s c t did f).idle)

-- a message that was sent arrives
pub deliver_is : (s : Federation) (note : Message) → was_sent s.sent note ≡ true → step_line s (event.Deliver note) ≡ arrives s note
deliver_is s note h = ap (λ b. if b then arrives s note else answers s answer.Unsent) h

-- what is left, by the entry of its only coordinator
pub left_by : (z : Federation) → Facts z → (t m c : ℕ) → Homes z t c → left_between z t m ≤ weight_at (z.member m) t (lacks_yes (look (z.coord c).table t) m) (lacks_ack (look (z.coord c).table t) m)
left_by z f t m c h =
    weight_falls _ _ _ _ _ _ _ (only (λ o. lacks_yes o m) refl) (λ k. inl (only (λ o. lacks_ack o m) refl k))
  where
    only : (test : Option Entry → Bool) → test None ≡ false → any_to z.coordinators (λ d. test (look (z.coord d).table t)) ≡ true → test (look (z.coord c).table t) ≡ true
    only test none k = by (c == found.0) refl
      where
        found : (d : ℕ) × (1 ≤ d) × (d ≤ z.coordinators) × (test (look (z.coord d).table t) ≡ true)
        found = any_found z.coordinators (λ d. test (look (z.coord d).table t)) k

        by : (b : Bool) → (c == found.0) ≡ b → test (look (z.coord c).table t) ≡ true
        by true e = subst (λ d. test (look (z.coord d).table t) ≡ true) (sym (eqb-true c found.0 e)) found.3
        by false e =
            let gone = elsewhere z f t c h found.0 (eqb-false c found.0 e) in
            absurd (let q : false ≡ true = sym none ∙ ap test (sym gone) ∙ found.3 in cc)

-- what lacks at a coordinator of the federation lacks at some
pub yes_there : (s : Federation) (t m c : ℕ) → IsCoordinator s c → lacks_yes (look (s.coord c).table t) m ≡ true → yes_lacking s t m ≡ true
yes_there s t m c i h = found_any s.coordinators (λ d. lacks_yes (look (s.coord d).table t) m) c i.0 i.1 h

pub ack_there : (s : Federation) (t m c : ℕ) → IsCoordinator s c → lacks_ack (look (s.coord c).table t) m ≡ true → ack_lacking s t m ≡ true
ack_there s t m c i h = found_any s.coordinators (λ d. lacks_ack (look (s.coord d).table t) m) c i.0 i.1 h

-- what a delivered vote leaves, as far as the weight needs it
pub record AfterVote (w z : Federation) (t c m : ℕ) (granted : Bool) : Type 0 where
  pub facts : Facts z
  pub home : Homes z t c
  pub member_same : z.member m ≡ w.member m
  pub recorded : lacks_yes (look (z.coord c).table t) m ≡ false
  pub gone : granted ≡ false → lacks_yes (look (w.coord c).table t) m ≡ true → look (z.coord c).table t ≡ None

-- the last event of a prepare and of a vote
pub vote_delivered : (s w : Federation) → Next s w → (t c m : ℕ) → IsBusy s t → (granted : Bool) → IsCoordinator w c → was_sent w.sent (message.Vote t m c granted) ≡ true → Homes w t c →
    ((z : Federation) → AfterVote w z t c m granted → suc (left_between z t m) ≤ left_between s t m) →
    IsServed w (event.Deliver (message.Vote t m c granted)) × RaisesNothing w (event.Deliver (message.Vote t m c granted)) × Reaches (Lowered s t m) [] (step_line w (event.Deliver (message.Vote t m c granted)))
vote_delivered s w n t c m busy granted i sent home lower =
    ((sent, n.up (node.Coord c) i), coord_raises w c t (event.Deliver (message.Vote t m c granted)) did arrived v.falls, reaches_end (Lowered s t m) (step_line w (event.Deliver (message.Vote t m c granted))) (subst (λ z. Lowered s t m z.state) (sym arrived) lowered))
  where
    did : CoordStep
    did = coord_vote c (w.coord c) t m granted

    arrived : step_line w (event.Deliver (message.Vote t m c granted)) ≡ at_coord w c did
    arrived = deliver_is w (message.Vote t m c granted) sent ∙ ap (λ b. up_coord w c b did) (n.up (node.Coord c) i)

    noted : (g : Bool) → was_sent w.sent (message.Vote t m c g) ≡ true → VoteNoted w t c m g (coord_vote c (w.coord c) t m g)
    noted true h = yes_noted w n.calm.facts c t m (n.calm.coords c) (look (w.coord c).table t) refl h
    noted false h = no_noted w n.calm.facts c t m (n.calm.coords c) (look (w.coord c).table t) refl

    v : VoteNoted w t c m granted did
    v = noted granted sent

    next : Next s (at_coord w c did).state
    next = coord_next s w n c t (event.Deliver (message.Vote t m c granted)) did arrived v.falls (λ j k. busy)

    here : (at_coord w c did).state.coord c ≡ did.state
    here = at_here w.coord c did.state

    lowered : Lowered s t m (at_coord w c did).state
    lowered =
        record {
          next = next;
          lower = lower (at_coord w c did).state (record {
            facts = next.calm.facts;
            home = home;
            member_same = refl;
            recorded = ap (λ y. lacks_yes (look y.table t) m) here ∙ v.recorded;
            gone = λ g k. ap (λ y. look y.table t) here ∙ v.gone g k;
          });
        }
