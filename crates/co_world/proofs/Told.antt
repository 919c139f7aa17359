-- What is told of an event, and what the federation is after it, as those of a plain step.
use Rattle.std.proofs.Common.{◌≡◌, ℕ, List, Result, subst}
use Rattle.std.specs.Prelude.{IfOk, OnOk}
use Rattle.co_base.specs.declared.head.Kind.{Kind}
use Rattle.co_coord.specs.declared.step.CoordStep.{CoordStep}
use Rattle.co_durable.specs.declared.fault.WorldFault.{WorldFault}
use Rattle.co_member.specs.declared.step.MemberStep.{MemberStep}
use Rattle.co_message.specs.declared.answer.Answer.{Answer}
use Rattle.co_message.specs.declared.item.Item.{Item}
use Rattle.co_plain.specs.Federation.{Federation, Stepped, answers, at_member, at_coord, items_of, message_list, noted, with_coord, with_member}
use Rattle.co_plain.specs.Runs.{numbered}
use Rattle.co_plain.specs.declared.coord_step.CoordStep.{CoordStep as PlainCoordStep}
use Rattle.co_plain.specs.declared.member_step.MemberStep.{MemberStep as PlainMemberStep}
use Rattle.co_state.specs.declared.engine_state.EngineState.{EngineState}
use Rattle.co_world.specs.Standing.{RepresentsWorld}
use Rattle.co_cluster.specs.Telling.{IsTold, IsToldBy}
use Rattle.co_world.specs.declared.world.World.{World}
use Rattle.co_world.proofs.Ends.{all_ok}

module _ (number : ℕ) (result : Result (List Item) WorldFault) where
  pub told_as : (a b : Stepped) → a ≡ b → IfOk result (λ items. items ≡ numbered number a.items) → IfOk result (λ items. items ≡ numbered number b.items)
  told_as a b e h = subst (λ (z : Stepped). IfOk result (λ items. items ≡ numbered number z.items)) e h

  -- of what a node did
  pub coord_told : (s : Federation) (c : ℕ) (step : PlainCoordStep) (d : CoordStep) → IsToldBy step d → IfOk result (λ items. items ≡ numbered number (items_of d.marks d.sent d.answer)) →
      IfOk result (λ items. items ≡ numbered number (at_coord s c step).items)
  coord_told s c step d told h =
      subst (λ (z : CoordStep). IfOk result (λ items. items ≡ numbered number (items_of z.marks z.sent z.answer)))
      (λ i. record { answer = told.answer i; sent = told.sent i; marks = told.marks i }) h

  pub member_told : (s : Federation) (m : ℕ) (step : PlainMemberStep) (d : MemberStep) → IsTold step d → IfOk result (λ items. items ≡ numbered number (items_of d.marks (message_list d.sent) d.answer)) →
      IfOk result (λ items. items ≡ numbered number (at_member s m step).items)
  member_told s m step d told h =
      subst (λ (z : MemberStep). IfOk result (λ items. items ≡ numbered number (items_of z.marks (message_list z.sent) z.answer)))
      (λ i. record { answer = told.answer i; sent = told.sent i; marks = told.marks i }) h

module _ {E : Type 0} (takes : Kind → Type 0) (stands_for : E → EngineState → Type 0) (result : Result (List Item) WorldFault) (w : World E) where
  pub stands_as : (a b : Stepped) → a ≡ b → OnOk result (RepresentsWorld takes stands_for w a.state) → OnOk result (RepresentsWorld takes stands_for w b.state)
  stands_as a b e h = subst (λ (z : Stepped). OnOk result (RepresentsWorld takes stands_for w z.state)) e h

  -- an answer changes nothing
  pub answered_stands : (s : Federation) (a : Answer) (b : Stepped) → answers s a ≡ b → RepresentsWorld takes stands_for w s → OnOk result (RepresentsWorld takes stands_for w b.state)
  answered_stands s a b e r = stands_as (answers s a) b e (all_ok result r)

  pub coord_stands : (s : Federation) (c : ℕ) (step : PlainCoordStep) (d : CoordStep) → IsToldBy step d → OnOk result (RepresentsWorld takes stands_for w (noted (with_coord s c step.state) d.marks d.sent)) →
      OnOk result (RepresentsWorld takes stands_for w (at_coord s c step).state)
  coord_stands s c step d told h =
      subst (λ (z : CoordStep). OnOk result (RepresentsWorld takes stands_for w (noted (with_coord s c step.state) z.marks z.sent)))
      (λ i. record { answer = told.answer i; sent = told.sent i; marks = told.marks i }) h

  pub member_stands : (s : Federation) (m : ℕ) (step : PlainMemberStep) (d : MemberStep) → IsTold step d →
      OnOk result (RepresentsWorld takes stands_for w (noted (with_member s m step.state) d.marks (message_list d.sent))) → OnOk result (RepresentsWorld takes stands_for w (at_member s m step).state)
  member_stands s m step d told h =
      subst (λ (z : MemberStep). OnOk result (RepresentsWorld takes stands_for w (noted (with_member s m step.state) z.marks (message_list z.sent))))
      (λ i. record { answer = told.answer i; sent = told.sent i; marks = told.marks i }) h
