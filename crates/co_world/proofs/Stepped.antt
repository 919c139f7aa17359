-- What is said of the event that a line has, from what is said of it by its parts.
use Rattle.std.proofs.Common.{◌≡◌, ℕ, List, Result, sym, subst}
use Rattle.std.specs.Prelude.{IfOk, OnOk, IfErr, IsErrOf, ◌↔◌}
use Rattle.co_base.specs.declared.head.Kind.{Kind}
use Rattle.co_durable.specs.declared.fault.WorldFault.{WorldFault}
use Rattle.co_durable.specs.declared.fault.WorldFault.TheVariants as world
use Rattle.co_message.specs.declared.event.Event.{Event}
use Rattle.co_message.specs.declared.item.Item.{Item}
use Rattle.co_outside.specs.Home.{HomeView}
use Rattle.co_plain.specs.Federation.{Federation}
use Rattle.co_plain.specs.Runs.{numbered}
use Rattle.co_plain.specs.Step.{step_line}
use Rattle.co_session.specs.Clients.{Clients}
use Rattle.co_state.specs.declared.engine_state.EngineState.{EngineState}
use Rattle.co_cluster.specs.Served.{IsOfNoFile}
use Rattle.co_world.specs.Answered.{AnswersEvent}
use Rattle.co_world.specs.Counting.{MeetsLimit}
use Rattle.co_world.specs.Standing.{RepresentsWorld, AreHeld}
use Rattle.co_world.specs.declared.world.World.{World}
use Rattle.co_world.proofs.Answering.{answered_alone}

pub limit_of : (result : Result (List Item) WorldFault) {event parts : Event} → event ≡ parts → (x : Clients) → IsErrOf result world.Count ↔ MeetsLimit x parts → IsErrOf result world.Count ↔ MeetsLimit x event
limit_of result is x told = subst (λ (e : Event). IsErrOf result world.Count ↔ MeetsLimit x e) (sym is) told

module _ {E : Type 0} (takes : Kind → Type 0) (stands_for : E → EngineState → Type 0) (number : ℕ) {event parts : Event} (is : event ≡ parts) (s : Federation) where
  pub answered_at : (after : World E) (old new : HomeView) (result : Result (List Item) WorldFault) → AnswersEvent takes stands_for number (λ z. step_line z parts) s after old new result →
      AnswersEvent takes stands_for number (λ z. step_line z event) s after old new result
  answered_at after old new result told = subst (λ (e : Event). AnswersEvent takes stands_for number (λ z. step_line z e) s after old new result) (sym is) told

  -- of an event for which no log is written
  pub alone_at : (before after : World E) (home : HomeView) (result : Result (List Item) WorldFault) → RepresentsWorld takes stands_for before s → AreHeld home before →
      IfOk result (λ items. items ≡ numbered number (step_line s parts).items) → OnOk result (RepresentsWorld takes stands_for after (step_line s parts).state) → OnOk result (AreHeld home after) → IfErr result IsOfNoFile →
      AnswersEvent takes stands_for number (λ z. step_line z event) s after home home result
  alone_at before after home result r held told stands kept of =
      answered_at after home home result (answered_alone takes stands_for number (λ z. step_line z parts) s before after home result r held told stands kept of)
