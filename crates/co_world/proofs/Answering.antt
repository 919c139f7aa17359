-- How a call answers that does one step of a plain federation.
use Rattle.std.proofs.Common.{◌≡◌, ℕ, true, false, List, Result, Ok, Err, refl, sym, ap, ◌∙◌, subst, inl, inr}
use Rattle.std.specs.Prelude.{IfOk, IfErr, OnOk}
use Rattle.std.specs.Result.{IsErr, IsErrAnd}
use Rattle.co_base.specs.declared.head.Kind.{Kind}
use Rattle.co_coord.specs.declared.step.CoordStep.{CoordStep}
use Rattle.co_durable.specs.declared.fault.WorldFault.{WorldFault}
use Rattle.co_durable.specs.declared.fault.WorldFault.TheVariants as world
use Rattle.co_member.specs.declared.step.MemberStep.{MemberStep}
use Rattle.co_message.specs.declared.answer.Answer.{Answer}
use Rattle.co_message.specs.declared.item.Item.{Item}
use Rattle.co_outside.specs.Home.{HomeView}
use Rattle.co_plain.specs.Federation.{Federation, Stepped, answers, at_member, at_coord, items_of, message_list, noted, with_coord, with_member}
use Rattle.co_plain.specs.Runs.{numbered}
use Rattle.co_plain.specs.Step.{disarmed}
use Rattle.co_plain.specs.declared.coord_step.CoordStep.{CoordStep as PlainCoordStep}
use Rattle.co_plain.specs.declared.member_step.MemberStep.{MemberStep as PlainMemberStep}
use Rattle.co_state.specs.declared.engine_state.EngineState.{EngineState}
use Rattle.co_cluster.specs.Left.{AreLeftAs, AreLeftBy}
use Rattle.co_cluster.specs.Served.{IsOfNoFile}
use Rattle.co_cluster.specs.Telling.{IsTold, IsToldBy}
use Rattle.co_cluster.proofs.Lefts.{noted_left}
use Rattle.co_world.specs.Answered.{IsEventCut, AnswersEvent}
use Rattle.co_world.specs.Standing.{RepresentsWorld, AreHeld, AreServed}
use Rattle.co_world.specs.declared.world.World.{World}
use Rattle.co_world.proofs.Ends.{all_ok, of_memory}
use Rattle.co_world.proofs.Nodes.{held_left}
use Rattle.co_world.proofs.Told.{told_as, stands_as, coord_told, coord_stands, member_told, member_stands}

module _ {E : Type 0} (takes : Kind → Type 0) (stands_for : E → EngineState → Type 0) (number : ℕ) where
  -- the same of a step that is the same
  pub answered_as : (f h : Federation → Stepped) (s : Federation) (after : World E) (old new : HomeView) (result : Result (List Item) WorldFault) → f s ≡ h s → f (disarmed s) ≡ h (disarmed s) →
      AnswersEvent takes stands_for number f s after old new result → AnswersEvent takes stands_for number h s after old new result
  answered_as f h s after old new (Ok items) is whole done =
      record {
        told = done.told ∙ ap (λ (z : Stepped). numbered number z.items) is;
        stands = subst (λ (z : Stepped). RepresentsWorld takes stands_for after z.state) is done.stands;
        served = done.served;
      }
  answered_as f h s after old new (Err fault) is whole cut =
      record {
        left = subst (λ (z : Stepped). AreLeftBy new.file s z.state (h (disarmed s)).state fault) is (subst (λ (z : Stepped). AreLeftBy new.file s (f s).state z.state fault) whole cut.left);
        ended = cut.ended;
      }

  module _ (f : Federation → Stepped) (s : Federation) where
    cut_of_no_file : (home : HomeView) → AreLeftAs home.file s → (fault : WorldFault) → IsOfNoFile fault → IsEventCut s (f s).state (f (disarmed s)).state home home fault
    cut_of_no_file home here world.Count of = record { left = (inl here, tt); ended = refl }
    cut_of_no_file home here world.Memory of = record { left = (inl here, tt); ended = refl }
    cut_of_no_file home here (world.Device spot) of = absurd of
    cut_of_no_file home here (world.Differs spot at kept read) of = absurd of
    cut_of_no_file home here (world.InUse spot) of = absurd of
    cut_of_no_file home here (world.Bad spot at) of = absurd of
    cut_of_no_file home here (world.Full spot) of = absurd of
    cut_of_no_file home here (world.Old spot) of = absurd of

    -- what is done without the directory
    pub answered_alone : (before after : World E) (home : HomeView) (result : Result (List Item) WorldFault) → RepresentsWorld takes stands_for before s → AreHeld home before →
        IfOk result (λ items. items ≡ numbered number (f s).items) → OnOk result (RepresentsWorld takes stands_for after (f s).state) → OnOk result (AreHeld home after) → IfErr result IsOfNoFile →
        AnswersEvent takes stands_for number f s after home home result
    answered_alone before after home (Ok items) r held told stands kept of = record { told = told; stands = stands; served = record { kept = kept; clean = λ spot clean. clean; quiet = refl } }
    answered_alone before after home (Err fault) r held told stands kept of = cut_of_no_file home (held_left takes stands_for before s home r held) fault of

    -- an answer that changes nothing
    pub refused_alone : (a : Answer) (w : World E) (home : HomeView) (result : Result (List Item) WorldFault) → answers s a ≡ f s → RepresentsWorld takes stands_for w s → AreHeld home w →
        IfOk result (λ items. items ≡ numbered number (answers s a).items) → IfErr result (λ fault. fault ≡ world.Memory) → AnswersEvent takes stands_for number f s w home home result
    refused_alone a w home result is r held told memory =
        answered_alone w w home result r held (told_as number result (answers s a) (f s) is told) (stands_as takes stands_for result w (answers s a) (f s) is (all_ok result r)) (all_ok result held) (of_memory result memory)

    -- no memory, before anything is done
    pub wanting : (w after : World E) (home : HomeView) (result : Result (List Item) WorldFault) → RepresentsWorld takes stands_for w s → AreHeld home w → IsErr result × IsErrAnd result (λ e. e ≡ world.Memory) →
        AnswersEvent takes stands_for number f s after home home result
    wanting w after home (Ok items) r held is = absurd (let z : false ≡ true = is.0 in cc)
    wanting w after home (Err fault) r held is = cut_of_no_file home (held_left takes stands_for w s home r held) fault (subst IsOfNoFile (sym is.1) tt)

    -- a fault that is passed on
    pub passed_answer : (after : World E) (old new : HomeView) (result : Result (List Item) WorldFault) (fault : WorldFault) → IsErr result × IsErrAnd result (λ e. e ≡ fault) →
        IsEventCut s (f s).state (f (disarmed s)).state old new fault → AnswersEvent takes stands_for number f s after old new result
    passed_answer after old new (Ok items) fault is cut = absurd (let z : false ≡ true = is.0 in cc)
    passed_answer after old new (Err e) fault is cut = subst (IsEventCut s (f s).state (f (disarmed s)).state old new) (sym is.1) cut

    -- what a node did is told; there may be no memory for it
    done_answer : (mid after : World E) (old new : HomeView) (result : Result (List Item) WorldFault) → AreServed mid old new → AreLeftAs new.file (f s).state → IfOk result (λ items. items ≡ numbered number (f s).items) →
        OnOk result (RepresentsWorld takes stands_for after (f s).state) → OnOk result (AreHeld new after) → IfErr result (λ fault. fault ≡ world.Memory) → AnswersEvent takes stands_for number f s after old new result
    done_answer mid after old new (Ok items) served left told stands kept memory = record { told = told; stands = stands; served = record { kept = kept; clean = served.clean; quiet = served.quiet } }
    done_answer mid after old new (Err fault) served left told stands kept memory =
        subst (IsEventCut s (f s).state (f (disarmed s)).state old new) (sym memory) (record { left = (inr (inl left), tt); ended = served.quiet })

    pub did_at_member : (mid after : World E) (old new : HomeView) (result : Result (List Item) WorldFault) (plain : Federation) (k : ℕ) (step : PlainMemberStep) (d : MemberStep) → IsTold step d → at_member plain k step ≡ f s →
        AreServed mid old new → AreLeftAs new.file (with_member plain k step.state) → IfOk result (λ items. items ≡ numbered number (items_of d.marks (message_list d.sent) d.answer)) →
        OnOk result (RepresentsWorld takes stands_for after (noted (with_member plain k step.state) d.marks (message_list d.sent))) → OnOk result (AreHeld new after) → IfErr result (λ fault. fault ≡ world.Memory) →
        AnswersEvent takes stands_for number f s after old new result
    did_at_member mid after old new result plain k step d did is served left told stands kept memory =
        done_answer mid after old new result served (subst (λ (z : Stepped). AreLeftAs new.file z.state) is (noted_left new.file (with_member plain k step.state) step.marks (message_list step.sent) left))
        (told_as number result (at_member plain k step) (f s) is (member_told number result plain k step d did told))
        (stands_as takes stands_for result after (at_member plain k step) (f s) is (member_stands takes stands_for result after plain k step d did stands)) kept memory

    pub did_at_coord : (mid after : World E) (old new : HomeView) (result : Result (List Item) WorldFault) (plain : Federation) (k : ℕ) (step : PlainCoordStep) (d : CoordStep) → IsToldBy step d → at_coord plain k step ≡ f s →
        AreServed mid old new → AreLeftAs new.file (with_coord plain k step.state) → IfOk result (λ items. items ≡ numbered number (items_of d.marks d.sent d.answer)) →
        OnOk result (RepresentsWorld takes stands_for after (noted (with_coord plain k step.state) d.marks d.sent)) → OnOk result (AreHeld new after) → IfErr result (λ fault. fault ≡ world.Memory) →
        AnswersEvent takes stands_for number f s after old new result
    did_at_coord mid after old new result plain k step d did is served left told stands kept memory =
        done_answer mid after old new result served (subst (λ (z : Stepped). AreLeftAs new.file z.state) is (noted_left new.file (with_coord plain k step.state) step.marks step.sent left))
        (told_as number result (at_coord plain k step) (f s) is (coord_told number result plain k step d did told))
        (stands_as takes stands_for result after (at_coord plain k step) (f s) is (coord_stands takes stands_for result after plain k step d did stands)) kept memory
