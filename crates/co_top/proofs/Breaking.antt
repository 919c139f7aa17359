-- What the knot of held votes tells of the federation: the timer of each leg of a cycle ends its transaction.
use Rattle.std.proofs.Common.{◌≡◌, inl, ℕ, Bool, true, List, [], ◌∷◌, refl, ap}
use Rattle.std.specs.Prelude.{◌↔◌, AllPairs, Contains}
use Rattle.std.proofs.lemmas.List.Elements.{All-weaker}
use Rattle.co_base.specs.declared.node.Node.TheVariants as node
use Rattle.co_message.specs.declared.answer.Answer.TheVariants as answer
use Rattle.co_message.specs.declared.event.Event.TheVariants as event
use Rattle.co_message.specs.declared.item.ItemKind.TheVariants as item
use Rattle.co_state.specs.Table.{holds}
use Rattle.co_cluster.specs.Listed.{IsWait}
use Rattle.co_law.proofs.EveryFinal.{every_timer}
use Rattle.co_law.proofs.EveryInvariant.{every_invariant}
use Rattle.co_law.proofs.GoingOn.{lines_true}
use Rattle.co_law_runs.specs.Finality.{reply_told}
use Rattle.co_law_runs.specs.OnlyTimers.{EndsForGood}
use Rattle.co_plain.specs.AllInvariants.{AllInvariants}
use Rattle.co_plain.specs.Federation.{Federation}
use Rattle.co_plain.specs.Member.{timer_by}
use Rattle.co_plain.specs.MemberStep.{standing_by}
use Rattle.co_plain.specs.Runs.{lines}
use Rattle.co_plain.specs.Step.{step, up_member}
use Rattle.co_plain.specs.declared.happening.Happening.TheVariants as happening
use Rattle.co_wait.proofs.Rounds.{knot_holds_of, no_round}
use Rattle.co_wait.specs.Chains.{IsWaitBefore}
use Rattle.co_wait.specs.Holding.{KnotHolds}
use Rattle.co_wait.specs.Knots.{IsKnot}
use Rattle.co_wait.specs.declared.knot.Knot.{Knot}
use Rattle.co_wait.specs.declared.knot.Knot.TheVariants.{Cycle, Order}
use Rattle.co_wait.specs.declared.wait.Wait.{Wait}
use Rattle.co_top.proofs.Laws.{openable}
use Rattle.co_top.specs.Following.{RanFresh}
use Rattle.co_top.specs.Ran.{start_of, end_of}
use Rattle.co_top.specs.Waiting.{KnotTells, IsKnotOf}

module _ (s : Federation) (all : AllInvariants s) (w : Wait) (is : IsWait s w) where
  -- it is active there, and so the timer drops it
  answers : (step s (happening.Line (event.Timer w.held (node.Member w.member)))).items ≡ item.Answered answer.Dropped ∷ []
  answers =
      λ j. (
      up_member s w.member (is.up j)
      (timer_by (s.member w.member) w.held (stands (holds (s.member w.member).engine.voted w.held) (holds (s.member w.member).committed w.held) j))
      ).items
    where
      stands : (b c : Bool) → standing_by (holds (s.member w.member).engine.active w.held) b c ≡ standing_by true b c
      stands b c = ap (λ a. standing_by a b c) is.active

  pub dropped_for_good : EndsForGood s w.held (node.Member w.member)
  dropped_for_good =
      record {
        is_node = is.own;
        ends = is.active;
        answers = answers;
        never = every_timer s w.held (node.Member w.member) all (ap reply_told answers);
      }

tells_of : (s : Federation) → AllInvariants s → (waits : List Wait) → ((w : Wait) → Contains waits w ↔ IsWait s w) → (knot : Knot) → KnotHolds waits knot → KnotTells s waits knot
tells_of s all waits listed (Order ranks) holds = λ legs own round. no_round waits ranks legs holds own round
tells_of s all waits listed (Cycle legs) holds =
    All-weaker (Contains waits) (λ w. EndsForGood s w.held (node.Member w.member)) (λ w one. dropped_for_good s all w ((listed w).0 one)) legs holds.own

module _ {input : List ℕ} (fresh : RanFresh input) (waits : List Wait) (knot : Knot) (ascending : AllPairs IsWaitBefore waits) (listed : (w : Wait) → Contains waits w ↔ IsWait (end_of fresh.ran) w)
    (one : IsKnot waits knot) where
  all_hold : AllInvariants (end_of fresh.ran)
  all_hold =
      let r = fresh.ran in
      every_invariant r.head.kinds r.head.coords r.found_member r.found_coord (lines r.events) (openable r (inl refl)) (lines_true r.events (start_of r))

  pub knot_of : IsKnotOf (end_of fresh.ran) waits knot
  knot_of =
      let holds = knot_holds_of waits knot one in
      record { ascending = ascending; listed = listed; one = one; holds = holds; tells = tells_of (end_of fresh.ran) all_hold waits listed knot holds }
