-- All that wait are gone through, in their order.
use Rattle.std.proofs.Common.{◌≡◌, ◌<◌, length, ap, sym, ◌∙◌, subst, rules, arith}
use Rattle.std.specs.Prelude.{MatchOption}
use Rattle.co_wait.specs.Knots.{IsCycle, IsOrder}
use Rattle.co_wait.specs.Searching.{IsAtPlace, HasGoneThrough, IsNextFirst, IsBetweenSearches}
use Rattle.co_wait.proofs.Known.{still}
use Rattle.co_wait.proofs.Orders.{order_known, rest_at_first, known_ended, ended_more, next_first}
use Rattle.co_wait.proofs.untangling.untangle.Goals as goal

pub loop-wait-init : goal.loop-wait-init
loop-wait-init c = record {
  rest = subst (IsBetweenSearches c.args.waits.now) (sym c.new-known.ensures) (rest_at_first c.args.waits.now);
  ended = λ i w lt at. absurd (omega arith);
}

pub loop-wait-preserved-then-contains : goal.loop-wait-preserved-then-contains
loop-wait-preserved-then-contains c =
    let lt : c.loop-wait.wait-index < length c.as_slice-wait-items.result.now = search rules in
    let here = subst (λ list. IsAtPlace list c.loop-wait.wait-index c.wait-item.result) c.as_slice-wait-items.ensures (lt, sym c.wait-item.is) in
    record {
      rest = c.loop-wait.invariant.rest;
      ended = ended_more c.args.waits.now c.loop-wait.known c.loop-wait.wait-index c.wait-item.result here
          (known_ended c.args.waits.now c.loop-wait.known c.wait-item.result.held c.loop-wait.invariant.rest (sym c.contains.ensures ∙ c.if-contains.true)) c.loop-wait.invariant.ended;
    }

pub search-requires-clause-next : goal.search-requires-clause-next
search-requires-clause-next c =
    let lt : c.loop-wait.wait-index < length c.as_slice-wait-items.result.now = search rules in
    let here = subst (λ list. IsAtPlace list c.loop-wait.wait-index c.wait-item.result) c.as_slice-wait-items.ensures (lt, sym c.wait-item.is) in
    subst (λ waits. IsNextFirst waits c.loop-wait.known c.wait-item.result.held) (sym c.as_slice.ensures)
    (next_first c.args.waits.now c.loop-wait.known c.loop-wait.wait-index c.wait-item.result c.requires c.loop-wait.invariant.rest here (sym c.contains.ensures ∙ c.if-contains.false) c.loop-wait.invariant.ended)

pub loop-wait-preserved : goal.loop-wait-preserved
loop-wait-preserved c =
    let lt : c.loop-wait.wait-index < length c.as_slice-wait-items.result.now = search rules in
    let here = subst (λ list. IsAtPlace list c.loop-wait.wait-index c.wait-item.result) c.as_slice-wait-items.ensures (lt, sym c.wait-item.is) in
    let found = subst (λ legs. MatchOption legs (HasGoneThrough c.as_slice.result.now c.wait-item.result.held c.search.new.known) (IsCycle c.as_slice.result.now)) c.in_default.is c.in_ok-legs.ensures.found in
    let gone = subst (λ waits. HasGoneThrough waits c.wait-item.result.held c.search.new.known) c.as_slice.ensures found in
    record {
      rest = gone.rest;
      ended = ended_more c.args.waits.now c.search.new.known c.loop-wait.wait-index c.wait-item.result here gone.ended
          (λ i w less at. still c.loop-wait.known c.search.new.known w.held c.in_ok-legs.ensures.kept (c.loop-wait.invariant.ended i w less at));
    }

pub returns : goal.returns
returns c =
    let size : length c.as_slice-wait-items.result.now ≡ length c.args.waits.now = ap length c.as_slice-wait-items.ensures in
    subst (IsOrder c.args.waits.now) (sym c.in_ok-ranks_of.ensures)
    (order_known c.args.waits.now c.loop-wait.known c.loop-wait.invariant.rest (λ w one. c.loop-wait.invariant.ended one.0 w (let lt : one.0 < length c.args.waits.now = one.1 in omega arith) (one.1, one.2)))
