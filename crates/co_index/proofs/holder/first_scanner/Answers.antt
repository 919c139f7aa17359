use Rattle.std.proofs.Common.{◌≡◌, Bool, ℕ, List, Some, not, ◌&&◌, sym, subst, ◌∙◌}
use Rattle.std.specs.Prelude.{◌==◌}
use Rattle.std.specs.FinMap.{entries}
use Rattle.co_base.specs.Span.{Span}
use Rattle.co_state.specs.Keys.{reads_meet}
use Rattle.co_state.specs.Table.{first_in, lesser}
use Rattle.co_index.proofs.Walking.{IsLeft, all_left, past}
use Rattle.co_index.proofs.holder.first_scanner.Goals as goal

pub loop-u-init : goal.loop-u-init
loop-u-init c =
    let is : c.into_iter-u-iterator.result ≡ entries c.args.scanners.now = cc in
    all_left (λ (u : ℕ) (spans : List Span). not (u == c.args.t) && reads_meet spans c.args.writes.now) c.args.found c.args.scanners.now c.into_iter-u-iterator.result is

pub returns-in-Some-no_greater : goal.returns-in-Some-no_greater
returns-in-Some-no_greater c =
    let test : ℕ → List Span → Bool = λ u spans. not (u == c.args.t) && reads_meet spans c.args.writes.now in
    let left = subst (λ es. IsLeft test c.args.found es c.into_iter-u-iterator.result) c.in-Some.ensures.steps c.loop-u.invariant in
    let is : c.into_iter-u-iterator.result ≡ entries c.args.scanners.now = cc in
    subst (λ es. Some c.in-Some-no_greater.least ≡ lesser c.args.found (first_in test es)) is
    (past test c.args.found c.in-Some.u.now c.in-Some-no_greater.least c.in-Some.ranges.now c.next.new.self c.into_iter-u-iterator.result (sym c.no_greater.ensures ∙ c.in-Some-no_greater.is) left)
