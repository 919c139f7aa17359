use Rattle.std.proofs.Common.{◌≡◌, Bool, ℕ, Some, not, ◌&&◌, sym, subst, ◌∙◌}
use Rattle.std.specs.Prelude.{◌==◌}
use Rattle.std.specs.FinMap.{entries}
use Rattle.co_state.specs.Table.{first_in, lesser}
use Rattle.co_index.proofs.Walking.{IsLeft, all_left, past}
use Rattle.co_index.proofs.touchers.Touchers+bool.first_marked.Goals as goal

pub loop-u-init : goal.loop-u-init
loop-u-init c =
    let is : c.into_iter-u-iterator.result ≡ entries c.args.self.now = cc in
    all_left (λ (u : ℕ) (voted : Bool). voted && not (u == c.args.t)) c.args.found c.args.self.now c.into_iter-u-iterator.result is

pub returns-in-Some-no_greater : goal.returns-in-Some-no_greater
returns-in-Some-no_greater c =
    let test : ℕ → Bool → Bool = λ u voted. voted && not (u == c.args.t) in
    let left = subst (λ es. IsLeft test c.args.found es c.into_iter-u-iterator.result) c.in-Some.ensures.steps c.loop-u.invariant in
    let is : c.into_iter-u-iterator.result ≡ entries c.args.self.now = cc in
    subst (λ es. Some c.in-Some-no_greater.least ≡ lesser c.args.found (first_in test es)) is
    (past test c.args.found c.in-Some.u.now c.in-Some-no_greater.least c.in-Some.voted.now c.next.new.self c.into_iter-u-iterator.result (sym c.no_greater.ensures ∙ c.in-Some-no_greater.is) left)
