use Rattle.std.proofs.Common.{◌≡◌, None, Some, true, false, sym, ◌∙◌, subst, rules}
use Rattle.co_locktab.specs.Places.{IsFirstFrom}
use Rattle.co_locktab.specs.Forks.{with_middle}
use Rattle.co_locktab.proofs.Looking.{bare_from, bare_beside, weighs_from}
use Rattle.co_locktab.proofs.range_index.RangeIndex.least_behind.Goals as goal

pub returns-in_default : goal.returns-in_default
returns-in_default c = λ x is.
    let forks = c.args.self.now.forks in
    let start = c.args.start.now in
    let none : c.args.first ≡ None = search rules in
    bare_from c.args.self.now.held forks c.args.key.now c.args.t x start c.args.byte c.args.before (subst (IsFirstFrom forks.lower (with_middle start 0)) none is)

pub returns-then-is_beside : goal.returns-then-is_beside
returns-then-is_beside c = λ x is.
    let forks = c.args.self.now.forks in
    let start = c.args.start.now in
    let first = c.in-Some.first in
    let some : c.args.first ≡ Some first = search rules in
    let beside : c.is_beside.result ≡ true = search rules in
    weighs_from c.args.self.now.held forks c.args.key.now c.args.t x start c.args.byte c.args.before c.least_beside.result first
    (subst (IsFirstFrom forks.lower (with_middle start 0)) some is) (sym c.is_beside.ensures ∙ beside) (c.least_beside.ensures x)

pub returns : goal.returns
returns c = λ x is.
    let forks = c.args.self.now.forks in
    let start = c.args.start.now in
    let first = c.in-Some.first in
    let some : c.args.first ≡ Some first = search rules in
    let apart : c.is_beside.result ≡ false = search rules in
    bare_beside c.args.self.now.held forks c.args.key.now c.args.t x start c.args.byte c.args.before first
    (subst (IsFirstFrom forks.lower (with_middle start 0)) some is) (sym c.is_beside.ensures ∙ apart)
