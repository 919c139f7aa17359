use Rattle.std.proofs.Common.{sym, ◌∙◌, refl, subst}
use Rattle.co_mv.specs.Kept.{IsReleased}
use Rattle.co_mv.proofs.Releasing.{keeps_unpinned, unpinned_released}
use Rattle.co_mv.proofs.archive.Archive.unpin.Goals as goal

pub returns-in-Some-clause-keeps : goal.returns-in-Some-clause-keeps
returns-in-Some-clause-keeps c = λ base is k.
    let s = c.args.self.now.snapshots in
    c.release.ensures.keeps s base is
    (subst (λ x. IsReleased s x c.in-Some.number) (sym c.in-Some.ensures.rest) (unpinned_released s c.args.id c.in-Some.number (sym c.in-Some.ensures.number)))
    k

pub returns-in_default-clause-keeps : goal.returns-in_default-clause-keeps
returns-in_default-clause-keeps c = λ base is k. keeps_unpinned c.args.self.now _ base is c.args.id (sym c.unpin.ensures.number ∙ c.in_default.is) c.unpin.ensures.rest refl refl k
