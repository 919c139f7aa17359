use Rattle.std.proofs.Common.{sym, ◌∙◌, refl, subst}
use Rattle.co_mv.specs.Kept.{IsReleased}
use Rattle.co_mv.proofs.Releasing.{keeps_absent, left_released}
use Rattle.co_mv.proofs.archive.Archive.leave.Goals as goal

pub returns-in-Some-clause-keeps : goal.returns-in-Some-clause-keeps
returns-in-Some-clause-keeps c = λ base is k.
    let s = c.args.self.now.snapshots in
    c.release.ensures.keeps s base is
    (subst (λ x. IsReleased s (record { installs = s.installs; stamps = x; pins = s.pins }) c.in-Some.stamp) (sym c.in-Some.ensures.rest) (left_released s c.args.t c.in-Some.stamp (sym c.in-Some.ensures.number)))
    k

pub returns-in_default-clause-keeps : goal.returns-in_default-clause-keeps
returns-in_default-clause-keeps c = λ base is k.
    keeps_absent c.args.self.now _ base is c.args.t (sym c.remove.ensures.number ∙ c.in_default.is) (λ i. record c.args.self.now.snapshots { stamps = c.remove.ensures.rest i }) refl refl k
