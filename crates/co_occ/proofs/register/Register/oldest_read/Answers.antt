use Rattle.std.proofs.Common.{ap, ◌∙◌}
use Rattle.std.specs.FinMap.{entries}
use Rattle.co_occ.specs.Kept.{oldest_kept}
use Rattle.co_occ.proofs.Registering.{oldest_known}
use Rattle.co_occ.proofs.register.Register.oldest_read.Goals as goal

pub returns : goal.returns
returns c = oldest_known c.self.inside.oldest c.self.inside.reads c.least_from.result c.self.invariant c.least_from.ensures ∙ ap (λ m. oldest_kept (entries m)) c.self.view_is
