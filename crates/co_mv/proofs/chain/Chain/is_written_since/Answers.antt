use Rattle.std.proofs.Common.{ap, ◌∙◌, ◌-◌, length, slice_get, List}
use Rattle.co_mv.specs.declared.version.Version.{Version}
use Rattle.co_mv.proofs.Seeing.{last_tells}
use Rattle.co_mv.proofs.chain.Chain.is_written_since.Goals as goal

pub returns-in-Some : goal.returns-in-Some
returns-in-Some c = λ ordered.
    last_tells c.args.installs c.self.inside.oldest_first.items c.args.self.now c.in-Some.newest.now c.self.view_is
    (c.in-Some.ensures.value ∙ ap (λ (vs : List Version). slice_get vs (length vs - 1)) c.deref.ensures.value) ordered
