use Rattle.std.proofs.Common.{List, map, slice_get, sym, ap, ◌∙◌}
use Rattle.co_mv.specs.declared.version.Version.{Version}
use Rattle.co_mv.proofs.Standing.{versions_alike}
use Rattle.co_mv.proofs.mv_engine.MvEngine.version_at.Goals as goal

pub returns : goal.returns
returns c = λ b s.
    ap (λ (vs : List Version). slice_get (map (λ v. v.value) vs) c.args.place) (sym (versions_alike c.args.self.now b c.args.key.now s)) ∙ c.value_at.ensures
