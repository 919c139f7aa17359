use Rattle.std.proofs.Common.{Some, sym, ap, ◌∙◌}
use Rattle.co_engine.specs.Pins.{pinned_rows}
use Rattle.co_mv.proofs.Seeing.{all_ordered}
use Rattle.co_mv.proofs.Standing.{look_alike}
use Rattle.co_mv.proofs.mv_engine.MvEnginePinning.look.Goals as goal

pub returns-in_ok-rows_at-in-Some : goal.returns-in_ok-rows_at-in-Some
returns-in_ok-rows_at-in-Some c = λ b s.
    let at = sym c.in-Some.ensures in
    ap Some (c.in_ok-rows_at-in-Some.ensures (all_ordered c.args.self.now.archive b.base b.installed s.keeps) ∙ look_alike c.args.self.now b c.args.id c.in-Some.installs c.args.range.now s at) ∙ ap (pinned_rows b c.args.range.now) (sym at)
