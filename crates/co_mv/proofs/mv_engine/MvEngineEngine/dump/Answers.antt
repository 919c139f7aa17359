use Rattle.std.proofs.Common.{ap, ◌∙◌}
use Rattle.co_serial.specs.Records.{all_rows}
use Rattle.co_mv.proofs.Seeing.{all_ordered}
use Rattle.co_mv.proofs.Standing.{dump_alike}
use Rattle.co_mv.proofs.mv_engine.MvEngineEngine.dump.Goals as goal

pub returns-clause-rows : goal.returns-clause-rows
returns-clause-rows c = λ b s. c.into_rows.ensures ∙ ap all_rows (c.in_ok-records.ensures (all_ordered c.args.self.now.archive b.base b.installed s.keeps)) ∙ dump_alike c.args.self.now b s
