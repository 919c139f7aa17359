use Rattle.co_state.specs.Effects.{records_from}
use Rattle.co_mv.proofs.Standing.{stands_restored}
use Rattle.co_mv.proofs.mv_engine.MvEngineEngine.restore.Goals as goal

pub returns-clause-state : goal.returns-clause-state
returns-clause-state c = stands_restored _ c.args.kind (records_from c.args.rows) c.args.voted.now c.requires.taken c.in_ok-of_rows.ensures.keeps c.in_ok-of_rows.ensures.stamps c.in_ok-prepared_sets.ensures
