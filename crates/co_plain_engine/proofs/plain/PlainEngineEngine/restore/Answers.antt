use Rattle.std.proofs.Common.{ap, ◌∙◌}
use Rattle.co_state.specs.Effects.{records_from}
use Rattle.co_plain_engine.proofs.Standing.{stands_restored}
use Rattle.co_plain_engine.proofs.plain.PlainEngineEngine.restore.Goals as goal

pub returns-clause-state : goal.returns-clause-state
returns-clause-state c =
    stands_restored _ (records_from c.args.rows) c.args.voted.now
    (c.in_ok-records_from.ensures ∙ ap records_from c.into_vec.ensures.value) c.new.ensures c.new-2.ensures c.in_ok-voted_roll.ensures
