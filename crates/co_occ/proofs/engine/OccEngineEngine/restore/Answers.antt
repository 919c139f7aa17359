use Rattle.std.proofs.Common.{refl, ap, ◌∙◌}
use Rattle.co_state.specs.Effects.{records_from}
use Rattle.co_occ.proofs.Standing.{stands_restored}
use Rattle.co_occ.proofs.engine.OccEngineEngine.restore.Goals as goal

pub returns-clause-state : goal.returns-clause-state
returns-clause-state c =
    stands_restored _ c.args.kind (records_from c.args.rows) c.args.voted.now c.requires.taken
    (c.in_ok-records_of.ensures ∙ ap records_from c.into_vec.ensures.value) refl c.new.ensures c.new-2.ensures c.new-3.ensures c.in_ok-prepared_sets.ensures
