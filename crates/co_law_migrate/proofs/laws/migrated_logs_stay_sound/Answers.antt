use Rattle.co_law_migrate.proofs.Sound.{stay_sound, same_durable}
use Rattle.co_law_migrate.proofs.laws.migrated_logs_stay_sound.Goals as goal

pub returns-clause-sound : goal.returns-clause-sound
returns-clause-sound c = stay_sound

pub returns-clause-durable : goal.returns-clause-durable
returns-clause-durable c = same_durable
