use Rattle.co_law_migrate.proofs.Told.{member_allowed, coord_allowed, member_within, coord_within}
use Rattle.co_law_migrate.proofs.laws.migrated_logs_are_allowed.Goals as goal

pub returns-clause-member : goal.returns-clause-member
returns-clause-member c = member_allowed

pub returns-clause-coord : goal.returns-clause-coord
returns-clause-coord c = coord_allowed

pub returns-clause-member_within : goal.returns-clause-member_within
returns-clause-member_within c = member_within

pub returns-clause-coord_within : goal.returns-clause-coord_within
returns-clause-coord_within c = coord_within
