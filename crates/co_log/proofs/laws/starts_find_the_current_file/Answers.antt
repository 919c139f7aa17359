use Rattle.co_log.proofs.Once.{first_is, second_is}
use Rattle.co_log.proofs.laws.starts_find_the_current_file.Goals as goal

pub returns-clause-part_a : goal.returns-clause-part_a
returns-clause-part_a c = first_is

pub returns-clause-part_b : goal.returns-clause-part_b
returns-clause-part_b c = second_is
