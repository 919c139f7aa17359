use Rattle.co_schedule.proofs.Steps.{table_finds, table_tests}
use Rattle.co_schedule.specs.Grammar.{all_kinds}
use Rattle.co_schedule.specs.Spelling.{kind_word}
use Rattle.co_schedule.proofs.head.kind_of.Goals as goal

pub returns-clause-found : goal.returns-clause-found
returns-clause-found c = table_finds kind_word c.args.word.now all_kinds _ c.find_kind.ensures

pub returns-clause-test : goal.returns-clause-test
returns-clause-test c = table_tests kind_word c.args.word.now all_kinds _ c.find_kind.ensures
