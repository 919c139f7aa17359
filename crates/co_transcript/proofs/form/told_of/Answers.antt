use Rattle.co_schedule.proofs.Steps.{table_finds, table_tests}
use Rattle.co_transcript.specs.Grammar.{told_word, all_told}
use Rattle.co_transcript.proofs.form.told_of.Goals as goal

pub returns-clause-found : goal.returns-clause-found
returns-clause-found c = table_finds told_word c.args.word.now all_told _ c.find_told.ensures

pub returns-clause-test : goal.returns-clause-test
returns-clause-test c = table_tests told_word c.args.word.now all_told _ c.find_told.ensures
