use Rattle.co_schedule.proofs.Steps.{table_finds, table_tests}
use Rattle.co_transcript.specs.Spelling.{cause_word}
use Rattle.co_transcript.specs.Grammar.{all_causes}
use Rattle.co_transcript.proofs.form.cause_of.Goals as goal

pub returns-clause-found : goal.returns-clause-found
returns-clause-found c = table_finds cause_word c.args.word.now all_causes _ c.find_cause.ensures

pub returns-clause-test : goal.returns-clause-test
returns-clause-test c = table_tests cause_word c.args.word.now all_causes _ c.find_cause.ensures
