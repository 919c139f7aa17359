use Rattle.co_schedule.proofs.Steps.{table_finds, table_tests}
use Rattle.co_transcript.specs.Grammar.{form_word, all_forms}
use Rattle.co_transcript.proofs.form.form_of.Goals as goal

pub returns-clause-found : goal.returns-clause-found
returns-clause-found c = table_finds form_word c.args.word.now all_forms _ c.find_form.ensures

pub returns-clause-test : goal.returns-clause-test
returns-clause-test c = table_tests form_word c.args.word.now all_forms _ c.find_form.ensures
