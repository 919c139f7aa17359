use Rattle.co_schedule.proofs.Steps.{table_finds, table_tests}
use Rattle.co_schedule.specs.Grammar.{message_word, all_messages}
use Rattle.co_schedule.proofs.form.message_form_of.Goals as goal

pub returns-clause-found : goal.returns-clause-found
returns-clause-found c = table_finds message_word c.args.word.now all_messages _ c.find_message_form.ensures

pub returns-clause-test : goal.returns-clause-test
returns-clause-test c = table_tests message_word c.args.word.now all_messages _ c.find_message_form.ensures
