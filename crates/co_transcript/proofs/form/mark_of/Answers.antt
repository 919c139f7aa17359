use Rattle.co_schedule.proofs.Steps.{table_finds, table_tests}
use Rattle.co_transcript.specs.Spelling.{mark_word}
use Rattle.co_transcript.specs.Grammar.{all_marks}
use Rattle.co_transcript.proofs.form.mark_of.Goals as goal

pub returns-clause-found : goal.returns-clause-found
returns-clause-found c = table_finds mark_word c.args.word.now all_marks _ c.find_mark.ensures

pub returns-clause-test : goal.returns-clause-test
returns-clause-test c = table_tests mark_word c.args.word.now all_marks _ c.find_mark.ensures
