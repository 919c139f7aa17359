use Rattle.std.proofs.Common.{ap, ◌∙◌, None, arith}
use Rattle.std.specs.Str.Parse.{digits_value}
use Rattle.std.proofs.lemmas.Result.{err_from_is_err_and}
use Rattle.co_schedule.specs.Places.{number, first_fault}
use Rattle.co_schedule.proofs.Numbers.{value_of-decimal}
use Rattle.co_transcript.specs.Grammar.{answer_places, rows_places}
use Rattle.co_transcript.specs.declared.form.AnswerForm.TheVariants as AnswerForm
use Rattle.co_transcript.proofs.FirstFault.{same_fault, step_taken}
use Rattle.co_transcript.proofs.reading.rows.Goals as goal

pub returns-in_err-rows-clause-fault : goal.returns-in_err-rows-clause-fault
returns-in_err-rows-clause-fault c =
    let given = err_from_is_err_and c.from_residual-in_err-rows.result c.from_residual-in_err-rows.ensures.1 in
    let count = c.in_ok-count.count in
    let taken = step_taken (number 0 4294967295) (λ word. rows_places (digits_value 10 word) None) _ _ _ c.in_ok-count.ensures.taken in
    rw (given.1, given.2) (same_fault (answer_places AnswerForm.Rows) (rows_places count None) c.args.words.now c.number.new.self _ (taken ∙ ap (λ n. first_fault (rows_places n None) c.number.new.self) (value_of-decimal count (omega arith))) c.in_err-rows.ensures.fault)
