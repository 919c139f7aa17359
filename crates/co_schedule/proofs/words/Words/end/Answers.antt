use Rattle.std.proofs.Common.{◌≡◌, ap, sym, ◌∙◌}
use Rattle.co_schedule.specs.Words.{words_of, words_left}
use Rattle.co_schedule.proofs.Cutting.{extra_word}
use Rattle.co_schedule.proofs.words.Words.end.Goals as goal

pub returns-in-Some-clause-fault : goal.returns-in-Some-clause-fault
returns-in-Some-clause-fault c =
    let here : c.args.self.now ≡ words_of c.in-Some.rest.now = sym c.self.view_is ∙ ap words_left c.in-Some.is in
    rw here (extra_word c.in-Some.rest.now)
