use Rattle.std.proofs.Common.{◌≡◌, length, ap, sym, ◌∙◌}
use Rattle.co_schedule.specs.Words.{words_of, words_left, spaced}
use Rattle.co_schedule.proofs.Cutting.{spaced-words_of}
use Rattle.co_schedule.proofs.words.Words.take.Goals as goal

pub returns-in-Some-clause-found : goal.returns-in-Some-clause-found
returns-in-Some-clause-found c =
    let here : c.args.self.now ≡ words_of c.in-Some.rest.now = sym c.self.view_is ∙ ap words_left c.in-Some.is in
    (here ∙ c.cut.ensures, sym (ap (λ words. length (spaced words)) here ∙ ap length (spaced-words_of c.in-Some.rest.now)))
