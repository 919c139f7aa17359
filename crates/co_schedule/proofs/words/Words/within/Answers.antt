use Rattle.std.proofs.Common.{◌≡◌, length, ap, sym, ◌∙◌, arith}
use Rattle.co_schedule.specs.Words.{words_left, spaced}
use Rattle.co_schedule.specs.declared.fault.LineKind.TheVariants as kind
use Rattle.co_schedule.proofs.Cutting.{spaced-words_of}
use Rattle.co_schedule.proofs.words.Words.within.Goals as goal

pub returns-in-Some-clause-fault : goal.returns-in-Some-clause-fault
returns-in-Some-clause-fault c =
    let here : length (spaced c.args.self.now) ≡ length c.in-Some.rest.now = ap (λ words. length (spaced words)) (sym c.self.view_is ∙ ap words_left c.in-Some.is) ∙ ap length (spaced-words_of c.in-Some.rest.now) in
    (omega arith, ap (λ n. record { kind = kind.Word; left = n }) (sym here))

pub returns-in_default-clause-found : goal.returns-in_default-clause-found
returns-in_default-clause-found c =
    let here : length (spaced c.args.self.now) ≡ length c.in-Some.rest.now = ap (λ words. length (spaced words)) (sym c.self.view_is ∙ ap words_left c.in-Some.is) ∙ ap length (spaced-words_of c.in-Some.rest.now) in
    omega arith
