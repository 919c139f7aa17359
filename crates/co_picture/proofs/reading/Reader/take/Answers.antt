use Rattle.std.proofs.Common.{◌++◌, ◌∷◌, [], ap, ◌∙◌}
use Rattle.co_picture.proofs.Steps.{taken_one}
use Rattle.co_picture.proofs.reading.Reader.take.Goals as goal

pub returns-in_ok-push-in-Some-clause-taken : goal.returns-in_ok-push-in-Some-clause-taken
returns-in_ok-push-in-Some-clause-taken c = λ items f. record {
  same = c.in_ok-push-in-Some.ensures.ok ∙ ap (λ l. l ++ c.args.item ∷ []) f.same;
  shaped = taken_one c.args.self items c.args.item c.in-Some.stand f c.in-Some.ensures;
}
