use Rattle.std.proofs.Common.{◌≡◌, ◌++◌, ℕ, List, Some, OnErr, take, subst, rules}
use Rattle.co_picture.specs.Drawn.{number_text}
use Rattle.co_picture.proofs.note.put_number.Goals as goal

pub returns-in-Some-clause-front : goal.returns-in-Some-clause-front
returns-in-Some-clause-front g c held told =
    let same : c.as_bytes.result.now ≡ number_text c.args.line = search rules in
    subst (λ (text : List ℕ). OnErr c.put_all.result ((count : ℕ) × (g.N.Sink.told c.put_all.new.sink ≡ Some (held ++ take count text)))) same (c.put_all.ensures.front held told)
