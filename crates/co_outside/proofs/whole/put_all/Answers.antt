use Rattle.std.proofs.Common.{◌∙◌, ap, rules, Some, ℕ, List, ◌-◌, ◌++◌, length, take, drop}
use Rattle.std.proofs.lemmas.List.{append-nil}
use Rattle.co_outside.proofs.Wholes.{more_held, held_at_fault, took_at_fault}
use Rattle.co_outside.proofs.whole.put_all.Goals as goal

pub returns-in_err-count-clause-took_front : goal.returns-in_err-count-clause-took_front
returns-in_err-count-clause-took_front g c =
    took_at_fault _ _ (g.K.Sink.took c.args.sink.now) c.args.piece.now c.writing.done (c.in_err-count.ensures.took ∙ append-nil (g.K.Sink.took c.writing.sink) ∙ c.writing.invariant.took)

pub returns-in_err-count-clause-front : goal.returns-in_err-count-clause-front
returns-in_err-count-clause-front g c =
    λ held told. held_at_fault _ _ held c.args.piece.now c.writing.done
    (c.in_err-count.ensures.appended _ (c.writing.invariant.front held told) ∙ ap Some (append-nil (held ++ take c.writing.done c.args.piece.now)))

pub writing-preserved : goal.writing-preserved
writing-preserved g c = record {
  within = search rules;
  counts = search rules;
  lacks = search rules;
  front = λ held told. c.in_ok-count.ensures.appended _ (c.writing.invariant.front held told) ∙ ap Some (more_held held c.args.piece.now c.writing.done c.in_ok-count.count);
  took = c.in_ok-count.ensures.took
      ∙ ap (λ (took : List ℕ). took ++ take c.in_ok-count.count (take (length c.args.piece.now - c.writing.done) (drop c.writing.done c.args.piece.now))) c.writing.invariant.took
      ∙ more_held (g.K.Sink.took c.args.sink.now) c.args.piece.now c.writing.done c.in_ok-count.count;
}
