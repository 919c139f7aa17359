use Rattle.std.proofs.Common.{◌≡◌, ◌∙◌, ap, sym, rules, ℕ, List, Some, take, drop, length, ◌++◌, append_assoc}
use Rattle.co_outside.specs.Source.{taken_bytes}
use Rattle.co_outside.proofs.Wholes.{more_read, less_left, all_read, none_left, left_at_fault}
use Rattle.co_outside.proofs.whole.read_all.Goals as goal

pub returns-in_err-extend_from_slice-in-Bytes-clause-lost : goal.returns-in_err-extend_from_slice-in-Bytes-clause-lost
returns-in_err-extend_from_slice-in-Bytes-clause-lost g c =
    λ held told. left_at_fault _ _ held (length (c.reading.input.items ++ taken_bytes c.in_ok-bytes.field-0))
    (c.in_ok-bytes.ensures.rest _ (c.reading.invariant.rest held told) ∙ ap Some (less_left held c.reading.input.items (taken_bytes c.in_ok-bytes.field-0)))

pub reading-preserved : goal.reading-preserved
reading-preserved g c =
    let same : c.as_slice.result.now ≡ taken_bytes c.in_ok-bytes.field-0 = c.as_slice.ensures ∙ sym (ap taken_bytes c.in-Bytes.is) in
    let items : c.extend_from_slice.new.self.items ≡ c.reading.input.items ++ taken_bytes c.in_ok-bytes.field-0 =
    c.in_ok-extend_from_slice-in-Bytes.ensures.items ∙ ap (λ (xs : List ℕ). c.reading.input.items ++ xs) same in
    record {
      within = search rules;
      counts = search rules;
      front = λ held told.
          items
          ∙ more_read held c.reading.input.items (taken_bytes c.in_ok-bytes.field-0) (c.reading.invariant.front held told) (c.in_ok-bytes.ensures.front _ (c.reading.invariant.rest held told))
          ∙ ap (λ (xs : List ℕ). take (length xs) held) (sym items);
      rest = λ held told.
          c.in_ok-bytes.ensures.rest _ (c.reading.invariant.rest held told)
          ∙ ap Some (less_left held c.reading.input.items (taken_bytes c.in_ok-bytes.field-0))
          ∙ ap (λ (xs : List ℕ). Some (drop (length xs) held)) (sym items);
      gave = c.in_ok-bytes.ensures.gave
          ∙ ap (λ (gave : List ℕ). gave ++ taken_bytes c.in_ok-bytes.field-0) c.reading.invariant.gave
          ∙ append_assoc (g.S.Source.gave c.args.source.now) c.reading.input.items (taken_bytes c.in_ok-bytes.field-0)
          ∙ ap (λ (xs : List ℕ). g.S.Source.gave c.args.source.now ++ xs) (sym items);
    }

pub returns-in-End-clause-bytes : goal.returns-in-End-clause-bytes
returns-in-End-clause-bytes g c = λ held told.
    all_read held c.reading.input.items c.args.most (c.reading.invariant.front held told) ((c.in_ok-bytes.ensures.end _ (c.reading.invariant.rest held told)).0 c.in-End.is) c.reading.invariant.within

pub returns-in-End-clause-rest : goal.returns-in-End-clause-rest
returns-in-End-clause-rest g c = λ held told.
    c.in_ok-bytes.ensures.rest _ (c.reading.invariant.rest held told)
    ∙ ap (λ t. Some (drop (length (taken_bytes t)) (drop (length c.reading.input.items) held))) c.in-End.is
    ∙ ap Some (none_left held c.reading.input.items c.args.most (c.reading.invariant.front held told) ((c.in_ok-bytes.ensures.end _ (c.reading.invariant.rest held told)).0 c.in-End.is) c.reading.invariant.within)
