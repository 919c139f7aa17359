use Rattle.std.proofs.Common.{◌≡◌, Ok, List, ℕ, [], Result, ap, subst, ◌∙◌, arith, ◌++◌, drop, Err}
use Rattle.std.specs.Prelude.{position}
use Rattle.co_schedule.specs.LineText.{behind_line, is_newline}
use Rattle.co_schedule.specs.Lines.{IsRead, unread}
use Rattle.co_schedule.specs.declared.fault.LinesFault.{LinesFault}
use Rattle.co_schedule.specs.declared.fault.LinesFault.TheVariants.{Read}
use Rattle.co_schedule.specs.declared.lines.Held.TheVariants.{Rest}
use Rattle.co_schedule.proofs.NextLine.{filled_ahead, ahead_within, handed_fault, on_fault, next_same, on_ok, ahead_then, same_rest, unread_held}
use Rattle.co_outside.specs.Onward.{past, LiesAhead}
use Rattle.co_schedule.proofs.Heard.{added_ahead}
use Rattle.co_schedule.proofs.lines.Lines.advance.Goals as goal

pub returns-clause-next : goal.returns-clause-next
returns-clause-next g c text told =
    let it = filled_ahead g.S.Source.left _ _ _ _ _ text c.let_go.ensures.held told c.in_ok-held.ensures.taken in
    let none : c.in_ok-held.held ≡ Rest → it.0 ≡ [] = λ e. same_rest _ _ it.1 (c.in_ok-held.ensures.rest (ap Ok e) it.3 it.4) in
    let P : Result (Rattle.std.specs.Prelude.Option (List ℕ)) LinesFault → Type 0 = λ wanted. IsRead wanted c.show.new.self c.show.result in
    subst P (next_same _ _ _ _ _ _ _ _ (c.in_ok-held.ensures.same.line ∙ c.let_go.ensures.same.line) (c.in_ok-held.ensures.same.lines ∙ c.let_go.ensures.same.lines) (c.in_ok-held.ensures.same.lent ∙ c.let_go.ensures.same.lent) it.2) (c.show.ensures.next it.0 none)

pub returns-clause-moved : goal.returns-clause-moved
returns-clause-moved g c = record {
  behind = λ text told.
      let it = filled_ahead g.S.Source.left _ _ _ _ _ text c.let_go.ensures.held told c.in_ok-held.ensures.taken in
      let none : c.in_ok-held.held ≡ Rest → it.0 ≡ [] = λ e. same_rest _ _ it.1 (c.in_ok-held.ensures.rest (ap Ok e) it.3 it.4) in
      on_ok c.show.result _ _ (λ moved. ahead_then (unread c.show.new.self) _ it.0 (behind_line text) it.1 (moved ∙ ap behind_line it.2)) (c.show.ensures.behind it.0 none);
  few = c.show.ensures.few;
  held = unread_held c.show.new.self;
  taken = λ text after told told_then. ahead_within g.S.Source.left _ _ _ _ _ _ text after c.let_go.ensures.held told told_then c.in_ok-held.ensures.bound
      (omega (arith, c.in_ok-held.ensures.same.line, c.let_go.ensures.same.line, c.show.ensures.limits.0));
  kept = λ text told fault. absurd (c.show.ensures.source fault);
  whole = λ fault. absurd (c.show.ensures.source fault);
  limits = (c.show.ensures.limits.0 ∙ c.in_ok-held.ensures.same.line ∙ c.let_go.ensures.same.line, c.show.ensures.limits.1 ∙ c.in_ok-held.ensures.same.lines ∙ c.let_go.ensures.same.lines);
}

pub returns-in_err-held-clause-moved : goal.returns-in_err-held-clause-moved
returns-in_err-held-clause-moved g c =
    let none : c.fill.new.self.used ≡ 0 = c.in_err-held.ensures.used.0 ∙ c.let_go.ensures.used.0 in
    record {
      behind = λ text told. on_fault c.from_residual.result c.in_err-held.field-0.0 _ c.from_residual.ensures;
      few = on_fault c.from_residual.result c.in_err-held.field-0.0 _ c.from_residual.ensures;
      held = unread_held c.fill.new.self;
      taken = λ text after told told_then. ahead_within g.S.Source.left _ _ _ _ _ _ text after c.let_go.ensures.held told told_then c.in_err-held.ensures.bound
          (omega (arith, c.in_err-held.ensures.same.line, c.let_go.ensures.same.line));
      kept = λ text told fault.
          let same : c.in_err-held.field-0.0 ≡ Read = handed_fault c.from_residual.result c.in_err-held.field-0.0 Read c.from_residual.ensures fault in
          let it = filled_ahead g.S.Source.left _ _ _ _ _ text c.let_go.ensures.held told (c.in_err-held.ensures.kept (ap Err same)) in
          ahead_then (unread c.fill.new.self) _ it.0 text it.1 (ap (λ (k : ℕ). drop k c.fill.new.self.buffer.items ++ it.0) none ∙ it.2);
      whole = λ fault. ap (λ (k : ℕ). position is_newline (drop k c.fill.new.self.buffer.items)) none ∙ c.in_err-held.ensures.whole;
      limits = (c.in_err-held.ensures.same.line ∙ c.let_go.ensures.same.line, c.in_err-held.ensures.same.lines ∙ c.let_go.ensures.same.lines);
    }

pub returns-clause-heard : goal.returns-clause-heard
returns-clause-heard g c =
    let all : (text more : List ℕ) → LiesAhead (past g.S.Source.gave g.S.Source.ended g.S.Source.went_on c.args.source.now) (past g.S.Source.gave g.S.Source.ended g.S.Source.went_on c.fill.new.source) text more →
    c.fill.new.self.buffer.items ++ more ≡ unread c.args.self.now ++ text
    = λ text more ahead. added_ahead (past g.S.Source.gave g.S.Source.ended g.S.Source.went_on c.args.source.now) (past g.S.Source.gave g.S.Source.ended g.S.Source.went_on c.fill.new.source)
    text more c.let_go.new.self.buffer.items c.fill.new.self.buffer.items (unread c.args.self.now) c.let_go.ensures.held c.in_ok-held.ensures.added ahead in
    record {
      next = λ text more ahead.
          let none : c.in_ok-held.held ≡ Rest → more ≡ [] = λ e. ahead.over (c.in_ok-held.ensures.ended (ap Ok e)) in
          let P : Result (Rattle.std.specs.Prelude.Option (List ℕ)) LinesFault → Type 0 = λ wanted. IsRead wanted c.show.new.self c.show.result in
          subst P (next_same _ _ _ _ _ _ _ _ (c.in_ok-held.ensures.same.line ∙ c.let_go.ensures.same.line) (c.in_ok-held.ensures.same.lines ∙ c.let_go.ensures.same.lines) (c.in_ok-held.ensures.same.lent ∙ c.let_go.ensures.same.lent) (all text more ahead)) (c.show.ensures.next more none);
      behind = λ text more ahead.
          let none : c.in_ok-held.held ≡ Rest → more ≡ [] = λ e. ahead.over (c.in_ok-held.ensures.ended (ap Ok e)) in
          on_ok c.show.result _ _ (λ moved. moved ∙ ap behind_line (all text more ahead)) (c.show.ensures.behind more none);
    }
