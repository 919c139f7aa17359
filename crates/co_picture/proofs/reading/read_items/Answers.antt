use Rattle.std.proofs.Common.{Some, List, length, ◌<◌, sym, ◌≡◌, ◌+◌, ◌∙◌, refl, ap, subst, Ok, Err, arith}
use Rattle.co_message.specs.declared.item.Item.{Item}
use Rattle.co_picture.specs.declared.fault.DrawFault.TheVariants.{Read}
use Rattle.co_picture.specs.declared.reading.Step.TheVariants.{Further}
use Rattle.co_picture.specs.Read.{IsRead}
use Rattle.co_picture.specs.Read.{IsStep, IsFurther}
use Rattle.co_picture.proofs.Steps.{at_start}
use Rattle.co_outside.specs.Onward.{past}
use Rattle.co_outside.proofs.Onward.{onward_not, onward_then}
use Rattle.std.proofs.lemmas.List.{append_cancel_left}
use Rattle.co_picture.proofs.Steps.{steps_on, handed}
use Rattle.co_picture.proofs.reading.read_items.Goals as goal

pub loop-number-init : goal.loop-number-init
loop-number-init g c = (
  record {
    bytes = c.in_ok-lines.ensures.limits.0;
    most = c.in_ok-lines.ensures.limits.1;
    is_number = ap (λ k. k + 1) c.in_ok-lines.ensures.limits.2;
  },
  subst (λ (its : List Item). length its < 1) (sym c.new-reader.ensures.same) (omega arith),
  λ text e. at_start text c.in_ok-lines.lines (g.S.Source.left c.args.source.now) c.new-reader.result c.in_ok-lines.ensures.nothing c.in_ok-lines.ensures.limits.2 e
      c.new-reader.ensures,
  refl,
  onward_not (past g.S.Source.gave g.S.Source.ended g.S.Source.went_on c.args.source.now),
  λ text more ahead. at_start text c.in_ok-lines.lines (Some more) c.new-reader.result c.in_ok-lines.ensures.nothing c.in_ok-lines.ensures.limits.2
      (ap Some (sym (append_cancel_left (g.S.Source.gave c.args.source.now) text more ahead.same))) c.new-reader.ensures,
)

pub returns-in-Whole-clause-read : goal.returns-in-Whole-clause-read
returns-in-Whole-clause-read g c = λ text e.
    subst (λ z. IsStep text c.take_line.new.lines (g.S.Source.left c.take_line.new.source) (Ok z)) c.in-Whole.is
    (c.in_ok-after.ensures.read text (c.loop-number.invariant.2 text e))

pub loop-number-preserved : goal.loop-number-preserved
loop-number-preserved g c =
    let further : IsFurther c.loop-number.number c.loop-number.reader c.take_line.new.lines (Ok (Further c.in-Further.after)) =
    subst (λ z. IsFurther c.loop-number.number c.loop-number.reader c.take_line.new.lines (Ok z)) c.in-Further.is c.in_ok-after.ensures.further in (
      further.0,
      omega (arith, further.1, c.loop-number.invariant.1),
      λ text e. subst (λ z. IsStep text c.take_line.new.lines (g.S.Source.left c.take_line.new.source) (Ok z)) c.in-Further.is
          (c.in_ok-after.ensures.read text (c.loop-number.invariant.2 text e)),
      c.in_ok-after.ensures.quiet (λ z. let e : Ok c.in_ok-after.field-0 ≡ Err Read = z in cc) ∙ c.loop-number.invariant.3,
      onward_then _ _ _ c.loop-number.invariant.4 c.in_ok-after.ensures.onward,
      λ text more ahead. subst (λ z. IsStep text c.take_line.new.lines (Some more) (Ok z)) c.in-Further.is
          (steps_on (past g.S.Source.gave g.S.Source.ended g.S.Source.went_on c.args.source.now) (past g.S.Source.gave g.S.Source.ended g.S.Source.went_on c.loop-number.source) (past g.S.Source.gave g.S.Source.ended g.S.Source.went_on c.take_line.new.source)
          c.loop-number.lines c.take_line.new.lines c.loop-number.reader (Ok c.in_ok-after.field-0) c.in_ok-after.ensures.onward c.loop-number.invariant.5 c.in_ok-after.ensures.heard text more ahead),
    )

pub returns-in-Whole-clause-heard : goal.returns-in-Whole-clause-heard
returns-in-Whole-clause-heard g c = λ text more ahead.
    subst (λ z. IsStep text c.take_line.new.lines (Some more) (Ok z)) c.in-Whole.is
    (steps_on (past g.S.Source.gave g.S.Source.ended g.S.Source.went_on c.args.source.now) (past g.S.Source.gave g.S.Source.ended g.S.Source.went_on c.loop-number.source) (past g.S.Source.gave g.S.Source.ended g.S.Source.went_on c.take_line.new.source)
    c.loop-number.lines c.take_line.new.lines c.loop-number.reader (Ok c.in_ok-after.field-0) c.in_ok-after.ensures.onward c.loop-number.invariant.5 c.in_ok-after.ensures.heard text more ahead)

pub returns-in_err-after-clause-heard : goal.returns-in_err-after-clause-heard
returns-in_err-after-clause-heard g c = λ text more ahead.
    subst (IsRead text) (sym (handed c.from_residual-in_err-after.result c.in_err-after.field-0.0 c.from_residual-in_err-after.ensures))
    (steps_on (past g.S.Source.gave g.S.Source.ended g.S.Source.went_on c.args.source.now) (past g.S.Source.gave g.S.Source.ended g.S.Source.went_on c.loop-number.source) (past g.S.Source.gave g.S.Source.ended g.S.Source.went_on c.take_line.new.source)
    c.loop-number.lines c.take_line.new.lines c.loop-number.reader (Err c.in_err-after.field-0.0) c.in_err-after.ensures.onward c.loop-number.invariant.5 c.in_err-after.ensures.heard text more ahead)
