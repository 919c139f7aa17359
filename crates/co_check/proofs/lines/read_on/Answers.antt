use Rattle.std.proofs.Common.{Some, sym, ◌≡◌, ◌+◌, ◌∙◌, refl, ap, subst, Ok, Err, arith}
use Rattle.co_check.specs.declared.fault.CheckFault.TheVariants.{Read}
use Rattle.co_check.specs.declared.lines.Step.TheVariants.{Further}
use Rattle.co_check.specs.Resumed.{IsReadingFrom}
use Rattle.co_check.specs.Taking.{IsStep, IsFurther}
use Rattle.co_check.proofs.Reading.{at_start}
use Rattle.co_outside.specs.Onward.{past}
use Rattle.co_outside.proofs.Onward.{onward_not, onward_then}
use Rattle.std.proofs.lemmas.List.{append_cancel_left}
use Rattle.co_check.proofs.Hearing.{steps_on, handed}
use Rattle.co_check.proofs.lines.read_on.Goals as goal

pub loop-number-init : goal.loop-number-init
loop-number-init g c = (
  record {
    bytes = c.in_ok-lines.ensures.limits.0;
    most = c.in_ok-lines.ensures.limits.1;
    is_number = ap (λ k. k + 1) c.in_ok-lines.ensures.limits.2;
  },
  omega (arith, c.requires),
  λ s text k e. at_start s text c.in_ok-lines.lines (g.S.Source.left c.args.source.now) c.args.reader c.in_ok-lines.ensures.nothing c.in_ok-lines.ensures.limits.2 e
      k,
  refl,
  onward_not (past g.S.Source.gave g.S.Source.ended g.S.Source.went_on c.args.source.now),
  λ s text more k ahead. at_start s text c.in_ok-lines.lines (Some more) c.args.reader c.in_ok-lines.ensures.nothing c.in_ok-lines.ensures.limits.2
      (ap Some (sym (append_cancel_left (g.S.Source.gave c.args.source.now) text more ahead.same))) k,
)

pub returns-in-Judged-clause-checked : goal.returns-in-Judged-clause-checked
returns-in-Judged-clause-checked g c = λ s text k e.
    subst (λ z. IsStep s text c.take_line.new.lines (g.S.Source.left c.take_line.new.source) (Ok z)) c.in-Judged.is
    (c.in_ok-after.ensures.checked s text (c.loop-number.invariant.2 s text k e))

pub loop-number-preserved : goal.loop-number-preserved
loop-number-preserved g c =
    let further : IsFurther c.loop-number.number c.loop-number.reader c.take_line.new.lines (Ok (Further c.in-Further.after)) =
    subst (λ z. IsFurther c.loop-number.number c.loop-number.reader c.take_line.new.lines (Ok z)) c.in-Further.is c.in_ok-after.ensures.further in (
      further.0,
      omega (arith, further.1, c.loop-number.invariant.1),
      λ s text k e. subst (λ z. IsStep s text c.take_line.new.lines (g.S.Source.left c.take_line.new.source) (Ok z)) c.in-Further.is
          (c.in_ok-after.ensures.checked s text (c.loop-number.invariant.2 s text k e)),
      c.in_ok-after.ensures.quiet (λ z. let e : Ok c.in_ok-after.field-0 ≡ Err Read = z in cc) ∙ c.loop-number.invariant.3,
      onward_then _ _ _ c.loop-number.invariant.4 c.in_ok-after.ensures.onward,
      λ s text more k ahead. subst (λ z. IsStep s text c.take_line.new.lines (Some more) (Ok z)) c.in-Further.is
          (steps_on s (past g.S.Source.gave g.S.Source.ended g.S.Source.went_on c.args.source.now) (past g.S.Source.gave g.S.Source.ended g.S.Source.went_on c.loop-number.source) (past g.S.Source.gave g.S.Source.ended g.S.Source.went_on c.take_line.new.source)
          c.loop-number.lines c.take_line.new.lines c.loop-number.reader (Ok c.in_ok-after.field-0) c.in_ok-after.ensures.onward (λ t m. c.loop-number.invariant.5 s t m k) (c.in_ok-after.ensures.heard s) text more ahead),
    )

pub returns-in-Judged-clause-heard : goal.returns-in-Judged-clause-heard
returns-in-Judged-clause-heard g c = λ s text more k ahead.
    subst (λ z. IsStep s text c.take_line.new.lines (Some more) (Ok z)) c.in-Judged.is
    (steps_on s (past g.S.Source.gave g.S.Source.ended g.S.Source.went_on c.args.source.now) (past g.S.Source.gave g.S.Source.ended g.S.Source.went_on c.loop-number.source) (past g.S.Source.gave g.S.Source.ended g.S.Source.went_on c.take_line.new.source)
    c.loop-number.lines c.take_line.new.lines c.loop-number.reader (Ok c.in_ok-after.field-0) c.in_ok-after.ensures.onward (λ t m. c.loop-number.invariant.5 s t m k) (c.in_ok-after.ensures.heard s) text more ahead)

pub returns-in_err-after-clause-heard : goal.returns-in_err-after-clause-heard
returns-in_err-after-clause-heard g c = λ s text more k ahead.
    subst (IsReadingFrom s text) (sym (handed c.from_residual-in_err-after.result c.in_err-after.field-0.0 c.from_residual-in_err-after.ensures))
    (steps_on s (past g.S.Source.gave g.S.Source.ended g.S.Source.went_on c.args.source.now) (past g.S.Source.gave g.S.Source.ended g.S.Source.went_on c.loop-number.source) (past g.S.Source.gave g.S.Source.ended g.S.Source.went_on c.take_line.new.source)
    c.loop-number.lines c.take_line.new.lines c.loop-number.reader (Err c.in_err-after.field-0.0) c.in_err-after.ensures.onward (λ t m. c.loop-number.invariant.5 s t m k) (c.in_err-after.ensures.heard s) text more ahead)
