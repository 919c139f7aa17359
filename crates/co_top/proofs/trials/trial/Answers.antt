use Rattle.std.proofs.Common.{◌≡◌, sym, ap, subst, ◌∙◌, inl}
use Rattle.co_top.specs.Replayed.{status_of}
use Rattle.co_top.specs.Trials.{IsOfTrial, IsTrialEnd}
use Rattle.co_top.specs.declared.status.Status.TheVariants as status
use Rattle.co_top.proofs.Trying.{summary_ended, summary_own, write_of}
use Rattle.co_top.proofs.trials.trial.Goals as goal

pub returns-in-Ok-clause-end : goal.returns-in-Ok-clause-end
returns-in-Ok-clause-end g c = λ held told.
    subst (λ s. IsTrialEnd c.args.number c.args.events held (g.K.Sink.told c.tell_summary.new.out) s) (sym c.ended.ensures)
    (summary_ended c.args.number c.args.events c.in-Ok.summary held (g.K.Sink.told c.args.out.now) (g.K.Sink.told c.tell_summary.new.out) c.tell_summary.result c.in-Ok.ensures.trial told c.tell_summary.ensures.told)

pub returns-in-Err-clause-end : goal.returns-in-Err-clause-end
returns-in-Err-clause-end g c = λ held told.
    inl told

pub returns-in-Ok-clause-write : goal.returns-in-Ok-clause-write
returns-in-Ok-clause-write g c = λ e. c.tell_summary.ensures.failed (write_of c.tell_summary.result (sym c.ended.ensures ∙ e))

pub returns-in-Ok-clause-quiet : goal.returns-in-Ok-clause-quiet
returns-in-Ok-clause-quiet g c = λ other. c.tell_summary.ensures.quiet (λ e. other (c.ended.ensures ∙ ap status_of e))

pub returns-in-Ok-clause-own : goal.returns-in-Ok-clause-own
returns-in-Ok-clause-own g c = subst IsOfTrial (sym c.ended.ensures) (summary_own c.in-Ok.summary (g.K.Sink.told c.args.out.now) (g.K.Sink.told c.tell_summary.new.out) c.tell_summary.result c.tell_summary.ensures.told)

pub returns-in-Err-clause-write : goal.returns-in-Err-clause-write
returns-in-Err-clause-write g c = λ e. absurd (let z : status.Memory ≡ status.Write = e in cc)
