use Rattle.std.proofs.Common.{◌≡◌, Some, sym, subst, ◌∙◌}
use Rattle.co_check.specs.Text.{told_in}
use Rattle.co_check.specs.Written.{IsWrittenAs}
use Rattle.co_check.specs.declared.text.Detail.{Detail}
use Rattle.co_check.proofs.judging.outcome_of.Goals as goal

pub returns-in-Some-clause-judged : goal.returns-in-Some-clause-judged
returns-in-Some-clause-judged g c how text held asked left told =
    let both : Some c.in-Some.detail ≡ Some how = sym c.in-Some.is ∙ c.detail_of.ensures ∙ asked in
    let same : c.in-Some.detail ≡ how = cc in
    subst (λ (d : Detail). IsWrittenAs (told_in d) text held (g.K.Sink.told c.write_judged-judged.new.out) c.write_judged-judged.result) same
    (c.write_judged-judged.ensures.written text held left told)

pub returns-in-Some-clause-heard : goal.returns-in-Some-clause-heard
returns-in-Some-clause-heard g c how text more asked ahead =
    let both : Some c.in-Some.detail ≡ Some how = sym c.in-Some.is ∙ c.detail_of.ensures ∙ asked in
    let same : c.in-Some.detail ≡ how = cc in
    subst (λ (d : Detail). IsWrittenAs (told_in d) text (g.K.Sink.took c.args.out.now) (Some (g.K.Sink.took c.write_judged-judged.new.out)) c.write_judged-judged.result) same
    (c.write_judged-judged.ensures.heard text more ahead)
