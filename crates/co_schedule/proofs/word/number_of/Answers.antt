use Rattle.std.proofs.Common.{◌≡◌, true, sym, ap, ◌∙◌}
use Rattle.std.specs.Prelude.{decimal}
use Rattle.std.specs.Str.{bytes_eq}
use Rattle.std.proofs.lemmas.Slice.Eq.{bytes_eq-Decides}
use Rattle.co_schedule.proofs.word.number_of.Goals as goal

pub returns-in_err-number-clause-none : goal.returns-in_err-number-clause-none
returns-in_err-number-clause-none c = rw c.from_residual.ensures (λ number small e. let it = c.parsed.ensures number small e in absurd (cc (it, c.in_err-number.was)))

pub returns-else-eq-clause-none : goal.returns-else-eq-clause-none
returns-else-eq-clause-none c number small e =
    let it = c.parsed.ensures number small e in
    let same : c.in_ok-number.number ≡ number = cc (it, c.in_ok-number.was) in
    let equal : bytes_eq c.as_bytes.result.now c.args.word.now ≡ true = (bytes_eq-Decides _ _).1 (c.as_bytes.ensures.value ∙ c.format.ensures.text ∙ ap decimal same ∙ sym e) in
    absurd (cc (equal, c.eq.ensures, c.if-eq.false))
