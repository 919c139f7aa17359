use Rattle.std.proofs.Common.{◌≡◌, Ok, arith, ◌∙◌, refl}
use Rattle.std.proofs.lemmas.Fmt.{IsAscii-decimal, parse-decimal}
use Rattle.std.proofs.lemmas.Str.{IsUtf8-from_ascii}
use Rattle.co_schedule.proofs.word.parsed.Goals as goal

pub returns-in-Err : goal.returns-in-Err
returns-in-Err c number small e =
    absurd (c.in-Err.ensures.cases.0 (rw e (IsUtf8-from_ascii _ (IsAscii-decimal number (omega arith)))))

pub returns-in-Ok : goal.returns-in-Ok
returns-in-Ok c number small e =
    let it : c.parse.result ≡ Ok number = parse-decimal 64 number _ _ small (omega arith) (c.in-Ok.ensures.cases.0 ∙ e) c.parse.ensures.value.0 in
    rw c.ok.ensures.value (rw it refl)
