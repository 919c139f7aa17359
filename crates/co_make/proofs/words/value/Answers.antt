use Rattle.std.proofs.Common.{◌≡◌, ◌<◌, ◌^◌, ◌∷◌, rules, arith}
use Rattle.std.specs.Prelude.{decimal}
use Rattle.std.proofs.lemmas.Grind.{common_steps}
use Rattle.co_make.proofs.Letters.{value_letters}
use Rattle.co_make.proofs.words.value.Goals as goal

pub unreachable-requires-in-Err-Letter : goal.unreachable-requires-in-Err-Letter
unreachable-requires-in-Err-Letter c =
    let fits : c.args.number < 2 ^ 64 = omega arith in
    let letters = value_letters c.args.number fits in
    let text : c.deref.result.now ≡ 118 ∷ decimal c.args.number = grind (arith, common_steps) in
    search (rules, letters, text)
