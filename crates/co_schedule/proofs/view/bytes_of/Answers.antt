use Rattle.std.proofs.Common.{◌≡◌, sym, ◌∙◌}
use Rattle.hex.specs.declared.error.FromHexError.TheVariants.{OddLength, InvalidStringLength, OutOfMemory}
use Rattle.co_schedule.proofs.Hex.{decoding_fails}
use Rattle.co_schedule.proofs.view.bytes_of.Goals as goal

pub unreachable-requires : goal.unreachable-requires
unreachable-requires c =
    let memory = decoding_fails c.args.digits.now _ c.requires c.in-Err-InvalidHexCharacter.ensures.err in
    let other = sym c.in-Err-InvalidHexCharacter.field-0-is ∙ memory in
    absurd cc

pub unreachable-requires-in-Err-OddLength : goal.unreachable-requires-in-Err-OddLength
unreachable-requires-in-Err-OddLength c =
    let memory = decoding_fails c.args.digits.now _ c.requires c.in-Err-OddLength.ensures.err in
    let other : OddLength ≡ OutOfMemory = sym c.in-Err-OddLength.field-0-is ∙ memory in
    absurd cc

pub unreachable-requires-in-Err-InvalidStringLength : goal.unreachable-requires-in-Err-InvalidStringLength
unreachable-requires-in-Err-InvalidStringLength c =
    let memory = decoding_fails c.args.digits.now _ c.requires c.in-Err-InvalidStringLength.ensures.err in
    let other : InvalidStringLength ≡ OutOfMemory = sym c.in-Err-InvalidStringLength.field-0-is ∙ memory in
    absurd cc
