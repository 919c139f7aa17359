use Rattle.std.proofs.Common.{◌≡◌, ◌-◌}
use Rattle.co_record.specs.Reading.{steps, past_letter}
use Rattle.co_record.proofs.field.skip_letters.Given as goal

abbrev pub invariant-loop : goal.invariant-loop
invariant-loop l = steps past_letter (l.count - l.counter) l.rest ≡ steps past_letter l.count l.bytes
