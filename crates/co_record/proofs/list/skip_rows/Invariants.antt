use Rattle.std.proofs.Common.{◌≡◌, ◌-◌, None}
use Rattle.std.specs.Prelude.{option_map}
use Rattle.co_record.specs.Reading.{steps, next_at, row_at, row_cmp, row_of}
use Rattle.co_record.proofs.list.skip_rows.Given as goal

abbrev pub invariant-loop : goal.invariant-loop
invariant-loop l = steps (next_at (row_at l.version) row_cmp) (l.count - l.counter) (option_map (λ p. row_of (p.0.now, p.1.now)) l.before, l.rest) ≡ steps (next_at (row_at l.version) row_cmp) l.count (None, l.bytes)
