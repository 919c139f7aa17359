use Rattle.std.proofs.Common.{◌≡◌, ◌-◌, None}
use Rattle.std.specs.Prelude.{option_map, option_copied}
use Rattle.co_record.specs.Reading.{steps, next_at, change_at, change_cmp}
use Rattle.co_record.proofs.list.skip_changes.Given as goal

abbrev pub invariant-loop : goal.invariant-loop
invariant-loop l = steps (next_at (change_at l.version) change_cmp) (l.count - l.counter) (option_map (λ p. record { key = p.0.now; value = option_copied p.1 }) l.before, l.rest) ≡ steps (next_at (change_at l.version) change_cmp) l.count (None, l.bytes)
