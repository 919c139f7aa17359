use Rattle.std.proofs.Common.{◌≡◌, ◌≤◌, ℕ, List, length}
use Rattle.co_frame.specs.LogText.{HasPassed}
use Rattle.co_log.proofs.scanning.check_text.Given as goal

abbrev pub invariant-loop-turn : goal.invariant-loop-turn
invariant-loop-turn l = ((passed : List (List ℕ)) × HasPassed l.batches passed) × (l.batches.source ≡ l.bytes) × (l._turn ≤ l.batches.at) × (l.batches.at ≤ length l.bytes)
