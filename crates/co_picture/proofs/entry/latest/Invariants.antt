use Rattle.std.proofs.Common.{◌≡◌, drop, None}
use Rattle.co_picture.specs.Entry.{latest_from}
use Rattle.co_picture.proofs.entry.latest.Given as goal

abbrev pub invariant-loop-row : goal.invariant-loop-row
invariant-loop-row l = latest_from l.row l.found (drop l.row l.before) l.message ≡ latest_from 0 None l.before l.message
