use Rattle.std.proofs.Common.{◌≡◌, ◌+◌, ◌++◌, drop, map}
use Rattle.co_serial.specs.Records.{all_rows}
use Rattle.co_durable.specs.Laying.{rows_from, durable_of_past, durable_of_pasts}
use Rattle.co_durable.proofs.laying.durable_rows.Given as goal

abbrev pub invariant-loop-place : goal.invariant-loop-place
invariant-loop-place l =
    l.durable ++ rows_from (l.place + 1) (map (λ past. all_rows (durable_of_past l.seen past)) (drop l.place l.pasts)) ≡ durable_of_pasts l.seen l.pasts
