use Rattle.std.proofs.Common.{◌≡◌}
use Rattle.co_coord.specs.Reading.{is_above}
use Rattle.co_plain.specs.Federation.{Federation}
use Rattle.co_state.specs.Table.{least_where}
use Rattle.co_cluster.specs.Readings.{least_to}
use Rattle.co_cluster.specs.Standing.{RepresentsCluster}
use Rattle.co_cluster.proofs.cluster.Cluster.tabled_after.Given as goal

abbrev pub invariant-loop-place : goal.invariant-loop-place
invariant-loop-place g l = (s : Federation) → RepresentsCluster g.E.Engine.takes g.E.Engine.stands_for l.fn.self s → l.least ≡ least_to l.place (λ c. least_where (λ t e. is_above l.fn.after t) (s.coord c).table)
