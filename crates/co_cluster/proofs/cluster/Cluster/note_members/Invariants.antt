use Rattle.co_plain.specs.Federation.{Federation}
use Rattle.co_cluster.specs.Listed.{is_undecided, any_to, AreNoted}
use Rattle.co_cluster.specs.Standing.{RepresentsCluster}
use Rattle.co_cluster.proofs.cluster.Cluster.note_members.Given as goal

abbrev pub invariant-loop-place : goal.invariant-loop-place
invariant-loop-place g l = (s : Federation) → RepresentsCluster g.E.Engine.takes g.E.Engine.stands_for l.fn.self s → AreNoted (λ t. any_to l.place (λ m. is_undecided (s.member m).engine t)) l.fn.found l.found
