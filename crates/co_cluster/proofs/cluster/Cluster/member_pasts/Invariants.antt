use Rattle.std.proofs.Common.{◌≡◌}
use Rattle.co_durable.specs.Nodes.{numbered}
use Rattle.co_plain.specs.Federation.{Federation}
use Rattle.co_plain.specs.MemberView.{recovered_view}
use Rattle.co_recover.specs.Recovered.{past_of_member}
use Rattle.co_cluster.specs.Standing.{RepresentsCluster}
use Rattle.co_cluster.proofs.cluster.Cluster.member_pasts.Given as goal

abbrev pub invariant-loop-place : goal.invariant-loop-place
invariant-loop-place g l = (s : Federation) → RepresentsCluster g.E.Engine.takes g.E.Engine.stands_for l.fn.self s → l.pasts.items ≡ numbered (λ m. past_of_member (recovered_view (s.member m).log.stable)) l.place
