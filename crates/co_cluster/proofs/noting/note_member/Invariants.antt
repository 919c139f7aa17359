use Rattle.co_member.specs.Standing.{RepresentsMember}
use Rattle.co_plain.specs.declared.member_state.MemberState.{MemberState}
use Rattle.co_cluster.specs.Listed.{is_undecided}
use Rattle.co_cluster.proofs.NotedSets.{AreNotedTo}
use Rattle.co_cluster.proofs.Walks.{room}
use Rattle.co_cluster.proofs.noting.note_member.Given as goal

abbrev pub invariant-loop-next : goal.invariant-loop-next
invariant-loop-next g l = (x : MemberState) → RepresentsMember g.E.Engine.stands_for l.fn.member x → AreNotedTo (is_undecided x.engine) l.fn.found l.found l.next

abbrev pub decreases-loop-next : goal.decreases-loop-next
decreases-loop-next g l = room l.next
