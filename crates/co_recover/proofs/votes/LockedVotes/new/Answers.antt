use Rattle.std.proofs.Common.{sym, subst}
use Rattle.co_state.specs.Table.{Table}
use Rattle.co_state.specs.declared.engine_state.Vote.{Vote}
use Rattle.co_recover.proofs.Holding.{holds_nothing}
use Rattle.co_recover.specs.Locked.{Holds, held_by}
use Rattle.co_recover.proofs.votes.LockedVotes.new.Goals as goal

pub invariant_of-result : goal.invariant_of-result
invariant_of-result c = subst (λ (voted : Table Vote). Holds c.new-2.result (held_by voted)) (sym c.new.ensures) (holds_nothing c.new-2.result c.new-2.ensures)
