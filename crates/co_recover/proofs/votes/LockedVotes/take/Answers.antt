use Rattle.std.proofs.Common.{sym, subst}
use Rattle.co_state.specs.Table.{Table}
use Rattle.co_state.specs.declared.engine_state.Vote.{Vote}
use Rattle.co_recover.proofs.Holding.{holds_one_less}
use Rattle.co_recover.specs.Locked.{Holds, held_by}
use Rattle.co_recover.proofs.votes.LockedVotes.take.Goals as goal

pub invariant_of-self : goal.invariant_of-self
invariant_of-self c =
    subst (λ (voted : Table Vote). Holds c.end_all.new.self (held_by voted)) (sym c.remove.ensures.rest)
    (holds_one_less c.self.inside.locks c.end_all.new.self c.self.inside.voted c.args.t c.self.invariant c.end_all.ensures)
