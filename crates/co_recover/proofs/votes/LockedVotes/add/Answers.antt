use Rattle.std.proofs.Common.{sym, ap, subst, ◌∙◌}
use Rattle.co_state.specs.Table.{Table, put, holds}
use Rattle.co_state.specs.declared.engine_state.Sets.{Sets}
use Rattle.co_state.specs.declared.engine_state.Vote.{Vote}
use Rattle.co_recover.proofs.Holding.{holds_one_more}
use Rattle.co_recover.proofs.Keyed.{held_alike}
use Rattle.co_recover.specs.Locked.{Holds, held_by, with_reads, with_writes}
use Rattle.co_recover.proofs.votes.LockedVotes.add.Goals as goal

pub invariant_of-result : goal.invariant_of-result
invariant_of-result c =
    let voted = c.self.inside.voted in
    subst (λ (v : Table Vote). Holds c.hold.new.locks (held_by v)) (sym c.in_ok-insert.ensures.ok)
    (holds_one_more c.hold.new.locks voted c.args.t c.args.vote (ap (λ (v : Table Vote). holds v c.args.t) c.self.view_is ∙ c.requires.none)
    (held_alike c.hold.new.locks (held_by voted) c.args.t c.args.vote.sets
    (subst (λ (s : Sets). Holds c.hold.new.locks (with_writes (with_reads (held_by voted) c.args.t s.reads) c.args.t s.writes)) c.requires.sets (c.in_ok-hold.ensures (held_by voted) c.self.invariant))))

pub returns : goal.returns
returns c = c.in_ok-insert.ensures.ok ∙ ap (λ (v : Table Vote). put v c.args.t c.args.vote) c.self.view_is
