use Rattle.std.proofs.Common.{◌&&◌, sym, ap, ◌∙◌}
use Rattle.co_plain.specs.MemberStep.{standing_of}
use Rattle.co_state.specs.Table.{holds}
use Rattle.co_coop.proofs.Asked.{reached_invariants, voted_stands}
use Rattle.co_coop.proofs.asking.is_in_doubt.Goals as goal

pub knows-requires-clause-up : goal.knows-requires-clause-up
knows-requires-clause-up g c = let w = c.requires.asks in (w.0, w.2, sym (c.if-not-up.ensures w.0 w.2))

pub returns : goal.returns
returns g c = λ s r reached.
    let m = c.args.doubt.now.member in
    let t = c.args.doubt.now.txn in
    c.is_voted.ensures (standing_of (s.member m) t) (c.knows.ensures s r) ∙ voted_stands s (reached_invariants s reached) t m
    ∙ ap (λ u. u && holds (s.member m).engine.voted t) (c.if-not-up.ensures s r)
