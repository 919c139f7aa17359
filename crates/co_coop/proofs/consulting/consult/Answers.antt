use Rattle.std.proofs.Common.{◌≡◌, ◌+◌, suc, ◌++◌, ap, ◌∙◌, arith}
use Rattle.co_law_coop.specs.Consulting.{transcript_along}
use Rattle.co_coop.specs.Consulted.{consultation_of}
use Rattle.co_coop.proofs.consulting.consult.Goals as goal

pub follow-requires-clause-asks : goal.follow-requires-clause-asks
follow-requires-clause-asks g c = let w = c.requires.asks in (w.0, w.1, w.2, w.3, c.told_at_turn-told.ensures w.0 w.1 w.2)

pub returns-clause-did : goal.returns-clause-did
returns-clause-did g c = λ s r reached may.
    let told = c.told_at_turn-told.ensures s r reached in
    let did = c.in_ok-follow.ensures.did s r reached may told in
    let next : c.args.number + 1 ≡ suc c.args.number = omega arith in
    record {
      told_is = told;
      items_are = did.0 ∙ ap (λ xs. xs ++ transcript_along (c.args.number + 1) (consultation_of s c.args.doubt c.args.other) s) c.new-items.ensures ∙ ap (λ n. transcript_along n (consultation_of s c.args.doubt c.args.other) s) next;
      stands = did.1;
    }
