use Rattle.std.proofs.Common.{◌∙◌, rules}
use Rattle.co_base.proofs.Parts.{counted_at}
use Rattle.co_base.proofs.part.count_one.Goals as goal

pub returns-then-part-member-clause-ok : goal.returns-then-part-member-clause-ok
returns-then-part-member-clause-ok c =
    counted_at c.loop-place.parts.items c.loop-place.place c.args.member c.index-part.result.now
    (search rules) c.index-part.ensures c.if-part-member.true
    ∙ c.loop-place.invariant.2
