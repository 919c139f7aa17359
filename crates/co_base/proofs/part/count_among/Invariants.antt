use Rattle.std.proofs.Common.{◌≡◌, drop}
use Rattle.co_base.specs.Parts.{count_among}
use Rattle.co_base.proofs.part.count_among.Given as goal

abbrev pub invariant-loop-part : goal.invariant-loop-part
invariant-loop-part l = count_among (drop l.part-index l.parts) l.fn.member ≡ count_among l.parts l.fn.member
