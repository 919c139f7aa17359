use Rattle.std.proofs.Common.{◌≡◌, ◌++◌, take, drop}
use Rattle.co_base.specs.Parts.{count_among, with_part}
use Rattle.co_base.proofs.part.count_one.Given as goal

abbrev pub invariant-loop-place : goal.invariant-loop-place
invariant-loop-place l = (l.parts.items ≡ l.fn.parts.items) × (count_among (drop l.place l.parts.items) l.fn.member ≡ count_among l.fn.parts.items l.fn.member)
    × (take l.place l.parts.items ++ with_part l.fn.member (drop l.place l.parts.items) ≡ with_part l.fn.member l.fn.parts.items)
