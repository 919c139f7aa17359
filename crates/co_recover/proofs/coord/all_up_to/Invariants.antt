use Rattle.std.proofs.Common.{◌≡◌, drop}
use Rattle.co_plain.specs.CoordView.{all_up_to}
use Rattle.co_recover.proofs.coord.all_up_to.Given as goal

abbrev pub invariant-loop-member : goal.invariant-loop-member
invariant-loop-member l = all_up_to l.most (drop l.member-index l.members) ≡ all_up_to l.most l.members
