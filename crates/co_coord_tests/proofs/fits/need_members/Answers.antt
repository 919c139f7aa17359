use Rattle.co_coord_tests.proofs.Naming.{none_are, one_is, two_are}
use Rattle.co_coord_tests.proofs.fits.need_members.Goals as goal

pub returns-in-empty : goal.returns-in-empty
returns-in-empty c = none_are c.args.members.now c.in-empty.len_below

pub returns-in-len1 : goal.returns-in-len1
returns-in-len1 c = one_is c.args.members.now c.in-len1.len_at_least c.in-len1.len_below c.if-a-ge1.true c.if-a-le-MEMBERS.true

pub returns-in-len2 : goal.returns-in-len2
returns-in-len2 c = two_are c.args.members.now c.in-len2.len_at_least c.in-len2.len_below c.if-a-ge1-2.true c.if-a-b.true c.if-b-le-MEMBERS.true
