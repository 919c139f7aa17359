use Rattle.std.proofs.Common.{sym}
use Rattle.co_member.proofs.Carrying.{kind_is}
use Rattle.co_member.proofs.member.Member.kind.Goals as goal

pub returns : goal.returns
returns g c = λ x r. sym (kind_is g.E.Engine.stands_for c.args.self.now x r)
