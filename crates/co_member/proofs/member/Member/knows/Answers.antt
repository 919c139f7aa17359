use Rattle.std.proofs.Common.{ap, ◌∙◌}
use Rattle.co_member.specs.Reading.{phase_of}
use Rattle.co_member.proofs.member.Member.knows.Goals as goal

pub returns : goal.returns
returns g c = λ x r. c.phase_of.ensures ∙ ap phase_of (c.standing.ensures c.args.self.now.kind x (r.running c.running.result.now c.running.ensures))
