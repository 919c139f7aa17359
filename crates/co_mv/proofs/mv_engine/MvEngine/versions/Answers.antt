use Rattle.std.proofs.Common.{length, sym, ap, ◌∙◌}
use Rattle.std.proofs.lemmas.List.{length-reverse}
use Rattle.co_mv.specs.Chains.{chain_of}
use Rattle.co_mv.proofs.Standing.{versions_alike}
use Rattle.co_mv.proofs.mv_engine.MvEngine.versions.Goals as goal

pub returns-clause-needed : goal.returns-clause-needed
returns-clause-needed c = λ b s.
    c.len_of.ensures ∙ sym (length-reverse (chain_of c.args.self.now.archive.chains c.args.key.now)) ∙ ap length (versions_alike c.args.self.now b c.args.key.now s)
