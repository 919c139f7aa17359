use Rattle.std.proofs.Common.{◌∙◌, ℕ, List, subst, inl, inr}
use Rattle.co_log.specs.Scanning.{IsBadAt, IsLogFileIn}
use Rattle.co_log.proofs.Attached.{twins_bad}
use Rattle.co_log.proofs.Versions.{file_of}
use Rattle.co_log.proofs.Unmade.{read_stable}
use Rattle.co_log.proofs.attaching.read_both.Goals as goal

pub returns-in-Err-clause-bad : goal.returns-in-Err-clause-bad
returns-in-Err-clause-bad c =
    inl (c.spot.ensures, subst (λ (b : List ℕ). IsBadAt c.args.node b c.in-Err.at) (c.bytes.ensures.read ∙ read_stable c.args.a.state c.requires.stable.0) c.in-Err.ensures.bad)

pub returns-in-Err-scan-clause-bad : goal.returns-in-Err-scan-clause-bad
returns-in-Err-scan-clause-bad c =
    let good = subst (λ (b : List ℕ). IsLogFileIn c.in-Ok.found.version c.args.node b c.in-Ok.found.gate c.in-Ok.found.generation) (c.bytes.ensures.read ∙ read_stable c.args.a.state c.requires.stable.0) c.in-Ok.ensures.found in
    let bad = subst (λ (b : List ℕ). IsBadAt c.args.node b c.in-Err-scan.at) (c.bytes-2.ensures.read ∙ read_stable c.args.b.state c.requires.stable.1) c.in-Err-scan.ensures.bad in
    inr (c.spot-in-Err-scan.ensures, (c.in-Ok.found.gate, c.in-Ok.found.generation, file_of c.in-Ok.found.version c.args.node c.args.a.state.stable c.in-Ok.found.gate c.in-Ok.found.generation good), inl bad)

pub returns-clause-bad : goal.returns-clause-bad
returns-clause-bad c =
    let good = subst (λ (b : List ℕ). IsLogFileIn c.in-Ok.found.version c.args.node b c.in-Ok.found.gate c.in-Ok.found.generation) (c.bytes.ensures.read ∙ read_stable c.args.a.state c.requires.stable.0) c.in-Ok.ensures.found in
    twins_bad c.args.node c.args.a c.args.b c.choose.result (c.in-Ok.found.gate, c.in-Ok.found.generation, file_of c.in-Ok.found.version c.args.node c.args.a.state.stable c.in-Ok.found.gate c.in-Ok.found.generation good) c.choose.ensures.twins
