use Rattle.std.proofs.Common.{ap, ◌∙◌}
use Rattle.co_base.specs.declared.op.Op.TheVariants.{Scan}
use Rattle.co_base.specs.declared.reply.Reply.TheVariants.{Rows}
use Rattle.co_engine.specs.declared.answers.Seen.TheVariants.{Answer}
use Rattle.co_occ.proofs.Standing.{seen_alike, stands_after}
use Rattle.co_occ.proofs.engine.OccEngineEngine.scan.Goals as goal

pub returns-clause-seen : goal.returns-clause-seen
returns-clause-seen c = λ b s h.
    ap (λ v. Answer (Rows v)) (c.in_ok-rows.ensures) ∙ seen_alike c.args.self.now b c.args.t (Scan c.args.range.now) s h

pub returns-clause-state : goal.returns-clause-state
returns-clause-state c = λ b s h.
    stands_after c.args.self.now _ b c.args.t (Scan c.args.range.now) _ s (ap Scan c.in_ok-copy.ensures) (c.in_ok-add.ensures b s h)
