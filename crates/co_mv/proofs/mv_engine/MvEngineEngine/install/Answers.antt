use Rattle.std.proofs.Common.{List, ◌∷◌, sym, ◌∙◌, subst}
use Rattle.co_base.specs.declared.written.Written.{Written}
use Rattle.co_mv.specs.Kept.{Keeps}
use Rattle.co_mv.proofs.Outcomes.{on_both}
use Rattle.co_mv.proofs.Standing.{stands_install, install_absent}
use Rattle.co_mv.proofs.mv_engine.MvEngineEngine.install.Goals as goal

pub returns-in-Some-clause-state : goal.returns-in-Some-clause-state
returns-in-Some-clause-state c = λ b s h.
    let t = c.args.t in
    on_both c.install.result
    (λ es k. stands_install c.args.self.now _ b t c.in-Some.sets s h (sym c.remove.ensures.entry ∙ c.in-Some.is) es
    (subst (λ (ws : List Written). Keeps c.install.new.self b.base (record { txn = t; writes = ws } ∷ b.installed)) c.writes.ensures k)
    c.remove.ensures.rest)
    c.install.ensures.snapshots (c.install.ensures.keeps b.base b.installed t s.keeps)

pub returns-in-None-clause-state : goal.returns-in-None-clause-state
returns-in-None-clause-state c = λ b s h. install_absent c.args.self.now b c.args.t s h (sym c.remove.ensures.entry ∙ c.in-None.is)
