use Rattle.std.proofs.Common.{List, [], ◌∷◌, ◌++◌, length, sym, ap, ◌∙◌}
use Rattle.std.proofs.lemmas.List.{length_push}
use Rattle.co_serial.specs.Family.{family_of}
use Rattle.co_serial.specs.SerialRun.{after_whole}
use Rattle.co_serial.specs.declared.site.Site.{Site}
use Rattle.co_state.specs.Table.{look}
use Rattle.co_trial.proofs.Runs.{decides_here}
use Rattle.co_trial.proofs.deciding.Decisions.decide.Goals as goal

pub returns-in_ok-push-in-Some : goal.returns-in_ok-push-in-Some
returns-in_ok-push-in-Some g c = λ s0 s decided r a.
    decides_here s0 c.args.self.now (record { txns = c.push.new.self; serial = c.run.new.self.serial }) c.args.at c.args.txn decided (look s.sessions c.args.txn) c.in-Some.by
    (c.in-Some.ensures s r) (sym c.is_same.ensures ∙ c.if-is_same.true) a
    (ap length (c.in_ok-push-in-Some.ensures.items ∙ ap (λ xs. xs ++ c.args.txn ∷ []) c.run.ensures.count) ∙ length_push c.args.self.now.txns.items c.args.txn)
    (c.in_ok-run-in-Some.ensures.records ∙ ap (λ (os : List Site). after_whole (family_of c.args.self.now.serial) os) (c.operations.ensures s r))
