-- A transaction whose waits were all taken has ended.
use Rattle.std.proofs.Common.{sym, ◌∙◌, subst}
use Rattle.std.proofs.lemmas.List.{nil_from_length}
use Rattle.co_wait.specs.Searching.{KeepsEnded}
use Rattle.co_wait.specs.declared.search.Progress.TheVariants.{Ended}
use Rattle.co_wait.proofs.Moves.{leave_back, leave_done}
use Rattle.co_wait.proofs.Known.{keeps, open_not_ended}
use Rattle.co_wait.proofs.search.leave.Goals as goal

pub returns-in-Some-clause-next : goal.returns-in-Some-clause-next
returns-in-Some-clause-next c =
    λ waits first ordered none s.
    leave_back waits first c.args.known.now c.insert.new.self c.args.path.now.items c.pop.new.self.items c.in-Some.pause c.args.visit ordered none s c.in-Some.ensures.items c.in_ok-insert.ensures.ok

pub returns-in-Some-clause-kept : goal.returns-in-Some-clause-kept
returns-in-Some-clause-kept c =
    λ first waits s. subst (KeepsEnded c.args.known.now) (sym c.in_ok-insert.ensures.ok) (keeps c.args.known.now c.args.visit.txn (Ended c.args.visit.longest) (open_not_ended c.args.known.now c.args.visit.txn s.is_open))

pub returns-in-None-clause-next : goal.returns-in-None-clause-next
returns-in-None-clause-next c =
    λ waits first ordered none s.
    leave_done waits first c.args.known.now c.insert.new.self c.args.path.now.items c.args.visit ordered none s (nil_from_length c.args.path.now.items (sym c.args.path.now.ok.0 ∙ c.in-None.ensures.cases.0)) c.in_ok-insert.ensures.ok

pub returns-in-None-clause-kept : goal.returns-in-None-clause-kept
returns-in-None-clause-kept c =
    λ first waits s. subst (KeepsEnded c.args.known.now) (sym c.in_ok-insert.ensures.ok) (keeps c.args.known.now c.args.visit.txn (Ended c.args.visit.longest) (open_not_ended c.args.known.now c.args.visit.txn s.is_open))
