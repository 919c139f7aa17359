use Rattle.co_order_check.proofs.Refuting.{no_order, torn_refutes, if_ok}
use Rattle.co_order_check.proofs.refutation.refutation_holds.Goals as goal

pub returns-in-Unwritten : goal.returns-in-Unwritten
returns-in-Unwritten c = record { order_refuted = λ e. no_order c.args.history.now (c.is_unwritten.ensures e) }

pub returns-in-Torn : goal.returns-in-Torn
returns-in-Torn c = record { order_refuted = λ e. let t = c.is_torn.ensures e in no_order c.args.history.now (torn_refutes c.args.history.now c.in-Torn.torn.reader t.0 t.1) }

pub returns-in-Steps : goal.returns-in-Steps
returns-in-Steps c = record { order_refuted = if_ok c.steps_hold.result (λ holds f e. no_order c.args.history.now (f e)) c.steps_hold.ensures }
