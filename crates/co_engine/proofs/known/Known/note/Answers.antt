use Rattle.std.proofs.Common.{sym, ◌∙◌}
use Rattle.co_engine.specs.Known.{IsKnown}
use Rattle.co_state.proofs.Tables.{on_ok}
use Rattle.co_state.specs.Effects.{after_operation}
use Rattle.co_state.specs.Table.{Table}
use Rattle.std.proofs.Common.{subst}
use Rattle.co_engine.proofs.Knowing.{known_answered}
use Rattle.co_engine.proofs.known.Known.note.Goals as goal

pub returns-in-Answer : goal.returns-in-Answer
returns-in-Answer c = λ b op k s.
    on_ok c.insert.result
    (λ e. subst (λ (m : Table _). IsKnown (record c.args.self.now { active = m }) (after_operation b c.args.t op)) (sym e) (known_answered c.args.self.now b c.args.t op c.in-Answer.field-0 (sym c.in-Answer.is ∙ s) k))
    c.insert.ensures.ok
