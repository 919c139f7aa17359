use Rattle.std.proofs.Common.{◌∷◌, List, refl, sym, ap, subst, ◌∙◌}
use Rattle.std.specs.Prelude.{reverse, ◌≤◌, IfSome}
use Rattle.co_record.specs.declared.record.Record.{Record}
use Rattle.co_state.proofs.Tables.{on_ok}
use Rattle.co_log.specs.LogView.{LogView}
use Rattle.co_plain.specs.LogWrite.{with_waiting}
use Rattle.co_node.proofs.Standing.{same_stands, waiting_more}
use Rattle.co_node.proofs.going.keep_waiting.Goals as goal

pub returns-clause-stands : goal.returns-clause-stands
returns-clause-stands c = λ owner l s. on_ok c.later.result (λ e.
    let waits = ap (λ (xs : List Record). c.args.item ∷ xs) s.waiting ∙ sym (waiting_more c.args.log.now.waiting c.args.item) in
    same_stands owner c.args.log.now c.later.new.self l (with_waiting l c.args.item) s (ap (λ (v : LogView). v.node) e) (ap (λ (v : LogView). v.version) e) (ap (λ (v : LogView). v.current) e) (ap (λ (v : LogView). v.spare) e) (ap (λ (v : LogView). v.gate) e) (ap (λ (v : LogView). v.generation) e)
    refl refl (waits ∙ ap (λ (v : LogView). reverse v.waiting) (sym e)) (s.armed ∙ ap (λ (v : LogView). v.stop) (sym e)) (subst (λ (v : LogView). IfSome v.stop (λ stop. stop.call ≤ 4)) (sym e) s.bound)) c.later.ensures.ok
