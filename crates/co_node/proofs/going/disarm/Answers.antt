use Rattle.std.proofs.Common.{refl, sym, ap, ◌∙◌}
use Rattle.std.specs.Prelude.{reverse, None}
use Rattle.co_log.specs.LogView.{LogView}
use Rattle.co_plain.specs.LogWrite.{with_stop}
use Rattle.co_node.proofs.Standing.{none_armed, same_stands}
use Rattle.co_node.proofs.going.disarm.Goals as goal

pub returns-clause-stands : goal.returns-clause-stands
returns-clause-stands c = λ owner l s.
    let e = c.disarm.ensures in
    same_stands owner c.args.log.now c.disarm.new.self l (with_stop l None) s (ap (λ (v : LogView). v.node) e) (ap (λ (v : LogView). v.version) e) (ap (λ (v : LogView). v.current) e) (ap (λ (v : LogView). v.spare) e) (ap (λ (v : LogView). v.gate) e) (ap (λ (v : LogView). v.generation) e)
    refl refl (s.waiting ∙ ap (λ (v : LogView). reverse v.waiting) (sym e)) (ap (λ (v : LogView). v.stop) (sym e)) (none_armed (ap (λ (v : LogView). v.stop) e))
