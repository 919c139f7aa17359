use Rattle.std.proofs.Common.{refl, sym, ap, subst, ◌∙◌}
use Rattle.std.specs.Prelude.{reverse, Some, ◌≤◌, IfSome}
use Rattle.co_log.specs.LogView.{LogView}
use Rattle.co_plain.specs.LogWrite.{with_stop}
use Rattle.co_node.proofs.Standing.{same_stands}
use Rattle.co_node.proofs.going.arm.Goals as goal

pub returns-clause-stands : goal.returns-clause-stands
returns-clause-stands c = λ owner l s.
    let e = c.arm.ensures in
    same_stands owner c.args.log.now c.arm.new.self l (with_stop l (Some (record { call = c.args.stop; leaves = c.args.leaves }))) s (ap (λ (v : LogView). v.node) e) (ap (λ (v : LogView). v.version) e) (ap (λ (v : LogView). v.current) e) (ap (λ (v : LogView). v.spare) e) (ap (λ (v : LogView). v.gate) e) (ap (λ (v : LogView). v.generation) e)
    refl refl (s.waiting ∙ ap (λ (v : LogView). reverse v.waiting) (sym e)) (ap (λ (v : LogView). v.stop) (sym e))
    (subst (λ (v : LogView). IfSome v.stop (λ stop. stop.call ≤ 4)) (sym e) c.requires.1)
