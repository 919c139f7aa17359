use Rattle.std.proofs.Common.{◌≡◌, ◌++◌, ◌∷◌, [], List, map, ap, subst, ◌∙◌}
use Rattle.std.specs.FinMap.{entries}
use Rattle.std.specs.Prelude.{IfOk}
use Rattle.co_record.specs.declared.record.Record.{Record}
use Rattle.co_member.specs.Checkpoint.{point_of, prepared_again}
use Rattle.co_member.proofs.Filling.{prepared_alike}
use Rattle.co_member.proofs.running.Running.spare.Goals as goal

pub returns : goal.returns
returns g c = λ kind x s.
    let votes = c.in_ok-voted.field-0 in
    let pushed = c.in_ok-push.ensures.items ∙ ap (λ (xs : List Record). xs ++ c.in_ok-point.field-0 ∷ []) c.new-items.ensures.items ∙ ap (λ (r : Record). r ∷ []) (c.in_ok-point.ensures kind x s) in
    let are = ap (λ (xs : List Record). xs ++ map prepared_again votes) pushed ∙ ap (λ ps. point_of x ∷ map prepared_again ps) (c.in_ok-voted.ensures x.engine x.asked s.undecided)
    ∙ ap (λ (rs : List Record). point_of x ∷ rs) (prepared_alike (entries x.engine.voted)) in
    subst (λ (rs : List Record). IfOk c.with_prepares.result (λ all. all.items ≡ rs)) are c.with_prepares.ensures
