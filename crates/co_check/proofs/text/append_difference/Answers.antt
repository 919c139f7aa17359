use Rattle.std.proofs.Common.{◌++◌, ◌∷◌, [], ap, ◌∙◌, codes, decimal}
use Rattle.co_check.proofs.Texts.{four}
use Rattle.co_check.proofs.text.append_difference.Goals as goal

pub returns-clause-ok : goal.returns-clause-ok
returns-clause-ok c =
    c.in_ok-push.ensures.items
    ∙ ap (λ t. t ++ 10 ∷ [])
    (c.in_ok-append_number-2.ensures.ok
    ∙ ap (λ t. t ++ 32 ∷ decimal c.from-2.result) (c.in_ok-append_number.ensures.ok ∙ ap (λ t. t ++ 32 ∷ decimal c.from.result) c.in_ok-extend_from_slice.ensures.items))
    ∙ four c.args.into.now.items (codes "not serial") (32 ∷ decimal c.from.result) (32 ∷ decimal c.from-2.result) (10 ∷ [])
    ∙ ap (λ n. c.args.into.now.items ++ (codes "not serial" ++ ((32 ∷ decimal n) ++ ((32 ∷ decimal c.from-2.result) ++ 10 ∷ [])))) c.from.ensures
    ∙ ap (λ n. c.args.into.now.items ++ (codes "not serial" ++ ((32 ∷ decimal c.args.txn) ++ ((32 ∷ decimal n) ++ 10 ∷ [])))) c.from-2.ensures
