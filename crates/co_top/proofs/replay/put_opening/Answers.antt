use Rattle.std.proofs.Common.{◌∙◌, [], refl, sym}
use Rattle.std.proofs.lemmas.List.{append-nil}
use Rattle.std.proofs.lemmas.Result.{err_from_is_err_and}
use Rattle.co_top.proofs.replay.put_opening.Goals as goal

pub head_in-requires : goal.head_in-requires
head_in-requires c = (c.args.head, refl)

pub returns-in_err-put_item-clause-err : goal.returns-in_err-put_item-clause-err
returns-in_err-put_item-clause-err c =
    let p = err_from_is_err_and c.from_residual.result c.from_residual.ensures.1 in
    rw p.1 ([], c.in_err-put_item.ensures.err ∙ sym (append-nil _))
