use Rattle.std.proofs.Common.{◌++◌, ℕ, List, ap, sym, ◌∙◌, codes, append_assoc}
use Rattle.std.specs.Prelude.{decimal}
use Rattle.co_top.specs.Ends.{words_of}
use Rattle.co_top.specs.declared.status.LimitKind.{LimitKind}
use Rattle.co_top.specs.declared.status.Status.TheVariants as status
use Rattle.co_top.proofs.note.append_limit.Goals as goal

pub returns-in-Line-clause-spelled : goal.returns-in-Line-clause-spelled
returns-in-Line-clause-spelled c =
    let before = c.args.note.now.items in
    c.append.ensures ∙ ap (λ (text : List ℕ). text ++ codes " is long") c.append_line.ensures.spelled ∙ append_assoc before (codes "limit: line " ++ decimal c.in-Line.line) (codes " is long")
    ∙ ap (λ (limit : LimitKind). before ++ words_of (status.Limit limit)) (sym c.in-Line.is)

pub returns-in-Lines-clause-spelled : goal.returns-in-Lines-clause-spelled
returns-in-Lines-clause-spelled c = c.append-in-Lines.ensures ∙ ap (λ (limit : LimitKind). c.args.note.now.items ++ words_of (status.Limit limit)) (sym c.in-Lines.is)

pub returns-in-Transactions-clause-spelled : goal.returns-in-Transactions-clause-spelled
returns-in-Transactions-clause-spelled c = c.append-in-Transactions.ensures ∙ ap (λ (limit : LimitKind). c.args.note.now.items ++ words_of (status.Limit limit)) (sym c.in-Transactions.is)
