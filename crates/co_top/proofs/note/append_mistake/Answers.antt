use Rattle.std.proofs.Common.{◌++◌, ℕ, List, ap, ◌∙◌, codes, append_assoc}
use Rattle.std.specs.Prelude.{decimal}
use Rattle.co_top.specs.Ends.{kind_word}
use Rattle.co_top.proofs.note.append_mistake.Goals as goal

pub returns-clause-spelled : goal.returns-clause-spelled
returns-clause-spelled c =
    let before = c.args.note.now.items in
    c.append.ensures ∙ ap (λ (word : List ℕ). c.append_line.new.note.items ++ word) c.kind_text.ensures.word
    ∙ ap (λ (text : List ℕ). text ++ kind_word c.args.kind) c.append_line.ensures.spelled ∙ append_assoc before (codes "schedule line " ++ decimal c.args.line) (kind_word c.args.kind)
