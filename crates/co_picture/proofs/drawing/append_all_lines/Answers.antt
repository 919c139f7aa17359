use Rattle.std.proofs.Common.{◌++◌, ap, ◌∙◌}
use Rattle.std.proofs.lemmas.Result.{on_ok_weaker}
use Rattle.co_picture.specs.Picture.{lives_from}
use Rattle.co_svg.specs.Svg.{lines_text}
use Rattle.co_picture.proofs.Appending.{both_lines}
use Rattle.co_picture.proofs.drawing.append_all_lines.Goals as goal

pub returns : goal.returns
returns c =
    on_ok_weaker c.append_lines.result
    (both_lines _ _ _ _ _ (c.in_ok-append_lives.ensures ∙ ap (λ h. c.args.into.now.items ++ lines_text (lives_from c.args.columns.now 30 h c.args.columns.now)) c.requires.bottom))
    c.append_lines.ensures
