use Rattle.std.proofs.Common.{◌++◌, ap, ◌∙◌, map}
use Rattle.std.proofs.lemmas.Result.{on_ok_weaker}
use Rattle.co_picture.specs.Picture.{down_line}
use Rattle.co_svg.specs.Svg.{lines_text}
use Rattle.co_picture.proofs.Appending.{lines_then}
use Rattle.co_picture.proofs.drawing.append_lines_of.Goals as goal

pub returns : goal.returns
returns c =
    on_ok_weaker c.append_some.result
    (lines_then _ _ _ _ _ _ (c.in_ok-append_downs.ensures ∙ ap (λ d. c.args.into.now.items ++ lines_text (map (down_line c.args.columns.now c.args.row) d)) c.as_slice.ensures) c.link_line.ensures)
    c.append_some.ensures
