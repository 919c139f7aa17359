use Rattle.std.proofs.Common.{◌++◌, ap, ◌∙◌, length}
use Rattle.std.proofs.lemmas.Result.{on_ok_weaker}
use Rattle.co_picture.specs.Columns.{page_width}
use Rattle.co_picture.specs.Picture.{picture_in}
use Rattle.co_svg.specs.Svg.{front_text}
use Rattle.co_picture.proofs.Appending.{whole_picture}
use Rattle.co_picture.proofs.drawing.append_picture.Goals as goal

pub returns : goal.returns
returns c =
    on_ok_weaker c.append_end.result
    (whole_picture c.args.into.now.items _ _ _ _ (picture_in c.args.columns.now c.args.entries.now)
    (c.in_ok-append_front.ensures ∙ ap (λ w. c.args.into.now.items ++ front_text w c.height_of-bottom.result) c.page_width.ensures
    ∙ ap (λ h. c.args.into.now.items ++ front_text (page_width c.args.columns.now) h) c.height_of-bottom.ensures)
    c.in_ok-append_all_lines.ensures c.in_ok-append_all_labels.ensures)
    c.append_end.ensures
