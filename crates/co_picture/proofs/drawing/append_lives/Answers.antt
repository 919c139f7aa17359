use Rattle.std.proofs.Common.{◌++◌, refl, ap, ◌∙◌}
use Rattle.co_picture.specs.Picture.{life_line, lives_from}
use Rattle.co_svg.specs.Svg.{line_text, lines_text}
use Rattle.co_picture.proofs.Loops.{one_piece}
use Rattle.co_picture.proofs.drawing.append_lives.Goals as goal

pub loop-column-preserved : goal.loop-column-preserved
loop-column-preserved c =
    one_piece (λ cs. lines_text (lives_from c.args.all.now c.args.top c.args.bottom cs)) (λ cs. lines_text (lives_from c.args.all.now c.args.top c.args.bottom cs))
    (line_text (life_line c.args.all.now c.args.top c.args.bottom c.column-item.result.lane)) c.args.columns.now c.loop-column.column-index c.column-item.result c.loop-column.into.items c.append_line.new.into.items _
    c.loop-column-test.true c.column-item.is (λ rest. refl) c.loop-column.invariant
    (c.in_ok-append_line.ensures ∙ ap (λ l. c.loop-column.into.items ++ line_text l) c.life_line.ensures)
