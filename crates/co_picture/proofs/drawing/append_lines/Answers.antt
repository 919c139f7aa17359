use Rattle.std.proofs.Common.{◌+◌}
use Rattle.co_picture.specs.Picture.{lines_of, lines_from}
use Rattle.co_svg.specs.Svg.{lines_text}
use Rattle.co_picture.proofs.Appending.{lines_behind}
use Rattle.co_picture.proofs.Loops.{one_piece}
use Rattle.co_picture.proofs.drawing.append_lines.Goals as goal

pub loop-row-preserved : goal.loop-row-preserved
loop-row-preserved c =
    one_piece (λ es. lines_text (lines_from c.args.columns.now c.loop-row.row es)) (λ es. lines_text (lines_from c.args.columns.now (c.loop-row.row + 1) es))
    (lines_text (lines_of c.args.columns.now c.loop-row.row c.index-entries-row.result)) c.args.entries.now c.loop-row.row c.index-entries-row.result c.loop-row.into.items c.append_lines_of.new.into.items _
    c.loop-row-test.true c.index-entries-row.is
    (λ rest. lines_behind (lines_of c.args.columns.now c.loop-row.row c.index-entries-row.result) (lines_from c.args.columns.now (c.loop-row.row + 1) rest))
    c.loop-row.invariant c.in_ok-append_lines_of.ensures
