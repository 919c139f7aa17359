use Rattle.std.proofs.Common.{refl}
use Rattle.co_picture.specs.Picture.{title_label, titles_from}
use Rattle.co_svg.specs.Svg.{label_text, labels_text}
use Rattle.co_picture.proofs.Loops.{one_piece}
use Rattle.co_picture.proofs.drawing.append_titles.Goals as goal

pub loop-column-preserved : goal.loop-column-preserved
loop-column-preserved c =
    one_piece (λ cs. labels_text (titles_from c.args.all.now c.args.height cs)) (λ cs. labels_text (titles_from c.args.all.now c.args.height cs))
    (label_text (title_label c.args.all.now c.args.height c.column-item.result)) c.args.columns.now c.loop-column.column-index c.column-item.result c.loop-column.into.items c.append_title.new.into.items _
    c.loop-column-test.true c.column-item.is (λ rest. refl) c.loop-column.invariant c.in_ok-append_title.ensures
