use Rattle.std.proofs.Common.{◌≡◌, ◌++◌, drop}
use Rattle.co_picture.specs.Picture.{titles_from}
use Rattle.co_svg.specs.Svg.{labels_text}
use Rattle.co_picture.proofs.drawing.append_titles.Given as goal

abbrev pub invariant-loop-column : goal.invariant-loop-column
invariant-loop-column l = l.into.items ++ labels_text (titles_from l.all l.height (drop l.column-index l.columns)) ≡ l.initial.into.items ++ labels_text (titles_from l.all l.height l.columns)
