use Rattle.std.proofs.Common.{◌≡◌, ◌++◌, drop}
use Rattle.co_picture.specs.Picture.{lives_from}
use Rattle.co_svg.specs.Svg.{lines_text}
use Rattle.co_picture.proofs.drawing.append_lives.Given as goal

abbrev pub invariant-loop-column : goal.invariant-loop-column
invariant-loop-column l = l.into.items ++ lines_text (lives_from l.all l.top l.bottom (drop l.column-index l.columns)) ≡ l.initial.into.items ++ lines_text (lives_from l.all l.top l.bottom l.columns)
