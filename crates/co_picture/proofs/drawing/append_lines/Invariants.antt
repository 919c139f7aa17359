use Rattle.std.proofs.Common.{◌≡◌, ◌++◌, drop}
use Rattle.co_picture.specs.Picture.{lines_from}
use Rattle.co_svg.specs.Svg.{lines_text}
use Rattle.co_picture.proofs.drawing.append_lines.Given as goal

abbrev pub invariant-loop-row : goal.invariant-loop-row
invariant-loop-row l = l.into.items ++ lines_text (lines_from l.columns l.row (drop l.row l.entries)) ≡ l.initial.into.items ++ lines_text (lines_from l.columns 0 l.entries)
