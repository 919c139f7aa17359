use Rattle.std.proofs.Common.{◌≡◌, ◌++◌, drop}
use Rattle.co_picture.specs.Picture.{numbers_from}
use Rattle.co_svg.specs.Svg.{labels_text}
use Rattle.co_picture.proofs.drawing.append_numbers.Given as goal

abbrev pub invariant-loop-row : goal.invariant-loop-row
invariant-loop-row l = l.into.items ++ labels_text (numbers_from l.row (drop l.row l.entries)) ≡ l.initial.into.items ++ labels_text (numbers_from 0 l.entries)
