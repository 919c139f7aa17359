use Rattle.std.proofs.Common.{◌≡◌, ◌++◌, drop}
use Rattle.co_picture.specs.Picture.{texts_from}
use Rattle.co_svg.specs.Svg.{labels_text}
use Rattle.co_picture.proofs.drawing.append_texts.Given as goal

abbrev pub invariant-loop-row : goal.invariant-loop-row
invariant-loop-row l = l.into.items ++ labels_text (texts_from l.columns l.row (drop l.row l.entries)) ≡ l.initial.into.items ++ labels_text (texts_from l.columns 0 l.entries)
