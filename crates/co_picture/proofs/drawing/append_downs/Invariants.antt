use Rattle.std.proofs.Common.{◌≡◌, ◌++◌, drop, map}
use Rattle.co_picture.specs.Picture.{down_line}
use Rattle.co_svg.specs.Svg.{lines_text}
use Rattle.co_picture.proofs.drawing.append_downs.Given as goal

abbrev pub invariant-loop-node : goal.invariant-loop-node
invariant-loop-node l = l.into.items ++ lines_text (map (down_line l.columns l.row) (drop l.node-index l.down)) ≡ l.initial.into.items ++ lines_text (map (down_line l.columns l.row) l.down)
