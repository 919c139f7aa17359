-- What a transcript tells of the records that a log write made stable.
use Rattle.std.specs.Prelude.{List, map}
use Rattle.co_base.specs.declared.mark.Mark.{Mark}
use Rattle.co_base.specs.declared.node.Node.{Node}
use Rattle.co_record.specs.declared.record.Record.{Record}
use Rattle.co_record.specs.Marks.{mark_of}

abbrev pub marks_of : Node → List Record → List Mark
marks_of node items = map (mark_of node) items
