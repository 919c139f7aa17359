-- What a transcript tells of a record. A filled spare tells of itself by the one mark of its checkpoint.
use Rattle.co_base.specs.declared.mark.Mark.{Mark}
use Rattle.co_base.specs.declared.mark.MarkKind.TheVariants as kind
use Rattle.co_base.specs.declared.node.Node.{Node}
use Rattle.co_record.specs.declared.record.Record.{Record}
use Rattle.co_record.specs.declared.record.Record.TheVariants as log

abbrev pub mark_of : Node → Record → Mark
mark_of node (log.Header owner generation) = record { node = node; kind = kind.Header; number = generation }
mark_of node (log.Prepare t coord count reads writes) = record { node = node; kind = kind.Prepare; number = t }
mark_of node (log.Commit t members) = record { node = node; kind = kind.Commit; number = t }
mark_of node (log.Abort t) = record { node = node; kind = kind.Abort; number = t }
mark_of node (log.End t) = record { node = node; kind = kind.End; number = t }
mark_of node (log.Checkpoint rows undos committed) = record { node = node; kind = kind.Checkpoint; number = 0 }
