use Rattle.std.proofs.Common.{codes}
use Rattle.co_table.specs.Table.{titles_text}
use Rattle.co_table.proofs.Appending.{three_pieces}
use Rattle.co_table.proofs.telling.append_title_line.Goals as goal

pub returns : goal.returns
returns c =
    three_pieces c.extend_from_slice-2.result c.args.into.now.items (codes "| Line | Event |") (titles_text c.args.nodes.now) (codes "\n") _ _ _
    c.in_ok-extend_from_slice.ensures.items c.in_ok-append_titles.ensures c.extend_from_slice-2.ensures.items
