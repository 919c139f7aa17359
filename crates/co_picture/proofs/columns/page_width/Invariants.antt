use Rattle.std.proofs.Common.{◌≡◌, ◌≤◌, ◌+◌, ◌*◌, drop}
use Rattle.co_picture.specs.Columns.{end_from, left}
use Rattle.co_picture.proofs.columns.page_width.Given as goal

abbrev pub invariant-loop-column : goal.invariant-loop-column
invariant-loop-column l = record {
  end : end_from l.end (drop l.column-index l.columns) ≡ end_from left l.columns;
  most : l.end ≤ 48 + 65535 * l.column-index;
}
