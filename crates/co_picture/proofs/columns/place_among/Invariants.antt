use Rattle.std.proofs.Common.{◌≡◌, ◌≤◌, ◌+◌, ◌*◌, drop}
use Rattle.co_picture.specs.Columns.{place_from, left}
use Rattle.co_picture.proofs.columns.place_among.Given as goal

abbrev pub invariant-loop-column : goal.invariant-loop-column
invariant-loop-column l = record {
  place : place_from l.place (drop l.column-index l.columns) l.rank ≡ place_from left l.columns l.rank;
  least : 48 ≤ l.place;
  most : l.place ≤ 48 + 65535 * l.column-index;
}
