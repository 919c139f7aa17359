use Rattle.std.proofs.Common.{ap, ◌∙◌}
use Rattle.std.specs.Prelude.{Some}
use Rattle.co_coord.specs.Opening.{told_table}
use Rattle.co_coord.specs.declared.coord.Coord.{Coord}
use Rattle.co_coord.proofs.Carrying.{up_over}
use Rattle.co_coord.proofs.Told.{table_told}
use Rattle.co_coord.proofs.coord.Coord.attach.Goals as goal

pub returns-clause-stands : goal.returns-clause-stands
returns-clause-stands c = λ l log past.
    let x : Coord = record { alloc = c.args.alloc; number = c.args.number; members = c.args.members; log = c.args.log; table = Some c.in_ok-table_of.field-0 } in
    up_over x (told_table l) l (ap Some (c.in_ok-table_of.ensures ∙ table_told l c.args.past past)) log
