use Rattle.std.proofs.Common.{ap, sym, subst}
use Rattle.std.specs.Prelude.{Some}
use Rattle.co_log.specs.LogView.{LogView}
use Rattle.co_coord.specs.Standing.{RepresentsCoord}
use Rattle.co_coord.proofs.coord.Coord.go_up.Goals as goal

pub told_table-requires : goal.told_table-requires
told_table-requires g c =
    let y = c.requires.stands.0 in
    record { stands = (y, subst (λ (v : LogView). RepresentsCoord (record c.args.self.now { log = v }) y) (sym c.reread.ensures.log) c.requires.stands.1, c.requires.stands.2) }

pub returns-clause-table : goal.returns-clause-table
returns-clause-table g c = λ y r. ap Some (c.in_ok-told_table.ensures.table y (subst (λ (v : LogView). RepresentsCoord (record c.args.self.now { log = v }) y) (sym c.reread.ensures.log) r))
