use Rattle.std.proofs.Common.{nat_eq, sym, ap, subst, ◌∙◌}
use Rattle.std.specs.List.{list_any}
use Rattle.co_base.specs.declared.node.Node.TheVariants as node
use Rattle.co_disk.specs.DiskModel.{read_of}
use Rattle.co_log.specs.LogView.{LogView}
use Rattle.co_record.specs.Stored.{HasRecords}
use Rattle.co_coord.proofs.Told.{log_records}
use Rattle.co_coord_tests.proofs.New.{unknown}
use Rattle.co_coord_tests.proofs.fits.need_new.Goals as goal

pub views-requires : goal.views-requires
views-requires c =
    let y = c.requires.0 in
    let s = c.requires.1.log in
    (s.items, subst (λ (v : LogView). HasRecords (read_of v.current.state) s.items) (sym c.log.ensures) (log_records (node.Coord c.args.coord.now.number) c.args.coord.now.log y.log s))

pub returns : goal.returns
returns c = λ y r ends.
    let x = c.args.coord.now in
    let n = node.Coord x.number in
    let has = subst (λ (v : LogView). HasRecords (read_of v.current.state) r.log.items) (sym c.log.ensures) (log_records n x.log y.log r.log) in
    unknown n x.log y.log 3 c.in_ok-past.past c.args.t r.log (c.in_ok-past.ensures r.log.items (c.views.ensures r.log.items has)) ends (ap (list_any (λ u. nat_eq u c.args.t)) (sym c.as_slice.ensures.value) ∙ sym c.contains.ensures.value ∙ c.if-contains.false)
