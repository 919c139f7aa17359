use Rattle.std.proofs.Common.{List, map, sym, ap, ◌∙◌}
use Rattle.std.proofs.lemmas.Result.{on_ok_weaker}
use Rattle.co_plain.specs.MemberView.{with_numbers}
use Rattle.co_recover.specs.declared.past.CoordPast.{CoordPast}
use Rattle.co_recover.specs.declared.past.Decided.{Decided}
use Rattle.co_cluster.proofs.NotedSets.{decided_noted}
use Rattle.co_cluster.proofs.OpenNodes.{none_is}
use Rattle.co_cluster.proofs.cluster.Cluster.note_tabled.Goals as goal

pub note_coord-requires : goal.note_coord-requires
note_coord-requires g c =
    let s = c.requires.stands.0 in
    record { up = sym c.up.ensures ∙ c.if-up.true; stands = (s.coord c.args.coord, (c.coord_at-node.ensures s c.requires.stands.1).stands) }

pub returns-then-up : goal.returns-then-up
returns-then-up g c = λ s r. c.note_coord.ensures (s.coord c.args.coord) (c.coord_at-node.ensures s r).stands

pub returns : goal.returns
returns g c = λ s r.
    let y = s.coord c.args.coord in
    let down = (c.coord_at-node.ensures s r).stands.down (none_is c.coord_at-node.result.now.table (sym c.up.ensures ∙ c.if-up.false)) in
    on_ok_weaker c.lay_decided.result
    (λ is. decided_noted y.log y c.args.found.now c.lay_decided.new.found down
    (is ∙ ap (λ (commits : List Decided). with_numbers c.args.found.now (map (λ (d : Decided). d.txn) commits)) (c.as_slice.ensures ∙ ap (λ (p : CoordPast). p.committed) (c.in_ok-past.ensures s r))))
    c.lay_decided.ensures
