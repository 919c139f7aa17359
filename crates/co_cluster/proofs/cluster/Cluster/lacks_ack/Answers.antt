use Rattle.std.proofs.Common.{◌≡◌, ◌-◌, ◌∙◌, true, false, sym, ap}
use Rattle.co_coord.specs.Reading.{stage_of}
use Rattle.co_coord.specs.declared.reading.Stage.TheVariants as stage
use Rattle.co_state.specs.Table.{look}
use Rattle.co_cluster.specs.Readings.{names}
use Rattle.co_cluster.proofs.Lacking.{lacks_ack_is}
use Rattle.co_cluster.proofs.Readers.{coord_runs, is_coord}
use Rattle.co_cluster.proofs.cluster.Cluster.lacks_ack.Goals.{in-Committed, in_default}
use Rattle.co_cluster.proofs.cluster.Cluster.lacks_ack.Goals as goal

pub stage-requires : goal.stage-requires
stage-requires g c = record { up = coord_runs g.E.Engine.takes g.E.Engine.stands_for c.args.self.now c.requires.stands c.args.coord (c.args.coord - 1) c.coord_at-node.result.now c.requires.coord.0 c.requires.coord.1 c.coord_at-node.ensures }

pub lacks-requires : goal.lacks-requires
lacks-requires g c = record { up = coord_runs g.E.Engine.takes g.E.Engine.stands_for c.args.self.now c.requires.stands c.args.coord (c.args.coord - 1) c.coord_at-node.result.now c.requires.coord.0 c.requires.coord.1 c.coord_at-node.ensures }

pub returns-then-matches : goal.returns-then-matches
returns-then-matches g c = λ s r ready.
    let own = is_coord g.E.Engine.takes g.E.Engine.stands_for c.args.self.now s r c.args.coord c.requires.coord.0 c.requires.coord.1 in
    let here = (c.coord_at-node.ensures s r).stands in
    let at : stage_of (look (s.coord c.args.coord).table c.args.t) ≡ stage.Committed =
    elim c.match-matches.branch [ in-Committed w ↦ sym (w.in-Committed.ensures (s.coord c.args.coord) here) | in_default w ↦ absurd (let z : true ≡ false = sym c.if-matches.true ∙ w.matches-is in cc) ] in
    c.names.ensures ∙ ap (λ o. names o c.args.member) (c.lacks.ensures (s.coord c.args.coord) here) ∙ lacks_ack_is s ready c.args.coord own c.args.t c.args.member c.requires.member at
