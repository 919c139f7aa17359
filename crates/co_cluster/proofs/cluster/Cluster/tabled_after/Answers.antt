use Rattle.std.proofs.Common.{◌≡◌, ◌+◌, ◌-◌, ◌∙◌, ℕ, suc, Option, sym, ap, arith}
use Rattle.co_coord.specs.Reading.{is_above}
use Rattle.co_state.specs.Table.{lesser, least_where}
use Rattle.co_cluster.specs.Readings.{least_to}
use Rattle.co_cluster.proofs.Readers.{coord_runs, least_more}
use Rattle.co_cluster.proofs.cluster.Cluster.tabled_after.Goals as goal

pub open_after-requires : goal.open_after-requires
open_after-requires g c = record { up = coord_runs g.E.Engine.takes g.E.Engine.stands_for c.args.self.now c.requires.stands (c.loop-place.place + 1) (c.loop-place.place + 1 - 1) c.coord_at.result.now (omega arith) (omega arith) c.coord_at.ensures }

pub loop-place-preserved : goal.loop-place-preserved
loop-place-preserved g c = λ s r.
    let tell : ℕ → Option ℕ = λ k. least_where (λ t e. is_above c.args.after.now t) (s.coord k).table in
    let next : c.loop-place.place + 1 ≡ suc c.loop-place.place = omega arith in
    c.lesser-least.ensures
    ∙ ap (λ o. lesser o c.open_after.result) (c.loop-place.invariant s r)
    ∙ ap (lesser (least_to c.loop-place.place tell)) (c.open_after.ensures (s.coord (c.loop-place.place + 1)) (c.coord_at.ensures s r).stands ∙ ap (λ o. least_where (λ t e. is_above o t) (s.coord (c.loop-place.place + 1)).table) c.copied.ensures)
    ∙ sym (least_more tell c.loop-place.place (c.loop-place.place + 1) next)
