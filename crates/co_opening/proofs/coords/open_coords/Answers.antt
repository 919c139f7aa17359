use Rattle.std.proofs.Common.{◌≡◌, suc, ◌+◌, List, ◌++◌, append-nil, length, refl, sym, ap, subst, ◌∙◌, arith}
use Rattle.co_base.specs.declared.node.Node.TheVariants.{Member, Coord}
use Rattle.co_log.specs.LogView.{LogView}
use Rattle.co_plain.specs.Opening.{header_mark, opened_coord, coord_headers}
use Rattle.co_durable.specs.declared.fault.WorldFault.TheVariants.{Device, Memory}
use Rattle.co_durable.proofs.Readings.{fails_later}
use Rattle.co_opening.specs.Judged.{IsOfMaking}
use Rattle.co_opening.specs.Kept.{AreOwnLogs}
use Rattle.co_opening.specs.Nodes.{IsCoordAt}
use Rattle.co_recover.specs.declared.past.CoordPast.{CoordPast}
use Rattle.co_opening.specs.Running.{AreCoordsAt, AreOwnCoords}
use Rattle.co_opening.specs.Standing.{IsCoordFound, AreCoordsFound}
use Rattle.co_opening.specs.declared.sort.Sort.TheVariants.{Coords}
use Rattle.co_opening.proofs.From.{one_longer, both_next, both_left}
use Rattle.co_opening.proofs.Handed.{handed, handed_back, handed_in, no_value, not_err, no_device}
use Rattle.co_opening.proofs.Sorts.{number_valid, apart_sorts}
use Rattle.co_opening.proofs.Rests.{opens_none, coord_opened}
use Rattle.co_opening.proofs.Stays.{stays_still}
use Rattle.co_opening.proofs.Turns.{leaves, left_first, one_less, all_done, place_below, both_on, all_on, marks_on, to_keep_on, kept_on}
use Rattle.co_opening.proofs.coords.open_coords.Goals as goal

pub loop-log-init : goal.loop-log-init
loop-log-init g c =
    let home = g.H.Home.seen c.args.home.now in
    let none = c.new-coords.ensures.items in
    let logs = c.into_iter-log-iterator.ensures.into_iter_gives.0 in
    let pasts = c.into_iter-pasts.ensures.rest in
    record {
      done = ap length none;
      left = left_first (length c.args.logs.items) c.args.logs.items c.into_iter-log-iterator.result.rest.items logs refl;
      found = λ found f.
          subst (λ (ps : List CoordPast). AreCoordsFound c.args.members found 0 c.into_iter-log-iterator.result.rest.items ps) (sym pasts)
          (subst (λ (ls : List LogView). AreCoordsFound c.args.members found 0 ls c.args.pasts.items) (sym logs) f);
      opened = λ found f. subst (AreCoordsAt c.args.members found) (sym none) tt;
      marked = λ found f. sym (append-nil c.args.marks.now);
      to_keep = subst (AreOwnLogs home Coord 0) (sym logs) c.requires.kept;
      kept = subst (AreOwnCoords home) (sym none) tt;
      clean = λ s was. was;
      others = λ k own. stays_still (Member k) home;
      opens = opens_none _ _ home;
      quiet = refl;
    }

pub unreachable-requires : goal.unreachable-requires
unreachable-requires g c =
    let w = c.requires.found in
    both_left (λ q l t. IsCoordFound c.args.members (suc q) l t (w.0 (suc q))) c.loop-log.place c.loop-log.log-iterator.rest.items c.next.new.self.rest.items c.in-Some.log c.loop-log.pasts.rest.items c.in-Some.ensures.steps.0
    (sym c.in_default.ensures.cases.0 ∙ c.loop-log.pasts.rest.ok.0) (c.loop-log.invariant.found w.0 w.1)

pub open_coord-requires-clause-few : goal.open_coord-requires-clause-few
open_coord-requires-clause-few g c =
    omega (arith, place_below c.loop-log.place (length c.args.logs.items) 8 c.loop-log.log-iterator.rest.items c.next.new.self.rest.items c.in-Some.log c.in-Some.ensures.steps.0 c.loop-log.invariant.left c.requires.few)

pub returns-in_err-coord-clause-others : goal.returns-in_err-coord-clause-others
returns-in_err-coord-clause-others g c = λ k own.
    leaves (Coord (suc c.loop-log.place)) (Member k) (g.H.Home.seen c.args.home.now) (g.H.Home.seen c.loop-log.home) (g.H.Home.seen c.open_coord.new.home)
    (number_valid Coords c.loop-log.place (place_below c.loop-log.place (length c.args.logs.items) 8 c.loop-log.log-iterator.rest.items c.next.new.self.rest.items c.in-Some.log c.in-Some.ensures.steps.0 c.loop-log.invariant.left c.requires.few)) own (λ e. apart_sorts k (suc c.loop-log.place) e) (c.loop-log.invariant.others k own) c.open_coord.ensures.rest.stay.others

pub returns-in_err-push-clause-others : goal.returns-in_err-push-clause-others
returns-in_err-push-clause-others g c = λ k own.
    leaves (Coord (suc c.loop-log.place)) (Member k) (g.H.Home.seen c.args.home.now) (g.H.Home.seen c.loop-log.home) (g.H.Home.seen c.open_coord.new.home)
    (number_valid Coords c.loop-log.place (place_below c.loop-log.place (length c.args.logs.items) 8 c.loop-log.log-iterator.rest.items c.next.new.self.rest.items c.in-Some.log c.in-Some.ensures.steps.0 c.loop-log.invariant.left c.requires.few)) own (λ e. apart_sorts k (suc c.loop-log.place) e) (c.loop-log.invariant.others k own) c.open_coord.ensures.rest.stay.others

pub open_coord-requires-clause-found : goal.open_coord-requires-clause-found
open_coord-requires-clause-found g c =
    let w = c.requires.found in
    (w.0 (suc c.loop-log.place), (both_next (λ q l t. IsCoordFound c.args.members (suc q) l t (w.0 (suc q))) c.loop-log.place c.loop-log.log-iterator.rest.items c.next.new.self.rest.items c.loop-log.pasts.rest.items c.next-in-loop-log.new.self.rest.items c.in-Some.log c.in-Some-next.past c.in-Some.ensures.steps.0 c.in-Some-next.ensures.items (c.loop-log.invariant.found w.0 w.1)).0)

pub loop-log-preserved : goal.loop-log-preserved
loop-log-preserved g c =
    let i = c.loop-log.invariant in
    let few = (place_below c.loop-log.place (length c.args.logs.items) 8 c.loop-log.log-iterator.rest.items c.next.new.self.rest.items c.in-Some.log c.in-Some.ensures.steps.0 c.loop-log.invariant.left c.requires.few) in
    record {
      done = one_longer c.loop-log.place c.loop-log.coords.items c.push.new.self.items c.in_ok-coord.coord c.in_ok-push.ensures.items i.done;
      left = one_less c.loop-log.place (length c.args.logs.items) c.loop-log.log-iterator.rest.items c.next.new.self.rest.items c.in-Some.log c.in-Some.ensures.steps.0 c.loop-log.invariant.left;
      found = λ found f. both_on (λ q l t. IsCoordFound c.args.members (suc q) l t (found (suc q))) c.loop-log.place c.loop-log.log-iterator.rest.items c.next.new.self.rest.items c.loop-log.pasts.rest.items c.next-in-loop-log.new.self.rest.items c.in-Some.log c.in-Some-next.past c.in-Some.ensures.steps.0 c.in-Some-next.ensures.items (c.loop-log.invariant.found found f);
      opened = λ found f.
          all_on (λ q x. IsCoordAt c.args.members q x (opened_coord (suc q) (found (suc q)))) c.loop-log.place c.loop-log.coords.items c.push.new.self.items c.in_ok-coord.coord c.in_ok-push.ensures.items c.loop-log.invariant.done (c.loop-log.invariant.opened found f)
          (c.in_ok-coord.ensures.opened (found (suc c.loop-log.place)) (both_next (λ q l t. IsCoordFound c.args.members (suc q) l t (found (suc q))) c.loop-log.place c.loop-log.log-iterator.rest.items c.next.new.self.rest.items c.loop-log.pasts.rest.items c.next-in-loop-log.new.self.rest.items c.in-Some.log c.in-Some-next.past c.in-Some.ensures.steps.0 c.in-Some-next.ensures.items (c.loop-log.invariant.found found f)).0);
      marked = λ found f.
          marks_on (λ n. coord_headers n found) (header_mark (Coord (suc c.loop-log.place)) (found (suc c.loop-log.place)).records) c.args.marks.now c.loop-log.marks c.open_coord.new.marks c.loop-log.place refl
          (c.in_ok-coord.ensures.marks (found (suc c.loop-log.place)) (both_next (λ q l t. IsCoordFound c.args.members (suc q) l t (found (suc q))) c.loop-log.place c.loop-log.log-iterator.rest.items c.next.new.self.rest.items c.loop-log.pasts.rest.items c.next-in-loop-log.new.self.rest.items c.in-Some.log c.in-Some-next.past c.in-Some.ensures.steps.0 c.in-Some-next.ensures.items (c.loop-log.invariant.found found f)).0) (c.loop-log.invariant.marked found f);
      to_keep = to_keep_on Coords c.loop-log.place few (g.H.Home.seen c.loop-log.home) (g.H.Home.seen c.open_coord.new.home) c.open_coord.ensures.rest.stay.others c.loop-log.log-iterator.rest.items c.next.new.self.rest.items c.in-Some.log c.in-Some.ensures.steps.0
          (let many : c.loop-log.place + length c.loop-log.log-iterator.rest.items ≡ (length c.args.logs.items) = c.loop-log.invariant.left in omega (arith, many, c.requires.few)) i.to_keep;
      kept = kept_on Coords c.loop-log.place few (g.H.Home.seen c.loop-log.home) (g.H.Home.seen c.open_coord.new.home) c.open_coord.ensures.rest.stay.others (λ x. x.log) c.loop-log.coords.items c.push.new.self.items c.in_ok-coord.coord c.in_ok-push.ensures.items
          c.loop-log.invariant.done i.kept c.in_ok-coord.ensures.kept;
      clean = λ s was. c.in_ok-coord.ensures.clean s (c.loop-log.invariant.clean s was);
      others = λ k own.
          leaves (Coord (suc c.loop-log.place)) (Member k) (g.H.Home.seen c.args.home.now) (g.H.Home.seen c.loop-log.home) (g.H.Home.seen c.open_coord.new.home)
          (number_valid Coords c.loop-log.place (place_below c.loop-log.place (length c.args.logs.items) 8 c.loop-log.log-iterator.rest.items c.next.new.self.rest.items c.in-Some.log c.in-Some.ensures.steps.0 c.loop-log.invariant.left c.requires.few)) own (λ e. apart_sorts k (suc c.loop-log.place) e) (c.loop-log.invariant.others k own) c.open_coord.ensures.rest.stay.others;
      opens = coord_opened c.args.members (length c.args.logs.items) c.loop-log.place (g.H.Home.seen c.args.home.now) (g.H.Home.seen c.loop-log.home) (g.H.Home.seen c.open_coord.new.home) (place_below c.loop-log.place (length c.args.logs.items) (length c.args.logs.items) c.loop-log.log-iterator.rest.items c.next.new.self.rest.items c.in-Some.log c.in-Some.ensures.steps.0 c.loop-log.invariant.left (omega arith)) (place_below c.loop-log.place (length c.args.logs.items) 8 c.loop-log.log-iterator.rest.items c.next.new.self.rest.items c.in-Some.log c.in-Some.ensures.steps.0 c.loop-log.invariant.left c.requires.few) c.loop-log.invariant.opens c.open_coord.ensures.rest;
      quiet = c.in_ok-coord.ensures.quiet (λ spot is. not_err c.in_ok-coord.coord (Device spot) is) ∙ i.quiet;
    }

pub open_coord-requires-clause-kept : goal.open_coord-requires-clause-kept
open_coord-requires-clause-kept g c =
    (subst (AreOwnLogs (g.H.Home.seen c.loop-log.home) Coord c.loop-log.place) c.in-Some.ensures.steps.0 c.loop-log.invariant.to_keep).0

-- ---- a coordinator is not opened

pub returns-in_err-coord-clause-opened : goal.returns-in_err-coord-clause-opened
returns-in_err-coord-clause-opened g c = λ found f. no_value _ c.from_residual.result c.from_residual.ensures.0

pub returns-in_err-coord-clause-many : goal.returns-in_err-coord-clause-many
returns-in_err-coord-clause-many g c = no_value _ c.from_residual.result c.from_residual.ensures.0

pub returns-in_err-coord-clause-marks : goal.returns-in_err-coord-clause-marks
returns-in_err-coord-clause-marks g c = λ found f. no_value _ c.from_residual.result c.from_residual.ensures.0

pub returns-in_err-coord-clause-kept : goal.returns-in_err-coord-clause-kept
returns-in_err-coord-clause-kept g c = no_value _ c.from_residual.result c.from_residual.ensures.0

pub returns-in_err-coord-clause-clean : goal.returns-in_err-coord-clause-clean
returns-in_err-coord-clause-clean g c = no_value _ c.from_residual.result c.from_residual.ensures.0

pub returns-in_err-coord-clause-opens : goal.returns-in_err-coord-clause-opens
returns-in_err-coord-clause-opens g c = coord_opened c.args.members (length c.args.logs.items) c.loop-log.place (g.H.Home.seen c.args.home.now) (g.H.Home.seen c.loop-log.home) (g.H.Home.seen c.open_coord.new.home) (place_below c.loop-log.place (length c.args.logs.items) (length c.args.logs.items) c.loop-log.log-iterator.rest.items c.next.new.self.rest.items c.in-Some.log c.in-Some.ensures.steps.0 c.loop-log.invariant.left (omega arith)) (place_below c.loop-log.place (length c.args.logs.items) 8 c.loop-log.log-iterator.rest.items c.next.new.self.rest.items c.in-Some.log c.in-Some.ensures.steps.0 c.loop-log.invariant.left c.requires.few) c.loop-log.invariant.opens c.open_coord.ensures.rest

pub returns-in_err-coord-clause-fault : goal.returns-in_err-coord-clause-fault
returns-in_err-coord-clause-fault g c = handed_in IsOfMaking c.from_residual.result c.in_err-coord.field-0.0 c.from_residual.ensures.1 c.in_err-coord.ensures.fault

pub returns-in_err-coord-clause-device : goal.returns-in_err-coord-clause-device
returns-in_err-coord-clause-device g c = λ spot is.
    fails_later (g.H.Home.seen c.args.home.now) (g.H.Home.seen c.loop-log.home) (g.H.Home.seen c.open_coord.new.home) spot (omega (arith, c.loop-log.invariant.quiet))
    (c.in_err-coord.ensures.device spot (handed_back c.from_residual.result c.in_err-coord.field-0.0 (Device spot) c.from_residual.ensures.1 is))

pub returns-in_err-coord-clause-quiet : goal.returns-in_err-coord-clause-quiet
returns-in_err-coord-clause-quiet g c = λ quiet.
    c.in_err-coord.ensures.quiet (λ spot is. quiet spot (handed c.from_residual.result c.in_err-coord.field-0.0 (Device spot) c.from_residual.ensures.1 is)) ∙ c.loop-log.invariant.quiet

-- ---- there was no memory for it

pub returns-in_err-push-clause-opened : goal.returns-in_err-push-clause-opened
returns-in_err-push-clause-opened g c = λ found f. no_value _ c.from_residual-in_err-push.result c.from_residual-in_err-push.ensures.0

pub returns-in_err-push-clause-many : goal.returns-in_err-push-clause-many
returns-in_err-push-clause-many g c = no_value _ c.from_residual-in_err-push.result c.from_residual-in_err-push.ensures.0

pub returns-in_err-push-clause-marks : goal.returns-in_err-push-clause-marks
returns-in_err-push-clause-marks g c = λ found f. no_value _ c.from_residual-in_err-push.result c.from_residual-in_err-push.ensures.0

pub returns-in_err-push-clause-kept : goal.returns-in_err-push-clause-kept
returns-in_err-push-clause-kept g c = no_value _ c.from_residual-in_err-push.result c.from_residual-in_err-push.ensures.0

pub returns-in_err-push-clause-clean : goal.returns-in_err-push-clause-clean
returns-in_err-push-clause-clean g c = no_value _ c.from_residual-in_err-push.result c.from_residual-in_err-push.ensures.0

pub returns-in_err-push-clause-opens : goal.returns-in_err-push-clause-opens
returns-in_err-push-clause-opens g c = coord_opened c.args.members (length c.args.logs.items) c.loop-log.place (g.H.Home.seen c.args.home.now) (g.H.Home.seen c.loop-log.home) (g.H.Home.seen c.open_coord.new.home) (place_below c.loop-log.place (length c.args.logs.items) (length c.args.logs.items) c.loop-log.log-iterator.rest.items c.next.new.self.rest.items c.in-Some.log c.in-Some.ensures.steps.0 c.loop-log.invariant.left (omega arith)) (place_below c.loop-log.place (length c.args.logs.items) 8 c.loop-log.log-iterator.rest.items c.next.new.self.rest.items c.in-Some.log c.in-Some.ensures.steps.0 c.loop-log.invariant.left c.requires.few) c.loop-log.invariant.opens c.open_coord.ensures.rest

pub returns-in_err-push-clause-fault : goal.returns-in_err-push-clause-fault
returns-in_err-push-clause-fault g c = handed_in IsOfMaking c.from_residual-in_err-push.result Memory c.from_residual-in_err-push.ensures.1 tt

pub returns-in_err-push-clause-device : goal.returns-in_err-push-clause-device
returns-in_err-push-clause-device g c = λ spot is. absurd (no_device c.from_residual-in_err-push.result spot c.from_residual-in_err-push.ensures.1 is)

pub returns-in_err-push-clause-quiet : goal.returns-in_err-push-clause-quiet
returns-in_err-push-clause-quiet g c = λ quiet. c.in_ok-coord.ensures.quiet (λ spot is. not_err c.in_ok-coord.coord (Device spot) is) ∙ c.loop-log.invariant.quiet

-- ---- all are opened

pub returns-clause-opened : goal.returns-clause-opened
returns-clause-opened g c = c.loop-log.invariant.opened

pub returns-clause-many : goal.returns-clause-many
returns-clause-many g c = c.loop-log.invariant.done ∙ all_done c.loop-log.place (length c.args.logs.items) c.loop-log.log-iterator.rest.len c.loop-log.log-iterator.rest.items c.in-None.ensures.steps.0 c.loop-log.log-iterator.rest.ok.0 c.loop-log.invariant.left

pub returns-clause-marks : goal.returns-clause-marks
returns-clause-marks g c = λ found f.
    c.loop-log.invariant.marked found f ∙ ap (λ n. c.args.marks.now ++ coord_headers n found) (all_done c.loop-log.place (length c.args.logs.items) c.loop-log.log-iterator.rest.len c.loop-log.log-iterator.rest.items c.in-None.ensures.steps.0 c.loop-log.log-iterator.rest.ok.0 c.loop-log.invariant.left)

pub returns-clause-kept : goal.returns-clause-kept
returns-clause-kept g c = c.loop-log.invariant.kept

pub returns-clause-clean : goal.returns-clause-clean
returns-clause-clean g c = c.loop-log.invariant.clean

pub returns-clause-others : goal.returns-clause-others
returns-clause-others g c = c.loop-log.invariant.others

pub returns-clause-opens : goal.returns-clause-opens
returns-clause-opens g c = c.loop-log.invariant.opens

pub returns-clause-device : goal.returns-clause-device
returns-clause-device g c = λ spot is. absurd (not_err _ (Device spot) is)

pub returns-clause-quiet : goal.returns-clause-quiet
returns-clause-quiet g c = λ quiet. c.loop-log.invariant.quiet
