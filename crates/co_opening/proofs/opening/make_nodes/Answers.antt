use Rattle.std.proofs.Common.{◌≡◌, ◌++◌, List, length, sym, ap, subst, ◌∙◌, arith}
use Rattle.std.specs.List.{AllByRecursion}
use Rattle.co_base.specs.declared.head.Kind.{Kind}
use Rattle.co_base.specs.declared.mark.Mark.{Mark}
use Rattle.co_durable.specs.declared.fault.WorldFault.TheVariants.{Device}
use Rattle.co_durable.proofs.Readings.{fails_later}
use Rattle.co_plain.specs.Opening.{member_headers, coord_headers}
use Rattle.co_opening.specs.Judged.{IsOfMaking}
use Rattle.co_opening.specs.Rest.{OnlyOpens}
use Rattle.co_opening.specs.Running.{AreMembersAt, AreCoordsAt}
use Rattle.co_opening.specs.Standing.{AreCoordsFound}
use Rattle.co_opening.proofs.Handed.{handed, handed_back, handed_in, no_value, not_err}
use Rattle.co_opening.proofs.Rests.{opens_on}
use Rattle.co_opening.proofs.Opened.{opened_nodes, kept_nodes, coords_left, own_members_stay}
use Rattle.co_opening.proofs.opening.make_nodes.Goals as goal

pub open_coords-requires-clause-kept : goal.open_coords-requires-clause-kept
open_coords-requires-clause-kept g c =
    coords_left (g.H.Home.seen c.args.home.now) (g.H.Home.seen c.open_members.new.home) c.args.logs.coords.items
    (omega (arith, c.requires.judged.2.many_coords, c.args.head.now.coordinators)) c.open_members.ensures.others c.requires.kept_coords

pub returns-in_err-coords-clause-device : goal.returns-in_err-coords-clause-device
returns-in_err-coords-clause-device g c = λ spot is.
    let quiet = c.in_ok-members.ensures.quiet (λ at no_err. not_err c.in_ok-members.members (Device at) no_err) in
    fails_later (g.H.Home.seen c.args.home.now) (g.H.Home.seen c.open_members.new.home) (g.H.Home.seen c.open_coords.new.home) spot (omega (arith, quiet))
    (c.in_err-coords.ensures.device spot (handed_back c.from_residual-in_err-coords.result c.in_err-coords.field-0.0 (Device spot) c.from_residual-in_err-coords.ensures.1 is))

pub returns-clause-opened : goal.returns-clause-opened
returns-clause-opened g c = λ file resume j.
    let found : AreCoordsFound c.len-count.result j.found_coord 0 c.args.logs.coords.items c.args.pasts.coords.items =
    subst (λ n. AreCoordsFound n j.found_coord 0 c.args.logs.coords.items c.args.pasts.coords.items) (sym c.len-count.ensures) j.coords in
    opened_nodes g.E.Engine.takes g.E.Engine.stands_for file resume c.args.head.now c.args.logs.members.items c.args.logs.coords.items c.args.pasts.members.items c.args.pasts.coords.items j
    (record { members = c.in_ok-members.members; coords = c.in_ok-coords.coords; used = c.args.used; marks = c.open_coords.new.marks })
    (c.in_ok-members.ensures.many ∙ ap (λ (ks : List Kind). length ks) c.as_slice-kinds.ensures) c.in_ok-coords.ensures.many
    (subst (λ (ks : List Kind). AreMembersAt g.E.Engine.takes g.E.Engine.stands_for ks c.args.head.now.coords j.found_member c.in_ok-members.members.items) c.as_slice-kinds.ensures (c.in_ok-members.ensures.opened j.found_member j.members))
    (subst (λ n. AreCoordsAt n j.found_coord c.in_ok-coords.coords.items) c.len-count.ensures (c.in_ok-coords.ensures.opened j.found_coord found)) c.requires.used c.requires.few
    (c.in_ok-coords.ensures.marks j.found_coord found
    ∙ ap (λ (ms : List Mark). ms ++ coord_headers (length c.args.logs.coords.items) j.found_coord)
    (c.in_ok-members.ensures.marks j.found_member j.members ∙ ap (λ (ms : List Mark). ms ++ member_headers (length c.as_slice-kinds.result.now) j.found_member) c.new-marks.ensures
    ∙ ap (λ (ks : List Kind). member_headers (length ks) j.found_member) c.as_slice-kinds.ensures))

pub returns-clause-kept : goal.returns-clause-kept
returns-clause-kept g c =
    let j = c.requires.judged.2 in
    let found : AreCoordsFound c.len-count.result j.found_coord 0 c.args.logs.coords.items c.args.pasts.coords.items =
    subst (λ n. AreCoordsFound n j.found_coord 0 c.args.logs.coords.items c.args.pasts.coords.items) (sym c.len-count.ensures) j.coords in
    kept_nodes g.E.Engine.takes g.E.Engine.stands_for (g.H.Home.seen c.open_coords.new.home) c.args.head.now j.found_member j.found_coord c.in_ok-members.members.items c.in_ok-coords.coords.items
    (subst (λ (ks : List Kind). AreMembersAt g.E.Engine.takes g.E.Engine.stands_for ks c.args.head.now.coords j.found_member c.in_ok-members.members.items) c.as_slice-kinds.ensures (c.in_ok-members.ensures.opened j.found_member j.members))
    (subst (λ n. AreCoordsAt n j.found_coord c.in_ok-coords.coords.items) c.len-count.ensures (c.in_ok-coords.ensures.opened j.found_coord found))
    (own_members_stay (g.H.Home.seen c.open_members.new.home) (g.H.Home.seen c.open_coords.new.home) c.in_ok-members.members.items
    (let many : length c.in_ok-members.members.items ≡ length c.args.head.now.kinds = c.in_ok-members.ensures.many ∙ ap (λ (ks : List Kind). length ks) c.as_slice-kinds.ensures in omega (arith, many, c.args.head.now.members))
    c.open_coords.ensures.others c.in_ok-members.ensures.kept)
    c.in_ok-coords.ensures.kept

pub returns-clause-clean : goal.returns-clause-clean
returns-clause-clean g c = λ s was. c.in_ok-coords.ensures.clean s (c.in_ok-members.ensures.clean s was)

pub open_members-requires-clause-takes : goal.open_members-requires-clause-takes
open_members-requires-clause-takes g c = subst (AllByRecursion g.E.Engine.takes) (sym c.as_slice-kinds.ensures) c.requires.takes

pub open_members-requires-clause-few : goal.open_members-requires-clause-few
open_members-requires-clause-few g c =
    let same : length c.as_slice-kinds.result.now ≡ length c.args.head.now.kinds = ap length c.as_slice-kinds.ensures in
    omega (arith, same, c.args.head.now.members)

pub open_members-requires-clause-many : goal.open_members-requires-clause-many
open_members-requires-clause-many g c = c.requires.judged.2.many_members ∙ ap length (sym c.as_slice-kinds.ensures)

pub open_members-requires-clause-found : goal.open_members-requires-clause-found
open_members-requires-clause-found g c = (c.requires.judged.2.found_member, c.requires.judged.2.members)

pub open_members-requires-clause-kept : goal.open_members-requires-clause-kept
open_members-requires-clause-kept g c = c.requires.kept_members

pub open_coords-requires-clause-few : goal.open_coords-requires-clause-few
open_coords-requires-clause-few g c = omega (arith, c.requires.judged.2.many_coords, c.args.head.now.coordinators)

pub open_coords-requires-clause-found : goal.open_coords-requires-clause-found
open_coords-requires-clause-found g c =
    let j = c.requires.judged.2 in
    (j.found_coord, subst (λ n. AreCoordsFound n j.found_coord 0 c.args.logs.coords.items c.args.pasts.coords.items) (sym c.len-count.ensures) j.coords)

-- ---- the members are not opened

pub returns-in_err-members-clause-opened : goal.returns-in_err-members-clause-opened
returns-in_err-members-clause-opened g c = λ file resume j. no_value _ c.from_residual.result c.from_residual.ensures.0

pub returns-in_err-members-clause-kept : goal.returns-in_err-members-clause-kept
returns-in_err-members-clause-kept g c = no_value _ c.from_residual.result c.from_residual.ensures.0

pub returns-in_err-members-clause-clean : goal.returns-in_err-members-clause-clean
returns-in_err-members-clause-clean g c = no_value _ c.from_residual.result c.from_residual.ensures.0

pub returns-in_err-members-clause-opens : goal.returns-in_err-members-clause-opens
returns-in_err-members-clause-opens g c = subst (λ n. OnlyOpens n c.args.head.now.coords (g.H.Home.seen c.args.home.now) (g.H.Home.seen c.open_members.new.home)) (ap (λ (ks : List Kind). length ks) c.as_slice-kinds.ensures) c.open_members.ensures.opens

pub returns-in_err-members-clause-fault : goal.returns-in_err-members-clause-fault
returns-in_err-members-clause-fault g c = handed_in IsOfMaking c.from_residual.result c.in_err-members.field-0.0 c.from_residual.ensures.1 c.in_err-members.ensures.fault

pub returns-in_err-members-clause-device : goal.returns-in_err-members-clause-device
returns-in_err-members-clause-device g c = λ spot is. c.in_err-members.ensures.device spot (handed_back c.from_residual.result c.in_err-members.field-0.0 (Device spot) c.from_residual.ensures.1 is)

pub returns-in_err-members-clause-quiet : goal.returns-in_err-members-clause-quiet
returns-in_err-members-clause-quiet g c = λ quiet. c.in_err-members.ensures.quiet (λ spot is. quiet spot (handed c.from_residual.result c.in_err-members.field-0.0 (Device spot) c.from_residual.ensures.1 is))

-- ---- the coordinators are not

pub returns-in_err-coords-clause-opened : goal.returns-in_err-coords-clause-opened
returns-in_err-coords-clause-opened g c = λ file resume j. no_value _ c.from_residual-in_err-coords.result c.from_residual-in_err-coords.ensures.0

pub returns-in_err-coords-clause-kept : goal.returns-in_err-coords-clause-kept
returns-in_err-coords-clause-kept g c = no_value _ c.from_residual-in_err-coords.result c.from_residual-in_err-coords.ensures.0

pub returns-in_err-coords-clause-clean : goal.returns-in_err-coords-clause-clean
returns-in_err-coords-clause-clean g c = no_value _ c.from_residual-in_err-coords.result c.from_residual-in_err-coords.ensures.0

pub returns-in_err-coords-clause-opens : goal.returns-in_err-coords-clause-opens
returns-in_err-coords-clause-opens g c =
    opens_on (length c.args.head.now.kinds) c.args.head.now.coords (g.H.Home.seen c.args.home.now) (g.H.Home.seen c.open_members.new.home) (g.H.Home.seen c.open_coords.new.home)
    (subst (λ n. OnlyOpens n c.args.head.now.coords (g.H.Home.seen c.args.home.now) (g.H.Home.seen c.open_members.new.home)) (ap (λ (ks : List Kind). length ks) c.as_slice-kinds.ensures) c.open_members.ensures.opens)
    (subst (λ n. OnlyOpens (length c.args.head.now.kinds) n (g.H.Home.seen c.open_members.new.home) (g.H.Home.seen c.open_coords.new.home)) c.requires.judged.2.many_coords
    (subst (λ n. OnlyOpens n (length c.args.logs.coords.items) (g.H.Home.seen c.open_members.new.home) (g.H.Home.seen c.open_coords.new.home)) c.len-count.ensures c.open_coords.ensures.opens))

pub returns-in_err-coords-clause-fault : goal.returns-in_err-coords-clause-fault
returns-in_err-coords-clause-fault g c = handed_in IsOfMaking c.from_residual-in_err-coords.result c.in_err-coords.field-0.0 c.from_residual-in_err-coords.ensures.1 c.in_err-coords.ensures.fault

pub returns-in_err-coords-clause-quiet : goal.returns-in_err-coords-clause-quiet
returns-in_err-coords-clause-quiet g c = λ quiet.
    c.in_err-coords.ensures.quiet (λ spot is. quiet spot (handed c.from_residual-in_err-coords.result c.in_err-coords.field-0.0 (Device spot) c.from_residual-in_err-coords.ensures.1 is)) ∙ c.in_ok-members.ensures.quiet (λ spot is. not_err c.in_ok-members.members (Device spot) is)

-- ---- all are opened

pub returns-clause-opens : goal.returns-clause-opens
returns-clause-opens g c =
    opens_on (length c.args.head.now.kinds) c.args.head.now.coords (g.H.Home.seen c.args.home.now) (g.H.Home.seen c.open_members.new.home) (g.H.Home.seen c.open_coords.new.home)
    (subst (λ n. OnlyOpens n c.args.head.now.coords (g.H.Home.seen c.args.home.now) (g.H.Home.seen c.open_members.new.home)) (ap (λ (ks : List Kind). length ks) c.as_slice-kinds.ensures) c.open_members.ensures.opens)
    (subst (λ n. OnlyOpens (length c.args.head.now.kinds) n (g.H.Home.seen c.open_members.new.home) (g.H.Home.seen c.open_coords.new.home)) c.requires.judged.2.many_coords
    (subst (λ n. OnlyOpens n (length c.args.logs.coords.items) (g.H.Home.seen c.open_members.new.home) (g.H.Home.seen c.open_coords.new.home)) c.len-count.ensures c.open_coords.ensures.opens))

pub returns-clause-device : goal.returns-clause-device
returns-clause-device g c = λ spot is. absurd (not_err _ (Device spot) is)

pub returns-clause-quiet : goal.returns-clause-quiet
returns-clause-quiet g c = λ quiet. c.in_ok-coords.ensures.quiet (λ spot is. not_err c.in_ok-coords.coords (Device spot) is) ∙ c.in_ok-members.ensures.quiet (λ spot is. not_err c.in_ok-members.members (Device spot) is)
