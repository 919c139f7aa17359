use Rattle.std.proofs.Common.{◌≡◌, List, length, ap, subst, ◌∙◌}
use Rattle.std.specs.FinMap.{keys}
use Rattle.co_outside.specs.declared.spot.Spot.{Spot}
use Rattle.co_recover.specs.declared.past.CoordPast.{CoordPast}
use Rattle.co_recover.specs.declared.past.MemberPast.{MemberPast}
use Rattle.co_state.specs.Table.{no_entries}
use Rattle.co_durable.specs.declared.fault.WorldFault.TheVariants.{Device}
use Rattle.co_durable.proofs.Readings.{fails_later}
use Rattle.co_opening.specs.Counted.{with_members, with_coords}
use Rattle.co_opening.specs.Judged.{IsUncounted, IsOfMaking, IsOfJudging}
use Rattle.co_opening.specs.Opened.{IsUnopened, IsOfFound}
use Rattle.co_opening.proofs.Handed.{handed, handed_back, handed_in, handed_at, no_value, not_err, of_error}
use Rattle.co_opening.proofs.Judged.{uncounted}
use Rattle.co_opening.proofs.Rests.{opens_on, opens_read}
use Rattle.co_opening.proofs.Opened.{making_unopened, making_unfound, clean_moved}
use Rattle.co_opening.proofs.opening.open_nodes.Goals as goal

pub returns-in_err-used-clause-refused : goal.returns-in_err-used-clause-refused
returns-in_err-used-clause-refused g c =
    let file = (g.H.Home.seen c.args.home.now).file in
    let j = c.in_ok-pasts.ensures.judged file c.args.resume c.in_ok-logs.ensures.attached in
    let told : IsUncounted (keys (with_coords (with_members no_entries c.in_ok-pasts.pasts.members.items) c.in_ok-pasts.pasts.coords.items)) c.in_err-used.field-0.0 =
    subst (λ (pasts : List CoordPast). IsUncounted (keys (with_coords (with_members no_entries c.in_ok-pasts.pasts.members.items) pasts)) c.in_err-used.field-0.0) c.as_slice-2.ensures.value
    (subst (λ (pasts : List MemberPast). IsUncounted (keys (with_coords (with_members no_entries pasts) c.as_slice-2.result.now)) c.in_err-used.field-0.0) c.as_slice.ensures.value c.in_err-used.ensures.uncounted) in
    let un : IsUnopened file c.args.head.now c.args.resume c.in_err-used.field-0.0 =
    uncounted file c.args.resume c.args.head.now c.in_ok-logs.logs.members.items c.in_ok-logs.logs.coords.items c.in_ok-pasts.pasts.members.items c.in_ok-pasts.pasts.coords.items j c.in_err-used.field-0.0 told in
    handed_in (IsUnopened file c.args.head.now c.args.resume) c.from_residual-in_err-used.result c.in_err-used.field-0.0 c.from_residual-in_err-used.ensures.1 un

pub returns-clause-clean : goal.returns-clause-clean
returns-clause-clean g c =
    clean_moved c.make_nodes.result (g.H.Home.seen c.args.home.now) (g.H.Home.seen c.attach_all.new.home) (g.H.Home.seen c.make_nodes.new.home) c.attach_all.ensures.reads.files c.make_nodes.ensures.clean

pub judge-requires : goal.judge-requires
judge-requires g c = ((g.H.Home.seen c.args.home.now).file, c.args.resume, c.in_ok-logs.ensures.attached)

-- ---- the logs are not attached

pub returns-in_err-logs-clause-opened : goal.returns-in_err-logs-clause-opened
returns-in_err-logs-clause-opened g c = no_value _ c.from_residual.result c.from_residual.ensures.0

pub returns-in_err-logs-clause-kept : goal.returns-in_err-logs-clause-kept
returns-in_err-logs-clause-kept g c = no_value _ c.from_residual.result c.from_residual.ensures.0

pub returns-in_err-logs-clause-clean : goal.returns-in_err-logs-clause-clean
returns-in_err-logs-clause-clean g c = no_value _ c.from_residual.result c.from_residual.ensures.0

pub returns-in_err-logs-clause-refused : goal.returns-in_err-logs-clause-refused
returns-in_err-logs-clause-refused g c =
    handed_in (IsUnopened (g.H.Home.seen c.args.home.now).file c.args.head.now c.args.resume) c.from_residual.result c.in_err-logs.field-0.0 c.from_residual.ensures.1 c.in_err-logs.ensures.refused

pub returns-in_err-logs-clause-untouched : goal.returns-in_err-logs-clause-untouched
returns-in_err-logs-clause-untouched g c =
    handed_in (λ fault. IsOfFound fault → (s : Spot) → (g.H.Home.seen c.attach_all.new.home).file s ≡ (g.H.Home.seen c.args.home.now).file s) c.from_residual.result c.in_err-logs.field-0.0 c.from_residual.ensures.1 (λ found s. c.attach_all.ensures.reads.files s)

pub returns-in_err-logs-clause-opens : goal.returns-in_err-logs-clause-opens
returns-in_err-logs-clause-opens g c = opens_read (length c.args.head.now.kinds) c.args.head.now.coords (g.H.Home.seen c.args.home.now) (g.H.Home.seen c.attach_all.new.home) c.attach_all.ensures.reads

pub returns-in_err-logs-clause-device : goal.returns-in_err-logs-clause-device
returns-in_err-logs-clause-device g c = λ spot is. c.in_err-logs.ensures.device spot (handed_back c.from_residual.result c.in_err-logs.field-0.0 (Device spot) c.from_residual.ensures.1 is)

pub returns-in_err-logs-clause-quiet : goal.returns-in_err-logs-clause-quiet
returns-in_err-logs-clause-quiet g c = λ quiet. c.in_err-logs.ensures.quiet (λ spot is. quiet spot (handed c.from_residual.result c.in_err-logs.field-0.0 (Device spot) c.from_residual.ensures.1 is))

-- ---- their records are refused

pub returns-in_err-pasts-clause-opened : goal.returns-in_err-pasts-clause-opened
returns-in_err-pasts-clause-opened g c = no_value _ c.from_residual-in_err-pasts.result c.from_residual-in_err-pasts.ensures.0

pub returns-in_err-pasts-clause-kept : goal.returns-in_err-pasts-clause-kept
returns-in_err-pasts-clause-kept g c = no_value _ c.from_residual-in_err-pasts.result c.from_residual-in_err-pasts.ensures.0

pub returns-in_err-pasts-clause-clean : goal.returns-in_err-pasts-clause-clean
returns-in_err-pasts-clause-clean g c = no_value _ c.from_residual-in_err-pasts.result c.from_residual-in_err-pasts.ensures.0

pub returns-in_err-pasts-clause-refused : goal.returns-in_err-pasts-clause-refused
returns-in_err-pasts-clause-refused g c =
    handed_in (IsUnopened (g.H.Home.seen c.args.home.now).file c.args.head.now c.args.resume) c.from_residual-in_err-pasts.result c.in_err-pasts.field-0.0 c.from_residual-in_err-pasts.ensures.1 (c.in_err-pasts.ensures.refused (g.H.Home.seen c.args.home.now).file c.args.resume c.in_ok-logs.ensures.attached)

pub returns-in_err-pasts-clause-untouched : goal.returns-in_err-pasts-clause-untouched
returns-in_err-pasts-clause-untouched g c =
    handed_in (λ fault. IsOfFound fault → (s : Spot) → (g.H.Home.seen c.attach_all.new.home).file s ≡ (g.H.Home.seen c.args.home.now).file s) c.from_residual-in_err-pasts.result c.in_err-pasts.field-0.0 c.from_residual-in_err-pasts.ensures.1 (λ found s. c.attach_all.ensures.reads.files s)

pub returns-in_err-pasts-clause-opens : goal.returns-in_err-pasts-clause-opens
returns-in_err-pasts-clause-opens g c = opens_read (length c.args.head.now.kinds) c.args.head.now.coords (g.H.Home.seen c.args.home.now) (g.H.Home.seen c.attach_all.new.home) c.attach_all.ensures.reads

pub returns-in_err-pasts-clause-device : goal.returns-in_err-pasts-clause-device
returns-in_err-pasts-clause-device g c = λ spot is.
    absurd (handed_at IsOfJudging c.from_residual-in_err-pasts.result c.in_err-pasts.field-0.0 (Device spot) c.from_residual-in_err-pasts.ensures.1 is c.in_err-pasts.ensures.faults)

pub returns-in_err-pasts-clause-quiet : goal.returns-in_err-pasts-clause-quiet
returns-in_err-pasts-clause-quiet g c = λ quiet. c.in_ok-logs.ensures.quiet (λ spot is. not_err c.in_ok-logs.logs (Device spot) is)

-- ---- the numbers in them are not counted

pub returns-in_err-used-clause-opened : goal.returns-in_err-used-clause-opened
returns-in_err-used-clause-opened g c = no_value _ c.from_residual-in_err-used.result c.from_residual-in_err-used.ensures.0

pub returns-in_err-used-clause-kept : goal.returns-in_err-used-clause-kept
returns-in_err-used-clause-kept g c = no_value _ c.from_residual-in_err-used.result c.from_residual-in_err-used.ensures.0

pub returns-in_err-used-clause-clean : goal.returns-in_err-used-clause-clean
returns-in_err-used-clause-clean g c = no_value _ c.from_residual-in_err-used.result c.from_residual-in_err-used.ensures.0

pub returns-in_err-used-clause-untouched : goal.returns-in_err-used-clause-untouched
returns-in_err-used-clause-untouched g c =
    handed_in (λ fault. IsOfFound fault → (s : Spot) → (g.H.Home.seen c.attach_all.new.home).file s ≡ (g.H.Home.seen c.args.home.now).file s) c.from_residual-in_err-used.result c.in_err-used.field-0.0 c.from_residual-in_err-used.ensures.1 (λ found s. c.attach_all.ensures.reads.files s)

pub returns-in_err-used-clause-opens : goal.returns-in_err-used-clause-opens
returns-in_err-used-clause-opens g c = opens_read (length c.args.head.now.kinds) c.args.head.now.coords (g.H.Home.seen c.args.home.now) (g.H.Home.seen c.attach_all.new.home) c.attach_all.ensures.reads

pub returns-in_err-used-clause-device : goal.returns-in_err-used-clause-device
returns-in_err-used-clause-device g c = λ spot is.
    absurd (handed_at (IsUncounted (keys (with_coords (with_members no_entries c.as_slice.result.now) c.as_slice-2.result.now))) c.from_residual-in_err-used.result c.in_err-used.field-0.0 (Device spot) c.from_residual-in_err-used.ensures.1 is c.in_err-used.ensures.uncounted)

pub returns-in_err-used-clause-quiet : goal.returns-in_err-used-clause-quiet
returns-in_err-used-clause-quiet g c = λ quiet. c.in_ok-logs.ensures.quiet (λ spot is. not_err c.in_ok-logs.logs (Device spot) is)

-- ---- the nodes are made

pub make_nodes-requires-clause-takes : goal.make_nodes-requires-clause-takes
make_nodes-requires-clause-takes g c = c.requires.kinds

pub make_nodes-requires-clause-judged : goal.make_nodes-requires-clause-judged
make_nodes-requires-clause-judged g c = ((g.H.Home.seen c.args.home.now).file, c.args.resume, c.in_ok-pasts.ensures.judged (g.H.Home.seen c.args.home.now).file c.args.resume c.in_ok-logs.ensures.attached)

pub make_nodes-requires-clause-kept_members : goal.make_nodes-requires-clause-kept_members
make_nodes-requires-clause-kept_members g c = c.in_ok-logs.ensures.kept_members

pub make_nodes-requires-clause-kept_coords : goal.make_nodes-requires-clause-kept_coords
make_nodes-requires-clause-kept_coords g c = c.in_ok-logs.ensures.kept_coords

pub make_nodes-requires-clause-used : goal.make_nodes-requires-clause-used
make_nodes-requires-clause-used g c =
    c.in_ok-used.ensures.used
    ∙ ap (λ (pasts : List MemberPast). keys (with_coords (with_members no_entries pasts) c.as_slice-2.result.now)) c.as_slice.ensures.value
    ∙ ap (λ (pasts : List CoordPast). keys (with_coords (with_members no_entries c.in_ok-pasts.pasts.members.items) pasts)) c.as_slice-2.ensures.value

pub make_nodes-requires-clause-few : goal.make_nodes-requires-clause-few
make_nodes-requires-clause-few g c = c.in_ok-used.ensures.few

pub returns-clause-opened : goal.returns-clause-opened
returns-clause-opened g c = c.make_nodes.ensures.opened (g.H.Home.seen c.args.home.now).file c.args.resume (c.in_ok-pasts.ensures.judged (g.H.Home.seen c.args.home.now).file c.args.resume c.in_ok-logs.ensures.attached)

pub returns-clause-kept : goal.returns-clause-kept
returns-clause-kept g c = c.make_nodes.ensures.kept

pub returns-clause-refused : goal.returns-clause-refused
returns-clause-refused g c = of_error IsOfMaking (IsUnopened (g.H.Home.seen c.args.home.now).file c.args.head.now c.args.resume) c.make_nodes.result (making_unopened (g.H.Home.seen c.args.home.now).file c.args.head.now c.args.resume) c.make_nodes.ensures.fault

pub returns-clause-untouched : goal.returns-clause-untouched
returns-clause-untouched g c =
    of_error IsOfMaking (λ fault. IsOfFound fault → (s : Spot) → (g.H.Home.seen c.make_nodes.new.home).file s ≡ (g.H.Home.seen c.args.home.now).file s) c.make_nodes.result
    (λ fault is found. absurd (making_unfound fault is found)) c.make_nodes.ensures.fault

pub returns-clause-opens : goal.returns-clause-opens
returns-clause-opens g c =
    opens_on (length c.args.head.now.kinds) c.args.head.now.coords (g.H.Home.seen c.args.home.now) (g.H.Home.seen c.attach_all.new.home) (g.H.Home.seen c.make_nodes.new.home)
    (opens_read (length c.args.head.now.kinds) c.args.head.now.coords (g.H.Home.seen c.args.home.now) (g.H.Home.seen c.attach_all.new.home) c.attach_all.ensures.reads) c.make_nodes.ensures.opens

pub returns-clause-device : goal.returns-clause-device
returns-clause-device g c = λ spot is.
    fails_later (g.H.Home.seen c.args.home.now) (g.H.Home.seen c.attach_all.new.home) (g.H.Home.seen c.make_nodes.new.home) spot c.attach_all.ensures.reads.count (c.make_nodes.ensures.device spot is)

pub returns-clause-quiet : goal.returns-clause-quiet
returns-clause-quiet g c = λ quiet. c.make_nodes.ensures.quiet quiet ∙ c.in_ok-logs.ensures.quiet (λ spot is. not_err c.in_ok-logs.logs (Device spot) is)
