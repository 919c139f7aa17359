use Rattle.std.proofs.Common.{◌≡◌, suc, ◌+◌, ◌≤◌, List, ◌++◌, append-nil, length, refl, sym, ap, subst, ◌∙◌, arith}
use Rattle.co_base.specs.declared.head.Kind.TheVariants.{Lock}
use Rattle.co_base.specs.declared.node.Node.TheVariants.{Member, Coord}
use Rattle.co_log.specs.LogView.{LogView}
use Rattle.co_plain.specs.Opening.{header_mark, opened_member, member_headers}
use Rattle.co_opening.specs.Judged.{IsOfMaking}
use Rattle.co_opening.specs.Kept.{AreOwnLogs}
use Rattle.co_opening.specs.Nodes.{IsMemberAt}
use Rattle.co_recover.specs.declared.past.MemberPast.{MemberPast}
use Rattle.co_opening.specs.Running.{AreMembersAt, AreOwnMembers}
use Rattle.co_opening.specs.Standing.{IsMemberFound, AreMembersFound}
use Rattle.co_opening.specs.declared.sort.Sort.TheVariants.{Members}
use Rattle.co_durable.specs.declared.fault.WorldFault.TheVariants.{Device, Memory}
use Rattle.co_durable.proofs.Readings.{fails_later}
use Rattle.co_opening.proofs.From.{one_longer, all_get, both_next, both_left}
use Rattle.co_opening.proofs.Handed.{handed, handed_back, handed_in, no_value, not_err, no_device}
use Rattle.co_opening.proofs.Made.{kind_at}
use Rattle.co_opening.proofs.Sorts.{number_valid, sorts_apart}
use Rattle.co_opening.proofs.Rests.{opens_none, member_opened}
use Rattle.co_opening.proofs.Stays.{stays_still}
use Rattle.co_opening.proofs.Turns.{leaves, left_first, one_less, all_done, place_below, both_on, all_on, marks_on, to_keep_on, kept_on}
use Rattle.co_opening.proofs.members.open_members.Goals as goal

pub loop-log-init : goal.loop-log-init
loop-log-init g c =
    let home = g.H.Home.seen c.args.home.now in
    let none = c.new-members.ensures.items in
    let logs = c.into_iter-log-iterator.ensures.into_iter_gives.0 in
    let pasts = c.into_iter-pasts.ensures.rest in
    record {
      done = ap length none;
      left = left_first (length c.args.kinds.now) c.args.logs.items c.into_iter-log-iterator.result.rest.items logs c.requires.many;
      found = λ found f.
          subst (λ (ps : List MemberPast). AreMembersFound c.args.coords found 0 c.into_iter-log-iterator.result.rest.items ps) (sym pasts)
          (subst (λ (ls : List LogView). AreMembersFound c.args.coords found 0 ls c.args.pasts.items) (sym logs) f);
      opened = λ found f. subst (AreMembersAt g.E.Engine.takes g.E.Engine.stands_for c.args.kinds.now c.args.coords found) (sym none) tt;
      marked = λ found f. sym (append-nil c.args.marks.now);
      to_keep = subst (AreOwnLogs home Member 0) (sym logs) c.requires.kept;
      kept = subst (AreOwnMembers home) (sym none) tt;
      clean = λ s was. was;
      others = λ k own. stays_still (Coord k) home;
      opens = opens_none _ _ home;
      quiet = refl;
    }

pub unreachable-requires : goal.unreachable-requires
unreachable-requires g c =
    let w = c.requires.found in
    both_left (λ q l t. IsMemberFound c.args.coords (suc q) l t (w.0 (suc q))) c.loop-log.place c.loop-log.log-iterator.rest.items c.next.new.self.rest.items c.in-Some.log c.loop-log.pasts.rest.items c.in-Some.ensures.steps.0
    (sym c.in_default.ensures.cases.0 ∙ c.loop-log.pasts.rest.ok.0) (c.loop-log.invariant.found w.0 w.1)

pub open_member-requires-clause-few : goal.open_member-requires-clause-few
open_member-requires-clause-few g c =
    omega (arith, place_below c.loop-log.place (length c.args.kinds.now) 16 c.loop-log.log-iterator.rest.items c.next.new.self.rest.items c.in-Some.log c.in-Some.ensures.steps.0 c.loop-log.invariant.left c.requires.few)

pub bounds-kinds-from : goal.bounds-kinds-from
bounds-kinds-from g c =
    let below : suc c.loop-log.place ≤ length c.args.kinds.now = place_below c.loop-log.place (length c.args.kinds.now) (length c.args.kinds.now) c.loop-log.log-iterator.rest.items c.next.new.self.rest.items c.in-Some.log c.in-Some.ensures.steps.0 c.loop-log.invariant.left (omega arith) in
    omega (arith, c.from.ensures, below)

pub open_member-requires-clause-takes : goal.open_member-requires-clause-takes
open_member-requires-clause-takes g c =
    let below : suc c.loop-log.place ≤ length c.args.kinds.now = place_below c.loop-log.place (length c.args.kinds.now) (length c.args.kinds.now) c.loop-log.log-iterator.rest.items c.next.new.self.rest.items c.in-Some.log c.in-Some.ensures.steps.0 c.loop-log.invariant.left (omega arith) in
    all_get g.E.Engine.takes c.args.kinds.now c.from.result Lock c.requires.takes (omega (arith, c.from.ensures, below))

pub open_member-requires-clause-found : goal.open_member-requires-clause-found
open_member-requires-clause-found g c =
    let w = c.requires.found in
    (w.0 (suc c.loop-log.place), (both_next (λ q l t. IsMemberFound c.args.coords (suc q) l t (w.0 (suc q))) c.loop-log.place c.loop-log.log-iterator.rest.items c.next.new.self.rest.items c.loop-log.pasts.rest.items c.next-in-loop-log.new.self.rest.items c.in-Some.log c.in-Some-next.past c.in-Some.ensures.steps.0 c.in-Some-next.ensures.items (c.loop-log.invariant.found w.0 w.1)).0)

pub returns-in_err-member-clause-device : goal.returns-in_err-member-clause-device
returns-in_err-member-clause-device g c = λ spot is.
    fails_later (g.H.Home.seen c.args.home.now) (g.H.Home.seen c.loop-log.home) (g.H.Home.seen c.open_member.new.home) spot (omega (arith, c.loop-log.invariant.quiet))
    (c.in_err-member.ensures.device spot (handed_back c.from_residual.result c.in_err-member.field-0.0 (Device spot) c.from_residual.ensures.1 is))

pub returns-in_err-member-clause-quiet : goal.returns-in_err-member-clause-quiet
returns-in_err-member-clause-quiet g c = λ quiet.
    c.in_err-member.ensures.quiet (λ spot is. quiet spot (handed c.from_residual.result c.in_err-member.field-0.0 (Device spot) c.from_residual.ensures.1 is)) ∙ c.loop-log.invariant.quiet

pub returns-in_err-member-clause-others : goal.returns-in_err-member-clause-others
returns-in_err-member-clause-others g c = λ k own.
    leaves (Member (suc c.loop-log.place)) (Coord k) (g.H.Home.seen c.args.home.now) (g.H.Home.seen c.loop-log.home) (g.H.Home.seen c.open_member.new.home)
    (number_valid Members c.loop-log.place (place_below c.loop-log.place (length c.args.kinds.now) 16 c.loop-log.log-iterator.rest.items c.next.new.self.rest.items c.in-Some.log c.in-Some.ensures.steps.0 c.loop-log.invariant.left c.requires.few)) own (λ e. sorts_apart k (suc c.loop-log.place) e) (c.loop-log.invariant.others k own) c.open_member.ensures.rest.stay.others

pub returns-in_err-push-clause-others : goal.returns-in_err-push-clause-others
returns-in_err-push-clause-others g c = λ k own.
    leaves (Member (suc c.loop-log.place)) (Coord k) (g.H.Home.seen c.args.home.now) (g.H.Home.seen c.loop-log.home) (g.H.Home.seen c.open_member.new.home)
    (number_valid Members c.loop-log.place (place_below c.loop-log.place (length c.args.kinds.now) 16 c.loop-log.log-iterator.rest.items c.next.new.self.rest.items c.in-Some.log c.in-Some.ensures.steps.0 c.loop-log.invariant.left c.requires.few)) own (λ e. sorts_apart k (suc c.loop-log.place) e) (c.loop-log.invariant.others k own) c.open_member.ensures.rest.stay.others

pub loop-log-preserved : goal.loop-log-preserved
loop-log-preserved g c =
    let i = c.loop-log.invariant in
    let few = (place_below c.loop-log.place (length c.args.kinds.now) 16 c.loop-log.log-iterator.rest.items c.next.new.self.rest.items c.in-Some.log c.in-Some.ensures.steps.0 c.loop-log.invariant.left c.requires.few) in
    record {
      done = one_longer c.loop-log.place c.loop-log.members.items c.push.new.self.items c.in_ok-member.member c.in_ok-push.ensures.items i.done;
      left = one_less c.loop-log.place (length c.args.kinds.now) c.loop-log.log-iterator.rest.items c.next.new.self.rest.items c.in-Some.log c.in-Some.ensures.steps.0 c.loop-log.invariant.left;
      found = λ found f. both_on (λ q l t. IsMemberFound c.args.coords (suc q) l t (found (suc q))) c.loop-log.place c.loop-log.log-iterator.rest.items c.next.new.self.rest.items c.loop-log.pasts.rest.items c.next-in-loop-log.new.self.rest.items c.in-Some.log c.in-Some-next.past c.in-Some.ensures.steps.0 c.in-Some-next.ensures.items (c.loop-log.invariant.found found f);
      opened = λ found f.
          all_on (λ q x. IsMemberAt g.E.Engine.takes g.E.Engine.stands_for c.args.coords q x (opened_member c.args.kinds.now (suc q) (found (suc q)))) c.loop-log.place c.loop-log.members.items c.push.new.self.items c.in_ok-member.member c.in_ok-push.ensures.items c.loop-log.invariant.done (c.loop-log.invariant.opened found f)
          (c.in_ok-member.ensures.opened c.args.kinds.now (found (suc c.loop-log.place)) (kind_at c.args.kinds.now c.loop-log.place _ _ c.from.ensures (omega (arith, few, c.requires.few, i.left, ap length c.in-Some.ensures.steps.0))) (both_next (λ q l t. IsMemberFound c.args.coords (suc q) l t (found (suc q))) c.loop-log.place c.loop-log.log-iterator.rest.items c.next.new.self.rest.items c.loop-log.pasts.rest.items c.next-in-loop-log.new.self.rest.items c.in-Some.log c.in-Some-next.past c.in-Some.ensures.steps.0 c.in-Some-next.ensures.items (c.loop-log.invariant.found found f)).0);
      marked = λ found f.
          marks_on (λ n. member_headers n found) (header_mark (Member (suc c.loop-log.place)) (found (suc c.loop-log.place)).records) c.args.marks.now c.loop-log.marks c.open_member.new.marks c.loop-log.place refl
          (c.in_ok-member.ensures.marks (found (suc c.loop-log.place)) (both_next (λ q l t. IsMemberFound c.args.coords (suc q) l t (found (suc q))) c.loop-log.place c.loop-log.log-iterator.rest.items c.next.new.self.rest.items c.loop-log.pasts.rest.items c.next-in-loop-log.new.self.rest.items c.in-Some.log c.in-Some-next.past c.in-Some.ensures.steps.0 c.in-Some-next.ensures.items (c.loop-log.invariant.found found f)).0) (c.loop-log.invariant.marked found f);
      to_keep = to_keep_on Members c.loop-log.place few (g.H.Home.seen c.loop-log.home) (g.H.Home.seen c.open_member.new.home) c.open_member.ensures.rest.stay.others c.loop-log.log-iterator.rest.items c.next.new.self.rest.items c.in-Some.log c.in-Some.ensures.steps.0
          (let many : c.loop-log.place + length c.loop-log.log-iterator.rest.items ≡ (length c.args.kinds.now) = c.loop-log.invariant.left in omega (arith, many, c.requires.few)) i.to_keep;
      kept = kept_on Members c.loop-log.place few (g.H.Home.seen c.loop-log.home) (g.H.Home.seen c.open_member.new.home) c.open_member.ensures.rest.stay.others (λ x. x.log) c.loop-log.members.items c.push.new.self.items c.in_ok-member.member c.in_ok-push.ensures.items
          c.loop-log.invariant.done i.kept c.in_ok-member.ensures.kept;
      clean = λ s was. c.in_ok-member.ensures.clean s (c.loop-log.invariant.clean s was);
      others = λ k own.
          leaves (Member (suc c.loop-log.place)) (Coord k) (g.H.Home.seen c.args.home.now) (g.H.Home.seen c.loop-log.home) (g.H.Home.seen c.open_member.new.home)
          (number_valid Members c.loop-log.place (place_below c.loop-log.place (length c.args.kinds.now) 16 c.loop-log.log-iterator.rest.items c.next.new.self.rest.items c.in-Some.log c.in-Some.ensures.steps.0 c.loop-log.invariant.left c.requires.few)) own (λ e. sorts_apart k (suc c.loop-log.place) e) (c.loop-log.invariant.others k own) c.open_member.ensures.rest.stay.others;
      opens = member_opened (length c.args.kinds.now) c.args.coords c.loop-log.place (g.H.Home.seen c.args.home.now) (g.H.Home.seen c.loop-log.home) (g.H.Home.seen c.open_member.new.home) (place_below c.loop-log.place (length c.args.kinds.now) (length c.args.kinds.now) c.loop-log.log-iterator.rest.items c.next.new.self.rest.items c.in-Some.log c.in-Some.ensures.steps.0 c.loop-log.invariant.left (omega arith)) (place_below c.loop-log.place (length c.args.kinds.now) 16 c.loop-log.log-iterator.rest.items c.next.new.self.rest.items c.in-Some.log c.in-Some.ensures.steps.0 c.loop-log.invariant.left c.requires.few) c.loop-log.invariant.opens c.open_member.ensures.rest;
      quiet = c.in_ok-member.ensures.quiet (λ spot is. not_err c.in_ok-member.member (Device spot) is) ∙ i.quiet;
    }

pub open_member-requires-clause-kept : goal.open_member-requires-clause-kept
open_member-requires-clause-kept g c =
    (subst (AreOwnLogs (g.H.Home.seen c.loop-log.home) Member c.loop-log.place) c.in-Some.ensures.steps.0 c.loop-log.invariant.to_keep).0

-- ---- a member is not opened

pub returns-in_err-member-clause-opened : goal.returns-in_err-member-clause-opened
returns-in_err-member-clause-opened g c = λ found f. no_value _ c.from_residual.result c.from_residual.ensures.0

pub returns-in_err-member-clause-many : goal.returns-in_err-member-clause-many
returns-in_err-member-clause-many g c = no_value _ c.from_residual.result c.from_residual.ensures.0

pub returns-in_err-member-clause-marks : goal.returns-in_err-member-clause-marks
returns-in_err-member-clause-marks g c = λ found f. no_value _ c.from_residual.result c.from_residual.ensures.0

pub returns-in_err-member-clause-kept : goal.returns-in_err-member-clause-kept
returns-in_err-member-clause-kept g c = no_value _ c.from_residual.result c.from_residual.ensures.0

pub returns-in_err-member-clause-clean : goal.returns-in_err-member-clause-clean
returns-in_err-member-clause-clean g c = no_value _ c.from_residual.result c.from_residual.ensures.0

pub returns-in_err-member-clause-opens : goal.returns-in_err-member-clause-opens
returns-in_err-member-clause-opens g c = member_opened (length c.args.kinds.now) c.args.coords c.loop-log.place (g.H.Home.seen c.args.home.now) (g.H.Home.seen c.loop-log.home) (g.H.Home.seen c.open_member.new.home) (place_below c.loop-log.place (length c.args.kinds.now) (length c.args.kinds.now) c.loop-log.log-iterator.rest.items c.next.new.self.rest.items c.in-Some.log c.in-Some.ensures.steps.0 c.loop-log.invariant.left (omega arith)) (place_below c.loop-log.place (length c.args.kinds.now) 16 c.loop-log.log-iterator.rest.items c.next.new.self.rest.items c.in-Some.log c.in-Some.ensures.steps.0 c.loop-log.invariant.left c.requires.few) c.loop-log.invariant.opens c.open_member.ensures.rest

pub returns-in_err-member-clause-fault : goal.returns-in_err-member-clause-fault
returns-in_err-member-clause-fault g c = handed_in IsOfMaking c.from_residual.result c.in_err-member.field-0.0 c.from_residual.ensures.1 c.in_err-member.ensures.fault

-- ---- there was no memory for it

pub returns-in_err-push-clause-opened : goal.returns-in_err-push-clause-opened
returns-in_err-push-clause-opened g c = λ found f. no_value _ c.from_residual-in_err-push.result c.from_residual-in_err-push.ensures.0

pub returns-in_err-push-clause-many : goal.returns-in_err-push-clause-many
returns-in_err-push-clause-many g c = no_value _ c.from_residual-in_err-push.result c.from_residual-in_err-push.ensures.0

pub returns-in_err-push-clause-marks : goal.returns-in_err-push-clause-marks
returns-in_err-push-clause-marks g c = λ found f. no_value _ c.from_residual-in_err-push.result c.from_residual-in_err-push.ensures.0

pub returns-in_err-push-clause-kept : goal.returns-in_err-push-clause-kept
returns-in_err-push-clause-kept g c = no_value _ c.from_residual-in_err-push.result c.from_residual-in_err-push.ensures.0

pub returns-in_err-push-clause-clean : goal.returns-in_err-push-clause-clean
returns-in_err-push-clause-clean g c = no_value _ c.from_residual-in_err-push.result c.from_residual-in_err-push.ensures.0

pub returns-in_err-push-clause-opens : goal.returns-in_err-push-clause-opens
returns-in_err-push-clause-opens g c = member_opened (length c.args.kinds.now) c.args.coords c.loop-log.place (g.H.Home.seen c.args.home.now) (g.H.Home.seen c.loop-log.home) (g.H.Home.seen c.open_member.new.home) (place_below c.loop-log.place (length c.args.kinds.now) (length c.args.kinds.now) c.loop-log.log-iterator.rest.items c.next.new.self.rest.items c.in-Some.log c.in-Some.ensures.steps.0 c.loop-log.invariant.left (omega arith)) (place_below c.loop-log.place (length c.args.kinds.now) 16 c.loop-log.log-iterator.rest.items c.next.new.self.rest.items c.in-Some.log c.in-Some.ensures.steps.0 c.loop-log.invariant.left c.requires.few) c.loop-log.invariant.opens c.open_member.ensures.rest

pub returns-in_err-push-clause-fault : goal.returns-in_err-push-clause-fault
returns-in_err-push-clause-fault g c = handed_in IsOfMaking c.from_residual-in_err-push.result Memory c.from_residual-in_err-push.ensures.1 tt

pub returns-in_err-push-clause-device : goal.returns-in_err-push-clause-device
returns-in_err-push-clause-device g c = λ spot is. absurd (no_device c.from_residual-in_err-push.result spot c.from_residual-in_err-push.ensures.1 is)

pub returns-in_err-push-clause-quiet : goal.returns-in_err-push-clause-quiet
returns-in_err-push-clause-quiet g c = λ quiet. c.in_ok-member.ensures.quiet (λ spot is. not_err c.in_ok-member.member (Device spot) is) ∙ c.loop-log.invariant.quiet

-- ---- all are opened

pub returns-clause-opened : goal.returns-clause-opened
returns-clause-opened g c = c.loop-log.invariant.opened

pub returns-clause-many : goal.returns-clause-many
returns-clause-many g c = c.loop-log.invariant.done ∙ all_done c.loop-log.place (length c.args.kinds.now) c.loop-log.log-iterator.rest.len c.loop-log.log-iterator.rest.items c.in-None.ensures.steps.0 c.loop-log.log-iterator.rest.ok.0 c.loop-log.invariant.left

pub returns-clause-marks : goal.returns-clause-marks
returns-clause-marks g c = λ found f.
    c.loop-log.invariant.marked found f ∙ ap (λ n. c.args.marks.now ++ member_headers n found) (all_done c.loop-log.place (length c.args.kinds.now) c.loop-log.log-iterator.rest.len c.loop-log.log-iterator.rest.items c.in-None.ensures.steps.0 c.loop-log.log-iterator.rest.ok.0 c.loop-log.invariant.left)

pub returns-clause-kept : goal.returns-clause-kept
returns-clause-kept g c = c.loop-log.invariant.kept

pub returns-clause-clean : goal.returns-clause-clean
returns-clause-clean g c = c.loop-log.invariant.clean

pub returns-clause-others : goal.returns-clause-others
returns-clause-others g c = c.loop-log.invariant.others

pub returns-clause-opens : goal.returns-clause-opens
returns-clause-opens g c = c.loop-log.invariant.opens

pub returns-clause-device : goal.returns-clause-device
returns-clause-device g c = λ spot is. absurd (not_err _ (Device spot) is)

pub returns-clause-quiet : goal.returns-clause-quiet
returns-clause-quiet g c = λ quiet. c.loop-log.invariant.quiet
