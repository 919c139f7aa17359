use Rattle.std.proofs.Common.{List, length, sym, subst}
use Rattle.std.specs.List.{AllByRecursion}
use Rattle.co_log.specs.LogView.{LogView}
use Rattle.co_durable.specs.Nodes.{member_nodes, coord_nodes}
use Rattle.co_durable.proofs.Readings.{handed_on}
use Rattle.co_opening.specs.Opened.{IsUnopened}
use Rattle.co_opening.specs.Versions.{IsVersioned, IsLatest, IsFirstOldLog}
use Rattle.co_opening.proofs.Judged.{judged}
use Rattle.co_opening.specs.Judged.{IsOfJudging}
use Rattle.co_opening.proofs.Judgings.{told_judged, old_judged, are_versioned, member_old, coord_old}
use Rattle.co_opening.proofs.judging.judge.Goals as goal

pub returns-in_err-pasts-clause-refused : goal.returns-in_err-pasts-clause-refused
returns-in_err-pasts-clause-refused c = λ file resume att.
    handed_on _ (IsUnopened file c.args.head.now resume) c.from_residual.result (λ e is. subst (IsUnopened file c.args.head.now resume) (sym is) (c.in_err-pasts.ensures.refused file resume att)) c.from_residual.ensures.1

pub refuse_old-requires : goal.refuse_old-requires
refuse_old-requires c =
    let r = c.requires in
    subst (AllByRecursion IsVersioned) (sym c.as_slice.ensures.value) (are_versioned r.0 r.1 (member_nodes (length c.args.head.now.kinds)) c.args.logs.now.members.items r.2.member)

pub returns-in_err-refuse_old-clause-refused : goal.returns-in_err-refuse_old-clause-refused
returns-in_err-refuse_old-clause-refused c = λ file resume att.
    let fault = c.in_err-refuse_old.field-0.0 in
    let un : IsUnopened file c.args.head.now resume c.in_err-refuse_old.field-0.0 =
    member_old file resume c.args.head.now c.args.logs.now.members.items c.args.logs.now.coords.items att c.in_ok-pasts.pasts.members.items c.in_ok-pasts.pasts.coords.items fault
    c.in_ok-pasts.ensures.members c.in_ok-pasts.ensures.coords
    (subst (λ (logs : List LogView). IsFirstOldLog logs c.in_err-refuse_old.field-0.0) c.as_slice.ensures.value c.in_err-refuse_old.ensures.old) in
    handed_on _ (IsUnopened file c.args.head.now resume) c.from_residual-in_err-refuse_old.result (λ e is. subst (IsUnopened file c.args.head.now resume) (sym is) un) c.from_residual-in_err-refuse_old.ensures.1

pub refuse_old-requires-2 : goal.refuse_old-requires-2
refuse_old-requires-2 c =
    let r = c.requires in
    subst (AllByRecursion IsVersioned) (sym c.as_slice-2.ensures.value) (are_versioned r.0 r.1 (coord_nodes c.args.head.now.coords) c.args.logs.now.coords.items r.2.coord)

pub returns-in_err-refuse_old-2-clause-refused : goal.returns-in_err-refuse_old-2-clause-refused
returns-in_err-refuse_old-2-clause-refused c = λ file resume att.
    let fault = c.in_err-refuse_old-2.field-0.0 in
    let un : IsUnopened file c.args.head.now resume c.in_err-refuse_old-2.field-0.0 =
    coord_old file resume c.args.head.now c.args.logs.now.members.items c.args.logs.now.coords.items att c.in_ok-pasts.pasts.members.items c.in_ok-pasts.pasts.coords.items fault
    c.in_ok-pasts.ensures.members c.in_ok-pasts.ensures.coords
    (subst (AllByRecursion IsLatest) c.as_slice.ensures.value c.in_ok-refuse_old.ensures.latest)
    (subst (λ (logs : List LogView). IsFirstOldLog logs c.in_err-refuse_old-2.field-0.0) c.as_slice-2.ensures.value c.in_err-refuse_old-2.ensures.old) in
    handed_on _ (IsUnopened file c.args.head.now resume) c.from_residual-in_err-refuse_old-2.result (λ e is. subst (IsUnopened file c.args.head.now resume) (sym is) un) c.from_residual-in_err-refuse_old-2.ensures.1

pub returns-clause-judged : goal.returns-clause-judged
returns-clause-judged c = λ file resume att.
    judged file resume c.args.head.now c.args.logs.now.members.items c.args.logs.now.coords.items att c.in_ok-pasts.pasts.members.items c.in_ok-pasts.pasts.coords.items
    c.in_ok-pasts.ensures.members c.in_ok-pasts.ensures.coords
    (subst (AllByRecursion IsLatest) c.as_slice.ensures.value c.in_ok-refuse_old.ensures.latest)
    (subst (AllByRecursion IsLatest) c.as_slice-2.ensures.value c.in_ok-refuse_old-2.ensures.latest)

pub returns-in_err-pasts-clause-faults : goal.returns-in_err-pasts-clause-faults
returns-in_err-pasts-clause-faults c =
    handed_on _ IsOfJudging c.from_residual.result (λ e is. subst IsOfJudging (sym is) (told_judged c.in_err-pasts.field-0.0 c.in_err-pasts.ensures.faults)) c.from_residual.ensures.1

pub returns-in_err-refuse_old-clause-faults : goal.returns-in_err-refuse_old-clause-faults
returns-in_err-refuse_old-clause-faults c =
    let own : IsOfJudging c.in_err-refuse_old.field-0.0 = old_judged c.as_slice.result.now c.in_err-refuse_old.field-0.0 c.in_err-refuse_old.ensures.old in
    handed_on _ IsOfJudging c.from_residual-in_err-refuse_old.result (λ e is. subst IsOfJudging (sym is) own) c.from_residual-in_err-refuse_old.ensures.1

pub returns-in_err-refuse_old-2-clause-faults : goal.returns-in_err-refuse_old-2-clause-faults
returns-in_err-refuse_old-2-clause-faults c =
    let own : IsOfJudging c.in_err-refuse_old-2.field-0.0 = old_judged c.as_slice-2.result.now c.in_err-refuse_old-2.field-0.0 c.in_err-refuse_old-2.ensures.old in
    handed_on _ IsOfJudging c.from_residual-in_err-refuse_old-2.result (λ e is. subst IsOfJudging (sym is) own) c.from_residual-in_err-refuse_old-2.ensures.1
