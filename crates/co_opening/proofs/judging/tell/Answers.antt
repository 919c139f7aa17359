use Rattle.std.proofs.Common.{ℕ, List, length, sym, subst}
use Rattle.std.specs.List.{AllByRecursion}
use Rattle.co_log.specs.LogView.{LogView}
use Rattle.co_durable.specs.Nodes.{member_nodes, coord_nodes}
use Rattle.co_durable.specs.Pairs.{EachPair}
use Rattle.co_durable.specs.Recovering.{IsReadable, IsPastOf, IsFirstToFall, member_refuses, coord_refuses}
use Rattle.co_durable.proofs.Readings.{handed_on}
use Rattle.co_opening.specs.Judged.{IsOfTelling}
use Rattle.co_opening.specs.Opened.{IsUnopened}
use Rattle.co_opening.specs.Standing.{IsCoordPastOf}
use Rattle.co_opening.proofs.Judgings.{fallen_told, are_readable, member_fallen, coord_fallen}
use Rattle.co_opening.proofs.judging.tell.Goals as goal

pub member_pasts-requires : goal.member_pasts-requires
member_pasts-requires c =
    let r = c.requires in
    subst (AllByRecursion IsReadable) (sym c.as_slice.ensures.value) (are_readable r.0 r.1 (member_nodes (length c.args.head.now.kinds)) c.args.logs.now.members.items r.2.member)

pub returns-in_err-members-clause-refused : goal.returns-in_err-members-clause-refused
returns-in_err-members-clause-refused c = λ file resume att.
    let fault = c.in_err-members.field-0.0 in
    let un : IsUnopened file c.args.head.now resume c.in_err-members.field-0.0 =
    member_fallen file resume c.args.head.now c.args.logs.now.members.items c.args.logs.now.coords.items att fault (subst (λ (logs : List LogView). IsFirstToFall (member_refuses c.args.head.now.coords) logs c.in_err-members.field-0.0) c.as_slice.ensures.value c.in_err-members.ensures.refused) in
    handed_on _ (IsUnopened file c.args.head.now resume) c.from_residual.result (λ e is. subst (IsUnopened file c.args.head.now resume) (sym is) un) c.from_residual.ensures.1

pub coord_pasts-requires : goal.coord_pasts-requires
coord_pasts-requires c =
    let r = c.requires in
    subst (AllByRecursion IsReadable) (sym c.as_slice-2.ensures.value) (are_readable r.0 r.1 (coord_nodes c.args.head.now.coords) c.args.logs.now.coords.items r.2.coord)

pub returns-in_err-coords-clause-refused : goal.returns-in_err-coords-clause-refused
returns-in_err-coords-clause-refused c = λ file resume att.
    let fault = c.in_err-coords.field-0.0 in
    let un : IsUnopened file c.args.head.now resume c.in_err-coords.field-0.0 =
    coord_fallen file resume c.args.head.now c.args.logs.now.members.items c.args.logs.now.coords.items att c.in_ok-members.members.items fault
    (subst (λ (logs : List LogView). EachPair (IsPastOf c.args.head.now.coords) logs c.in_ok-members.members.items) c.as_slice.ensures.value c.in_ok-members.ensures.pasts)
    (subst (λ (n : ℕ). IsFirstToFall (coord_refuses n) c.args.logs.now.coords.items c.in_err-coords.field-0.0) c.len-count.ensures
    (subst (λ (logs : List LogView). IsFirstToFall (coord_refuses c.len-count.result) logs c.in_err-coords.field-0.0) c.as_slice-2.ensures.value c.in_err-coords.ensures.refused)) in
    handed_on _ (IsUnopened file c.args.head.now resume) c.from_residual-in_err-coords.result (λ e is. subst (IsUnopened file c.args.head.now resume) (sym is) un) c.from_residual-in_err-coords.ensures.1

pub returns-in_err-members-clause-faults : goal.returns-in_err-members-clause-faults
returns-in_err-members-clause-faults c =
    let own : IsOfTelling c.in_err-members.field-0.0 = fallen_told (member_refuses c.args.head.now.coords) c.as_slice.result.now c.in_err-members.field-0.0 c.in_err-members.ensures.refused in
    handed_on _ IsOfTelling c.from_residual.result (λ e is. subst IsOfTelling (sym is) own) c.from_residual.ensures.1

pub returns-in_err-coords-clause-faults : goal.returns-in_err-coords-clause-faults
returns-in_err-coords-clause-faults c =
    let own : IsOfTelling c.in_err-coords.field-0.0 = fallen_told (coord_refuses c.len-count.result) c.as_slice-2.result.now c.in_err-coords.field-0.0 c.in_err-coords.ensures.refused in
    handed_on _ IsOfTelling c.from_residual-in_err-coords.result (λ e is. subst IsOfTelling (sym is) own) c.from_residual-in_err-coords.ensures.1

pub returns-clause-members : goal.returns-clause-members
returns-clause-members c = subst (λ (logs : List LogView). EachPair (IsPastOf c.args.head.now.coords) logs c.in_ok-members.members.items) c.as_slice.ensures.value c.in_ok-members.ensures.pasts

pub returns-clause-coords : goal.returns-clause-coords
returns-clause-coords c =
    subst (λ (n : ℕ). EachPair (IsCoordPastOf n) c.args.logs.now.coords.items c.in_ok-coords.coords.items) c.len-count.ensures
    (subst (λ (logs : List LogView). EachPair (IsCoordPastOf c.len-count.result) logs c.in_ok-coords.coords.items) c.as_slice-2.ensures.value c.in_ok-coords.ensures.pasts)
