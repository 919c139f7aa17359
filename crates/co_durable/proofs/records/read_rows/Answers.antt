use Rattle.std.proofs.Common.{◌≡◌, ◌≤◌, List, length, sym, ap, subst, ◌∙◌}
use Rattle.std.specs.List.{AllByRecursion}
use Rattle.co_base.specs.declared.node.Node.TheVariants.{Member}
use Rattle.co_base.specs.Limits.{most_members}
use Rattle.co_log.specs.LogView.{LogView}
use Rattle.co_recover.specs.declared.past.MemberPast.{MemberPast}
use Rattle.co_plain.specs.MemberView.{Numbers}
use Rattle.co_durable.specs.Durable.{IsUndurable}
use Rattle.co_durable.specs.Laying.{durable_of_pasts}
use Rattle.co_durable.specs.Nodes.{member_nodes, coord_nodes}
use Rattle.co_durable.specs.Pairs.{EachPair}
use Rattle.co_durable.specs.Reading.{IsLogOf}
use Rattle.co_durable.specs.Recovering.{IsReadable, IsPastOf, IsSeenIn, IsFirstToFall, member_refuses, coord_refuses}
use Rattle.co_durable.proofs.Durables.{unread_member, unread_coord, fallen_member, fallen_coord, durable}
use Rattle.co_durable.proofs.Numbered.{so_many}
use Rattle.co_durable.proofs.Opened.{readable}
use Rattle.co_durable.proofs.Pairs.{pairs_length}
use Rattle.co_durable.proofs.Readings.{handed_on, logs_moved, unread_moved}
use Rattle.co_durable.proofs.records.read_rows.Goals as goal

pub returns-in_err-member_logs-clause-undurable : goal.returns-in_err-member_logs-clause-undurable
returns-in_err-member_logs-clause-undurable g c =
    let file = (g.H.Home.seen c.args.home.now).file in
    let undurable : IsUndurable file c.args.members c.args.coords c.in_err-member_logs.field-0.0 =
    unread_member file c.args.members c.args.coords c.in_err-member_logs.field-0.0 c.in_err-member_logs.ensures.unread in
    handed_on _ (IsUndurable file c.args.members c.args.coords) c.from_residual.result (λ e is. subst (IsUndurable file c.args.members c.args.coords) (sym is) undurable) c.from_residual.ensures.1

pub returns-in_err-coord_logs-clause-undurable : goal.returns-in_err-coord_logs-clause-undurable
returns-in_err-coord_logs-clause-undurable g c =
    let file = (g.H.Home.seen c.args.home.now).file in
    let undurable : IsUndurable file c.args.members c.args.coords c.in_err-coord_logs.field-0.0 =
    unread_coord file c.args.members c.args.coords c.in_ok-member_logs.member_logs.items c.in_err-coord_logs.field-0.0 c.in_ok-member_logs.ensures.read
    (unread_moved (g.H.Home.seen c.read_members.new.home).file file (coord_nodes c.args.coords) c.in_err-coord_logs.field-0.0 c.read_members.ensures.reads.files c.in_err-coord_logs.ensures.unread) in
    handed_on _ (IsUndurable file c.args.members c.args.coords) c.from_residual-in_err-coord_logs.result (λ e is. subst (IsUndurable file c.args.members c.args.coords) (sym is) undurable) c.from_residual-in_err-coord_logs.ensures.1

pub recover_members-requires : goal.recover_members-requires
recover_members-requires g c =
    subst (AllByRecursion IsReadable) (sym c.as_slice.ensures.value) (readable (g.H.Home.seen c.args.home.now).file (member_nodes c.args.members) c.in_ok-member_logs.member_logs.items c.in_ok-member_logs.ensures.read)

pub returns-in_err-pasts-clause-undurable : goal.returns-in_err-pasts-clause-undurable
returns-in_err-pasts-clause-undurable g c =
    let file = (g.H.Home.seen c.args.home.now).file in
    let undurable : IsUndurable file c.args.members c.args.coords c.in_err-pasts.field-0.0 =
    fallen_member file c.args.members c.args.coords c.in_ok-member_logs.member_logs.items c.in_ok-coord_logs.coord_logs.items c.in_err-pasts.field-0.0 c.in_ok-member_logs.ensures.read
    (logs_moved (g.H.Home.seen c.read_members.new.home).file file (coord_nodes c.args.coords) c.in_ok-coord_logs.coord_logs.items c.read_members.ensures.reads.files c.in_ok-coord_logs.ensures.read)
    (subst (λ (logs : List LogView). IsFirstToFall (member_refuses c.args.coords) logs c.in_err-pasts.field-0.0) c.as_slice.ensures.value c.in_err-pasts.ensures.refused) in
    handed_on _ (IsUndurable file c.args.members c.args.coords) c.from_residual-in_err-pasts.result (λ e is. subst (IsUndurable file c.args.members c.args.coords) (sym is) undurable) c.from_residual-in_err-pasts.ensures.1

pub recover_coords-requires : goal.recover_coords-requires
recover_coords-requires g c =
    subst (AllByRecursion IsReadable) (sym c.as_slice-2.ensures.value) (readable (g.H.Home.seen c.read_members.new.home).file (coord_nodes c.args.coords) c.in_ok-coord_logs.coord_logs.items c.in_ok-coord_logs.ensures.read)

pub returns-in_err-seen-clause-undurable : goal.returns-in_err-seen-clause-undurable
returns-in_err-seen-clause-undurable g c =
    let file = (g.H.Home.seen c.args.home.now).file in
    let undurable : IsUndurable file c.args.members c.args.coords c.in_err-seen.field-0.0 =
    fallen_coord file c.args.members c.args.coords c.in_ok-member_logs.member_logs.items c.in_ok-coord_logs.coord_logs.items c.in_ok-pasts.pasts.items c.in_err-seen.field-0.0 c.in_ok-member_logs.ensures.read
    (logs_moved (g.H.Home.seen c.read_members.new.home).file file (coord_nodes c.args.coords) c.in_ok-coord_logs.coord_logs.items c.read_members.ensures.reads.files c.in_ok-coord_logs.ensures.read)
    (subst (λ (logs : List LogView). EachPair (IsPastOf c.args.coords) logs c.in_ok-pasts.pasts.items) c.as_slice.ensures.value c.in_ok-pasts.ensures.pasts)
    (subst (λ (logs : List LogView). IsFirstToFall (coord_refuses c.args.members) logs c.in_err-seen.field-0.0) c.as_slice-2.ensures.value c.in_err-seen.ensures.refused) in
    handed_on _ (IsUndurable file c.args.members c.args.coords) c.from_residual-in_err-seen.result (λ e is. subst (IsUndurable file c.args.members c.args.coords) (sym is) undurable) c.from_residual-in_err-seen.ensures.1

pub durable_rows-requires : goal.durable_rows-requires
durable_rows-requires g c =
    let many : length c.in_ok-pasts.pasts.items ≡ c.args.members =
    pairs_length (IsPastOf c.args.coords) c.as_slice.result.now c.in_ok-pasts.pasts.items c.in_ok-pasts.ensures.pasts ∙ ap (λ (logs : List LogView). length logs) c.as_slice.ensures.value
    ∙ pairs_length (IsLogOf (g.H.Home.seen c.args.home.now).file) (member_nodes c.args.members) c.in_ok-member_logs.member_logs.items c.in_ok-member_logs.ensures.read ∙ so_many Member c.args.members in
    subst (λ (pasts : List MemberPast). length pasts ≤ most_members) (sym c.as_slice-3.ensures.value) (subst (λ n. n ≤ most_members) (sym many) c.requires.members)

pub returns-clause-durable : goal.returns-clause-durable
returns-clause-durable g c =
    let file = (g.H.Home.seen c.args.home.now).file in
    durable file c.args.members c.args.coords c.in_ok-member_logs.member_logs.items c.in_ok-coord_logs.coord_logs.items c.in_ok-pasts.pasts.items c.in_ok-seen.seen.items c.in_ok-durable_rows.field-0
    c.in_ok-member_logs.ensures.read
    (logs_moved (g.H.Home.seen c.read_members.new.home).file file (coord_nodes c.args.coords) c.in_ok-coord_logs.coord_logs.items c.read_members.ensures.reads.files c.in_ok-coord_logs.ensures.read)
    (subst (λ (logs : List LogView). EachPair (IsPastOf c.args.coords) logs c.in_ok-pasts.pasts.items) c.as_slice.ensures.value c.in_ok-pasts.ensures.pasts)
    (subst (λ (logs : List LogView). EachPair (IsSeenIn c.args.members) logs c.in_ok-seen.seen.items) c.as_slice-2.ensures.value c.in_ok-seen.ensures.seen)
    (c.in_ok-durable_rows.ensures ∙ ap (λ (pasts : List MemberPast). durable_of_pasts c.as_slice-4.result.now pasts) c.as_slice-3.ensures.value ∙ ap (λ (seen : List Numbers). durable_of_pasts seen c.in_ok-pasts.pasts.items) c.as_slice-4.ensures.value)
