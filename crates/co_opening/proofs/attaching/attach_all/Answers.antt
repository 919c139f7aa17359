use Rattle.std.proofs.Common.{◌≡◌, ℕ, length, subst, ◌∙◌, arith}
use Rattle.std.specs.Prelude.{Option}
use Rattle.co_base.specs.declared.node.Node.TheVariants.{Member}
use Rattle.co_outside.specs.Home.{File}
use Rattle.co_outside.specs.declared.spot.Spot.{Spot}
use Rattle.co_durable.specs.declared.fault.WorldFault.TheVariants.{Device}
use Rattle.co_durable.specs.Nodes.{member_nodes, coord_nodes}
use Rattle.co_durable.specs.Pairs.{EachPair}
use Rattle.co_durable.proofs.Numbered.{so_many}
use Rattle.co_durable.proofs.Pairs.{pairs_length}
use Rattle.co_durable.proofs.Readings.{same_files, reads_on, fails_later}
use Rattle.co_opening.specs.Attached.{IsFirstUnattached, IsAttachedTo, IsOfAttaching}
use Rattle.co_opening.proofs.Attachings.{attaching}
use Rattle.co_opening.specs.Opened.{IsUnopened}
use Rattle.co_opening.proofs.Handed.{handed, handed_back, handed_in, no_value, not_err}
use Rattle.co_opening.proofs.Judgings.{member_unattached, coord_unattached}
use Rattle.co_opening.proofs.Sorts.{members_left}
use Rattle.co_opening.proofs.attaching.attach_all.Goals as goal

pub returns-in_err-members-clause-refused : goal.returns-in_err-members-clause-refused
returns-in_err-members-clause-refused g c =
    let file = (g.H.Home.seen c.args.home.now).file in
    let un : IsUnopened file c.args.head.now c.args.resume c.in_err-members.field-0.0 =
    member_unattached file c.args.resume c.args.head.now c.in_err-members.field-0.0
    (subst (λ (n : ℕ). IsFirstUnattached file c.args.resume (member_nodes n) c.in_err-members.field-0.0) c.len-count.ensures c.in_err-members.ensures.unattached) in
    handed_in (IsUnopened file c.args.head.now c.args.resume) c.from_residual.result c.in_err-members.field-0.0 c.from_residual.ensures.1 un

pub returns-in_err-coords-clause-refused : goal.returns-in_err-coords-clause-refused
returns-in_err-coords-clause-refused g c =
    let file = (g.H.Home.seen c.args.home.now).file in
    let un : IsUnopened file c.args.head.now c.args.resume c.in_err-coords.field-0.0 =
    coord_unattached file c.args.resume c.args.head.now c.in_ok-members.members.items c.in_err-coords.field-0.0
    (subst (λ (n : ℕ). EachPair (IsAttachedTo file c.args.resume) (member_nodes n) c.in_ok-members.members.items) c.len-count.ensures c.in_ok-members.ensures.attached)
    (subst (λ (f : Spot → Option File). IsFirstUnattached f c.args.resume (coord_nodes c.args.head.now.coords) c.in_err-coords.field-0.0)
    (same_files (g.H.Home.seen c.attach_sort.new.home).file file c.attach_sort.ensures.reads.files) c.in_err-coords.ensures.unattached) in
    handed_in (IsUnopened file c.args.head.now c.args.resume) c.from_residual-in_err-coords.result c.in_err-coords.field-0.0 c.from_residual-in_err-coords.ensures.1 un

pub returns-in_err-members-clause-faults : goal.returns-in_err-members-clause-faults
returns-in_err-members-clause-faults g c =
    handed_in IsOfAttaching c.from_residual.result c.in_err-members.field-0.0 c.from_residual.ensures.1
    (attaching (g.H.Home.seen c.args.home.now).file c.args.resume (member_nodes c.len-count.result) c.in_err-members.field-0.0 c.in_err-members.ensures.unattached)

pub returns-in_err-coords-clause-faults : goal.returns-in_err-coords-clause-faults
returns-in_err-coords-clause-faults g c =
    handed_in IsOfAttaching c.from_residual-in_err-coords.result c.in_err-coords.field-0.0 c.from_residual-in_err-coords.ensures.1
    (attaching (g.H.Home.seen c.attach_sort.new.home).file c.args.resume (coord_nodes c.args.head.now.coords) c.in_err-coords.field-0.0 c.in_err-coords.ensures.unattached)

pub returns-clause-kept_members : goal.returns-clause-kept_members
returns-clause-kept_members g c =
    let many : length c.in_ok-members.members.items ≡ c.len-count.result =
    pairs_length (IsAttachedTo (g.H.Home.seen c.args.home.now).file c.args.resume) (member_nodes c.len-count.result) c.in_ok-members.members.items c.in_ok-members.ensures.attached ∙ so_many Member c.len-count.result in
    members_left (g.H.Home.seen c.attach_sort.new.home) (g.H.Home.seen c.attach_sort-2.new.home) c.in_ok-members.members.items (omega (arith, many, c.len-count.ensures, c.args.head.now.members))
    c.attach_sort-2.ensures.others c.in_ok-members.ensures.kept

pub attach_sort-requires : goal.attach_sort-requires
attach_sort-requires g c = omega (arith, c.len-count.ensures, c.args.head.now.members)

pub attach_sort-requires-2 : goal.attach_sort-requires-2
attach_sort-requires-2 g c = c.args.head.now.coordinators

-- ---- the logs of the members are not attached

pub returns-in_err-members-clause-attached : goal.returns-in_err-members-clause-attached
returns-in_err-members-clause-attached g c = no_value _ c.from_residual.result c.from_residual.ensures.0

pub returns-in_err-members-clause-kept_members : goal.returns-in_err-members-clause-kept_members
returns-in_err-members-clause-kept_members g c = no_value _ c.from_residual.result c.from_residual.ensures.0

pub returns-in_err-members-clause-kept_coords : goal.returns-in_err-members-clause-kept_coords
returns-in_err-members-clause-kept_coords g c = no_value _ c.from_residual.result c.from_residual.ensures.0

pub returns-in_err-members-clause-reads : goal.returns-in_err-members-clause-reads
returns-in_err-members-clause-reads g c = c.attach_sort.ensures.reads

pub returns-in_err-members-clause-device : goal.returns-in_err-members-clause-device
returns-in_err-members-clause-device g c = λ spot is. c.in_err-members.ensures.device spot (handed_back c.from_residual.result c.in_err-members.field-0.0 (Device spot) c.from_residual.ensures.1 is)

pub returns-in_err-members-clause-quiet : goal.returns-in_err-members-clause-quiet
returns-in_err-members-clause-quiet g c = λ quiet. c.in_err-members.ensures.quiet (λ spot is. quiet spot (handed c.from_residual.result c.in_err-members.field-0.0 (Device spot) c.from_residual.ensures.1 is))

-- ---- those of the coordinators are not

pub returns-in_err-coords-clause-attached : goal.returns-in_err-coords-clause-attached
returns-in_err-coords-clause-attached g c = no_value _ c.from_residual-in_err-coords.result c.from_residual-in_err-coords.ensures.0

pub returns-in_err-coords-clause-kept_members : goal.returns-in_err-coords-clause-kept_members
returns-in_err-coords-clause-kept_members g c = no_value _ c.from_residual-in_err-coords.result c.from_residual-in_err-coords.ensures.0

pub returns-in_err-coords-clause-kept_coords : goal.returns-in_err-coords-clause-kept_coords
returns-in_err-coords-clause-kept_coords g c = no_value _ c.from_residual-in_err-coords.result c.from_residual-in_err-coords.ensures.0

pub returns-in_err-coords-clause-reads : goal.returns-in_err-coords-clause-reads
returns-in_err-coords-clause-reads g c =
    reads_on (g.H.Home.seen c.args.home.now) (g.H.Home.seen c.attach_sort.new.home) (g.H.Home.seen c.attach_sort-2.new.home) c.attach_sort.ensures.reads c.attach_sort-2.ensures.reads

pub returns-in_err-coords-clause-device : goal.returns-in_err-coords-clause-device
returns-in_err-coords-clause-device g c = λ spot is.
    fails_later (g.H.Home.seen c.args.home.now) (g.H.Home.seen c.attach_sort.new.home) (g.H.Home.seen c.attach_sort-2.new.home) spot c.attach_sort.ensures.reads.count
    (c.in_err-coords.ensures.device spot (handed_back c.from_residual-in_err-coords.result c.in_err-coords.field-0.0 (Device spot) c.from_residual-in_err-coords.ensures.1 is))

pub returns-in_err-coords-clause-quiet : goal.returns-in_err-coords-clause-quiet
returns-in_err-coords-clause-quiet g c = λ quiet.
    c.in_err-coords.ensures.quiet (λ spot is. quiet spot (handed c.from_residual-in_err-coords.result c.in_err-coords.field-0.0 (Device spot) c.from_residual-in_err-coords.ensures.1 is)) ∙ c.in_ok-members.ensures.quiet (λ spot is. not_err c.in_ok-members.members (Device spot) is)

-- ---- all logs are attached

pub returns-clause-attached : goal.returns-clause-attached
returns-clause-attached g c =
    let file = (g.H.Home.seen c.args.home.now).file in
    record {
      member = subst (λ (n : ℕ). EachPair (IsAttachedTo file c.args.resume) (member_nodes n) c.in_ok-members.members.items) c.len-count.ensures c.in_ok-members.ensures.attached;
      coord = subst (λ (f : Spot → Option File). EachPair (IsAttachedTo f c.args.resume) (coord_nodes c.args.head.now.coords) c.in_ok-coords.coords.items)
          (same_files (g.H.Home.seen c.attach_sort.new.home).file file c.attach_sort.ensures.reads.files) c.in_ok-coords.ensures.attached;
    }

pub returns-clause-kept_coords : goal.returns-clause-kept_coords
returns-clause-kept_coords g c = c.in_ok-coords.ensures.kept

pub returns-clause-reads : goal.returns-clause-reads
returns-clause-reads g c =
    reads_on (g.H.Home.seen c.args.home.now) (g.H.Home.seen c.attach_sort.new.home) (g.H.Home.seen c.attach_sort-2.new.home) c.attach_sort.ensures.reads c.attach_sort-2.ensures.reads

pub returns-clause-device : goal.returns-clause-device
returns-clause-device g c = λ spot is. absurd (not_err _ (Device spot) is)

pub returns-clause-quiet : goal.returns-clause-quiet
returns-clause-quiet g c = λ quiet. c.in_ok-coords.ensures.quiet (λ spot is. not_err c.in_ok-coords.coords (Device spot) is) ∙ c.in_ok-members.ensures.quiet (λ spot is. not_err c.in_ok-members.members (Device spot) is)
