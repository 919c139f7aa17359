-- The plan that is read, and why there is none.
use Rattle.std.proofs.Common.{◌≡◌, ◌≤◌, ◌+◌, true, false, List, ◌++◌, length, Option, sym, ap, subst, ◌∙◌}
use Rattle.std.specs.List.{AllByRecursion}
use Rattle.co_base.specs.Limits.{most_coordinators, most_members}
use Rattle.co_base.specs.declared.head.Head.{Head}
use Rattle.co_base.specs.declared.node.Node.TheVariants.{Member, Coord}
use Rattle.co_outside.specs.Home.{File, HomeView}
use Rattle.co_outside.specs.declared.spot.Spot.{Spot}
use Rattle.co_log.specs.LogView.{LogView}
use Rattle.co_recover.specs.declared.past.CoordPast.{CoordPast}
use Rattle.co_recover.specs.declared.past.MemberPast.{MemberPast}
use Rattle.co_durable.specs.declared.fault.WorldFault.{WorldFault}
use Rattle.co_durable.specs.declared.fault.WorldFault.TheVariants.{Device, Differs, InUse, Bad, Full, Count, Old, Memory}
use Rattle.co_durable.specs.Durable.{IsUndurable, Stands}
use Rattle.co_durable.specs.Nodes.{numbered, member_nodes, coord_nodes}
use Rattle.co_durable.specs.Pairs.{EachPair}
use Rattle.co_durable.specs.Recovering.{IsPastOf, member_refuses, coord_refuses}
use Rattle.co_durable.proofs.Numbered.{so_many}
use Rattle.co_durable.proofs.Pairs.{pairs_length}
use Rattle.co_opening.specs.Attached.{AreAttached, IsAttachedTo, IsOfAttaching}
use Rattle.co_opening.specs.Judged.{IsOfTelling}
use Rattle.co_opening.specs.Kept.{AreOwnLogs}
use Rattle.co_opening.specs.Opened.{IsUnopened}
use Rattle.co_opening.specs.Standing.{IsCoordPastOf}
use Rattle.co_opening.proofs.Judgings.{members_stand, coords_stand}
use Rattle.co_migrate.specs.declared.planning.Refill.{Refill}
use Rattle.co_migrate.specs.Migrating.{all_nodes, AllStand}
use Rattle.co_migrate.specs.Planning.{ArePlanned, IsUnplanned}
use Rattle.co_migrate.specs.Refilling.{MayRefill}
use Rattle.co_migrate.proofs.Apart.{all_nodes_are}
use Rattle.co_migrate.proofs.Plans.{whole, whole_plan, whole_few}

-- ---- why there is none

module _ (file : Spot → Option File) (head : Head) (many : length head.kinds ≡ most_members) (few : head.coords ≡ most_coordinators) where
  undurable : (fault : WorldFault) → IsUndurable file (length head.kinds) head.coords fault → IsUndurable file most_members most_coordinators fault
  undurable fault is = subst (λ n. IsUndurable file most_members n fault) few (subst (λ n. IsUndurable file n head.coords fault) many is)

  pub unread_plan : (fault : WorldFault) → IsOfAttaching fault → IsUnopened file head true fault → IsUnplanned file fault
  unread_plan (Device spot) may is = tt
  unread_plan (Differs spot at kept other) may is = absurd may
  unread_plan (InUse spot) may is = absurd (let e : true ≡ false = is.0 in cc)
  unread_plan (Bad spot at) may is = undurable (Bad spot at) is.1
  unread_plan (Full spot) may is = undurable (Full spot) is.1
  unread_plan Count may is = absurd may
  unread_plan (Old spot) may is = absurd may
  unread_plan Memory may is = tt

  pub untold_plan : (fault : WorldFault) → IsOfTelling fault → IsUnopened file head true fault → IsUnplanned file fault
  untold_plan (Device spot) may is = absurd may
  untold_plan (Differs spot at kept other) may is = absurd may
  untold_plan (InUse spot) may is = absurd may
  untold_plan (Bad spot at) may is = undurable (Bad spot at) is.1
  untold_plan (Full spot) may is = absurd may
  untold_plan Count may is = absurd may
  untold_plan (Old spot) may is = absurd may
  untold_plan Memory may is = tt

-- ---- the plan

module _ (file : Spot → Option File) (home : HomeView) (head : Head) (many : length head.kinds ≡ most_members) (few : head.coords ≡ most_coordinators)
    (member_logs coord_logs : List LogView) (att : AreAttached file true (length head.kinds) head.coords member_logs coord_logs)
    (member_pasts : List MemberPast) (coord_pasts : List CoordPast) (told : EachPair (IsPastOf head.coords) member_logs member_pasts) (seen : EachPair (IsCoordPastOf (length head.kinds)) coord_logs coord_pasts)
    (mo : AreOwnLogs home Member 0 member_logs) (co : AreOwnLogs home Coord 0 coord_logs) where
  nodes_are : all_nodes ≡ numbered Member (length head.kinds) ++ numbered Coord head.coords
  nodes_are =
      all_nodes_are ∙ ap (λ n. numbered Member n ++ numbered Coord most_coordinators) (sym many) ∙ ap (λ n. numbered Member (length head.kinds) ++ numbered Coord n) (sym few)

  both : ArePlanned file all_nodes (whole file home member_logs coord_logs member_pasts coord_pasts) × AllByRecursion (MayRefill home) (whole file home member_logs coord_logs member_pasts coord_pasts)
  both =
      whole_plan file home member_logs coord_logs member_pasts coord_pasts all_nodes (length head.kinds) head.coords nodes_are att.member att.coord
      (subst (λ n. EachPair (IsPastOf n) member_logs member_pasts) few told) (subst (λ n. EachPair (IsCoordPastOf n) coord_logs coord_pasts) many seen) mo co

  pub plan_read : (plan : List Refill) → plan ≡ whole file home member_logs coord_logs member_pasts coord_pasts → ArePlanned file all_nodes plan
  plan_read plan is = subst (ArePlanned file all_nodes) (sym is) both.0

  pub plan_may : (plan : List Refill) → plan ≡ whole file home member_logs coord_logs member_pasts coord_pasts → AllByRecursion (MayRefill home) plan
  plan_may plan is = subst (AllByRecursion (MayRefill home)) (sym is) both.1

  pub plan_few : (plan : List Refill) → plan ≡ whole file home member_logs coord_logs member_pasts coord_pasts → length plan ≤ most_members + most_coordinators
  plan_few plan is =
      subst (λ (p : List Refill). length p ≤ most_members + most_coordinators) (sym is)
      (whole_few file home member_logs coord_logs member_pasts coord_pasts most_members most_coordinators
      (pairs_length (IsAttachedTo file true) (member_nodes (length head.kinds)) member_logs att.member ∙ so_many Member (length head.kinds) ∙ many)
      (pairs_length (IsAttachedTo file true) (coord_nodes head.coords) coord_logs att.coord ∙ so_many Coord head.coords ∙ few))

  pub all_stand : AllStand file
  all_stand = record {
    members = subst (λ n. AllByRecursion (Stands file (member_refuses most_coordinators)) (member_nodes n)) many
        (subst (λ n. AllByRecursion (Stands file (member_refuses n)) (member_nodes (length head.kinds))) few (members_stand file true head member_logs coord_logs att member_pasts told));
    coords = subst (λ n. AllByRecursion (Stands file (coord_refuses most_members)) (coord_nodes n)) few
        (subst (λ n. AllByRecursion (Stands file (coord_refuses n)) (coord_nodes head.coords)) many (coords_stand file true head member_logs coord_logs att coord_pasts seen));
  }

  pub members_pair : length member_logs ≡ length member_pasts
  members_pair = sym (pairs_length (IsPastOf head.coords) member_logs member_pasts told)

  pub coords_pair : length coord_logs ≡ length coord_pasts
  coords_pair = sym (pairs_length (IsCoordPastOf (length head.kinds)) coord_logs coord_pasts seen)
