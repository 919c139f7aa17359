-- The nodes of a federation that was opened.
use Rattle.std.proofs.Common.{◌≡◌, ℕ, suc, ◌≤◌, ◌++◌, Bool, List, length, sym, ap, subst, ◌∙◌, arith}
use Rattle.std.specs.Prelude.{Option, Result, Ok, Err, OnOk, IfOk}
use Rattle.co_base.specs.Nodes.{IsValidNode}
use Rattle.co_durable.specs.declared.fault.WorldFault.{WorldFault}
use Rattle.co_durable.specs.declared.fault.WorldFault.TheVariants.{Device, Differs, InUse, Bad, Full, Count, Old, Memory}
use Rattle.std.specs.FinMap.{keys}
use Rattle.co_base.specs.declared.head.Head.{Head}
use Rattle.co_base.specs.declared.head.Kind.{Kind}
use Rattle.co_base.specs.declared.node.Node.TheVariants.{Member, Coord}
use Rattle.co_base.specs.Limits.{most_coordinators, most_members}
use Rattle.co_outside.specs.declared.spot.Spot.{Spot}
use Rattle.co_outside.specs.Home.{HomeView, File, IsClean}
use Rattle.co_log.specs.LogView.{LogView}
use Rattle.co_plain.specs.Opening.{Found, opened_member, opened_coord, used_numbers, member_headers, coord_headers}
use Rattle.co_plain.specs.MemberView.{Numbers}
use Rattle.co_recover.specs.declared.past.CoordPast.{CoordPast}
use Rattle.co_recover.specs.declared.past.MemberPast.{MemberPast}
use Rattle.co_state.specs.declared.engine_state.EngineState.{EngineState}
use Rattle.co_state.specs.Table.{no_entries}
use Rattle.co_coord.specs.declared.coord.Coord.{Coord as CoordOn}
use Rattle.co_member.specs.declared.member.Member.{Member as MemberOn}
use Rattle.co_opening.specs.Counted.{with_members, with_coords}
use Rattle.co_opening.specs.Judged.{AreJudged, IsOfMaking}
use Rattle.co_log.specs.Others.{NodeStays}
use Rattle.co_opening.specs.Kept.{IsOwnLog, AreOwnLogs}
use Rattle.co_opening.specs.Nodes.{IsMemberAt, IsCoordAt, IsKept, AreKept}
use Rattle.co_opening.specs.Opened.{AreOpened, IsUnopened, IsOfFound}
use Rattle.co_opening.specs.Running.{AreMembersAt, AreCoordsAt, AreOwnMembers, AreOwnCoords}
use Rattle.co_opening.specs.declared.nodes.Nodes.{Nodes}
use Rattle.co_opening.proofs.From.{all_from_first, all_from_map}
use Rattle.co_opening.proofs.Stays.{own_stays, own_all_stay}
use Rattle.co_opening.proofs.Judged.{laid_used}
use Rattle.co_node.proofs.Homes.{still_clean}

pub opened_nodes : {E : Type 0} (takes : Kind → Type 0) (stands_for : E → EngineState → Type 0) (file : Spot → Option File) (resume : Bool) (head : Head) (member_logs coord_logs : List LogView) (member_pasts : List MemberPast) (coord_pasts : List CoordPast)
    (j : AreJudged file resume head member_logs coord_logs member_pasts coord_pasts) (n : Nodes E) → length n.members.items ≡ length head.kinds → length n.coords.items ≡ length coord_logs
    → AreMembersAt takes stands_for head.kinds head.coords j.found_member n.members.items → AreCoordsAt (length head.kinds) j.found_coord n.coords.items
    → n.used ≡ keys (with_coords (with_members no_entries member_pasts) coord_pasts) → length n.used ≤ 65536
    → n.marks ≡ member_headers (length head.kinds) j.found_member ++ coord_headers (length coord_logs) j.found_coord → AreOpened takes stands_for file head resume n
opened_nodes takes stands_for file resume head member_logs coord_logs member_pasts coord_pasts j n many few ms cs used most marks =
    let numbers : Numbers = used_numbers (length head.kinds) head.coords j.found_member j.found_coord in
    let are : n.used ≡ keys numbers = used ∙ ap keys (laid_used file resume head member_logs coord_logs member_pasts coord_pasts j) in
    record {
      found_member = j.found_member;
      found_coord = j.found_coord;
      found = j.found;
      may = j.may;
      unused = j.unused;
      fit = j.fit;
      members = many;
      coords = few ∙ j.many_coords;
      member = λ p m is. all_from_first (λ q x. IsMemberAt takes stands_for head.coords q x (opened_member head.kinds (suc q) (j.found_member (suc q)))) n.members.items p m ms is;
      coord = λ p c is. all_from_first (λ q y. IsCoordAt (length head.kinds) q y (opened_coord (suc q) (j.found_coord (suc q)))) n.coords.items p c cs is;
      used = are;
      few = most;
      marks = marks ∙ ap (λ k. member_headers (length head.kinds) j.found_member ++ coord_headers k j.found_coord) j.many_coords;
    }

pub kept_nodes : {E : Type 0} (takes : Kind → Type 0) (stands_for : E → EngineState → Type 0) (home : HomeView) (head : Head) (found_member found_coord : ℕ → Found) (these : List (MemberOn E)) (those : List CoordOn)
    → AreMembersAt takes stands_for head.kinds head.coords found_member these → AreCoordsAt (length head.kinds) found_coord those → AreOwnMembers home these → AreOwnCoords home those → AreKept home these those
kept_nodes takes stands_for home head found_member found_coord these those ms cs own owns = record {
  member = λ p m is.
      let at = all_from_first (λ q x. IsMemberAt takes stands_for head.coords q x (opened_member head.kinds (suc q) (found_member (suc q)))) these p m ms is in
      let log = all_from_first (λ q x. IsOwnLog home (Member (suc q)) x.log) these p m own is in
      subst (λ k. IsKept home (Member k) m.log) (sym at.number) log.kept;
  coord = λ p c is.
      let at = all_from_first (λ q y. IsCoordAt (length head.kinds) q y (opened_coord (suc q) (found_coord (suc q)))) those p c cs is in
      let log = all_from_first (λ q y. IsOwnLog home (Coord (suc q)) y.log) those p c owns is in
      subst (λ k. IsKept home (Coord k) c.log) (sym at.number) log.kept;
}

-- ---- the logs of one sort, while those of the other are made

pub coords_left : (old new : HomeView) (logs : List LogView) → length logs ≤ most_coordinators → ((c : ℕ) → IsValidNode (Coord c) → NodeStays (Coord c) old new) → AreOwnLogs old Coord 0 logs → AreOwnLogs new Coord 0 logs
coords_left old new logs few left kept = own_all_stay Coord 0 old new logs (λ q low high. left (suc q) (omega arith, omega (arith, high, few))) kept

pub own_members_stay : {E : Type 0} (old new : HomeView) (these : List (MemberOn E)) → length these ≤ most_members → ((m : ℕ) → IsValidNode (Member m) → NodeStays (Member m) old new)
    → AreOwnMembers old these → AreOwnMembers new these
own_members_stay old new these few left kept =
    all_from_map (λ q x. IsOwnLog old (Member (suc q)) x.log) (λ q x. IsOwnLog new (Member (suc q)) x.log) 0 these
    (λ q x low high own. own_stays (Member (suc q)) old new x.log (left (suc q) (omega arith, omega (arith, high, few))) own) kept

-- ---- answers

-- the faults of making a log are none of what was found
pub making_unopened : (file : Spot → Option File) (head : Head) (resume : Bool) (fault : WorldFault) → IsOfMaking fault → IsUnopened file head resume fault
making_unopened file head resume (Device spot) is = tt
making_unopened file head resume (Differs spot at kept read) is = absurd is
making_unopened file head resume (InUse spot) is = absurd is
making_unopened file head resume (Bad spot at) is = absurd is
making_unopened file head resume (Full spot) is = absurd is
making_unopened file head resume Count is = absurd is
making_unopened file head resume (Old spot) is = absurd is
making_unopened file head resume Memory is = tt

pub making_unfound : (fault : WorldFault) → IsOfMaking fault → IsOfFound fault → ⊥
making_unfound (Device spot) is found = absurd found
making_unfound (Differs spot at kept read) is found = absurd is
making_unfound (InUse spot) is found = absurd is
making_unfound (Bad spot at) is found = absurd is
making_unfound (Full spot) is found = absurd is
making_unfound Count is found = absurd is
making_unfound (Old spot) is found = absurd is
making_unfound Memory is found = absurd found

pub clean_moved : {T : Type 0} (result : Result T WorldFault) (old mid new : HomeView) → ((s : Spot) → mid.file s ≡ old.file s) → OnOk result ((s : Spot) → IsClean mid s → IsClean new s) → IfOk result (λ n. (s : Spot) → IsClean old s → IsClean new s)
clean_moved (Ok n) old mid new same clean = λ s was. clean s (still_clean old mid s (same s) was)
clean_moved (Err e) old mid new same clean = tt
