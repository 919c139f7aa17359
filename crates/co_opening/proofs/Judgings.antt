-- What the logs of all nodes tell, and why they are refused.
use Rattle.std.proofs.Common.{◌≡◌, ℕ, suc, ◌<◌, Bool, true, false, List, [], ◌∷◌, length, Option, refl, sym, subst, ◌∙◌, arith}
use Rattle.std.specs.Prelude.{None, Some}
use Rattle.std.specs.List.{AllByRecursion}
use Rattle.co_base.specs.declared.head.Head.{Head}
use Rattle.co_base.specs.declared.node.Node.{Node}
use Rattle.co_outside.specs.declared.spot.Spot.{Spot}
use Rattle.co_outside.specs.Home.{File}
use Rattle.co_record.specs.Stored.{HasRecords}
use Rattle.co_log.specs.Fresh.{IsFresh}
use Rattle.co_log.specs.LogView.{LogView}
use Rattle.co_log.specs.NodeFiles.{Items}
use Rattle.co_log.proofs.Unmade.{read_stable}
use Rattle.co_plain.specs.Opening.{fresh}
use Rattle.co_recover.specs.Recovered.{IsRefusedAt}
use Rattle.co_recover.specs.declared.past.CoordPast.{CoordPast}
use Rattle.co_recover.specs.declared.past.MemberPast.{MemberPast}
use Rattle.co_durable.specs.declared.fault.WorldFault.{WorldFault}
use Rattle.co_durable.specs.declared.fault.WorldFault.TheVariants.{Device, Differs, InUse, Bad, Full, Count, Old, Memory}
use Rattle.co_durable.specs.Durable.{Stands}
use Rattle.co_durable.specs.Nodes.{numbered, member_nodes, coord_nodes}
use Rattle.co_durable.specs.Pairs.{EachPair, FirstWhere}
use Rattle.co_durable.specs.Reading.{IsLogOf, HasLog, IsUnread}
use Rattle.co_durable.specs.Recovering.{HasItems, IsReadable, IsPastOf, LogStands, LogFalls, IsFirstToFall, member_refuses, coord_refuses}
use Rattle.co_durable.proofs.Durables.{unread_member, unread_coord, fallen_member, fallen_coord}
use Rattle.co_durable.proofs.Firsts.{all_back}
use Rattle.co_durable.proofs.Opened.{stands}
use Rattle.co_durable.proofs.Pairs.{all_append, left_all, right_all, all_over, first_left, first_right, first_over}
use Rattle.co_opening.specs.Attached.{AreAttached, IsAttachedTo, IsUnattached, IsFirstUnattached}
use Rattle.co_opening.specs.Fit.{AreFit}
use Rattle.co_opening.specs.InUse.{IsUnusedNode, IsInUse}
use Rattle.co_opening.specs.Judged.{IsOfJudging, IsOfTelling}
use Rattle.co_opening.specs.Opened.{IsUnopened}
use Rattle.co_opening.specs.Standing.{IsCoordPastOf}
use Rattle.co_opening.specs.Versions.{IsOfVersion, IsNewIn, IsOldIn, IsVersioned, IsLatest, IsOldAt, IsFirstOldLog}
use Rattle.co_opening.proofs.Founds.{read}
use Rattle.co_opening.proofs.From.{pairs_map}
use Rattle.co_opening.proofs.Numbering.{first_numbered}

-- ---- logs that were not attached

module _ (file : Spot → Option File) (resume : Bool) where
  logs_of : (nodes : List Node) (logs : List LogView) → EachPair (IsAttachedTo file resume) nodes logs → EachPair (IsLogOf file) nodes logs
  logs_of nodes logs pairs = pairs_map (IsAttachedTo file resume) (IsLogOf file) (λ node log att. att.is) nodes logs pairs

  have_logs : (nodes : List Node) (logs : List LogView) → EachPair (IsAttachedTo file resume) nodes logs → AllByRecursion (HasLog file) nodes
  have_logs nodes logs pairs = left_all (IsAttachedTo file resume) (HasLog file) (λ node log att. (log, att.is)) nodes logs pairs

  are_unused : resume ≡ false → (nodes : List Node) (logs : List LogView) → EachPair (IsAttachedTo file resume) nodes logs → AllByRecursion (IsUnusedNode file) nodes
  are_unused none nodes logs pairs = left_all (IsAttachedTo file resume) (IsUnusedNode file) (λ node log att. att.unused none) nodes logs pairs

  -- the node behind so many attached ones is the first that is not
  pub first_unattached : (node : ℕ → Node) (place count : ℕ) (logs : List LogView) (fault : WorldFault) → place < count → EachPair (IsAttachedTo file resume) (numbered node place) logs
      → IsUnattached file resume fault (node (suc place)) → IsFirstUnattached file resume (numbered node count) fault
  first_unattached node place count logs (Device spot) h pairs bad = tt
  first_unattached node place count logs (Differs spot at kept other) h pairs bad = absurd bad
  first_unattached node place count logs (InUse spot) h pairs bad =
      (bad.0, first_numbered (IsUnusedNode file) (IsInUse file spot) node place count h (are_unused bad.0 (numbered node place) logs pairs) bad.1)
  first_unattached node place count logs (Bad spot at) h pairs bad =
      (bad.0, first_numbered (HasLog file) (IsUnread file (Bad spot at)) node place count h (have_logs (numbered node place) logs pairs) bad.1)
  first_unattached node place count logs (Full spot) h pairs bad =
      (bad.0, first_numbered (HasLog file) (IsUnread file (Full spot)) node place count h (have_logs (numbered node place) logs pairs) bad.1)
  first_unattached node place count logs Count h pairs bad = absurd bad
  first_unattached node place count logs (Old spot) h pairs bad = absurd bad
  first_unattached node place count logs Memory h pairs bad = tt

  pub member_unattached : (head : Head) (fault : WorldFault) → IsFirstUnattached file resume (member_nodes (length head.kinds)) fault → IsUnopened file head resume fault
  member_unattached head (Device spot) f = tt
  member_unattached head (Differs spot at kept other) f = absurd f
  member_unattached head (InUse spot) f = (f.0, first_left (IsUnusedNode file) (IsInUse file spot) (member_nodes (length head.kinds)) (coord_nodes head.coords) f.1)
  member_unattached head (Bad spot at) f = (f.0, unread_member file (length head.kinds) head.coords (Bad spot at) f.1)
  member_unattached head (Full spot) f = (f.0, unread_member file (length head.kinds) head.coords (Full spot) f.1)
  member_unattached head Count f = absurd f
  member_unattached head (Old spot) f = absurd f
  member_unattached head Memory f = tt

  pub coord_unattached : (head : Head) (logs : List LogView) (fault : WorldFault) → EachPair (IsAttachedTo file resume) (member_nodes (length head.kinds)) logs → IsFirstUnattached file resume (coord_nodes head.coords) fault → IsUnopened file head resume fault
  coord_unattached head logs (Device spot) pairs f = tt
  coord_unattached head logs (Differs spot at kept other) pairs f = absurd f
  coord_unattached head logs (InUse spot) pairs f =
      (f.0, first_right (IsUnusedNode file) (IsInUse file spot) (member_nodes (length head.kinds)) (coord_nodes head.coords) (are_unused f.0 (member_nodes (length head.kinds)) logs pairs) f.1)
  coord_unattached head logs (Bad spot at) pairs f = (f.0, unread_coord file (length head.kinds) head.coords logs (Bad spot at) (logs_of (member_nodes (length head.kinds)) logs pairs) f.1)
  coord_unattached head logs (Full spot) pairs f = (f.0, unread_coord file (length head.kinds) head.coords logs (Full spot) (logs_of (member_nodes (length head.kinds)) logs pairs) f.1)
  coord_unattached head logs Count pairs f = absurd f
  coord_unattached head logs (Old spot) pairs f = absurd f
  coord_unattached head logs Memory pairs f = tt

  -- ---- logs whose records are not allowed

  pub are_readable : (nodes : List Node) (logs : List LogView) → EachPair (IsAttachedTo file resume) nodes logs → AllByRecursion IsReadable logs
  are_readable nodes logs pairs =
      right_all (IsAttachedTo file resume) IsReadable (λ node log att. let r = read file node log att.valid att.is in (r.items, r.has)) nodes logs pairs

  pub are_versioned : (nodes : List Node) (logs : List LogView) → EachPair (IsAttachedTo file resume) nodes logs → AllByRecursion IsVersioned logs
  are_versioned nodes logs pairs = right_all (IsAttachedTo file resume) IsVersioned (λ node log att. (read file node log att.valid att.is).known) nodes logs pairs

  are_fresh : resume ≡ false → (nodes : List Node) (logs : List LogView) → EachPair (IsAttachedTo file resume) nodes logs → AllByRecursion IsFresh logs
  are_fresh none nodes logs pairs = right_all (IsAttachedTo file resume) IsFresh (λ node log att. att.fresh none) nodes logs pairs

-- such logs are refused for these causes alone
pub fallen_told : (refuses : Items → Option ℕ) (logs : List LogView) (fault : WorldFault) → IsFirstToFall refuses logs fault → IsOfTelling fault
fallen_told refuses logs (Device spot) f = absurd f.bad
fallen_told refuses logs (Differs spot at kept other) f = absurd f.bad
fallen_told refuses logs (InUse spot) f = absurd f.bad
fallen_told refuses logs (Bad spot at) f = tt
fallen_told refuses logs (Full spot) f = absurd f.bad
fallen_told refuses logs Count f = absurd f.bad
fallen_told refuses logs (Old spot) f = absurd f.bad
fallen_told refuses logs Memory f = tt

pub told_judged : (fault : WorldFault) → IsOfTelling fault → IsOfJudging fault
told_judged (Device spot) f = f
told_judged (Differs spot at kept other) f = f
told_judged (InUse spot) f = f
told_judged (Bad spot at) f = tt
told_judged (Full spot) f = f
told_judged Count f = f
told_judged (Old spot) f = absurd f
told_judged Memory f = tt

pub old_judged : (logs : List LogView) (fault : WorldFault) → IsFirstOldLog logs fault → IsOfJudging fault
old_judged logs (Device spot) f = f
old_judged logs (Differs spot at kept other) f = f
old_judged logs (InUse spot) f = f
old_judged logs (Bad spot at) f = absurd f
old_judged logs (Full spot) f = f
old_judged logs Count f = f
old_judged logs (Old spot) f = tt
old_judged logs Memory f = absurd f

resumed : (resume : Bool) → (resume ≡ false → ⊥) → resume ≡ true
resumed true never = refl
resumed false never = absurd (never refl)

-- the element that the first bad one is
first_of : {A : Type 0} (P IsGood IsBad : A → Type 0) (xs : List A) → AllByRecursion P xs → (f : FirstWhere IsGood IsBad xs) → P f.first
first_of P IsGood IsBad xs all f = (all_back P f.before (f.first ∷ f.behind) (subst (AllByRecursion P) f.split all)).0

-- a fresh log has no record that is not allowed
fresh_stands : (refuses : Items → Option ℕ) (spot : Spot) (at : ℕ) (l : LogView) → refuses [] ≡ None → IsFresh l → LogFalls refuses (Bad spot at) l → ⊥
fresh_stands refuses spot at l none fresh falls =
    let has : HasItems l [] = subst (λ (bytes : List ℕ). HasRecords bytes []) (sym (read_stable l.current.state fresh.still)) ([], fresh.none, refl) in
    let r : IsRefusedAt [] (refuses []) at = falls.1 [] has in
    absurd (let e : None ≡ Some r.behind = sym none ∙ r.first in cc)

module _ (file : Spot → Option File) (resume : Bool) (head : Head) (member_logs coord_logs : List LogView) (att : AreAttached file resume (length head.kinds) head.coords member_logs coord_logs) where
  abbrev members : ℕ
  members = length head.kinds

  pub member_fallen : (fault : WorldFault) → IsFirstToFall (member_refuses head.coords) member_logs fault → IsUnopened file head resume fault
  member_fallen (Device spot) f = tt
  member_fallen (Differs spot at kept other) f = absurd f.bad
  member_fallen (InUse spot) f = absurd f.bad
  member_fallen (Bad spot at) f = (
    resumed resume (λ none. fresh_stands (member_refuses head.coords) spot at f.first refl (first_of IsFresh _ _ member_logs (are_fresh file resume none (member_nodes members) member_logs att.member) f) f.bad),
    fallen_member file members head.coords member_logs coord_logs (Bad spot at) (logs_of file resume (member_nodes members) member_logs att.member) (logs_of file resume (coord_nodes head.coords) coord_logs att.coord) f,
  )
  member_fallen (Full spot) f = absurd f.bad
  member_fallen Count f = absurd f.bad
  member_fallen (Old spot) f = absurd f.bad
  member_fallen Memory f = tt

  pub coord_fallen : (pasts : List MemberPast) (fault : WorldFault) → EachPair (IsPastOf head.coords) member_logs pasts → IsFirstToFall (coord_refuses members) coord_logs fault → IsUnopened file head resume fault
  coord_fallen pasts (Device spot) told f = tt
  coord_fallen pasts (Differs spot at kept other) told f = absurd f.bad
  coord_fallen pasts (InUse spot) told f = absurd f.bad
  coord_fallen pasts (Bad spot at) told f = (
    resumed resume (λ none. fresh_stands (coord_refuses members) spot at f.first refl (first_of IsFresh _ _ coord_logs (are_fresh file resume none (coord_nodes head.coords) coord_logs att.coord) f) f.bad),
    fallen_coord file members head.coords member_logs coord_logs pasts (Bad spot at) (logs_of file resume (member_nodes members) member_logs att.member) (logs_of file resume (coord_nodes head.coords) coord_logs att.coord) told f,
  )
  coord_fallen pasts (Full spot) told f = absurd f.bad
  coord_fallen pasts Count told f = absurd f.bad
  coord_fallen pasts (Old spot) told f = absurd f.bad
  coord_fallen pasts Memory told f = tt

  -- ---- logs of version 1

  pub members_stand : (pasts : List MemberPast) → EachPair (IsPastOf head.coords) member_logs pasts → AllByRecursion (Stands file (member_refuses head.coords)) (member_nodes members)
  members_stand pasts told =
      all_over (IsLogOf file) (LogStands (member_refuses head.coords)) (Stands file (member_refuses head.coords)) (stands file (member_refuses head.coords)) (member_nodes members) member_logs (logs_of file resume (member_nodes members) member_logs att.member)
      (left_all (IsPastOf head.coords) (LogStands (member_refuses head.coords)) (λ l t r items has. (r items has).0) member_logs pasts told)

  pub coords_stand : (pasts : List CoordPast) → EachPair (IsCoordPastOf members) coord_logs pasts → AllByRecursion (Stands file (coord_refuses members)) (coord_nodes head.coords)
  coords_stand pasts told =
      all_over (IsLogOf file) (LogStands (coord_refuses members)) (Stands file (coord_refuses members)) (stands file (coord_refuses members)) (coord_nodes head.coords) coord_logs (logs_of file resume (coord_nodes head.coords) coord_logs att.coord)
      (left_all (IsCoordPastOf members) (LogStands (coord_refuses members)) (λ l t r items has. (r items has).0) coord_logs pasts told)

  new_in : (node : Node) (l : LogView) → IsAttachedTo file resume node l → IsLatest l → IsNewIn file node
  new_in node l a latest = let r = read file node l a.valid a.is in (r.part, subst (λ v. IsOfVersion file node r.part v) latest r.versions)

  old_in : (spot : Spot) (node : Node) (l : LogView) → IsAttachedTo file resume node l → IsOldAt spot l → IsOldIn file spot node
  old_in spot node l a old = let r = read file node l a.valid a.is in (r.part, old.0 ∙ r.spot, subst (λ v. IsOfVersion file node r.part v) old.1 r.versions)

  first_old : (spot : Spot) (nodes : List Node) (logs : List LogView) → EachPair (IsAttachedTo file resume) nodes logs → FirstWhere IsLatest (IsOldAt spot) logs → FirstWhere (IsNewIn file) (IsOldIn file spot) nodes
  first_old spot nodes logs pairs f = first_over (IsAttachedTo file resume) IsLatest (IsOldAt spot) (IsNewIn file) (IsOldIn file spot) new_in (old_in spot) nodes logs pairs f

  not_fresh : (spot : Spot) (l : LogView) → IsFresh l → IsOldAt spot l → ⊥
  not_fresh spot l fresh old = absurd (let e : 1 ≡ 2 = sym old.1 ∙ fresh.version in omega (arith, e))

  pub fit : (pasts : List MemberPast) (coord_pasts : List CoordPast) → EachPair (IsPastOf head.coords) member_logs pasts → EachPair (IsCoordPastOf members) coord_logs coord_pasts
      → AllByRecursion IsLatest member_logs → AllByRecursion IsLatest coord_logs → AreFit file head resume
  fit pasts coord_pasts told seen latest newest = record {
    members_stand = members_stand pasts told;
    coords_stand = coords_stand coord_pasts seen;
    newest = all_append (IsNewIn file) (member_nodes members) (coord_nodes head.coords)
        (all_over (IsAttachedTo file resume) IsLatest (IsNewIn file) new_in (member_nodes members) member_logs att.member latest)
        (all_over (IsAttachedTo file resume) IsLatest (IsNewIn file) new_in (coord_nodes head.coords) coord_logs att.coord newest);
    unused = λ none. all_append (IsUnusedNode file) (member_nodes members) (coord_nodes head.coords)
        (are_unused file resume none (member_nodes members) member_logs att.member) (are_unused file resume none (coord_nodes head.coords) coord_logs att.coord);
  }

  pub member_old : (pasts : List MemberPast) (coord_pasts : List CoordPast) (fault : WorldFault) → EachPair (IsPastOf head.coords) member_logs pasts → EachPair (IsCoordPastOf members) coord_logs coord_pasts
      → IsFirstOldLog member_logs fault → IsUnopened file head resume fault
  member_old pasts coord_pasts (Device spot) told seen f = tt
  member_old pasts coord_pasts (Differs spot at kept other) told seen f = absurd f
  member_old pasts coord_pasts (InUse spot) told seen f = absurd f
  member_old pasts coord_pasts (Bad spot at) told seen f = absurd f
  member_old pasts coord_pasts (Full spot) told seen f = absurd f
  member_old pasts coord_pasts Count told seen f = absurd f
  member_old pasts coord_pasts (Old spot) told seen f = (
    resumed resume (λ none. not_fresh spot f.first (first_of IsFresh _ _ member_logs (are_fresh file resume none (member_nodes members) member_logs att.member) f) f.bad),
    record {
      members_stand = members_stand pasts told;
      coords_stand = coords_stand coord_pasts seen;
      first = first_left (IsNewIn file) (IsOldIn file spot) (member_nodes members) (coord_nodes head.coords) (first_old spot (member_nodes members) member_logs att.member f);
    },
  )
  member_old pasts coord_pasts Memory told seen f = tt

  pub coord_old : (pasts : List MemberPast) (coord_pasts : List CoordPast) (fault : WorldFault) → EachPair (IsPastOf head.coords) member_logs pasts → EachPair (IsCoordPastOf members) coord_logs coord_pasts
      → AllByRecursion IsLatest member_logs → IsFirstOldLog coord_logs fault → IsUnopened file head resume fault
  coord_old pasts coord_pasts (Device spot) told seen latest f = tt
  coord_old pasts coord_pasts (Differs spot at kept other) told seen latest f = absurd f
  coord_old pasts coord_pasts (InUse spot) told seen latest f = absurd f
  coord_old pasts coord_pasts (Bad spot at) told seen latest f = absurd f
  coord_old pasts coord_pasts (Full spot) told seen latest f = absurd f
  coord_old pasts coord_pasts Count told seen latest f = absurd f
  coord_old pasts coord_pasts (Old spot) told seen latest f = (
    resumed resume (λ none. not_fresh spot f.first (first_of IsFresh _ _ coord_logs (are_fresh file resume none (coord_nodes head.coords) coord_logs att.coord) f) f.bad),
    record {
      members_stand = members_stand pasts told;
      coords_stand = coords_stand coord_pasts seen;
      first = first_right (IsNewIn file) (IsOldIn file spot) (member_nodes members) (coord_nodes head.coords)
          (all_over (IsAttachedTo file resume) IsLatest (IsNewIn file) new_in (member_nodes members) member_logs att.member latest) (first_old spot (coord_nodes head.coords) coord_logs att.coord f);
    },
  )
  coord_old pasts coord_pasts Memory told seen latest f = tt
