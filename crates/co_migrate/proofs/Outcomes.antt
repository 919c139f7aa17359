-- What becomes of the logs of a plan, as what becomes of the nodes of a directory that tells its files.
use Rattle.std.proofs.Common.{◌≡◌, ◌⊎◌, inl, inr, ℕ, ◌+◌, ◌-◌, ◌==◌, Bool, true, false, List, [], ◌∷◌, ◌++◌, map, length, Option, Some, None, Result, Ok, Err, refl, sym, ap, subst, ◌∙◌, arith}
use Rattle.std.proofs.lemmas.Bool.{eqb-true, eqb-false}
use Rattle.std.proofs.lemmas.List.{map-append, length-map}
use Rattle.std.specs.List.{AllByRecursion}
use Rattle.std.specs.Prelude.{reverse, OnOk}
use Rattle.co_base.specs.Limits.{most_coordinators, most_members}
use Rattle.co_base.specs.declared.node.Node.{Node}
use Rattle.co_outside.specs.Home.{File, HomeView}
use Rattle.co_outside.specs.declared.spot.Spot.{Spot}
use Rattle.co_record.specs.declared.record.Record.{Record}
use Rattle.co_record.specs.declared.record.Record.TheVariants.{Header}
use Rattle.co_record.specs.Format.{newest, oldest}
use Rattle.co_log.specs.Appending.{IsTooLong}
use Rattle.co_log.specs.Current.{IsCurrentOf, IsNewCurrent, IsOldCurrent}
use Rattle.co_log.specs.LogFile.{placed_from}
use Rattle.co_log.specs.LogView.{LogView, HasSpots, spot_of}
use Rattle.co_log.specs.NodeFiles.{Items, newest_first}
use Rattle.co_log.specs.Spare.{IsOverfull}
use Rattle.co_log.proofs.Ordered.{held_current}
use Rattle.co_log.proofs.Spots.{at_each}
use Rattle.co_durable.specs.Reading.{OnlyReads}
use Rattle.co_durable.specs.declared.fault.WorldFault.{WorldFault}
use Rattle.co_durable.specs.declared.fault.WorldFault.TheVariants as world
use Rattle.co_durable.proofs.Readings.{same_files}
use Rattle.co_durable.specs.Told.{IsTold, AreTold}
use Rattle.co_durable.proofs.Firsts.{all_front, all_back}
use Rattle.co_law_migrate.specs.Migrated.{migrated}
use Rattle.co_opening.specs.Rest.{IsSpotOf}
use Rattle.co_migrate.specs.declared.fault.MigrateFault.{MigrateFault}
use Rattle.co_migrate.specs.declared.fault.MigrateFault.TheVariants.{Device, Bad, Full, Memory}
use Rattle.co_migrate.specs.declared.planning.Refill.{Refill}
use Rattle.co_migrate.specs.Migrating.{all_nodes, IsOldNode, HasNoRoom, IsFilledIn, IsUnfilledIn, IsFullNode, AreOldAmong, AllStand, OnlyNodesChange, AreFilledUpTo, IsMigrated}
use Rattle.co_migrate.specs.Planning.{migrate_fault, IsPlannedFor, ArePlanned, IsUnplanned}
use Rattle.co_migrate.specs.Refilling.{refill_node, MayRefill, IsLeftSo, IsStillOld, IsOldOrNew, IsRefilled, OnlyTheseChange, AreCutAt, AreRefilledAs, StaysClean}
use Rattle.co_migrate.proofs.Apart.{all_nodes_are, on_plan}

-- a file that is told still is
still_told : (old new : Spot → Option File) → ((s : Spot) → new s ≡ None → old s ≡ None) → (s : Spot) (f : File) → old s ≡ Some f → (g : File) × (new s ≡ Some g)
still_told old new told s f is = by (new s) refl
  where
    by : (o : Option File) → new s ≡ o → (g : File) × (new s ≡ Some g)
    by (Some g) e = (g, e)
    by None e = absurd (let z : None ≡ Some f = sym (told s e) ∙ is in cc)

module _ (home : HomeView) (new : Spot → Option File) (told : (s : Spot) → new s ≡ None → home.file s ≡ None) (node : Node) (refill : Refill) (planned : IsPlannedFor node refill) (may : MayRefill home refill) (both : IsTold home.file node) where
  abbrev log : LogView
  log = refill.log

  abbrev old : Spot → Option File
  old = home.file

  abbrev TellsFile : (Spot → Option File) → Spot → Type 0
  TellsFile file s = (f : File) × (file s ≡ Some f)

  both_owned : IsTold old log.node
  both_owned = subst (IsTold old) (sym planned.owned) both

  told_old : TellsFile old log.current.spot × TellsFile old log.spare.spot
  told_old = at_each (TellsFile old) log may.rest.held.spots (both_owned.0, both_owned.2) (both_owned.1, both_owned.3)

  told_new : TellsFile new log.current.spot × TellsFile new log.spare.spot
  told_new = (still_told old new told log.current.spot told_old.0.0 told_old.0.1, still_told old new told log.spare.spot told_old.1.0 told_old.1.1)

  -- the other part of the other part
  same_part : 1 - (1 - planned.part) ≡ planned.part
  same_part = let h = planned.one_of_two in omega (arith, h)

  was_current : IsCurrentOf node oldest log.generation told_old.0.0.bytes told_old.1.0.bytes planned.items
  was_current =
      subst (λ (n : Node). IsCurrentOf n oldest log.generation told_old.0.0.bytes told_old.1.0.bytes planned.items) planned.owned
      (subst (λ v. IsCurrentOf log.node v log.generation told_old.0.0.bytes told_old.1.0.bytes planned.items) planned.old
      (held_current home log planned.items told_old.0.0 told_old.1.0 may.rest.held planned.ordered told_old.0.1 told_old.1.1))

  abbrev was : IsOldNode old node
  was = record {
    part = planned.part;
    generation = log.generation;
    items = planned.items;
    is = record {
      one_of_two = planned.one_of_two;
      this = told_old.0.0;
      that = told_old.1.0;
      this_is = ap old (sym planned.current) ∙ told_old.0.1;
      that_is = ap old (sym planned.spare) ∙ told_old.1.1;
      short = may.rest.short.0 told_old.0.0 told_old.0.1;
      that_short = may.rest.short.1 told_old.1.0 told_old.1.1;
      current = was_current;
    };
  }

  pub was_old : IsOldNode old node
  was_old = was

  -- the old file is as it was
  kept_so : new log.current.spot ≡ old log.current.spot → new (spot_of node planned.part) ≡ old (spot_of node planned.part)
  kept_so kept = subst (λ (s : Spot). new s ≡ old s) planned.current kept

  abbrev still_old : (so : Items → List ℕ → List ℕ → Type 0) → IsLeftSo so log old new → IsOldCurrent log planned.items told_new.0.0.bytes told_new.1.0.bytes → IsUnfilledIn old new node
  still_old so left current = record {
    was = was;
    now = record {
      one_of_two = planned.one_of_two;
      this = told_new.0.0;
      that = told_new.1.0;
      this_is = ap new (sym planned.current) ∙ told_new.0.1;
      that_is = ap new (sym planned.spare) ∙ told_new.1.1;
      short = left.short.0 told_new.0.0 told_new.0.1;
      that_short = left.short.1 told_new.1.0 told_new.1.1;
      current =
          subst (λ (n : Node). IsCurrentOf n oldest log.generation told_new.0.0.bytes told_new.1.0.bytes planned.items) planned.owned
          (subst (λ v. IsCurrentOf log.node v log.generation told_new.0.0.bytes told_new.1.0.bytes planned.items) planned.old current);
    };
    kept = kept_so left.kept;
  }

  room_told : (log.generation ≡ 4294967295 → ⊥) → IsTooLong 0 (reverse (migrated node (newest_first planned.items))) → IsOverfull log refill.records
  room_told below long =
      inl (subst (λ (n : Node). IsTooLong 0 (Header n (log.generation + 1) ∷ refill.records)) (sym planned.owned) (subst (λ (rs : List Record). IsTooLong 0 rs) (sym (planned.records below)) long))

  fits_so : (IsOverfull log refill.records → ⊥) → HasNoRoom was → ⊥
  fits_so fits (inl long) = fits (room_told (λ last. fits (inr last)) long)
  fits_so fits (inr last) = fits (inr last)

  now_new : (so : Items → List ℕ → List ℕ → Type 0) → IsLeftSo so log old new → (IsOverfull log refill.records → ⊥) → IsNewCurrent log refill.records told_new.0.0.bytes told_new.1.0.bytes → IsFilledIn old new node
  now_new so left fits current = record {
    was = was;
    now = record {
      one_of_two = omega arith;
      this = told_new.1.0;
      that = told_new.0.0;
      this_is = ap new (sym planned.spare) ∙ told_new.1.1;
      that_is = ap (λ p. new (spot_of node p)) same_part ∙ ap new (sym planned.current) ∙ told_new.0.1;
      short = left.short.1 told_new.1.0 told_new.1.1;
      that_short = left.short.0 told_new.0.0 told_new.0.1;
      current =
          subst (λ (rs : List Record). IsCurrentOf node newest (log.generation + 1) told_new.1.0.bytes told_new.0.0.bytes (placed_from 5 rs)) (planned.records (λ last. fits (inr last)))
          (subst (λ (n : Node). IsCurrentOf n newest (log.generation + 1) told_new.1.0.bytes told_new.0.0.bytes (placed_from 5 (Header n (log.generation + 1) ∷ refill.records))) planned.owned current);
    };
    kept = kept_so left.kept;
    fits = fits_so fits;
  }

  pub filled_in : IsRefilled old new refill → IsFilledIn old new node
  filled_in f = now_new _ f.0 f.1 (f.0.current planned.items planned.ordered told_new.0.0 told_new.1.0 told_new.0.1 told_new.1.1)

  abbrev unfilled_so : IsStillOld log old new → IsUnfilledIn old new node
  unfilled_so f = still_old (IsOldCurrent log) f (f.current planned.items planned.ordered told_new.0.0 told_new.1.0 told_new.0.1 told_new.1.1)

  pub unfilled_in : IsStillOld log old new → IsUnfilledIn old new node
  unfilled_in f = unfilled_so f

  pub either_in : IsOldOrNew log refill.records old new → IsUnfilledIn old new node ⊎ IsFilledIn old new node
  either_in f = elim (f.current planned.items planned.ordered told_new.0.0 told_new.1.0 told_new.0.1 told_new.1.1) [
    | inl current ↦ inl (still_old _ f current)
    | inr current ↦ inr (now_new _ f current.1 current.0)
  ]

  no_room : IsOverfull log refill.records → HasNoRoom was
  no_room (inr last) = inr last
  no_room (inl long) = by (log.generation == 4294967295) refl long
    where
      by : (b : Bool) → (log.generation == 4294967295) ≡ b → IsTooLong 0 (Header log.node (log.generation + 1) ∷ refill.records) → HasNoRoom was
      by true e long = inr (eqb-true log.generation 4294967295 e)
      by false e long =
          inl (subst (λ (rs : List Record). IsTooLong 0 rs) (planned.records (eqb-false log.generation 4294967295 e))
          (subst (λ (n : Node). IsTooLong 0 (Header n (log.generation + 1) ∷ refill.records)) planned.owned long))

  pub full_in : (spot : Spot) → IsStillOld log old new → spot ≡ log.spare.spot → IsOverfull log refill.records → IsFullNode old new spot node
  full_in spot f at full = record { unfilled = unfilled_so f; at = at ∙ planned.spare; full = no_room full }

  pub spare_of : (spot : Spot) → spot ≡ log.spare.spot → IsSpotOf node spot
  spare_of spot at = by may.rest.held.spots
    where
      by : HasSpots log → IsSpotOf node spot
      by (inl spots) = inr (at ∙ spots.1 ∙ ap (λ (n : Node). spot_of n 1) planned.owned)
      by (inr spots) = inl (at ∙ spots.1 ∙ ap (λ (n : Node). spot_of n 0) planned.owned)

-- ---- all logs of a plan

module _ (home : HomeView) (plan : List Refill) (new : Spot → Option File) (told : (s : Spot) → new s ≡ None → home.file s ≡ None) (are : ArePlanned home.file all_nodes plan) (may : AllByRecursion (MayRefill home) plan)
    (all_told : AllByRecursion (IsTold home.file) all_nodes) (stand : AllStand home.file) where
  abbrev before : Spot → Option File
  before = home.file

  -- what is known of a log of the plan
  abbrev IsKnown : Refill → Type 0
  IsKnown x = IsPlannedFor (refill_node x) x × MayRefill home x × IsTold before (refill_node x)

  own_planned : (nodes : List Node) (xs : List Refill) → ArePlanned before nodes xs → AllByRecursion (λ (x : Refill). IsPlannedFor (refill_node x) x) xs
  own_planned [] xs none = subst (AllByRecursion (λ (x : Refill). IsPlannedFor (refill_node x) x)) (sym none) tt
  own_planned (n ∷ nodes) xs (inl fresh) = own_planned nodes xs fresh.1
  own_planned (n ∷ nodes) xs (inr found) =
      subst (AllByRecursion (λ (x : Refill). IsPlannedFor (refill_node x) x)) (sym found.2)
      (subst (λ (m : Node). IsPlannedFor m found.0) (sym found.3.owned) found.3, own_planned nodes found.1 found.4)

  zip_known : (xs : List Refill) → AllByRecursion (λ (x : Refill). IsPlannedFor (refill_node x) x) xs → AllByRecursion (MayRefill home) xs → AllByRecursion (IsTold before) (map refill_node xs) → AllByRecursion IsKnown xs
  zip_known [] a b c = tt
  zip_known (x ∷ xs) a b c = ((a.0, b.0, c.0), zip_known xs a.1 b.1 c.1)

  known : AllByRecursion IsKnown plan
  known = zip_known plan (own_planned all_nodes plan are) may (on_plan (IsTold before) before all_nodes plan are all_told)

  -- the nodes of version 1 are those of the plan
  olds_among : (nodes : List Node) (xs : List Refill) → ArePlanned before nodes xs → AllByRecursion (MayRefill home) xs → AllByRecursion (IsTold before) nodes → AreOldAmong before nodes (map refill_node xs)
  olds_among [] xs none may_xs told_nodes = ap (map refill_node) none
  olds_among (n ∷ nodes) xs (inl fresh) may_xs told_nodes = inl (fresh.0, olds_among nodes xs fresh.1 may_xs told_nodes.1)
  olds_among (n ∷ nodes) xs (inr found) may_xs told_nodes =
      let here = subst (AllByRecursion (MayRefill home)) found.2 may_xs in
      inr (
        map refill_node found.1,
        ap (map refill_node) found.2 ∙ ap (λ (m : Node). m ∷ map refill_node found.1) found.3.owned,
        was_old home before (λ s none. none) n found.0 found.3 here.0 told_nodes.0,
        olds_among nodes found.1 found.4 here.1 told_nodes.1,
      )

  olds : AreOldAmong before all_nodes (map refill_node plan)
  olds = olds_among all_nodes plan are may all_told

  all_filled : (xs : List Refill) → AllByRecursion IsKnown xs → AllByRecursion (IsRefilled before new) xs → AllByRecursion (IsFilledIn before new) (map refill_node xs)
  all_filled [] k f = tt
  all_filled (x ∷ xs) k f = (filled_in home new told (refill_node x) x k.0.0 k.0.1 k.0.2 f.0, all_filled xs k.1 f.1)

  only_nodes : (xs : List Refill) → OnlyTheseChange xs before new → OnlyNodesChange (map refill_node xs) before new
  only_nodes xs only s none = only s (on_logs xs none)
    where
      on_logs : (ys : List Refill) → AllByRecursion (λ n. IsSpotOf n s → ⊥) (map refill_node ys) → AllByRecursion (λ (y : Refill). IsSpotOf (refill_node y) s → ⊥) ys
      on_logs [] all = tt
      on_logs (y ∷ ys) all = (all.0, on_logs ys all.1)

  pub done_whole : (n : ℕ) → n ≡ length plan → AllByRecursion (IsRefilled before new) plan → OnlyTheseChange plan before new → IsMigrated before new (Ok n)
  done_whole n many filled only = record {
    stand = stand;
    olds = map refill_node plan;
    among = olds;
    many = many ∙ sym (length-map plan refill_node);
    filled = all_filled plan known filled;
    only = only_nodes plan only;
  }

  module _ (fault : MigrateFault) (cut : AreCutAt plan before new fault) where
    known_split : AllByRecursion IsKnown (cut.before ++ cut.at ∷ cut.behind)
    known_split = subst (AllByRecursion IsKnown) cut.split known

    at_known : IsKnown cut.at
    at_known = (all_back IsKnown cut.before (cut.at ∷ cut.behind) known_split).0

    up_to : (left : Node → Type 0) → left (refill_node cut.at) → AreFilledUpTo before new left
    up_to left here = record {
      stand = stand;
      done = map refill_node cut.before;
      at = refill_node cut.at;
      behind = map refill_node cut.behind;
      among = subst (AreOldAmong before all_nodes) (ap (map refill_node) cut.split ∙ map-append refill_node cut.before (cut.at ∷ cut.behind)) olds;
      filled = all_filled cut.before (all_front IsKnown cut.before (cut.at ∷ cut.behind) known_split) cut.filled;
      here = here;
      only = subst (λ (ns : List Node). OnlyNodesChange ns before new) (map-append refill_node cut.before (cut.at ∷ [])) (only_nodes (cut.before ++ cut.at ∷ []) cut.only);
    }

  pub done_partly : (fault : MigrateFault) → AreCutAt plan before new fault → IsMigrated before new (Err fault)
  done_partly (Device spot) cut =
      let k = at_known (Device spot) cut in
      inr (up_to (Device spot) cut (λ node. IsSpotOf node spot × (IsUnfilledIn before new node ⊎ IsFilledIn before new node))
      (spare_of home new told (refill_node cut.at) cut.at k.0 k.1 k.2 spot cut.left.1, either_in home new told (refill_node cut.at) cut.at k.0 k.1 k.2 cut.left.0))
  done_partly (Bad spot place) cut = absurd cut.left
  done_partly (Full spot) cut =
      let k = at_known (Full spot) cut in
      inr (up_to (Full spot) cut (IsFullNode before new spot) (full_in home new told (refill_node cut.at) cut.at k.0 k.1 k.2 spot cut.left.0 cut.left.1 cut.left.2))
  done_partly Memory cut =
      let k = at_known Memory cut in
      inr (up_to Memory cut (IsUnfilledIn before new) (unfilled_in home new told (refill_node cut.at) cut.at k.0 k.1 k.2 cut.left))

  pub outcome : (after : HomeView) → after.file ≡ new → (result : Result ℕ MigrateFault) → AreRefilledAs plan home after result → IsMigrated before new result
  outcome after is (Ok n) f =
      done_whole n f.0 (subst (λ (file : Spot → Option File). AllByRecursion (IsRefilled before file) plan) is f.1) (subst (OnlyTheseChange plan before) is f.2)
  outcome after is (Err fault) f = done_partly fault (subst (λ (file : Spot → Option File). AreCutAt plan before file fault) is f)

-- the logs were read before
pub outcome_read : (old mid new : HomeView) (plan : List Refill) (result : Result ℕ MigrateFault) → OnlyReads old mid → ArePlanned old.file all_nodes plan → AllByRecursion (MayRefill mid) plan → AllStand old.file
    → ((s : Spot) → new.file s ≡ None → mid.file s ≡ None) → AreRefilledAs plan mid new result → AreTold old.file most_members most_coordinators → IsMigrated old.file new.file result
outcome_read old mid new plan result reads are may stand told refilled all_told =
    let same : mid.file ≡ old.file = same_files mid.file old.file reads.files in
    subst (λ (f : Spot → Option File). IsMigrated f new.file result) same
    (outcome mid plan new.file told (subst (λ (f : Spot → Option File). ArePlanned f all_nodes plan) (sym same) are) may
    (subst (λ (f : Spot → Option File). AllByRecursion (IsTold f) all_nodes) (sym same) (subst (AllByRecursion (IsTold old.file)) (sym all_nodes_are) all_told))
    (subst AllStand (sym same) stand) new refl result refilled)

-- nothing was planned
pub unplanned_outcome : (old new : HomeView) (fault : WorldFault) → OnlyReads old new → IsUnplanned old.file fault → IsMigrated old.file new.file (Err (migrate_fault fault))
unplanned_outcome old new (world.Device spot) reads is = inl reads.files
unplanned_outcome old new (world.Differs spot at kept other) reads is = absurd is
unplanned_outcome old new (world.InUse spot) reads is = absurd is
unplanned_outcome old new (world.Bad spot at) reads is = (reads.files, is)
unplanned_outcome old new (world.Full spot) reads is = inl (reads.files, is)
unplanned_outcome old new world.Count reads is = absurd is
unplanned_outcome old new (world.Old spot) reads is = absurd is
unplanned_outcome old new world.Memory reads is = inl reads.files

-- a clean file stays so behind calls that leave all files
pub clean_behind : {T : Type 0} (old mid new : HomeView) (result : Result T MigrateFault) → ((s : Spot) → mid.file s ≡ old.file s) → OnOk result (StaysClean mid new) → OnOk result (StaysClean old new)
clean_behind old mid new (Ok x) same stays = λ s clean. stays s (λ f is. clean f (sym (same s) ∙ is))
clean_behind old mid new (Err e) same stays = tt

pub refilled_clean : (plan : List Refill) (old new : HomeView) (result : Result ℕ MigrateFault) → AreRefilledAs plan old new result → OnOk result (StaysClean old new)
refilled_clean plan old new (Ok n) f = f.3
refilled_clean plan old new (Err e) f = tt
