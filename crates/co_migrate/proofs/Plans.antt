-- Logs as they are attached and told, and the plan that is made of them.
use Rattle.std.proofs.Common.{◌≡◌, inl, inr, ℕ, zero, suc, ◌+◌, ◌≤◌, ◌<◌, ◌==◌, if◌then◌else◌, Bool, true, false, List, [], ◌∷◌, ◌++◌, length, Option, None, refl, sym, ap, subst, ◌∙◌, arith}
use Rattle.std.proofs.lemmas.Bool.{eqb-true, eqb-false}
use Rattle.std.proofs.lemmas.List.{length-append, reverse-reverse}
use Rattle.std.specs.List.{AllByRecursion}
use Rattle.std.specs.Prelude.{reverse}
use Rattle.co_base.specs.Limits.{most_coordinators, most_log_bytes, most_members}
use Rattle.co_base.specs.declared.node.Node.{Node}
use Rattle.co_base.specs.declared.node.Node.TheVariants.{Member, Coord}
use Rattle.co_outside.specs.Home.{File, HomeView}
use Rattle.co_outside.specs.declared.spot.Spot.{Spot}
use Rattle.co_record.specs.declared.record.Record.{Record}
use Rattle.co_record.specs.declared.record.Record.TheVariants.{Header}
use Rattle.co_record.specs.Format.{newest, oldest}
use Rattle.co_record.specs.Spelling.{IsWritable}
use Rattle.co_log.specs.Attaching.{IsWithin}
use Rattle.co_log.specs.Current.{BeginsWith, IsOrdered}
use Rattle.co_log.specs.LogView.{LogView, HasSpots, spot_of}
use Rattle.co_log.specs.NodeFiles.{newest_first}
use Rattle.co_log.specs.LogFile.{records_of}
use Rattle.co_log.specs.Others.{BothWithin}
use Rattle.co_log.proofs.Ordered.{attached_unarmed}
use Rattle.co_log.proofs.Spots.{at_each}
use Rattle.co_node.proofs.Standing.{generation_within}
use Rattle.co_plain.specs.CoordView.{first_refused_at_coord}
use Rattle.co_plain.specs.MemberView.{first_refused_at_member}
use Rattle.co_recover.specs.declared.past.CoordPast.{CoordPast}
use Rattle.co_recover.specs.declared.past.MemberPast.{MemberPast}
use Rattle.co_durable.specs.Nodes.{numbered}
use Rattle.co_durable.specs.Pairs.{EachPair}
use Rattle.co_durable.specs.Recovering.{IsPastOf}
use Rattle.co_durable.proofs.Pairs.{all_append, all_map}
use Rattle.co_law_node.specs.Writable.{IsWithinBounds}
use Rattle.co_law_node.proofs.WritableMembers.{in_bounds}
use Rattle.co_law_migrate.specs.Migrated.{migrated}
use Rattle.co_law_migrate.proofs.Told.{member_within, coord_within}
use Rattle.co_opening.specs.Attached.{IsAttachedTo}
use Rattle.co_opening.specs.Kept.{IsOwnLog, AreOwnLogs}
use Rattle.co_opening.specs.Standing.{IsCoordPastOf}
use Rattle.co_opening.specs.Versions.{IsNewIn, IsOfVersion}
use Rattle.co_opening.proofs.Founds.{IsRead, read, read_writable}
use Rattle.co_opening.proofs.Stays.{own_log}
use Rattle.co_migrate.specs.declared.planning.Refill.{Refill}
use Rattle.co_migrate.specs.Planning.{planned, IsPlannedFor, ArePlanned}
use Rattle.co_migrate.specs.Refilling.{IsAtRest, MayRefill}
use Rattle.co_migrate.specs.Telling.{member_again, coord_again}
use Rattle.co_migrate.proofs.ToldAgain.{next_of, member_told, member_fillable, coord_told, coord_fillable}

-- a log with its node, as it is kept
abbrev IsKeptLog : HomeView → LogView → Type 0
IsKeptLog home log = IsOwnLog home log.node log

pub kept_logs : (home : HomeView) (node : ℕ → Node) (p : ℕ) (logs : List LogView) → AreOwnLogs home node p logs → AllByRecursion (IsKeptLog home) logs
kept_logs home node p [] own = tt
kept_logs home node p (l ∷ logs) own = (own_log (node (suc p)) home l own.0, kept_logs home node (suc p) logs own.1)

module _ (file : Spot → Option File) (home : HomeView) (node : Node) (log : LogView) (att : IsAttachedTo file true node log) (own : IsKeptLog home log) where
  r : IsRead file node log
  r = read file node log att.valid att.is

  -- a log of version 2
  pub new_in : (log.version == oldest) ≡ false → IsNewIn file node
  new_in new =
      let known = r.known in
      let other : log.version ≡ oldest → ⊥ = eqb-false log.version oldest new in
      let latest : log.version ≡ newest = omega (arith, known, other) in
      (r.part, subst (λ v. IsOfVersion file node r.part v) latest r.versions)

  owned : log.node ≡ node
  owned = (attached_unarmed node att.is.a att.is.b log att.is.attached).0

  module _ (old : (log.version == oldest) ≡ true) where
    is_old : log.version ≡ oldest
    is_old = eqb-true log.version oldest old

    ordered : IsOrdered log r.items
    ordered = elim r.either [
      | inl fresh ↦ absurd (let e : 1 ≡ 2 = sym is_old ∙ fresh.0.version in omega (arith, e))
      | inr o ↦ o
    ]

    begins : BeginsWith node log.generation r.items
    begins = subst (λ (n : Node). BeginsWith n log.generation r.items) owned ordered.header

    bound : log.generation < 4294967296
    bound = generation_within log.node log.version log.generation 0 ordered.live.ends.batches r.items ordered.header ordered.live.ends.holds

    short : BothWithin home.file log
    short = at_each (λ s. IsWithin most_log_bytes (home.file s)) log own.kept.held.spots own.kept.within.a own.kept.within.b

    at_rest : IsAtRest home log
    at_rest = record { held = own.kept.held; items = r.items; ordered = ordered; unarmed = (attached_unarmed node att.is.a att.is.b log att.is.attached).2; short = short }

    written : AllByRecursion IsWritable (newest_first r.items)
    written = read_writable _ r.items r.has

    plans : (refill : Refill) → refill.log ≡ log → ((log.generation ≡ 4294967295 → ⊥) → Header node (log.generation + 1) ∷ refill.records ≡ reverse (migrated node (newest_first r.items))) → IsPlannedFor node refill
    plans refill is told = by own.kept.held.spots
      where
        by : HasSpots log → IsPlannedFor node refill
        by (inl spots) =
            subst (λ (l : LogView). IsPlannedFor node (record { log = l; records = refill.records })) (sym is) record {
              owned = owned;
              part = 0;
              one_of_two = omega arith;
              current = spots.0 ∙ ap (λ (n : Node). spot_of n 0) owned;
              spare = spots.1 ∙ ap (λ (n : Node). spot_of n 1) owned;
              old = is_old;
              items = r.items;
              ordered = ordered;
              records = told;
            }
        by (inr spots) =
            subst (λ (l : LogView). IsPlannedFor node (record { log = l; records = refill.records })) (sym is) record {
              owned = owned;
              part = 1;
              one_of_two = omega arith;
              current = spots.0 ∙ ap (λ (n : Node). spot_of n 1) owned;
              spare = spots.1 ∙ ap (λ (n : Node). spot_of n 0) owned;
              old = is_old;
              items = r.items;
              ordered = ordered;
              records = told;
            }

-- ---- one node

-- how a log is planned that is of version 1
abbrev IsPlannedBy : (Spot → Option File) → HomeView → Node → Refill → Type 0
IsPlannedBy file home node refill = IsPlannedFor node refill × MayRefill home refill

module _ (file : Spot → Option File) (home : HomeView) (log : LogView) (own : IsKeptLog home log) (old : (log.version == oldest) ≡ true) where
  member_planned : (m : ℕ) (past : MemberPast) → IsAttachedTo file true (Member m) log → IsPastOf most_coordinators log past → IsPlannedBy file home (Member m) (record { log = log; records = member_again past })
  member_planned m past att told_past =
      let f = r file home (Member m) log att own in
      let told = told_past f.items f.has in
      let rs = newest_first f.items in
      let allowed : first_refused_at_member most_coordinators (reverse (newest_first f.items)) ≡ None = ap (first_refused_at_member most_coordinators) (reverse-reverse (records_of f.items)) ∙ told.0 in
      let within = member_within most_coordinators m rs (omega arith) att.valid allowed (all_map IsWritable IsWithinBounds in_bounds rs (written file home (Member m) log att own old)) in (
        plans file home (Member m) log att own old (record { log = log; records = member_again past }) refl
            (λ below. member_told m log.generation rs past told.1 (next_of (Member m) log.generation f.items (begins file home (Member m) log att own old) (bound file home (Member m) log att own old) below)),
        record { rest = at_rest file home (Member m) log att own old; fillable = member_fillable m rs past told.1 within },
      )

  coord_planned : (c : ℕ) (past : CoordPast) → IsAttachedTo file true (Coord c) log → IsCoordPastOf most_members log past → IsPlannedBy file home (Coord c) (record { log = log; records = coord_again past })
  coord_planned c past att told_past =
      let f = r file home (Coord c) log att own in
      let told = told_past f.items f.has in
      let rs = newest_first f.items in
      let allowed : first_refused_at_coord most_members (reverse (newest_first f.items)) ≡ None = ap (first_refused_at_coord most_members) (reverse-reverse (records_of f.items)) ∙ told.0 in
      let within = coord_within most_members c rs (omega arith) att.valid allowed (written file home (Coord c) log att own old) in (
        plans file home (Coord c) log att own old (record { log = log; records = coord_again past }) refl
            (λ below. coord_told c log.generation rs past told.1 (next_of (Coord c) log.generation f.items (begins file home (Coord c) log att own old) (bound file home (Coord c) log att own old) below)),
        record { rest = at_rest file home (Coord c) log att own old; fillable = coord_fillable c rs past told.1 within },
      )

-- ---- many nodes

-- a plan, and that its logs may be filled
abbrev IsPlan : (Spot → Option File) → HomeView → List Node → List Refill → Type 0
IsPlan file home nodes plan = ArePlanned file nodes plan × AllByRecursion (MayRefill home) plan

module _ {P : Type 0} (file : Spot → Option File) (home : HomeView) (IsSort : Node → Type 0) (again : P → List Record) (Told : LogView → P → Type 0)
    (one : (node : Node) (log : LogView) (past : P) → IsSort node → IsAttachedTo file true node log → Told log past → IsKeptLog home log → (log.version == oldest) ≡ true → IsPlannedBy file home node (record { log = log; records = again past })) where
  plan_is : (nodes : List Node) (logs : List LogView) (pasts : List P) → AllByRecursion IsSort nodes → EachPair (IsAttachedTo file true) nodes logs → EachPair Told logs pasts → AllByRecursion (IsKeptLog home) logs
      → IsPlan file home nodes (planned again logs pasts)
  plan_is [] [] pasts sorts att told own = (refl, tt)
  plan_is [] (l ∷ logs) pasts sorts att told own = absurd att
  plan_is (n ∷ nodes) [] pasts sorts att told own = absurd att
  plan_is (n ∷ nodes) (l ∷ logs) [] sorts att told own = absurd told
  plan_is (n ∷ nodes) (l ∷ logs) (p ∷ pasts) sorts att told own = by (plan_is nodes logs pasts sorts.1 att.1 told.1 own.1) (l.version == oldest) refl
    where
      by : IsPlan file home nodes (planned again logs pasts) → (b : Bool) → (l.version == oldest) ≡ b → IsPlan file home (n ∷ nodes) (if b then record { log = l; records = again p } ∷ planned again logs pasts else planned again logs pasts)
      by rest true old = let f = one n l p sorts.0 att.0 told.0 own.0 old in (inr (record { log = l; records = again p }, planned again logs pasts, refl, f.0, rest.0), (f.1, rest.1))
      by rest false new = (inl (new_in file home n l att.0 own.0 new, rest.0), rest.1)

  few_planned : (logs : List LogView) (pasts : List P) → length (planned again logs pasts) ≤ length logs
  few_planned [] pasts = omega arith
  few_planned (l ∷ logs) [] = omega arith
  few_planned (l ∷ logs) (p ∷ pasts) = by (few_planned logs pasts) (l.version == oldest)
    where
      by : length (planned again logs pasts) ≤ length logs → (b : Bool) → length (if b then record { log = l; records = again p } ∷ planned again logs pasts else planned again logs pasts) ≤ suc (length logs)
      by rest true = omega (arith, rest)
      by rest false = omega (arith, rest)

-- two plans behind one another
planned_both : (file : Spot → Option File) (xs ys : List Node) (plan more : List Refill) → ArePlanned file xs plan → ArePlanned file ys more → ArePlanned file (xs ++ ys) (plan ++ more)
planned_both file [] ys plan more none rest = subst (λ (p : List Refill). ArePlanned file ys (p ++ more)) (sym none) rest
planned_both file (x ∷ xs) ys plan more (inl new) rest = inl (new.0, planned_both file xs ys plan more new.1 rest)
planned_both file (x ∷ xs) ys plan more (inr old) rest = inr (old.0, old.1 ++ more, ap (λ (p : List Refill). p ++ more) old.2, old.3, planned_both file xs ys old.1 more old.4 rest)

abbrev IsMemberNode : Node → Type 0
IsMemberNode (Member m) = Unit {0}
IsMemberNode (Coord c) = ⊥

abbrev IsCoordNode : Node → Type 0
IsCoordNode (Member m) = ⊥
IsCoordNode (Coord c) = Unit {0}

all_numbered : (P : Node → Type 0) (one : ℕ → Node) → ((n : ℕ) → P (one n)) → (count : ℕ) → AllByRecursion P (numbered one count)
all_numbered P one f zero = tt
all_numbered P one f (suc count) = all_append P (numbered one count) (one (suc count) ∷ []) (all_numbered P one f count) (f (suc count), tt)

module _ (file : Spot → Option File) (home : HomeView) where
  one_member : (node : Node) (log : LogView) (past : MemberPast) → IsMemberNode node → IsAttachedTo file true node log → IsPastOf most_coordinators log past → IsKeptLog home log → (log.version == oldest) ≡ true
      → IsPlannedBy file home node (record { log = log; records = member_again past })
  one_member (Member m) log past sort att told own old = member_planned file home log own old m past att told
  one_member (Coord c) log past sort att told own old = absurd sort

  one_coord : (node : Node) (log : LogView) (past : CoordPast) → IsCoordNode node → IsAttachedTo file true node log → IsCoordPastOf most_members log past → IsKeptLog home log → (log.version == oldest) ≡ true
      → IsPlannedBy file home node (record { log = log; records = coord_again past })
  one_coord (Member m) log past sort att told own old = absurd sort
  one_coord (Coord c) log past sort att told own old = coord_planned file home log own old c past att told

  module _ (member_logs coord_logs : List LogView) (member_pasts : List MemberPast) (coord_pasts : List CoordPast) where
    abbrev pub whole : List Refill
    whole = planned member_again member_logs member_pasts ++ planned coord_again coord_logs coord_pasts

    pub whole_plan : (nodes : List Node) (members coords : ℕ) → nodes ≡ numbered Member members ++ numbered Coord coords
        → EachPair (IsAttachedTo file true) (numbered Member members) member_logs → EachPair (IsAttachedTo file true) (numbered Coord coords) coord_logs
        → EachPair (IsPastOf most_coordinators) member_logs member_pasts → EachPair (IsCoordPastOf most_members) coord_logs coord_pasts
        → AreOwnLogs home Member 0 member_logs → AreOwnLogs home Coord 0 coord_logs → ArePlanned file nodes whole × AllByRecursion (MayRefill home) whole
    whole_plan nodes members coords is ma ca mp cp mo co =
        let ms = plan_is file home IsMemberNode member_again (IsPastOf most_coordinators) one_member (numbered Member members) member_logs member_pasts (all_numbered IsMemberNode Member (λ n. tt) members) ma mp (kept_logs home Member 0 member_logs mo) in
        let cs = plan_is file home IsCoordNode coord_again (IsCoordPastOf most_members) one_coord (numbered Coord coords) coord_logs coord_pasts (all_numbered IsCoordNode Coord (λ n. tt) coords) ca cp (kept_logs home Coord 0 coord_logs co) in (
          subst (λ (ns : List Node). ArePlanned file ns whole) (sym is) (planned_both file (numbered Member members) (numbered Coord coords) _ _ ms.0 cs.0),
          all_append (MayRefill home) (planned member_again member_logs member_pasts) (planned coord_again coord_logs coord_pasts) ms.1 cs.1,
        )

    pub whole_few : (members coords : ℕ) → length member_logs ≡ members → length coord_logs ≡ coords → length whole ≤ members + coords
    whole_few members coords m c =
        let ms = few_planned file home IsMemberNode member_again (IsPastOf most_coordinators) one_member member_logs member_pasts in
        let cs = few_planned file home IsCoordNode coord_again (IsCoordPastOf most_members) one_coord coord_logs coord_pasts in
        let e = length-append (planned member_again member_logs member_pasts) (planned coord_again coord_logs coord_pasts) in
        omega (arith, m, c, ms, cs, e)
