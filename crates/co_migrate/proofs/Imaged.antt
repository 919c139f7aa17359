-- What an image of a crash within a migration holds.
use Rattle.std.proofs.Common.{◌≡◌, ◌⊎◌, inl, inr, ℕ, zero, suc, ◌+◌, ◌-◌, ◌<◌, ◌≤◌, Bool, true, false, List, [], ◌∷◌, ◌++◌, length, Option, Err, if◌then◌else◌, refl, sym, ap, subst, ◌∙◌, arith}
use Rattle.std.specs.Prelude.{nat_le, reverse}
use Rattle.std.specs.List.{AllByRecursion}
use Rattle.std.proofs.lemmas.Bool.{cases_lt}
use Rattle.std.proofs.lemmas.List.{reverse-reverse}
use Rattle.co_base.specs.Limits.{most_coordinators, most_log_bytes, most_members}
use Rattle.co_base.specs.Nodes.{IsValidNode}
use Rattle.co_base.specs.declared.node.Node.{Node}
use Rattle.co_base.specs.declared.node.Node.TheVariants as node
use Rattle.co_disk.specs.DiskModel.{DiskState, IsImage, read_of, stable_disk, after_write}
use Rattle.co_disk.proofs.Gets.{length_overlaid}
use Rattle.co_frame.specs.Gate.{begins_closed}
use Rattle.co_frame.specs.LogText.{closed_gate, open_gate}
use Rattle.co_log.specs.Attaching.{IsOlder}
use Rattle.co_log.specs.BatchWrite.{batch_pending, closed_batch, disk_at, gate_pending}
use Rattle.co_log.specs.Current.{BeginsWith}
use Rattle.co_log.specs.LogFile.{EndsAfter, EndsAt, OldOrBoth, next_gate, placed_from, records_of, spelled}
use Rattle.co_log.specs.LogView.{spot_of}
use Rattle.co_log.specs.NodeFiles.{HasRecordsIn, Items, newest_first}
use Rattle.co_log.specs.Spare.{IsSpareImage}
use Rattle.co_log.proofs.Appends.{behind_batch, is_batch, told_ends}
use Rattle.co_log.proofs.Currents.{image_older, log_file, none_older}
use Rattle.co_log.proofs.Files.{gate_within}
use Rattle.co_log.proofs.Unmade.{closed_first, ends_at_once, spare_images}
use Rattle.co_log.proofs.Versions.{newest_known}
use Rattle.co_node.proofs.Standing.{generation_within}
use Rattle.co_outside.specs.Home.{File}
use Rattle.co_outside.specs.declared.spot.Spot.{Spot}
use Rattle.co_plain.specs.CoordView.{first_refused_at_coord, recovered_commits}
use Rattle.co_plain.specs.MemberView.{first_refused_at_member, recovered_view}
use Rattle.co_plain.specs.Opening.{Found}
use Rattle.co_plain.specs.SoundLogs.{AreSound}
use Rattle.co_record.specs.Format.{oldest}
use Rattle.co_record.specs.Spelling.{IsSpelled, IsSpelledIn}
use Rattle.co_record.specs.declared.record.Record.{Record}
use Rattle.co_record.proofs.Records.{widened}
use Rattle.co_recover.specs.Recovered.{past_of_coord, past_of_member}
use Rattle.co_durable.specs.Durable.{Stands}
use Rattle.co_durable.specs.Nodes.{numbered}
use Rattle.co_durable.specs.Recovering.{coord_refuses, member_refuses}
use Rattle.co_durable.specs.Told.{AreTold, IsTold}
use Rattle.co_durable.proofs.Firsts.{all_back, all_front}
use Rattle.co_durable.proofs.Pairs.{all_append, all_map}
use Rattle.co_durable.proofs.ReadOnce.{records_once}
use Rattle.co_law_migrate.specs.Migrated.{migrated}
use Rattle.co_opening.specs.Found.{AreFound}
use Rattle.co_opening.specs.Rest.{IsSpotOf}
use Rattle.co_migrate.specs.declared.fault.MigrateFault.TheVariants.{Device}
use Rattle.co_migrate.specs.Images.{IsAtClosing, shut_spare, IsAtFilling, IsAtCall, IsCutIn, IsCutMigration}
use Rattle.co_migrate.specs.Kept.{records_in, KeepsRecords}
use Rattle.co_migrate.specs.Migrating.{all_nodes, AllStand, HasNoRoom, IsFilledIn, IsMigrated, IsOldNode, IsUnfilledIn}
use Rattle.co_migrate.proofs.Apart.{all_nodes_are}
use Rattle.co_migrate.proofs.Grammar.{StandsAlone, held_spelled, migrated_spelled}
use Rattle.co_migrate.proofs.Keeping.{all_valid, current_in, keeps_records, olds_all}
use Rattle.co_migrate.proofs.ToldAgain.{all_turned, coord_told, member_told, next_of}

-- ---- the spare file

-- the gate of a spare file that is closed is
shut_ends : (spare : List ℕ) → EndsAt (shut_spare spare) 0 []
shut_ends spare = by (begins_closed spare) refl
  where
    by : (b : Bool) → begins_closed spare ≡ b → EndsAt (if b then spare else read_of (after_write (stable_disk spare) 0 (closed_gate ∷ []))) 0 []
    by true e = ends_at_once spare e
    by false e = closed_first spare

shut_short : (spare : List ℕ) → length spare ≤ most_log_bytes → length (shut_spare spare) ≤ most_log_bytes
shut_short spare short = by (begins_closed spare)
  where
    by : (b : Bool) → length (if b then spare else read_of (after_write (stable_disk spare) 0 (closed_gate ∷ []))) ≤ most_log_bytes
    by true = short
    by false = omega (arith, length_overlaid spare 0 (closed_gate ∷ []) (omega arith), short)

-- a disk at a device call of the filling, and its images
module _ (bytes : List ℕ) (records : List Record) (short : length bytes ≤ most_log_bytes) (room : 6 + length (spelled records) ≤ most_log_bytes) (some : 1 ≤ length bytes) where
  laid_short : length (read_of (batch_pending bytes 0 (closed_batch records))) ≤ most_log_bytes
  laid_short = omega (arith, length_overlaid bytes 1 (closed_batch records) some, behind_batch 0 (closed_batch records) records refl, room, short)

  opened_short : length (read_of (gate_pending bytes 0 (closed_batch records))) ≤ most_log_bytes
  opened_short = omega (arith, length_overlaid (read_of (batch_pending bytes 0 (closed_batch records))) 0 (open_gate ∷ []) (omega arith), laid_short)

  at_short : (call : ℕ) → length (read_of (disk_at call bytes 0 (closed_batch records))) ≤ most_log_bytes
  at_short call = by (nat_le call 2)
    where
      by : (b : Bool) → length (read_of (if b then batch_pending bytes 0 (closed_batch records) else gate_pending bytes 0 (closed_batch records))) ≤ most_log_bytes
      by true = laid_short
      by false = opened_short

  at_ends : (call : ℕ) (image : List ℕ) → EndsAt bytes 0 [] → AllByRecursion IsSpelled records → 0 < length records → IsImage (disk_at call bytes 0 (closed_batch records)) image →
      OldOrBoth image 0 [] records
  at_ends call image ends each first i = told_ends bytes (closed_batch records) image 0 [] records refl each (is_batch 0 records first room) ends (by (nat_le call 2) i)
    where
      by : (b : Bool) → IsImage (if b then batch_pending bytes 0 (closed_batch records) else gate_pending bytes 0 (closed_batch records)) image →
          IsImage (batch_pending bytes 0 (closed_batch records)) image ⊎ IsImage (gate_pending bytes 0 (closed_batch records)) image
      by true i = inl i
      by false i = inr i

-- the records that are filled in begin with a header of the next generation
headed : (owner : Node) (generation : ℕ) (items : Items) → BeginsWith owner generation items → generation < 4294967296 → (generation ≡ 4294967295 → ⊥) →
    BeginsWith owner (generation + 1) (placed_from 5 (reverse (migrated owner (newest_first items))))
headed (node.Member m) generation items begins bound below =
    let rs = newest_first items in
    let told = member_told m generation rs (past_of_member (recovered_view rs)) refl (next_of (node.Member m) generation items begins bound below) in
    subst (λ (ys : List Record). BeginsWith (node.Member m) (generation + 1) (placed_from 5 ys)) told refl
headed (node.Coord c) generation items begins bound below =
    let rs = newest_first items in
    let told = coord_told c generation rs (past_of_coord (recovered_commits rs)) refl (next_of (node.Coord c) generation items begins bound below) in
    subst (λ (ys : List Record). BeginsWith (node.Coord c) (generation + 1) (placed_from 5 ys)) told refl

first_of : (records : List Record) (owner : Node) (generation : ℕ) → BeginsWith owner generation (placed_from 5 records) → 0 < length records
first_of [] owner generation begins = absurd begins
first_of (r ∷ records) owner generation begins = omega arith

-- ---- one node

-- every record of its log is allowed at its place
abbrev Allows : (Spot → Option File) → Node → Type 0
Allows old (node.Member m) = Stands old (member_refuses most_coordinators) (node.Member m)
Allows old (node.Coord c) = Stands old (coord_refuses most_members) (node.Coord c)

stands_alone : (old : Spot → Option File) (owner : Node) (items : Items) → IsTold old owner → Allows old owner → HasRecordsIn old owner items → StandsAlone owner (newest_first items)
stands_alone old (node.Member m) items told allows has =
    ap (first_refused_at_member most_coordinators) (reverse-reverse (records_of items))
    ∙ ap (λ (xs : Items). first_refused_at_member most_coordinators (records_of xs)) (records_once old (node.Member m) items allows.0 told has allows.1) ∙ allows.2
stands_alone old (node.Coord c) items told allows has =
    ap (first_refused_at_coord most_members) (reverse-reverse (records_of items))
    ∙ ap (λ (xs : Items). first_refused_at_coord most_members (records_of xs)) (records_once old (node.Coord c) items allows.0 told has allows.1) ∙ allows.2

module _ (old image : Spot → Option File) (owner : Node) (own : IsValidNode owner) (told : IsTold old owner) (stands : Allows old owner) (cut : IsCutIn old image owner) where
  abbrev was : IsOldNode old owner
  was = cut.was

  abbrev spare : List ℕ
  spare = was.is.that.bytes

  abbrev records : List Record
  records = reverse (migrated owner (newest_first was.items))

  same_part : 1 - (1 - was.part) ≡ was.part
  same_part = let h = was.is.one_of_two in omega (arith, h)

  -- the old file is current, where the image is older
  unfilled : IsOlder owner cut.left.bytes was.generation → length cut.left.bytes ≤ most_log_bytes → IsUnfilledIn old image owner
  unfilled older short = record {
    was = was;
    now = record {
      one_of_two = was.is.one_of_two;
      this = was.is.this;
      that = cut.left;
      this_is = cut.kept ∙ was.is.this_is;
      that_is = cut.left_is;
      short = was.is.short;
      that_short = short;
      current = record {
        gate = was.is.current.gate;
        known = was.is.current.known;
        ends = was.is.current.ends;
        header = was.is.current.header;
        older = older;
      };
    };
    kept = cut.kept;
  }

  bound : was.generation < 4294967296
  bound = generation_within owner oldest was.generation 0 was.is.current.ends.batches was.items was.is.current.header was.is.current.ends.holds

  -- what is filled in is of the grammar
  was_spelled : AllByRecursion (IsSpelledIn oldest) (records_of was.items)
  was_spelled = held_spelled oldest 0 was.is.current.ends.batches was.items was.is.current.ends.holds

  each : 6 + length (spelled records) ≤ most_log_bytes → AllByRecursion IsSpelled records
  each room =
      migrated_spelled owner (newest_first was.items) own
      (stands_alone old owner was.items told stands (was.part, current_in old owner oldest was.generation was.part was.items was.is.one_of_two was.is))
      (all_turned IsSpelled (records_of was.items) (all_map (IsSpelledIn oldest) IsSpelled widened (records_of was.items) was_spelled)) (omega (arith, room))

  begins : (was.generation ≡ 4294967295 → ⊥) → BeginsWith owner (was.generation + 1) (placed_from 5 records)
  begins below = headed owner was.generation was.items was.is.current.header bound below

  -- the image is current, where it has the records
  filled : (was.generation ≡ 4294967295 → ⊥) → 6 + length (spelled records) ≤ most_log_bytes → EndsAfter true cut.left.bytes 0 [] records → length cut.left.bytes ≤ most_log_bytes →
      IsFilledIn old image owner
  filled below room ends short = record {
    was = was;
    now = record {
      one_of_two = omega arith;
      this = cut.left;
      that = was.is.this;
      this_is = cut.left_is;
      that_is = ap (λ p. image (spot_of owner p)) same_part ∙ cut.kept ∙ was.is.this_is;
      short = short;
      that_short = was.is.short;
      current = record {
        gate = next_gate true 0 records;
        known = newest_known;
        ends = ends;
        header = begins below;
        older = inr (
          was.is.current.gate,
          was.generation,
          log_file owner was.generation oldest was.is.current.known was.is.this.bytes was.is.current.gate was.items was.is.current.ends was.is.current.header,
          omega arith,
        );
      };
    };
    kept = cut.kept;
    fits = full;
  }
    where
      full : HasNoRoom was → ⊥
      full (inl long) = omega (arith, room, long)
      full (inr last) = below last

  pub unfilled_or_filled : IsUnfilledIn old image owner ⊎ IsFilledIn old image owner
  unfilled_or_filled = by cut.at
    where
      closing : IsAtClosing spare cut.disk → IsUnfilledIn old image owner
      closing at =
          let is : IsSpareImage spare cut.left.bytes = spare_images spare cut.left.bytes at.0 (subst (λ (d : DiskState). IsImage d cut.left.bytes) at.1 cut.stands) in
          let most : length spare ≤ most_log_bytes = was.is.that_short in
          let long = is.1 in
          unfilled (image_older owner spare cut.left.bytes was.generation was.is.current.older is) (omega (arith, long, most))

      filling : (was.generation ≡ 4294967295 → ⊥) → IsAtFilling spare records cut.disk → IsUnfilledIn old image owner ⊎ IsFilledIn old image owner
      filling below at =
          now (at_ends (shut_spare spare) records most room some at.call cut.left.bytes (shut_ends spare) (each room) (first_of records owner (was.generation + 1) (begins below)) here)
        where
          most : length (shut_spare spare) ≤ most_log_bytes
          most = shut_short spare was.is.that_short

          room : 6 + length (spelled records) ≤ most_log_bytes
          room = in_room (cases_lt most_log_bytes (6 + length (spelled records)))
            where
              in_room : (most_log_bytes < 6 + length (spelled records)) ⊎ (6 + length (spelled records) ≤ most_log_bytes) → 6 + length (spelled records) ≤ most_log_bytes
              in_room (inl long) = absurd (at.room long)
              in_room (inr fits) = fits

          here : IsImage (disk_at at.call (shut_spare spare) 0 (closed_batch records)) cut.left.bytes
          here = subst (λ (d : DiskState). IsImage d cut.left.bytes) at.is cut.stands

          some : 1 ≤ length (shut_spare spare)
          some = gate_within (shut_spare spare) 0 [] (shut_ends spare)

          short : length cut.left.bytes ≤ most_log_bytes
          short = let long = here.no_longer in let all = at_short (shut_spare spare) records most room some at.call in omega (arith, long, all)

          now : OldOrBoth cut.left.bytes 0 [] records → IsUnfilledIn old image owner ⊎ IsFilledIn old image owner
          now (inl none) = inl (unfilled (none_older owner cut.left.bytes was.generation none) short)
          now (inr ends) = inr (filled below room ends short)

      by : IsAtCall was cut.disk → IsUnfilledIn old image owner ⊎ IsFilledIn old image owner
      by (inl at) = inl (closing at)
      by (inr at) = filling at.0 at.1

  -- the file at which the crash came is one of the node
  pub its_spare : IsSpotOf owner (spot_of owner (1 - was.part))
  its_spare = by was.part was.is.one_of_two
    where
      by : (part : ℕ) → part ≤ 1 → IsSpotOf owner (spot_of owner (1 - part))
      by zero h = inr refl
      by (suc zero) h = inl refl
      by (suc (suc part)) h = absurd (omega (arith, h))

-- ---- the directory

-- each node stands
numbered_allow : (old : Spot → Option File) (one : ℕ → Node) (P : Node → Type 0) → ((k : ℕ) → P (one k) → Allows old (one k)) → (count : ℕ) → AllByRecursion P (numbered one count) →
    AllByRecursion (Allows old) (numbered one count)
numbered_allow old one P each zero all = tt
numbered_allow old one P each (suc count) all =
    all_append (Allows old) (numbered one count) (one (suc count) ∷ [])
    (numbered_allow old one P each count (all_front P (numbered one count) (one (suc count) ∷ []) all))
    (each (suc count) (all_back P (numbered one count) (one (suc count) ∷ []) all).0, tt)

all_allow : (old : Spot → Option File) → AllStand old → AllByRecursion (Allows old) all_nodes
all_allow old stand =
    subst (AllByRecursion (Allows old)) (sym all_nodes_are)
    (all_append (Allows old) (numbered node.Member most_members) (numbered node.Coord most_coordinators)
    (numbered_allow old node.Member (Stands old (member_refuses most_coordinators)) (λ k s. s) most_members stand.members)
    (numbered_allow old node.Coord (Stands old (coord_refuses most_members)) (λ k s. s) most_coordinators stand.coords))

all_told : (old : Spot → Option File) → AreTold old most_members most_coordinators → AllByRecursion (IsTold old) all_nodes
all_told old told = subst (AllByRecursion (IsTold old)) (sym all_nodes_are) told

-- what an image leaves is what a migration leaves where the device fails
pub images_left : (old image : Spot → Option File) → AreTold old most_members most_coordinators → IsCutMigration old image → (spot : Spot) × IsMigrated old image (Err (Device spot))
images_left old image told cut =
    let own = at_node IsValidNode all_valid in
    let its_told = at_node (IsTold old) (all_told old told) in
    let stands = at_node (Allows old) (all_allow old cut.stand) in (
      spot_of cut.at (1 - cut.here.was.part),
      inr (record {
        stand = cut.stand;
        done = cut.done;
        at = cut.at;
        behind = cut.behind;
        among = cut.among;
        filled = cut.filled;
        here = (its_spare old image cut.at own its_told stands cut.here, unfilled_or_filled old image cut.at own its_told stands cut.here);
        only = cut.only;
      }),
    )
  where
    at_node : (P : Node → Type 0) → AllByRecursion P all_nodes → P cut.at
    at_node P all = (all_back P cut.done (cut.at ∷ cut.behind) (olds_all P old all_nodes (cut.done ++ cut.at ∷ cut.behind) cut.among all)).0

pub images_keep : (old image : Spot → Option File) (found_member found_coord : ℕ → Found) → AreTold old most_members most_coordinators → IsCutMigration old image →
    AreFound old most_members most_coordinators found_member found_coord → AreSound (records_in found_member) (records_in found_coord) → KeepsRecords image found_member found_coord
images_keep old image fm fc told cut found sound =
    let left = images_left old image told cut in
    keeps_records old image (Err (Device left.0)) fm fc told left.1 found sound
