-- The logs that are found after a migration.
use Rattle.std.proofs.Common.{◌≡◌, ◌≢◌, ◌⊎◌, inl, inr, ℕ, zero, suc, ◌+◌, ◌-◌, ◌≤◌, ◌==◌, ◌&&◌, nat_le, Bool, true, false, List, [], ◌∷◌, ◌++◌, Option, Some, Result, Ok, Err, if◌then◌else◌, refl, sym, ap, subst, ◌∙◌, arith}
use Rattle.std.proofs.lemmas.Bool.{eqb-true, eqb-false}
use Rattle.std.proofs.lemmas.Bool.Decides.{nat_tests}
use Rattle.std.proofs.lemmas.List.{reverse-reverse}
use Rattle.std.specs.List.{AllByRecursion}
use Rattle.std.specs.Prelude.{reverse, length}
use Rattle.co_base.specs.Limits.{most_coordinators, most_log_bytes, most_members}
use Rattle.co_base.specs.Nodes.{IsValidNode, node_byte}
use Rattle.co_base.specs.declared.node.Node.{Node}
use Rattle.co_base.specs.declared.node.Node.TheVariants.{Member, Coord}
use Rattle.co_outside.specs.Home.{File}
use Rattle.co_outside.specs.declared.spot.Spot.{Spot}
use Rattle.co_frame.specs.Gate.{begins_closed}
use Rattle.co_record.specs.declared.record.Record.{Record}
use Rattle.co_record.specs.Format.{newest}
use Rattle.co_record.specs.Spelling.{spelling}
use Rattle.co_log.specs.Attaching.{IsWithin}
use Rattle.co_log.specs.LogFile.{placed_from, records_of}
use Rattle.co_log.specs.LogView.{spot_of}
use Rattle.co_log.specs.NodeFiles.{Items, newest_first, IsCurrentIn}
use Rattle.co_log.proofs.Spots.{bytes_apart}
use Rattle.co_plain.specs.Opening.{Found, fresh}
use Rattle.co_plain.specs.SoundLogs.{AreSound}
use Rattle.co_durable.specs.Told.{IsTold, AreTold}
use Rattle.co_durable.proofs.Numbered.{members_valid, coords_valid}
use Rattle.co_durable.proofs.Pairs.{all_append, all_map}
use Rattle.co_durable.proofs.Firsts.{all_front, all_back}
use Rattle.co_durable.proofs.ReadOnce.{records_once}
use Rattle.co_durable.specs.Nodes.{numbered}
use Rattle.co_law_migrate.specs.Migrated.{migrated, MayGiveWay}
use Rattle.co_law_migrate.proofs.Sound.{stay_sound, same_durable}
use Rattle.co_opening.specs.Found.{AreFound, IsFoundIn}
use Rattle.co_opening.specs.Rest.{IsSpotOf}
use Rattle.co_migrate.specs.declared.fault.MigrateFault.{MigrateFault}
use Rattle.co_migrate.specs.declared.fault.MigrateFault.TheVariants.{Device, Bad, Full, Memory}
use Rattle.co_migrate.specs.Kept.{records_in, KeepsRecords}
use Rattle.co_migrate.specs.Migrating.{all_nodes, HasCurrentFile, refilled_items, IsFilledIn, IsUnfilledIn, AreOldAmong, OnlyNodesChange, NoFileChanges, AreAllFilled, AreFilledUpTo, IsMigrated}
use Rattle.co_migrate.proofs.Apart.{all_nodes_are}
use Rattle.co_migrate.proofs.Refills.{spots_elsewhere}

-- ---- one node

-- both of its files are as they were; or it was filled; or it was not
abbrev pub IsNodeKept : (Spot → Option File) → (Spot → Option File) → Node → Type 0
IsNodeKept old new n = (new (spot_of n 0) ≡ old (spot_of n 0)) × (new (spot_of n 1) ≡ old (spot_of n 1))

abbrev IsNodeLeft : (Spot → Option File) → (Spot → Option File) → Node → Type 0
IsNodeLeft old new n = IsNodeKept old new n ⊎ (IsFilledIn old new n ⊎ IsUnfilledIn old new n)

pub same_file : (f g : File) (o : Option File) → o ≡ Some f → o ≡ Some g → f.bytes ≡ g.bytes
same_file f g o one two = let e : Some f ≡ Some g = sym one ∙ two in let s : f ≡ g = cc in ap (λ (x : File). x.bytes) s

pub within_file : (f : File) (o : Option File) → o ≡ Some f → length f.bytes ≤ most_log_bytes → IsWithin most_log_bytes o
within_file f o is short g told = let e = same_file f g o is told in subst (λ (bytes : List ℕ). length bytes ≤ most_log_bytes) e short

pub current_in : (file : Spot → Option File) (n : Node) (version generation part : ℕ) (items : Items) → part ≤ 1 → HasCurrentFile file n part version generation items → IsCurrentIn file n part items
current_in file n version generation zero items h c = record {
  a = c.this.bytes;
  b = c.that.bytes;
  told_a = λ f is. same_file f c.this (file (spot_of n 0)) is c.this_is;
  told_b = λ f is. same_file f c.that (file (spot_of n 1)) is c.that_is;
  within_a = within_file c.this (file (spot_of n 0)) c.this_is c.short;
  within_b = within_file c.that (file (spot_of n 1)) c.that_is c.that_short;
  current = inr (inl (refl, (version, generation, c.current)));
}
current_in file n version generation (suc zero) items h c = record {
  a = c.that.bytes;
  b = c.this.bytes;
  told_a = λ f is. same_file f c.that (file (spot_of n 0)) is c.that_is;
  told_b = λ f is. same_file f c.this (file (spot_of n 1)) is c.this_is;
  within_a = within_file c.that (file (spot_of n 0)) c.that_is c.that_short;
  within_b = within_file c.this (file (spot_of n 1)) c.this_is c.short;
  current = inr (inr (refl, (version, generation, c.current)));
}
current_in file n version generation (suc (suc k)) items h c = absurd (omega (arith, h))

-- what is found of a node with a current file
found_of : (file : Spot → Option File) (n : Node) (part : ℕ) (items : Items) (records : List Record) → records ≡ newest_first items → IsCurrentIn file n part items → (f : Found) × IsFoundIn file n f × (f.records ≡ records)
found_of file n part items records is current = (
  record { records = records; spare_closed = begins_closed (if part == 0 then current.b else current.a) },
  record { part = part; items = items; current = current; records = is; spare = refl },
  refl,
)

placed_back : (at : ℕ) (more : List Record) → records_of (placed_from at more) ≡ more
placed_back at [] = refl
placed_back at (item ∷ more) = ap (λ (rs : List Record). item ∷ rs) (placed_back (at + length (spelling newest item)) more)

-- the records that were filled in, newest first
refilled_back : (n : Node) (items : Items) → migrated n (newest_first items) ≡ newest_first (refilled_items n items)
refilled_back n items = sym (ap reverse (placed_back 5 (reverse (migrated n (newest_first items)))) ∙ reverse-reverse (migrated n (newest_first items)))

-- what is found of the node then, by what was
abbrev GaveWay : Node → List Record → List Record → Type 0
GaveWay n old new = (new ≡ old) ⊎ (new ≡ migrated n old)

abbrev IsFoundAfter : (Spot → Option File) → Node → Found → Type 0
IsFoundAfter new n was = (f : Found) × IsFoundIn new n f × GaveWay n was.records f.records

module _ (old new : Spot → Option File) (n : Node) (both : IsTold old n) (was : Found) (found : IsFoundIn old n was) where
  same_records : (part version generation : ℕ) (items : Items) → HasCurrentFile old n part version generation items → newest_first items ≡ was.records
  same_records part version generation items c =
      ap newest_first (records_once old n items found.items both (part, current_in old n version generation part items c.one_of_two c) (found.part, found.current)) ∙ sym found.records

  after_kept : IsNodeKept old new n → IsFoundAfter new n was
  after_kept kept = (
    was,
    record {
      part = found.part;
      items = found.items;
      current = record {
        a = found.current.a;
        b = found.current.b;
        told_a = λ f is. found.current.told_a f (sym kept.0 ∙ is);
        told_b = λ f is. found.current.told_b f (sym kept.1 ∙ is);
        within_a = subst (IsWithin most_log_bytes) (sym kept.0) found.current.within_a;
        within_b = subst (IsWithin most_log_bytes) (sym kept.1) found.current.within_b;
        current = found.current.current;
      };
      records = found.records;
      spare = found.spare;
    },
    inl refl,
  )

  after_filled : IsFilledIn old new n → IsFoundAfter new n was
  after_filled f =
      let same = same_records f.was.part 1 f.was.generation f.was.items f.was.is in
      let g = found_of new n (1 - f.was.part) (refilled_items n f.was.items) (migrated n (newest_first f.was.items)) (refilled_back n f.was.items)
      (current_in new n newest (f.was.generation + 1) (1 - f.was.part) (refilled_items n f.was.items) f.now.one_of_two f.now) in
      (g.0, g.1, inr (g.2 ∙ ap (migrated n) same))

  after_unfilled : IsUnfilledIn old new n → IsFoundAfter new n was
  after_unfilled f =
      let same = same_records f.was.part 1 f.was.generation f.was.items f.was.is in
      let g = found_of new n f.was.part f.was.items (newest_first f.was.items) refl (current_in new n 1 f.was.generation f.was.part f.was.items f.now.one_of_two f.now) in
      (g.0, g.1, inl (g.2 ∙ same))

  found_after : IsNodeLeft old new n → IsFoundAfter new n was
  found_after (inl kept) = after_kept kept
  found_after (inr (inl filled)) = after_filled filled
  found_after (inr (inr unfilled)) = after_unfilled unfilled

-- ---- all nodes

is_or_not : (b : Bool) → (b ≡ true) ⊎ (b ≡ false)
is_or_not true = inl refl
is_or_not false = inr refl

node_or : (x n : Node) → IsValidNode x → IsValidNode n → (x ≡ n) ⊎ (x ≢ n)
node_or x n one two = elim (is_or_not (node_byte x == node_byte n)) [
  | inl e ↦ inl (bytes_apart x n one two (eqb-true (node_byte x) (node_byte n) e))
  | inr e ↦ inr (λ same. eqb-false (node_byte x) (node_byte n) e (ap node_byte same))
]

not_of_nodes : (s : Spot) (n : Node) → IsValidNode n → IsSpotOf n s → (xs : List Node) → AllByRecursion IsValidNode xs → AllByRecursion (λ x. x ≢ n) xs → AllByRecursion (λ x. IsSpotOf x s → ⊥) xs
not_of_nodes s n valid is [] own apart = tt
not_of_nodes s n valid is (x ∷ xs) own apart = (spots_elsewhere n x s valid own.0 apart.0 is, not_of_nodes s n valid is xs own.1 apart.1)

module _ (old new : Spot → Option File) (touched : List Node) (valid : AllByRecursion IsValidNode touched) (left : AllByRecursion (IsNodeLeft old new) touched) (only : OnlyNodesChange touched old new) (n : Node) (own : IsValidNode n) where
  among : (xs : List Node) → AllByRecursion IsValidNode xs → AllByRecursion (IsNodeLeft old new) xs → IsNodeLeft old new n ⊎ AllByRecursion (λ x. x ≢ n) xs
  among [] v l = inr tt
  among (x ∷ xs) v l = elim (node_or x n v.0 own) [
    | inl same ↦ inl (subst (IsNodeLeft old new) same l.0)
    | inr other ↦ elim (among xs v.1 l.1) [ inl found ↦ inl found | inr others ↦ inr (other, others) ]
  ]

  node_left : IsNodeLeft old new n
  node_left = elim (among touched valid left) [
    | inl found ↦ found
    | inr others ↦ inl (only (spot_of n 0) (not_of_nodes (spot_of n 0) n own (inl refl) touched valid others), only (spot_of n 1) (not_of_nodes (spot_of n 1) n own (inr refl) touched valid others))
  ]

pub olds_all : (P : Node → Type 0) (file : Spot → Option File) (nodes olds : List Node) → AreOldAmong file nodes olds → AllByRecursion P nodes → AllByRecursion P olds
olds_all P file [] olds none all = subst (AllByRecursion P) (sym none) tt
olds_all P file (n ∷ nodes) olds (inl fresh) all = olds_all P file nodes olds fresh.1 all.1
olds_all P file (n ∷ nodes) olds (inr found) all = subst (AllByRecursion P) (sym found.1) (all.0, olds_all P file nodes found.0 found.3 all.1)

nodes_valid : (nodes : List Node) (members coords : ℕ) → nodes ≡ numbered Member members ++ numbered Coord coords → members ≤ most_members → coords ≤ most_coordinators → AllByRecursion IsValidNode nodes
nodes_valid nodes members coords is few less = subst (AllByRecursion IsValidNode) (sym is) (all_append IsValidNode (numbered Member members) (numbered Coord coords) (members_valid members few) (coords_valid coords less))

pub all_valid : AllByRecursion IsValidNode all_nodes
all_valid = nodes_valid all_nodes most_members most_coordinators all_nodes_are (omega arith) (omega arith)

-- of a migration that was done, which leaves no node in between
pub filled_or_kept : (old new : Spot → Option File) (count : ℕ) → AreAllFilled old new count → (n : Node) → IsValidNode n → IsFilledIn old new n ⊎ IsNodeKept old new n
filled_or_kept old new count f n own = by (among_olds f.olds (olds_all IsValidNode old all_nodes f.olds f.among all_valid) f.filled)
  where
    among_olds : (xs : List Node) → AllByRecursion IsValidNode xs → AllByRecursion (IsFilledIn old new) xs → IsFilledIn old new n ⊎ AllByRecursion (λ x. x ≢ n) xs
    among_olds [] v l = inr tt
    among_olds (x ∷ xs) v l = next (among_olds xs v.1 l.1) (node_or x n v.0 own)
      where
        next : IsFilledIn old new n ⊎ AllByRecursion (λ x. x ≢ n) xs → (x ≡ n) ⊎ (x ≢ n) → IsFilledIn old new n ⊎ AllByRecursion (λ x. x ≢ n) (x ∷ xs)
        next rest (inl same) = inl (subst (IsFilledIn old new) same l.0)
        next (inl found) (inr other) = inl found
        next (inr others) (inr other) = inr (other, others)

    by : IsFilledIn old new n ⊎ AllByRecursion (λ x. x ≢ n) f.olds → IsFilledIn old new n ⊎ IsNodeKept old new n
    by (inl found) = inl found
    by (inr others) =
        let valid = olds_all IsValidNode old all_nodes f.olds f.among all_valid in
        inr (f.only (spot_of n 0) (not_of_nodes (spot_of n 0) n own (inl refl) f.olds valid others), f.only (spot_of n 1) (not_of_nodes (spot_of n 1) n own (inr refl) f.olds valid others))

-- what a migration leaves of a node
abbrev LeavesNodes : (Spot → Option File) → (Spot → Option File) → Type 0
LeavesNodes old new = (n : Node) → IsValidNode n → IsNodeLeft old new n

module _ (old new : Spot → Option File) where
  none_left : NoFileChanges old new → LeavesNodes old new
  none_left same n own = inl (same (spot_of n 0), same (spot_of n 1))

  as_left : (xs : List Node) → AllByRecursion (IsFilledIn old new) xs → AllByRecursion (IsNodeLeft old new) xs
  as_left xs all = all_map (IsFilledIn old new) (IsNodeLeft old new) (λ x f. inr (inl f)) xs all

  all_left : (count : ℕ) → AreAllFilled old new count → LeavesNodes old new
  all_left count f = node_left old new f.olds (olds_all IsValidNode old all_nodes f.olds f.among all_valid) (as_left f.olds f.filled) f.only

  partly_left : (left : Node → Type 0) → ((n : Node) → left n → IsNodeLeft old new n) → AreFilledUpTo old new left → LeavesNodes old new
  partly_left left turn f =
      let valid = olds_all IsValidNode old all_nodes (f.done ++ f.at ∷ f.behind) f.among all_valid in
      node_left old new (f.done ++ f.at ∷ [])
      (all_append IsValidNode f.done (f.at ∷ []) (all_front IsValidNode f.done (f.at ∷ f.behind) valid) ((all_back IsValidNode f.done (f.at ∷ f.behind) valid).0, tt))
      (all_append (IsNodeLeft old new) f.done (f.at ∷ []) (as_left f.done f.filled) (turn f.at f.here, tt)) f.only

  either_left : (n : Node) → IsUnfilledIn old new n ⊎ IsFilledIn old new n → IsNodeLeft old new n
  either_left n (inl unfilled) = inr (inr unfilled)
  either_left n (inr filled) = inr (inl filled)

  leaves : (result : Result ℕ MigrateFault) → IsMigrated old new result → LeavesNodes old new
  leaves (Ok count) m = all_left count m
  leaves (Err (Device spot)) (inl same) = none_left same
  leaves (Err (Device spot)) (inr f) = partly_left _ (λ n here. either_left n here.1) f
  leaves (Err (Bad spot at)) m = none_left m.0
  leaves (Err (Full spot)) (inl same) = none_left same.0
  leaves (Err (Full spot)) (inr f) = partly_left _ (λ n here. inr (inr here.unfilled)) f
  leaves (Err Memory) (inl same) = none_left same
  leaves (Err Memory) (inr f) = partly_left _ (λ n here. inr (inr here)) f

-- ---- what is found then

-- of one number of a sort
record IsFoundNext (new : Spot → Option File) (n : Node) (inside : Bool) (was : Found) : Type 0 where
  pub next : Found
  pub here : inside ≡ true → IsFoundIn new n next
  pub there : inside ≡ false → next ≡ fresh
  pub way : GaveWay n was.records next.records

module _ (old new : Spot → Option File) (left : LeavesNodes old new) (node : ℕ → Node) (most : ℕ) (found : ℕ → Found)
    (valid : (k : ℕ) → 1 ≤ k → k ≤ most → IsValidNode (node k)) (told : (k : ℕ) → 1 ≤ k → k ≤ most → IsTold old (node k)) (is : (k : ℕ) → 1 ≤ k → k ≤ most → IsFoundIn old (node k) (found k))
    (none : (k : ℕ) → (nat_le 1 k && nat_le k most) ≡ false → found k ≡ fresh) where
  inside : (k : ℕ) → (nat_le 1 k && nat_le k most) ≡ true → (1 ≤ k) × (k ≤ most)
  inside k h = (grind (arith, nat_tests, h), grind (arith, nat_tests, h))

  next_at : (k : ℕ) (b : Bool) → (nat_le 1 k && nat_le k most) ≡ b → IsFoundNext new (node k) b (found k)
  next_at k true h =
      let i = inside k h in
      let f = found_after old new (node k) (told k i.0 i.1) (found k) (is k i.0 i.1) (left (node k) (valid k i.0 i.1)) in
      record { next = f.0; here = λ _. f.1; there = λ no. absurd (let e : true ≡ false = no in cc); way = f.2 }
  next_at k false h = record { next = fresh; here = λ no. absurd (let e : false ≡ true = no in cc); there = λ _. refl; way = inl (ap (λ (f : Found). f.records) (sym (none k h))) }

  next_found : (k : ℕ) → IsFoundNext new (node k) (nat_le 1 k && nat_le k most) (found k)
  next_found k = next_at k (nat_le 1 k && nat_le k most) refl

-- of the nodes of a list, by their numbers
all_at : (P : Node → Type 0) (node : ℕ → Node) (count : ℕ) → AllByRecursion P (numbered node count) → (k : ℕ) → 1 ≤ k → k ≤ count → P (node k)
all_at P node zero all k low high = absurd (omega (arith, low, high))
all_at P node (suc count) all k low high = elim (is_or_not (k == suc count)) [
  | inl e ↦ subst (λ j. P (node j)) (sym (eqb-true k (suc count) e)) (all_back P (numbered node count) (node (suc count) ∷ []) all).0
  | inr e ↦ let d : k ≡ suc count → ⊥ = eqb-false k (suc count) e in all_at P node count (all_front P (numbered node count) (node (suc count) ∷ []) all) k low (omega (arith, high, d))
]

module _ (members coords : ℕ) (few : members ≤ most_members) (less : coords ≤ most_coordinators) (old new : Spot → Option File) (left : LeavesNodes old new) (told : AreTold old members coords) (fm fc : ℕ → Found) (found : AreFound old members coords fm fc) where
  told_members : (k : ℕ) → 1 ≤ k → k ≤ members → IsTold old (Member k)
  told_members = all_at (IsTold old) Member members (all_front (IsTold old) (numbered Member members) (numbered Coord coords) told)

  told_coords : (k : ℕ) → 1 ≤ k → k ≤ coords → IsTold old (Coord k)
  told_coords = all_at (IsTold old) Coord coords (all_back (IsTold old) (numbered Member members) (numbered Coord coords) told)

  member_next : (k : ℕ) → IsFoundNext new (Member k) (nat_le 1 k && nat_le k members) (fm k)
  member_next = next_found old new left Member members fm (λ k low high. (low, omega (arith, high, few))) told_members found.member found.no_member

  coord_next : (k : ℕ) → IsFoundNext new (Coord k) (nat_le 1 k && nat_le k coords) (fc k)
  coord_next = next_found old new left Coord coords fc (λ k low high. (low, omega (arith, high, less))) told_coords found.coord found.no_coord

  found_then : AreFound new members coords (λ k. (member_next k).next) (λ k. (coord_next k).next)
  found_then = record {
    member = λ k low high. (member_next k).here (grind (arith, nat_tests, low, high));
    coord = λ k low high. (coord_next k).here (grind (arith, nat_tests, low, high));
    no_member = λ k out. (member_next k).there out;
    no_coord = λ k out. (coord_next k).there out;
  }

pub keeps_records : (old new : Spot → Option File) (result : Result ℕ MigrateFault) (fm fc : ℕ → Found) → AreTold old most_members most_coordinators → IsMigrated old new result → AreFound old most_members most_coordinators fm fc
    → AreSound (records_in fm) (records_in fc) → KeepsRecords new fm fc
keeps_records old new result fm fc told m found sound =
    let left = leaves old new result m in
    let few : most_members ≤ most_members = omega arith in
    let less : most_coordinators ≤ most_coordinators = omega arith in
    let nm : ℕ → Found = λ k. (member_next most_members most_coordinators few less old new left told fm fc found k).next in
    let nc : ℕ → Found = λ k. (coord_next most_members most_coordinators few less old new left told fm fc found k).next in
    let ways : MayGiveWay Member (records_in fm) (records_in nm) = λ k. (member_next most_members most_coordinators few less old new left told fm fc found k).way in
    let ways_too : MayGiveWay Coord (records_in fc) (records_in nc) = λ k. (coord_next most_members most_coordinators few less old new left told fm fc found k).way in
    record {
      member = nm;
      coord = nc;
      found = found_then most_members most_coordinators few less old new left told fm fc found;
      members = ways;
      coords = ways_too;
      sound = stay_sound (records_in fm) (records_in fc) (records_in nm) (records_in nc) ways ways_too sound;
      durable = same_durable (records_in fm) (records_in fc) (records_in nm) (records_in nc) ways ways_too sound;
    }
