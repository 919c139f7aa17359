-- What is found of the files of a node, over its attached log.
use Rattle.std.proofs.Common.{◌≡◌, ◌⊎◌, inl, inr, ℕ, ◌+◌, ◌<◌, ◌==◌, if◌then◌else◌, Bool, List, [], ◌∷◌, length, Option, refl, sym, ap, subst, ◌∙◌, arith}
use Rattle.std.specs.Prelude.{reverse}
use Rattle.std.proofs.lemmas.List.{reverse-reverse, reverse-append}
use Rattle.std.specs.List.{AllByRecursion}
use Rattle.co_base.specs.Nodes.{IsValidNode}
use Rattle.co_base.specs.declared.node.Node.{Node}
use Rattle.co_outside.specs.declared.spot.Spot.{Spot}
use Rattle.co_outside.specs.Home.{File}
use Rattle.co_disk.specs.DiskModel.{read_of}
use Rattle.co_disk.specs.DiskView.{DiskView}
use Rattle.co_frame.specs.LogText.{IsLogText}
use Rattle.co_record.specs.declared.record.Record.{Record}
use Rattle.co_record.specs.declared.record.Record.TheVariants.{Header}
use Rattle.co_record.specs.Format.{IsVersion, newest}
use Rattle.co_frame.specs.Gate.{begins_closed}
use Rattle.co_record.specs.Spelling.{IsWritable, spelling}
use Rattle.co_record.specs.Stored.{AreRecords, HoldRecords, HasRecords}
use Rattle.co_log.specs.Attaching.{built, IsCurrent}
use Rattle.co_log.specs.Current.{BeginsWith, IsCurrentOf, IsOrdered}
use Rattle.co_log.specs.Fresh.{IsFresh}
use Rattle.co_log.specs.LogFile.{records_of}
use Rattle.co_log.specs.LogView.{LogView, spot_of}
use Rattle.co_log.specs.NodeFiles.{Items, newest_first, HasCurrent, IsCurrentIn}
use Rattle.co_log.proofs.Attached.{behind_front}
use Rattle.co_log.proofs.Ordered.{attached_unarmed}
use Rattle.co_log.proofs.Unmade.{read_stable}
use Rattle.co_log.proofs.Versions.{has_records, newest_known}
use Rattle.co_node.specs.NodeLog.{RepresentsLog}
use Rattle.co_node.proofs.Standing.{none_armed}
use Rattle.co_plain.specs.Opening.{Found, made, header_mark, opened_log}
use Rattle.co_durable.specs.Reading.{IsLogOf}
use Rattle.co_durable.specs.Recovering.{HasItems}
use Rattle.co_durable.proofs.Pairs.{all_append}
use Rattle.co_opening.specs.Attached.{IsAttachedTo}
use Rattle.co_opening.specs.Found.{IsFoundIn}
use Rattle.co_opening.specs.Standing.{IsStanding, IsFoundLog}
use Rattle.co_opening.specs.Versions.{HasVersion, IsOfVersion}

-- ---- what the files say

-- the current file of the node and its records, as the log has them
pub record IsRead (file : Spot → Option File) (node : Node) (log : LogView) : Type 0 where
  pub part : ℕ
  pub items : Items
  pub current : IsCurrentIn file node part items
  pub has : HasItems log items
  pub spot : log.current.spot ≡ spot_of node part
  pub spare : begins_closed log.spare.state.stable ≡ begins_closed (if part == 0 then current.b else current.a)
  pub versions : IsOfVersion file node part log.version
  pub known : IsVersion log.version
  pub either : (IsFresh log × (items ≡ [])) ⊎ IsOrdered log items

has_read : (disk : DiskView) (items : Items) → disk.state.pending ≡ [] → HasRecords disk.state.stable items → HasRecords (read_of disk.state) items
has_read disk items still has = subst (λ (bytes : List ℕ). HasRecords bytes items) (sym (read_stable disk.state still)) has

module _ (file : Spot → Option File) (node : Node) (log : LogView) (valid : IsValidNode node) (is : IsLogOf file node log) where
  abbrev in_file : (part : ℕ) (items : Items) → HasCurrent node is.a.state.stable is.b.state.stable part items → IsCurrentIn file node part items
  in_file part items current = record {
    a = is.a.state.stable;
    b = is.b.state.stable;
    told_a = is.file_a.told;
    told_b = is.file_b.told;
    within_a = is.within_a;
    within_b = is.within_b;
    current = current;
  }

  abbrev of_version : (part version : ℕ) → HasVersion node is.a.state.stable is.b.state.stable part version → IsOfVersion file node part version
  of_version part version current = record {
    a = is.a.state.stable;
    b = is.b.state.stable;
    told_a = is.file_a.told;
    told_b = is.file_b.told;
    within_a = is.within_a;
    within_b = is.within_b;
    current = current;
  }

  fresh_read : (log ≡ built node newest is.a is.b 0 0) × IsLogText is.a.state.stable [] × IsLogText is.b.state.stable [] → IsRead file node log
  fresh_read f = subst (IsRead file node) (sym f.0) record {
    part = 0;
    items = [];
    current = in_file 0 [] (inl (refl, refl, f.1, f.2));
    has = has_read is.a [] is.file_a.still ([], f.1, refl);
    spot = is.file_a.at;
    spare = refl;
    versions = of_version 0 newest (inl (refl, refl, f.1, f.2));
    known = newest_known;
    either = inl (record { unmade = refl; version = refl; still = is.file_a.still; spare_still = is.file_b.still; none = f.1; spare_none = f.2 }, refl);
  }

  current_a : IsCurrent node is.a is.b log → IsRead file node log
  current_a c =
      let items : Items = (5, Header node c.generation) ∷ c.file.0 in
      let current : IsCurrentOf node c.version c.generation is.a.state.stable is.b.state.stable items = record { gate = c.gate; known = c.file.1; ends = c.file.2; header = refl; older = c.older } in
      subst (IsRead file node) (sym c.is) record {
        part = 0;
        items = items;
        current = in_file 0 items (inr (inl (refl, (c.version, c.generation, current))));
        has = has_read is.a items is.file_a.still (has_records c.version c.file.1 node c.generation is.a.state.stable c.gate c.file.0 c.file.2);
        spot = is.file_a.at;
        spare = refl;
        versions = of_version 0 c.version (inr (inl (refl, (c.generation, items, current))));
        known = c.file.1;
        either = inr record {
          valid = valid;
          live = record { made = behind_front c.version is.a.state.stable c.gate (5, Header node c.generation) c.file.0 c.file.2; known = c.file.1; still = is.file_a.still; ends = c.file.2 };
          header = refl;
          still = is.file_b.still;
          older = c.older;
        };
      }

  current_b : IsCurrent node is.b is.a log → IsRead file node log
  current_b c =
      let items : Items = (5, Header node c.generation) ∷ c.file.0 in
      let current : IsCurrentOf node c.version c.generation is.b.state.stable is.a.state.stable items = record { gate = c.gate; known = c.file.1; ends = c.file.2; header = refl; older = c.older } in
      subst (IsRead file node) (sym c.is) record {
        part = 1;
        items = items;
        current = in_file 1 items (inr (inr (refl, (c.version, c.generation, current))));
        has = has_read is.b items is.file_b.still (has_records c.version c.file.1 node c.generation is.b.state.stable c.gate c.file.0 c.file.2);
        spot = is.file_b.at;
        spare = refl;
        versions = of_version 1 c.version (inr (inr (refl, (c.generation, items, current))));
        known = c.file.1;
        either = inr record {
          valid = valid;
          live = record { made = behind_front c.version is.b.state.stable c.gate (5, Header node c.generation) c.file.0 c.file.2; known = c.file.1; still = is.file_b.still; ends = c.file.2 };
          header = refl;
          still = is.file_a.still;
          older = c.older;
        };
      }

  pub read : IsRead file node log
  read = elim is.attached as (λ a. IsRead file node log) [ inl f ↦ fresh_read f | inr c ↦ elim c as (λ d. IsRead file node log) [ inl x ↦ current_a x | inr y ↦ current_b y ] ]

-- ---- records that are read are within their bounds

abbrev IsWrittenItem : ℕ × Record → Type 0
IsWrittenItem item = IsWritable item.1

are_writable : (version at : ℕ) (bytes : List ℕ) (items : Items) → AreRecords version at bytes items → AllByRecursion IsWrittenItem items
are_writable version at bytes [] are = tt
are_writable version at bytes (x ∷ items) are = (are.1.0, are_writable version (at + length (spelling version x.1)) are.2.0 items are.2.2)

hold_writable : (version gate : ℕ) (batches : List (List ℕ)) (items : Items) → HoldRecords version gate batches items → AllByRecursion IsWrittenItem items
hold_writable version gate [] items none = subst (AllByRecursion IsWrittenItem) (sym none) tt
hold_writable version gate (batch ∷ batches) items h =
    subst (AllByRecursion IsWrittenItem) (sym h.2)
    (all_append IsWrittenItem h.0 h.1 (are_writable version (gate + 5) batch h.0 h.3) (hold_writable version (gate + 5 + length batch) batches h.1 h.4))

all_records : (items : Items) → AllByRecursion IsWrittenItem items → AllByRecursion IsWritable (records_of items)
all_records [] all = tt
all_records (x ∷ items) all = (all.0, all_records items all.1)

all_reversed : {A : Type 0} (P : A → Type 0) (xs : List A) → AllByRecursion P xs → AllByRecursion P (reverse xs)
all_reversed P [] all = tt
all_reversed P (x ∷ xs) all = subst (AllByRecursion P) (sym (reverse-append (x ∷ []) xs)) (all_append P (reverse xs) (x ∷ []) (all_reversed P xs all.1) (all.0, tt))

pub read_writable : (bytes : List ℕ) (items : Items) → HasRecords bytes items → AllByRecursion IsWritable (newest_first items)
read_writable bytes items has = all_reversed IsWritable (records_of items) (all_records items (hold_writable _ 0 has.0 items has.2))

-- ---- what was found

made_none : (owner : Node) (xs : List Record) → (xs ≡ [] → ⊥) → (made owner xs ≡ xs) × (header_mark owner xs ≡ [])
made_none owner [] some = absurd (some refl)
made_none owner (x ∷ xs) some = (refl, refl)

has_some : (owner : Node) (generation : ℕ) (items : Items) → BeginsWith owner generation items → newest_first items ≡ [] → ⊥
has_some owner generation [] begins none = absurd begins
has_some owner generation (x ∷ items) begins none = empty (sym (reverse-reverse (x.1 ∷ records_of items)) ∙ ap reverse none)
  where
    empty : {r : Record} {rs : List Record} → r ∷ rs ≡ [] → ⊥
    empty e = absurd cc

-- the records of the current file, and whether the spare one is closed
abbrev pub found_of : LogView → Items → Found
found_of log items = record { records = newest_first items; spare_closed = begins_closed log.spare.state.stable }

module _ (file : Spot → Option File) (node : Node) (log : LogView) (valid : IsValidNode node) (is : IsLogOf file node log) (r : IsRead file node log) where
  pub in_files : IsFoundIn file node (found_of log r.items)
  in_files = record { part = r.part; items = r.items; current = r.current; records = refl; spare = r.spare }

  pub standing : log.version ≡ newest → IsStanding node log (found_of log r.items)
  standing latest = record {
    valid = valid;
    a = is.a;
    b = is.b;
    attached = is.attached;
    either = elim r.either [
      | inl none ↦ inl (none.0, ap newest_first none.1, refl)
      | inr o ↦ inr (some o)
    ];
  }
    where
      some : IsOrdered log r.items → (0 < log.gate) × (header_mark node (newest_first r.items) ≡ []) × RepresentsLog node log (opened_log node (found_of log r.items))
      some o =
          let unarmed = attached_unarmed node is.a is.b log is.attached in
          let m = made_none node (newest_first r.items) (has_some log.node log.generation r.items o.header) in (
            o.live.made,
            m.1,
            record {
              owned = unarmed.0;
              latest = latest;
              items = r.items;
              ordered = o;
              stable = m.0;
              waiting = ap reverse (sym unarmed.1);
              armed = sym unarmed.2;
              bound = none_armed unarmed.2;
              spare = refl;
            },
          )

pub unused : (file : Spot → Option File) (node : Node) (log : LogView) (r : IsRead file node log) → IsFresh log → newest_first r.items ≡ []
unused file node log r fresh = elim r.either [
  | inl none ↦ ap newest_first none.1
  | inr o ↦ absurd (omega (arith, o.live.made, fresh.unmade))
]

pub found_log : (file : Spot → Option File) (resume : Bool) (node : Node) (log : LogView) → (att : IsAttachedTo file resume node log) → (r : IsRead file node log) → log.version ≡ newest → IsFoundLog file resume node log (found_of log r.items)
found_log file resume node log att r latest = record {
  standing = standing file node log att.valid att.is r latest;
  in_file = in_files file node log att.valid att.is r;
  writable = read_writable _ r.items r.has;
  unused = λ none. unused file node log r (att.fresh none);
}
