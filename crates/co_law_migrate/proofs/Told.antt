-- What a migrated log tells, and that it is allowed and within its bounds.
use Rattle.std.proofs.Common.{◌≡◌, ◌⊎◌, inl, inr, ℕ, true, false, ◌≤◌, List, [], ◌∷◌, length, Option, None, Some, refl, sym, ap, ◌∙◌, subst, arith}
use Rattle.std.specs.Prelude.{reverse}
use Rattle.std.specs.List.{AllByRecursion}
use Rattle.std.specs.FinMap.{entries, entries_sorted, get-entries}
use Rattle.std.proofs.lemmas.Bool.{false_from_ne_true}
use Rattle.std.specs.Option.{is_some}
use Rattle.co_base.specs.Limits.{most_coordinators, most_members}
use Rattle.co_base.specs.declared.node.Node.TheVariants as node
use Rattle.co_record.specs.declared.record.Record.{Record}
use Rattle.co_record.specs.declared.record.Record.TheVariants as log
use Rattle.co_record.specs.Spelling.{IsWritable}
use Rattle.co_state.specs.Table.{Table, look}
use Rattle.co_plain.specs.declared.coord_state.Entry.{Entry}
use Rattle.co_plain.specs.declared.coord_state.Entry.TheVariants as entry
use Rattle.co_plain.specs.CoordView.{recovered_commits, has_commit_of, first_refused_at_coord}
use Rattle.co_plain.specs.CoordStep.{table_from}
use Rattle.co_plain.specs.LogWrite.{generation_of}
use Rattle.co_plain.specs.MemberView.{recovered_view, first_refused_at_member}
use Rattle.co_plain.specs.Numbers.{IsAmong, next_generation}
use Rattle.co_plain.specs.Opening.{made}
use Rattle.co_plain.specs.SoundLogs.{unended_in, has_unended}
use Rattle.co_law_node.specs.Writable.{IsWithinBounds}
use Rattle.co_law_base.proofs.Commits.{unended_seen, unended_some, from_cases, from_found, spare_cases, seen_cases, spare_found}
use Rattle.co_law_base.proofs.Filling.{spare_tells}
use Rattle.co_law_base.proofs.ImageRules.{EachEntry, each_entry}
use Rattle.co_law_base.proofs.Lookups.{is_nothing, look_none}
use Rattle.co_law_node.proofs.Allowed.{Allowed, allowed_from, none_from}
use Rattle.co_law_node.proofs.AllowedCommits.{no_refused}
use Rattle.co_law_node.proofs.CoordEvents.{whole_coord_opened}
use Rattle.co_law_node.proofs.WholeFilling.{checkpoints}
use Rattle.co_law_node.proofs.WholeMoves.{Whole}
use Rattle.co_law_node.proofs.WholeTables.{coord_checkpoints}
use Rattle.co_law_node.proofs.WritableCoords.{opened_coord_writable}
use Rattle.co_law_node.proofs.WritableMembers.{member_writable}
use Rattle.co_law_migrate.specs.Migrated.{found_closed, member_over, coord_over, migrated}

-- ---- members

pub same_view : (m : ℕ) (records : List Record) → recovered_view (migrated (node.Member m) records) ≡ recovered_view records
same_view m records = spare_tells m (member_over m records) (next_generation (generation_of (made (node.Member m) records)))

whole_over : (coords m : ℕ) (records : List Record) → first_refused_at_member coords (reverse records) ≡ None → Whole coords (member_over m records)
whole_over coords m records h =
    let p = told records h in
    record {
      allowed = p.0;
      headed = p.1;
      aborts = tt;
      logged = p.2;
      keeps = record {
        active = λ t os e. is_nothing (sym (look_none t) ∙ e);
        installed = λ t e. absurd (let z : false ≡ true = e in cc);
        marked = λ t mark e. is_nothing (sym (look_none t) ∙ e);
      };
      down = λ e. absurd (let z : true ≡ false = e in cc);
    }
  where
    told : (rs : List Record) → first_refused_at_member coords (reverse rs) ≡ None →
        Allowed coords (made (node.Member m) rs) × (1 ≤ length (made (node.Member m) rs)) × (recovered_view (made (node.Member m) rs) ≡ recovered_view rs)
    told [] a = ((refl, tt), omega arith, refl)
    told (r ∷ rs) a = (allowed_from coords (r ∷ rs) a, omega arith, refl)

pub member_allowed : (coords m : ℕ) (records : List Record) → first_refused_at_member coords (reverse records) ≡ None → first_refused_at_member coords (reverse (migrated (node.Member m) records)) ≡ None
member_allowed coords m records h = none_from coords (migrated (node.Member m) records) (checkpoints coords m (member_over m records) (whole_over coords m records h) refl).allowed

pub member_within : (coords m : ℕ) (records : List Record) → coords ≤ most_coordinators → IsAmong m most_members →
    first_refused_at_member coords (reverse records) ≡ None → AllByRecursion IsWithinBounds records → AllByRecursion IsWithinBounds (migrated (node.Member m) records)
member_within coords m records few own h within =
    (member_writable coords m few own (member_over m records) (whole_over coords m records h) (bounded records within)).spare_within (next_generation (generation_of (made (node.Member m) records)))
  where
    bounded : (rs : List Record) → AllByRecursion IsWithinBounds rs → AllByRecursion IsWithinBounds (made (node.Member m) rs)
    bounded [] b = (own, tt)
    bounded (r ∷ rs) b = b

-- ---- coordinators

module _ (c : ℕ) (records : List Record) where
  abbrev table : Table Entry
  table = table_from (entries (recovered_commits records).unended)

  abbrev header : List Record
  header = log.Header (node.Coord c) (next_generation (generation_of (made (node.Coord c) records))) ∷ []

  abbrev IsTabled : ℕ → Entry → Type 0
  IsTabled t e = look table t ≡ Some e

  all_tabled : EachEntry IsTabled (entries table)
  all_tabled = each_entry IsTabled (entries table) (entries_sorted table) (λ u x g. get-entries table u ∙ g)

  still : (t : ℕ) (ms : List ℕ) → unended_in records t ≡ Some ms → unended_in (migrated (node.Coord c) records) t ≡ Some ms
  still t ms h =
      spare_found (entries table) header t ms [] (entries_sorted table) (unended_some records t ms h)
      (sym (get-entries table t) ∙ from_found (recovered_commits records).unended t ms h)

  before : (t : ℕ) (ms acks : List ℕ) → IsTabled t (entry.Committed ms acks) → (ns : List ℕ) × (unended_in records t ≡ Some ns) × (ns ≡ ms)
  before t ms acks tabled =
      let p = from_cases (recovered_commits records).unended t (entry.Committed ms acks) tabled in
      (p.0, p.1, (let z : entry.Committed p.0 [] ≡ entry.Committed ms acks = p.2 in cc))

  was : (t : ℕ) (ms : List ℕ) → unended_in (migrated (node.Coord c) records) t ≡ Some ms → unended_in records t ≡ Some ms
  was t ms h = by (spare_cases IsTabled (entries table) header t ms all_tabled h)
    where
      by : (unended_in header t ≡ Some ms) ⊎ ((acks : List ℕ) × IsTabled t (entry.Committed ms acks)) → unended_in records t ≡ Some ms
      by (inl none) = is_nothing (sym (look_none t) ∙ none)
      by (inr p) = let q = before t ms p.0 p.1 in q.1 ∙ ap Some q.2

  pub same_unended : (t : ℕ) → unended_in (migrated (node.Coord c) records) t ≡ unended_in records t
  same_unended t = by (unended_in records t) refl (unended_in (migrated (node.Coord c) records) t) refl
    where
      by : (o : Option (List ℕ)) → unended_in records t ≡ o → (n : Option (List ℕ)) → unended_in (migrated (node.Coord c) records) t ≡ n → unended_in (migrated (node.Coord c) records) t ≡ unended_in records t
      by (Some ms) e n g = still t ms e ∙ sym e
      by None e None g = g ∙ sym e
      by None e (Some ms) g = is_nothing (sym e ∙ was t ms g)

  -- a commit that is told is one without end
  pub seen_unended : (t : ℕ) → has_commit_of (migrated (node.Coord c) records) t ≡ true → has_unended records t ≡ true
  seen_unended t h = by (seen_cases IsTabled (entries table) header t all_tabled h)
    where
      by : (has_commit_of header t ≡ true) ⊎ ((ms acks : List ℕ) × IsTabled t (entry.Committed ms acks)) → has_unended records t ≡ true
      by (inl none) = absurd (let z : false ≡ true = sym (ap is_some (look_none t)) ∙ none in cc)
      by (inr p) = let q = before t p.0 p.1 p.2 in ap is_some q.1

pub coord_allowed : (members c : ℕ) (records : List Record) → first_refused_at_coord members (reverse records) ≡ None → first_refused_at_coord members (reverse (migrated (node.Coord c) records)) ≡ None
coord_allowed members c records h =
    no_refused members (migrated (node.Coord c) records) (coord_checkpoints members c (coord_over c records) (whole_coord_opened members c (found_closed records) h) refl).allowed

pub coord_within : (members c : ℕ) (records : List Record) → members ≤ most_members → IsAmong c most_coordinators →
    first_refused_at_coord members (reverse records) ≡ None → AllByRecursion IsWritable records → AllByRecursion IsWritable (migrated (node.Coord c) records)
coord_within members c records few own h within =
    (opened_coord_writable members c (found_closed records) few own h within).spare (next_generation (generation_of (made (node.Coord c) records)))
