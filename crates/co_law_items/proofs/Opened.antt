-- A federation over logs whose records are of their format names such keys, values and numbers alone; nothing waits there yet, and opening tells
-- of at most one header for each node.
use Rattle.std.proofs.Common.{◌≡◌, ℕ, zero, suc, ◌≤◌, List, [], ◌∷◌, ◌++◌, length, refl, arith, length-append}
use Rattle.std.specs.List.{AllByRecursion}
use Rattle.co_base.specs.declared.head.Kind.{Kind}
use Rattle.co_base.specs.declared.node.Node.{Node}
use Rattle.co_base.specs.declared.node.Node.TheVariants as node
use Rattle.co_base.specs.Limits.{most_coordinators, most_members}
use Rattle.co_message.specs.declared.answer.Answer.TheVariants as answer
use Rattle.co_record.specs.Format.{newest}
use Rattle.co_record.specs.Spelling.{IsSpelled, IsRowIn, IsChangeIn}
use Rattle.co_record.specs.declared.record.Record.{Record}
use Rattle.co_record.specs.declared.record.Record.TheVariants as log
use Rattle.co_schedule.specs.View.{IsNode, IsKey}
use Rattle.co_transcript.specs.Items.{IsMark}
use Rattle.co_plain.specs.Opening.{Found, made, header_mark, kind_of, opened, member_headers, coord_headers, opening_items}
use Rattle.co_law_items.proofs.Named.{all_append, all_as, holds_nothing}
use Rattle.co_law_items.proofs.Logs.{IsRecordOf, engine_named}
use Rattle.co_law_items.proofs.Answers.{IsKindOf, items_named}
use Rattle.co_law_items.proofs.Members.{IsAsked}
use Rattle.co_law_items.proofs.Coords.{recovered_named}
use Rattle.co_law_items.proofs.Steps.{IsSessionAt, IsFederationOf, counts}
use Rattle.co_law_items.proofs.Weights.{weight, sum_none, member_waits, coord_waits}

-- a record of the format
pub as_record : (r : Record) → IsSpelled r → IsRecordOf IsKey r
as_record (log.Header owner generation) h = let g = h.1 in omega (arith, g)
as_record (log.Prepare t coord count reads writes) h =
    let g = h.1.0 in (omega (arith, g), h.0.0, all_as (IsChangeIn newest) _ (λ w k. k) writes h.1.2)
as_record (log.Commit t members) h = let g = h.1 in (omega (arith, g), (h.0.1, h.0.2))
as_record (log.Abort t) h = let g = h.1 in omega (arith, g)
as_record (log.End t) h = let g = h.1 in omega (arith, g)
as_record (log.Checkpoint rows undos committed) h = (all_as (IsRowIn newest) _ (λ row k. k) rows h.1.0, all_as (IsChangeIn newest) _ (λ w k. k) undos h.1.2)

module _ (P : List ℕ → Type 0) (kinds : List Kind) (coords : ℕ) (fm fc : ℕ → Found) (written_m : (m : ℕ) → AllByRecursion (IsRecordOf P) (fm m).records) (written_c : (c : ℕ) → AllByRecursion (IsRecordOf P) (fc c).records) where
  headed : (owner : Node) (rs : List Record) → AllByRecursion (IsRecordOf P) rs → AllByRecursion (IsRecordOf P) (made owner rs)
  headed owner [] h = (omega arith, tt)
  headed owner (r ∷ rs) h = h

  pub opened_named : IsFederationOf P (opened kinds coords fm fc)
  opened_named =
      record {
        members = λ m. record {
          engine = engine_named P (kind_of kinds m) (fm m).records (written_m m);
          asked = holds_nothing IsAsked;
          log = record { stable = headed (node.Member m) (fm m).records (written_m m); waiting = tt; armed = tt };
        };
        coords = λ c. record {
          table = recovered_named P (fc c).records (written_c c);
          log = record { stable = headed (node.Coord c) (fc c).records (written_c c); waiting = tt; armed = tt };
        };
        sessions = holds_nothing (IsSessionAt P);
      }

pub nothing_waits : (kinds : List Kind) (coords : ℕ) (fm fc : ℕ → Found) → weight (opened kinds coords fm fc) ≡ 0
nothing_waits kinds coords fm fc =
    let m = sum_none 16 (λ i. member_waits ((opened kinds coords fm fc).member i)) (λ i. refl) in
    let c = sum_none 8 (λ i. coord_waits ((opened kinds coords fm fc).coord i)) (λ i. refl) in omega (arith, m, c)

-- ---- the headers that were made

header_named : (owner : Node) → IsNode most_members most_coordinators owner → (rs : List Record) → AllByRecursion IsMark (header_mark owner rs)
header_named owner own [] = ((own, omega arith), tt)
header_named owner own (r ∷ rs) = tt

header_few : (owner : Node) (rs : List Record) → length (header_mark owner rs) ≤ 1
header_few owner [] = omega arith
header_few owner (r ∷ rs) = omega arith

members_headed : (n : ℕ) → n ≤ most_members → (fm : ℕ → Found) → AllByRecursion IsMark (member_headers n fm)
members_headed zero l fm = tt
members_headed (suc n) l fm =
    all_append IsMark (member_headers n fm) (header_mark (node.Member (suc n)) (fm (suc n)).records) (members_headed n (omega (arith, l)) fm)
    (header_named (node.Member (suc n)) (omega arith, l) (fm (suc n)).records)

coords_headed : (n : ℕ) → n ≤ most_coordinators → (fc : ℕ → Found) → AllByRecursion IsMark (coord_headers n fc)
coords_headed zero l fc = tt
coords_headed (suc n) l fc =
    all_append IsMark (coord_headers n fc) (header_mark (node.Coord (suc n)) (fc (suc n)).records) (coords_headed n (omega (arith, l)) fc)
    (header_named (node.Coord (suc n)) (omega arith, l) (fc (suc n)).records)

members_few : (n : ℕ) (fm : ℕ → Found) → length (member_headers n fm) ≤ n
members_few zero fm = omega arith
members_few (suc n) fm =
    let a = length-append (member_headers n fm) (header_mark (node.Member (suc n)) (fm (suc n)).records) in
    let b = members_few n fm in
    let c = header_few (node.Member (suc n)) (fm (suc n)).records in omega (arith, a, b, c)

coords_few : (n : ℕ) (fc : ℕ → Found) → length (coord_headers n fc) ≤ n
coords_few zero fc = omega arith
coords_few (suc n) fc =
    let a = length-append (coord_headers n fc) (header_mark (node.Coord (suc n)) (fc (suc n)).records) in
    let b = coords_few n fc in
    let c = header_few (node.Coord (suc n)) (fc (suc n)).records in omega (arith, a, b, c)

module _ (P : List ℕ → Type 0) (kinds : List Kind) (coords : ℕ) (fm fc : ℕ → Found) (few_members : length kinds ≤ most_members) (few_coords : coords ≤ most_coordinators) where
  pub opening_named : AllByRecursion (IsKindOf P) (opening_items kinds coords fm fc)
  opening_named =
      items_named P (member_headers (length kinds) fm ++ coord_headers coords fc) [] answer.Opened
      (all_append IsMark (member_headers (length kinds) fm) (coord_headers coords fc) (members_headed (length kinds) few_members fm) (coords_headed coords few_coords fc)) tt tt

  pub opening_few : length (opening_items kinds coords fm fc) ≤ 25
  opening_few =
      let a = counts P (member_headers (length kinds) fm ++ coord_headers coords fc) [] answer.Opened in
      let b = length-append (member_headers (length kinds) fm) (coord_headers coords fc) in
      let c = members_few (length kinds) fm in
      let d = coords_few coords fc in omega (arith, a, b, c, d, few_members, few_coords)
