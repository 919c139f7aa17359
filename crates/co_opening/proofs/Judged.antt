-- The logs of all nodes, with what they tell, are ones that a federation may be opened over.
use Rattle.std.proofs.Common.{◌≡◌, ℕ, suc, ◌≤◌, ◌<◌, ◌&&◌, Bool, true, false, List, [], length, refl, sym, ap, subst, ◌∙◌, arith}
use Rattle.std.specs.Prelude.{reverse, nat_le, Option, None, Ok}
use Rattle.std.proofs.lemmas.List.{reverse-reverse}
use Rattle.std.specs.FinMap.{keys}
use Rattle.std.specs.List.{AllByRecursion}
use Rattle.co_base.specs.declared.head.Head.{Head}
use Rattle.co_base.specs.declared.node.Node.TheVariants.{Member, Coord}
use Rattle.co_outside.specs.declared.spot.Spot.{Spot}
use Rattle.co_outside.specs.Home.{File}
use Rattle.co_record.specs.declared.record.Record.{Record}
use Rattle.co_record.specs.declared.record.Record.TheVariants as log
use Rattle.co_record.specs.Spelling.{IsWritable}
use Rattle.co_log.specs.LogView.{LogView}
use Rattle.co_log.specs.NodeFiles.{Items, newest_first}
use Rattle.co_law_node.specs.Writable.{IsWithinBounds}
use Rattle.co_plain.specs.CoordView.{first_refused_at_coord, recovered_commits}
use Rattle.co_plain.specs.MemberView.{first_refused_at_member, recovered_view}
use Rattle.co_plain.specs.Opening.{Found, used_numbers}
use Rattle.co_recover.specs.Recovered.{records_of, past_of_member, past_of_coord, IsMemberRecovery, IsCoordRecovery}
use Rattle.co_recover.specs.declared.past.CoordPast.{CoordPast}
use Rattle.co_recover.specs.declared.past.MemberPast.{MemberPast}
use Rattle.co_state.specs.Table.{no_entries}
use Rattle.co_durable.specs.declared.fault.WorldFault.{WorldFault}
use Rattle.co_durable.specs.declared.fault.WorldFault.TheVariants.{Device, Differs, InUse, Bad, Full, Count, Old, Memory}
use Rattle.co_durable.specs.Nodes.{member_nodes, coord_nodes}
use Rattle.co_durable.specs.Pairs.{EachPair}
use Rattle.co_durable.specs.Recovering.{HasItems, IsPastOf}
use Rattle.co_durable.proofs.Numbered.{so_many}
use Rattle.co_durable.proofs.Pairs.{all_map, pairs_length}
use Rattle.co_opening.specs.Attached.{AreAttached, IsAttachedTo}
use Rattle.co_opening.specs.Counted.{with_members, with_coords}
use Rattle.co_opening.specs.Found.{IsFoundIn}
use Rattle.co_opening.specs.Judged.{AreJudged, IsUncounted}
use Rattle.co_opening.specs.Opened.{IsUnopened}
use Rattle.co_opening.specs.Standing.{IsMemberFound, IsCoordFound, IsCoordPastOf}
use Rattle.co_opening.specs.Versions.{IsLatest}
use Rattle.co_opening.proofs.Judgings.{fit}
use Rattle.co_opening.proofs.Laid.{all_laid, none_used}
use Rattle.co_opening.proofs.Lists.{found_at, Founds, found_all, founds_length, founds_from, founds_all, founds_both, same_at, all_at, outside, in_files_at}
use Rattle.co_opening.proofs.Numbering.{by_number}

-- ---- what the records tell

abbrev MemberTold : ℕ → List Record → MemberPast → Type 0
MemberTold coords records past = (first_refused_at_member coords (reverse records) ≡ None) × (past ≡ past_of_member (recovered_view records))

abbrev CoordTold : ℕ → List Record → CoordPast → Type 0
CoordTold members records past = (first_refused_at_coord members (reverse records) ≡ None) × (past ≡ past_of_coord (recovered_commits records))

member_tells : (coords : ℕ) (l : LogView) (items : Items) (past : MemberPast) → HasItems l items → IsPastOf coords l past → MemberTold coords (newest_first items) past
member_tells coords l items past has told =
    let r : IsMemberRecovery coords items (Ok past) = told items has in
    (ap (first_refused_at_member coords) (reverse-reverse (records_of items)) ∙ r.0, r.1)

coord_tells : (members : ℕ) (l : LogView) (items : Items) (past : CoordPast) → HasItems l items → IsCoordPastOf members l past → CoordTold members (newest_first items) past
coord_tells members l items past has told =
    let r : IsCoordRecovery members items (Ok past) = told items has in
    (ap (first_refused_at_coord members) (reverse-reverse (records_of items)) ∙ r.0, r.1)

bounded : (r : Record) → IsWritable r → IsWithinBounds r
bounded (log.Header owner generation) h = h
bounded (log.Prepare t coord count reads writes) h = h
bounded (log.Commit t members) h = h
bounded (log.Abort t) h = h
bounded (log.End t) h = h
bounded (log.Checkpoint rows undos committed) h = h.2

-- ---- what was found of all nodes

module _ (file : Spot → Option File) (resume : Bool) (head : Head) (member_logs coord_logs : List LogView) (att : AreAttached file resume (length head.kinds) head.coords member_logs coord_logs)
    (member_pasts : List MemberPast) (coord_pasts : List CoordPast) (told : EachPair (IsPastOf head.coords) member_logs member_pasts) (seen : EachPair (IsCoordPastOf (length head.kinds)) coord_logs coord_pasts)
    (latest : AllByRecursion IsLatest member_logs) (newest : AllByRecursion IsLatest coord_logs) where
  abbrev members : ℕ
  members = length head.kinds

  abbrev coords : ℕ
  coords = head.coords

  found_members : Founds file resume Member (MemberTold coords) 0 member_logs member_pasts
  found_members = found_all file resume Member (MemberTold coords) (IsPastOf coords) (member_tells coords) 0 member_logs member_pasts (by_number (IsAttachedTo file resume) Member members member_logs att.member) told latest

  found_coords : Founds file resume Coord (CoordTold members) 0 coord_logs coord_pasts
  found_coords = found_all file resume Coord (CoordTold members) (IsCoordPastOf members) (coord_tells members) 0 coord_logs coord_pasts (by_number (IsAttachedTo file resume) Coord coords coord_logs att.coord) seen newest

  many_members : length member_logs ≡ members
  many_members = pairs_length (IsAttachedTo file resume) (member_nodes members) member_logs att.member ∙ so_many Member members

  many_coords : length coord_logs ≡ coords
  many_coords = pairs_length (IsAttachedTo file resume) (coord_nodes coords) coord_logs att.coord ∙ so_many Coord coords

  pub judged : AreJudged file resume head member_logs coord_logs member_pasts coord_pasts
  judged =
      let ms = found_members in
      let cs = found_coords in
      let many : length ms.list ≡ members = founds_length file resume Member (MemberTold coords) 0 member_logs member_pasts ms.list ms.are ∙ many_members in
      let few : length cs.list ≡ coords = founds_length file resume Coord (CoordTold members) 0 coord_logs coord_pasts cs.list cs.are ∙ many_coords in
      record {
        found_member = found_at ms.list;
        found_coord = found_at cs.list;
        found = record {
          member = λ m low high. in_files_at file Member ms.list (founds_from file resume Member (MemberTold coords) (λ q f. IsFoundIn file (Member (suc q)) f) (λ q l t f is t_is. is.in_file) 0 member_logs member_pasts ms.list ms.are) m low
              (subst (λ n. m ≤ n) (sym many) high);
          coord = λ c low high. in_files_at file Coord cs.list (founds_from file resume Coord (CoordTold members) (λ q f. IsFoundIn file (Coord (suc q)) f) (λ q l t f is t_is. is.in_file) 0 coord_logs coord_pasts cs.list cs.are) c low
              (subst (λ n. c ≤ n) (sym few) high);
          no_member = λ m out. outside ms.list m (ap (λ n. nat_le 1 m && nat_le m n) many ∙ out);
          no_coord = λ c out. outside cs.list c (ap (λ n. nat_le 1 c && nat_le c n) few ∙ out);
        };
        may = record {
          own = record {
            members = λ m out. ap (λ (f : Found). f.records) (outside ms.list m (ap (λ n. nat_le 1 m && nat_le m n) many ∙ out));
            coordinators = λ c out. ap (λ (f : Found). f.records) (outside cs.list c (ap (λ n. nat_le 1 c && nat_le c n) few ∙ out));
          };
          members_allowed = all_at (λ f. first_refused_at_member coords (reverse f.records) ≡ None) ms.list refl
              (founds_all file resume Member (MemberTold coords) (λ f. first_refused_at_member coords (reverse f.records) ≡ None) (λ q l t f is t_is. t_is.0) 0 member_logs member_pasts ms.list ms.are);
          coords_allowed = all_at (λ f. first_refused_at_coord members (reverse f.records) ≡ None) cs.list refl
              (founds_all file resume Coord (CoordTold members) (λ f. first_refused_at_coord members (reverse f.records) ≡ None) (λ q l t f is t_is. t_is.0) 0 coord_logs coord_pasts cs.list cs.are);
          members_within = all_at (λ f. AllByRecursion IsWithinBounds f.records) ms.list tt
              (founds_all file resume Member (MemberTold coords) (λ f. AllByRecursion IsWithinBounds f.records) (λ q l t f is t_is. all_map IsWritable IsWithinBounds bounded f.records is.writable) 0 member_logs member_pasts ms.list ms.are);
          coords_within = all_at (λ f. AllByRecursion IsWritable f.records) cs.list tt
              (founds_all file resume Coord (CoordTold members) (λ f. AllByRecursion IsWritable f.records) (λ q l t f is t_is. is.writable) 0 coord_logs coord_pasts cs.list cs.are);
        };
        unused = λ none. record {
          members = all_at (λ f. f.records ≡ []) ms.list refl (founds_all file resume Member (MemberTold coords) (λ f. f.records ≡ []) (λ q l t f is t_is. is.unused none) 0 member_logs member_pasts ms.list ms.are);
          coords = all_at (λ f. f.records ≡ []) cs.list refl (founds_all file resume Coord (CoordTold members) (λ f. f.records ≡ []) (λ q l t f is t_is. is.unused none) 0 coord_logs coord_pasts cs.list cs.are);
        };
        members = founds_both file resume Member (MemberTold coords) (λ q l t f. IsMemberFound coords (suc q) l t f)
            (λ q l t f is t_is. record { standing = is.standing; allowed = t_is.0; past_is = t_is.1 }) (found_at ms.list) 0 member_logs member_pasts ms.list (same_at ms.list) ms.are;
        coords = founds_both file resume Coord (CoordTold members) (λ q l t f. IsCoordFound members (suc q) l t f)
            (λ q l t f is t_is. record { standing = is.standing; allowed = t_is.0; past_is = t_is.1 }) (found_at cs.list) 0 coord_logs coord_pasts cs.list (same_at cs.list) cs.are;
        many_members = many_members;
        many_coords = many_coords;
        fit = fit file resume head member_logs coord_logs att member_pasts coord_pasts told seen latest newest;
      }

-- ---- too many numbers

module _ (file : Spot → Option File) (resume : Bool) (head : Head) (member_logs coord_logs : List LogView) (member_pasts : List MemberPast) (coord_pasts : List CoordPast)
    (j : AreJudged file resume head member_logs coord_logs member_pasts coord_pasts) where
  pub laid_used : with_coords (with_members no_entries member_pasts) coord_pasts ≡ used_numbers (length head.kinds) head.coords j.found_member j.found_coord
  laid_used = all_laid (length head.kinds) head.coords j.found_member j.found_coord member_logs coord_logs member_pasts coord_pasts j.many_members j.many_coords j.members j.coords

  too_many : 65536 < length (keys (with_coords (with_members no_entries member_pasts) coord_pasts)) → IsUnopened file head resume Count
  too_many h =
      let many : 65536 < length (keys (used_numbers (length head.kinds) head.coords j.found_member j.found_coord)) = subst (λ numbers. 65536 < length (keys numbers)) laid_used h in
      (by resume refl many, j.fit, record { found_member = j.found_member; found_coord = j.found_coord; found = j.found; many = many })
    where
      by : (b : Bool) → resume ≡ b → 65536 < length (keys (used_numbers (length head.kinds) head.coords j.found_member j.found_coord)) → resume ≡ true
      by true e many = e
      by false e many =
          let none = j.unused e in
          absurd (omega (arith, many, none_used (length head.kinds) head.coords j.found_member j.found_coord none.members none.coords))

  pub uncounted : (fault : WorldFault) → IsUncounted (keys (with_coords (with_members no_entries member_pasts) coord_pasts)) fault → IsUnopened file head resume fault
  uncounted (Device spot) u = tt
  uncounted (Differs spot at kept other) u = absurd u
  uncounted (InUse spot) u = absurd u
  uncounted (Bad spot at) u = absurd u
  uncounted (Full spot) u = absurd u
  uncounted Count u = too_many u
  uncounted (Old spot) u = absurd u
  uncounted Memory u = tt
