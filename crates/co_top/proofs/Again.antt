-- What a run left in the logs may be run again.
use Rattle.std.proofs.Common.{◌≡◌, ℕ, Bool, true, false, ◌&&◌, List, [], length, reverse, ◌==◌, if◌then◌else◌, Option, None, refl, sym, ap, ◌∙◌, subst}
use Rattle.std.specs.Prelude.{nat_le}
use Rattle.std.specs.List.{AllByRecursion}
use Rattle.std.proofs.lemmas.Bool.{leb-true, le-leb}
use Rattle.co_base.specs.declared.head.Kind.{Kind}
use Rattle.co_base.specs.declared.node.Node.{Node}
use Rattle.co_base.specs.declared.node.Node.TheVariants as node
use Rattle.co_outside.specs.declared.spot.Spot.{Spot}
use Rattle.co_outside.specs.Home.{File}
use Rattle.co_frame.specs.Gate.{begins_closed}
use Rattle.co_record.specs.Spelling.{IsWritable}
use Rattle.co_record.specs.declared.record.Record.{Record}
use Rattle.co_log.specs.NodeFiles.{Items, newest_first, HasRecordsIn}
use Rattle.co_durable.proofs.Firsts.{all_back}
use Rattle.co_opening.specs.Found.{IsFoundIn, AreFound, MayRun}
use Rattle.co_plain.specs.CoordView.{first_refused_at_coord}
use Rattle.co_plain.specs.Federation.{Federation}
use Rattle.co_plain.specs.Invariants.{Stable}
use Rattle.co_plain.specs.MemberView.{first_refused_at_member}
use Rattle.co_plain.specs.Opening.{Found, fresh}
use Rattle.co_law_node.specs.WholeNodes.{AreWhole, AreWritable}
use Rattle.co_law_node.specs.Writable.{IsWithinBounds}
use Rattle.co_plain.specs.Numbers.{IsAmong}

-- whether there is a node of this number
abbrev pub is_one : ℕ → ℕ → Bool
is_one n count = nat_le 1 n && nat_le n count

pub one_between : (n count : ℕ) → is_one n count ≡ true → IsAmong n count
one_between n count e = by (nat_le 1 n) (nat_le n count) refl refl e
  where
    by : (a b : Bool) → nat_le 1 n ≡ a → nat_le n count ≡ b → (a && b) ≡ true → IsAmong n count
    by true true low high e = (leb-true 1 n low, leb-true n count high)
    by true false low high e = absurd cc
    by false b low high e = absurd cc

between_one : (n count : ℕ) → IsAmong n count → is_one n count ≡ true
between_one n count between = rw (le-leb 1 n between.0, le-leb n count between.1) refl

-- the nodes of a sort, in whose files these records are
module _ (file : Spot → Option File) (sort : ℕ → Node) (logs : ℕ → List Record) (count : ℕ) (has : (n : ℕ) → IsAmong n count → (items : Items) × HasRecordsIn file (sort n) items × (newest_first items ≡ logs n)) where
  -- what is found of one of them, and of what is none
  abbrev pub found_of : (n : ℕ) → IsAmong n count → Found
  found_of n between =
      let it = has n between in
      record { records = newest_first it.0; spare_closed = begins_closed (if it.1.0 == 0 then it.1.1.b else it.1.1.a) }

  abbrev pub found_if : (n : ℕ) (b : Bool) → is_one n count ≡ b → Found
  found_if n true e = found_of n (one_between n count e)
  found_if n false e = record { records = []; spare_closed = false }

  abbrev pub found_at : ℕ → Found
  found_at n = found_if n (is_one n count) refl

  found_in : (n : ℕ) (between : IsAmong n count) → IsFoundIn file (sort n) (found_of n between)
  found_in n between =
      let it = has n between in
      record { part = it.1.0; items = it.0; current = it.1.1; records = refl; spare = refl }

  pub is_found : (n : ℕ) → IsAmong n count → IsFoundIn file (sort n) (found_at n)
  is_found n between = by (is_one n count) refl
    where
      by : (b : Bool) (e : is_one n count ≡ b) → IsFoundIn file (sort n) (found_if n b e)
      by true e = found_in n (one_between n count e)
      by false e = absurd (let z : true ≡ false = sym (between_one n count between) ∙ e in cc)

  pub none_found : (n : ℕ) → is_one n count ≡ false → found_at n ≡ fresh
  none_found n none = by (is_one n count) refl
    where
      by : (b : Bool) (e : is_one n count ≡ b) → found_if n b e ≡ fresh
      by true e = absurd (let z : true ≡ false = sym e ∙ none in cc)
      by false e = refl

  -- what holds of the records of each, and of none, holds of what is found
  pub all_found : (P : List Record → Type 0) → P [] → ((n : ℕ) → IsAmong n count → P (logs n)) → (n : ℕ) → P (found_at n).records
  all_found P empty each n = by (is_one n count) refl
    where
      by : (b : Bool) (e : is_one n count ≡ b) → P (found_if n b e).records
      by true e =
          let between = one_between n count e in
          subst P (sym (has n between).2) (each n between)
      by false e = empty

-- The files have the stable records of a state whose nodes are whole and writable: what they have then may be run.
module _ (file : Spot → Option File) (kinds : List Kind) (coords : ℕ) (s : Federation) (whole : AreWhole (length kinds) coords s) (writable : AreWritable (length kinds) coords s)
    (members : (m : ℕ) → IsAmong m (length kinds) → (items : Items) × HasRecordsIn file (node.Member m) items × (newest_first items ≡ (s.member m).log.stable))
    (coordinators : (c : ℕ) → IsAmong c coords → (items : Items) × HasRecordsIn file (node.Coord c) items × (newest_first items ≡ (s.coord c).log.stable)) where
  abbrev fm : ℕ → Found
  fm = found_at file node.Member (λ m. (s.member m).log.stable) (length kinds) members

  abbrev fc : ℕ → Found
  fc = found_at file node.Coord (λ c. (s.coord c).log.stable) coords coordinators

  may : MayRun kinds coords fm fc
  may =
      record {
        own = record {
          members = λ m out. ap (λ (f : Found). f.records) (none_found file node.Member (λ m. (s.member m).log.stable) (length kinds) members m out);
          coordinators = λ c out. ap (λ (f : Found). f.records) (none_found file node.Coord (λ c. (s.coord c).log.stable) coords coordinators c out);
        };
        members_allowed = all_found file node.Member (λ m. (s.member m).log.stable) (length kinds) members (λ rs. first_refused_at_member coords (reverse rs) ≡ None) refl (λ m between. (whole.member m).readable Stable);
        coords_allowed = all_found file node.Coord (λ c. (s.coord c).log.stable) coords coordinators (λ rs. first_refused_at_coord (length kinds) (reverse rs) ≡ None) refl (λ c between. (whole.coord c).readable Stable);
        members_within = all_found file node.Member (λ m. (s.member m).log.stable) (length kinds) members (AllByRecursion IsWithinBounds) tt
            (λ m between. all_back IsWithinBounds (s.member m).log.waiting (s.member m).log.stable (writable.member m between).records);
        coords_within = all_found file node.Coord (λ c. (s.coord c).log.stable) coords coordinators (AllByRecursion IsWritable) tt
            (λ c between. all_back IsWritable (s.coord c).log.waiting (s.coord c).log.stable (writable.coord c between).records);
      }

  pub may_again : (found_member found_coord : ℕ → Found) × AreFound file (length kinds) coords found_member found_coord × MayRun kinds coords found_member found_coord
  may_again = (
    fm,
    fc,
    record {
      member = λ m low high. is_found file node.Member (λ m. (s.member m).log.stable) (length kinds) members m (low, high);
      coord = λ c low high. is_found file node.Coord (λ c. (s.coord c).log.stable) coords coordinators c (low, high);
      no_member = none_found file node.Member (λ m. (s.member m).log.stable) (length kinds) members;
      no_coord = none_found file node.Coord (λ c. (s.coord c).log.stable) coords coordinators;
    },
    may,
  )
