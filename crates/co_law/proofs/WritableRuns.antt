-- Every state of a run writes what can be written, over any opened logs that were.
use Rattle.std.proofs.Common.{◌≡◌, ℕ, true, ◌≤◌, List, length, reverse, None, sym, ◌∙◌, arith}
use Rattle.std.specs.List.{AllByRecursion}
use Rattle.co_base.specs.declared.head.Kind.{Kind}
use Rattle.co_base.specs.Limits.{most_coordinators, most_members}
use Rattle.co_record.specs.Spelling.{IsWritable}
use Rattle.co_plain.specs.declared.coord_state.CoordState.{CoordState}
use Rattle.co_plain.specs.declared.happening.Happening.{Happening}
use Rattle.co_plain.specs.declared.member_state.MemberState.{MemberState}
use Rattle.co_plain.specs.CoordStep.{members_of}
use Rattle.co_plain.specs.CoordView.{all_up_to, first_refused_at_coord}
use Rattle.co_plain.specs.MemberView.{first_refused_at_member}
use Rattle.co_plain.specs.Opening.{Found, OnlyOwnLogs, opened}
use Rattle.co_plain.specs.Runs.{run}
use Rattle.co_law_base.proofs.Lookups.{is_nothing, look_none}
use Rattle.co_plain.specs.Premises.{AreOwn}
use Rattle.co_law_node.specs.WholeMembers.{IsWholeMember}
use Rattle.co_plain.specs.Numbers.{IsAmong}
use Rattle.co_law_node.specs.WholeCoords.{IsWholeCoord}
use Rattle.co_law_node.specs.WholeNodes.{AreWritable}
use Rattle.co_law_node.specs.Writable.{IsWithinBounds, IsWritableMember, IsWritableCoord}
use Rattle.co_law_node.proofs.MemberEvents.{whole_opened}
use Rattle.co_law_node.proofs.MemberLaws.{as_told, stays_whole, stays_both}
use Rattle.co_law_node.proofs.CoordEvents.{whole_coord_opened}
use Rattle.co_law_node.proofs.CoordLaws.{coord_as_told, coord_stays_whole, coord_stays_as, coord_stays_both}
use Rattle.co_law_node.proofs.WritableMembers.{stays_writable, opened_writable}
use Rattle.co_law_node.proofs.WritableCoords.{coord_stays, opened_coord_writable}
use Rattle.co_law.proofs.NodeRuns.{HaveNodes, MayName, KeepAlways, run_nodes}
use Rattle.co_law.proofs.OwnStart.{start_own}

-- a node that is whole, and writable where the federation has it
abbrev WritesAt : ℕ → ℕ → ℕ → MemberState → Type 0
WritesAt n k m x = IsWholeMember k x × (IsAmong m n → IsWritableMember k m x)

abbrev CommitsAt : ℕ → ℕ → ℕ → CoordState → Type 0
CommitsAt n k c y = IsWholeCoord n y × (IsAmong c k → IsWritableCoord c y)

wider : (n most m : ℕ) → n ≤ most → IsAmong m n → IsAmong m most
wider n most m few a = let up = a.1 in (a.0, omega (arith, few, up))

always_writable : (n k : ℕ) → n ≤ most_members → k ≤ most_coordinators → KeepAlways n k (WritesAt n k) (CommitsAt n k)
always_writable n k few short =
    record {
      member = λ m x p.
          stays_both k m x (IsWholeMember k) (IsWritableMember k m) (IsAmong m n) (stays_whole k m x p.0)
          (λ a. stays_writable k m x short (wider n most_members m few a) p.0 (p.1 a));
      coord = λ c y p.
          coord_stays_both c y (IsWholeCoord n) (IsWritableCoord c) (MayName n) (IsAmong c k)
          (coord_stays_as c y (IsWholeCoord n) (IsWholeCoord n) (λ parts. all_up_to n (members_of parts) ≡ true) (MayName n) (λ z v. v) (λ parts named. named.0) (coord_stays_whole n c y p.0))
          (λ a. coord_stays n c y few (wider k most_coordinators c short a) p.0 (p.1 a));
      ends = λ c y p. p.0.waiting;
    }

pub are_writable : (kinds : List Kind) (coords : ℕ) (fm fc : ℕ → Found) (hs : List Happening) → 1 ≤ coords → coords ≤ most_coordinators → length kinds ≤ most_members →
    OnlyOwnLogs kinds coords fm fc →
    ((m : ℕ) → first_refused_at_member coords (reverse (fm m).records) ≡ None) → ((c : ℕ) → first_refused_at_coord (length kinds) (reverse (fc c).records) ≡ None) →
    ((m : ℕ) → AllByRecursion IsWithinBounds (fm m).records) → ((c : ℕ) → AllByRecursion IsWritable (fc c).records) →
    AreOwn (length kinds) coords hs → AreWritable (length kinds) coords (run hs (opened kinds coords fm fc))
are_writable kinds coords fm fc hs some short few own members_allowed coords_allowed members_written coords_written are_own =
    record {
      member = λ m a. (nodes.members m).1 a;
      coord = λ c a. (nodes.coords c).1 a;
    }
  where
    nodes : HaveNodes (WritesAt (length kinds) coords) (CommitsAt (length kinds) coords) (run hs (opened kinds coords fm fc))
    nodes =
        run_nodes (length kinds) coords some (WritesAt (length kinds) coords) (CommitsAt (length kinds) coords) (always_writable (length kinds) coords few short) hs
        (opened kinds coords fm fc) (start_own kinds coords fm fc own members_allowed) (λ t session e. is_nothing (sym (look_none t) ∙ e))
        (record {
          members = λ m. (
            as_told coords _ (whole_opened coords kinds m (fm m) (members_allowed m)),
            λ a. opened_writable coords kinds m (fm m) short (wider (length kinds) most_members m few a) (members_allowed m) (members_written m),
          );
          coords = λ c. (
            coord_as_told (length kinds) _ (whole_coord_opened (length kinds) c (fc c) (coords_allowed c)),
            λ a. opened_coord_writable (length kinds) c (fc c) few (wider coords most_coordinators c short a) (coords_allowed c) (coords_written c),
          );
        })
        are_own
