-- What one node does leaves the logs of all others held.
use Rattle.std.proofs.Common.{◌≡◌, ◌≢◌, ◌⊎◌, ℕ, suc, ◌≤◌, List, sym, subst, inl, inr, arith, set, slice_get, Some}
use Rattle.std.specs.Prelude.{length}
use Rattle.co_base.specs.Nodes.{IsValidNode}
use Rattle.co_base.specs.declared.node.Node.{Node}
use Rattle.co_base.specs.declared.node.Node.TheVariants as node
use Rattle.co_base.specs.Limits.{most_coordinators, most_members}
use Rattle.co_log.specs.LogView.{LogView}
use Rattle.co_log.specs.Others.{OtherFilesStay}
use Rattle.co_log.proofs.Spots.{stays_elsewhere}
use Rattle.co_opening.proofs.Stays.{kept_stays}
use Rattle.co_opening.specs.Nodes.{IsKept, AreKept}
use Rattle.co_outside.specs.Home.{HomeView}
use Rattle.co_coord.specs.declared.coord.Coord.{Coord}
use Rattle.co_member.specs.declared.member.Member.{Member}
use Rattle.co_cluster.proofs.Places.{set_cases, within_list}

-- the log of another node stays held
pub other_kept : (this that : Node) (log : LogView) (old new : HomeView) → IsValidNode this → IsValidNode that → that ≢ this → log.node ≡ that → OtherFilesStay this old new
    → IsKept old that log → IsKept new that log
other_kept this that log old new one two other owned stay kept = kept_stays that old new log owned (stays_elsewhere this that old new one two other stay) kept

-- each member of a list has the next number and its own log, and so has each coordinator
pub record AreNumbered {E : Type 0} (members : List (Member E)) (coords : List Coord) : Type 0 where
  pub few_members : length members ≤ most_members
  pub few_coords : length coords ≤ most_coordinators
  pub member : (p : ℕ) (m : Member E) → slice_get members p ≡ Some m → (m.number ≡ suc p) × (m.log.node ≡ node.Member m.number)
  pub coord : (p : ℕ) (c : Coord) → slice_get coords p ≡ Some c → (c.number ≡ suc p) × (c.log.node ≡ node.Coord c.number)

module _ {E : Type 0} (members : List (Member E)) (coords : List Coord) (are : AreNumbered members coords) where
  valid_member : (p : ℕ) (m : Member E) → slice_get members p ≡ Some m → IsValidNode (node.Member m.number)
  valid_member p m is =
      let below = within_list members p m is in
      let number = (are.member p m is).0 in
      (omega (arith, number), omega (arith, number, below, are.few_members))

  valid_coord : (p : ℕ) (c : Coord) → slice_get coords p ≡ Some c → IsValidNode (node.Coord c.number)
  valid_coord p c is =
      let below = within_list coords p c is in
      let number = (are.coord p c is).0 in
      (omega (arith, number), omega (arith, number, below, are.few_coords))

  member_number : {m n : ℕ} → node.Member m ≡ node.Member n → m ≡ n
  member_number e = cc

  coord_number : {m n : ℕ} → node.Coord m ≡ node.Coord n → m ≡ n
  coord_number e = cc

  no_member : {m n : ℕ} → node.Coord m ≡ node.Member n → ⊥
  no_member e = absurd cc

  module _ (old new : HomeView) (kept : AreKept old members coords) where
    -- the member at this place did something
    pub kept_by_member : (p : ℕ) (m n : Member E) → slice_get members p ≡ Some m → n.number ≡ m.number → OtherFilesStay (node.Member m.number) old new → IsKept new (node.Member m.number) n.log
        → AreKept new (set members p n) coords
    kept_by_member p m n here same stay now =
        let this = valid_member p m here in
        record {
          member = λ i q is. stays_at i q (set_cases members p i n q is);
          coord = λ i c is. other_kept (node.Member m.number) (node.Coord c.number) c.log old new this (valid_coord i c is) (λ e. no_member e) (are.coord i c is).1 stay (kept.coord i c is);
        }
      where
        stays_at : (i : ℕ) (q : Member E) → ((p ≡ i) × (n ≡ q)) ⊎ ((p ≢ i) × (slice_get members i ≡ Some q)) → IsKept new (node.Member q.number) q.log
        stays_at i q (inl is) = subst (λ (x : Member E). IsKept new (node.Member x.number) x.log) is.1 (subst (λ (k : ℕ). IsKept new (node.Member k) n.log) (sym same) now)
        stays_at i q (inr is) =
            let one = (are.member p m here).0 in
            let two = (are.member i q is.1).0 in
            let other : node.Member q.number ≢ node.Member m.number = λ e. is.0 (let w = member_number e in omega (arith, w, one, two)) in
            other_kept (node.Member m.number) (node.Member q.number) q.log old new (valid_member p m here) (valid_member i q is.1) other (are.member i q is.1).1 stay (kept.member i q is.1)

    -- the coordinator at this place did something
    pub kept_by_coord : (p : ℕ) (c d : Coord) → slice_get coords p ≡ Some c → d.number ≡ c.number → OtherFilesStay (node.Coord c.number) old new → IsKept new (node.Coord c.number) d.log
        → AreKept new members (set coords p d)
    kept_by_coord p c d here same stay now =
        let this = valid_coord p c here in
        record {
          member = λ i m is. other_kept (node.Coord c.number) (node.Member m.number) m.log old new this (valid_member i m is) (λ e. no_member (sym e)) (are.member i m is).1 stay (kept.member i m is);
          coord = λ i q is. stays_at i q (set_cases coords p i d q is);
        }
      where
        stays_at : (i : ℕ) (q : Coord) → ((p ≡ i) × (d ≡ q)) ⊎ ((p ≢ i) × (slice_get coords i ≡ Some q)) → IsKept new (node.Coord q.number) q.log
        stays_at i q (inl is) = subst (λ (x : Coord). IsKept new (node.Coord x.number) x.log) is.1 (subst (λ (k : ℕ). IsKept new (node.Coord k) d.log) (sym same) now)
        stays_at i q (inr is) =
            let one = (are.coord p c here).0 in
            let two = (are.coord i q is.1).0 in
            let other : node.Coord q.number ≢ node.Coord c.number = λ e. is.0 (let w = coord_number e in omega (arith, w, one, two)) in
            other_kept (node.Coord c.number) (node.Coord q.number) q.log old new (valid_coord p c here) (valid_coord i q is.1) other (are.coord i q is.1).1 stay (kept.coord i q is.1)
