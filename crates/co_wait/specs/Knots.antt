-- How waits hang together: the order of them, or their cycle.
use Rattle.std.specs.Prelude.{ℕ, ◌≡◌, ◌≢◌, ◌<◌, ◌≤◌, ◌↔◌, List, [], ◌∷◌, ◌++◌, All, AllPairs, Any, Contains}
use Rattle.co_wait.specs.declared.wait.Wait.{Wait}
use Rattle.co_wait.specs.declared.knot.Rank.{Rank}
use Rattle.co_wait.specs.declared.knot.Knot.{Knot}
use Rattle.co_wait.specs.declared.knot.Knot.TheVariants.{Cycle, Order}
use Rattle.co_wait.specs.Chains.{IsInWaits, IsRank, IsSetAside}

-- Each transaction of the waits stands in the order once, with its rank.
pub record IsOrder (waits : List Wait) (ranks : List Rank) : Type 0 where
  pub ascending : AllPairs (λ r s. r.txn < s.txn) ranks
  pub whole : (t : ℕ) → IsInWaits waits t ↔ Any (λ r. r.txn ≡ t) ranks
  pub ranked : All (λ r. IsRank waits r.txn r.rank) ranks

-- The least transaction that is left when those are set aside whose chains all end.
pub record IsLeastLeft (waits : List Wait) (t : ℕ) : Type 0 where
  pub one : IsInWaits waits t
  pub left : ¬ IsSetAside waits t
  pub least : (u : ℕ) → IsInWaits waits u → u < t → IsSetAside waits u

-- The wait that the walk takes from its transaction: of those whose `by` is left, that of the least member.
pub record IsNextOnWalk (waits : List Wait) (w : Wait) : Type 0 where
  pub one : Contains waits w
  pub left : ¬ IsSetAside waits w.by
  pub least : (v : Wait) → Contains waits v → v.held ≡ w.held → v.member < w.member → IsSetAside waits v.by

-- the walk from a transaction
abbrev pub IsWalkFrom : List Wait → ℕ → List Wait → Type 0
IsWalkFrom waits t [] = Unit {0}
IsWalkFrom waits t (w ∷ walk) = (w.held ≡ t) × IsNextOnWalk waits w × IsWalkFrom waits w.by walk

-- the transaction to which waits lead from this one
abbrev pub lead_of : ℕ → List Wait → ℕ
lead_of t [] = t
lead_of t (w ∷ waits) = lead_of w.by waits

-- they lead to the transaction of the first one
abbrev pub ComesAgain : List Wait → Type 0
ComesAgain [] = ⊥
ComesAgain (w ∷ waits) = lead_of w.by waits ≡ w.held

-- no two are of one transaction
abbrev pub AreOfDistinct : List Wait → Type 0
AreOfDistinct = AllPairs (λ v w. v.held ≢ w.held)

-- the first one's transaction is the least
abbrev pub LeastIsFirst : List Wait → Type 0
LeastIsFirst [] = ⊥
LeastIsFirst (w ∷ waits) = All (λ v. w.held ≤ v.held) waits

-- These are the waits of the ring, turned so that the least transaction is first.
pub record IsTurned (ring legs : List Wait) : Type 0 where
  pub front : List Wait
  pub back : List Wait
  pub cut : ring ≡ front ++ back
  pub joined : legs ≡ back ++ front
  pub least : LeastIsFirst legs

-- The walk goes from the least transaction that is left until a transaction comes again. The cycle is the part from that one on, turned.
pub record IsCycle (waits legs : List Wait) : Type 0 where
  pub start : ℕ
  pub before : List Wait
  pub ring : List Wait
  pub least : IsLeastLeft waits start
  pub walk : IsWalkFrom waits start (before ++ ring)
  pub first_time : AreOfDistinct (before ++ ring)
  pub again : ComesAgain ring
  pub turned : IsTurned ring legs

-- the knot of waits: the order where every chain ends, and else the cycle
abbrev pub IsKnot : List Wait → Knot → Type 0
IsKnot waits (Order ranks) = IsOrder waits ranks
IsKnot waits (Cycle legs) = IsCycle waits legs
