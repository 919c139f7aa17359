-- How far a search through chains has come.
use Rattle.std.specs.Prelude.{ℕ, true, ◌≡◌, ◌≢◌, ◌<◌, ◌≤◌, ◌⊎◌, ◌+◌, ◌-◌, ◌*◌, ◌^◌, List, [], ◌∷◌, ◌++◌, map, None, Some, length, All, AllPairs, Any, Contains, slice_index_or, sum_by}
use Rattle.std.specs.FinMap.{len}
use Rattle.co_state.specs.Table.{Table, look, holds}
use Rattle.co_wait.specs.declared.knot.Rank.{Rank}
use Rattle.co_wait.specs.declared.search.Next.{Next}
use Rattle.co_wait.specs.declared.search.Next.TheVariants as next
use Rattle.co_wait.specs.declared.search.Pause.{Pause}
use Rattle.co_wait.specs.declared.search.Progress.{Progress}
use Rattle.co_wait.specs.declared.search.Progress.TheVariants.{Open, Ended}
use Rattle.co_wait.specs.declared.search.Visit.{Visit}
use Rattle.co_wait.specs.declared.wait.Wait.{Wait}
use Rattle.co_wait.specs.Chains.{IsChain, IsInWaits, IsRank}

-- this wait stands at this place
abbrev pub IsAtPlace : List Wait → ℕ → Wait → Type 0
IsAtPlace waits place w = (place < length waits) × (slice_index_or waits place w ≡ w)

-- The waits of a transaction begin at this place: those before it are of lesser ones, and those from it on of no lesser ones.
pub record BeginsAt (waits : List Wait) (t place : ℕ) : Type 0 where
  pub within : place ≤ length waits
  pub behind : (i : ℕ) (w : Wait) → i < place → IsAtPlace waits i w → w.held < t
  pub ahead : (i : ℕ) (w : Wait) → place ≤ i → IsAtPlace waits i w → t ≤ w.held

-- it has no wait at this place
abbrev pub HasNoneAt : List Wait → ℕ → ℕ → Type 0
HasNoneAt waits t place = (length waits ≤ place) ⊎ ((w : Wait) × IsAtPlace waits place w × (w.held ≢ t))

-- all chains of the transaction were gone through, and end
abbrev pub IsKnownToEnd : Table Progress → ℕ → Type 0
IsKnownToEnd known t = (rank : ℕ) × (look known t ≡ Some (Ended rank))

-- What is known is so: a rank is one, it leads to ended ones alone, and the transactions are of the waits.
pub record IsSoFar (waits : List Wait) (known : Table Progress) : Type 0 where
  pub ranked : (t rank : ℕ) → look known t ≡ Some (Ended rank) → IsRank waits t rank
  pub onward : (t rank : ℕ) → look known t ≡ Some (Ended rank) → (w : Wait) → Contains waits w → w.held ≡ t → IsKnownToEnd known w.by
  pub among : (t : ℕ) → holds known t ≡ true → IsInWaits waits t
  pub numbers : (t : ℕ) → holds known t ≡ true → t < 2 ^ 32

-- no transaction is gone through any more
abbrev pub NoneIsOpen : Table Progress → Type 0
NoneIsOpen known = (t : ℕ) → look known t ≢ Some Open

-- what has ended stays so
abbrev pub KeepsEnded : Table Progress → Table Progress → Type 0
KeepsEnded old new = (t rank : ℕ) → look old t ≡ Some (Ended rank) → look new t ≡ Some (Ended rank)

-- The transaction's waits before this place lead to ended ones, and this is its longest chain over these.
pub record IsGoneThrough (waits : List Wait) (known : Table Progress) (t place longest : ℕ) : Type 0 where
  pub within : place ≤ length waits
  pub passed : (i : ℕ) (w : Wait) → i < place → IsAtPlace waits i w → w.held ≡ t → (rank : ℕ) × (look known w.by ≡ Some (Ended rank)) × (rank < longest)
  pub ahead : (i : ℕ) (w : Wait) → place ≤ i → IsAtPlace waits i w → t ≤ w.held
  pub reached : (chain : List Wait) × IsChain waits t chain × (length chain ≡ longest)

-- A wait was followed, and its transaction is gone through up to it.
pub record IsPausedAt (waits : List Wait) (known : Table Progress) (p : Pause) : Type 0 where
  pub gone : IsGoneThrough waits known p.wait.held p.place p.longest
  pub here : IsAtPlace waits p.place p.wait
  pub is_open : look known p.wait.held ≡ Some Open

-- waits that were followed lead from one transaction to another
abbrev pub LeadFrom : ℕ → List Pause → ℕ → Type 0
LeadFrom t [] u = t ≡ u
LeadFrom t (p ∷ path) u = (p.wait.held ≡ t) × LeadFrom p.wait.by path u

-- the waits that were followed are of distinct transactions
abbrev pub ArePausedApart : List Pause → Type 0
ArePausedApart = AllPairs (λ p q. p.wait.held ≢ q.wait.held)

-- Ranks are below a count of ended transactions; those that are gone through are beside these.
pub record RanksAreCounted (known : Table Progress) (path : List Pause) (longest : ℕ) : Type 0 where
  pub count : ℕ
  pub fits : count + length path < len known
  pub ranks : (t rank : ℕ) → look known t ≡ Some (Ended rank) → rank < count
  pub here : longest ≤ count
  pub paused : All (λ p. p.longest ≤ count) path

-- The search goes through a transaction, to which the waits that were followed lead from the first one.
pub record IsSearching (waits : List Wait) (first : ℕ) (known : Table Progress) (path : List Pause) (visit : Visit) : Type 0 where
  pub so_far : IsSoFar waits known
  pub paused : All (IsPausedAt waits known) path
  pub lead : LeadFrom first path visit.txn
  pub apart : ArePausedApart path
  pub new : All (λ p. p.wait.held ≢ visit.txn) path
  pub gone : IsGoneThrough waits known visit.txn visit.place visit.longest
  pub is_open : look known visit.txn ≡ Some Open
  pub opened : (t : ℕ) → look known t ≡ Some Open → (t ≡ visit.txn) ⊎ Any (λ p. p.wait.held ≡ t) path
  pub counted : RanksAreCounted known path visit.longest

-- The waits that were followed come again to a transaction.
pub record HasComeAgain (waits : List Wait) (first : ℕ) (known : Table Progress) (path : List Pause) (t : ℕ) : Type 0 where
  pub so_far : IsSoFar waits known
  pub paused : All (IsPausedAt waits known) path
  pub lead : LeadFrom first path t
  pub apart : ArePausedApart path
  pub again : Any (λ p. p.wait.held ≡ t) path

-- Nothing is gone through: what is known is so, and ranks are below the count of what is known.
pub record IsBetweenSearches (waits : List Wait) (known : Table Progress) : Type 0 where
  pub so_far : IsSoFar waits known
  pub none : NoneIsOpen known
  pub counted : (t rank : ℕ) → look known t ≡ Some (Ended rank) → rank < len known

-- All chains of the first transaction end.
pub record HasGoneThrough (waits : List Wait) (first : ℕ) (known : Table Progress) : Type 0 where
  pub rest : IsBetweenSearches waits known
  pub ended : IsKnownToEnd known first

-- A transaction that waits is not known, and those before it that wait have ended.
pub record IsNextFirst (waits : List Wait) (known : Table Progress) (first : ℕ) : Type 0 where
  pub rest : IsBetweenSearches waits known
  pub one : Any (λ w. w.held ≡ first) waits
  pub unknown : look known first ≡ None
  pub before : (w : Wait) → Contains waits w → w.held < first → IsKnownToEnd known w.held

-- the first wait is of this transaction
abbrev pub BeginsWithTxn : ℕ → List Wait → Type 0
BeginsWithTxn t [] = ⊥
BeginsWithTxn t (w ∷ ws) = w.held ≡ t

-- The waits that were followed, from those of this transaction on.
pub record IsRingOf (path : List Pause) (t : ℕ) (ring : List Wait) : Type 0 where
  pub before : List Wait
  pub cut : map (λ p. p.wait) path ≡ before ++ ring
  pub first : BeginsWithTxn t ring

-- the transaction of an ended one with its rank
abbrev pub rank_in : Progress → ℕ
rank_in Open = 0
rank_in (Ended rank) = rank

abbrev pub ranked_of : ℕ × Progress → Rank
ranked_of e = record { txn = e.0; rank = rank_in e.1 }

-- how much of the search is left, at most: what waits there are from a place on, and all of them for each transaction that may be met yet
abbrev pub work_from : List Wait → ℕ → ℕ
work_from waits place = 1 + (length waits - place)

abbrev pub work_left : List Wait → Table Progress → List Pause → ℕ → ℕ
work_left waits known path place = (2 ^ 32 - len known) * (length waits + 2) + sum_by (λ p. work_from waits p.place) path + work_from waits place

-- what comes of one step of the search
abbrev pub StepsOn : List Wait → ℕ → Table Progress → List Pause → ℕ → Next → Type 0
StepsOn waits first known path work (next.Visit visit) = IsSearching waits first known path visit × (work_left waits known path visit.place < work)
StepsOn waits first known path work next.Ended = HasGoneThrough waits first known
StepsOn waits first known path work (next.Again t) = HasComeAgain waits first known path t

-- of the first so many waits, none is of a transaction below the one at this place
abbrev pub IsLeastUpTo : List Wait → ℕ → ℕ → Type 0
IsLeastUpTo ring least count = (place : ℕ) (d : Wait) → place < count → (slice_index_or ring least d).held ≤ (slice_index_or ring place d).held
