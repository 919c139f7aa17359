-- Chains of waits, and how long they are.
use Rattle.std.specs.Prelude.{ℕ, ◌≡◌, ◌<◌, ◌≤◌, ◌⊎◌, List, [], ◌∷◌, length, Any, Contains}
use Rattle.co_wait.specs.declared.wait.Wait.{Wait}

-- by the held transaction, and then by its member
abbrev pub IsWaitBefore : Wait → Wait → Type 0
IsWaitBefore w v = (w.held < v.held) ⊎ ((w.held ≡ v.held) × (w.member < v.member))

-- the transaction waits, or is waited for
abbrev pub IsInWaits : List Wait → ℕ → Type 0
IsInWaits waits t = Any (λ w. (w.held ≡ t) ⊎ (w.by ≡ t)) waits

-- a chain from a transaction: the first of its waits is the transaction's, and each one leads to the next
abbrev pub IsChain : List Wait → ℕ → List Wait → Type 0
IsChain waits t [] = Unit {0}
IsChain waits t (w ∷ chain) = Contains waits w × (w.held ≡ t) × IsChain waits w.by chain

-- The rank of a transaction is the length of the longest chain from it.
pub record IsRank (waits : List Wait) (t rank : ℕ) : Type 0 where
  pub reached : (chain : List Wait) × IsChain waits t chain × (length chain ≡ rank)
  pub longest : (chain : List Wait) → IsChain waits t chain → length chain ≤ rank

-- all chains from the transaction end: it has a rank
abbrev pub IsSetAside : List Wait → ℕ → Type 0
IsSetAside waits t = (rank : ℕ) × IsRank waits t rank
