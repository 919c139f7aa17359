-- The holders of locks, by what is locked: keys, or ranges.
use Rattle.std.specs.Prelude.{ℕ, Bool, false, not, ◌==◌, length, List, [], ◌∷◌, if◌then◌else◌, Option, None, Some}
use Rattle.std.specs.FinMap.{FinMap, entries, get, insert, remove}
use Rattle.std.specs.declared.cmp.Ordering.{Ordering}
use Rattle.co_locktab.specs.declared.holders.Holders.{Holders}
use Rattle.co_state.specs.Table.{no_entries, put, without, holds, first_in, lesser}

abbrev pub joined : ℕ → Holders → Holders
joined t h = record { txns = put h.txns t tt }

abbrev pub left : ℕ → Holders → Holders
left t h = record { txns = without h.txns t }

abbrev pub one_holder : ℕ → Holders
one_holder t = joined t (record { txns = no_entries })

abbrev pub holder_in : Option Holders → ℕ → Bool
holder_in None t = false
holder_in (Some h) t = holds h.txns t

-- the least holder of one lock other than t
abbrev pub other_in : ℕ → Holders → Option ℕ
other_in t h = first_in (λ u x. not (u == t)) (entries h.txns)

abbrev pub first_in_lock : ℕ → Option Holders → Option ℕ
first_in_lock t None = None
first_in_lock t (Some h) = other_in t h

-- whether nobody holds a lock that is there
abbrev pub is_left : Option Holders → Bool
is_left None = false
is_left (Some h) = length (entries h.txns) == 0

-- the least holder of some locks other than t, with one that was found before
abbrev pub least_along : {K : Type 0} → ℕ → Option ℕ → List (K × Holders) → Option ℕ
least_along t least [] = least
least_along t least (e ∷ es) = least_along t (lesser least (other_in t e.1)) es

module _ {K : Type 0} {R : K → K → Ordering} where
  -- whether t holds the lock
  abbrev pub is_held : FinMap R Holders → K → ℕ → Bool
  is_held m k t = holder_in (get m k) t

  -- one lock changes, where it is there
  abbrev pub changed : FinMap R Holders → K → (Holders → Holders) → Option Holders → FinMap R Holders
  changed m k change None = m
  changed m k change (Some h) = insert m k (change h)

  abbrev pub joined_at : FinMap R Holders → K → ℕ → FinMap R Holders
  joined_at m k t = changed m k (joined t) (get m k)

  abbrev pub left_at : FinMap R Holders → K → ℕ → FinMap R Holders
  left_at m k t = changed m k (left t) (get m k)

  -- t holds the lock, alone or beside others
  abbrev pub held_by : FinMap R Holders → K → ℕ → Option Holders → FinMap R Holders
  held_by m k t None = insert m k (one_holder t)
  held_by m k t (Some h) = insert m k (joined t h)

  abbrev pub with_holder : FinMap R Holders → K → ℕ → FinMap R Holders
  with_holder m k t = held_by m k t (get m k)

  -- a lock that nobody holds is gone
  abbrev pub settled : FinMap R Holders → K → FinMap R Holders
  settled m k = if is_left (get m k) then remove m k else m

  abbrev pub without_holder : FinMap R Holders → K → ℕ → FinMap R Holders
  without_holder m k t = settled (left_at m k t) k

  abbrev pub without_all : FinMap R Holders → List K → ℕ → FinMap R Holders
  without_all m [] t = m
  without_all m (k ∷ ks) t = without_all (without_holder m k t) ks t
