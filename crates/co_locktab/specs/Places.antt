-- Ranges at their forks, in the orders in which they are kept.
use Rattle.std.specs.Prelude.{ℕ, List, Bool, false, ◌&&◌, ◌≡◌, true, Option, None, Some, is_some}
use Rattle.std.specs.Ordering.{on, then_cmp, nat_cmp, eq_by_cmp, is_lt, is_gt}
use Rattle.std.specs.Option.{option_cmp}
use Rattle.std.specs.declared.cmp.Ordering.{Ordering}
use Rattle.std.specs.declared.cmp.Ordering.TheVariants.{Less}
use Rattle.std.specs.BTreeSet.{BTreeSet, contains}
use Rattle.std.specs.FinMap.{FinMap, get}
use Rattle.co_base.specs.Order.{key_cmp}
use Rattle.co_base.specs.Span.{Span, span_cmp, span_has}
use Rattle.co_locktab.specs.declared.fork.Fork.{Fork}
use Rattle.co_locktab.specs.declared.place.ByUpper.{ByUpper}
use Rattle.co_locktab.specs.declared.place.Place.{Place}
use Rattle.co_locktab.specs.declared.fork_index.ForkIndex.{ForkIndex}
use Rattle.co_locktab.specs.declared.holders.Holders.{Holders}
use Rattle.co_locktab.specs.Forks.{fork_of, IsOnPath}
use Rattle.co_locktab.specs.Upper.{upper_cmp}

abbrev pub fork_cmp : Fork → Fork → Ordering
fork_cmp = then_cmp (on (λ f. f.prefix) key_cmp) (on (λ f. f.middle) nat_cmp)

abbrev pub same_fork : Fork → Fork → Bool
same_fork = eq_by_cmp fork_cmp

-- by fork, and then by range
abbrev pub place_cmp : {A : Type 0} → (A → A → Ordering) → Place A → Place A → Ordering
place_cmp R = then_cmp (on (λ p. p.fork) fork_cmp) (on (λ p. p.range) (option_cmp R))

abbrev pub by_lower : Place Span → Place Span → Ordering
by_lower = place_cmp span_cmp

abbrev pub by_upper : Place ByUpper → Place ByUpper → Ordering
by_upper = place_cmp upper_cmp

-- whether two forks stand behind the same bytes
abbrev pub are_beside : Fork → Fork → Bool
are_beside f g = eq_by_cmp key_cmp f.prefix g.prefix

-- the first fork of the places that is not below a fork
abbrev pub IsFirstFrom : BTreeSet (Place Span) → Fork → Option Fork → Type 0
IsFirstFrom set fork None = (p : Place Span) → is_gt (fork_cmp fork p.fork) ≡ false → contains by_lower set p ≡ false
IsFirstFrom set fork (Some first) =
    ((p : Place Span) × (p.fork ≡ first) × (is_gt (fork_cmp fork p.fork) ≡ false) × (contains by_lower set p ≡ true))
    × ((p : Place Span) → is_gt (fork_cmp fork p.fork) ≡ false → contains by_lower set p ≡ true → is_gt (fork_cmp first p.fork) ≡ false)

-- the last fork of the places that is below a fork
abbrev pub IsLastBelow : BTreeSet (Place Span) → Fork → Option Fork → Type 0
IsLastBelow set fork None = (p : Place Span) → fork_cmp p.fork fork ≡ Less → contains by_lower set p ≡ false
IsLastBelow set fork (Some last) =
    ((p : Place Span) × (p.fork ≡ last) × (fork_cmp p.fork fork ≡ Less) × (contains by_lower set p ≡ true))
    × ((p : Place Span) → fork_cmp p.fork fork ≡ Less → contains by_lower set p ≡ true → is_lt (fork_cmp last p.fork) ≡ false)

-- a range at its fork
abbrev pub lower_place : Span → Place Span
lower_place span = record { fork = fork_of span; range = Some span }

abbrev pub upper_place : Span → Place ByUpper
upper_place span = record { fork = fork_of span; range = Some (record { range = span }) }

-- whether there is a range with holders that has its fork there
abbrev pub is_placed : FinMap span_cmp Holders → Fork → Option Span → Bool
is_placed held fork None = false
is_placed held fork (Some span) = same_fork fork (fork_of span) && is_some (get held span)

abbrev pub spanned : Option ByUpper → Option Span
spanned None = None
spanned (Some r) = Some r.range

-- the ranges that have holders, and no others, stand at their forks
pub record IsIndexed (held : FinMap span_cmp Holders) (forks : ForkIndex) : Type 0 where
  pub by_lower_is : (p : Place Span) → contains by_lower forks.lower p ≡ is_placed held p.fork p.range
  pub by_upper_is : (p : Place ByUpper) → contains by_upper forks.upper p ≡ is_placed held p.fork (spanned p.range)
  -- each of their keys has the fork on its path
  pub on_path : (span : Span) → is_some (get held span) ≡ true → (key : List ℕ) → span_has span key ≡ true → IsOnPath key (fork_of span)
