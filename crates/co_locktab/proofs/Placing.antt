-- Places are totally ordered, and those that tie are equal.
use Rattle.std.proofs.Common.{None, Some, refl, sym, ap, rules}
use Rattle.std.specs.Option.{option_cmp}
use Rattle.std.specs.Ordering.{nat_cmp}
use Rattle.std.specs.Cmp.{IsTotalOrder, then_total, on_total}
use Rattle.std.specs.Cmp.Lexicographic.{options_total}
use Rattle.std.specs.Cmp.Rules.{comparing}
use Rattle.std.specs.FinMap.{IsAntisymmetric, nat_cmp-IsAntisymmetric}
use Rattle.std.specs.declared.cmp.Ordering.{Ordering}
use Rattle.co_base.specs.Order.{key_cmp}
use Rattle.co_locktab.specs.Places.{fork_cmp, place_cmp}
use Rattle.co_locktab.specs.Upper.{upper_cmp}
use Rattle.co_locktab.proofs.Orders.{then_left, then_right, keys_apart}

pub forks_total : IsTotalOrder fork_cmp
forks_total = Prim.search (comparing, rules)

pub forks_apart : IsAntisymmetric fork_cmp
forks_apart x y e =
    let l = then_left (key_cmp x.prefix y.prefix) (nat_cmp x.middle y.middle) e in
    let h = then_right (key_cmp x.prefix y.prefix) (nat_cmp x.middle y.middle) l e in
    λ i. record { prefix = keys_apart x.prefix y.prefix l i; middle = nat_cmp-IsAntisymmetric x.middle y.middle h i }

pub upper_total : IsTotalOrder upper_cmp
upper_total = Prim.search (comparing, rules)

pub upper_apart : IsAntisymmetric upper_cmp
upper_apart x y e =
    let l = then_left (key_cmp y.range.hi x.range.hi) (key_cmp y.range.lo x.range.lo) e in
    let h = then_right (key_cmp y.range.hi x.range.hi) (key_cmp y.range.lo x.range.lo) l e in
    λ i. record { range = record { lo = sym (keys_apart y.range.lo x.range.lo h) i; hi = sym (keys_apart y.range.hi x.range.hi l) i } }

module _ {A : Type 0} {R : A → A → Ordering} where
  pub places_total : IsTotalOrder R → IsTotalOrder (place_cmp R)
  places_total o = then_total (on_total (λ p. p.fork) forks_total) (on_total (λ p. p.range) (options_total o))

  options_apart : IsAntisymmetric R → IsAntisymmetric (option_cmp R)
  options_apart same None None e = refl
  options_apart same None (Some y) e = cc
  options_apart same (Some x) None e = cc
  options_apart same (Some x) (Some y) e = ap Some (same x y e)

  pub places_apart : IsAntisymmetric R → IsAntisymmetric (place_cmp R)
  places_apart same x y e =
      let l = then_left (fork_cmp x.fork y.fork) (option_cmp R x.range y.range) e in
      let h = then_right (fork_cmp x.fork y.fork) (option_cmp R x.range y.range) l e in
      λ i. record { fork = forks_apart x.fork y.fork l i; range = options_apart same x.range y.range h i }
