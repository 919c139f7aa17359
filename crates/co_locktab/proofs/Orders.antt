-- Keys and ranges are totally ordered, and those that tie are equal.
use Rattle.std.proofs.Common.{◌≡◌, ℕ, Bool, true, refl, sym, ap, ◌∙◌, rules}
use Rattle.std.specs.declared.cmp.Ordering.{Ordering}
use Rattle.std.specs.declared.cmp.Ordering.TheVariants.{Less, Equal, Greater}
use Rattle.std.specs.Ordering.{nat_cmp, eq_by_cmp, ordering_then}
use Rattle.std.specs.Cmp.{IsTotalOrder, nat_cmp_total, eq_by_cmp_equiv}
use Rattle.std.specs.Cmp.Rules.{comparing}
use Rattle.std.specs.FinMap.{IsAntisymmetric, nat_cmp-IsAntisymmetric, slice_cmp-IsAntisymmetric}
use Rattle.std.proofs.lemmas.Cmp.{nat_list_cmp_total}
use Rattle.co_base.specs.Order.{key_cmp}
use Rattle.co_base.specs.Span.{span_cmp}
pub use Rattle.co_state.proofs.Ties.{tie}

pub keys_total : IsTotalOrder key_cmp
keys_total = nat_list_cmp_total

pub keys_apart : IsAntisymmetric key_cmp
keys_apart = slice_cmp-IsAntisymmetric nat_cmp-IsAntisymmetric

pub spans_total : IsTotalOrder span_cmp
spans_total = Prim.search (comparing, rules)

pub then_left : (r s : Ordering) → ordering_then r s ≡ Equal → r ≡ Equal
then_left Less s e = e
then_left Equal s e = refl
then_left Greater s e = e

pub then_right : (r s : Ordering) → r ≡ Equal → ordering_then r s ≡ Equal → s ≡ Equal
then_right r s e f = ap (λ q. ordering_then q s) (sym e) ∙ f

pub spans_apart : IsAntisymmetric span_cmp
spans_apart x y e =
    let l = then_left (key_cmp x.lo y.lo) (key_cmp x.hi y.hi) e in
    let h = then_right (key_cmp x.lo y.lo) (key_cmp x.hi y.hi) l e in
    λ i. record { lo = keys_apart x.lo y.lo l i; hi = keys_apart x.hi y.hi h i }

module _ {K : Type 0} {R : K → K → Ordering} (o : IsTotalOrder R) (same : IsAntisymmetric R) where
  -- what ties is equal
  pub tied : (q k : K) → eq_by_cmp R q k ≡ true → q ≡ k
  tied q k e = same q k (tie (R q k) e)

  pub ties-itself : (q : K) → eq_by_cmp R q q ≡ true
  ties-itself q = (eq_by_cmp_equiv o).refl q

abbrev pub same_number : ℕ → ℕ → Bool
same_number = eq_by_cmp nat_cmp

pub one_number : (u t : ℕ) → same_number u t ≡ true → u ≡ t
one_number = tied nat_cmp_total nat_cmp-IsAntisymmetric

pub number_itself : (u : ℕ) → same_number u u ≡ true
number_itself = ties-itself nat_cmp_total nat_cmp-IsAntisymmetric
