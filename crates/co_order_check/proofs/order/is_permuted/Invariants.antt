use Rattle.std.proofs.Common.{◌≡◌, ◌<◌, ℕ, true, false, length, get_or, vec_len}
use Rattle.co_order_check.proofs.order.is_permuted.Given as goal

abbrev pub invariant-loop-place : goal.invariant-loop-place
invariant-loop-place l = record {
  long : length l.seen.items ≡ l.count;
  below : (p : ℕ) → p < l.place-index → get_or l.order p 0 < l.count;
  seen : (p : ℕ) → p < l.place-index → get_or l.seen.items (get_or l.order p 0) false ≡ true;
  met : (t : ℕ) → t < l.count → get_or l.seen.items t false ≡ true → (p : ℕ) × (p < l.place-index) × (get_or l.order p 0 ≡ t);
  once : (p q : ℕ) → p < l.place-index → q < l.place-index → get_or l.order p 0 ≡ get_or l.order q 0 → p ≡ q;
}

abbrev pub invariant-loop-is_seen : goal.invariant-loop-is_seen
invariant-loop-is_seen l = (t : ℕ) → t < l.is_seen-index → get_or l.is_seen-items t false ≡ true
