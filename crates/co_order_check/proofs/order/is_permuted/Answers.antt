use Rattle.std.proofs.Common.{◌≡◌, ◌<◌, ◌∙◌, length, get_or, ap, sym, arith, true, false}
use Rattle.co_order_check.proofs.order.is_permuted.Goals as goal

pub returns : goal.returns
returns c = λ _.
    let inv = c.loop-place.invariant in
    let whole : c.loop-place.place-index ≡ length c.args.order.now = omega arith in
    let seen : c.as_slice-is_seen-items.result.now ≡ c.loop-place.seen.items = c.as_slice-is_seen-items.ensures.value in
    record {
      below = λ p h. inv.below p (omega (arith, h, whole));
      each = λ t h.
          let long : length c.as_slice-is_seen-items.result.now ≡ c.args.count = ap length seen ∙ inv.long in
          let all : get_or c.as_slice-is_seen-items.result.now t false ≡ true = c.loop-is_seen.invariant t (omega (arith, h, long, c.loop-is_seen-test.false)) in
          let m = inv.met t h (ap (λ xs. get_or xs t false) (sym seen) ∙ all) in
          (m.0, omega (arith, m.1, whole), m.2);
      once = λ p q h k e. inv.once p q (omega (arith, h, whole)) (omega (arith, k, whole)) e;
    }
