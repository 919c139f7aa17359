use Rattle.std.proofs.Common.{◌+◌, inl, inr, refl, ap, ◌∙◌, arith}
use Rattle.co_mv.specs.Recents.{keys_at}
use Rattle.co_mv.proofs.Forgetting.{keys-forgotten, keys-gone}
use Rattle.co_mv.proofs.pruning.forget_window.Goals as goal

pub loop-install-init : goal.loop-install-init
loop-install-init c = record {
  within = omega arith;
  later = λ n h. refl;
  gone = λ n a b. absurd (omega (arith, a, b));
  earlier = λ n h. refl;
}

pub loop-install-preserved : goal.loop-install-preserved
loop-install-preserved c =
    let t = c.loop-install-test.true in
    let w = c.loop-install.invariant.within in
    let k = c.loop-install.install + 1 in
    record {
      within = omega (arith, w);
      later = λ n h. ap (λ m. keys_at m n) c.forget.ensures ∙ keys-forgotten c.loop-install.recents k n (inr (omega (arith, t, h))) ∙ c.loop-install.invariant.later n h;
      gone = λ n a b. ap (λ m. keys_at m n) c.forget.ensures ∙ keys-gone c.loop-install.recents c.loop-install.install n b (c.loop-install.invariant.gone n a);
      earlier = λ n h. ap (λ m. keys_at m n) c.forget.ensures ∙ keys-forgotten c.loop-install.recents k n (inl (omega (arith, w, h))) ∙ c.loop-install.invariant.earlier n h;
    }

pub returns-clause-later : goal.returns-clause-later
returns-clause-later c = c.loop-install.invariant.later

pub returns-clause-gone : goal.returns-clause-gone
returns-clause-gone c = λ n a b. let t = c.loop-install-test.false in c.loop-install.invariant.gone n a (omega (arith, b, t))

pub returns-clause-earlier : goal.returns-clause-earlier
returns-clause-earlier c = c.loop-install.invariant.earlier
