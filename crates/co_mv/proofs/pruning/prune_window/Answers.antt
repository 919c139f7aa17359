use Rattle.std.proofs.Common.{◌≡◌, sym, ap, ◌∙◌, subst, ◌+◌, refl, arith}
use Rattle.co_mv.specs.Chains.{Chains, pruned_all}
use Rattle.co_mv.specs.Kept.{needed, IsPruned, AreLeft, WereAllKept}
use Rattle.co_mv.specs.Recents.{keys_at}
use Rattle.co_mv.specs.Versions.{stays}
use Rattle.co_mv.proofs.Chaining.{pruned_start, pruned_step, pruned_end, left_step, were_pruned_all}
use Rattle.co_mv.proofs.pruning.prune_window.Goals as goal

pub loop-install-init : goal.loop-install-init
loop-install-init c = record {
  within = omega arith;
  were = λ were. were;
  pruned = λ were. pruned_start (stays c.args.number (needed c.args.snapshots.now)) c.args.recents.now c.args.from c.args.chains.now;
  others = λ were key none. refl;
}

pub loop-install-preserved : goal.loop-install-preserved
loop-install-preserved c =
    let keep = stays c.args.number (needed c.args.snapshots.now) in
    let k = c.loop-install.install in
    let t = c.loop-install-test.true in
    let w = c.loop-install.invariant.within in
    let is : (were : WereAllKept c.args.snapshots.now c.args.number c.args.chains.now) → pruned_all keep c.loop-install.chains (keys_at c.args.recents.now (k + 1)) ≡ c.prune_all.new.self = λ were. sym (c.prune_all.ensures (c.loop-install.invariant.were were) ∙ ap (pruned_all keep c.loop-install.chains) c.keys_at.ensures) in
    record {
      within = omega (arith, w);
      were = λ were. subst (λ (m : Chains). WereAllKept c.args.snapshots.now c.args.number m) (is were) (were_pruned_all c.args.snapshots.now c.args.number keep c.loop-install.chains (keys_at c.args.recents.now (k + 1)) (c.loop-install.invariant.were were));
      pruned = λ were. subst (λ (m : Chains). IsPruned keep c.args.recents.now c.args.from (k + 1) c.args.chains.now m) (is were)
          (pruned_step keep c.args.recents.now c.args.from k c.args.chains.now c.loop-install.chains (c.loop-install.invariant.pruned were));
      others = λ were. subst (λ (m : Chains). AreLeft c.args.recents.now c.args.from c.args.to c.args.chains.now m) (is were)
          (left_step keep c.args.recents.now c.args.from c.args.to k c.args.chains.now c.loop-install.chains w t (c.loop-install.invariant.others were));
    }

pub returns-clause-pruned : goal.returns-clause-pruned
returns-clause-pruned c = λ were. pruned_end (stays c.args.number (needed c.args.snapshots.now)) c.args.recents.now c.args.from c.loop-install.install c.args.to c.args.chains.now c.loop-install.chains c.loop-install-test.false (c.loop-install.invariant.pruned were)

pub returns-clause-others : goal.returns-clause-others
returns-clause-others c = c.loop-install.invariant.others
