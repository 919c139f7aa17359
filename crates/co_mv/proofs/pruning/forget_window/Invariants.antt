use Rattle.std.proofs.Common.{◌≡◌, ◌<◌, ◌≤◌, ◌-◌, ℕ, []}
use Rattle.co_mv.specs.Recents.{keys_at}
use Rattle.co_mv.proofs.pruning.forget_window.Given as goal

abbrev pub invariant-loop-install : goal.invariant-loop-install
invariant-loop-install l = record {
  within : l.from ≤ l.install;
  later : (n : ℕ) → l.to < n → keys_at l.recents n ≡ keys_at l.initial.recents n;
  gone : (n : ℕ) → l.from < n → n ≤ l.install → keys_at l.recents n ≡ [];
  earlier : (n : ℕ) → n ≤ l.from → keys_at l.recents n ≡ keys_at l.initial.recents n;
}

abbrev pub decreases-loop-install : goal.decreases-loop-install
decreases-loop-install l = l.to - l.install
