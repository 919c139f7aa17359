use Rattle.std.proofs.Common.{◌≡◌, ℕ, ◌<◌, ◌%◌, ap, ◌∙◌, arith}
use Rattle.co_locktab.specs.Forks.{middle_of}
use Rattle.co_locktab.proofs.Forking.{middle_fits}
use Rattle.co_locktab.proofs.fork.middle_of.Goals as goal

small : (n : ℕ) → n < 256 → n % 65536 ≡ n
small n l = omega arith

pub returns : goal.returns
returns c =
    ap (λ (b : ℕ). middle_of c.args.height b % 65536) c.from.ensures
    ∙ small (middle_of c.args.height c.args.byte) (middle_fits c.args.height c.args.byte c.requires c.ranges.byte.fits)
