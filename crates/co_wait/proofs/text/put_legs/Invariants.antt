use Rattle.std.proofs.Common.{◌≡◌, ◌++◌, flat_map, take}
use Rattle.co_wait.specs.Text.{leg_word}
use Rattle.co_wait.proofs.text.put_legs.Given as goal

abbrev pub invariant-loop-leg : goal.invariant-loop-leg
invariant-loop-leg l = l.into.items ≡ l.fn.into.items ++ flat_map leg_word (take l.leg-index l.legs)
