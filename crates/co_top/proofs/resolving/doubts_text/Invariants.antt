use Rattle.std.proofs.Common.{◌≡◌, take}
use Rattle.co_top.specs.Resolving.{doubts_text}
use Rattle.co_top.proofs.resolving.doubts_text.Given as goal

abbrev pub invariant-loop-doubt : goal.invariant-loop-doubt
invariant-loop-doubt l = l.text.items ≡ doubts_text (take l.doubt-index l.remaining)
