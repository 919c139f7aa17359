-- Doubts that take their turns, one after the other.
use Rattle.std.specs.Prelude.{List, [], ◌∷◌, ◌++◌}
use Rattle.co_plain.specs.Decisions.{BelongsTo}
use Rattle.co_plain.specs.Federation.{Federation}
use Rattle.co_plain.specs.Runs.{run}
use Rattle.co_plain.specs.declared.happening.Happening.{Happening}
use Rattle.co_cluster.specs.Listed.{IsDoubt}
use Rattle.co_cluster.specs.declared.doubting.Doubt.{Doubt}
use Rattle.co_coop.specs.Turn.{doubt_turn}

-- what is done in their turns
abbrev pub resolution : Federation → List Doubt → List Happening
resolution s [] = []
resolution s (doubt ∷ doubts) = doubt_turn s doubt ++ resolution (run (doubt_turn s doubt) s) doubts

-- each names the coordinator of its transaction
abbrev pub NameHomes : Federation → List Doubt → Type 0
NameHomes s [] = Unit {0}
NameHomes s (doubt ∷ doubts) = BelongsTo s doubt.txn doubt.coord × NameHomes s doubts

-- each is a doubt of the federation
abbrev pub AreDoubts : Federation → List Doubt → Type 0
AreDoubts s [] = Unit {0}
AreDoubts s (doubt ∷ doubts) = IsDoubt s doubt × AreDoubts s doubts
