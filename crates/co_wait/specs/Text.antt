-- The text of waits and of their knot.
use Rattle.std.specs.Prelude.{ℕ, List, ◌++◌, codes, decimal, length}
use Rattle.std.specs.List.{flat_map}
use Rattle.co_wait.specs.declared.knot.Rank.{Rank}
use Rattle.co_wait.specs.declared.knot.Knot.{Knot}
use Rattle.co_wait.specs.declared.knot.Knot.TheVariants.{Cycle, Order}
use Rattle.co_wait.specs.declared.wait.Wait.{Wait}

-- a line for each wait: the held transaction, the member, and the one in the way
abbrev pub wait_line : Wait → List ℕ
wait_line w = codes "wait " ++ decimal w.held ++ codes " m" ++ decimal w.member ++ codes " " ++ decimal w.by ++ codes "\n"

-- a leg of a cycle: its transaction and its member
abbrev pub leg_word : Wait → List ℕ
leg_word w = codes " " ++ decimal w.held ++ codes " m" ++ decimal w.member

-- a line for each transaction of an order
abbrev pub rank_line : Rank → List ℕ
rank_line r = codes "rank " ++ decimal r.txn ++ codes " " ++ decimal r.rank ++ codes "\n"

abbrev pub knot_text : Knot → List ℕ
knot_text (Cycle legs) = codes "cycle" ++ flat_map leg_word legs ++ codes "\n"
knot_text (Order ranks) = codes "order " ++ decimal (length ranks) ++ codes "\n" ++ flat_map rank_line ranks

-- the waits, and then their knot
abbrev pub waits_text : List Wait → Knot → List ℕ
waits_text waits knot = flat_map wait_line waits ++ knot_text knot
