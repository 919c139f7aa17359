-- The federations that are settled: those that a run over sound logs left.
use Rattle.std.specs.Prelude.{ℕ, ◌≡◌, ◌≤◌, List, length}
use Rattle.co_base.specs.declared.head.Kind.{Kind}
use Rattle.co_base.specs.Limits.{most_coordinators, most_members}
use Rattle.co_opening.specs.Found.{MayRun}
use Rattle.co_plain.specs.Federation.{Federation}
use Rattle.co_plain.specs.Opening.{Found, opened}
use Rattle.co_plain.specs.Runs.{run}
use Rattle.co_plain.specs.declared.happening.Happening.{Happening}
use Rattle.co_plain.specs.Premises.{AreTrueVerdicts, AreOpenable, AreOwn}

-- It is the state after a run over logs that may be run and are sound, of a federation within its limits. Each begin and each operation named one of
-- its nodes, and each verdict that was handed over was true.
pub record IsReached (s : Federation) : Type 0 where
  pub kinds : List Kind
  pub coords : ℕ
  pub found_member : ℕ → Found
  pub found_coord : ℕ → Found
  pub happened : List Happening
  pub few_members : length kinds ≤ most_members
  pub some_coord : 1 ≤ coords
  pub few_coords : coords ≤ most_coordinators
  pub openable : AreOpenable kinds coords found_member found_coord
  pub may : MayRun kinds coords found_member found_coord
  pub true_verdicts : AreTrueVerdicts happened (opened kinds coords found_member found_coord)
  pub own : AreOwn (length kinds) coords happened
  pub is : run happened (opened kinds coords found_member found_coord) ≡ s
