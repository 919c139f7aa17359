-- A federation that was opened over the logs that were found.
use Rattle.std.specs.Prelude.{ℕ, Bool, false, ◌≡◌, ◌≤◌, length, Option, List}
use Rattle.std.specs.FinMap.{keys}
use Rattle.co_base.specs.Limits.{most_transactions}
use Rattle.co_base.specs.declared.head.Head.{Head}
use Rattle.co_base.specs.declared.head.Kind.{Kind}
use Rattle.co_message.specs.declared.item.Item.{Item}
use Rattle.co_outside.specs.declared.spot.Spot.{Spot}
use Rattle.co_outside.specs.Home.{File}
use Rattle.co_plain.specs.Opening.{Found, opened, opening_items, used_numbers}
use Rattle.co_plain.specs.Runs.{numbered}
use Rattle.co_state.specs.declared.engine_state.EngineState.{EngineState}
use Rattle.co_opening.specs.Fit.{AreFit}
use Rattle.co_opening.specs.Found.{AreFound, MayRun, AreUnused}
use Rattle.co_world.specs.declared.world.World.{World}
use Rattle.co_world.specs.Standing.{RepresentsWorld}

-- It stands for the plain federation that is opened over what was found in the files, which are fit for it, and tells what opening tells.
pub record IsAttachedOver {E : Type 0} (takes : Kind → Type 0) (stands_for : E → EngineState → Type 0) (file : Spot → Option File) (head : Head) (resume : Bool) (w : World E) (items : List Item) : Type 0 where
  pub found_member : ℕ → Found
  pub found_coord : ℕ → Found
  pub found : AreFound file (length head.kinds) head.coords found_member found_coord
  pub may : MayRun head.kinds head.coords found_member found_coord
  pub unused : resume ≡ false → AreUnused found_member found_coord
  pub fit : AreFit file head resume
  pub few : length (keys (used_numbers (length head.kinds) head.coords found_member found_coord)) ≤ most_transactions
  pub stands : RepresentsWorld takes stands_for w (opened head.kinds head.coords found_member found_coord)
  pub told : items ≡ numbered 1 (opening_items head.kinds head.coords found_member found_coord)
