-- For which plain log the log of a node stands.
use Rattle.std.specs.Prelude.{◌≡◌, ◌≤◌, reverse, IfSome}
use Rattle.co_base.specs.declared.node.Node.{Node}
use Rattle.co_record.specs.Format.{newest}
use Rattle.co_frame.specs.Gate.{begins_closed}
use Rattle.co_log.specs.Current.{IsOrdered}
use Rattle.co_log.specs.LogView.{LogView}
use Rattle.co_log.specs.NodeFiles.{Items, newest_first}
use Rattle.co_plain.specs.declared.log_state.LogState.{LogState}

-- The log is that of this node, of the version that is written, its files are in order, and the plain log has the same records, newest first: those of
-- the current file and those that wait, the same armed stop, in one of four device calls, and whether the spare file is closed.
pub record RepresentsLog (owner : Node) (log : LogView) (l : LogState) : Type 0 where
  pub owned : log.node ≡ owner
  pub latest : log.version ≡ newest
  pub items : Items
  pub ordered : IsOrdered log items
  pub stable : l.stable ≡ newest_first items
  pub waiting : l.waiting ≡ reverse log.waiting
  pub armed : l.armed ≡ log.stop
  pub bound : IfSome log.stop (λ stop. stop.call ≤ 4)
  pub spare : l.spare_closed ≡ begins_closed log.spare.state.stable
