-- Logs that the directory keeps.
use Rattle.std.specs.Prelude.{ℕ, suc, ◌≡◌, List}
use Rattle.co_base.specs.declared.node.Node.{Node}
use Rattle.co_outside.specs.Home.{HomeView}
use Rattle.co_log.specs.LogView.{LogView}
use Rattle.co_opening.specs.From.{AllFrom}
use Rattle.co_opening.specs.Nodes.{IsKept}

-- the log is that of this node, and the directory keeps it
pub record IsOwnLog (home : HomeView) (node : Node) (log : LogView) : Type 0 where
  pub owned : log.node ≡ node
  pub kept : IsKept home node log

-- so it is of logs of one sort of nodes, the first of which has the number behind this one
abbrev pub AreOwnLogs : HomeView → (ℕ → Node) → ℕ → List LogView → Type 0
AreOwnLogs home node p logs = AllFrom (λ q log. IsOwnLog home (node (suc q)) log) p logs
