-- Logs that the directory keeps, while calls are made on the logs of other nodes.
use Rattle.std.proofs.Common.{◌≡◌, ℕ, suc, ◌+◌, ◌≤◌, ◌<◌, List, length, refl, sym, subst, ◌∙◌, arith}
use Rattle.co_base.specs.declared.node.Node.{Node}
use Rattle.co_outside.specs.Home.{HomeView}
use Rattle.co_base.specs.Limits.{most_log_bytes}
use Rattle.co_log.specs.Attaching.{IsWithin}
use Rattle.co_log.specs.LogView.{LogView}
use Rattle.co_log.specs.Others.{NodeStays, OtherNodesStay}
use Rattle.co_log.proofs.Spots.{held_stays}
use Rattle.co_opening.specs.Kept.{IsOwnLog, AreOwnLogs}
use Rattle.co_opening.specs.Nodes.{IsKept}
use Rattle.co_opening.proofs.From.{all_from_map}

pub stays_still : (node : Node) (home : HomeView) → NodeStays node home home
stays_still node home = record { file_a = refl; file_b = refl; reach_a = refl; reach_b = refl }

pub others_still : (node : Node) (home : HomeView) → OtherNodesStay node home home
others_still node home = record { others = record { files = λ s a b. refl; reaches = λ s a b. refl }; told = λ s none. none; directory = refl; count = omega arith }

pub stays_on : (node : Node) (old mid new : HomeView) → NodeStays node old mid → NodeStays node mid new → NodeStays node old new
stays_on node old mid new one two = record {
  file_a = two.file_a ∙ one.file_a;
  file_b = two.file_b ∙ one.file_b;
  reach_a = two.reach_a ∙ one.reach_a;
  reach_b = two.reach_b ∙ one.reach_b;
}

-- what leaves the files of a node keeps its log
pub kept_stays : (node : Node) (old new : HomeView) (log : LogView) → log.node ≡ node → NodeStays node old new → IsKept old node log → IsKept new node log
kept_stays node old new log owned stay kept = record {
  held = held_stays old new log (subst (λ (n : Node). NodeStays n old new) (sym owned) stay) kept.held;
  within = record {
    a = subst (IsWithin most_log_bytes) (sym stay.file_a) kept.within.a;
    b = subst (IsWithin most_log_bytes) (sym stay.file_b) kept.within.b;
  };
}

pub own_stays : (node : Node) (old new : HomeView) (log : LogView) → NodeStays node old new → IsOwnLog old node log → IsOwnLog new node log
own_stays node old new log stay own = record { owned = own.owned; kept = kept_stays node old new log own.owned stay own.kept }

-- the log by the node that it has itself
pub own_log : (node : Node) (home : HomeView) (log : LogView) → IsOwnLog home node log → IsOwnLog home log.node log
own_log node home log own = subst (λ (n : Node). IsOwnLog home n log) (sym own.owned) own

-- the log that a node keeps
pub own_again : (this node : Node) (home : HomeView) (log kept : LogView) → this ≡ node → kept ≡ log → IsOwnLog home this log → IsOwnLog home node kept
own_again this node home log kept owned is own = subst (IsOwnLog home node) (sym is) (subst (λ (n : Node). IsOwnLog home n log) owned own)

-- so of all nodes of a sort that are left
pub own_all_stay : (node : ℕ → Node) (p : ℕ) (old new : HomeView) (logs : List LogView)
    → ((q : ℕ) → p ≤ q → q < p + length logs → NodeStays (node (suc q)) old new) → AreOwnLogs old node p logs → AreOwnLogs new node p logs
own_all_stay node p old new logs stay all =
    all_from_map (λ q log. IsOwnLog old (node (suc q)) log) (λ q log. IsOwnLog new (node (suc q)) log) p logs
    (λ q log low high own. own_stays (node (suc q)) old new log (stay q low high) own) all
