use Rattle.std.proofs.Common.{◌≡◌, ◌≢◌, ℕ, length}
use Rattle.co_base.specs.Nodes.{IsValidNode}
use Rattle.co_base.specs.declared.node.Node.{Node}
use Rattle.co_durable.specs.Pairs.{EachPair}
use Rattle.co_durable.specs.Reading.{OnlyReads}
use Rattle.co_opening.specs.Attached.{IsAttachedTo}
use Rattle.co_log.specs.Others.{NodeStays}
use Rattle.co_opening.specs.Kept.{AreOwnLogs}
use Rattle.co_opening.specs.Sorts.{node_in, nodes_in}
use Rattle.co_opening.proofs.attaching.attach_sort.Given as goal

abbrev pub invariant-loop-place : goal.invariant-loop-place
invariant-loop-place g l = record {
  attached : EachPair (IsAttachedTo (g.H.Home.seen l.initial.home).file l.resume) (nodes_in l.sort l.place) l.logs.items;
  many : length l.logs.items ≡ l.place;
  kept : AreOwnLogs (g.H.Home.seen l.home) (node_in l.sort) 0 l.logs.items;
  reads : OnlyReads (g.H.Home.seen l.initial.home) (g.H.Home.seen l.home);
  others : (n : Node) → IsValidNode n → ((p : ℕ) → n ≢ node_in l.sort p) → NodeStays n (g.H.Home.seen l.initial.home) (g.H.Home.seen l.home);
  quiet : (g.H.Home.seen l.home).faults ≡ (g.H.Home.seen l.initial.home).faults;
}
