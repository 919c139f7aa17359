use Rattle.std.proofs.Common.{◌≡◌, take}
use Rattle.co_durable.specs.Pairs.{EachPair}
use Rattle.co_durable.specs.Reading.{OnlyReads, IsLogOf}
use Rattle.co_durable.proofs.reading.read_logs.Given as goal

abbrev pub invariant-loop-node : goal.invariant-loop-node
invariant-loop-node g l = record {
  read : EachPair (IsLogOf (g.H.Home.seen l.initial.home).file) (take l.node-index l.nodes) l.logs.items;
  reads : OnlyReads (g.H.Home.seen l.initial.home) (g.H.Home.seen l.home);
  quiet : (g.H.Home.seen l.home).faults ≡ (g.H.Home.seen l.initial.home).faults;
}
