use Rattle.std.proofs.Common.{◌≡◌, ◌+◌, ◌++◌, ℕ, length}
use Rattle.co_base.specs.Nodes.{IsValidNode}
use Rattle.co_base.specs.declared.node.Node.TheVariants.{Member, Coord}
use Rattle.co_outside.specs.Home.{IsClean}
use Rattle.co_outside.specs.declared.spot.Spot.{Spot}
use Rattle.co_plain.specs.Opening.{Found, member_headers}
use Rattle.co_log.specs.Others.{NodeStays}
use Rattle.co_opening.specs.Kept.{AreOwnLogs}
use Rattle.co_opening.specs.Rest.{OnlyOpens}
use Rattle.co_opening.specs.Running.{AreMembersAt, AreOwnMembers}
use Rattle.co_opening.specs.Standing.{AreMembersFound}
use Rattle.co_opening.proofs.members.open_members.Given as goal

abbrev pub invariant-loop-log : goal.invariant-loop-log
invariant-loop-log g l = record {
  done : length l.members.items ≡ l.place;
  left : l.place + length l.log-iterator.rest.items ≡ length l.kinds;
  found : (found : ℕ → Found) → AreMembersFound l.coords found 0 l.fn.logs.items l.fn.pasts.items → AreMembersFound l.coords found l.place l.log-iterator.rest.items l.pasts.rest.items;
  opened : (found : ℕ → Found) → AreMembersFound l.coords found 0 l.fn.logs.items l.fn.pasts.items → AreMembersAt g.E.Engine.takes g.E.Engine.stands_for l.kinds l.coords found l.members.items;
  marked : (found : ℕ → Found) → AreMembersFound l.coords found 0 l.fn.logs.items l.fn.pasts.items → l.marks ≡ l.initial.marks ++ member_headers l.place found;
  to_keep : AreOwnLogs (g.H.Home.seen l.home) Member l.place l.log-iterator.rest.items;
  kept : AreOwnMembers (g.H.Home.seen l.home) l.members.items;
  clean : (s : Spot) → IsClean (g.H.Home.seen l.initial.home) s → IsClean (g.H.Home.seen l.home) s;
  others : (c : ℕ) → IsValidNode (Coord c) → NodeStays (Coord c) (g.H.Home.seen l.initial.home) (g.H.Home.seen l.home);
  opens : OnlyOpens (length l.kinds) l.coords (g.H.Home.seen l.initial.home) (g.H.Home.seen l.home);
  quiet : (g.H.Home.seen l.home).faults ≡ (g.H.Home.seen l.initial.home).faults;
}
