use Rattle.std.proofs.Common.{◌≡◌, ◌+◌, ◌++◌, ℕ, length}
use Rattle.co_base.specs.Nodes.{IsValidNode}
use Rattle.co_base.specs.declared.node.Node.TheVariants.{Member, Coord}
use Rattle.co_outside.specs.Home.{IsClean}
use Rattle.co_outside.specs.declared.spot.Spot.{Spot}
use Rattle.co_plain.specs.Opening.{Found, coord_headers}
use Rattle.co_log.specs.Others.{NodeStays}
use Rattle.co_opening.specs.Kept.{AreOwnLogs}
use Rattle.co_opening.specs.Rest.{OnlyOpens}
use Rattle.co_opening.specs.Running.{AreCoordsAt, AreOwnCoords}
use Rattle.co_opening.specs.Standing.{AreCoordsFound}
use Rattle.co_opening.proofs.coords.open_coords.Given as goal

abbrev pub invariant-loop-log : goal.invariant-loop-log
invariant-loop-log g l = record {
  done : length l.coords.items ≡ l.place;
  left : l.place + length l.log-iterator.rest.items ≡ length l.fn.logs.items;
  found : (found : ℕ → Found) → AreCoordsFound l.members found 0 l.fn.logs.items l.fn.pasts.items → AreCoordsFound l.members found l.place l.log-iterator.rest.items l.pasts.rest.items;
  opened : (found : ℕ → Found) → AreCoordsFound l.members found 0 l.fn.logs.items l.fn.pasts.items → AreCoordsAt l.members found l.coords.items;
  marked : (found : ℕ → Found) → AreCoordsFound l.members found 0 l.fn.logs.items l.fn.pasts.items → l.marks ≡ l.initial.marks ++ coord_headers l.place found;
  to_keep : AreOwnLogs (g.H.Home.seen l.home) Coord l.place l.log-iterator.rest.items;
  kept : AreOwnCoords (g.H.Home.seen l.home) l.coords.items;
  clean : (s : Spot) → IsClean (g.H.Home.seen l.initial.home) s → IsClean (g.H.Home.seen l.home) s;
  others : (m : ℕ) → IsValidNode (Member m) → NodeStays (Member m) (g.H.Home.seen l.initial.home) (g.H.Home.seen l.home);
  opens : OnlyOpens l.members (length l.fn.logs.items) (g.H.Home.seen l.initial.home) (g.H.Home.seen l.home);
  quiet : (g.H.Home.seen l.home).faults ≡ (g.H.Home.seen l.initial.home).faults;
}
