-- What the deciding node is asked where a client ends a transaction, and the node that a message goes to.
use Rattle.std.specs.Prelude.{ℕ, List}
use Rattle.co_base.specs.declared.part.Part.{Part}
use Rattle.co_base.specs.declared.node.Node.{Node}
use Rattle.co_base.specs.declared.node.Node.TheVariants as node
use Rattle.co_message.specs.declared.event.Event.TheVariants as event
use Rattle.co_message.specs.declared.message.Message.{Message}
use Rattle.co_message.specs.declared.message.Message.TheVariants as message
use Rattle.co_plain.specs.Federation.{Federation, Stepped}
use Rattle.co_plain.specs.Step.{step_line}
use Rattle.co_cluster.specs.declared.calls.CoordCall.{CoordCall}
use Rattle.co_cluster.specs.declared.calls.CoordCall.TheVariants as coord
use Rattle.co_cluster.specs.declared.calls.MemberCall.{MemberCall}
use Rattle.co_cluster.specs.declared.calls.MemberCall.TheVariants as member
use Rattle.co_world.specs.declared.clients.Ending.{Ending}
use Rattle.co_world.specs.declared.clients.Ending.TheVariants as ending

-- what the deciding node is asked where a client ends a transaction
abbrev pub coord_call : Ending → ℕ → List Part → CoordCall
coord_call ending.Commit t parts = coord.Commit t parts
coord_call ending.Abort t parts = coord.Abort t parts

abbrev pub member_call : Ending → ℕ → ℕ → MemberCall
member_call ending.Commit t carried = member.LocalCommit t carried
member_call ending.Abort t carried = member.LocalAbort t

-- a client ends a transaction, by a commit or an abort
abbrev pub ended : Federation → ℕ → Ending → Stepped
ended s t ending.Commit = step_line s (event.Commit t)
ended s t ending.Abort = step_line s (event.Abort t)

-- the node that a message goes to
abbrev pub receiver : Message → Node
receiver (message.Prepare t c m count) = node.Member m
receiver (message.Vote t m c granted) = node.Coord c
receiver (message.Decide t c m commit) = node.Member m
receiver (message.Ask t m c) = node.Coord c
receiver (message.Ack t m c) = node.Coord c
