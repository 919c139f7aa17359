-- The lanes of a picture: one for each client, one for each node.
use Rattle.std.specs.Prelude.{ℕ, Bool, ◌+◌, ◌==◌}
use Rattle.co_base.specs.declared.node.Node.{Node}
use Rattle.co_base.specs.declared.node.Node.TheVariants.{Member, Coord}
use Rattle.co_message.specs.declared.message.Message.{Message}
use Rattle.co_message.specs.declared.message.Message.TheVariants as message
use Rattle.co_message.specs.declared.event.Event.{Event}
use Rattle.co_message.specs.declared.event.Event.TheVariants as event
use Rattle.co_picture.specs.declared.lane.Lane.{Lane}
use Rattle.co_picture.specs.declared.lane.Lane.TheVariants.{Front, Client, At}

-- a number that stands for the lane: clients by number, then coordinators, then members
abbrev pub rank : Lane → ℕ
rank Front = 0
rank (Client txn) = txn + 1
rank (At (Coord number)) = 4294967300 + number
rank (At (Member number)) = 4294967600 + number

abbrev pub same_lane : Lane → Lane → Bool
same_lane one other = rank one == rank other

abbrev pub sender : Message → Node
sender (message.Prepare txn coord member count) = Coord coord
sender (message.Vote txn member coord in_favour) = Member member
sender (message.Decide txn coord member commit) = Coord coord
sender (message.Ask txn member coord) = Member member
sender (message.Ack txn member coord) = Member member

abbrev pub receiver : Message → Node
receiver (message.Prepare txn coord member count) = Member member
receiver (message.Vote txn member coord in_favour) = Coord coord
receiver (message.Decide txn coord member commit) = Member member
receiver (message.Ask txn member coord) = Coord coord
receiver (message.Ack txn member coord) = Coord coord

-- the lane of an event: that of the client that asks for it, or of the node where it happens
abbrev pub lane_of : Event → Lane
lane_of (event.Begin txn coord) = Client txn
lane_of (event.Local txn member) = Client txn
lane_of (event.Read txn member key) = Client txn
lane_of (event.Write txn member key value) = Client txn
lane_of (event.Erase txn member key) = Client txn
lane_of (event.Scan txn member range) = Client txn
lane_of (event.Commit txn) = Client txn
lane_of (event.Abort txn) = Client txn
lane_of (event.Deliver message) = At (receiver message)
lane_of (event.Vote txn member) = At (Member member)
lane_of (event.Timer txn node) = At node
lane_of (event.Ask txn member) = At (Member member)
lane_of (event.Resend txn coord) = At (Coord coord)
lane_of (event.Crash node) = At node
lane_of (event.Restart node) = At node
lane_of (event.Arm node call leaves) = At node
lane_of (event.Checkpoint node) = At node
