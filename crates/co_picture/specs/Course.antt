-- What the items before one tell: the event of its group, where transactions were begun, which nodes are down, how many transactions are decided.
use Rattle.std.specs.Prelude.{ℕ, Bool, true, false, not, ◌+◌, ◌==◌, if◌then◌else◌, List, [], ◌∷◌, ◌++◌, find, filter, Option, None, Some, option_map}
use Rattle.co_base.specs.Nodes.{same_node}
use Rattle.co_base.specs.declared.mark.Mark.{Mark}
use Rattle.co_base.specs.declared.mark.MarkKind.{MarkKind}
use Rattle.co_base.specs.declared.mark.MarkKind.TheVariants as kind
use Rattle.co_base.specs.declared.node.Node.{Node}
use Rattle.co_base.specs.declared.node.Node.TheVariants.{Member, Coord}
use Rattle.co_message.specs.declared.answer.Answer.{Answer}
use Rattle.co_message.specs.declared.answer.Answer.TheVariants as answer
use Rattle.co_message.specs.declared.event.Event.{Event}
use Rattle.co_message.specs.declared.event.Event.TheVariants as event
use Rattle.co_message.specs.declared.item.ItemKind.{ItemKind}
use Rattle.co_message.specs.declared.item.ItemKind.TheVariants as item
use Rattle.co_picture.specs.Lanes.{receiver, lane_of}
use Rattle.co_picture.specs.declared.lane.Lane.TheVariants.{Front}
use Rattle.co_picture.specs.declared.course.Home.{Home}
use Rattle.co_picture.specs.declared.course.Course.{Course}

-- the node where the transaction was begun
abbrev pub home_of : List Home → ℕ → Option Node
home_of homes txn = option_map (λ home. home.node) (find (λ home. home.txn == txn) homes)

-- the node where an event happens, where it is known
abbrev pub node_of : List Home → Event → Option Node
node_of homes (event.Begin txn coord) = Some (Coord coord)
node_of homes (event.Local txn member) = Some (Member member)
node_of homes (event.Read txn member key) = Some (Member member)
node_of homes (event.Write txn member key value) = Some (Member member)
node_of homes (event.Erase txn member key) = Some (Member member)
node_of homes (event.Scan txn member range) = Some (Member member)
node_of homes (event.Commit txn) = home_of homes txn
node_of homes (event.Abort txn) = home_of homes txn
node_of homes (event.Deliver message) = Some (receiver message)
node_of homes (event.Vote txn member) = Some (Member member)
node_of homes (event.Timer txn node) = Some node
node_of homes (event.Ask txn member) = Some (Member member)
node_of homes (event.Resend txn coord) = Some (Coord coord)
node_of homes (event.Crash node) = Some node
node_of homes (event.Restart node) = Some node
node_of homes (event.Arm node call leaves) = Some node
node_of homes (event.Checkpoint node) = Some node

-- the transaction that an event begins
abbrev pub begun_by : Event → Option ℕ
begun_by (event.Begin txn coord) = Some txn
begun_by (event.Local txn member) = Some txn
begun_by _ = None

-- the nodes but this one
abbrev pub without : List Node → Node → List Node
without nodes node = filter (λ other. not (same_node other node)) nodes

abbrev pub falls : List Node → Option Node → List Node
falls down None = down
falls down (Some node) = without down node ++ node ∷ []

abbrev pub rises : List Node → Option Node → List Node
rises down None = down
rises down (Some node) = without down node

-- a transaction that was begun has its home there
abbrev pub homed : List Home → Option ℕ → Option Node → List Home
homed homes (Some txn) (Some node) = homes ++ record { txn = txn; node = node } ∷ []
homed homes _ _ = homes

-- whether this is the node
abbrev pub is_at : Option Node → Node → Bool
is_at None node = false
is_at (Some home) node = same_node home node

-- whether a record decides a transaction to commit: it stands in the log of the node where the transaction was begun
abbrev pub decides_as : MarkKind → Option Node → Node → Bool
decides_as kind.Commit home node = is_at home node
decides_as _ home node = false

abbrev pub decides : List Home → Mark → Bool
decides homes mark = decides_as mark.kind (home_of homes mark.number) mark.node

abbrev pub at_first : Course
at_first = record { lane = Front; node = None; begins = None; homes = []; down = []; decided = 0 }

abbrev pub after_event : Course → Event → Course
after_event c e = record c { lane = lane_of e; node = node_of c.homes e; begins = begun_by e }

abbrev pub after_mark : Course → Mark → Course
after_mark c mark = if decides c.homes mark then record c { decided = c.decided + 1 } else c

abbrev pub after_answer : Course → Answer → Course
after_answer c answer.Begun = record c { homes = homed c.homes c.begins c.node }
after_answer c answer.Up = record c { down = rises c.down c.node }
after_answer c answer.Crashed = record c { down = falls c.down c.node }
after_answer c (answer.Stopped call) = record c { down = falls c.down c.node }
after_answer c _ = c

-- behind one more item
abbrev pub after : Course → ItemKind → Course
after c (item.Head head) = c
after c (item.Event e) = after_event c e
after c (item.Log mark) = after_mark c mark
after c (item.Sent message) = c
after c (item.Answered said) = after_answer c said
