-- Lines that are refused: by the session, by the wire, by a node that is down, or by a member that cannot do an operation.
use Rattle.std.specs.Prelude.{Bool, true, false, if◌then◌else◌, Option, None, Some}
use Rattle.co_base.specs.declared.node.Node.{Node}
use Rattle.co_base.specs.declared.node.Node.TheVariants as node
use Rattle.co_message.specs.declared.answer.Answer.{Answer}
use Rattle.co_message.specs.declared.answer.Answer.TheVariants as answer
use Rattle.co_message.specs.declared.event.Event.{Event}
use Rattle.co_message.specs.declared.event.Event.TheVariants as event
use Rattle.co_message.specs.declared.message.Message.{Message}
use Rattle.co_message.specs.declared.message.Message.TheVariants as message
use Rattle.co_state.specs.Table.{look}
use Rattle.co_plain.specs.declared.session.Session.{Session}
use Rattle.co_plain.specs.Federation.{Federation}
use Rattle.co_plain.specs.Sessions.{Leave, Refuses, Grants, leave_to_visit, leave_to_end}
use Rattle.co_plain.specs.Step.{is_used}
use Rattle.co_plain.specs.Wire.{was_sent}
pub use Rattle.co_law_runs.specs.Finality.{reply_told}

abbrev pub IsRefusal : Answer → Type 0
IsRefusal answer.Used = Unit {0}
IsRefusal answer.NotBegun = Unit {0}
IsRefusal answer.Asked = Unit {0}
IsRefusal answer.Unsent = Unit {0}
IsRefusal (answer.Down at) = Unit {0}
IsRefusal (answer.Blocked u) = Unit {0}
IsRefusal (answer.Gone kept carried) = Unit {0}
IsRefusal answer.TooMany = Unit {0}
IsRefusal _ = ⊥

-- those of them that come before the node is asked
abbrev pub IsFirstRefusal : Answer → Type 0
IsFirstRefusal answer.Used = Unit {0}
IsFirstRefusal answer.NotBegun = Unit {0}
IsFirstRefusal answer.Asked = Unit {0}
IsFirstRefusal answer.Unsent = Unit {0}
IsFirstRefusal (answer.Down at) = Unit {0}
IsFirstRefusal _ = ⊥

-- what a session refuses
abbrev pub refused_leave : Leave → Option Answer
refused_leave (Refuses a) = Some a
refused_leave (Grants session) = None

-- what the session or the wire refuses; neither is asked for the other events
abbrev pub refused_line : Federation → Event → Option Answer
refused_line s (event.Begin t c) = if is_used s t then Some answer.Used else None
refused_line s (event.Local t m) = if is_used s t then Some answer.Used else None
refused_line s (event.Read t m key) = refused_leave (leave_to_visit (look s.sessions t) m)
refused_line s (event.Write t m key value) = refused_leave (leave_to_visit (look s.sessions t) m)
refused_line s (event.Erase t m key) = refused_leave (leave_to_visit (look s.sessions t) m)
refused_line s (event.Scan t m span) = refused_leave (leave_to_visit (look s.sessions t) m)
refused_line s (event.Commit t) = refused_leave (leave_to_end (look s.sessions t))
refused_line s (event.Abort t) = refused_leave (leave_to_end (look s.sessions t))
refused_line s (event.Deliver note) = if was_sent s.sent note then None else Some answer.Unsent
refused_line s _ = None

-- the node that a message goes to, and the one that decides a transaction
abbrev pub receiver : Message → Node
receiver (message.Prepare t c m count) = node.Member m
receiver (message.Decide t c m commit) = node.Member m
receiver (message.Vote t m c granted) = node.Coord c
receiver (message.Ask t m c) = node.Coord c
receiver (message.Ack t m c) = node.Coord c

abbrev pub decider : Option Session → Option Node
decider None = None
decider (Some session) = Some session.by

-- the node that has to be up for an event: its own, but for a restart
abbrev pub wanted_node : Federation → Event → Option Node
wanted_node s (event.Begin t c) = Some (node.Coord c)
wanted_node s (event.Local t m) = Some (node.Member m)
wanted_node s (event.Read t m key) = Some (node.Member m)
wanted_node s (event.Write t m key value) = Some (node.Member m)
wanted_node s (event.Erase t m key) = Some (node.Member m)
wanted_node s (event.Scan t m span) = Some (node.Member m)
wanted_node s (event.Commit t) = decider (look s.sessions t)
wanted_node s (event.Abort t) = decider (look s.sessions t)
wanted_node s (event.Deliver note) = Some (receiver note)
wanted_node s (event.Vote t m) = Some (node.Member m)
wanted_node s (event.Timer t at) = Some at
wanted_node s (event.Ask t m) = Some (node.Member m)
wanted_node s (event.Resend t c) = Some (node.Coord c)
wanted_node s (event.Crash at) = Some at
wanted_node s (event.Restart at) = None
wanted_node s (event.Arm at call leaves) = Some at
wanted_node s (event.Checkpoint at) = Some at

abbrev pub is_up : Federation → Node → Bool
is_up s (node.Member m) = (s.member m).up
is_up s (node.Coord c) = (s.coord c).up

abbrev pub unless_up : Bool → Node → Option Answer
unless_up true at = None
unless_up false at = Some (answer.Down at)

abbrev pub refused_node : Federation → Option Node → Option Answer
refused_node s None = None
refused_node s (Some at) = unless_up (is_up s at) at

-- Why a line is refused before its node is asked: the session or the wire first, then a node that is down.
abbrev pub or_else : Option Answer → Option Answer → Option Answer
or_else None o = o
or_else (Some a) o = Some a

abbrev pub refusal : Federation → Event → Option Answer
refusal s e = or_else (refused_line s e) (refused_node s (wanted_node s e))
