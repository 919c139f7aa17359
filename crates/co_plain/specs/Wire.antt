-- The messages that were ever sent in this run. Each may be delivered never, late, again and in any order.
use Rattle.std.specs.Prelude.{List, [], ◌∷◌}
use Rattle.co_message.specs.declared.message.Message.{Message}
use Rattle.co_message.specs.Sent.{send_one}
pub use Rattle.co_message.specs.Sent.{same_message, was_sent, send_one}

-- messages in the order in which they are sent
abbrev pub send_all : List Message → List Message → List Message
send_all sent [] = sent
send_all sent (message ∷ messages) = send_all (send_one sent message) messages
