-- Messages that are for nodes of the head.
use Rattle.std.specs.Prelude.{ℕ}
use Rattle.co_message.specs.declared.message.Message.{Message}
use Rattle.co_message.specs.declared.message.Message.TheVariants as message
use Rattle.co_plain.specs.Numbers.{IsAmong}

-- to or from a member of so many; and where it acknowledges, to one of so many coordinators
abbrev pub InHead : ℕ → ℕ → Message → Type 0
InHead n k (message.Prepare t c m count) = IsAmong m n
InHead n k (message.Vote t m c granted) = IsAmong m n
InHead n k (message.Decide t c m commit) = IsAmong m n
InHead n k (message.Ask t m c) = IsAmong m n
InHead n k (message.Ack t m c) = IsAmong m n × IsAmong c k
