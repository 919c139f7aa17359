-- Whose transaction a message speaks of: each message names the coordinator of its transaction.
use Rattle.std.specs.Prelude.{ℕ, true, ◌≡◌, ◌⊎◌, List, Some}
use Rattle.co_message.specs.declared.message.Message.{Message}
use Rattle.co_message.specs.declared.message.Message.TheVariants as message
use Rattle.co_plain.specs.Decisions.{BelongsTo}
use Rattle.co_plain.specs.Federation.{Federation}
use Rattle.co_plain.specs.SoundLogs.{unended_in}
use Rattle.co_plain.specs.Wire.{was_sent}

-- A transaction is at home at the coordinator that it belongs to, and at the one whose opened file has a commit of it without
-- end, which tells of it again though it was neither begun in this run nor voted in an opened log.
pub data IsHome (s : Federation) (t c : ℕ) : Type 0 where
  Belongs : BelongsTo s t c → IsHome s t c
  CommittedBefore : (members : List ℕ) → unended_in (s.opened_coord c) t ≡ Some members → IsHome s t c

-- An acknowledgement of a verdict that was handed of an installed transaction names coordinator 0, for no vote is left that
-- names its coordinator. No such verdict is asked for, and nothing waits for that acknowledgement.
abbrev pub NamesHome : Federation → Message → Type 0
NamesHome s (message.Prepare t c m n) = IsHome s t c
NamesHome s (message.Vote t m c granted) = IsHome s t c
NamesHome s (message.Decide t c m commit) = IsHome s t c
NamesHome s (message.Ask t m c) = IsHome s t c
NamesHome s (message.Ack t m c) = IsHome s t c ⊎ (c ≡ 0)

abbrev pub MessagesNameHomes : Federation → Type 0
MessagesNameHomes s = (note : Message) → was_sent s.sent note ≡ true → NamesHome s note
