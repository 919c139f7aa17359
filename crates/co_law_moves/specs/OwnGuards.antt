-- What must hold before each move over opened logs that are sound, and over any: the same tests, and where the logs are
-- sound also that decisions are true.
use Rattle.std.specs.Prelude.{true, false, ◌≡◌, ◌⊎◌, List, [], ◌∷◌}
use Rattle.co_message.specs.declared.message.Message.{Message}
use Rattle.co_message.specs.declared.message.Message.TheVariants as message
use Rattle.co_state.specs.Table.{holds}
use Rattle.co_plain.specs.Federation.{Federation}
use Rattle.co_plain.specs.Decisions.{BelongsTo, IsPresumedAborted, IsSettled}
use Rattle.co_plain.specs.SoundLogs.{log_has_committed}
use Rattle.co_plain.specs.Invariants.{TookPart, is_asked_or_used}
use Rattle.co_plain.specs.Moves.{Move, DropVoted, Install, Send, Guard, effect, may_send}

pub data Logs : Type 0 where
  SoundLogs : Logs
  AnyLogs : Logs

-- what is asked for only where the opened logs are sound
abbrev pub Where : Logs → Type 0 → Type 0
Where SoundLogs A = A
Where AnyLogs A = Unit {0}

-- a decision is said of what was asked to end or stands in an opened log
abbrev pub may_say : Logs → Federation → Message → Type 0
may_say l s (message.Decide t c m true) = Where l (IsSettled s t × TookPart s t m) × (is_asked_or_used s t ≡ true)
may_say l s (message.Decide t c m false) =
    Where l ((BelongsTo s t c × IsPresumedAborted s t) ⊎ (log_has_committed (s.member m).log.stable t ≡ true)) × (is_asked_or_used s t ≡ true)
may_say l s note = may_send s note

abbrev pub GuardOver : Logs → Federation → Move → Type 0
GuardOver l s (DropVoted t m) = (holds (s.member m).engine.voted t ≡ true) × Where l (IsPresumedAborted s t)
GuardOver l s (Install t m) = (holds (s.member m).engine.voted t ≡ true) × Where l (IsSettled s t)
GuardOver l s (Send note) = may_say l s note
GuardOver l s move = Guard s move

abbrev pub GuardsOver : Logs → List Move → Federation → Type 0
GuardsOver l [] s = Unit {0}
GuardsOver l (move ∷ moves) s = GuardOver l s move × GuardsOver l moves (effect s move)
