-- What is promised of every run from opened logs. The five promises speak of a list of happenings from an opened
-- federation; since every front of a list is a list, each holds at any moment, after any crash too.
use Rattle.std.specs.Prelude.{ℕ, Bool, true, false, ◌&&◌, ◌||◌, ◌==◌, ◌≡◌, List, [], ◌∷◌, ◌++◌, map, reverse}
use Rattle.co_message.specs.declared.answer.Answer.TheVariants as answer
use Rattle.co_message.specs.declared.event.Event.{Event}
use Rattle.co_message.specs.declared.event.Event.TheVariants as event
use Rattle.co_message.specs.declared.item.ItemKind.{ItemKind}
use Rattle.co_message.specs.declared.item.ItemKind.TheVariants as item
use Rattle.co_message.specs.declared.message.Message.TheVariants as message
use Rattle.co_serial.specs.SerialRun.{AllRecords, run_whole, after}
use Rattle.co_state.specs.EngineState.{is_undecided}
use Rattle.co_plain.specs.declared.happening.Happening.{Happening}
use Rattle.co_plain.specs.declared.happening.Happening.TheVariants as happening
use Rattle.co_plain.specs.declared.session.Decided.{Decided}
use Rattle.co_state.specs.Table.{holds}
use Rattle.co_plain.specs.Numbers.{TxnNumber, MemberNumber}
use Rattle.co_plain.specs.Federation.{Federation}
use Rattle.co_plain.specs.Step.{step}
use Rattle.co_plain.specs.Runs.{run}
use Rattle.co_plain.specs.Decisions.{sites_of, replies_of, is_decided}
use Rattle.co_plain.specs.DurableRecords.{durable_in, starting_records}
use Rattle.co_plain.specs.SoundLogs.{AreSound, log_has_committed}

-- the records that the serial run of some decided transactions leaves; the newest stands first
abbrev pub serial_records : Federation → List Decided → AllRecords
serial_records s decided = after (starting_records s) (reverse (map (λ d. sites_of d.told) decided))

-- Committed transactions read what they read when run whole, one by one, in the order of their decisions.
abbrev pub SerialReads : Federation → List Happening → Type 0
SerialReads s hs =
    (later earlier : List Decided) (d : Decided) → (run hs s).decided ≡ later ++ d ∷ earlier →
    replies_of d.told ≡ run_whole (serial_records s earlier) (sites_of d.told)

-- The logs alone give the records of the serial run.
abbrev pub LogsAlone : Federation → List Happening → Type 0
LogsAlone s hs = (m : ℕ) → durable_in (run hs s) m ≡ serial_records s (run hs s).decided m

-- an event that answers `committed` acknowledges its transaction
abbrev pub asks_for : Event → TxnNumber → Bool
asks_for (event.Commit u) t = u == t
asks_for (event.Deliver (message.Vote u m c granted)) t = u == t
asks_for _ t = false

abbrev pub is_about : Happening → TxnNumber → Bool
is_about (happening.Line e) t = asks_for e t
is_about _ t = false

abbrev pub says_committed : List ItemKind → Bool
says_committed [] = false
says_committed (item.Answered answer.Committed ∷ items) = true
says_committed (_ ∷ items) = says_committed items

abbrev pub is_acknowledged : Federation → List Happening → TxnNumber → Bool
is_acknowledged s [] t = false
is_acknowledged s (h ∷ hs) t = is_about h t && says_committed (step s h).items || is_acknowledged (step s h).state hs t

-- Every acknowledged transaction is decided, and each is decided once.
abbrev pub AreDecidedOnce : List Decided → Type 0
AreDecidedOnce [] = Unit {0}
AreDecidedOnce (d ∷ ds) = (is_decided ds d.txn ≡ false) × AreDecidedOnce ds

pub record Acknowledged (s : Federation) (hs : List Happening) : Type 0 where
  pub decided : (t : ℕ) → is_acknowledged s hs t ≡ true → is_decided (run hs s).decided t ≡ true
  pub once : AreDecidedOnce (run hs s).decided

-- A member decided commit where its log has the transaction among the committed; it decided abort where the
-- transaction was active or voted there and later is neither, nor installed. A crash that loses it counts.
abbrev pub HasDecidedCommit : Federation → TxnNumber → MemberNumber → Type 0
HasDecidedCommit s t m = log_has_committed (s.member m).log.stable t ≡ true

pub record HasDecidedAbort (s : Federation) (hs : List Happening) (t m : ℕ) : Type 0 where
  pub before : List Happening
  pub between : List Happening
  pub rest : List Happening
  pub front : before ++ (between ++ rest) ≡ hs
  pub was : is_undecided ((run before s).member m).engine t ≡ true
  pub is_not : is_undecided ((run (before ++ between) s).member m).engine t ≡ false
  pub not_installed : holds ((run (before ++ between) s).member m).committed t ≡ false

-- No two members decide a transaction differently.
abbrev pub MembersAgree : Federation → List Happening → Type 0
MembersAgree s hs = (t m n : ℕ) → HasDecidedCommit (run hs s) t m → ¬ (HasDecidedAbort s hs t n)

-- The logs stay sound.
abbrev pub LogsStaySound : Federation → List Happening → Type 0
LogsStaySound s hs = AreSound (λ m. ((run hs s).member m).log.stable) (λ c. ((run hs s).coord c).log.stable)
