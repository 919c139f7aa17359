-- What a run did, and what is promised of it.
use Rattle.std.specs.Prelude.{ℕ, Bool, false, ◌≡◌, ◌<◌, ◌≤◌, ◌⊎◌, List, [], ◌∷◌, ◌++◌, length, take, map, Option, None, Some}
use Rattle.std.specs.FinMap.{keys}
use Rattle.std.specs.List.{AllByRecursion}
use Rattle.co_base.specs.Limits.{most_transactions}
use Rattle.co_base.specs.declared.head.Head.{Head}
use Rattle.co_message.specs.declared.event.Event.{Event}
use Rattle.co_outside.specs.declared.spot.Spot.{Spot}
use Rattle.co_outside.specs.Home.{File, HomeView}
use Rattle.co_durable.specs.Durable.{IsDurable}
use Rattle.co_serial.specs.MemberRows.{numbered_rows}
use Rattle.co_durable.specs.Told as files
use Rattle.co_plain.specs.CommitmentOrder.{IsCommitmentOrdered}
use Rattle.co_plain.specs.Federation.{Federation}
use Rattle.co_plain.specs.Opening.{Found, opened, used_numbers}
use Rattle.co_plain.specs.Promises.{SerialReads, Acknowledged, MembersAgree, LogsStaySound, serial_records}
use Rattle.co_plain.specs.Runs.{run, transcript, lines}
use Rattle.co_plain.specs.SoundLogs.{AreSound}
use Rattle.co_plain.specs.declared.happening.Happening.{Happening}
use Rattle.co_plain.specs.declared.happening.Happening.TheVariants as happening
use Rattle.co_replay.specs.Schedule.{HasLine}
use Rattle.co_replay.specs.Transcript.{items_text, run_items}
use Rattle.co_opening.specs.Fit.{AreFit}
use Rattle.co_opening.specs.Found.{AreFound, MayRun, AreUnused}
use Rattle.co_opening.specs.Rest.{AreFoundOrMade}
use Rattle.co_cluster.specs.Left.{AreLeftAs}
use Rattle.co_top.specs.Front.{IsHeaded, StandsBehind, IsNext, IsHeadFault, IsLineFault, IsStreamed}
use Rattle.co_world.specs.Counting.{MeetsPlainLimit}
use Rattle.co_top.specs.Replayed.{IsUnopenedAs, IsOfFiles}
use Rattle.co_top.specs.Telling.{Outgrows}
use Rattle.co_top.specs.declared.status.LimitKind.TheVariants as limit
use Rattle.co_top.specs.declared.status.Status.{Status}
use Rattle.co_top.specs.declared.status.Status.TheVariants as status

-- The head of the input and the events of the lines that were done, and the logs that were found in the files, which are fit for a run of this head.
pub record Ran (resume : Bool) (input : List ℕ) (file : Spot → Option File) : Type 0 where
  pub head : Head
  pub text : List ℕ
  pub headed : IsHeaded input head text
  pub events : List Event
  pub valid : AllByRecursion (HasLine head) events
  pub rest : List ℕ
  pub front : StandsBehind head text events rest
  pub found_member : ℕ → Found
  pub found_coord : ℕ → Found
  pub found : AreFound file (length head.kinds) head.coords found_member found_coord
  pub may : MayRun head.kinds head.coords found_member found_coord
  pub unused : resume ≡ false → AreUnused found_member found_coord
  pub fit : AreFit file head resume
  pub few : length (keys (used_numbers (length head.kinds) head.coords found_member found_coord)) ≤ most_transactions

-- two runs have the same head and events, and were opened over the same logs
pub record IsSameRun {resume : Bool} {input : List ℕ} {file : Spot → Option File} (r s : Ran resume input file) : Type 0 where
  pub head : r.head ≡ s.head
  pub events : r.events ≡ s.events
  pub members : (m : ℕ) → r.found_member m ≡ s.found_member m
  pub coordinators : (c : ℕ) → r.found_coord c ≡ s.found_coord c

-- the federation that was opened, and what the events left of it
abbrev pub start_of : {resume : Bool} {input : List ℕ} {file : Spot → Option File} → Ran resume input file → Federation
start_of r = opened r.head.kinds r.head.coords r.found_member r.found_coord

abbrev pub end_of : {resume : Bool} {input : List ℕ} {file : Spot → Option File} → Ran resume input file → Federation
end_of r = run (lines r.events) (start_of r)

-- the text of the run: the items of the head, and then those of each event in its turn
abbrev pub text_of : {resume : Bool} {input : List ℕ} {file : Spot → Option File} → Ran resume input file → List ℕ
text_of r = items_text (run_items r.head r.found_member r.found_coord r.events)

-- the logs were fresh, or sound
abbrev pub IsSoundlyFound : {resume : Bool} {input : List ℕ} {file : Spot → Option File} → Ran resume input file → Type 0
IsSoundlyFound {resume = resume} r = (resume ≡ false) ⊎ AreSound (λ m. (r.found_member m).records) (λ c. (r.found_coord c).records)

-- Of every run over logs that were fresh or sound: committed transactions read what they read when run whole, one by one, in the order of their decisions, from
-- the records that the opened logs give; what was acknowledged is decided, and once; no two members decide one differently; and the transcript is commitment
-- ordered (Raz, VLDB 1992).
pub record KeepsPromises {resume : Bool} {input : List ℕ} {file : Spot → Option File} (r : Ran resume input file) : Type 0 where
  pub serial_reads : SerialReads (start_of r) (lines r.events)
  pub acknowledged : Acknowledged (start_of r) (lines r.events)
  pub agreement : MembersAgree (start_of r) (lines r.events)
  pub ordered : IsCommitmentOrdered r.head.kinds (map (λ i. i.what) (transcript 2 r.events (start_of r)))

-- what the files tell of the nodes of a head is such as may be run, so that a resumed run is refused for none of their records
abbrev pub MayBeResumed : (Spot → Option File) → Head → Type 0
MayBeResumed file head = (found_member found_coord : ℕ → Found) × AreFound file (length head.kinds) head.coords found_member found_coord × MayRun head.kinds head.coords found_member found_coord

-- What a directory that tells its files has after happenings of this run: what they left in the logs, and it may be run again. Where the logs were fresh or sound, the
-- files alone give the records of the serial run in the order of decisions, and they are sound again.
pub record AreLeftAfter {resume : Bool} {input : List ℕ} {old : Spot → Option File} (r : Ran resume input old) (happened : List Happening) (file : Spot → Option File) : Type 0 where
  pub left : AreLeftAs file (run happened (start_of r))
  pub logs_alone : IsSoundlyFound r → files.AreTold file (length r.head.kinds) r.head.coords →
      IsDurable file (length r.head.kinds) r.head.coords (numbered_rows (serial_records (start_of r) (run happened (start_of r)).decided) 1 (length r.head.kinds))
  pub sound_logs : IsSoundlyFound r → LogsStaySound (start_of r) happened
  pub may_resume : files.AreTold file (length r.head.kinds) r.head.coords → MayBeResumed file r.head

-- the files that a run left
abbrev pub AreLeftBy : {resume : Bool} {input : List ℕ} {old : Spot → Option File} → Ran resume input old → (Spot → Option File) → Type 0
AreLeftBy r file = AreLeftAfter r (lines r.events) file

-- The happenings up to a fault: the events of the lines that were done, and with them that of the next line or not; where the fault stands in the place of a stop
-- that was armed, as if none were.
abbrev pub IsUpToFault : {resume : Bool} {input : List ℕ} {old : Spot → Option File} → Ran resume input old → List Happening → Type 0
IsUpToFault r happened =
    (happened ≡ lines r.events)
    ⊎ ((event : Event) × HasLine r.head event × (rest : List ℕ) × IsNext r.head (length r.events) r.rest rest (Some event)
    × ((happened ≡ lines r.events ++ happening.Line event ∷ []) ⊎ (happened ≡ lines r.events ++ happening.Disarm ∷ happening.Line event ∷ [])))

-- the files that a fault left
pub record AreLeftByFault {resume : Bool} {input : List ℕ} {old : Spot → Option File} (r : Ran resume input old) (file : Spot → Option File) : Type 0 where
  pub happened : List Happening
  pub up_to : IsUpToFault r happened
  pub files : AreLeftAfter r happened file

-- a run, its promises, and what it told; and how much of the input it took, where the source tells what it has left
pub record HasRun (resume : Bool) (input : List ℕ) (left : Option (List ℕ)) (held : List ℕ) (old : Spot → Option File) (told : Option (List ℕ)) : Type 0 where
  pub ran : Ran resume input old
  pub streamed : IsStreamed ran.rest left
  pub promises : IsSoundlyFound ran → KeepsPromises ran
  pub transcript : told ≡ Some (held ++ text_of ran)

-- so, but a front of the text alone was put
pub record HasRunInPart (resume : Bool) (input : List ℕ) (left : Option (List ℕ)) (held : List ℕ) (old : Spot → Option File) (told : Option (List ℕ)) : Type 0 where
  pub ran : Ran resume input old
  pub streamed : IsStreamed ran.rest left
  pub promises : IsSoundlyFound ran → KeepsPromises ran
  pub count : ℕ
  pub transcript : told ≡ Some (held ++ take count (text_of ran))

-- nothing was put, and of the input no more was taken than its first line may have
abbrev pub IsUntold : List ℕ → Option (List ℕ) → List ℕ → Option (List ℕ) → Type 0
IsUntold input left held told = (told ≡ Some held) × IsStreamed input left

-- Why the federation of the head was not opened, and what that left: with a refusal of what was found in the files no file is changed; and where the directory failed or there was
-- no memory, every log is as it was found, or has its header alone where there was none.
pub record IsUnopenedFor (resume : Bool) (input : List ℕ) (old new : Spot → Option File) (ended : Status) : Type 0 where
  pub head : Head
  pub text : List ℕ
  pub headed : IsHeaded input head text
  pub cause : IsUnopenedAs old head resume ended
  pub untouched : IsOfFiles ended → (s : Spot) → new s ≡ old s
  pub left : AreFoundOrMade (length head.kinds) head.coords old new

-- the next line begins a transaction whose number is unused, and as many are used as there may be
abbrev pub IsAtLimit : {resume : Bool} {input : List ℕ} {old : Spot → Option File} → Ran resume input old → Type 0
IsAtLimit r = (event : Event) × (rest : List ℕ) × IsNext r.head (length r.events) r.rest rest (Some event) × MeetsPlainLimit (end_of r) event

-- the event of the next line would leave this log too long, were no stop armed
abbrev pub IsOutgrown : {resume : Bool} {input : List ℕ} {old : Spot → Option File} → Ran resume input old → Spot → Type 0
IsOutgrown r spot = (event : Event) × (rest : List ℕ) × IsNext r.head (length r.events) r.rest rest (Some event) × Outgrows (end_of r) event spot

-- Why a run ended behind the lines that were done: there is no further one, or its event meets a limit, or it gave none.
abbrev pub IsStop : {resume : Bool} {input : List ℕ} {old : Spot → Option File} → Ran resume input old → Status → Type 0
IsStop r status.Done = r.rest ≡ []
IsStop r (status.Limit limit.Transactions) = IsAtLimit r
IsStop r (status.Limit (limit.Log spot)) = IsOutgrown r spot
IsStop r ended = IsLineFault r.head (length r.events) r.rest ended

-- a fault of the directory within an event: it failed, or a file that was read again and that it does not tell differs from what is kept of it
abbrev pub IsEventFault : (Spot → Option File) → Status → Type 0
IsEventFault old (status.Device spot) = Unit {0}
IsEventFault old (status.Differs spot at kept read) = (old spot ≡ None) × (spot.part < 2)
IsEventFault old _ = ⊥

-- How a run ends, over an input, a sink and files that are told, and what the source has left then. Either the head is none, and the directory is as it was; or its federation was not
-- opened; or the run stopped behind a line, or in the text of one; or there was a fault within the event of the next line, or no memory.
pub data IsRunEnd {H : Type 0} (seen : H → HomeView) (resume : Bool) (input : List ℕ) (left : Option (List ℕ)) (held : List ℕ) (told : Option (List ℕ)) (old new : H) (ended : Status) : Type 0 where
  NoHead : IsUntold input left held told → new ≡ old → IsHeadFault input ended → IsRunEnd seen resume input left held told old new ended
  Unopened : IsUntold input left held told → IsUnopenedFor resume input (seen old).file (seen new).file ended → IsRunEnd seen resume input left held told old new ended
  Stopped : (done : HasRun resume input left held (seen old).file told) → AreLeftBy done.ran (seen new).file → IsStop done.ran ended → IsRunEnd seen resume input left held told old new ended
  CutOff : (done : HasRunInPart resume input left held (seen old).file told) → AreLeftBy done.ran (seen new).file → ended ≡ status.Write → IsRunEnd seen resume input left held told old new ended
  Failed : (done : HasRun resume input left held (seen old).file told) → AreLeftByFault done.ran (seen new).file → IsEventFault (seen old).file ended → IsRunEnd seen resume input left held told old new ended
  Wanted : (done : HasRunInPart resume input left held (seen old).file told) → AreLeftByFault done.ran (seen new).file → ended ≡ status.Memory → IsRunEnd seen resume input left held told old new ended
