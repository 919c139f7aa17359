-- The command `resolve`: the members that are in doubt behind the last line ask each other; what is written of that, what the files have then, and what is promised of it.
use Rattle.std.specs.Prelude.{ℕ, suc, true, false, ◌≡◌, ◌≢◌, ◌<◌, ◌⊎◌, ◌↔◌, List, [], ◌∷◌, ◌++◌, length, take, codes, decimal, AllPairs, Contains, Option, None, Some}
use Rattle.std.specs.List.{flat_map}
use Rattle.co_cluster.specs.Left.{HasOverlong}
use Rattle.co_cluster.specs.Listed.{IsDoubt, IsDoubtBefore}
use Rattle.co_cluster.specs.declared.doubting.Doubt.{Doubt}
use Rattle.co_coop.specs.Remains.{CannotTell}
use Rattle.co_coop.specs.Resolution.{resolution}
use Rattle.co_coop.specs.Turn.{doubt_turn}
use Rattle.co_law_coop.specs.Consulting.{transcript_along}
use Rattle.co_law_moves.specs.MoveTraces.{items_along}
use Rattle.co_outside.specs.Home.{File, HomeView, IsClean}
use Rattle.co_outside.specs.declared.spot.Spot.{Spot}
use Rattle.co_plain.specs.CommitmentOrder.{IsCommitmentOrdered}
use Rattle.co_plain.specs.Federation.{Federation}
use Rattle.co_plain.specs.Premises.{AreTrueVerdicts}
use Rattle.co_plain.specs.Promises.{SerialReads, Acknowledged, MembersAgree}
use Rattle.co_plain.specs.Quiet.{IsMember}
use Rattle.co_plain.specs.Runs.{run, lines}
use Rattle.co_plain.specs.Step.{step, disarmed}
use Rattle.co_plain.specs.declared.happening.Happening.{Happening}
use Rattle.co_plain.specs.declared.happening.Happening.TheVariants as happening
use Rattle.co_replay.specs.Transcript.{items_text}
use Rattle.co_top.specs.Complete.{IsUnhindered, IsRefusedExactly}
use Rattle.co_top.specs.Front.{IsStreamed}
use Rattle.co_top.specs.Ran.{Ran, start_of, end_of, text_of, AreLeftAfter, IsRunEnd}
use Rattle.co_top.specs.Running.{AreOthersKept, IsBetween}
use Rattle.co_top.specs.Views.{SourceView, SinkView, TellsRead, TellsWrite, TellsDevice}
use Rattle.co_top.specs.declared.status.LimitKind.TheVariants as limit
use Rattle.co_top.specs.declared.status.Status.{Status}
use Rattle.co_top.specs.declared.status.Status.TheVariants as status

-- ---- The text

-- a line for each doubt: its transaction and the member
abbrev pub doubt_line : Doubt → List ℕ
doubt_line d = codes "doubt " ++ decimal d.txn ++ codes " m" ++ decimal d.member ++ codes "\n"

abbrev pub doubts_text : List Doubt → List ℕ
doubts_text doubts = flat_map doubt_line doubts

-- what is told where these doubts take their turns behind the event of this number
abbrev pub turns_text : ℕ → Federation → List Doubt → List ℕ
turns_text number s doubts = items_text (transcript_along (suc number) (resolution s doubts) s)

-- ---- The doubts

-- these are the members in doubt, in their order
pub record AreListed (s : Federation) (doubts : List Doubt) : Type 0 where
  pub ascending : AllPairs IsDoubtBefore doubts
  pub listed : (d : Doubt) → Contains doubts d ↔ IsDoubt s d

-- every line of the input was done over fresh logs, and these members were in doubt then
pub record HasDoubts (input : List ℕ) (old : Spot → Option File) : Type 0 where
  pub ran : Ran false input old
  pub whole : ran.rest ≡ []
  pub doubts : List Doubt
  pub are : AreListed (end_of ran) doubts

-- where these doubts have taken their turns: what happened, what that left, and what was told
abbrev pub happened_by : {input : List ℕ} {old : Spot → Option File} → HasDoubts input old → List Doubt → List Happening
happened_by h turns = lines h.ran.events ++ resolution (end_of h.ran) turns

abbrev pub left_by_turns : {input : List ℕ} {old : Spot → Option File} → HasDoubts input old → List Doubt → Federation
left_by_turns h turns = run (resolution (end_of h.ran) turns) (end_of h.ran)

abbrev pub text_by : {input : List ℕ} {old : Spot → Option File} → HasDoubts input old → List Doubt → List ℕ
text_by h turns = text_of h.ran ++ turns_text (suc (length h.ran.events)) (end_of h.ran) turns

-- ---- What is promised

-- Of the lines and of what was handed behind them: committed transactions read what they read when run whole, one by one, in the order of their decisions; what was acknowledged is decided, and
-- once; no two members decide one differently; every verdict that was handed is true where it was; and what was told is commitment ordered (Raz, VLDB 1992). And what the files have then.
pub record IsKeptAfter {input : List ℕ} {old : Spot → Option File} (r : Ran false input old) (happened : List Happening) (file : Spot → Option File) : Type 0 where
  pub serial_reads : SerialReads (start_of r) happened
  pub acknowledged : Acknowledged (start_of r) happened
  pub agreement : MembersAgree (start_of r) happened
  pub true_verdicts : AreTrueVerdicts happened (start_of r)
  pub ordered : IsCommitmentOrdered r.head.kinds (items_along happened (start_of r))
  pub files : AreLeftAfter r happened file

-- The doubt of a member that is up at the end remains exactly where, at its turn, each other member was down, or had the transaction voted, or had it active or nowhere, where the client was told of no
-- operations of it there or its coordinator was up.
abbrev pub RemainExactly : Federation → List Doubt → Type 0
RemainExactly s doubts = (before after : List Doubt) (d : Doubt) → before ++ d ∷ after ≡ doubts → ((run (resolution s doubts) s).member d.member).up ≡ true →
    IsDoubt (run (resolution s doubts) s) d ↔ ((other : ℕ) → IsMember s other → other ≢ d.member → CannotTell (run (resolution s before) s) d other)

-- ---- Faults

-- This was done of these happenings: a front of them; or the next one stands behind it as if no stop were armed, where a fault stands in the place of the stop.
abbrev pub AreDoneOf : List Happening → List Happening → Type 0
AreDoneOf [] done = done ≡ []
AreDoneOf (h ∷ hs) done = (done ≡ []) ⊎ ((done ≡ happening.Disarm ∷ h ∷ []) ⊎ ((more : List Happening) × (done ≡ h ∷ more) × AreDoneOf hs more))

-- one of these happenings would leave this log too long, were no stop armed
abbrev pub OutgrowsAlong : List Happening → Federation → Spot → Type 0
OutgrowsAlong [] s spot = ⊥
OutgrowsAlong (h ∷ hs) s spot = HasOverlong (step (disarmed s) h).state spot ⊎ OutgrowsAlong hs (step s h).state spot

-- the doubts that took their turns, and the next one
pub record IsInTurn {input : List ℕ} {old : Spot → Option File} (h : HasDoubts input old) : Type 0 where
  pub turns : List Doubt
  pub next : Doubt
  pub behind : List Doubt
  pub parts : turns ++ next ∷ behind ≡ h.doubts

-- what is done in the turn of the next one
abbrev pub next_turn : {input : List ℕ} {old : Spot → Option File} {h : HasDoubts input old} → IsInTurn h → List Happening
next_turn {h = h} t = doubt_turn (left_by_turns h t.turns) t.next

abbrev pub IsTurnOutgrown : {input : List ℕ} {old : Spot → Option File} → HasDoubts input old → Spot → Type 0
IsTurnOutgrown h spot = (t : IsInTurn h) × OutgrowsAlong (next_turn t) (left_by_turns h t.turns) spot

-- why a turn was not done: the directory failed, or a file that was read again and that it does not tell differs from what is kept of it, or one would be too long, or there was no memory
abbrev pub IsTurnFault : {input : List ℕ} {old : Spot → Option File} → HasDoubts input old → Status → Type 0
IsTurnFault h (status.Device spot) = Unit {0}
IsTurnFault {old = old} h (status.Differs spot at kept read) = (old spot ≡ None) × (spot.part < 2)
IsTurnFault h (status.Limit (limit.Log spot)) = IsTurnOutgrown h spot
IsTurnFault h status.Memory = Unit {0}
IsTurnFault h _ = ⊥

-- ---- How it ends

-- the lines that are written behind the turns: those of the doubts that remain, where all took theirs; else none
abbrev pub AreLinesOf : {input : List ℕ} {old : Spot → Option File} → HasDoubts input old → List Doubt → List Doubt → Type 0
AreLinesOf h turns remaining = (remaining ≡ []) ⊎ ((turns ≡ h.doubts) × AreListed (left_by_turns h turns) remaining)

-- all doubts took their turns, and those that remain were told
pub record HasResolved (input held : List ℕ) (old new : Spot → Option File) (told : Option (List ℕ)) : Type 0 where
  pub doubtful : HasDoubts input old
  pub remaining : List Doubt
  pub are : AreListed (left_by_turns doubtful doubtful.doubts) remaining
  pub exactly : RemainExactly (end_of doubtful.ran) doubtful.doubts
  pub kept : IsKeptAfter doubtful.ran (happened_by doubtful doubtful.doubts) new
  pub transcript : told ≡ Some (held ++ (text_by doubtful doubtful.doubts ++ doubts_text remaining))

-- some of the doubts took their turns, and a front of the text was put
pub record HasResolvedInPart (input held : List ℕ) (old new : Spot → Option File) (told : Option (List ℕ)) : Type 0 where
  pub doubtful : HasDoubts input old
  pub turns : List Doubt
  pub behind : List Doubt
  pub parts : turns ++ behind ≡ doubtful.doubts
  pub remaining : List Doubt
  pub are : AreLinesOf doubtful turns remaining
  pub kept : IsKeptAfter doubtful.ran (happened_by doubtful turns) new
  pub count : ℕ
  pub transcript : told ≡ Some (held ++ take count (text_by doubtful turns ++ doubts_text remaining))

-- a fault came in the turn of one: what was told before it
pub record HasBrokenOff (input held : List ℕ) (old new : Spot → Option File) (told : Option (List ℕ)) : Type 0 where
  pub doubtful : HasDoubts input old
  pub turn : IsInTurn doubtful
  pub done : List Happening
  pub are : AreDoneOf (next_turn turn) done
  pub kept : IsKeptAfter doubtful.ran (happened_by doubtful turn.turns ++ done) new
  pub transcript : told ≡ Some (held ++ text_by doubtful turn.turns)

-- How the command ends, over an input, a sink and files that are told, and what the source has left then. Where the schedule was not done to its end it ends as a run does: nobody is consulted, and no doubt is
-- written.
pub data IsResolveEnd {H : Type 0} (seen : H → HomeView) (input : List ℕ) (left : Option (List ℕ)) (held : List ℕ) (told : Option (List ℕ)) (old new : H) (ended : Status) : Type 0 where
  Unfinished : IsRunEnd seen false input left held told old new ended → (ended ≡ status.Done → ⊥) → IsResolveEnd seen input left held told old new ended
  Resolved : (done : HasResolved input held (seen old).file (seen new).file told) → IsStreamed done.doubtful.ran.rest left → ended ≡ status.Done → IsResolveEnd seen input left held told old new ended
  CutOff : (done : HasResolvedInPart input held (seen old).file (seen new).file told) → IsStreamed done.doubtful.ran.rest left → (ended ≡ status.Write) ⊎ (ended ≡ status.Memory) → IsResolveEnd seen input left held told old new ended
  BrokenOff : (done : HasBrokenOff input held (seen old).file (seen new).file told) → IsStreamed done.doubtful.ran.rest left → IsTurnFault done.doubtful ended → IsResolveEnd seen input left held told old new ended

-- a run over fresh logs is unhindered, and no turn behind it would leave a log too long
pub record IsUnhinderedBehind (input : List ℕ) (old : Spot → Option File) (source_old source_new out_old out_new home_old home_new : ℕ) : Type 0 where
  pub before : IsUnhindered false input old source_old source_new out_old out_new home_old home_new
  pub room : (h : HasDoubts input old) (spot : Spot) → IsTurnOutgrown h spot → ⊥

-- The command `resolve`: how it ends, over what is seen of the source, the sink and the directory; no file of another node is changed; where the logs are refused, that is told; and where nothing hinders it, it
-- is done, or there is no memory. A file that was clean is clean again, but after a fault within an event.
pub record ResolvesAs {H : Type 0} (seen : H → HomeView) (directory : List ℕ) (source_old source_new : SourceView) (out_old out_new : SinkView) (old new : H) (ended : Status) : Type 0 where
  pub end : (input held : List ℕ) → source_old.left ≡ Some input → out_old.told ≡ Some held → IsResolveEnd seen input source_new.left held out_new.told old new ended
  pub others : (input : List ℕ) → source_old.left ≡ Some input → AreOthersKept input (seen old).file (seen new).file
  pub refused : (input held : List ℕ) → source_old.left ≡ Some input → out_old.told ≡ Some held → IsRefusedExactly false input (seen old).file ended
  pub complete : (input held : List ℕ) → source_old.left ≡ Some input → out_old.told ≡ Some held →
      IsUnhinderedBehind input (seen old).file source_old.faults source_new.faults out_old.faults out_new.faults (seen old).faults (seen new).faults → (ended ≡ status.Done) ⊎ (ended ≡ status.Memory)
  pub clean : IsBetween ended → (s : Spot) → IsClean (seen old) s → IsClean (seen new) s
  pub entered : ended ≡ status.Done → (seen new).entered ≡ Some directory
  pub read : TellsRead source_old source_new ended
  pub write : TellsWrite out_old out_new ended
  pub device : TellsDevice (seen old) (seen new) ended
