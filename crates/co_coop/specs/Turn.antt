-- The turn of one doubt: its member asks one other member after the other, until one tells a verdict.
use Rattle.std.specs.Prelude.{ℕ, zero, suc, Bool, true, false, ◌==◌, ◌≡◌, List, [], ◌∷◌, ◌++◌, length, if◌then◌else◌, Option, Result, Ok, Err}
use Rattle.co_base.specs.declared.head.Kind.{Kind}
use Rattle.co_durable.specs.declared.fault.WorldFault.{WorldFault}
use Rattle.co_message.specs.declared.item.Item.{Item}
use Rattle.co_outside.specs.Home.{File}
use Rattle.co_outside.specs.declared.spot.Spot.{Spot}
use Rattle.co_plain.specs.Decisions.{BelongsTo}
use Rattle.co_plain.specs.Federation.{Federation}
use Rattle.co_plain.specs.Quiet.{IsMember}
use Rattle.co_plain.specs.Runs.{run}
use Rattle.co_plain.specs.declared.happening.Happening.{Happening}
use Rattle.co_state.specs.declared.engine_state.EngineState.{EngineState}
use Rattle.co_cluster.specs.declared.doubting.Doubt.{Doubt}
use Rattle.co_world.specs.Standing.{RepresentsWorld}
use Rattle.co_world.specs.declared.world.World.{World}
use Rattle.co_law_coop.specs.declared.told.Told.{Told}
use Rattle.co_law_coop.specs.declared.told.Told.TheVariants as told
use Rattle.co_law_coop.specs.Consulting.{transcript_along}
use Rattle.co_coop.specs.Consulted.{told_of_doubt, consultation_of, IsCutAlong}

-- the member is one of the head, and the doubt names the coordinator of its transaction
pub record MayAsk (s : Federation) (doubt : Doubt) : Type 0 where
  pub asker : IsMember s doubt.member
  pub home : BelongsTo s doubt.txn doubt.coord

abbrev pub is_verdict : Told → Bool
is_verdict told.Settled = false
is_verdict told.Down = false
is_verdict told.Commit = true
is_verdict told.InDoubt = false
is_verdict told.Stranger = false
is_verdict told.Reachable = false
is_verdict told.Abort = true

-- the first so many members but one, ascending
abbrev pub others_to : ℕ → ℕ → List ℕ
others_to zero m = []
others_to (suc n) m = if suc n == m then others_to n m else others_to n m ++ suc n ∷ []

-- what is done where these are asked in turn
abbrev pub asked_in_turn : Federation → Doubt → List ℕ → List Happening
asked_in_turn s doubt [] = []
asked_in_turn s doubt (other ∷ others) = if is_verdict (told_of_doubt s doubt other) then consultation_of s doubt other else asked_in_turn s doubt others

-- what is done in the turn of a doubt
abbrev pub doubt_turn : Federation → Doubt → List Happening
doubt_turn s doubt = asked_in_turn s doubt (others_to (length s.kinds) doubt.member)

-- how the turn of a doubt ends, by its answer
abbrev pub AsksAs : {E : Type 0} → (Kind → Type 0) → (E → EngineState → Type 0) → Federation → ℕ → Doubt → World E → (Spot → Option File) → Result (List Item) WorldFault → Type 0
AsksAs takes stands_for s number doubt w file (Ok items) =
    (items ≡ transcript_along (suc number) (doubt_turn s doubt) s) × RepresentsWorld takes stands_for w (run (doubt_turn s doubt) s)
AsksAs takes stands_for s number doubt w file (Err fault) = IsCutAlong (doubt_turn s doubt) s file fault
