-- What a list of commands comes to: each call answers by the state that the calls before it left, and a
-- call whose condition is not met is refused and changes nothing.
use Rattle.std.specs.Prelude.{ℕ, Bool, ◌≡◌, true, false, List, [], ◌∷◌, if◌then◌else◌}
use Rattle.co_base.specs.declared.op.Op.{Op}
use Rattle.co_base.specs.declared.op.Op.TheVariants as op
use Rattle.co_engine.specs.declared.command.Command.{Command}
use Rattle.co_engine.specs.declared.command.Command.TheVariants.{Read, Scan, Write, Cast, Install, Drop}
use Rattle.co_engine.specs.declared.command.Played.{Played}
use Rattle.co_engine.specs.declared.command.Played.TheVariants as played
use Rattle.co_state.specs.declared.engine_state.EngineState.{EngineState}
use Rattle.co_state.specs.Effects.{after_operation, after_cast, after_install, after_drop}
use Rattle.co_state.specs.EngineState.{is_undecided}
use Rattle.co_state.specs.Table.{holds}
use Rattle.co_engine.specs.Calls.{may_operate, seen_of, writing}

-- the condition of a call
abbrev pub is_allowed : EngineState → Command → Bool
is_allowed b (Read t key) = may_operate b t
is_allowed b (Scan t span) = may_operate b t
is_allowed b (Write t key value) = may_operate b t
is_allowed b (Cast t) = holds b.active t
is_allowed b (Install t) = holds b.voted t
is_allowed b (Drop t) = is_undecided b t

-- what an allowed call leaves; a vote that is cast by a command names coordinator 0 and counts 0
abbrev pub after_allowed : EngineState → Command → EngineState
after_allowed b (Read t key) = after_operation b t (op.Read key)
after_allowed b (Scan t span) = after_operation b t (op.Scan span)
after_allowed b (Write t key value) = after_operation b t (writing key value)
after_allowed b (Cast t) = after_cast b t 0 0
after_allowed b (Install t) = after_install b t
after_allowed b (Drop t) = after_drop b t

abbrev pub after_command : EngineState → Command → EngineState
after_command b command = if is_allowed b command then after_allowed b command else b

abbrev pub after_commands : EngineState → List Command → EngineState
after_commands b [] = b
after_commands b (c ∷ cs) = after_commands (after_command b c) cs

-- an operation comes to what the state says
abbrev pub IsSeen : EngineState → ℕ → Op → Played → Type 0
IsSeen b t o (played.Seen seen) = seen ≡ seen_of b t o
IsSeen b t o played.Done = ⊥
IsSeen b t o played.Refused = ⊥

abbrev pub IsAnswered : EngineState → Command → Played → Type 0
IsAnswered b (Read t key) p = IsSeen b t (op.Read key) p
IsAnswered b (Scan t span) p = IsSeen b t (op.Scan span) p
IsAnswered b (Write t key value) p = IsSeen b t (writing key value) p
IsAnswered b (Cast t) p = p ≡ played.Done
IsAnswered b (Install t) p = p ≡ played.Done
IsAnswered b (Drop t) p = p ≡ played.Done

abbrev pub IsPlayedIf : Bool → EngineState → Command → Played → Type 0
IsPlayedIf true b command p = IsAnswered b command p
IsPlayedIf false b command p = p ≡ played.Refused

abbrev pub IsPlayed : EngineState → Command → Played → Type 0
IsPlayed b command p = IsPlayedIf (is_allowed b command) b command p

-- one answer for each command
abbrev pub ArePlayed : EngineState → List Command → List Played → Type 0
ArePlayed b [] [] = Unit {0}
ArePlayed b [] (p ∷ ps) = ⊥
ArePlayed b (c ∷ cs) [] = ⊥
ArePlayed b (c ∷ cs) (p ∷ ps) = IsPlayed b c p × ArePlayed (after_command b c) cs ps
