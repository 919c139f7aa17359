-- What a player knows of the transactions of an engine: which are active, which voted, which are installed.
use Rattle.std.specs.Prelude.{ℕ, Bool, ◌≡◌, ◌&&◌, not}
use Rattle.co_engine.specs.declared.known.Known.{Known}
use Rattle.co_engine.specs.declared.command.Command.{Command}
use Rattle.co_engine.specs.declared.command.Played.{Played}
use Rattle.co_state.specs.declared.engine_state.EngineState.{EngineState}
use Rattle.co_state.specs.Table.{holds}
use Rattle.co_engine.specs.Calls.{is_installed}
use Rattle.co_engine.specs.Play.{IsPlayed, after_command}

pub record IsKnown (known : Known) (b : EngineState) : Type 0 where
  pub active : (t : ℕ) → holds known.active t ≡ holds b.active t
  pub voted : (t : ℕ) → holds known.voted t ≡ holds b.voted t
  pub installed : (t : ℕ) → holds known.installed t ≡ is_installed b.installed t

abbrev pub known_operates : Known → ℕ → Bool
known_operates known t = not (holds known.voted t) && not (holds known.installed t)

-- a command was answered as the state says, and the engine and the player are at the state that it leaves
pub record IsServed {E : Type 0} (stands_for : E → EngineState → Type 0) (b : EngineState) (command : Command) (engine : E) (known : Known) (played : Played) : Type 0 where
  pub answered : IsPlayed b command played
  pub engine_at : stands_for engine (after_command b command)
  pub known_at : IsKnown known (after_command b command)
