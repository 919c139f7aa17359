-- What the calls of an engine ask for and what they answer, by the state that the engine stands for.
use Rattle.std.specs.Prelude.{ℕ, Bool, false, ◌||◌, ◌&&◌, not, ◌==◌, List, [], ◌∷◌, Option, None, Some}
use Rattle.co_base.specs.declared.op.Op.{Op}
use Rattle.co_base.specs.declared.op.Op.TheVariants.{Write, Erase}
use Rattle.co_base.specs.declared.reply.Reply.{Reply}
use Rattle.co_engine.specs.declared.answers.Seen.{Seen}
use Rattle.co_engine.specs.declared.answers.Seen.TheVariants.{Answer, Blocked}
pub use Rattle.co_pairs.specs.Votes.{vote_in, votes_of}
use Rattle.co_state.specs.declared.engine_state.EngineState.{EngineState}
use Rattle.co_state.specs.declared.engine_state.Install.{Install}
use Rattle.co_state.specs.LockRule.{lock_blocker}
use Rattle.co_state.specs.ReadRule.{operation_reply}
use Rattle.co_state.specs.Table.{holds}

abbrev pub is_installed : List Install → ℕ → Bool
is_installed [] t = false
is_installed (i ∷ is) t = (i.txn == t) || is_installed is t

-- operations come from transactions that have neither voted nor been installed
abbrev pub may_operate : EngineState → ℕ → Bool
may_operate b t = not (holds b.voted t) && not (is_installed b.installed t)

-- an operation is blocked where a transaction is in the way, and else it is answered
abbrev pub seen_by : Option ℕ → Reply → Seen
seen_by (Some u) reply = Blocked u
seen_by None reply = Answer reply

abbrev pub seen_of : EngineState → ℕ → Op → Seen
seen_of b t op = seen_by (lock_blocker b t op) (operation_reply b t op)

-- a write without a value takes the record away
abbrev pub writing : List ℕ → Option (List ℕ) → Op
writing key None = Erase key
writing key (Some value) = Write key value
