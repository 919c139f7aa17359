-- For which plain federations a federation on its logs stands.
use Rattle.std.specs.Prelude.{ℕ, ◌≡◌, length, Some}
use Rattle.co_base.specs.declared.head.Kind.{Kind}
use Rattle.co_outside.specs.Home.{HomeView}
use Rattle.co_plain.specs.Numbers.{has_number}
use Rattle.co_plain.specs.Federation.{Federation}
use Rattle.co_plain.specs.declared.session.Session.{Session}
use Rattle.co_schedule.specs.View.{IsNode}
use Rattle.co_state.specs.declared.engine_state.EngineState.{EngineState}
use Rattle.co_state.specs.Table.{look, holds}
use Rattle.co_cluster.specs.Conditions.{IsReady}
use Rattle.co_cluster.specs.Readings.{AllUp}
use Rattle.co_cluster.specs.Served as served
use Rattle.co_cluster.specs.Standing as nodes
use Rattle.co_world.specs.Counting.{AreCounted}
use Rattle.co_world.specs.declared.world.World.{World}

-- Its nodes stand for the plain ones, and it has the same sessions and messages, and the same numbers that may not be begun, each counted once. The decisions, and
-- the records that the logs had when they were opened, are not kept.
pub record RepresentsWorld {E : Type 0} (takes : Kind → Type 0) (stands_for : E → EngineState → Type 0) (w : World E) (s : Federation) : Type 0 where
  pub cluster : nodes.RepresentsCluster takes stands_for w.cluster s
  pub sessions : w.sessions.sessions ≡ s.sessions
  pub used : (t : ℕ) → has_number w.sessions.used t ≡ holds s.used t
  pub counted : AreCounted w.sessions s.sessions s.used
  pub wire : w.wire ≡ s.sent
  -- each session is of a transaction that a node of the federation decides
  pub homes : (t : ℕ) (session : Session) → look s.sessions t ≡ Some session → IsNode (length s.kinds) s.coordinators session.by

-- the directory holds the log of every node
abbrev pub AreHeld : {E : Type 0} → HomeView → World E → Type 0
AreHeld home w = nodes.AreHeld home w.cluster

-- so it does still, no file that was clean is not, and no fault was met
abbrev pub AreServed : {E : Type 0} → World E → HomeView → HomeView → Type 0
AreServed w old new = served.AreServed w.cluster old new

-- it stands for a plain federation in which an event can be done, and no node is down
abbrev pub StandsUp : {E : Type 0} → (Kind → Type 0) → (E → EngineState → Type 0) → World E → Type 0
StandsUp takes stands_for w = (s : Federation) × RepresentsWorld takes stands_for w s × IsReady s × AllUp s
