-- What a schedule leaves that was done to its end.
use Rattle.std.specs.Prelude.{ℕ, suc, Bool, false, ◌≡◌, ◌≤◌, List, [], length, Option, None, Some}
use Rattle.co_base.specs.declared.head.Head.{Head}
use Rattle.co_base.specs.declared.head.Kind.{Kind}
use Rattle.co_outside.specs.Home.{File, HomeView}
use Rattle.co_outside.specs.declared.spot.Spot.{Spot}
use Rattle.co_plain.specs.Federation.{Federation}
use Rattle.co_settle.specs.Reached.{IsReached}
use Rattle.co_state.specs.declared.engine_state.EngineState.{EngineState}
use Rattle.co_world.specs.Standing.{RepresentsWorld, AreHeld}
use Rattle.co_top.specs.Front.{IsHeaded}
use Rattle.co_top.specs.Ran.{end_of, HasRun}
use Rattle.co_top.specs.declared.replay.Ended.{Ended}

-- Where the source and the sink tell what they have: a run to the end of the input, which left this state, and the number of its last line.
pub record IsEndOfRun (resume : Bool) (input : List ℕ) (left : Option (List ℕ)) (held : List ℕ) (old : Spot → Option File) (told : Option (List ℕ)) (s : Federation) (number : ℕ) : Type 0 where
  pub done : HasRun resume input left held old told
  pub whole : done.ran.rest ≡ []
  pub leaves : end_of done.ran ≡ s
  pub last : number ≡ suc (length done.ran.events)

-- the state has the nodes of the input's head
pub record HasNodesOf (input : List ℕ) (s : Federation) : Type 0 where
  pub head : Head
  pub text : List ℕ
  pub headed : IsHeaded input head text
  pub members : s.kinds ≡ head.kinds
  pub coordinators : s.coordinators ≡ head.coords

-- The federation stands for a state, and the directory holds its logs; over fresh logs it is a state of a run over sound ones.
pub record HasPlayedOut {E : Type 0} (takes : Kind → Type 0) (stands_for : E → EngineState → Type 0) (resume : Bool) (text left held told : Option (List ℕ)) (old : Spot → Option File) (home : HomeView) (ended : Ended E) : Type 0 where
  pub state : Federation
  pub stands : RepresentsWorld takes stands_for ended.world state
  pub kept : AreHeld home ended.world
  pub members : ended.members ≡ length state.kinds
  pub few : ended.number ≤ 262144
  pub reached : resume ≡ false → IsReached state
  pub told_still : (spot : Spot) → home.file spot ≡ None → old spot ≡ None
  pub nodes : (input : List ℕ) → text ≡ Some input → HasNodesOf input state
  pub run : (input before : List ℕ) → text ≡ Some input → held ≡ Some before → IsEndOfRun resume input left before old told state ended.number
