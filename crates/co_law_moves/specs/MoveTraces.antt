-- What the items of a run tell of its moves.
use Rattle.std.specs.Prelude.{ℕ, ◌≡◌, List, [], ◌∷◌, ◌++◌, None}
use Rattle.co_base.specs.declared.node.Node.TheVariants as node
use Rattle.co_message.specs.declared.item.ItemKind.{ItemKind}
use Rattle.co_message.specs.declared.message.Message.{Message}
use Rattle.co_message.specs.declared.item.ItemKind.TheVariants as item
use Rattle.co_state.specs.ReadRule.{operation_reply}
use Rattle.co_plain.specs.declared.happening.Happening.{Happening}
use Rattle.co_plain.specs.declared.happening.Happening.TheVariants as happening
use Rattle.co_plain.specs.Federation.{Federation}
use Rattle.co_plain.specs.Step.{step}
use Rattle.co_plain.specs.CommitmentOrder.{Trace, Began, Operated, Committed, trace_of}
use Rattle.co_plain.specs.Moves.{Move, Operate, Install, CommitLocally, Begin, BeginLocal, Decide, ArmMember, ArmCoord, Send, effect, all_effects, GuardsHold}
use Rattle.co_law_moves.specs.EventMoves.{moves_of}

-- what a move tells, made at this state
abbrev pub move_trace : Federation → Move → List Trace
move_trace s (Operate t m o) = Operated t m o (operation_reply (s.member m).engine t o) ∷ []
move_trace s (Install t m) = Committed (node.Member m) t ∷ []
move_trace s (CommitLocally t m) = Committed (node.Member m) t ∷ []
move_trace s (Begin t c) = Began t (node.Coord c) ∷ []
move_trace s (BeginLocal t m) = Began t (node.Member m) ∷ []
move_trace s (Decide t c) = Committed (node.Coord c) t ∷ []
move_trace s _ = []

-- and moves one after another
abbrev pub moves_trace : List Move → Federation → List Trace
moves_trace [] s = []
moves_trace (move ∷ moves) s = move_trace s move ++ moves_trace moves (effect s move)

-- the messages that a move sends, and those of moves one after another
abbrev pub sent_by_move : Move → List Message
sent_by_move (Send note) = note ∷ []
sent_by_move _ = []

abbrev pub sent_by : List Move → List Message
sent_by [] = []
sent_by (move ∷ moves) = sent_by_move move ++ sent_by moves

-- the sent messages among items
abbrev pub messages_in : List ItemKind → List Message
messages_in [] = []
messages_in (item.Sent note ∷ items) = note ∷ messages_in items
messages_in (item.Head head ∷ items) = messages_in items
messages_in (item.Event e ∷ items) = messages_in items
messages_in (item.Log mark ∷ items) = messages_in items
messages_in (item.Answered a ∷ items) = messages_in items

-- The items that happenings tell, one behind another: an event of a schedule line tells itself, and then what came of it.
abbrev pub told_with : Happening → List ItemKind → List ItemKind
told_with (happening.Line e) items = item.Event e ∷ items
told_with _ items = items

abbrev pub items_along : List Happening → Federation → List ItemKind
items_along [] s = []
items_along (h ∷ hs) s = told_with h (step s h).items ++ items_along hs (step s h).state

-- An event is its list of moves: they leave what it leaves, each guard holds where its move is made, and the items
-- tell of these moves, and of the messages that they send.
pub record IsItsMoves (s : Federation) (h : Happening) : Type 0 where
  pub leaves : all_effects (moves_of s h) s ≡ (step s h).state
  pub guarded : GuardsHold (moves_of s h) s
  pub tells : trace_of (told_with h (step s h).items) ≡ moves_trace (moves_of s h) s
  pub sends : messages_in (told_with h (step s h).items) ≡ sent_by (moves_of s h)

-- To take all armed stops away is that move at each node, and nothing else.
pub record IsDisarmedEverywhere (s z : Federation) : Type 0 where
  pub members : (m : ℕ) → z.member m ≡ (effect s (ArmMember m None)).member m
  pub coordinators : (c : ℕ) → z.coord c ≡ (effect s (ArmCoord c None)).coord c
  pub rest : record s { member = z.member; coord = z.coord } ≡ z
