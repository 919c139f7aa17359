-- What is left to settle, as a number that each exchange and each timer lowers.
use Rattle.std.specs.Prelude.{ℕ, zero, suc, Bool, true, false, ◌||◌, ◌+◌, ◌*◌, ◌≡◌, ◌≤◌, List, [], ◌∷◌, length, if◌then◌else◌}
use Rattle.std.specs.FinMap.{keys}
use Rattle.co_state.specs.Table.{look, holds}
use Rattle.co_plain.specs.declared.member_state.MemberState.{MemberState}
use Rattle.co_message.specs.declared.event.Event.{Event}
use Rattle.co_plain.specs.Federation.{Federation}
use Rattle.co_plain.specs.Step.{step_line}
use Rattle.co_plain.specs.Numbers.{has_number}
use Rattle.co_plain.specs.Quiet.{lacks_yes, lacks_ack, sum_to, open_between, open_numbers}
use Rattle.co_plain.specs.Settling.{is_idle}
use Rattle.co_law_settle.specs.SettlingTurns.{Turn, Restarts, Exchanges, Fires, turn_events, after_turn}

-- whether one of the numbers from 1 to this passes
abbrev pub any_to : ℕ → (ℕ → Bool) → Bool
any_to zero test = false
any_to (suc n) test = any_to n test || test (suc n)

-- some coordinator lacks the yes, or the acknowledgement, of the member
abbrev pub yes_lacking : Federation → ℕ → ℕ → Bool
yes_lacking s t m = any_to s.coordinators (λ c. lacks_yes (look (s.coord c).table t) m)

abbrev pub ack_lacking : Federation → ℕ → ℕ → Bool
ack_lacking s t m = any_to s.coordinators (λ c. lacks_ack (look (s.coord c).table t) m)

-- What is left between a transaction and a member, by whether it is active, asked and voted there, and whether its yes or
-- its acknowledgement is lacking: an active one may still be asked, voted and recorded.
abbrev pub weight : Bool → Bool → Bool → Bool → Bool → ℕ
weight true false voted lacks_vote lacks_answer = 3
weight true true voted lacks_vote lacks_answer = 2
weight false asked true true lacks_answer = 2
weight false asked true false lacks_answer = 1
weight false asked false true lacks_answer = 1
weight false asked false false true = 1
weight false asked false false false = 0

abbrev pub weight_at : MemberState → ℕ → Bool → Bool → ℕ
weight_at x t lacks_vote lacks_answer = weight (holds x.engine.active t) (holds x.asked t) (holds x.engine.voted t) lacks_vote lacks_answer

abbrev pub left_between : Federation → ℕ → ℕ → ℕ
left_between s t m = weight_at (s.member m) t (yes_lacking s t m) (ack_lacking s t m)

-- an idle transaction has its timer left
abbrev pub left_idle : Federation → ℕ → ℕ
left_idle s t = if any_to s.coordinators (λ c. is_idle (look (s.coord c).table t)) then 1 else 0

abbrev pub sum_over : List ℕ → (ℕ → ℕ) → ℕ
sum_over [] counts = 0
sum_over (t ∷ ts) counts = counts t + sum_over ts counts

-- What is left of these transactions at each member, and of these at their coordinators.
abbrev pub left_of : (ℕ → List ℕ) → List ℕ → Federation → ℕ
left_of pairs numbers s =
    sum_to (length s.kinds) (λ m. sum_over (pairs m) (λ t. left_between s t m)) + sum_over numbers (left_idle s)

-- the nodes that are down
abbrev pub one_down : Bool → ℕ
one_down true = 0
one_down false = 1

abbrev pub down_count : Federation → ℕ
down_count s = sum_to (length s.kinds) (λ m. one_down (s.member m).up) + sum_to s.coordinators (λ c. one_down (s.coord c).up)

-- the events that are left at most: one for each node that is down, three for each unit of what is left
abbrev pub events_left : (ℕ → List ℕ) → List ℕ → Federation → ℕ
events_left pairs numbers s = down_count s + 3 * left_of pairs numbers s

-- counted over what is open in a state
abbrev pub pairs_in : Federation → ℕ → List ℕ
pairs_in s m = keys (open_between s m)

abbrev pub numbers_in_state : Federation → List ℕ
numbers_in_state s = keys (open_numbers s)

-- where something is left, it is among these
pub record AreCounted (pairs : ℕ → List ℕ) (numbers : List ℕ) (s : Federation) : Type 0 where
  pub between : (t m : ℕ) → 1 ≤ left_between s t m → has_number (pairs m) t ≡ true
  pub idle : (t : ℕ) → 1 ≤ left_idle s t → has_number numbers t ≡ true

-- a restart lowers nothing of what is left; an exchange and a timer lower it
abbrev pub lowered_by : Turn → ℕ
lowered_by (Restarts at) = 0
lowered_by (Exchanges e) = 1
lowered_by (Fires t at) = 1

-- none of these events raises anything
abbrev pub RaisesNothing : Federation → Event → Type 0
RaisesNothing s e =
    ((t m : ℕ) → left_between (step_line s e).state t m ≤ left_between s t m) × ((t : ℕ) → left_idle (step_line s e).state t ≤ left_idle s t)

abbrev pub RaiseNothing : List Event → Federation → Type 0
RaiseNothing [] s = Unit {0}
RaiseNothing (e ∷ es) s = RaisesNothing s e × RaiseNothing es (step_line s e).state

-- No event of a turn raises anything; the turn lowers what is left, and takes no more events than it lowers those that are
-- left.
pub record TurnLowers (s : Federation) (turn : Turn) : Type 0 where
  pub each : RaiseNothing (turn_events s turn) s
  pub lowers : (pairs : ℕ → List ℕ) (numbers : List ℕ) → AreCounted pairs numbers s →
      lowered_by turn + left_of pairs numbers (after_turn s turn) ≤ left_of pairs numbers s
  pub events : (pairs : ℕ → List ℕ) (numbers : List ℕ) → AreCounted pairs numbers s →
      length (turn_events s turn) + events_left pairs numbers (after_turn s turn) ≤ events_left pairs numbers s
