-- Following an event through the rest of a round: until it comes, the state keeps what it needs, or less is left.
use Rattle.std.proofs.Common.{◌≡◌, inl, inr, ℕ, suc, true, ◌≤◌, List, [], ◌∷◌, sym, subst, arith}
use Rattle.co_message.specs.declared.event.Event.{Event}
use Rattle.co_message.specs.declared.event.Event.TheVariants as event
use Rattle.co_message.specs.declared.message.Message.{Message}
use Rattle.co_plain.specs.Federation.{Federation}
use Rattle.co_plain.specs.Quiet.{IsMember}
use Rattle.co_plain.specs.Runs.{run, lines}
use Rattle.co_plain.specs.Step.{step_line}
use Rattle.co_plain.specs.Wire.{was_sent}
use Rattle.co_law_settle.specs.SettlingTurns.{AllUp}
use Rattle.co_law_settle.specs.SettlingMeasure.{left_of, left_between, AreCounted}
use Rattle.co_law_settle.proofs.Counting.{left_falls, left_lowers}
use Rattle.co_law_settle.proofs.Falling.{Calm}
use Rattle.co_law_settle.proofs.Turns.{counted_on}
use Rattle.co_law_rounds.specs.CanBeSettled.{MakesItself, MakeThemselves}
use Rattle.co_law_rounds.specs.FairRounds.{Stands, AllDelivered, DeliverTheirOwn}
use Rattle.co_law_rounds.proofs.Disturbances.{onward_all}
use Rattle.co_law_rounds.proofs.NodeEvents.{event_moved}
use Rattle.co_law_rounds.proofs.Telling.{Tells}

-- a calm state with all nodes up, over which what is left is counted
pub record Good (pairs : ℕ → List ℕ) (numbers : List ℕ) (w : Federation) : Type 0 where
  pub calm : Calm w
  pub up : AllUp w
  pub counted : AreCounted pairs numbers w

module _ (pairs : ℕ → List ℕ) (numbers : List ℕ) where
  -- these events lower what is left
  abbrev pub Fell : List Event → Federation → Type 0
  Fell es w = suc (left_of pairs numbers (run (lines es) w)) ≤ left_of pairs numbers w

  -- and this one
  abbrev pub Lowered : Federation → Event → Type 0
  Lowered w e = suc (left_of pairs numbers (step_line w e).state) ≤ left_of pairs numbers w

  pub good_on : (w : Federation) (e : Event) → Good pairs numbers w → MakesItself e → Good pairs numbers (step_line w e).state
  good_on w e g i =
      let o = (event_moved w g.calm e i).onward in
      record { calm = o.calm; up = o.up g.up; counted = counted_on pairs numbers w (step_line w e).state o.falls g.counted }

  pub fell_later : (w : Federation) (e : Event) (es : List Event) → Good pairs numbers w → MakesItself e → Fell es (step_line w e).state → Fell (e ∷ es) w
  fell_later w e es g i f = let l = left_falls pairs numbers w (step_line w e).state (event_moved w g.calm e i).onward.falls in let k = f in omega (arith, l, k)

  pub fell_now : (w : Federation) (e : Event) (es : List Event) → Good pairs numbers w → MakesItself e → MakeThemselves es → Lowered w e → Fell (e ∷ es) w
  fell_now w e es g i own l =
      let z = (step_line w e).state in
      let o = (event_moved w g.calm e i).onward in
      let k = left_falls pairs numbers z (run (lines es) z) (onward_all es z o.calm own).falls in
      let j = l in
      omega (arith, k, j)

  -- less is left of one pair
  pub pair_lowered : (w : Federation) (e : Event) → Good pairs numbers w → MakesItself e → (t m : ℕ) → IsMember w m →
      suc (left_between (step_line w e).state t m) ≤ left_between w t m → Lowered w e
  pair_lowered w e g i t m k l =
      left_lowers pairs numbers w (step_line w e).state (event_moved w g.calm e i).onward.falls t m k (g.counted.between t m (omega (arith, l))) l

  -- what an event does to what is followed: it lowers, or keeps it, or leaves something else to follow
  pub data Move (P : Federation → Type 0) (w : Federation) (e : Event) : Type 0 where
    Lowers : Lowered w e → Move P w e
    Keeps : P (step_line w e).state → Move P w e
    Leaves : ((es : List Event) → MakeThemselves es → AllDelivered (step_line w e) es → DeliverTheirOwn es (step_line w e).state → Fell es (step_line w e).state) → Move P w e

  abbrev pub Moves : (Federation → Type 0) → Type 0
  Moves P = (w : Federation) (e : Event) → Good pairs numbers w → MakesItself e → P w → Move P w e

  abbrev pub Lasts : (Federation → Type 0) → Event → Type 0
  Lasts P x = (w : Federation) (es : List Event) → Good pairs numbers w → MakesItself x → MakeThemselves es → AllDelivered (step_line w x) es → DeliverTheirOwn es (step_line w x).state → P w → Fell (x ∷ es) w

  abbrev pub Follows : (Federation → Type 0) → Event → Type 0
  Follows P x = (es : List Event) (w : Federation) → Good pairs numbers w → MakeThemselves es → DeliverTheirOwn es w → Stands x es → P w → Fell es w

  pub follow : (P : Federation → Type 0) (x : Event) → Moves P → Lasts P x → Follows P x
  follow P x moves last [] w g own del h p = absurd h
  follow P x moves last (e ∷ es) w g own del (inl same) p =
      subst (λ y. MakesItself y → AllDelivered (step_line w y) es → DeliverTheirOwn es (step_line w y).state → Fell (y ∷ es) w) (sym same)
      (λ i d r. last w es g i own.1 d r p) own.0 del.0 del.1
  follow P x moves last (e ∷ es) w g own del (inr h) p = by (follow P x moves last es) (moves w e g own.0 p)
    where
      by : ((z : Federation) → Good pairs numbers z → MakeThemselves es → DeliverTheirOwn es z → Stands x es → P z → Fell es z) → Move P w e → Fell (e ∷ es) w
      by rest (Lowers l) = fell_now w e es g own.0 own.1 l
      by rest (Keeps q) = fell_later w e es g own.0 (rest (step_line w e).state (good_on w e g own.0) own.1 del.1 h q)
      by rest (Leaves go) = fell_later w e es g own.0 (go es own.1 del.0 del.1)

  -- and with a message that was sent
  abbrev pub Sent : (Federation → Type 0) → Message → Federation → Type 0
  Sent P note w = P w × (was_sent w.sent note ≡ true)

  pub sent_moves : (P : Federation → Type 0) (note : Message) → Moves P → Moves (Sent P note)
  sent_moves P note moves w e g i p = by (moves w e g i p.0)
    where
      by : Move P w e → Move (Sent P note) w e
      by (Lowers l) = Lowers l
      by (Keeps q) = Keeps (q, (event_moved w g.calm e i).one.sent note p.1)
      by (Leaves go) = Leaves go

  -- an event that sends what is to be followed next
  pub passes : (P : Federation → Type 0) (note : Message) → Follows (Sent P note) (event.Deliver note) → (w : Federation) (x : Event) (es : List Event) → Good pairs numbers w → MakesItself x →
      MakeThemselves es → AllDelivered (step_line w x) es → DeliverTheirOwn es (step_line w x).state → Tells (step_line w x) note → Move P w x → Fell (x ∷ es) w
  passes P note next w x es g i own all del tells (Lowers l) = fell_now w x es g i own l
  passes P note next w x es g i own all del tells (Keeps p) =
      fell_later w x es g i (next es (step_line w x).state (good_on w x g i) own del (all note tells.item) (p, tells.sent))
  passes P note next w x es g i own all del tells (Leaves go) = fell_later w x es g i (go es own all del)
