-- Each timer of settling stands in a quiet state.
use Rattle.std.proofs.Common.{◌≡◌, ℕ, Bool, true, false, List, [], ◌∷◌, ◌++◌, Option, None, Some, refl, sym, ap, ◌∙◌, subst}
use Rattle.co_base.specs.declared.node.Node.{Node}
use Rattle.co_message.specs.declared.event.Event.{Event}
use Rattle.co_message.specs.declared.event.Event.TheVariants as event
use Rattle.co_message.specs.declared.message.Message.{Message}
use Rattle.co_plain.specs.Federation.{Federation, Stepped}
use Rattle.co_plain.specs.Step.{step_line}
use Rattle.co_plain.specs.Runs.{run, lines}
use Rattle.co_plain.specs.Quiet.{IsQuiet, Exchange, Prepares, Votes, Commits, Asks}
use Rattle.co_plain.specs.Settling.{SettlesBy, ByRestart, ByExchange, ByTimer}
use Rattle.co_law_settle.specs.SettlingTurns.{Turn, Restarts, Exchanges, Fires, first_event, wanted, note_in, delivers, deliveries, turn_events, after_turn, turn_of, IsNext, AreTurns, turns_events}
use Rattle.co_law_settle.proofs.Turns.{run_more}

abbrev is_timer : Event → Bool
is_timer (event.Timer t at) = true
is_timer _ = false

abbrev NoTimers : List Event → Type 0
NoTimers [] = Unit {0}
NoTimers (e ∷ es) = (is_timer e ≡ false) × NoTimers es

deliveries_none : (tests : List (Message → Bool)) (z : Stepped) → NoTimers (deliveries tests z)
deliveries_none [] z = tt
deliveries_none (test ∷ tests) z = by (λ note. deliveries_none tests (step_line z.state (event.Deliver note))) (note_in test z.items)
  where
    by : ((note : Message) → NoTimers (deliveries tests (step_line z.state (event.Deliver note)))) → (o : Option Message) →
        NoTimers (delivers o (λ note. deliveries tests (step_line z.state (event.Deliver note))))
    by rest None = tt
    by rest (Some note) = (refl, rest note)

-- a list without timers stands before the timer of a longer one
record Behind (xs ys before after : List Event) (e : Event) : Type 0 where
  rest : List Event
  front : before ≡ xs ++ rest
  same : ys ≡ rest ++ e ∷ after

head_is : (x y : Event) (xs ys : List Event) → x ∷ xs ≡ y ∷ ys → x ≡ y
head_is x y xs ys e = let z : x ∷ xs ≡ y ∷ ys = e in cc

tail_is : (x y : Event) (xs ys : List Event) → x ∷ xs ≡ y ∷ ys → xs ≡ ys
tail_is x y xs ys e = let z : x ∷ xs ≡ y ∷ ys = e in cc

behind : (xs ys before after : List Event) (t : ℕ) (at : Node) → NoTimers xs → xs ++ ys ≡ before ++ event.Timer t at ∷ after → Behind xs ys before after (event.Timer t at)
behind [] ys before after t at n e = record { rest = before; front = refl; same = e }
behind (x ∷ xs) ys [] after t at n e =
    absurd (let z : true ≡ false = ap is_timer (sym (head_is x (event.Timer t at) (xs ++ ys) after e)) ∙ n.0 in cc)
behind (x ∷ xs) ys (b ∷ bs) after t at n e =
    let r = behind xs ys bs after t at n.1 (tail_is x b (xs ++ ys) (bs ++ event.Timer t at ∷ after) e) in
    record {
      rest = r.rest;
      front = ap (λ y. y ∷ bs) (sym (head_is x b (xs ++ ys) (bs ++ event.Timer t at ∷ after) e)) ∙ ap (λ l. x ∷ l) r.front;
      same = r.same;
    }

empty_front : (before after : List Event) (e : Event) → [] ≡ before ++ e ∷ after → ⊥
empty_front [] after e h = let z : [] ≡ e ∷ after = h in cc
empty_front (b ∷ bs) after e h = let z : [] ≡ b ∷ (bs ++ e ∷ after) = h in cc

timer_quiet : (s : Federation) (t : ℕ) (at : Node) → IsNext s (Fires t at) → IsQuiet s
timer_quiet s t at n = by n.0 n.1
  where
    by : (next : SettlesBy s) → turn_of next ≡ Fires t at → IsQuiet s
    by (ByRestart k first) e = absurd (let z : Restarts k ≡ Fires t at = e in cc)
    by (ByExchange k up first) e = absurd (let z : Exchanges k ≡ Fires t at = e in cc)
    by (ByTimer u k quiet first) e = quiet

pub quiet_timers : (turns : List Turn) (s : Federation) → AreTurns turns s → (before after : List Event) (t : ℕ) (at : Node) → turns_events turns s ≡ before ++ event.Timer t at ∷ after →
    IsQuiet (run (lines before) s)
quiet_timers [] s go before after t at e = absurd (empty_front before after (event.Timer t at) e)
quiet_timers (Restarts k ∷ turns) s go before after t at e =
    let b = behind (turn_events s (Restarts k)) (turns_events turns (after_turn s (Restarts k))) before after t at (refl, tt) e in
    subst (λ l. IsQuiet (run (lines l) s)) (sym b.front)
    (subst IsQuiet (sym (run_more (turn_events s (Restarts k)) b.rest s)) (quiet_timers turns (after_turn s (Restarts k)) go.2 b.rest after t at b.same))
quiet_timers (Exchanges k ∷ turns) s go before after t at e =
    let b = behind (turn_events s (Exchanges k)) (turns_events turns (after_turn s (Exchanges k))) before after t at (first_none k, deliveries_none (wanted k) (step_line s (first_event k))) e in
    subst (λ l. IsQuiet (run (lines l) s)) (sym b.front)
    (subst IsQuiet (sym (run_more (turn_events s (Exchanges k)) b.rest s)) (quiet_timers turns (after_turn s (Exchanges k)) go.2 b.rest after t at b.same))
  where
    first_none : (k : Exchange) → is_timer (first_event k) ≡ false
    first_none (Prepares t m c) = refl
    first_none (Votes t m) = refl
    first_none (Commits t m c) = refl
    first_none (Asks t m c) = refl
quiet_timers (Fires u k ∷ turns) s go [] after t at e = timer_quiet s u k go.1
quiet_timers (Fires u k ∷ turns) s go (b ∷ bs) after t at e =
    subst (λ x. IsQuiet (run (lines (x ∷ bs)) s)) (head_is (event.Timer u k) b (turns_events turns (after_turn s (Fires u k))) (bs ++ event.Timer t at ∷ after) e)
    (quiet_timers turns (after_turn s (Fires u k)) go.2 bs after t at (tail_is (event.Timer u k) b (turns_events turns (after_turn s (Fires u k))) (bs ++ event.Timer t at ∷ after) e))
