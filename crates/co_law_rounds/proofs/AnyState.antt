-- Any state can be settled.
use Rattle.std.proofs.Common.{ℕ, Bool, ◌≤◌, List, [], ◌∷◌, ◌++◌, length, Option, None, Some, sym, subst}
use Rattle.co_base.specs.declared.head.Kind.{Kind}
use Rattle.co_base.specs.Limits.{most_coordinators, most_members}
use Rattle.co_message.specs.declared.event.Event.{Event}
use Rattle.co_message.specs.declared.event.Event.TheVariants as event
use Rattle.co_message.specs.declared.message.Message.{Message}
use Rattle.co_plain.specs.declared.happening.Happening.{Happening}
use Rattle.co_plain.specs.Federation.{Federation, Stepped}
use Rattle.co_plain.specs.Opening.{Found, opened}
use Rattle.co_plain.specs.Premises.{AreTrueVerdicts, AreOwn, AreOwnLogs, AreOpenable}
use Rattle.co_plain.specs.Quiet.{Exchange, Prepares, Votes, Commits, Asks}
use Rattle.co_plain.specs.Runs.{run}
use Rattle.co_plain.specs.Step.{step_line}
use Rattle.co_law_settle.specs.SettlingTurns.{note_in, delivers, deliveries, first_event, wanted, Turn, Restarts, Exchanges, Fires, turn_events, after_turn, turns_events}
use Rattle.co_law_settle.proofs.Settled.{ends, bounded, settled_serially}
use Rattle.co_law_rounds.specs.CanBeSettled.{MakesItself, MakeThemselves, CanBeSettled}

pub both_make : (xs ys : List Event) → MakeThemselves xs → MakeThemselves ys → MakeThemselves (xs ++ ys)
both_make [] ys a b = b
both_make (x ∷ xs) ys a b = (a.0, both_make xs ys a.1 b)

deliveries_make : (tests : List (Message → Bool)) (z : Stepped) → MakeThemselves (deliveries tests z)
deliveries_make [] z = tt
deliveries_make (test ∷ tests) z = by (note_in test z.items) (λ note. deliveries_make tests (step_line z.state (event.Deliver note)))
  where
    by : (o : Option Message) → ((note : Message) → MakeThemselves (deliveries tests (step_line z.state (event.Deliver note)))) →
        MakeThemselves (delivers o (λ note. deliveries tests (step_line z.state (event.Deliver note))))
    by None rest = tt
    by (Some note) rest = (tt, rest note)

exchange_makes : (e : Exchange) → MakesItself (first_event e)
exchange_makes (Prepares t m c) = tt
exchange_makes (Votes t m) = tt
exchange_makes (Commits t m c) = tt
exchange_makes (Asks t m c) = tt

pub turn_makes : (s : Federation) (turn : Turn) → MakeThemselves (turn_events s turn)
turn_makes s (Restarts at) = (tt, tt)
turn_makes s (Exchanges e) = (exchange_makes e, deliveries_make (wanted e) (step_line s (first_event e)))
turn_makes s (Fires t at) = (tt, tt)

turns_make : (turns : List Turn) (s : Federation) → MakeThemselves (turns_events turns s)
turns_make [] s = tt
turns_make (turn ∷ turns) s = both_make (turn_events s turn) (turns_events turns (after_turn s turn)) (turn_makes s turn) (turns_make turns (after_turn s turn))

pub can_be_settled : (kinds : List Kind) (coords : ℕ) (fm fc : ℕ → Found) (hs : List Happening) → length kinds ≤ most_members → coords ≤ most_coordinators →
    AreOpenable kinds coords fm fc → AreOwnLogs kinds coords fm fc → AreTrueVerdicts hs (opened kinds coords fm fc) → AreOwn (length kinds) coords hs →
    CanBeSettled (opened kinds coords fm fc) (run hs (opened kinds coords fm fc))
can_be_settled kinds coords fm fc hs few some g own v names =
    let end = ends kinds coords fm fc hs g own v names in
    let settling = end.1.settling in
    record {
      events = end.0;
      own = subst MakeThemselves (sym settling.same) (turns_make settling.turns _);
      few = bounded kinds coords fm fc hs g own v names few some end.0 settling;
      done = end.1.done;
      serial = λ m i. settled_serially kinds coords fm fc hs g own v names end.0 end.1 m i;
    }
