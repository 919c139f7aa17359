-- What is left does not grow, whatever nodes do in between; so settling stays within the bound of any state before.
use Rattle.std.proofs.Common.{ℕ, ◌≤◌, ◌+◌, ◌*◌, List, [], ◌∷◌, length, refl, ap, arith}
use Rattle.co_base.specs.declared.head.Kind.{Kind}
use Rattle.co_base.specs.Limits.{most_coordinators, most_members}
use Rattle.co_message.specs.declared.event.Event.{Event}
use Rattle.co_plain.specs.declared.happening.Happening.{Happening}
use Rattle.co_plain.specs.declared.happening.Happening.TheVariants as happening
use Rattle.co_plain.specs.Federation.{Federation}
use Rattle.co_plain.specs.Opening.{Found, opened}
use Rattle.co_plain.specs.Premises.{AreTrueVerdicts, AreOwn, AreOwnLogs, AreOpenable}
use Rattle.co_plain.specs.Quiet.{settling_bound}
use Rattle.co_plain.specs.Runs.{run, lines}
use Rattle.co_plain.specs.Step.{disarmed, step_line}
use Rattle.co_law_moves.proofs.Steps.{step_keeps}
use Rattle.co_law_runs.proofs.Reached.{fits}
use Rattle.co_law_settle.specs.SettlingTurns.{IsUnarmed, IsSettling}
use Rattle.co_law_settle.specs.SettlingMeasure.{RaisesNothing, left_of, pairs_in, numbers_in_state, down_count}
use Rattle.co_law_settle.proofs.Counting.{left_falls, most_down}
use Rattle.co_law_settle.proofs.Falling.{Falls, falls_on, Calm}
use Rattle.co_law_settle.proofs.OpenSets.{left_most}
use Rattle.co_law_settle.proofs.Settled.{calm_at, counted}
use Rattle.co_law_settle.proofs.Turns.{counted_on, turns_done}
use Rattle.co_law_rounds.specs.CanBeSettled.{MakesItself, MakeThemselves}
use Rattle.co_law_rounds.proofs.NodeEvents.{Onward, onward_same, onward_then, event_onward}

pub onward_all : (events : List Event) (s : Federation) → Calm s → MakeThemselves events → Onward s (run (lines events) s)
onward_all [] s calm own = onward_same s calm
onward_all (e ∷ es) s calm own =
    let a = event_onward s calm e own.0 in
    let b = onward_all es (step_line s e).state a.calm own.1 in
    onward_then s (step_line s e).state (run (lines es) (step_line s e).state) a b

-- to take away stops that are not there
calm_disarmed : (s : Federation) → Calm s → Onward s (disarmed s)
calm_disarmed s calm =
    record {
      falls = record { between = λ t m. omega arith; idle = λ t. omega arith; kinds = refl; coordinators = refl };
      up = λ u. u;
      calm = record {
        facts = step_keeps s calm.facts happening.Disarm tt;
        sessions = calm.sessions;
        opened = record { votes = calm.opened.votes; commits = calm.opened.commits };
        members = λ m. refl;
        coords = λ c. refl;
      };
    }

-- settling from a state that comes after another one
settled_within : (s z : Federation) → Falls s z → Calm z → (events : List Event) → IsSettling z events → length events ≤ down_count (disarmed z) + 3 * left_of (pairs_in s) (numbers_in_state s) s
settled_within s z f calm events settling =
    let d = calm_disarmed z calm in
    let g = falls_on s z (disarmed z) f d.falls in
    let a = (turns_done (pairs_in s) (numbers_in_state s) settling.turns (disarmed z) d.calm (counted_on (pairs_in s) (numbers_in_state s) s (disarmed z) g (counted s)) settling.goes).fewer in
    let b = left_falls (pairs_in s) (numbers_in_state s) s (disarmed z) g in
    let c = ap length settling.same in
    omega (arith, a, b, c)

module _ (kinds : List Kind) (coords : ℕ) (fm fc : ℕ → Found) (hs : List Happening) (g : AreOpenable kinds coords fm fc) (own : AreOwnLogs kinds coords fm fc)
    (v : AreTrueVerdicts hs (opened kinds coords fm fc)) (names : AreOwn (length kinds) coords hs) (unarmed : IsUnarmed (run hs (opened kinds coords fm fc))) where
  abbrev here : Federation
  here = run hs (opened kinds coords fm fc)

  here_calm : Calm here
  here_calm = calm_at kinds coords fm fc hs g own v names unarmed

  pub raises_nothing : (e : Event) → MakesItself e → RaisesNothing here e × IsUnarmed (step_line here e).state
  raises_nothing e i =
      let a = event_onward here here_calm e i in
      ((a.falls.between, a.falls.idle), record { members = a.calm.members; coords = a.calm.coords })

  pub never_grows : (events : List Event) → MakeThemselves events → left_of (pairs_in here) (numbers_in_state here) (run (lines events) here) ≤ left_of (pairs_in here) (numbers_in_state here) here
  never_grows events i = left_falls (pairs_in here) (numbers_in_state here) here (run (lines events) here) (onward_all events here here_calm i).falls

  pub still_bounded : length kinds ≤ most_members → coords ≤ most_coordinators → (events more : List Event) → MakeThemselves events → IsSettling (run (lines events) here) more → length more ≤ settling_bound here
  still_bounded few some events more i settling =
      let z = run (lines events) here in
      let a = onward_all events here here_calm i in
      let b = settled_within here z a.falls a.calm more settling in
      let c = most_down (disarmed z) in
      let d = left_most here in
      let fit = fits kinds coords fm fc hs g own v names in
      let e = ap length fit.kinds in
      let k = fit.coordinators in
      let y = ap length a.falls.kinds in
      let w = a.falls.coordinators in
      omega (arith, few, some, b, c, d, e, k, y, w)
