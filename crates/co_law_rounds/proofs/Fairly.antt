-- Each round lowers what is left; so rounds end, and with them all that is open.
use Rattle.std.proofs.Common.{◌≡◌, ◌⊎◌, inl, inr, ℕ, suc, true, false, ◌+◌, ◌*◌, ◌≤◌, List, [], ◌∷◌, ◌++◌, length, refl, sym, ap, ◌∙◌, subst, arith}
use Rattle.std.proofs.lemmas.List.{append-nil}
use Rattle.co_base.specs.declared.head.Kind.{Kind}
use Rattle.co_message.specs.declared.event.Event.{Event}
use Rattle.co_plain.specs.declared.happening.Happening.{Happening}
use Rattle.co_plain.specs.Federation.{Federation}
use Rattle.co_plain.specs.Opening.{Found, opened}
use Rattle.co_plain.specs.Premises.{AreTrueVerdicts, AreOwn, AreOwnLogs, AreOpenable}
use Rattle.co_plain.specs.Quiet.{IsOpen, Exchange, IsEnabled, open_pairs, open_count}
use Rattle.co_plain.specs.Runs.{run, lines}
use Rattle.co_plain.specs.Settling.{SettlesBy, ByRestart, ByExchange, ByTimer}
use Rattle.co_law_settle.specs.SettlingTurns.{Turn, Exchanges, Fires, turn_events, after_turn, CanTurn, AllUp, IsUnarmed, SomethingOpen, NothingOpen}
use Rattle.co_law_settle.specs.SettlingMeasure.{left_of, AreCounted, pairs_in, numbers_in_state, lowered_by}
use Rattle.co_law_settle.proofs.Counting.{left_falls}
use Rattle.co_law_settle.proofs.Ending.{open_or_not}
use Rattle.co_law_settle.proofs.Falling.{Calm}
use Rattle.co_law_settle.proofs.First.{settles_by}
use Rattle.co_law_settle.proofs.OpenSets.{left_most}
use Rattle.co_law_settle.proofs.Settled.{calm_at, counted}
use Rattle.co_law_settle.proofs.Turns.{can_done, counted_on, run_more}
use Rattle.co_law_rounds.specs.CanBeSettled.{MakeThemselves}
use Rattle.co_law_rounds.specs.Rounds.{IsRound, AreRounds, after_rounds}
use Rattle.co_law_rounds.proofs.AnyState.{both_make, turn_makes}
use Rattle.co_law_rounds.proofs.NodeEvents.{Onward, onward_then}
use Rattle.co_law_rounds.proofs.Disturbances.{onward_all}

-- what a round leaves
pub record RoundDone (pairs : ℕ → List ℕ) (numbers : List ℕ) (s z : Federation) : Type 0 where
  pub onward : Onward s z
  pub lower : suc (left_of pairs numbers z) ≤ left_of pairs numbers s

pub round_done : (pairs : ℕ → List ℕ) (numbers : List ℕ) (s : Federation) (events : List Event) → Calm s → AreCounted pairs numbers s → IsRound s events → RoundDone pairs numbers s (run (lines events) s)
round_done pairs numbers s events calm c r = record { onward = onward_all events s calm own; lower = lower }
  where
    y : Federation
    y = run (lines r.before) s

    z : Federation
    z = after_turn y r.turn

    first : Onward s y
    first = onward_all r.before s calm r.own_before

    counted_there : AreCounted pairs numbers y
    counted_there = counted_on pairs numbers s y first.falls c

    turned : Onward y z
    turned = onward_all (turn_events y r.turn) y first.calm (turn_makes y r.turn)

    own : MakeThemselves events
    own = subst MakeThemselves (sym r.same) (both_make r.before (turn_events y r.turn ++ r.after) r.own_before (both_make (turn_events y r.turn) r.after (turn_makes y r.turn) r.own_after))

    whole : run (lines events) s ≡ run (lines r.after) z
    whole = ap (λ l. run (lines l) s) r.same ∙ run_more r.before (turn_events y r.turn ++ r.after) s ∙ run_more (turn_events y r.turn) r.after y

    lower : suc (left_of pairs numbers (run (lines events) s)) ≤ left_of pairs numbers s
    lower =
        let a = left_falls pairs numbers s y first.falls in
        let b = (can_done y first.calm r.turn r.helps).lowers.lowers pairs numbers counted_there in
        let d = left_falls pairs numbers z (run (lines r.after) z) (onward_all r.after z turned.calm r.own_after).falls in
        let e = r.no_restart in
        let f = ap (left_of pairs numbers) whole in
        omega (arith, a, b, d, e, f)

-- and many of them
record RoundsDone (pairs : ℕ → List ℕ) (numbers : List ℕ) (s : Federation) (rounds : List (List Event)) : Type 0 where
  onward : Onward s (after_rounds rounds s)
  lower : length rounds + left_of pairs numbers (after_rounds rounds s) ≤ left_of pairs numbers s

rounds_done : (pairs : ℕ → List ℕ) (numbers : List ℕ) (rounds : List (List Event)) (s : Federation) → Calm s → AreCounted pairs numbers s → AreRounds rounds s → RoundsDone pairs numbers s rounds
rounds_done pairs numbers [] s calm c go = record { onward = onward_all [] s calm tt; lower = omega arith }
rounds_done pairs numbers (round ∷ rounds) s calm c go =
    let a = round_done pairs numbers s round calm c go.0 in
    let b = rounds_done pairs numbers rounds (run (lines round) s) a.onward.calm (counted_on pairs numbers s (run (lines round) s) a.onward.falls c) go.1 in
    record {
      onward = onward_then s (run (lines round) s) (after_rounds rounds (run (lines round) s)) a.onward b.onward;
      lower = let l = a.lower in let k = b.lower in omega (arith, l, k);
    }

-- where something is open and all nodes are up, there is a round
next_round : (s : Federation) → Calm s → AllUp s → (t : ℕ) → IsOpen s t → (events : List Event) × IsRound s events
next_round s calm up t o = by (settles_by s calm.facts calm.sessions calm.opened t o)
  where
    made : (turn : Turn) → lowered_by turn ≡ 1 → CanTurn s turn → (events : List Event) × IsRound s events
    made turn one can = (
      turn_events s turn,
      record {
        before = [];
        turn = turn;
        after = [];
        own_before = tt;
        own_after = tt;
        helps = can;
        no_restart = one;
        same = sym (append-nil (turn_events s turn));
      },
    )

    exchanged : (e : Exchange) → AllUp s → IsEnabled s e → CanTurn s (Exchanges e)
    exchanged e all h = (all, h)

    by : SettlesBy s → (events : List Event) × IsRound s events
    by (ByRestart at first) = absurd (let z : true ≡ false = sym (up at first.is_node) ∙ first.down in cc)
    by (ByExchange e all first) = made (Exchanges e) refl (exchanged e all first.enabled)
    by (ByTimer u at quiet first) = made (Fires u at) refl (quiet.all_up, first.is_node, first.ends)

module _ (kinds : List Kind) (coords : ℕ) (fm fc : ℕ → Found) (hs : List Happening) (g : AreOpenable kinds coords fm fc) (own : AreOwnLogs kinds coords fm fc)
    (v : AreTrueVerdicts hs (opened kinds coords fm fc)) (names : AreOwn (length kinds) coords hs) (unarmed : IsUnarmed (run hs (opened kinds coords fm fc)))
    (rounds : List (List Event)) (go : AreRounds rounds (run hs (opened kinds coords fm fc))) where
  abbrev here : Federation
  here = run hs (opened kinds coords fm fc)

  here_calm : Calm here
  here_calm = calm_at kinds coords fm fc hs g own v names unarmed

  went : RoundsDone (pairs_in here) (numbers_in_state here) here rounds
  went = rounds_done (pairs_in here) (numbers_in_state here) rounds here here_calm (counted here) go

  pub few_rounds : length rounds ≤ 3 * open_pairs here + open_count here
  few_rounds = let a = went.lower in let b = left_most here in omega (arith, a, b)

  pub one_more_round : AllUp here → (t : ℕ) → IsOpen (after_rounds rounds here) t → (round : List Event) × IsRound (after_rounds rounds here) round
  one_more_round up t o = next_round (after_rounds rounds here) went.onward.calm (went.onward.up up) t o

  -- after as many as there may be
  pub all_ended : AllUp here → length rounds ≡ 3 * open_pairs here + open_count here → NothingOpen (after_rounds rounds here)
  all_ended up most = by (open_or_not z)
    where
      z : Federation
      z = after_rounds rounds here

      by : SomethingOpen z ⊎ NothingOpen z → NothingOpen z
      by (inr none) = none
      by (inl o) =
          let next = one_more_round up o.0 o.1 in
          let again = round_done (pairs_in here) (numbers_in_state here) z next.0 went.onward.calm (counted_on (pairs_in here) (numbers_in_state here) here z went.onward.falls (counted here)) next.1 in
          let a = again.lower in
          let b = went.lower in
          let c = left_most here in
          absurd (omega (arith, a, b, c, most))
