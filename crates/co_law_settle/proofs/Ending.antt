-- From every calm state some turns lead to one where nothing is open.
use Rattle.std.proofs.Common.{◌≡◌, ◌⊎◌, inl, inr, ℕ, zero, suc, Bool, true, false, ◌||◌, ◌≤◌, List, [], ◌∷◌, length, refl, sym, ◌∙◌, subst, arith}
use Rattle.std.proofs.lemmas.Bool.{or_left, or_right, or_cases}
use Rattle.co_state.specs.Table.{holds}
use Rattle.co_plain.specs.Federation.{Federation}
use Rattle.co_plain.specs.Runs.{run, lines}
use Rattle.co_plain.specs.Quiet.{IsOpen, InTable, ActiveAt, VotedAt}
use Rattle.co_law_settle.specs.SettlingTurns.{Turn, Restarts, Exchanges, Fires, turn_events, after_turn, turn_of, AreTurns, turns_events, SomethingOpen, NothingOpen}
use Rattle.co_law_settle.specs.SettlingMeasure.{any_to, numbers_in_state, events_left, AreCounted}
use Rattle.co_law_settle.proofs.Falling.{Calm, any_found, found_any}
use Rattle.co_law_settle.proofs.OpenSets.{open_counted}
use Rattle.co_law_settle.proofs.First.{LeastIn, NoneIn, least_in, settles_by}
use Rattle.co_law_settle.proofs.Turns.{by_done, counted_on, run_more}

module _ (s : Federation) where
  abbrev tabled_at : ℕ → ℕ → Bool
  tabled_at t c = holds (s.coord c).table t

  abbrev stands_at : ℕ → ℕ → Bool
  stands_at t m = holds (s.member m).engine.active t || holds (s.member m).engine.voted t

  abbrev is_open : ℕ → Bool
  is_open t = any_to s.coordinators (tabled_at t) || any_to (length s.kinds) (stands_at t)

  opened_tests : (t : ℕ) → IsOpen s t → is_open t ≡ true
  opened_tests t (InTable c i h) = or_left (any_to s.coordinators (tabled_at t)) (any_to (length s.kinds) (stands_at t)) (found_any s.coordinators (tabled_at t) c i.0 i.1 h)
  opened_tests t (ActiveAt m i h) = or_right (any_to s.coordinators (tabled_at t)) (any_to (length s.kinds) (stands_at t)) (found_any (length s.kinds) (stands_at t) m i.0 i.1 (or_left _ _ h))
  opened_tests t (VotedAt m i h) = or_right (any_to s.coordinators (tabled_at t)) (any_to (length s.kinds) (stands_at t)) (found_any (length s.kinds) (stands_at t) m i.0 i.1 (or_right _ _ h))

  tests_opened : (t : ℕ) → is_open t ≡ true → IsOpen s t
  tests_opened t h = by (or_cases (any_to s.coordinators (tabled_at t)) (any_to (length s.kinds) (stands_at t)) h)
    where
      at : (m : ℕ) → (1 ≤ m) × (m ≤ length s.kinds) → (holds (s.member m).engine.active t ≡ true) ⊎ (holds (s.member m).engine.voted t ≡ true) → IsOpen s t
      at m i (inl a) = ActiveAt m i a
      at m i (inr v) = VotedAt m i v

      by : (any_to s.coordinators (tabled_at t) ≡ true) ⊎ (any_to (length s.kinds) (stands_at t) ≡ true) → IsOpen s t
      by (inl k) = let f = any_found s.coordinators (tabled_at t) k in InTable f.0 (f.1, f.2) f.3
      by (inr k) = let f = any_found (length s.kinds) (stands_at t) k in at f.0 (f.1, f.2) (or_cases (holds (s.member f.0).engine.active t) (holds (s.member f.0).engine.voted t) f.3)

  -- something is open, or nothing is
  pub open_or_not : SomethingOpen s ⊎ NothingOpen s
  open_or_not = by (least_in (numbers_in_state s) is_open)
    where
      by : LeastIn (numbers_in_state s) is_open ⊎ NoneIn (numbers_in_state s) is_open → SomethingOpen s ⊎ NothingOpen s
      by (inl r) = inl (r.0, tests_opened r.0 r.1)
      by (inr none) = inr (λ t h. let z : true ≡ false = sym (opened_tests t h) ∙ none t (open_counted s t h) in cc)

some_events : (s : Federation) (turn : Turn) → 1 ≤ length (turn_events s turn)
some_events s (Restarts at) = omega arith
some_events s (Exchanges e) = omega arith
some_events s (Fires t at) = omega arith

-- turns that lead to the end
pub record Ends (s : Federation) : Type 0 where
  pub turns : List Turn
  pub goes : AreTurns turns s
  pub done : NothingOpen (run (lines (turns_events turns s)) s)

pub settles_from : (pairs : ℕ → List ℕ) (numbers : List ℕ) (most : ℕ) (s : Federation) → Calm s → AreCounted pairs numbers s → events_left pairs numbers s ≤ most → Ends s
settles_from pairs numbers zero s calm c l = by (open_or_not s)
  where
    by : SomethingOpen s ⊎ NothingOpen s → Ends s
    by (inr none) = record { turns = []; goes = tt; done = none }
    by (inl o) =
        let next = settles_by s calm.facts calm.sessions calm.opened o.0 o.1 in
        let a = (by_done s calm next).lowers.events pairs numbers c in
        let b = some_events s (turn_of next) in
        absurd (omega (arith, l, a, b))
settles_from pairs numbers (suc most) s calm c l = by (settles_from pairs numbers most) (open_or_not s)
  where
    by : ((z : Federation) → Calm z → AreCounted pairs numbers z → events_left pairs numbers z ≤ most → Ends z) → SomethingOpen s ⊎ NothingOpen s → Ends s
    by rest (inr none) = record { turns = []; goes = tt; done = none }
    by rest (inl o) =
        let next = settles_by s calm.facts calm.sessions calm.opened o.0 o.1 in
        let d = by_done s calm next in
        let a = d.lowers.events pairs numbers c in
        let b = some_events s (turn_of next) in
        let end = rest (after_turn s (turn_of next)) d.calm (counted_on pairs numbers s (after_turn s (turn_of next)) d.falls c) (omega (arith, l, a, b)) in
        record {
          turns = turn_of next ∷ end.turns;
          goes = (o, (next, refl), end.goes);
          done = subst NothingOpen (sym (run_more (turn_events s (turn_of next)) (turns_events end.turns (after_turn s (turn_of next))) s)) end.done;
        }
