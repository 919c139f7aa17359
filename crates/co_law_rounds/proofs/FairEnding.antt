-- After as many fair rounds as there may be, nothing is open.
use Rattle.std.proofs.Common.{◌≡◌, ◌⊎◌, inl, inr, ℕ, zero, suc, Bool, true, false, ◌+◌, ◌*◌, ◌≤◌, if◌then◌else◌, List, [], ◌∷◌, length, Option, Some, None, refl, sym, ap, ◌∙◌, arith}
use Rattle.std.specs.Option.{is_some}
use Rattle.std.proofs.lemmas.Bool.{false_from_ne_true}
use Rattle.co_base.specs.declared.head.Kind.{Kind}
use Rattle.co_message.specs.declared.event.Event.{Event}
use Rattle.co_state.specs.Table.{look, holds}
use Rattle.co_plain.specs.declared.coord_state.Entry.{Entry}
use Rattle.co_plain.specs.declared.happening.Happening.{Happening}
use Rattle.co_plain.specs.Federation.{Federation}
use Rattle.co_plain.specs.Opening.{Found, opened}
use Rattle.co_plain.specs.Premises.{AreTrueVerdicts, AreOwn, AreOwnLogs, AreOpenable}
use Rattle.co_plain.specs.Quiet.{IsMember, InTable, ActiveAt, VotedAt, sum_to, lacks_yes, lacks_ack, open_pairs, open_count}
use Rattle.co_plain.specs.Runs.{run, lines}
use Rattle.co_plain.specs.Settling.{SettlesBy, ByRestart, ByExchange, ByTimer, is_idle}
use Rattle.co_law_settle.specs.SettlingTurns.{AllUp, IsUnarmed, SomethingOpen, NothingOpen}
use Rattle.co_law_settle.specs.SettlingMeasure.{any_to, yes_lacking, ack_lacking, left_between, left_idle, sum_over, left_of, pairs_in, numbers_in_state}
use Rattle.co_law_settle.proofs.Counting.{left_falls}
use Rattle.co_law_settle.proofs.Ending.{open_or_not}
use Rattle.co_law_settle.proofs.Falling.{any_found}
use Rattle.co_law_settle.proofs.First.{settles_by}
use Rattle.co_law_settle.proofs.OpenSets.{left_most}
use Rattle.co_law_settle.proofs.Settled.{calm_at, counted}
use Rattle.co_law_settle.proofs.Turns.{by_done, counted_on}
use Rattle.co_law_rounds.specs.CanBeSettled.{MakeThemselves}
use Rattle.co_law_rounds.specs.FairRounds.{IsFairRound, AreFairRounds}
use Rattle.co_law_rounds.specs.Rounds.{after_rounds}
use Rattle.co_law_rounds.proofs.Asking.{nothing_weighs}
use Rattle.co_law_rounds.proofs.Disturbances.{onward_all}
use Rattle.co_law_rounds.proofs.FairLowering.{fair_lowers}
use Rattle.co_law_rounds.proofs.Following.{Good}

no_sum : (n : ℕ) (f : ℕ → ℕ) → ((m : ℕ) → 1 ≤ m → m ≤ n → f m ≡ 0) → sum_to n f ≡ 0
no_sum zero f h = refl
no_sum (suc n) f h =
    let a = h (suc n) (omega arith) (omega arith) in
    let b = no_sum n f (λ m l u. h m l (omega (arith, u))) in
    omega (arith, a, b)

none_over : (ks : List ℕ) (f : ℕ → ℕ) → ((t : ℕ) → f t ≡ 0) → sum_over ks f ≡ 0
none_over [] f h = refl
none_over (k ∷ ks) f h = let a = h k in let b = none_over ks f h in omega (arith, a, b)

some_yes : (o : Option Entry) (m : ℕ) → lacks_yes o m ≡ true → is_some o ≡ true
some_yes None m h = h
some_yes (Some e) m h = refl

some_ack : (o : Option Entry) (m : ℕ) → lacks_ack o m ≡ true → is_some o ≡ true
some_ack None m h = h
some_ack (Some e) m h = refl

some_idle : (o : Option Entry) → is_idle o ≡ true → is_some o ≡ true
some_idle None h = h
some_idle (Some e) h = refl

-- where nothing is open, nothing is left
module _ (s : Federation) (none : NothingOpen s) where
  no_entry : (test : Option Entry → Bool) (t : ℕ) → ((o : Option Entry) → test o ≡ true → is_some o ≡ true) → any_to s.coordinators (λ d. test (look (s.coord d).table t)) ≡ false
  no_entry test t some = false_from_ne_true _ (λ h.
      let f = any_found s.coordinators (λ d. test (look (s.coord d).table t)) h in none t (InTable f.0 (f.1, f.2) (some (look (s.coord f.0).table t) f.3)))

  none_between : (t m : ℕ) → IsMember s m → left_between s t m ≡ 0
  none_between t m i =
      nothing_weighs (holds (s.member m).engine.active t) (holds (s.member m).asked t) (holds (s.member m).engine.voted t) (yes_lacking s t m) (ack_lacking s t m)
      (false_from_ne_true _ (λ h. none t (ActiveAt m i h))) (false_from_ne_true _ (λ h. none t (VotedAt m i h)))
      (no_entry (λ o. lacks_yes o m) t (λ o. some_yes o m)) (no_entry (λ o. lacks_ack o m) t (λ o. some_ack o m))

  pub nothing_left : (pairs : ℕ → List ℕ) (numbers : List ℕ) → left_of pairs numbers s ≡ 0
  nothing_left pairs numbers =
      let a = no_sum (length s.kinds) (λ m. sum_over (pairs m) (λ t. left_between s t m)) (λ m l u. none_over (pairs m) (λ t. left_between s t m) (λ t. none_between t m (l, u))) in
      let b = none_over numbers (left_idle s) (λ t. ap (λ b. if b then 1 else 0) (no_entry is_idle t some_idle)) in
      omega (arith, a, b)

module _ (pairs : ℕ → List ℕ) (numbers : List ℕ) where
  -- and where nothing is left, nothing is open
  none_open : (s : Federation) → Good pairs numbers s → left_of pairs numbers s ≤ 0 → NothingOpen s
  none_open s g l t o = by (settles_by s g.calm.facts g.calm.sessions g.calm.opened t o)
    where
      by : SettlesBy s → ⊥
      by (ByRestart at first) = let z : true ≡ false = sym (g.up at first.is_node) ∙ first.down in cc
      by (ByExchange e up first) = let a = (by_done s g.calm (ByExchange e up first)).lowers.lowers pairs numbers g.counted in omega (arith, a, l)
      by (ByTimer u at quiet first) = let a = (by_done s g.calm (ByTimer u at quiet first)).lowers.lowers pairs numbers g.counted in omega (arith, a, l)

  good_after : (s : Federation) → Good pairs numbers s → (events : List Event) → MakeThemselves events → Good pairs numbers (run (lines events) s)
  good_after s g events own =
      let o = onward_all events s g.calm own in
      record { calm = o.calm; up = o.up g.up; counted = counted_on pairs numbers s (run (lines events) s) o.falls g.counted }

  -- one round lowers by one, or leaves nothing
  one_round : (s : Federation) → Good pairs numbers s → (events : List Event) → IsFairRound s events → (n : ℕ) → left_of pairs numbers s ≤ suc n → left_of pairs numbers (run (lines events) s) ≤ n
  one_round s g events r n l = by (open_or_not s)
    where
      by : SomethingOpen s ⊎ NothingOpen s → left_of pairs numbers (run (lines events) s) ≤ n
      by (inl o) = let a = fair_lowers pairs numbers s g events r o in omega (arith, a, l)
      by (inr none) =
          let a = left_falls pairs numbers s (run (lines events) s) (onward_all events s g.calm r.own).falls in
          let b = nothing_left s none pairs numbers in
          omega (arith, a, b)

  none_after : (rounds : List (List Event)) (s : Federation) → Good pairs numbers s → AreFairRounds rounds s → left_of pairs numbers s ≤ length rounds → NothingOpen (after_rounds rounds s)
  none_after [] s g go l = none_open s g l
  none_after (round ∷ rounds) s g go l =
      none_after rounds (run (lines round) s) (good_after s g round go.0.own) go.1 (one_round s g round go.0 (length rounds) l)

module _ (kinds : List Kind) (coords : ℕ) (fm fc : ℕ → Found) (hs : List Happening) (g : AreOpenable kinds coords fm fc) (own : AreOwnLogs kinds coords fm fc)
    (v : AreTrueVerdicts hs (opened kinds coords fm fc)) (names : AreOwn (length kinds) coords hs) (unarmed : IsUnarmed (run hs (opened kinds coords fm fc)))
    (up : AllUp (run hs (opened kinds coords fm fc))) where
  abbrev here : Federation
  here = run hs (opened kinds coords fm fc)

  good_here : Good (pairs_in here) (numbers_in_state here) here
  good_here = record { calm = calm_at kinds coords fm fc hs g own v names unarmed; up = up; counted = counted here }

  pub round_lowers : (round : List Event) → SomethingOpen here → IsFairRound here round →
      suc (left_of (pairs_in here) (numbers_in_state here) (run (lines round) here)) ≤ left_of (pairs_in here) (numbers_in_state here) here
  round_lowers round o r = fair_lowers (pairs_in here) (numbers_in_state here) here good_here round r o

  pub fairly_ended : (rounds : List (List Event)) → AreFairRounds rounds here → 3 * open_pairs here + open_count here ≤ length rounds → NothingOpen (after_rounds rounds here)
  fairly_ended rounds go many = none_after (pairs_in here) (numbers_in_state here) rounds here good_here go (let a = left_most here in omega (arith, a, many))
