-- Where all nodes are up, there is a fair round.
use Rattle.std.proofs.Common.{◌≡◌, ◌⊎◌, inl, inr, ℕ, zero, suc, Bool, true, false, ◌==◌, ◌≤◌, List, [], ◌∷◌, ◌++◌, length, refl, sym, ap, ◌∙◌, subst, arith}
use Rattle.std.proofs.lemmas.Bool.{or_cases, eqb-true, eqb-false}
use Rattle.std.proofs.lemmas.List.{append_assoc}
use Rattle.co_base.specs.declared.head.Kind.{Kind}
use Rattle.co_message.specs.declared.event.Event.{Event}
use Rattle.co_message.specs.declared.event.Event.TheVariants as event
use Rattle.co_plain.specs.declared.happening.Happening.{Happening}
use Rattle.co_plain.specs.Federation.{Federation}
use Rattle.co_plain.specs.Numbers.{has_number}
use Rattle.co_plain.specs.Opening.{Found, opened}
use Rattle.co_plain.specs.Premises.{AreTrueVerdicts, AreOwn, AreOwnLogs, AreOpenable}
use Rattle.co_plain.specs.Runs.{run}
use Rattle.co_plain.specs.Quiet.{IsQuiet}
use Rattle.co_plain.specs.Settling.{SettlesBy, ByRestart, ByExchange, ByTimer}
use Rattle.co_law_settle.specs.SettlingTurns.{AllUp, IsUnarmed, SomethingOpen, NothingOpen}
use Rattle.co_law_settle.specs.SettlingMeasure.{numbers_in_state}
use Rattle.co_law_settle.proofs.Ending.{open_or_not}
use Rattle.co_law_settle.proofs.Falling.{Calm}
use Rattle.co_law_settle.proofs.First.{settles_by}
use Rattle.co_law_settle.proofs.OpenSets.{open_counted}
use Rattle.co_law_settle.proofs.Settled.{calm_at}
use Rattle.co_law_rounds.specs.CanBeSettled.{MakesItself, MakeThemselves}
use Rattle.co_law_rounds.specs.FairRounds.{Stands, AreVotes, DeliverTheirOwn, GoesThrough, IsFairRound}
use Rattle.co_law_rounds.proofs.AnyState.{both_make}
use Rattle.co_law_rounds.proofs.Arriving.{in_front, behind, all_arrive}

-- an event for each number from 1 to some, and for each of some transactions
abbrev up_to : ℕ → (ℕ → Event) → List Event
up_to zero f = []
up_to (suc n) f = f (suc n) ∷ up_to n f

abbrev over : List ℕ → (ℕ → List Event) → List Event
over [] f = []
over (t ∷ ts) f = f t ++ over ts f

in_up_to : (n : ℕ) (f : ℕ → Event) (i : ℕ) → 1 ≤ i → i ≤ n → Stands (f i) (up_to n f)
in_up_to zero f i l u = absurd (omega (arith, l, u))
in_up_to (suc n) f i l u = by (in_up_to n f i l) (i == suc n) refl
  where
    by : (i ≤ n → Stands (f i) (up_to n f)) → (b : Bool) → (i == suc n) ≡ b → Stands (f i) (up_to (suc n) f)
    by rest true e = inl (ap f (sym (eqb-true i (suc n) e)))
    by rest false e = let d = eqb-false i (suc n) e in inr (rest (omega (arith, u, d)))

in_over : (ts : List ℕ) (f : ℕ → List Event) (t : ℕ) (x : Event) → has_number ts t ≡ true → Stands x (f t) → Stands x (over ts f)
in_over [] f t x h s = absurd (let z : false ≡ true = h in cc)
in_over (k ∷ ks) f t x h s = by (in_over ks f t x) (or_cases (k == t) (has_number ks t) h)
  where
    by : (has_number ks t ≡ true → Stands x (f t) → Stands x (over ks f)) → ((k == t) ≡ true) ⊎ (has_number ks t ≡ true) → Stands x (over (k ∷ ks) f)
    by rest (inl e) = in_front x (f k) (over ks f) (subst (λ j. Stands x (f j)) (sym (eqb-true k t e)) s)
    by rest (inr e) = behind x (f k) (over ks f) (rest e s)

up_to_make : (n : ℕ) (f : ℕ → Event) → ((i : ℕ) → MakesItself (f i)) → MakeThemselves (up_to n f)
up_to_make zero f h = tt
up_to_make (suc n) f h = (h (suc n), up_to_make n f h)

over_make : (ts : List ℕ) (f : ℕ → List Event) → ((t : ℕ) → MakeThemselves (f t)) → MakeThemselves (over ts f)
over_make [] f h = tt
over_make (t ∷ ts) f h = both_make (f t) (over ts f) (h t) (over_make ts f h)

votes_up_to : (t n : ℕ) (es : List Event) → AreVotes es → AreVotes (up_to n (λ m. event.Vote t m) ++ es)
votes_up_to t zero es h = h
votes_up_to t (suc n) es h = votes_up_to t n es h

votes_over : (ts : List ℕ) (n : ℕ) → AreVotes (over ts (λ t. up_to n (λ m. event.Vote t m)))
votes_over [] n = tt
votes_over (t ∷ ts) n = votes_up_to t n (over ts (λ u. up_to n (λ m. event.Vote u m))) (votes_over ts n)

module _ (s : Federation) where
  abbrev votes : List Event
  votes = over (numbers_in_state s) (λ t. up_to (length s.kinds) (λ m. event.Vote t m))

  abbrev resends : List Event
  resends = over (numbers_in_state s) (λ t. up_to s.coordinators (λ c. event.Resend t c))

  abbrev questions : List Event
  questions = over (numbers_in_state s) (λ t. up_to (length s.kinds) (λ m. event.Ask t m))

  -- behind them all that they send
  arrivals : (more : List Event) × MakeThemselves more × DeliverTheirOwn ((votes ++ (resends ++ questions)) ++ more) s
  arrivals = all_arrive (votes ++ (resends ++ questions)) s

  abbrev whole : List Event
  whole = (votes ++ (resends ++ questions)) ++ arrivals.0

  own_votes : MakeThemselves votes
  own_votes = over_make (numbers_in_state s) (λ t. up_to (length s.kinds) (λ m. event.Vote t m)) (λ t. up_to_make (length s.kinds) (λ m. event.Vote t m) (λ m. tt))

  own_resends : MakeThemselves resends
  own_resends = over_make (numbers_in_state s) (λ t. up_to s.coordinators (λ c. event.Resend t c)) (λ t. up_to_make s.coordinators (λ c. event.Resend t c) (λ c. tt))

  own_questions : MakeThemselves questions
  own_questions = over_make (numbers_in_state s) (λ t. up_to (length s.kinds) (λ m. event.Ask t m)) (λ t. up_to_make (length s.kinds) (λ m. event.Ask t m) (λ m. tt))

  own_whole : MakeThemselves whole
  own_whole = both_make (votes ++ (resends ++ questions)) arrivals.0 (both_make votes (resends ++ questions) own_votes (both_make resends questions own_resends own_questions)) arrivals.1

  goes : GoesThrough s whole
  goes =
      record {
        first = votes;
        rest = (resends ++ questions) ++ arrivals.0;
        same = append_assoc votes (resends ++ questions) arrivals.0;
        votes = votes_over (numbers_in_state s) (length s.kinds);
        voted = λ t m o i. in_over (numbers_in_state s) (λ u. up_to (length s.kinds) (λ n. event.Vote u n)) t (event.Vote t m) (open_counted s t o)
            (in_up_to (length s.kinds) (λ n. event.Vote t n) m i.0 i.1);
        resent = λ t c o i. in_front (event.Resend t c) (resends ++ questions) arrivals.0 (in_front (event.Resend t c) resends questions
            (in_over (numbers_in_state s) (λ u. up_to s.coordinators (λ d. event.Resend u d)) t (event.Resend t c) (open_counted s t o)
            (in_up_to s.coordinators (λ d. event.Resend t d) c i.0 i.1)));
        asked = λ t m o i. in_front (event.Ask t m) (resends ++ questions) arrivals.0 (behind (event.Ask t m) resends questions
            (in_over (numbers_in_state s) (λ u. up_to (length s.kinds) (λ n. event.Ask u n)) t (event.Ask t m) (open_counted s t o)
            (in_up_to (length s.kinds) (λ n. event.Ask t n) m i.0 i.1)));
        delivered = arrivals.2;
      }

  all_through : (IsQuiet s → ¬ (SomethingOpen s)) → (round : List Event) × IsFairRound s round
  all_through never = (whole, record { own = own_whole; through = λ n. goes; timer = λ q o. absurd (never q o) })

  pub some_round : Calm s → AllUp s → (round : List Event) × IsFairRound s round
  some_round calm up = by (open_or_not s)
    where
      next : SettlesBy s → (round : List Event) × IsFairRound s round
      next (ByRestart at first) = absurd (let z : true ≡ false = sym (up at first.is_node) ∙ first.down in cc)
      next (ByExchange e all first) = all_through (λ q o. q.nothing_helps e first.enabled)
      next (ByTimer t at quiet first) = (
        event.Timer t at ∷ [],
        record {
          own = (tt, tt);
          through = λ n. absurd (n quiet);
          timer = λ q o. record { before = []; txn = t; at = at; after = []; same = refl; is_node = first.is_node; ends = first.ends };
        },
      )

      by : SomethingOpen s ⊎ NothingOpen s → (round : List Event) × IsFairRound s round
      by (inl o) = next (settles_by s calm.facts calm.sessions calm.opened o.0 o.1)
      by (inr none) = all_through (λ q o. none o.0 o.1)

module _ (kinds : List Kind) (coords : ℕ) (fm fc : ℕ → Found) (hs : List Happening) (g : AreOpenable kinds coords fm fc) (own : AreOwnLogs kinds coords fm fc)
    (v : AreTrueVerdicts hs (opened kinds coords fm fc)) (names : AreOwn (length kinds) coords hs) (unarmed : IsUnarmed (run hs (opened kinds coords fm fc)))
    (up : AllUp (run hs (opened kinds coords fm fc))) where
  pub round_there : (round : List Event) × IsFairRound (run hs (opened kinds coords fm fc)) round
  round_there = some_round (run hs (opened kinds coords fm fc)) (calm_at kinds coords fm fc hs g own v names unarmed) up
