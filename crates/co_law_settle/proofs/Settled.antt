-- Settling over runs.
use Rattle.std.proofs.Common.{◌≡◌, ℕ, true, ◌≤◌, List, [], ◌∷◌, ◌++◌, length, refl, sym, ap, ◌∙◌, subst, arith}
use Rattle.std.proofs.lemmas.Cmp.{nat_list_cmp_total}
use Rattle.std.specs.FinMap.{same_map, slice_cmp-IsAntisymmetric, nat_cmp-IsAntisymmetric}
use Rattle.co_base.specs.declared.head.Kind.{Kind}
use Rattle.co_base.specs.declared.node.Node.{Node}
use Rattle.co_base.specs.Limits.{most_coordinators, most_members}
use Rattle.co_message.specs.declared.event.Event.{Event}
use Rattle.co_message.specs.declared.event.Event.TheVariants as event
use Rattle.co_message.specs.declared.message.Message.{Message}
use Rattle.co_message.specs.declared.message.Message.TheVariants as message
use Rattle.co_plain.specs.declared.happening.Happening.{Happening}
use Rattle.co_plain.specs.declared.happening.Happening.TheVariants as happening
use Rattle.co_plain.specs.Opening.{Found, opened}
use Rattle.co_plain.specs.Federation.{Federation}
use Rattle.co_plain.specs.Member.{member_deliver, member_vote, member_ask}
use Rattle.co_plain.specs.Coordinator.{coord_deliver, coord_resend}
use Rattle.co_plain.specs.Step.{disarmed, arrives, up_member, up_coord}
use Rattle.co_plain.specs.Runs.{run, lines}
use Rattle.co_plain.specs.Invariants.{Memory}
use Rattle.co_plain.specs.Quiet.{node_up, IsMember, IsOpen, VotedAt, IsQuiet, IsEnabled, Exchange, settling_bound, IsBusy}
use Rattle.co_plain.specs.Settling.{SettlesBy}
use Rattle.co_law_base.proofs.Lookups.{found_holds}
use Rattle.co_law_base.proofs.Facts.{Facts}
use Rattle.co_plain.specs.Premises.{AreTrueVerdicts, AreOwn, AreOwnLogs, AreOpenable}
use Rattle.co_law_moves.proofs.Steps.{run_keeps, step_keeps}
use Rattle.co_law_moves.proofs.Growing.{Grows, grows_on, run_grows}
use Rattle.co_law_moves.proofs.Derived.{logs_give}
use Rattle.co_law_moves.proofs.KeptFrom.{same_serial}
use Rattle.co_law_runs.proofs.Reached.{Reached, fits, reached}
use Rattle.co_law_moves.proofs.Start.{start_facts}
use Rattle.co_law_settle.specs.SettlingTurns.{AllUp, Turn, Exchanges, turn_events, after_turn, AreServed, IsServed, IsAnswered, goes_to, node_arrives, CanTurn, IsUnarmed, IsNext, SomethingOpen, NothingOpen, AreTurns, turns_events, IsSettling, Settles}
use Rattle.co_law_settle.specs.SettlingMeasure.{AreCounted, TurnLowers, pairs_in, numbers_in_state, events_left}
use Rattle.co_law_settle.specs.SettledRecords.{HoldsSerially}
use Rattle.co_law_settle.proofs.Falling.{Calm}
use Rattle.co_law_settle.proofs.OpenSets.{pair_counted, idle_counted, left_most}
use Rattle.co_law_settle.proofs.Counting.{most_down}
use Rattle.co_law_settle.proofs.First.{settles_by}
use Rattle.co_law_settle.proofs.Lowering.{deliver_is}
use Rattle.co_law_settle.proofs.Turns.{exchanged, can_done, next_done, TurnsDone, turns_done, one_more}
use Rattle.co_law_settle.proofs.Ending.{settles_from}
use Rattle.co_law_settle.proofs.QuietTimers.{quiet_timers}
use Rattle.co_law_settle.proofs.OneWay.{one_way}

-- what is left somewhere is counted
pub counted : (s : Federation) → AreCounted (pairs_in s) (numbers_in_state s) s
counted s = record { between = pair_counted s; idle = idle_counted s }

-- where nothing is open
holds_serially : (s0 s : Federation) → Facts s → Grows s0 s → NothingOpen s → (m : ℕ) → IsMember s m → HoldsSerially s0 s m
holds_serially s0 s f grows none m i =
    record {
      durable = logs_give s f m ∙ ap (λ all. all m) (same_serial s0 s grows s.decided);
      installed =
          same_map nat_list_cmp_total (slice_cmp-IsAntisymmetric nat_cmp-IsAntisymmetric) _ _
          (λ q. sym (((f.members m).views Memory).image.untouched q (λ t vote e d. absurd (none t (VotedAt m i (found_holds (s.member m).engine.voted t vote e))))))
          ∙ ap (λ all. all m) (same_serial s0 s grows s.decided);
    }

module _ (kinds : List Kind) (coords : ℕ) (fm fc : ℕ → Found) (hs : List Happening) (g : AreOpenable kinds coords fm fc) (own : AreOwnLogs kinds coords fm fc)
    (v : AreTrueVerdicts hs (opened kinds coords fm fc)) (names : AreOwn (length kinds) coords hs) where
  here : Reached (run hs (opened kinds coords fm fc))
  here = reached kinds coords fm fc hs g own v names

  -- where every armed stop was taken away
  pub calm : Calm (disarmed (run hs (opened kinds coords fm fc)))
  calm =
      let s = run hs (opened kinds coords fm fc) in
      record {
        facts = step_keeps s here.facts happening.Disarm tt;
        sessions = here.sessions;
        opened = record { votes = here.opened.votes; commits = here.opened.commits };
        members = λ m. refl;
        coords = λ c. refl;
      }

  -- settling is never stuck
  pub never_stuck : (t : ℕ) → IsOpen (run hs (opened kinds coords fm fc)) t → SettlesBy (run hs (opened kinds coords fm fc))
  never_stuck t open' = settles_by (run hs (opened kinds coords fm fc)) here.facts here.sessions here.opened t open'

  pub calm_at : IsUnarmed (run hs (opened kinds coords fm fc)) → Calm (run hs (opened kinds coords fm fc))
  calm_at u = record { facts = here.facts; sessions = here.sessions; opened = here.opened; members = u.members; coords = u.coords }

  pub served : IsUnarmed (run hs (opened kinds coords fm fc)) → AllUp (run hs (opened kinds coords fm fc)) → (e : Exchange) → IsEnabled (run hs (opened kinds coords fm fc)) e →
      AreServed (turn_events (run hs (opened kinds coords fm fc)) (Exchanges e)) (run hs (opened kinds coords fm fc))
  served u up e h = let x = exchanged (run hs (opened kinds coords fm fc)) (calm_at u) up e h in (x.0.first, x.0.rest.served)

  pub lowers : IsUnarmed (run hs (opened kinds coords fm fc)) → (turn : Turn) → CanTurn (run hs (opened kinds coords fm fc)) turn → TurnLowers (run hs (opened kinds coords fm fc)) turn
  lowers u turn can = (can_done (run hs (opened kinds coords fm fc)) (calm_at u) turn can).lowers

  -- no turn makes a transaction busy
  pub wakes : IsUnarmed (run hs (opened kinds coords fm fc)) → (turn : Turn) → CanTurn (run hs (opened kinds coords fm fc)) turn → (t : ℕ) → IsBusy (after_turn (run hs (opened kinds coords fm fc)) turn) t →
      IsBusy (run hs (opened kinds coords fm fc)) t
  wakes u turn can = (can_done (run hs (opened kinds coords fm fc)) (calm_at u) turn can).busy

  -- settling so far
  so_far : (turns : List Turn) → AreTurns turns (disarmed (run hs (opened kinds coords fm fc))) →
      TurnsDone (pairs_in (run hs (opened kinds coords fm fc))) (numbers_in_state (run hs (opened kinds coords fm fc))) (disarmed (run hs (opened kinds coords fm fc)))
      (turns_events turns (disarmed (run hs (opened kinds coords fm fc))))
  so_far turns go =
      turns_done (pairs_in (run hs (opened kinds coords fm fc))) (numbers_in_state (run hs (opened kinds coords fm fc))) turns (disarmed (run hs (opened kinds coords fm fc))) calm
      (counted (disarmed (run hs (opened kinds coords fm fc)))) go

  pub bounded : length kinds ≤ most_members → coords ≤ most_coordinators → (events : List Event) → IsSettling (run hs (opened kinds coords fm fc)) events → length events ≤ settling_bound (run hs (opened kinds coords fm fc))
  bounded few some events settling =
      let s = disarmed (run hs (opened kinds coords fm fc)) in
      let a = (so_far settling.turns settling.goes).fewer in
      let b = most_down s in
      let c = left_most s in
      let d = ap length settling.same in
      let fit = fits kinds coords fm fc hs g own v names in
      let e = ap length fit.kinds in
      let k = fit.coordinators in
      omega (arith, few, some, a, b, c, d, e, k)

  pub ends : (events : List Event) × Settles (run hs (opened kinds coords fm fc)) events
  ends =
      let s = disarmed (run hs (opened kinds coords fm fc)) in
      let end = settles_from (pairs_in s) (numbers_in_state s) (events_left (pairs_in s) (numbers_in_state s) s) s calm (counted s) (omega arith) in
      (turns_events end.turns s, record { settling = record { turns = end.turns; goes = end.goes; same = refl }; done = end.done })

  calm_after : (events : List Event) → IsSettling (run hs (opened kinds coords fm fc)) events → Calm (run (lines events) (disarmed (run hs (opened kinds coords fm fc))))
  calm_after events settling = subst (λ l. Calm (run (lines l) (disarmed (run hs (opened kinds coords fm fc))))) (sym settling.same) (so_far settling.turns settling.goes).calm

  -- nor does settling, however far it has come
  pub settling_wakes : (events : List Event) → IsSettling (run hs (opened kinds coords fm fc)) events → (turn : Turn) → IsNext (run (lines events) (disarmed (run hs (opened kinds coords fm fc)))) turn → (t : ℕ) →
      IsBusy (after_turn (run (lines events) (disarmed (run hs (opened kinds coords fm fc)))) turn) t → IsBusy (run (lines events) (disarmed (run hs (opened kinds coords fm fc)))) t
  settling_wakes events settling turn next = (next_done (run (lines events) (disarmed (run hs (opened kinds coords fm fc)))) (calm_after events settling) turn next).busy

  -- however far settling has come
  pub next_turn : (events : List Event) → IsSettling (run hs (opened kinds coords fm fc)) events → (t : ℕ) → IsOpen (run (lines events) (disarmed (run hs (opened kinds coords fm fc)))) t →
      SettlesBy (run (lines events) (disarmed (run hs (opened kinds coords fm fc))))
  next_turn events settling t open' = settles_by (run (lines events) (disarmed (run hs (opened kinds coords fm fc)))) now.facts now.sessions now.opened t open'
    where
      now : Calm (run (lines events) (disarmed (run hs (opened kinds coords fm fc))))
      now = calm_after events settling

  -- two ways to settle are one
  pub one_settling : (events others : List Event) → Settles (run hs (opened kinds coords fm fc)) events → Settles (run hs (opened kinds coords fm fc)) others → events ≡ others
  one_settling events others a b =
      let s = disarmed (run hs (opened kinds coords fm fc)) in
      a.settling.same
      ∙ ap (λ turns. turns_events turns s)
      (one_way a.settling.turns b.settling.turns s calm a.settling.goes b.settling.goes (subst (λ l. NothingOpen (run (lines l) s)) a.settling.same a.done)
      (subst (λ l. NothingOpen (run (lines l) s)) b.settling.same b.done))
      ∙ sym b.settling.same

  grows : Grows (opened kinds coords fm fc) (run hs (opened kinds coords fm fc))
  grows = run_grows hs (opened kinds coords fm fc)

  -- after settling
  pub settled_serially : (events : List Event) → Settles (run hs (opened kinds coords fm fc)) events → (m : ℕ) →
      IsMember (run (lines events) (disarmed (run hs (opened kinds coords fm fc)))) m →
      HoldsSerially (opened kinds coords fm fc) (run (lines events) (disarmed (run hs (opened kinds coords fm fc)))) m
  settled_serially events settles m i =
      holds_serially (opened kinds coords fm fc) (run (lines events) (disarmed (run hs (opened kinds coords fm fc))))
      (subst (λ l. Facts (run (lines l) (disarmed (run hs (opened kinds coords fm fc))))) (sym settles.settling.same) (so_far settles.settling.turns settles.settling.goes).calm.facts)
      (grows_on (opened kinds coords fm fc) (run hs (opened kinds coords fm fc)) (run (lines events) (disarmed (run hs (opened kinds coords fm fc)))) grows
      (run_grows (happening.Disarm ∷ lines events) (run hs (opened kinds coords fm fc))))
      settles.done m i

-- the node itself answers what it is served
pub answered : (s : Federation) (e : Event) → IsServed s e → IsAnswered s e
answered s (event.Resend t c) u = ap (λ b. up_coord s c b (coord_resend c (s.coord c) t)) u
answered s (event.Vote t m) u = ap (λ b. up_member s m b (member_vote m (s.member m) t)) u
answered s (event.Ask t m) u = ap (λ b. up_member s m b (member_ask m (s.member m) t)) u
answered s (event.Deliver note) p = deliver_is s note p.0 ∙ by note p.1
  where
    by : (note : Message) → node_up s (goes_to note) ≡ true → arrives s note ≡ node_arrives s note
    by (message.Prepare t c m n) u = ap (λ b. up_member s m b (member_deliver m (s.member m) (message.Prepare t c m n))) u
    by (message.Vote t m c granted) u = ap (λ b. up_coord s c b (coord_deliver c (s.coord c) (message.Vote t m c granted))) u
    by (message.Decide t c m commit) u = ap (λ b. up_member s m b (member_deliver m (s.member m) (message.Decide t c m commit))) u
    by (message.Ask t m c) u = ap (λ b. up_coord s c b (coord_deliver c (s.coord c) (message.Ask t m c))) u
    by (message.Ack t m c) u = ap (λ b. up_coord s c b (coord_deliver c (s.coord c) (message.Ack t m c))) u
answered s (event.Begin t c) u = absurd u
answered s (event.Local t m) u = absurd u
answered s (event.Read t m key) u = absurd u
answered s (event.Write t m key value) u = absurd u
answered s (event.Erase t m key) u = absurd u
answered s (event.Scan t m span) u = absurd u
answered s (event.Commit t) u = absurd u
answered s (event.Abort t) u = absurd u
answered s (event.Timer t at) u = absurd u
answered s (event.Crash at) u = absurd u
answered s (event.Restart at) u = absurd u
answered s (event.Arm at call leaves) u = absurd u
answered s (event.Checkpoint at) u = absurd u

pub serially : (kinds : List Kind) (coords : ℕ) (fm fc : ℕ → Found) (hs : List Happening) → AreOpenable kinds coords fm fc → AreTrueVerdicts hs (opened kinds coords fm fc) →
    NothingOpen (run hs (opened kinds coords fm fc)) → (m : ℕ) → IsMember (run hs (opened kinds coords fm fc)) m → HoldsSerially (opened kinds coords fm fc) (run hs (opened kinds coords fm fc)) m
serially kinds coords fm fc hs g v none m i =
    holds_serially (opened kinds coords fm fc) (run hs (opened kinds coords fm fc)) (run_keeps hs (opened kinds coords fm fc) (start_facts kinds coords fm fc g) v)
    (run_grows hs (opened kinds coords fm fc)) none m i

pub quiet : (s : Federation) (events : List Event) → IsSettling s events → (before after : List Event) (t : ℕ) (at : Node) → events ≡ before ++ event.Timer t at ∷ after → IsQuiet (run (lines before) (disarmed s))
quiet s events settling before after t at e = quiet_timers settling.turns (disarmed s) settling.goes before after t at (sym settling.same ∙ e)

pub goes_on : (s : Federation) (events : List Event) (turn : Turn) → IsSettling s events → SomethingOpen (run (lines events) (disarmed s)) → IsNext (run (lines events) (disarmed s)) turn →
    IsSettling s (events ++ turn_events (run (lines events) (disarmed s)) turn)
goes_on s events turn settling o n =
    let z = run (lines events) (disarmed s) in
    let more = one_more settling.turns turn (disarmed s) z (ap (λ l. run (lines l) (disarmed s)) (sym settling.same)) settling.goes o n in
    record { turns = settling.turns ++ turn ∷ []; goes = more.goes; same = ap (λ l. l ++ turn_events z turn) settling.same ∙ sym more.events }
