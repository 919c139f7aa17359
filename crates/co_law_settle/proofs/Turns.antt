-- Each turn of settling lowers what is left, and so settling ends.
use Rattle.std.proofs.Common.{◌≡◌, ℕ, suc, Bool, true, false, ◌≤◌, ◌+◌, List, [], ◌∷◌, ◌++◌, length, Option, None, Some, refl, sym, ap, ◌∙◌, subst, arith}
use Rattle.std.proofs.lemmas.List.{length-append, append_assoc, append-nil}
use Rattle.co_base.specs.declared.node.Node.{Node}
use Rattle.co_base.specs.declared.node.Node.TheVariants as node
use Rattle.co_message.specs.declared.event.Event.{Event}
use Rattle.co_serial.specs.SerialRun.{with_at}
use Rattle.co_state.specs.Table.{look}
use Rattle.co_plain.specs.declared.coord_state.CoordState.{CoordState}
use Rattle.co_plain.specs.declared.coord_state.Entry.{Entry}
use Rattle.co_plain.specs.declared.coord_state.Entry.TheVariants as entry
use Rattle.co_plain.specs.declared.member_state.MemberState.{MemberState}
use Rattle.co_plain.specs.MemberLog.{restart_by}
use Rattle.co_plain.specs.CoordLog.{coord_restart_by}
use Rattle.co_plain.specs.Federation.{Federation, at_member, at_coord}
use Rattle.co_plain.specs.Step.{step_line}
use Rattle.co_plain.specs.Runs.{run, lines}
use Rattle.co_plain.specs.Quiet.{IsMember, IsNode, node_up, Exchange, Prepares, Votes, Commits, Asks, IsEnabled, IsBusy}
use Rattle.co_plain.specs.Settling.{exchange_txn, exchange_member, timer_ends, is_idle, SettlesBy, ByRestart, ByExchange, ByTimer}
use Rattle.co_law_base.proofs.Carrying.{at_each, at_here}
use Rattle.co_law_settle.specs.SettlingTurns.{AllUp, Turn, Restarts, Exchanges, Fires, first_event, wanted, turn_events, after_turn, turn_of, IsNext, CanTurn, AreTurns, turns_events, SomethingOpen}
use Rattle.co_law_settle.specs.SettlingMeasure.{RaiseNothing, left_of, one_down, down_count, events_left, AreCounted, TurnLowers, lowered_by}
use Rattle.co_law_settle.proofs.Falling.{Calm, Falls}
use Rattle.co_law_settle.proofs.Reaching.{deliveries_count}
use Rattle.co_law_settle.proofs.Lowering.{Next}
use Rattle.co_law_settle.proofs.Prepares.{Exchanged, prepares, votes}
use Rattle.co_law_settle.proofs.OtherExchanges.{commits, asks}
use Rattle.co_law_settle.proofs.Timers.{active_timer, idle_timer, Restarted, member_restarts, coord_restarts}
use Rattle.co_law_settle.proofs.Counting.{to_lowers, left_falls, left_lowers, idle_lowers, none_down}

-- every exchange that can help is done
pub exchanged : (s : Federation) → Calm s → AllUp s → (e : Exchange) → IsEnabled s e → Exchanged s (exchange_txn e) (exchange_member e) e × IsMember s (exchange_member e)
exchanged s calm up (Prepares t m c) h = (prepares s calm up t m c h, h.0)
exchanged s calm up (Votes t m) h = (votes s calm up t m h, h.0)
exchanged s calm up (Commits t m c) h = (commits s calm up t m c h, h.0)
exchanged s calm up (Asks t m c) h = (asks s calm up t m c h, h.0)

few_wanted : (e : Exchange) → length (wanted e) ≤ 2
few_wanted (Prepares t m c) = omega arith
few_wanted (Votes t m) = omega arith
few_wanted (Commits t m c) = omega arith
few_wanted (Asks t m c) = omega arith

-- a turn that was done
pub record Done (s : Federation) (turn : Turn) : Type 0 where
  pub calm : Calm (after_turn s turn)
  pub falls : Falls s (after_turn s turn)
  pub busy : (u : ℕ) → IsBusy (after_turn s turn) u → IsBusy s u
  pub lowers : TurnLowers s turn

-- a turn after which all nodes are up, and that lowers what is left
all_up_done : (s : Federation) (turn : Turn) → length (turn_events s turn) ≤ 3 → lowered_by turn ≡ 1 → RaiseNothing (turn_events s turn) s → Next s (after_turn s turn) →
    ((pairs : ℕ → List ℕ) (numbers : List ℕ) → AreCounted pairs numbers s → suc (left_of pairs numbers (after_turn s turn)) ≤ left_of pairs numbers s) → Done s turn
all_up_done s turn few one each n lower =
    record {
      calm = n.calm;
      falls = n.falls;
      busy = n.busy;
      lowers = record {
        each = each;
        lowers = λ pairs numbers c. let l = lower pairs numbers c in omega (arith, l, one);
        events = λ pairs numbers c. let l = lower pairs numbers c in let d = none_down (after_turn s turn) n.up in omega (arith, l, d, few);
      };
    }

pub exchange_done : (s : Federation) → Calm s → AllUp s → (e : Exchange) → IsEnabled s e → Done s (Exchanges e)
exchange_done s calm up e h =
    let x = exchanged s calm up e h in
    let count = deliveries_count (wanted e) (step_line s (first_event e)) in
    let few = few_wanted e in
    all_up_done s (Exchanges e) (omega (arith, count, few)) refl (x.0.raises, x.0.rest.raises) x.0.rest.ends.next
    (λ pairs numbers c. left_lowers pairs numbers s (after_turn s (Exchanges e)) x.0.rest.ends.next.falls (exchange_txn e) (exchange_member e) x.1
    (let l = x.0.rest.ends.lower in c.between (exchange_txn e) (exchange_member e) (omega (arith, l))) x.0.rest.ends.lower)

pub timer_done : (s : Federation) → Calm s → AllUp s → (t : ℕ) (at : Node) → IsNode s at → timer_ends s t at ≡ true → Done s (Fires t at)
timer_done s calm up t (node.Member m) i h =
    let x = active_timer s calm up t m i h in
    all_up_done s (Fires t (node.Member m)) (omega arith) refl ((x.next.falls.between, x.next.falls.idle), tt) x.next
    (λ pairs numbers c. left_lowers pairs numbers s (after_turn s (Fires t (node.Member m))) x.next.falls t m i (let l = x.lower in c.between t m (omega (arith, l))) x.lower)
timer_done s calm up t (node.Coord c) i h = by (look (s.coord c).table t) refl h
  where
    by : (o : Option Entry) → look (s.coord c).table t ≡ o → is_idle o ≡ true → Done s (Fires t (node.Coord c))
    by None e k = absurd (let z : false ≡ true = k in cc)
    by (Some (entry.Collecting parts yeses)) e k = absurd (let z : false ≡ true = k in cc)
    by (Some (entry.Committed ms acks)) e k = absurd (let z : false ≡ true = k in cc)
    by (Some entry.Idle) e k =
        let x = idle_timer s calm up t c i e in
        all_up_done s (Fires t (node.Coord c)) (omega arith) refl ((x.next.falls.between, x.next.falls.idle), tt) x.next
        (λ pairs numbers d. idle_lowers pairs numbers s (after_turn s (Fires t (node.Coord c))) x.next.falls t (let l = x.lower in d.idle t (omega (arith, l))) x.lower)

-- a restart
restart_done : (s z : Federation) (at : Node) → after_turn s (Restarts at) ≡ z → Restarted s z → suc (down_count z) ≤ down_count s → Done s (Restarts at)
restart_done s z at same r down =
    record {
      calm = subst Calm (sym same) r.calm;
      falls = falls;
      busy = subst (λ w. (u : ℕ) → IsBusy w u → IsBusy s u) (sym same) r.busy;
      lowers = record {
        each = ((falls.between, falls.idle), tt);
        lowers = λ pairs numbers c. let l = left_falls pairs numbers s (after_turn s (Restarts at)) falls in omega (arith, l);
        events = λ pairs numbers c. let l = left_falls pairs numbers s (after_turn s (Restarts at)) falls in let d = ap down_count same in omega (arith, l, d, down);
      };
    }
  where
    falls : Falls s (after_turn s (Restarts at))
    falls = subst (Falls s) (sym same) r.falls

same_down : (b : Bool) → one_down true ≤ one_down b
same_down true = omega arith
same_down false = omega arith

pub node_restarts : (s : Federation) → Calm s → (at : Node) → IsNode s at → node_up s at ≡ false → Done s (Restarts at)
node_restarts s calm (node.Member m) i d =
    restart_done s z (node.Member m) (ap (λ b. (at_member s m (restart_by (s.member m) b)).state) d) (member_restarts s calm m d)
    (let a = to_lowers (length s.kinds) (λ j. one_down (s.member j).up) (λ j. one_down (with_at s.member m x j).up)
    (at_each (λ j y. one_down y.up ≤ one_down (s.member j).up) s.member m x (same_down (s.member m).up) (λ j. omega arith)) m i.0 i.1
    (let here = ap (λ y. one_down y.up) (at_here s.member m x) in let was = ap one_down d in omega (arith, here, was)) in
    omega (arith, a))
  where
    x : MemberState
    x = (restart_by (s.member m) false).state

    z : Federation
    z = (at_member s m (restart_by (s.member m) false)).state
node_restarts s calm (node.Coord c) i d =
    restart_done s z (node.Coord c) (ap (λ b. (at_coord s c (coord_restart_by (s.coord c) b)).state) d) (coord_restarts s calm c d)
    (let a = to_lowers s.coordinators (λ j. one_down (s.coord j).up) (λ j. one_down (with_at s.coord c x j).up)
    (at_each (λ j y. one_down y.up ≤ one_down (s.coord j).up) s.coord c x (same_down (s.coord c).up) (λ j. omega arith)) c i.0 i.1
    (let here = ap (λ y. one_down y.up) (at_here s.coord c x) in let was = ap one_down d in omega (arith, here, was)) in
    omega (arith, a))
  where
    x : CoordState
    x = (coord_restart_by (s.coord c) false).state

    z : Federation
    z = (at_coord s c (coord_restart_by (s.coord c) false)).state

-- every turn that can be made, and so the one that a state calls for
pub can_done : (s : Federation) → Calm s → (turn : Turn) → CanTurn s turn → Done s turn
can_done s calm (Restarts at) p = node_restarts s calm at p.0 p.1
can_done s calm (Exchanges e) p = exchange_done s calm p.0 e p.1
can_done s calm (Fires t at) p = timer_done s calm p.0 t at p.1 p.2

can_exchange : (s : Federation) (e : Exchange) → AllUp s → IsEnabled s e → CanTurn s (Exchanges e)
can_exchange s e up h = (up, h)

pub can_turn : (s : Federation) (by : SettlesBy s) → CanTurn s (turn_of by)
can_turn s (ByRestart at first) = (first.is_node, first.down)
can_turn s (ByExchange e up first) = can_exchange s e up first.enabled
can_turn s (ByTimer t at quiet first) = (quiet.all_up, first.is_node, first.ends)

pub by_done : (s : Federation) → Calm s → (by : SettlesBy s) → Done s (turn_of by)
by_done s calm by = can_done s calm (turn_of by) (can_turn s by)

pub next_done : (s : Federation) → Calm s → (turn : Turn) → IsNext s turn → Done s turn
next_done s calm turn n = subst (Done s) n.1 (by_done s calm n.0)

pub counted_on : (pairs : ℕ → List ℕ) (numbers : List ℕ) (s z : Federation) → Falls s z → AreCounted pairs numbers s → AreCounted pairs numbers z
counted_on pairs numbers s z f c =
    record {
      between = λ t m h. let l = f.between t m in c.between t m (omega (arith, h, l));
      idle = λ t h. let l = f.idle t in c.idle t (omega (arith, h, l));
    }

-- one run after another
pub run_more : (xs ys : List Event) (s : Federation) → run (lines (xs ++ ys)) s ≡ run (lines ys) (run (lines xs) s)
run_more [] ys s = refl
run_more (x ∷ xs) ys s = run_more xs ys (step_line s x).state

-- the turns so far
pub record TurnsDone (pairs : ℕ → List ℕ) (numbers : List ℕ) (s : Federation) (events : List Event) : Type 0 where
  pub calm : Calm (run (lines events) s)
  pub fewer : length events + events_left pairs numbers (run (lines events) s) ≤ events_left pairs numbers s

pub turns_done : (pairs : ℕ → List ℕ) (numbers : List ℕ) (turns : List Turn) (s : Federation) → Calm s → AreCounted pairs numbers s → AreTurns turns s → TurnsDone pairs numbers s (turns_events turns s)
turns_done pairs numbers [] s calm c go = record { calm = calm; fewer = omega arith }
turns_done pairs numbers (turn ∷ turns) s calm c go =
    let first = next_done s calm turn go.1 in
    let rest = turns_done pairs numbers turns (after_turn s turn) first.calm (counted_on pairs numbers s (after_turn s turn) first.falls c) go.2 in
    let more = run_more (turn_events s turn) (turns_events turns (after_turn s turn)) s in
    let many = length-append (turn_events s turn) (turns_events turns (after_turn s turn)) in
    let count = ap (events_left pairs numbers) more in
    let a = first.lowers.events pairs numbers c in
    let b = rest.fewer in
    record { calm = subst Calm (sym more) rest.calm; fewer = omega (arith, many, count, a, b) }

-- turns, and one more
pub record OneMore (turns : List Turn) (turn : Turn) (s z : Federation) : Type 0 where
  pub goes : AreTurns (turns ++ turn ∷ []) s
  pub events : turns_events (turns ++ turn ∷ []) s ≡ turns_events turns s ++ turn_events z turn

pub one_more : (turns : List Turn) (turn : Turn) (s z : Federation) → run (lines (turns_events turns s)) s ≡ z → AreTurns turns s → SomethingOpen z → IsNext z turn → OneMore turns turn s z
one_more [] turn s z e go o n =
    record {
      goes = (subst SomethingOpen (sym e) o, subst (λ w. IsNext w turn) (sym e) n, tt);
      events = append-nil (turn_events s turn) ∙ ap (λ w. turn_events w turn) e;
    }
one_more (x ∷ xs) turn s z e go o n =
    let rest = one_more xs turn (after_turn s x) z (sym (run_more (turn_events s x) (turns_events xs (after_turn s x)) s) ∙ e) go.2 o n in
    record {
      goes = (go.0, go.1, rest.goes);
      events = ap (λ l. turn_events s x ++ l) rest.events ∙ sym (append_assoc (turn_events s x) (turns_events xs (after_turn s x)) (turn_events z turn));
    }
