-- Each move of a coordinator keeps what each node keeps by itself.
use Rattle.std.proofs.Common.{◌≡◌, ℕ, Bool, true, false, ◌==◌, List, [], ◌∷◌, ◌++◌, Option, None, Some, refl, sym, ap, ◌∙◌, subst}
use Rattle.std.proofs.lemmas.Bool.{eqb-true, eqb-false}
use Rattle.co_record.specs.declared.record.Record.{Record}
use Rattle.co_record.specs.declared.record.Record.TheVariants as log
use Rattle.co_serial.specs.SerialRun.{with_at}
use Rattle.co_state.specs.Table.{Table, look, put, without}
use Rattle.co_plain.specs.declared.coord_state.CoordState.{CoordState}
use Rattle.co_plain.specs.declared.coord_state.Entry.{Entry}
use Rattle.co_plain.specs.declared.coord_state.Entry.TheVariants as entry
use Rattle.co_base.specs.declared.leaves.Stop.{Stop}
use Rattle.co_plain.specs.Numbers.{next_generation}
use Rattle.co_plain.specs.LogWrite.{with_filled_spare, with_spare, with_stop, with_waiting, generation_of}
use Rattle.co_plain.specs.CoordStep.{with_table, with_coord_log, coord_down}
use Rattle.co_plain.specs.CoordLog.{coord_spare}
use Rattle.co_plain.specs.Sessions.{parts_of}
use Rattle.co_plain.specs.Federation.{Federation, with_coord}
use Rattle.co_plain.specs.Decisions.{told_of}
use Rattle.co_plain.specs.Moves.{Collect, RecordYes, Leave, RecordAck, End, CrashCoord, RestartCoord, ArmCoord, CloseCoordSpare, FillCoordSpare, effect, Guard, record_yes, record_ack}
use Rattle.co_law_base.proofs.Lookups.{put_there, without_here, without_there}
use Rattle.co_law_base.proofs.Facts.{rest_of, changed, CoordHas}
use Rattle.co_law_base.proofs.Carrying.{at_each, ClientsOn, clients_coord}
use Rattle.co_law_base.proofs.Commits.{unended_some}
use Rattle.co_law_base.proofs.Tabled.{EntryFits, coord_put, coord_without}
use Rattle.co_law_base.proofs.CoordMoves.{yes_fits, ack_fits, collect_fits, ended_has, crashed_has, filled_has}
use Rattle.co_plain.specs.CoordInvariants.{OwnEnds}
use Rattle.co_law_moves.proofs.Own.{OwnFacts}

-- the clients stay
pub clients_stay : (s : Federation) → ClientsOn (rest_of s) s.sessions s.sent
clients_stay s = record { told_same = λ t h. refl; asked_on = λ t h. h; by_on = λ t c h. h; sent_on = λ note h. h }

-- a change of one coordinator
pub own_coord : (s : Federation) → OwnFacts s → (c : ℕ) (y : CoordState) → CoordHas (rest_of s) c y → OwnEnds y.table y.log.stable y.log.waiting → OwnFacts (with_coord s c y)
own_coord s f c y has ends =
    record {
      numbers = f.numbers;
      members = f.members;
      coords = at_each (λ d z. CoordHas (changed (rest_of s) coord s.sessions s.sent) d z) s.coord c y (carried c y has) (λ d. carried d (s.coord d) (f.coords d));
      ends = at_each (λ d z. OwnEnds z.table z.log.stable z.log.waiting) s.coord c y ends f.ends;
      sent = f.sent;
    }
  where
    coord : ℕ → CoordState
    coord = with_at s.coord c y

    carried : (d : ℕ) (z : CoordState) → CoordHas (rest_of s) d z → CoordHas (changed (rest_of s) coord s.sessions s.sent) d z
    carried d z = clients_coord (rest_of s) coord s.sessions s.sent (clients_stay s) d z.table z.log.stable z.log.waiting

-- what waits under another table
pub ends_under : (table next : Table Entry) (stable rs : List Record) → ((t : ℕ) → look table t ≡ None → look next t ≡ None) → OwnEnds table stable rs → OwnEnds next stable rs
ends_under table next stable [] h w = tt
ends_under table next stable (log.End t ∷ rs) h w = (h t w.0, w.1, ends_under table next stable rs h w.2)
ends_under table next stable (log.Header a b ∷ rs) h w = absurd w
ends_under table next stable (log.Prepare a b c d e ∷ rs) h w = absurd w
ends_under table next stable (log.Commit a b ∷ rs) h w = absurd w
ends_under table next stable (log.Abort a ∷ rs) h w = absurd w
ends_under table next stable (log.Checkpoint a b c ∷ rs) h w = absurd w

-- who is not there is not there when one is taken out
pub fewer_there : (table : Table Entry) (t u : ℕ) → look table u ≡ None → look (without table t) u ≡ None
fewer_there table t u h = by (t == u) refl
  where
    by : (b : Bool) → (t == u) ≡ b → look (without table t) u ≡ None
    by true e = ap (look (without table t)) (sym (eqb-true t u e)) ∙ without_here table t
    by false e = without_there table t u (eqb-false t u e) ∙ h

module _ (s : Federation) (f : OwnFacts s) (c : ℕ) where
  -- an entry takes the place of another one
  own_replaced : (t : ℕ) (e x : Entry) → look (s.coord c).table t ≡ Some e → EntryFits (rest_of s) c (s.coord c).log.stable (s.coord c).log.waiting t x →
      OwnFacts (with_coord s c (with_table (s.coord c) (put (s.coord c).table t x)))
  own_replaced t e x is fits =
      own_coord s f c (with_table (s.coord c) (put (s.coord c).table t x))
      (coord_put (rest_of s) c (s.coord c).log.stable (s.coord c).log.waiting (s.coord c).table t x (f.coords c) fits)
      (ends_under (s.coord c).table (put (s.coord c).table t x) (s.coord c).log.stable (s.coord c).log.waiting
      (λ u n. put_there (s.coord c).table t x u (λ q. let z : Some e ≡ None = sym is ∙ ap (look (s.coord c).table) q ∙ n in cc) ∙ n) (f.ends c))

  pub own_collect : (t : ℕ) → Guard s (Collect t c) → OwnFacts (effect s (Collect t c))
  own_collect t g =
      own_replaced t entry.Idle (entry.Collecting (parts_of (told_of s t)) []) g.0 (collect_fits (rest_of s) c (s.coord c).log.stable t ((f.coords c).idle t g.0) g.2 g.3)

  pub own_record_yes : (t m : ℕ) → Guard s (RecordYes t c m) → OwnFacts (effect s (RecordYes t c m))
  own_record_yes t m g =
      subst (λ o. OwnFacts (record_yes s t c m o)) (sym g.2)
      (own_replaced t (entry.Collecting g.0 g.1) (entry.Collecting g.0 (m ∷ g.1)) g.2
      (yes_fits (rest_of s) c (s.coord c).log.stable t m g.0 g.1 ((f.coords c).collecting t g.0 g.1 g.2) g.4 g.5))

  pub own_record_ack : (t m : ℕ) → Guard s (RecordAck t c m) → OwnFacts (effect s (RecordAck t c m))
  own_record_ack t m g =
      subst (λ o. OwnFacts (record_ack s t c m o)) (sym g.2)
      (own_replaced t (entry.Committed g.0 g.1) (entry.Committed g.0 (m ∷ g.1)) g.2
      (ack_fits (rest_of s) c (s.coord c).log.stable (s.coord c).log.waiting t m g.0 g.1 ((f.coords c).committed t g.0 g.1 g.2) g.4 g.5))

  pub own_leave : (t : ℕ) → OwnFacts (effect s (Leave t c))
  own_leave t =
      own_coord s f c (with_table (s.coord c) (without (s.coord c).table t))
      (coord_without (rest_of s) c (s.coord c).log.stable (s.coord c).log.waiting (s.coord c).table t (f.coords c))
      (ends_under (s.coord c).table (without (s.coord c).table t) (s.coord c).log.stable (s.coord c).log.waiting (fewer_there (s.coord c).table t) (f.ends c))

  -- the end record waits, of who had a commit with participants and is in the table no more
  pub own_end : (t : ℕ) → Guard s (End t c) → OwnFacts (effect s (End t c))
  own_end t g =
      let old = (f.coords c).committed t g.0 g.1 g.3 in
      own_coord s f c (with_coord_log (with_table (s.coord c) (without (s.coord c).table t)) (with_waiting (s.coord c).log (log.End t)))
      (ended_has (rest_of s) c (s.coord c) t (f.coords c)) (
        without_here (s.coord c).table t,
        (g.0, old.logged, unended_some ((s.coord c).log.waiting ++ (s.coord c).log.stable) t g.0 old.logged),
        ends_under (s.coord c).table (without (s.coord c).table t) (s.coord c).log.stable (s.coord c).log.waiting (fewer_there (s.coord c).table t) (f.ends c),
      )

  pub own_coord_crash : OwnFacts (effect s (CrashCoord c))
  own_coord_crash = own_coord s f c (coord_down (s.coord c).log) (crashed_has (rest_of s) c (s.coord c) (f.coords c)) tt

  pub own_coord_restart : OwnFacts (effect s (RestartCoord c))
  own_coord_restart = own_coord s f c (record { up = true; table = (s.coord c).table; log = (s.coord c).log }) (f.coords c) (f.ends c)

  pub own_coord_arm : (stop : Option Stop) → OwnFacts (effect s (ArmCoord c stop))
  own_coord_arm stop = own_coord s f c (with_coord_log (s.coord c) (with_stop (s.coord c).log stop)) (f.coords c) (f.ends c)

  pub own_coord_close : (closed : Bool) → OwnFacts (effect s (CloseCoordSpare c closed))
  own_coord_close closed = own_coord s f c (with_coord_log (s.coord c) (with_spare (s.coord c).log closed)) (f.coords c) (f.ends c)

  pub own_coord_fill : OwnFacts (effect s (FillCoordSpare c))
  own_coord_fill =
      own_coord s f c (with_coord_log (s.coord c) (with_filled_spare (s.coord c).log (coord_spare c (s.coord c) (next_generation (generation_of (s.coord c).log.stable)))))
      (filled_has (rest_of s) c (s.coord c) (f.coords c)) tt
