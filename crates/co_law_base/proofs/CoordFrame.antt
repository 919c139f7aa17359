-- A change of one coordinator is carried over to all facts.
use Rattle.std.proofs.Common.{◌≡◌, ◌⊎◌, inl, inr, ℕ, true, ◌||◌, List, Some, refl}
use Rattle.std.proofs.lemmas.Bool.{or_cases, or_right}
use Rattle.co_serial.specs.SerialRun.{with_at}
use Rattle.co_state.specs.Table.{look, holds}
use Rattle.co_plain.specs.declared.coord_state.CoordState.{CoordState}
use Rattle.co_plain.specs.Federation.{Federation, with_coord}
use Rattle.co_plain.specs.SoundLogs.{unended_in}
use Rattle.co_plain.specs.Invariants.{Side, view, takes_part_in}
use Rattle.co_law_base.proofs.Facts.{rest_of, changed, entry_of, settled_at, alive, belongs, CoordHas, Facts}
use Rattle.co_law_base.proofs.Carrying.{at_each, Later, later_member, later_coord, later_records, later_sent, numbers_same}

-- What a new state of a coordinator must have.
pub record NewCoord (s : Federation) (c : ℕ) (y : CoordState) : Type 0 where
  pub has : CoordHas (rest_of s) c y
  -- nobody comes alive
  pub alive_back : (t : ℕ) → holds y.table t ≡ true → alive (rest_of s) c t ≡ true
  -- who takes part does so on, or is committed
  pub part : (t m : ℕ) → belongs (rest_of s) t c → (holds y.table t || settled_at (rest_of s) c t) ≡ true → takes_part_in (entry_of (rest_of s) c t) m ≡ true →
      (takes_part_in (look y.table t) m ≡ true) ⊎ ((side : Side) → holds (view side (s.member m)).committed t ≡ true)
  pub unended_back : (t : ℕ) (members : List ℕ) → unended_in y.log.stable t ≡ Some members → unended_in (s.coord c).log.stable t ≡ Some members

module _ (s : Federation) (c : ℕ) (y : CoordState) (new : NewCoord s c y) where
  later : Later (rest_of s) (with_at s.coord c y) s.sessions s.sent s.member
  later =
      record {
        told_same = λ t o. refl;
        counts = λ t m h. h;
        begun_on = λ t h. h;
        begun_back = λ t o h. h;
        asked_on = λ t h. h;
        by_on = λ t d h. h;
        by_back = λ t d o h. h;
        alive_back = λ t d o. at_each (λ d z. (holds z.table t || settled_at (rest_of s) d t) ≡ true → alive (rest_of s) d t ≡ true) s.coord c y (here t) (λ d h. h) d;
        part = λ t d m. at_each (λ d z. belongs (rest_of s) t d → (holds z.table t || settled_at (rest_of s) d t) ≡ true → takes_part_in (entry_of (rest_of s) d t) m ≡ true →
            (takes_part_in (look z.table t) m ≡ true) ⊎ ((side : Side) → holds (view side (s.member m)).committed t ≡ true)) s.coord c y (new.part t m) (λ d b a h. inl h) d;
        sent_on = λ note h. h;
      }
    where
      here : (t : ℕ) → (holds y.table t || settled_at (rest_of s) c t) ≡ true → alive (rest_of s) c t ≡ true
      here t h = by (or_cases (holds y.table t) (settled_at (rest_of s) c t) h)
        where
          by : (holds y.table t ≡ true) ⊎ (settled_at (rest_of s) c t ≡ true) → alive (rest_of s) c t ≡ true
          by (inl k) = new.alive_back t k
          by (inr k) = or_right _ _ k

  pub coord_change : Facts s → Facts (with_coord s c y)
  coord_change f =
      let r = rest_of s in
      let coord = with_at s.coord c y in
      record {
        numbers = numbers_same r coord s.sent f.numbers;
        members = λ m. later_member r f.numbers coord s.sessions s.sent s.member later m (λ t os g. refl) (f.members m);
        coords = λ d. at_each (λ d z. CoordHas (changed r coord s.sessions s.sent) d z) s.coord c y
            (later_coord r f.numbers coord s.sessions s.sent s.member later c y.table y.log.stable y.log.waiting new.has)
            (λ d. later_coord r f.numbers coord s.sessions s.sent s.member later d (s.coord d).table (s.coord d).log.stable (s.coord d).log.waiting (f.coords d)) d;
        sent = later_sent r f.numbers coord s.sessions s.member later f.sent;
        records = later_records r f.numbers coord s.sessions s.sent s.member later f.records
            (λ d t ms. at_each (λ d z. unended_in z.log.stable t ≡ Some ms → unended_in (s.coord d).log.stable t ≡ Some ms) s.coord c y (new.unended_back t ms) (λ d h. h) d);
        serially = f.serially;
      }
