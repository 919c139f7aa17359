-- The lists of a federation have exactly what the plain one has, in their order.
use Rattle.std.proofs.Common.{◌≡◌, ◌⊎◌, inl, inr, ℕ, ◌<◌, Bool, true, false, ◌||◌, ◌&&◌, List, length, Option, None, Some, refl, sym, ap, subst, ◌∙◌, arith, ◌↔◌}
use Rattle.std.specs.Prelude.{flat_map, AllPairs, Contains, is_some}
use Rattle.std.specs.FinMap.{keys}
use Rattle.std.proofs.lemmas.Bool.{or_cases}
use Rattle.co_base.specs.Order.{IsAscending}
use Rattle.co_recover.proofs.Ascending.{keys_ascend}
use Rattle.co_state.specs.Table.{look, holds, no_entries}
use Rattle.co_state.specs.declared.engine_state.Vote.{Vote}
use Rattle.co_state.specs.declared.verdict.Verdict.{Verdict}
use Rattle.co_state.specs.declared.verdict.Verdict.TheVariants.{LostOperations, StaleRead, HeldBy, VoteYes}
use Rattle.co_plain.specs.Federation.{Federation}
use Rattle.co_plain.specs.MemberView.{Numbers}
use Rattle.co_plain.specs.Quiet.{IsMember, IsOpen, InTable, ActiveAt, VotedAt}
use Rattle.co_plain.specs.declared.member_state.MemberState.{MemberState}
use Rattle.co_undecided.specs.Kept.{coord_asked}
use Rattle.co_member.specs.Reading.{verdict_where}
use Rattle.co_law_base.proofs.Lookups.{look_none, is_nothing}
use Rattle.co_cluster.specs.Listed.{is_undecided, is_undecided_up, any_to, AreNoted, found_to, where_so, doubt_of, doubt_at, IsDoubt, IsDoubtBefore, held_where, wait_of, wait_at, IsWait}
use Rattle.co_cluster.specs.declared.doubting.Doubt.{Doubt}
use Rattle.co_wait.specs.declared.wait.Wait.{Wait}
use Rattle.co_wait.specs.Chains.{IsWaitBefore}
use Rattle.co_cluster.proofs.Pairwise.{any_at, any_there, found_in, found_there, IsGiven, given_in, given_there, found_ascends, given_ascends, pairs_ascend, key_in, in_key}

-- ---- open transactions

none_noted : (test : ℕ → Bool) (numbers : Numbers) → AreNoted test no_entries numbers → (t : ℕ) → holds numbers t ≡ test t
none_noted test numbers noted t = noted t ∙ ap (λ b. b || test t) (ap is_some (look_none t))

module _ (s : Federation) where
  abbrev pub undecided_anywhere : ℕ → Bool
  undecided_anywhere t = any_to (length s.kinds) (λ m. is_undecided (s.member m).engine t)

  abbrev pub tabled_anywhere : ℕ → Bool
  tabled_anywhere t = any_to s.coordinators (λ c. holds (s.coord c).table t)

  opens : (t : ℕ) → (undecided_anywhere t || tabled_anywhere t) ≡ true → IsOpen s t
  opens t h = by (or_cases (undecided_anywhere t) (tabled_anywhere t) h)
    where
      at : (m : ℕ) → IsMember s m → (holds (s.member m).engine.active t ≡ true) ⊎ (holds (s.member m).engine.voted t ≡ true) → IsOpen s t
      at m own (inl e) = ActiveAt m own e
      at m own (inr e) = VotedAt m own e

      by : (undecided_anywhere t ≡ true) ⊎ (tabled_anywhere t ≡ true) → IsOpen s t
      by (inl e) = let x = any_at (length s.kinds) (λ m. is_undecided (s.member m).engine t) e in at x.node (x.from, x.to) (or_cases _ _ x.passes)
      by (inr e) = let x = any_at s.coordinators (λ c. holds (s.coord c).table t) e in InTable x.node (x.from, x.to) x.passes

  or_left : (a b : Bool) → a ≡ true → (a || b) ≡ true
  or_left true b e = refl
  or_left false b e = absurd (let z : false ≡ true = e in cc)

  or_right : (a b : Bool) → b ≡ true → (a || b) ≡ true
  or_right true b e = refl
  or_right false b e = e

  opened : (t : ℕ) → IsOpen s t → (undecided_anywhere t || tabled_anywhere t) ≡ true
  opened t (InTable c own h) = or_right (undecided_anywhere t) (tabled_anywhere t) (any_there s.coordinators (λ c. holds (s.coord c).table t) c own.0 own.1 h)
  opened t (ActiveAt m own h) =
      or_left (undecided_anywhere t) (tabled_anywhere t)
      (any_there (length s.kinds) (λ m. is_undecided (s.member m).engine t) m own.0 own.1 (or_left (holds (s.member m).engine.active t) (holds (s.member m).engine.voted t) h))
  opened t (VotedAt m own h) =
      or_left (undecided_anywhere t) (tabled_anywhere t)
      (any_there (length s.kinds) (λ m. is_undecided (s.member m).engine t) m own.0 own.1 (or_right (holds (s.member m).engine.active t) (holds (s.member m).engine.voted t) h))

  pub open_listed : (some all : Numbers) (txns : List ℕ) → txns ≡ keys all → AreNoted undecided_anywhere no_entries some → AreNoted tabled_anywhere some all → (t : ℕ) → Contains txns t ↔ IsOpen s t
  open_listed some all txns is members coords t = (
    λ c. opens t (sym (held t) ∙ in_key all t (subst (λ ts. Contains ts t) is c)),
    λ here. subst (λ ts. Contains ts t) (sym is) (key_in all t (held t ∙ opened t here)),
  )
    where
      held : (t : ℕ) → holds all t ≡ (undecided_anywhere t || tabled_anywhere t)
      held t = coords t ∙ ap (λ b. b || tabled_anywhere t) (none_noted undecided_anywhere some members t)

-- those of a set are listed
pub noted_listed : (test : ℕ → Bool) (numbers : Numbers) (txns : List ℕ) → txns ≡ keys numbers → AreNoted test no_entries numbers → (t : ℕ) → Contains txns t ↔ (test t ≡ true)
noted_listed test numbers txns is noted t = (
  λ c. sym (none_noted test numbers noted t) ∙ in_key numbers t (subst (λ ts. Contains ts t) is c),
  λ h. subst (λ ts. Contains ts t) (sym is) (key_in numbers t (none_noted test numbers noted t ∙ h)),
)

pub keys_listed : (numbers : Numbers) (txns : List ℕ) → txns ≡ keys numbers → IsAscending txns
keys_listed numbers txns is = subst IsAscending (sym is) (keys_ascend numbers)

-- ---- doubts

in_some : {X : Type 0} {x y : X} → Some x ≡ Some y → x ≡ y
in_some {x = x} {y = y} e = let h : Some x ≡ Some y = e in cc

record IsDoubtAt (x : MemberState) (t m : ℕ) (d : Doubt) : Type 0 where
  pub up : x.up ≡ true
  pub voted : coord_asked (look x.engine.voted t) ≡ Some d.coord
  pub txn : d.txn ≡ t
  pub member : d.member ≡ m

doubt_is : (s : Federation) (t m : ℕ) (d : Doubt) → doubt_at s t m ≡ Some d → IsDoubtAt (s.member m) t m d
doubt_is s t m d is = by (s.member m).up refl (coord_asked (look (s.member m).engine.voted t)) refl is
  where
    by : (b : Bool) → (s.member m).up ≡ b → (o : Option ℕ) → coord_asked (look (s.member m).engine.voted t) ≡ o → where_so b (doubt_of t m o) ≡ Some d → IsDoubtAt (s.member m) t m d
    by false up o voted e = is_nothing e
    by true up None voted e = is_nothing e
    by true up (Some c) voted e =
        let same = in_some e in
        record { up = up; voted = voted ∙ ap (λ (x : Doubt). Some x.coord) same; txn = sym (ap (λ (x : Doubt). x.txn) same); member = sym (ap (λ (x : Doubt). x.member) same) }

module _ (s : Federation) (txns : List ℕ) (listed : (t : ℕ) → Contains txns t ↔ (any_to (length s.kinds) (λ m. is_undecided_up (s.member m) t) ≡ true)) (up : IsAscending txns) where
  up_there : (t m : ℕ) → IsMember s m → is_undecided_up (s.member m) t ≡ true → Contains txns t
  up_there t m own h = (listed t).1 (any_there (length s.kinds) (λ k. is_undecided_up (s.member k) t) m own.0 own.1 h)

  abbrev doubts_about : ℕ → List Doubt
  doubts_about t = found_to (length s.kinds) (doubt_at s t)

  asked_held : (o : Option Vote) (c : ℕ) → coord_asked o ≡ Some c → is_some o ≡ true
  asked_held None c e = is_nothing e
  asked_held (Some v) c e = refl

  or_second : (a b : Bool) → b ≡ true → (a || b) ≡ true
  or_second true b e = refl
  or_second false b e = e

  or_first : (a b : Bool) → a ≡ true → (a || b) ≡ true
  or_first true b e = refl
  or_first false b e = absurd (let z : false ≡ true = e in cc)

  and_both : (a b : Bool) → a ≡ true → b ≡ true → (a && b) ≡ true
  and_both true b e f = f
  and_both false b e f = absurd (let z : false ≡ true = e in cc)

  doubt_there : (d : Doubt) → IsDoubt s d → doubt_at s d.txn d.member ≡ Some d
  doubt_there d x = λ i. where_so (x.up i) (doubt_of d.txn d.member (x.voted i))

  pub doubts_listed : (doubts : List Doubt) → doubts ≡ flat_map doubts_about txns → (d : Doubt) → Contains doubts d ↔ IsDoubt s d
  doubts_listed doubts is d = (
    λ c. from (given_in doubts_about txns d (subst (λ (ds : List Doubt). Contains ds d) is c)),
    λ x. subst (λ (ds : List Doubt). Contains ds d) (sym is) (given_there doubts_about txns d d.txn (there x) (found_there (length s.kinds) (doubt_at s d.txn) d d.member x.own.0 x.own.1 (doubt_there d x))),
  )
    where
      there : IsDoubt s d → Contains txns d.txn
      there x =
          up_there d.txn d.member x.own
          (and_both (s.member d.member).up (is_undecided (s.member d.member).engine d.txn) x.up
          (or_second (holds (s.member d.member).engine.active d.txn) (holds (s.member d.member).engine.voted d.txn) (asked_held (look (s.member d.member).engine.voted d.txn) d.coord x.voted)))

      from : IsGiven doubts_about txns d → IsDoubt s d
      from g =
          let f = found_in (length s.kinds) (doubt_at s g.txn) d g.gives in
          let a = doubt_is s g.txn f.node d f.is in
          record {
            own = subst (λ k. IsMember s k) (sym a.member) (f.from, f.to);
            up = ap (λ k. (s.member k).up) a.member ∙ a.up;
            voted = (λ i. coord_asked (look (s.member (a.member i)).engine.voted (a.txn i))) ∙ a.voted;
          }

  doubts_ascend_at : (t : ℕ) (m k : ℕ) (x y : Doubt) → m < k → doubt_at s t m ≡ Some x → doubt_at s t k ≡ Some y → IsDoubtBefore x y
  doubts_ascend_at t m k x y l ex ey = let a = doubt_is s t m x ex in let b = doubt_is s t k y ey in inr (a.txn ∙ sym b.txn, let e = a.member in let f = b.member in omega (arith, e, f, l))

  doubts_ascend_over : (t u : ℕ) (x y : Doubt) → t < u → Contains (doubts_about t) x → Contains (doubts_about u) y → IsDoubtBefore x y
  doubts_ascend_over t u x y l c d =
      let f = found_in (length s.kinds) (doubt_at s t) x c in
      let g = found_in (length s.kinds) (doubt_at s u) y d in
      let e = (doubt_is s t f.node x f.is).txn in
      let h = (doubt_is s u g.node y g.is).txn in
      inl (omega (arith, e, h, l))

  pub doubts_ascend : (doubts : List Doubt) → doubts ≡ flat_map doubts_about txns → AllPairs IsDoubtBefore doubts
  doubts_ascend doubts is =
      subst (λ (ds : List Doubt). AllPairs IsDoubtBefore ds) (sym is)
      (pairs_ascend IsDoubtBefore (flat_map doubts_about txns)
      (given_ascends IsDoubtBefore doubts_about txns up (λ t. found_ascends IsDoubtBefore (length s.kinds) (doubt_at s t) (doubts_ascend_at t)) doubts_ascend_over))

  -- ---- waits

  record IsWaitAt (t m : ℕ) (w : Wait) : Type 0 where
    pub runs : (s.member m).up ≡ true
    pub active : holds (s.member m).engine.active t ≡ true
    pub held : verdict_where (s.member m).engine t (look (s.member m).asked t) ≡ Some (HeldBy w.by)
    pub txn : w.held ≡ t
    pub member : w.member ≡ m

  wait_is : (t m : ℕ) (w : Wait) → wait_at s t m ≡ Some w → IsWaitAt t m w
  wait_is t m w is = by (s.member m).up refl (holds (s.member m).engine.active t) refl (verdict_where (s.member m).engine t (look (s.member m).asked t)) refl is
    where
      by : (b : Bool) → (s.member m).up ≡ b → (a : Bool) → holds (s.member m).engine.active t ≡ a → (o : Option Verdict) → verdict_where (s.member m).engine t (look (s.member m).asked t) ≡ o →
          wait_of t m (held_where b a o) ≡ Some w → IsWaitAt t m w
      by false runs a active o held e = is_nothing e
      by true runs false active o held e = is_nothing e
      by true runs true active None held e = is_nothing e
      by true runs true active (Some LostOperations) held e = is_nothing e
      by true runs true active (Some (StaleRead key)) held e = is_nothing e
      by true runs true active (Some (HeldBy u)) held e =
          let same = in_some e in
          record { runs = runs; active = active; held = held ∙ ap (λ (x : Wait). Some (HeldBy x.by)) same; txn = sym (ap (λ (x : Wait). x.held) same); member = sym (ap (λ (x : Wait). x.member) same) }
      by true runs true active (Some VoteYes) held e = is_nothing e

  abbrev waits_of : ℕ → List Wait
  waits_of t = found_to (length s.kinds) (wait_at s t)

  wait_there : (w : Wait) → IsWait s w → wait_at s w.held w.member ≡ Some w
  wait_there w x = λ i. wait_of w.held w.member (held_where (x.up i) (x.active i) (x.held i))

  pub waits_listed : (waits : List Wait) → waits ≡ flat_map waits_of txns → (w : Wait) → Contains waits w ↔ IsWait s w
  waits_listed waits is w = (
    λ c. from (given_in waits_of txns w (subst (λ (ws : List Wait). Contains ws w) is c)),
    λ x. subst (λ (ws : List Wait). Contains ws w) (sym is) (given_there waits_of txns w w.held (there x) (found_there (length s.kinds) (wait_at s w.held) w w.member x.own.0 x.own.1 (wait_there w x))),
  )
    where
      there : IsWait s w → Contains txns w.held
      there x =
          up_there w.held w.member x.own
          (and_both (s.member w.member).up (is_undecided (s.member w.member).engine w.held) x.up
          (or_first (holds (s.member w.member).engine.active w.held) (holds (s.member w.member).engine.voted w.held) x.active))

      from : IsGiven waits_of txns w → IsWait s w
      from g =
          let f = found_in (length s.kinds) (wait_at s g.txn) w g.gives in
          let a = wait_is g.txn f.node w f.is in
          record {
            own = subst (λ k. IsMember s k) (sym a.member) (f.from, f.to);
            up = ap (λ k. (s.member k).up) a.member ∙ a.runs;
            active = (λ i. holds (s.member (a.member i)).engine.active (a.txn i)) ∙ a.active;
            held = (λ i. verdict_where (s.member (a.member i)).engine (a.txn i) (look (s.member (a.member i)).asked (a.txn i))) ∙ a.held;
          }

  waits_ascend_at : (t : ℕ) (m k : ℕ) (x y : Wait) → m < k → wait_at s t m ≡ Some x → wait_at s t k ≡ Some y → IsWaitBefore x y
  waits_ascend_at t m k x y l ex ey = let a = wait_is t m x ex in let b = wait_is t k y ey in inr (a.txn ∙ sym b.txn, let e = a.member in let f = b.member in omega (arith, e, f, l))

  waits_ascend_over : (t u : ℕ) (x y : Wait) → t < u → Contains (waits_of t) x → Contains (waits_of u) y → IsWaitBefore x y
  waits_ascend_over t u x y l c d =
      let f = found_in (length s.kinds) (wait_at s t) x c in
      let g = found_in (length s.kinds) (wait_at s u) y d in
      let e = (wait_is t f.node x f.is).txn in
      let h = (wait_is u g.node y g.is).txn in
      inl (omega (arith, e, h, l))

  pub waits_ascend : (waits : List Wait) → waits ≡ flat_map waits_of txns → AllPairs IsWaitBefore waits
  waits_ascend waits is =
      subst (λ (ws : List Wait). AllPairs IsWaitBefore ws) (sym is)
      (pairs_ascend IsWaitBefore (flat_map waits_of txns)
      (given_ascends IsWaitBefore waits_of txns up (λ t. found_ascends IsWaitBefore (length s.kinds) (wait_at s t) (waits_ascend_at t)) waits_ascend_over))
