-- What a change of one member, or of one coordinator, does to what is left.
use Rattle.std.proofs.Common.{◌≡◌, ◌≢◌, ◌⊎◌, inl, inr, ℕ, zero, suc, Bool, true, false, ◌||◌, ◌==◌, ◌≤◌, if◌then◌else◌, length, Option, None, refl, sym, ap, ◌∙◌, subst, arith}
use Rattle.std.proofs.lemmas.Bool.{or_cases, or_left, or_right, eqb-true, eqb-false}
use Rattle.co_base.specs.declared.node.Node.TheVariants as node
use Rattle.co_serial.specs.SerialRun.{with_at}
use Rattle.co_state.specs.Table.{look, holds}
use Rattle.co_plain.specs.declared.coord_state.CoordState.{CoordState}
use Rattle.co_plain.specs.declared.coord_state.Entry.{Entry}
use Rattle.co_plain.specs.declared.coord_step.CoordStep.{CoordStep}
use Rattle.co_plain.specs.declared.member_state.MemberState.{MemberState}
use Rattle.co_plain.specs.declared.member_step.MemberStep.{MemberStep}
use Rattle.co_plain.specs.Federation.{Federation, at_member, at_coord}
use Rattle.co_plain.specs.Quiet.{IsMember, IsCoordinator, lacks_yes, lacks_ack, busy_at, busy_in, IsBusy, BusyAt, BusyIn}
use Rattle.co_plain.specs.Settling.{is_idle}
use Rattle.co_law_base.proofs.Facts.{Facts}
use Rattle.co_law_base.proofs.Carrying.{at_each}
use Rattle.co_law_runs.proofs.Fitting.{FitSessions}
use Rattle.co_law_runs.proofs.InQuiet.{OpenedFit}
use Rattle.co_law_settle.specs.SettlingTurns.{AllUp}
use Rattle.co_law_settle.specs.SettlingMeasure.{any_to, yes_lacking, ack_lacking, weight, weight_at, left_between, left_idle}

-- tests over the numbers from 1 to some
pub any_found : (n : ℕ) (p : ℕ → Bool) → any_to n p ≡ true → (i : ℕ) × (1 ≤ i) × (i ≤ n) × (p i ≡ true)
any_found zero p h = absurd (let z : false ≡ true = h in cc)
any_found (suc n) p h = by (any_found n p) (or_cases (any_to n p) (p (suc n)) h)
  where
    by : (any_to n p ≡ true → (i : ℕ) × (1 ≤ i) × (i ≤ n) × (p i ≡ true)) → (any_to n p ≡ true) ⊎ (p (suc n) ≡ true) → (i : ℕ) × (1 ≤ i) × (i ≤ suc n) × (p i ≡ true)
    by rest (inl k) = let r = rest k in let l = r.2 in (r.0, r.1, omega (arith, l), r.3)
    by rest (inr k) = (suc n, omega arith, omega arith, k)

pub found_any : (n : ℕ) (p : ℕ → Bool) (i : ℕ) → 1 ≤ i → i ≤ n → p i ≡ true → any_to n p ≡ true
found_any zero p i l u h = absurd (omega (arith, l, u))
found_any (suc n) p i l u h = by (found_any n p i l) (i == suc n) refl
  where
    by : (i ≤ n → p i ≡ true → any_to n p ≡ true) → (b : Bool) → (i == suc n) ≡ b → (any_to n p || p (suc n)) ≡ true
    by rest true e = or_right (any_to n p) (p (suc n)) (ap p (sym (eqb-true i (suc n) e)) ∙ h)
    by rest false e = let d = eqb-false i (suc n) e in or_left (any_to n p) (p (suc n)) (rest (omega (arith, u, d)) h)

-- weights, by their five tests
pub weight_least : (a k v y b : Bool) (j : Bool) → weight false j false y b ≤ weight a k v y b
weight_least true true v true b j = omega arith
weight_least true true v false true j = omega arith
weight_least true true v false false j = omega arith
weight_least true false v true b j = omega arith
weight_least true false v false true j = omega arith
weight_least true false v false false j = omega arith
weight_least false k true true b j = omega arith
weight_least false k true false true j = omega arith
weight_least false k true false false j = omega arith
weight_least false k false true b j = omega arith
weight_least false k false false true j = omega arith
weight_least false k false false false j = omega arith

pub weight_falls : (a k v y b z c : Bool) → (z ≡ true → y ≡ true) → (c ≡ true → (b ≡ true) ⊎ ((a || v) ≡ true)) → weight a k v z c ≤ weight a k v y b
weight_falls true true v y b z c p q = omega arith
weight_falls true false v y b z c p q = omega arith
weight_falls false k true true b true c p q = omega arith
weight_falls false k true true b false c p q = omega arith
weight_falls false k true false b true c p q = absurd (let h : false ≡ true = p refl in cc)
weight_falls false k true false b false c p q = omega arith
weight_falls false k false true b true c p q = omega arith
weight_falls false k false true b false true p q = omega arith
weight_falls false k false true b false false p q = omega arith
weight_falls false k false false b true c p q = absurd (let h : false ≡ true = p refl in cc)
weight_falls false k false false true false true p q = omega arith
weight_falls false k false false true false false p q = omega arith
weight_falls false k false false false false true p q = absurd (by (q refl))
  where
    by : (false ≡ true) ⊎ (false ≡ true) → ⊥
    by (inl h) = cc
    by (inr h) = cc
weight_falls false k false false false false false p q = omega arith

pub weight_most : (a k v y b : Bool) → weight a k v y b ≤ 3
weight_most true false v y b = omega arith
weight_most true true v y b = omega arith
weight_most false k true true b = omega arith
weight_most false k true false b = omega arith
weight_most false k false true b = omega arith
weight_most false k false false true = omega arith
weight_most false k false false false = omega arith

-- what is left falls, or stays
pub record Falls (s z : Federation) : Type 0 where
  pub between : (t m : ℕ) → left_between z t m ≤ left_between s t m
  pub idle : (t : ℕ) → left_idle z t ≤ left_idle s t
  pub kinds : z.kinds ≡ s.kinds
  pub coordinators : z.coordinators ≡ s.coordinators

pub falls_same : (s : Federation) → Falls s s
falls_same s = record { between = λ t m. omega arith; idle = λ t. omega arith; kinds = refl; coordinators = refl }

pub falls_on : (s w z : Federation) → Falls s w → Falls w z → Falls s z
falls_on s w z f g =
    record {
      between = λ t m. let a = f.between t m in let b = g.between t m in omega (arith, a, b);
      idle = λ t. let a = f.idle t in let b = g.idle t in omega (arith, a, b);
      kinds = g.kinds ∙ f.kinds;
      coordinators = g.coordinators ∙ f.coordinators;
    }

-- a state of a run without an armed stop, over own logs
pub record Calm (s : Federation) : Type 0 where
  pub facts : Facts s
  pub sessions : FitSessions (length s.kinds) s.coordinators s.sessions
  pub opened : OpenedFit s
  pub members : (m : ℕ) → (s.member m).log.armed ≡ None
  pub coords : (c : ℕ) → (s.coord c).log.armed ≡ None

-- A member changes at one transaction.
pub record MemberFalls (t : ℕ) (x y : MemberState) : Type 0 where
  pub unarmed : y.log.armed ≡ None
  pub up : x.up ≡ true → y.up ≡ true
  pub others : (u : ℕ) → t ≢ u → (a b : Bool) → weight_at y u a b ≡ weight_at x u a b
  pub as_busy : (u : ℕ) → t ≢ u → busy_at y u ≡ busy_at x u
  pub falls : (a b : Bool) → weight_at y t a b ≤ weight_at x t a b

module _ (s : Federation) (m t : ℕ) (did : MemberStep) (f : MemberFalls t (s.member m) did.state) where
  pub member_calm : Calm s → Facts (at_member s m did).state → Calm (at_member s m did).state
  member_calm c g =
      record {
        facts = g;
        sessions = c.sessions;
        opened = record { votes = c.opened.votes; commits = c.opened.commits };
        members = at_each (λ j x. x.log.armed ≡ None) s.member m did.state f.unarmed c.members;
        coords = c.coords;
      }

  pub member_up : AllUp s → AllUp (at_member s m did).state
  member_up up (node.Member j) i =
      at_each (λ k x. IsMember s k → x.up ≡ true) s.member m did.state (λ h. f.up (up (node.Member m) h)) (λ k h. up (node.Member k) h) j i
  member_up up (node.Coord c) i = up (node.Coord c) i

  pub member_falls : Falls s (at_member s m did).state
  member_falls = record { between = λ u j. here j u (yes_lacking s u j) (ack_lacking s u j); idle = λ u. omega arith; kinds = refl; coordinators = refl }
    where
      same : (u : ℕ) (a b : Bool) → (z : Bool) → (t == u) ≡ z → weight_at did.state u a b ≤ weight_at (s.member m) u a b
      same u a b true e = subst (λ k. weight_at did.state k a b ≤ weight_at (s.member m) k a b) (eqb-true t u e) (f.falls a b)
      same u a b false e = let q = f.others u (eqb-false t u e) a b in omega (arith, q)

      here : (j u : ℕ) (a b : Bool) → weight_at (with_at s.member m did.state j) u a b ≤ weight_at (s.member j) u a b
      here = at_each (λ j x. (u : ℕ) (a b : Bool) → weight_at x u a b ≤ weight_at (s.member j) u a b) s.member m did.state
          (λ u a b. same u a b (t == u) refl) (λ j u a b. omega arith)

  -- no other one becomes busy
  pub member_wakes : (P : ℕ → Type 0) → (IsMember s m → busy_at did.state t ≡ true → P t) → ((u : ℕ) → IsBusy s u → P u) → (u : ℕ) → IsBusy (at_member s m did).state u → P u
  member_wakes P own rest u (BusyIn c i k) = rest u (BusyIn c i k)
  member_wakes P own rest u (BusyAt j i k) = here j i k
    where
      by : (b : Bool) → (t == u) ≡ b → IsMember s m → busy_at did.state u ≡ true → P u
      by true e i k = subst P (eqb-true t u e) (own i (subst (λ v. busy_at did.state v ≡ true) (sym (eqb-true t u e)) k))
      by false e i k = rest u (BusyAt m i (sym (f.as_busy u (eqb-false t u e)) ∙ k))

      here : (j : ℕ) → IsMember s j → busy_at (with_at s.member m did.state j) u ≡ true → P u
      here = at_each (λ j x. IsMember s j → busy_at x u ≡ true → P u) s.member m did.state (by (t == u) refl) (λ j i k. rest u (BusyAt j i k))

-- A coordinator changes at one transaction.
pub record CoordFalls (s : Federation) (t : ℕ) (x y : CoordState) : Type 0 where
  pub unarmed : y.log.armed ≡ None
  pub up : x.up ≡ true → y.up ≡ true
  pub others : (u : ℕ) → t ≢ u → look y.table u ≡ look x.table u
  pub votes : (m : ℕ) → lacks_yes (look y.table t) m ≡ true → lacks_yes (look x.table t) m ≡ true
  pub acks : (m : ℕ) → lacks_ack (look y.table t) m ≡ true →
      (lacks_ack (look x.table t) m ≡ true) ⊎ ((holds (s.member m).engine.active t || holds (s.member m).engine.voted t) ≡ true)
  pub idles : is_idle (look y.table t) ≡ true → is_idle (look x.table t) ≡ true

module _ (s : Federation) (c t : ℕ) (did : CoordStep) (f : CoordFalls s t (s.coord c) did.state) where
  pub coord_calm : Calm s → Facts (at_coord s c did).state → Calm (at_coord s c did).state
  coord_calm k g =
      record {
        facts = g;
        sessions = k.sessions;
        opened = record { votes = k.opened.votes; commits = k.opened.commits };
        members = k.members;
        coords = at_each (λ j x. x.log.armed ≡ None) s.coord c did.state f.unarmed k.coords;
      }

  pub coord_up : AllUp s → AllUp (at_coord s c did).state
  coord_up up (node.Member j) i = up (node.Member j) i
  coord_up up (node.Coord d) i =
      at_each (λ k x. IsCoordinator s k → x.up ≡ true) s.coord c did.state (λ h. f.up (up (node.Coord c) h)) (λ k h. up (node.Coord k) h) d i

  -- a test of an entry, and what follows where it passes after
  each_entry : (test : Option Entry → Bool) (P : ℕ → ℕ → Type 0) → ((u : ℕ) → t ≡ u → test (look did.state.table u) ≡ true → P c u) →
      ((d u : ℕ) → test (look (s.coord d).table u) ≡ true → P d u) → (d u : ℕ) → test (look (with_at s.coord c did.state d).table u) ≡ true → P d u
  each_entry test P own old =
      at_each (λ d y. (u : ℕ) → test (look y.table u) ≡ true → P d u) s.coord c did.state (λ u. by u (t == u) refl) old
    where
      by : (u : ℕ) (b : Bool) → (t == u) ≡ b → test (look did.state.table u) ≡ true → P c u
      by u true e h = own u (eqb-true t u e) h
      by u false e h = old c u (ap test (sym (f.others u (eqb-false t u e))) ∙ h)

  -- a test at some coordinator
  some_entry : (test : Option Entry → Bool) (P : ℕ → Type 0) → ((u : ℕ) → t ≡ u → test (look did.state.table u) ≡ true → (test (look (s.coord c).table u) ≡ true) ⊎ P u) →
      (u : ℕ) → any_to s.coordinators (λ d. test (look (with_at s.coord c did.state d).table u)) ≡ true →
      (any_to s.coordinators (λ d. test (look (s.coord d).table u)) ≡ true) ⊎ P u
  some_entry test P own u h = by (each_entry test (λ d u. (test (look (s.coord d).table u) ≡ true) ⊎ P u) own (λ d u k. inl k) found.0 u found.3)
    where
      found : (d : ℕ) × (1 ≤ d) × (d ≤ s.coordinators) × (test (look (with_at s.coord c did.state d).table u) ≡ true)
      found = any_found s.coordinators (λ d. test (look (with_at s.coord c did.state d).table u)) h

      by : (test (look (s.coord found.0).table u) ≡ true) ⊎ P u → (any_to s.coordinators (λ d. test (look (s.coord d).table u)) ≡ true) ⊎ P u
      by (inl k) = inl (found_any s.coordinators (λ d. test (look (s.coord d).table u)) found.0 found.1 found.2 k)
      by (inr k) = inr k

  pub coord_falls : Falls s (at_coord s c did).state
  coord_falls = record { between = between; idle = idle; kinds = refl; coordinators = refl }
    where
      never : {P : Type 0} → (P ⊎ ⊥) → P
      never (inl p) = p
      never (inr q) = absurd q

      between : (u m : ℕ) → left_between (at_coord s c did).state u m ≤ left_between s u m
      between u m =
          weight_falls (holds (s.member m).engine.active u) (holds (s.member m).asked u) (holds (s.member m).engine.voted u) (yes_lacking s u m) (ack_lacking s u m) _ _
          (λ h. never (some_entry (λ o. lacks_yes o m) (λ v. ⊥) (λ v e k. inl (subst (λ w. lacks_yes (look (s.coord c).table w) m ≡ true) e (f.votes m (subst (λ w. lacks_yes (look did.state.table w) m ≡ true) (sym e) k)))) u h))
          (some_entry (λ o. lacks_ack o m) (λ v. (holds (s.member m).engine.active v || holds (s.member m).engine.voted v) ≡ true)
          (λ v e k. subst (λ w. (lacks_ack (look (s.coord c).table w) m ≡ true) ⊎ ((holds (s.member m).engine.active w || holds (s.member m).engine.voted w) ≡ true)) e
          (f.acks m (subst (λ w. lacks_ack (look did.state.table w) m ≡ true) (sym e) k))) u)

      one_falls : (a b : Bool) → (a ≡ true → b ≡ true) → (if a then 1 else 0) ≤ (if b then 1 else 0)
      one_falls false b h = omega arith
      one_falls true true h = omega arith
      one_falls true false h = absurd (let z : false ≡ true = h refl in cc)

      idle : (u : ℕ) → left_idle (at_coord s c did).state u ≤ left_idle s u
      idle u = one_falls _ _ (λ h. never (some_entry is_idle (λ v. ⊥) (λ v e k. inl (subst (λ w. is_idle (look (s.coord c).table w) ≡ true) e (f.idles (subst (λ w. is_idle (look did.state.table w) ≡ true) (sym e) k)))) u h))

  -- no other one becomes busy
  pub coord_wakes : (P : ℕ → Type 0) → (IsCoordinator s c → busy_in (look did.state.table t) ≡ true → P t) → ((u : ℕ) → IsBusy s u → P u) → (u : ℕ) → IsBusy (at_coord s c did).state u → P u
  coord_wakes P own rest u (BusyAt m i k) = rest u (BusyAt m i k)
  coord_wakes P own rest u (BusyIn d i k) = here d i k
    where
      by : (b : Bool) → (t == u) ≡ b → IsCoordinator s c → busy_in (look did.state.table u) ≡ true → P u
      by true e i k = subst P (eqb-true t u e) (own i (subst (λ v. busy_in (look did.state.table v) ≡ true) (sym (eqb-true t u e)) k))
      by false e i k = rest u (BusyIn c i (ap busy_in (sym (f.others u (eqb-false t u e))) ∙ k))

      here : (d : ℕ) → IsCoordinator s d → busy_in (look (with_at s.coord c did.state d).table u) ≡ true → P u
      here = at_each (λ d y. IsCoordinator s d → busy_in (look y.table u) ≡ true → P u) s.coord c did.state (by (t == u) refl) (λ d i k. rest u (BusyIn d i k))
