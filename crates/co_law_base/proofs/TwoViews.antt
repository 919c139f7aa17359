-- The two views of a member: the stable one lacks the aborts that wait, and no others.
use Rattle.std.proofs.Common.{◌≡◌, ◌⊎◌, inl, inr, ℕ, Bool, true, false, ◌==◌, List, [], ◌∷◌, ◌++◌, refl, sym, ap, ◌∙◌, subst}
use Rattle.std.specs.Option.{is_some}
use Rattle.std.proofs.lemmas.Bool.{or_cases, or_left, or_right, eqb-true, eqb-false}
use Rattle.co_record.specs.declared.record.Record.{Record}
use Rattle.co_record.specs.declared.record.Record.TheVariants as log
use Rattle.co_state.specs.Table.{holds, without}
use Rattle.co_plain.specs.declared.member_state.MemberState.{MemberState}
use Rattle.co_plain.specs.declared.member_view.MemberView.{MemberView}
use Rattle.co_plain.specs.MemberView.{recovered_view}
use Rattle.co_plain.specs.Invariants.{Side, Memory, Stable, view, stands}
use Rattle.co_law_base.proofs.Lookups.{without_there, without_cases, holds_found, found_holds}
use Rattle.co_law_base.proofs.Facts.{Rest, alive, OnlyAborts, MemberFacts}
use Rattle.co_law_base.proofs.Carrying.{LivesOn, StandsOn}

-- who lives on and stands without the waiting aborts stands with them
pub past_aborts : (r : Rest) (rs stable : List Record) → OnlyAborts r rs → (t : ℕ) → LivesOn r t → holds (recovered_view stable).voted t ≡ true → holds (recovered_view (rs ++ stable)).voted t ≡ true
past_aborts r [] stable w t l h = h
past_aborts r (log.Abort u ∷ rs) stable w t l h = by (past_aborts r rs stable w.1 t l h) (u == t) refl
  where
    by : holds (recovered_view (rs ++ stable)).voted t ≡ true → (b : Bool) → (u == t) ≡ b → holds (without (recovered_view (rs ++ stable)).voted u) t ≡ true
    by rest true e =
        let dead : alive r w.0.0 u ≡ false = w.0.2 in
        let lives : alive r w.0.0 u ≡ true = subst (LivesOn r) (sym (eqb-true u t e)) l w.0.0 w.0.1 in
        absurd (let z : true ≡ false = sym lives ∙ dead in cc)
    by rest false e = ap is_some (without_there (recovered_view (rs ++ stable)).voted u t (eqb-false u t e)) ∙ rest
past_aborts r (log.Header a b ∷ rs) stable w t l h = absurd w
past_aborts r (log.Prepare a b c d e ∷ rs) stable w t l h = absurd w
past_aborts r (log.Commit a b ∷ rs) stable w t l h = absurd w
past_aborts r (log.End a ∷ rs) stable w t l h = absurd w
past_aborts r (log.Checkpoint a b c ∷ rs) stable w t l h = absurd w

-- and who stands with them stood without them
pub before_aborts : (r : Rest) (rs stable : List Record) → OnlyAborts r rs → (t : ℕ) → holds (recovered_view (rs ++ stable)).voted t ≡ true → holds (recovered_view stable).voted t ≡ true
before_aborts r [] stable w t h = h
before_aborts r (log.Abort u ∷ rs) stable w t h =
    let p = holds_found (without (recovered_view (rs ++ stable)).voted u) t h in
    before_aborts r rs stable w.1 t (found_holds (recovered_view (rs ++ stable)).voted t p.0 (without_cases (recovered_view (rs ++ stable)).voted u t p.0 p.1).1)
before_aborts r (log.Header a b ∷ rs) stable w t h = absurd w
before_aborts r (log.Prepare a b c d e ∷ rs) stable w t h = absurd w
before_aborts r (log.Commit a b ∷ rs) stable w t h = absurd w
before_aborts r (log.End a ∷ rs) stable w t h = absurd w
before_aborts r (log.Checkpoint a b c ∷ rs) stable w t h = absurd w

-- aborts commit nothing
pub same_committed : (r : Rest) (rs stable : List Record) → OnlyAborts r rs → (recovered_view (rs ++ stable)).committed ≡ (recovered_view stable).committed
same_committed r [] stable w = refl
same_committed r (log.Abort u ∷ rs) stable w = same_committed r rs stable w.1
same_committed r (log.Header a b ∷ rs) stable w = absurd w
same_committed r (log.Prepare a b c d e ∷ rs) stable w = absurd w
same_committed r (log.Commit a b ∷ rs) stable w = absurd w
same_committed r (log.End a ∷ rs) stable w = absurd w
same_committed r (log.Checkpoint a b c ∷ rs) stable w = absurd w

module _ (r : Rest) (m : ℕ) (x : MemberState) (f : MemberFacts r m x) where
  pub committed_both : (view Memory x).committed ≡ (view Stable x).committed
  committed_both = sym (ap (λ v. v.committed) f.logged) ∙ same_committed r x.log.waiting x.log.stable f.waiting

  pub stable_to_memory : (t : ℕ) → LivesOn r t → stands (view Stable x) t ≡ true → stands (view Memory x) t ≡ true
  stable_to_memory t l h = by (or_cases _ _ h)
    where
      by : (holds (view Stable x).voted t ≡ true) ⊎ (holds (view Stable x).committed t ≡ true) → stands (view Memory x) t ≡ true
      by (inl k) = or_left _ _ (sym (ap (λ v. holds v.voted t) f.logged) ∙ past_aborts r x.log.waiting x.log.stable f.waiting t l k)
      by (inr k) = or_right _ _ (ap (λ n. holds n t) committed_both ∙ k)

  pub memory_to_stable : (t : ℕ) → stands (view Memory x) t ≡ true → stands (view Stable x) t ≡ true
  memory_to_stable t h = by (or_cases _ _ h)
    where
      by : (holds (view Memory x).voted t ≡ true) ⊎ (holds (view Memory x).committed t ≡ true) → stands (view Stable x) t ≡ true
      by (inl k) = or_left _ _ (before_aborts r x.log.waiting x.log.stable f.waiting t (ap (λ v. holds v.voted t) f.logged ∙ k))
      by (inr k) = or_right _ _ (sym (ap (λ n. holds n t) committed_both) ∙ k)

  -- a forced change: both views are the new one of memory
  pub forced : (y : MemberState) → view Stable y ≡ view Memory y → (standing : (t : ℕ) → LivesOn r t → stands (view Memory x) t ≡ true → stands (view Memory y) t ≡ true) →
      (committed : (t : ℕ) → holds (view Memory x).committed t ≡ true → holds (view Memory y).committed t ≡ true) → StandsOn r x y
  forced y e standing committed =
      record {
        standing = λ side t l h. stood side t l h;
        committed = λ side t h. done side t h;
      }
    where
      stood : (side : Side) (t : ℕ) → LivesOn r t → stands (view side x) t ≡ true → stands (view side y) t ≡ true
      stood Memory t l h = standing t l h
      stood Stable t l h = ap (λ v. stands v t) e ∙ standing t l (stable_to_memory t l h)

      done : (side : Side) (t : ℕ) → holds (view side x).committed t ≡ true → holds (view side y).committed t ≡ true
      done Memory t h = committed t h
      done Stable t h = ap (λ v. holds v.committed t) e ∙ committed t (ap (λ n. holds n t) committed_both ∙ h)

-- a change that leaves both views
pub stands_alike : (r : Rest) (x y : MemberState) → view Memory y ≡ view Memory x → view Stable y ≡ view Stable x → StandsOn r x y
stands_alike r x y memory stable = record { standing = λ side t l h. standing side t h; committed = λ side t h. committed side t h }
  where
    standing : (side : Side) (t : ℕ) → stands (view side x) t ≡ true → stands (view side y) t ≡ true
    standing Memory t h = ap (λ v. stands v t) memory ∙ h
    standing Stable t h = ap (λ v. stands v t) stable ∙ h

    committed : (side : Side) (t : ℕ) → holds (view side x).committed t ≡ true → holds (view side y).committed t ≡ true
    committed Memory t h = ap (λ v. holds v.committed t) memory ∙ h
    committed Stable t h = ap (λ v. holds v.committed t) stable ∙ h

pub both_sides : (P : MemberView → Type 0) (y : MemberState) → view Stable y ≡ view Memory y → P (view Memory y) → (side : Side) → P (view side y)
both_sides P y e p Memory = p
both_sides P y e p Stable = subst P (sym e) p
