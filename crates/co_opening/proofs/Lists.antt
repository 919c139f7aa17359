-- What was found of all nodes of a sort, log by log.
use Rattle.std.proofs.Common.{◌≡◌, ℕ, zero, suc, ◌+◌, ◌≤◌, ◌&&◌, Bool, false, List, [], ◌∷◌, length, get_or, Option, refl, sym, ap, subst, ◌∙◌, arith}
use Rattle.std.specs.Prelude.{nat_le}
use Rattle.std.proofs.lemmas.Bool.Decides.{nat_tests}
use Rattle.std.specs.List.{AllByRecursion}
use Rattle.co_base.specs.declared.node.Node.{Node}
use Rattle.co_outside.specs.declared.spot.Spot.{Spot}
use Rattle.co_outside.specs.Home.{File}
use Rattle.co_record.specs.declared.record.Record.{Record}
use Rattle.co_log.specs.LogView.{LogView}
use Rattle.co_log.specs.NodeFiles.{Items, newest_first}
use Rattle.co_plain.specs.Opening.{Found, fresh}
use Rattle.co_durable.specs.Pairs.{EachPair}
use Rattle.co_durable.specs.Recovering.{HasItems}
use Rattle.co_opening.specs.Attached.{IsAttachedTo}
use Rattle.co_opening.specs.Found.{IsFoundIn}
use Rattle.co_opening.specs.From.{AllFrom, BothFrom}
use Rattle.co_opening.specs.Standing.{IsFoundLog}
use Rattle.co_opening.specs.Versions.{IsLatest}
use Rattle.co_opening.proofs.Founds.{found_of, read, found_log}
use Rattle.co_opening.proofs.From.{all_from_get, all_or, past_end}

-- what was found of the nodes behind one, by their numbers; fresh outside of these
pub found_at : List Found → ℕ → Found
found_at founds zero = fresh
found_at founds (suc p) = get_or founds p fresh

module _ {T : Type 0} (file : Spot → Option File) (resume : Bool) (node : ℕ → Node) (Told : List Record → T → Type 0) where
  -- each of these was found of a log, and is what that tells
  abbrev pub AreFounds : ℕ → List LogView → List T → List Found → Type 0
  AreFounds p [] [] [] = Unit {0}
  AreFounds p [] [] (f ∷ fs) = ⊥
  AreFounds p [] (t ∷ ts) fs = ⊥
  AreFounds p (l ∷ ls) [] fs = ⊥
  AreFounds p (l ∷ ls) (t ∷ ts) [] = ⊥
  AreFounds p (l ∷ ls) (t ∷ ts) (f ∷ fs) = (IsFoundLog file resume (node (suc p)) l f × Told f.records t) × AreFounds (suc p) ls ts fs

  pub record Founds (p : ℕ) (logs : List LogView) (tolds : List T) : Type 0 where
    pub list : List Found
    pub are : AreFounds p logs tolds list

  pub found_all : (Q : LogView → T → Type 0) → ((log : LogView) (items : Items) (t : T) → HasItems log items → Q log t → Told (newest_first items) t) → (p : ℕ) (logs : List LogView) (tolds : List T)
      → AllFrom (λ q log. IsAttachedTo file resume (node (suc q)) log) p logs → EachPair Q logs tolds → AllByRecursion IsLatest logs → Founds p logs tolds
  found_all Q tells p [] [] att pairs latest = record { list = []; are = tt }
  found_all Q tells p [] (t ∷ ts) att pairs latest = absurd pairs
  found_all Q tells p (l ∷ ls) [] att pairs latest = absurd pairs
  found_all Q tells p (l ∷ ls) (t ∷ ts) att pairs latest =
      let r = read file (node (suc p)) l att.0.valid att.0.is in
      let more = found_all Q tells (suc p) ls ts att.1 pairs.1 latest.1 in
      record { list = found_of l r.items ∷ more.list; are = ((found_log file resume (node (suc p)) l att.0 r latest.0, tells l r.items t r.has pairs.0), more.are) }

  pub founds_length : (p : ℕ) (logs : List LogView) (tolds : List T) (founds : List Found) → AreFounds p logs tolds founds → length founds ≡ length logs
  founds_length p [] [] [] are = refl
  founds_length p [] [] (f ∷ fs) are = absurd are
  founds_length p [] (t ∷ ts) fs are = absurd are
  founds_length p (l ∷ ls) [] fs are = absurd are
  founds_length p (l ∷ ls) (t ∷ ts) [] are = absurd are
  founds_length p (l ∷ ls) (t ∷ ts) (f ∷ fs) are = ap suc (founds_length (suc p) ls ts fs are.1)

  -- what holds of each found log holds of what was found, at its place and at all
  pub founds_from : (P : ℕ → Found → Type 0) → ((q : ℕ) (log : LogView) (t : T) (f : Found) → IsFoundLog file resume (node (suc q)) log f → Told f.records t → P q f) → (p : ℕ) (logs : List LogView) (tolds : List T) (founds : List Found)
      → AreFounds p logs tolds founds → AllFrom P p founds
  founds_from P f p [] [] [] are = tt
  founds_from P f p [] [] (x ∷ xs) are = absurd are
  founds_from P f p [] (t ∷ ts) fs are = absurd are
  founds_from P f p (l ∷ ls) [] fs are = absurd are
  founds_from P f p (l ∷ ls) (t ∷ ts) [] are = absurd are
  founds_from P f p (l ∷ ls) (t ∷ ts) (x ∷ xs) are = (f p l t x are.0.0 are.0.1, founds_from P f (suc p) ls ts xs are.1)

  pub founds_all : (P : Found → Type 0) → ((q : ℕ) (log : LogView) (t : T) (f : Found) → IsFoundLog file resume (node (suc q)) log f → Told f.records t → P f) → (p : ℕ) (logs : List LogView) (tolds : List T) (founds : List Found)
      → AreFounds p logs tolds founds → AllByRecursion P founds
  founds_all P f p [] [] [] are = tt
  founds_all P f p [] [] (x ∷ xs) are = absurd are
  founds_all P f p [] (t ∷ ts) fs are = absurd are
  founds_all P f p (l ∷ ls) [] fs are = absurd are
  founds_all P f p (l ∷ ls) (t ∷ ts) [] are = absurd are
  founds_all P f p (l ∷ ls) (t ∷ ts) (x ∷ xs) are = (f p l t x are.0.0 are.0.1, founds_all P f (suc p) ls ts xs are.1)

  -- by a function of the number
  pub founds_both : (R : ℕ → LogView → T → Found → Type 0) → ((q : ℕ) (log : LogView) (t : T) (f : Found) → IsFoundLog file resume (node (suc q)) log f → Told f.records t → R q log t f) → (found : ℕ → Found) (p : ℕ) (logs : List LogView) (tolds : List T) (founds : List Found)
      → ((k : ℕ) → found (suc (p + k)) ≡ get_or founds k fresh) → AreFounds p logs tolds founds → BothFrom (λ q log t. R q log t (found (suc q))) p logs tolds
  founds_both R f found p [] [] [] same are = tt
  founds_both R f found p [] [] (x ∷ xs) same are = absurd are
  founds_both R f found p [] (t ∷ ts) fs same are = absurd are
  founds_both R f found p (l ∷ ls) [] fs same are = absurd are
  founds_both R f found p (l ∷ ls) (t ∷ ts) [] same are = absurd are
  founds_both R f found p (l ∷ ls) (t ∷ ts) (x ∷ xs) same are =
      let here : found (suc p) ≡ x = ap (λ n. found (suc n)) (let e : p ≡ p + 0 = omega arith in e) ∙ same 0 in (
        subst (R p l t) (sym here) (f p l t x are.0.0 are.0.1),
        founds_both R f found (suc p) ls ts xs (λ k. ap (λ n. found (suc n)) (let e : suc p + k ≡ p + suc k = omega arith in e) ∙ same (suc k)) are.1,
      )

-- ---- by number

pub same_at : (founds : List Found) (k : ℕ) → found_at founds (suc (0 + k)) ≡ get_or founds k fresh
unfolding found_at
same_at founds k = ap (λ n. get_or founds n fresh) (let e : 0 + k ≡ k = omega arith in e)

pub all_at : (P : Found → Type 0) (founds : List Found) → P fresh → AllByRecursion P founds → (m : ℕ) → P (found_at founds m)
unfolding found_at
all_at P founds none all zero = none
all_at P founds none all (suc p) = all_or P founds p fresh all none

-- nothing was found outside of them
pub outside : (founds : List Found) (m : ℕ) → (nat_le 1 m && nat_le m (length founds)) ≡ false → found_at founds m ≡ fresh
unfolding found_at
outside founds zero e = refl
outside founds (suc p) e = past_end founds p fresh (grind (arith, nat_tests))

pub in_files_at : (file : Spot → Option File) (node : ℕ → Node) (founds : List Found) → AllFrom (λ q f. IsFoundIn file (node (suc q)) f) 0 founds → (m : ℕ) → 1 ≤ m → m ≤ length founds → IsFoundIn file (node m) (found_at founds m)
unfolding found_at
in_files_at file node founds all zero low high = absurd (omega (arith, low))
in_files_at file node founds all (suc p) low high =
    subst (λ n. IsFoundIn file (node (suc n)) (get_or founds p fresh)) (let e : 0 + p ≡ p = omega arith in e) (all_from_get (λ q f. IsFoundIn file (node (suc q)) f) 0 founds p fresh all (omega (arith, high)))
