-- Sums over what is left.
use Rattle.std.proofs.Common.{◌≡◌, ◌⊎◌, inl, inr, ℕ, zero, suc, Bool, true, false, ◌==◌, ◌≤◌, ◌+◌, List, [], ◌∷◌, length, refl, sym, ap, subst, arith}
use Rattle.std.proofs.lemmas.Bool.{or_cases, eqb-true, eqb-false}
use Rattle.co_base.specs.declared.node.Node.TheVariants as node
use Rattle.co_plain.specs.Numbers.{has_number}
use Rattle.co_plain.specs.Federation.{Federation}
use Rattle.co_plain.specs.Quiet.{IsMember, sum_to}
use Rattle.co_law_settle.specs.SettlingTurns.{AllUp}
use Rattle.co_law_settle.specs.SettlingMeasure.{sum_over, left_of, left_between, left_idle, one_down, down_count}
use Rattle.co_law_settle.proofs.Falling.{Falls}

over_falls : (ks : List ℕ) (f g : ℕ → ℕ) → ((t : ℕ) → g t ≤ f t) → sum_over ks g ≤ sum_over ks f
over_falls [] f g h = omega arith
over_falls (k ∷ ks) f g h = let a = h k in let b = over_falls ks f g h in omega (arith, a, b)

over_lowers : (ks : List ℕ) (f g : ℕ → ℕ) → ((t : ℕ) → g t ≤ f t) → (t : ℕ) → has_number ks t ≡ true → suc (g t) ≤ f t → suc (sum_over ks g) ≤ sum_over ks f
over_lowers [] f g h t q l = absurd (let z : false ≡ true = q in cc)
over_lowers (k ∷ ks) f g h t q l = by (over_lowers ks f g h t) (or_cases (k == t) (has_number ks t) q)
  where
    by : (has_number ks t ≡ true → suc (g t) ≤ f t → suc (sum_over ks g) ≤ sum_over ks f) → ((k == t) ≡ true) ⊎ (has_number ks t ≡ true) → suc (sum_over (k ∷ ks) g) ≤ sum_over (k ∷ ks) f
    by rest (inl e) =
        let a = subst (λ j. suc (g j) ≤ f j) (sym (eqb-true k t e)) l in
        let b = over_falls ks f g h in
        omega (arith, a, b)
    by rest (inr e) = let a = h k in let b = rest e l in omega (arith, a, b)

pub to_falls : (n : ℕ) (f g : ℕ → ℕ) → ((m : ℕ) → g m ≤ f m) → sum_to n g ≤ sum_to n f
to_falls zero f g h = omega arith
to_falls (suc n) f g h = let a = h (suc n) in let b = to_falls n f g h in omega (arith, a, b)

pub to_lowers : (n : ℕ) (f g : ℕ → ℕ) → ((m : ℕ) → g m ≤ f m) → (m : ℕ) → 1 ≤ m → m ≤ n → suc (g m) ≤ f m → suc (sum_to n g) ≤ sum_to n f
to_lowers zero f g h m l u q = absurd (omega (arith, l, u))
to_lowers (suc n) f g h m l u q = by (to_lowers n f g h m l) (m == suc n) refl
  where
    by : (m ≤ n → suc (g m) ≤ f m → suc (sum_to n g) ≤ sum_to n f) → (b : Bool) → (m == suc n) ≡ b → suc (sum_to (suc n) g) ≤ sum_to (suc n) f
    by rest true e =
        let a = subst (λ j. suc (g j) ≤ f j) (eqb-true m (suc n) e) q in
        let b = to_falls n f g h in
        omega (arith, a, b)
    by rest false e = let d = eqb-false m (suc n) e in let a = h (suc n) in let b = rest (omega (arith, u, d)) q in omega (arith, a, b)

module _ (pairs : ℕ → List ℕ) (numbers : List ℕ) (s z : Federation) (f : Falls s z) where
  same_kinds : left_of pairs numbers z ≡ sum_to (length s.kinds) (λ m. sum_over (pairs m) (λ t. left_between z t m)) + sum_over numbers (left_idle z)
  same_kinds = ap (λ k. sum_to (length k) (λ m. sum_over (pairs m) (λ t. left_between z t m)) + sum_over numbers (left_idle z)) f.kinds

  pub left_falls : left_of pairs numbers z ≤ left_of pairs numbers s
  left_falls =
      let a = to_falls (length s.kinds) (λ m. sum_over (pairs m) (λ t. left_between s t m)) (λ m. sum_over (pairs m) (λ t. left_between z t m))
      (λ m. over_falls (pairs m) (λ t. left_between s t m) (λ t. left_between z t m) (λ t. f.between t m)) in
      let b = over_falls numbers (left_idle s) (left_idle z) f.idle in
      let c = same_kinds in
      omega (arith, a, b, c)

  pub left_lowers : (t m : ℕ) → IsMember s m → has_number (pairs m) t ≡ true → suc (left_between z t m) ≤ left_between s t m → suc (left_of pairs numbers z) ≤ left_of pairs numbers s
  left_lowers t m i h l =
      let a = to_lowers (length s.kinds) (λ m. sum_over (pairs m) (λ t. left_between s t m)) (λ m. sum_over (pairs m) (λ t. left_between z t m))
      (λ m. over_falls (pairs m) (λ t. left_between s t m) (λ t. left_between z t m) (λ t. f.between t m)) m i.0 i.1
      (over_lowers (pairs m) (λ t. left_between s t m) (λ t. left_between z t m) (λ t. f.between t m) t h l) in
      let b = over_falls numbers (left_idle s) (left_idle z) f.idle in
      let c = same_kinds in
      omega (arith, a, b, c)

  pub idle_lowers : (t : ℕ) → has_number numbers t ≡ true → suc (left_idle z t) ≤ left_idle s t → suc (left_of pairs numbers z) ≤ left_of pairs numbers s
  idle_lowers t h l =
      let a = to_falls (length s.kinds) (λ m. sum_over (pairs m) (λ t. left_between s t m)) (λ m. sum_over (pairs m) (λ t. left_between z t m))
      (λ m. over_falls (pairs m) (λ t. left_between s t m) (λ t. left_between z t m) (λ t. f.between t m)) in
      let b = over_lowers numbers (left_idle s) (left_idle z) f.idle t h l in
      let c = same_kinds in
      omega (arith, a, b, c)

-- nodes that are down
to_none : (n : ℕ) (f : ℕ → ℕ) → ((m : ℕ) → 1 ≤ m → m ≤ n → f m ≡ 0) → sum_to n f ≡ 0
to_none zero f h = refl
to_none (suc n) f h =
    let a = h (suc n) (omega arith) (omega arith) in
    let b = to_none n f (λ m l u. h m l (omega (arith, u))) in
    omega (arith, a, b)

pub none_down : (s : Federation) → AllUp s → down_count s ≡ 0
none_down s up =
    let a = to_none (length s.kinds) (λ m. one_down (s.member m).up) (λ m l u. ap one_down (up (node.Member m) (l, u))) in
    let b = to_none s.coordinators (λ c. one_down (s.coord c).up) (λ c l u. ap one_down (up (node.Coord c) (l, u))) in
    omega (arith, a, b)

one_at_most : (b : Bool) → one_down b ≤ 1
one_at_most true = omega arith
one_at_most false = omega arith

to_most : (n : ℕ) (f : ℕ → ℕ) → ((m : ℕ) → f m ≤ 1) → sum_to n f ≤ n
to_most zero f h = omega arith
to_most (suc n) f h = let a = h (suc n) in let b = to_most n f h in omega (arith, a, b)

pub most_down : (s : Federation) → down_count s ≤ length s.kinds + s.coordinators
most_down s =
    let a = to_most (length s.kinds) (λ m. one_down (s.member m).up) (λ m. one_at_most (s.member m).up) in
    let b = to_most s.coordinators (λ c. one_down (s.coord c).up) (λ c. one_at_most (s.coord c).up) in
    omega (arith, a, b)
