-- Two places of log files are the same, or they are not.
use Rattle.std.proofs.Common.{◌≡◌, ◌≢◌, ◌⊎◌, inl, inr, ◌==◌, Bool, true, false, refl, sym, ap, ◌∙◌}
use Rattle.std.proofs.lemmas.Bool.{eqb-true, eqb-false}
use Rattle.co_outside.specs.declared.spot.Spot.{Spot}

pub same_or_other : (s t : Spot) → (s ≡ t) ⊎ (s ≢ t)
same_or_other s t = by (s.node == t.node) refl (s.part == t.part) refl
  where
    by : (n : Bool) → (s.node == t.node) ≡ n → (p : Bool) → (s.part == t.part) ≡ p → (s ≡ t) ⊎ (s ≢ t)
    by false e p f = inr (λ same. eqb-false s.node t.node e (ap (λ (x : Spot). x.node) same))
    by true e false f = inr (λ same. eqb-false s.part t.part f (ap (λ (x : Spot). x.part) same))
    by true e true f =
        let node : s.node ≡ t.node = eqb-true s.node t.node e in
        let part : s.part ≡ t.part = eqb-true s.part t.part f in
        inl (λ i. record { node = node i; part = part i })

-- files that stay at two places and everywhere else stay
pub all_stay : {A : Type 0} (now before : Spot → A) (a b : Spot) → now a ≡ before a → now b ≡ before b → ((s : Spot) → s ≢ a → s ≢ b → now s ≡ before s) → (s : Spot) → now s ≡ before s
all_stay now before a b at_a at_b others s = by (same_or_other s a) (same_or_other s b)
  where
    by : (s ≡ a) ⊎ (s ≢ a) → (s ≡ b) ⊎ (s ≢ b) → now s ≡ before s
    by (inl e) other = ap now e ∙ at_a ∙ ap before (sym e)
    by (inr n) (inl e) = ap now e ∙ at_b ∙ ap before (sym e)
    by (inr n) (inr m) = others s n m
