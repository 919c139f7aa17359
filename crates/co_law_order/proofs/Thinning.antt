-- A trace with some left out that a member does not see: it tells the same decisions, and of the member the same.
use Rattle.std.proofs.Common.{◌≡◌, ◌⊎◌, inl, inr, ℕ, Bool, true, false, ◌||◌, ◌&&◌, ◌==◌, if◌then◌else◌, List, [], ◌∷◌, ◌++◌, get_or, drop, refl, sym, ap, ◌∙◌, subst}
use Rattle.std.proofs.lemmas.Bool.{and_right}
use Rattle.co_base.specs.declared.head.Kind.{Kind}
use Rattle.co_base.specs.declared.head.Kind.TheVariants.{Lock, Occ, Mv}
use Rattle.co_base.specs.declared.node.Node.{Node}
use Rattle.co_base.specs.declared.node.Node.TheVariants as node
use Rattle.co_base.specs.Nodes.{same_node}
use Rattle.co_state.specs.Table.{Table, look, put}
use Rattle.co_plain.specs.CommitmentOrder.{Trace, Began, Operated, Committed, decides_at, decisions_from, installs, before_first, part_seen}

-- what member m does not see: operations elsewhere, and commit records elsewhere that decide nothing
abbrev pub IsUnseen : ℕ → Table Node → Trace → Type 0
IsUnseen m homes (Began t by) = ⊥
IsUnseen m homes (Operated t n o reply) = (n == m) ≡ false
IsUnseen m homes (Committed at t) = (same_node at (node.Member m) ≡ false) × (decides_at (look homes t) at ≡ false)

abbrev pub homes_with : Table Node → Trace → Table Node
homes_with homes (Began t by) = put homes t by
homes_with homes (Operated t n o reply) = homes
homes_with homes (Committed at t) = homes

abbrev pub homes_after : Table Node → List Trace → Table Node
homes_after homes [] = homes
homes_after homes (x ∷ xs) = homes_after (homes_with homes x) xs

-- the second is the first with some left out that the member does not see
abbrev pub Thins : ℕ → Table Node → List Trace → List Trace → Type 0
Thins m homes [] ys = ys ≡ []
Thins m homes (x ∷ xs) ys =
    ((zs : List Trace) × (ys ≡ x ∷ zs) × Thins m (homes_with homes x) xs zs) ⊎ (IsUnseen m homes x × Thins m (homes_with homes x) xs ys)

pub no_cons : {X A : Type 0} (x : X) (xs : List X) → [] ≡ x ∷ xs → A
no_cons x xs e = absurd (let z : false ≡ true = ap is_cons e in cc)
  where
    is_cons : {X : Type 0} → List X → Bool
    is_cons [] = false
    is_cons (y ∷ ys) = true

pub heads : {X : Type 0} (x y : X) (xs ys : List X) → x ∷ xs ≡ y ∷ ys → x ≡ y
heads x y xs ys e = ap (λ l. get_or l 0 x) e

pub tails : {X : Type 0} (x y : X) (xs ys : List X) → x ∷ xs ≡ y ∷ ys → xs ≡ ys
tails x y xs ys e = ap (drop 1) e

module _ (m : ℕ) where
  pub thins_decisions : (xs ys : List Trace) (homes : Table Node) → Thins m homes xs ys → decisions_from homes xs ≡ decisions_from homes ys
  thins_decisions [] ys homes h = sym (ap (decisions_from homes) h)
  thins_decisions (Began t by ∷ xs) ys homes (inl p) = thins_decisions xs p.0 (put homes t by) p.2 ∙ sym (ap (decisions_from homes) p.1)
  thins_decisions (Operated t n o reply ∷ xs) ys homes (inl p) = thins_decisions xs p.0 homes p.2 ∙ sym (ap (decisions_from homes) p.1)
  thins_decisions (Committed at t ∷ xs) ys homes (inl p) =
      ap (λ k. if decides_at (look homes t) at then t ∷ k else k) (thins_decisions xs p.0 homes p.2) ∙ sym (ap (decisions_from homes) p.1)
  thins_decisions (Began t by ∷ xs) ys homes (inr p) = absurd p.0
  thins_decisions (Operated t n o reply ∷ xs) ys homes (inr p) = thins_decisions xs ys homes p.1
  thins_decisions (Committed at t ∷ xs) ys homes (inr p) =
      ap (λ b. if b then t ∷ decisions_from homes xs else decisions_from homes xs) p.0.1 ∙ thins_decisions xs ys homes p.1

  pub thins_installs : (xs ys : List Trace) (homes : Table Node) (u : ℕ) → Thins m homes xs ys → installs xs m u ≡ installs ys m u
  thins_installs [] ys homes u h = sym (ap (λ k. installs k m u) h)
  thins_installs (Began t by ∷ xs) ys homes u (inl p) = thins_installs xs p.0 (put homes t by) u p.2 ∙ sym (ap (λ k. installs k m u) p.1)
  thins_installs (Operated t n o reply ∷ xs) ys homes u (inl p) = thins_installs xs p.0 homes u p.2 ∙ sym (ap (λ k. installs k m u) p.1)
  thins_installs (Committed at t ∷ xs) ys homes u (inl p) =
      ap (λ b. same_node at (node.Member m) && (t == u) || b) (thins_installs xs p.0 homes u p.2) ∙ sym (ap (λ k. installs k m u) p.1)
  thins_installs (Began t by ∷ xs) ys homes u (inr p) = absurd p.0
  thins_installs (Operated t n o reply ∷ xs) ys homes u (inr p) = thins_installs xs ys homes u p.1
  thins_installs (Committed at t ∷ xs) ys homes u (inr p) =
      ap (λ b. b && (t == u) || installs xs m u) p.0.0 ∙ thins_installs xs ys homes u p.1

  -- the parts before a transaction's first operation at the member
  pub thins_first : (xs ys : List Trace) (homes : Table Node) (t : ℕ) → Thins m homes xs ys → Thins m homes (before_first xs m t) (before_first ys m t)
  thins_first [] ys homes t h = ap (λ k. before_first k m t) h
  thins_first (Began u by ∷ xs) ys homes t (inl p) = inl (before_first p.0 m t, ap (λ k. before_first k m t) p.1, thins_first xs p.0 (put homes u by) t p.2)
  thins_first (Committed at u ∷ xs) ys homes t (inl p) = inl (before_first p.0 m t, ap (λ k. before_first k m t) p.1, thins_first xs p.0 homes t p.2)
  thins_first (Operated u n o reply ∷ xs) ys homes t (inl p) =
      subst (λ k. Thins m homes (before_first (Operated u n o reply ∷ xs) m t) (before_first k m t)) (sym p.1) (by ((u == t) && (n == m)) (thins_first xs p.0 homes t p.2))
    where
      by : (b : Bool) → Thins m homes (before_first xs m t) (before_first p.0 m t) →
          Thins m homes (if b then [] else Operated u n o reply ∷ before_first xs m t) (if b then [] else Operated u n o reply ∷ before_first p.0 m t)
      by true h = refl
      by false h = inl (before_first p.0 m t, refl, h)
  thins_first (Began u by ∷ xs) ys homes t (inr p) = absurd p.0
  thins_first (Committed at u ∷ xs) ys homes t (inr p) = inr (p.0, thins_first xs ys homes t p.1)
  thins_first (Operated u n o reply ∷ xs) ys homes t (inr p) =
      subst (λ b. Thins m homes (if b then [] else Operated u n o reply ∷ before_first xs m t) (before_first ys m t)) (sym (and_right (u == t) (n == m) p.0))
      (inr (p.0, thins_first xs ys homes t p.1))

  pub thins_seen : (kind : Kind) (xs ys : List Trace) (homes : Table Node) (t u : ℕ) → Thins m homes xs ys →
      installs (part_seen kind xs m t) m u ≡ installs (part_seen kind ys m t) m u
  thins_seen Lock xs ys homes t u h = thins_installs xs ys homes u h
  thins_seen Occ xs ys homes t u h = thins_installs xs ys homes u h
  thins_seen Mv xs ys homes t u h = thins_installs (before_first xs m t) (before_first ys m t) homes u (thins_first xs ys homes t h)

  -- a front of the first leaves a front of the second
  pub record Fronts (homes : Table Node) (before rest ys : List Trace) : Type 0 where
    pub front : List Trace
    pub back : List Trace
    pub place : ys ≡ front ++ back
    pub thins : Thins m homes before front
    pub after : Thins m (homes_after homes before) rest back

  pub fronts : (before rest ys : List Trace) (homes : Table Node) → Thins m homes (before ++ rest) ys → Fronts homes before rest ys
  fronts [] rest ys homes h = record { front = []; back = ys; place = refl; thins = refl; after = h }
  fronts (x ∷ before) rest ys homes (inl p) =
      let q = fronts before rest p.0 (homes_with homes x) p.2 in
      record { front = x ∷ q.front; back = q.back; place = p.1 ∙ ap (λ k. x ∷ k) q.place; thins = inl (q.front, refl, q.thins); after = q.after }
  fronts (x ∷ before) rest ys homes (inr p) =
      let q = fronts before rest ys (homes_with homes x) p.1 in
      record { front = q.front; back = q.back; place = q.place; thins = inr (p.0, q.thins); after = q.after }

  -- a front of the second is left of a front of the first
  pub record Sources (homes : Table Node) (xs front : List Trace) : Type 0 where
    pub before : List Trace
    pub rest : List Trace
    pub place : xs ≡ before ++ rest
    pub thins : Thins m homes before front

  pub sources : (xs front back ys : List Trace) (homes : Table Node) → ys ≡ front ++ back → Thins m homes xs ys → Sources homes xs front
  sources xs [] back ys homes e h = record { before = []; rest = xs; place = refl; thins = refl }
  sources [] (y ∷ front) back ys homes e h = no_cons y (front ++ back) (sym h ∙ e)
  sources (x ∷ xs) (y ∷ front) back ys homes e (inl p) =
      let q = sources xs front back p.0 (homes_with homes x) (tails x y p.0 (front ++ back) (sym p.1 ∙ e)) p.2 in
      record { before = x ∷ q.before; rest = q.rest; place = ap (λ k. x ∷ k) q.place; thins = inl (front, ap (λ k. k ∷ front) (sym (heads x y p.0 (front ++ back) (sym p.1 ∙ e))), q.thins) }
  sources (x ∷ xs) (y ∷ front) back ys homes e (inr p) =
      let q = sources xs (y ∷ front) back ys (homes_with homes x) e p.1 in
      record { before = x ∷ q.before; rest = q.rest; place = ap (λ k. x ∷ k) q.place; thins = inr (p.0, q.thins) }

  -- and what stands behind it stands in the first
  pub record SourceOf (homes : Table Node) (xs front : List Trace) (y : Trace) : Type 0 where
    pub before : List Trace
    pub rest : List Trace
    pub place : xs ≡ before ++ y ∷ rest
    pub thins : Thins m homes before front

  pub source_of : (xs front : List Trace) (y : Trace) (back ys : List Trace) (homes : Table Node) → ys ≡ front ++ y ∷ back → Thins m homes xs ys → SourceOf homes xs front y
  source_of [] [] y back ys homes e h = no_cons y back (sym h ∙ e)
  source_of [] (z ∷ front) y back ys homes e h = no_cons z (front ++ y ∷ back) (sym h ∙ e)
  source_of (x ∷ xs) [] y back ys homes e (inl p) =
      record { before = []; rest = xs; place = ap (λ k. k ∷ xs) (heads x y p.0 back (sym p.1 ∙ e)); thins = refl }
  source_of (x ∷ xs) (z ∷ front) y back ys homes e (inl p) =
      let q = source_of xs front y back p.0 (homes_with homes x) (tails x z p.0 (front ++ y ∷ back) (sym p.1 ∙ e)) p.2 in
      record { before = x ∷ q.before; rest = q.rest; place = ap (λ k. x ∷ k) q.place; thins = inl (front, ap (λ k. k ∷ front) (sym (heads x z p.0 (front ++ y ∷ back) (sym p.1 ∙ e))), q.thins) }
  source_of (x ∷ xs) [] y back ys homes e (inr p) =
      let q = source_of xs [] y back ys (homes_with homes x) e p.1 in
      record { before = x ∷ q.before; rest = q.rest; place = ap (λ k. x ∷ k) q.place; thins = inr (p.0, q.thins) }
  source_of (x ∷ xs) (z ∷ front) y back ys homes e (inr p) =
      let q = source_of xs (z ∷ front) y back ys (homes_with homes x) e p.1 in
      record { before = x ∷ q.before; rest = q.rest; place = ap (λ k. x ∷ k) q.place; thins = inr (p.0, q.thins) }
