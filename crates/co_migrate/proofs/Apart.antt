-- The nodes of a plan are distinct.
use Rattle.std.proofs.Common.{◌≡◌, ◌≢◌, inl, inr, ℕ, zero, suc, ◌≤◌, List, [], ◌∷◌, ◌++◌, map, Option, refl, sym, subst, arith}
use Rattle.std.specs.List.{AllByRecursion}
use Rattle.co_base.specs.Limits.{most_coordinators, most_members}
use Rattle.co_base.specs.declared.node.Node.{Node}
use Rattle.co_base.specs.declared.node.Node.TheVariants.{Member, Coord}
use Rattle.co_outside.specs.Home.{File}
use Rattle.co_outside.specs.declared.spot.Spot.{Spot}
use Rattle.co_durable.specs.Nodes.{numbered}
use Rattle.co_durable.proofs.Pairs.{all_append}
use Rattle.co_migrate.specs.declared.planning.Refill.{Refill}
use Rattle.co_migrate.specs.Migrating.{all_nodes}
use Rattle.co_migrate.specs.Planning.{ArePlanned}
use Rattle.co_migrate.specs.Refilling.{AreApart, refill_node}

apart_append : (xs ys : List Node) → AreApart xs → AreApart ys → AllByRecursion (λ x. AllByRecursion (λ y. x ≢ y) ys) xs → AreApart (xs ++ ys)
apart_append [] ys one two across = two
apart_append (x ∷ xs) ys one two across = (all_append (λ y. x ≢ y) xs ys one.0 across.0, apart_append xs ys one.1 two across.1)

module _ (one : ℕ → Node) (same : (p q : ℕ) → one p ≡ one q → p ≡ q) where
  below : (count k : ℕ) → count ≤ k → AllByRecursion (λ x. AllByRecursion (λ y. x ≢ y) (one (suc k) ∷ [])) (numbered one count)
  below zero k h = tt
  below (suc count) k h =
      all_append (λ x. AllByRecursion (λ y. x ≢ y) (one (suc k) ∷ [])) (numbered one count) (one (suc count) ∷ []) (below count k (omega (arith, h)))
      (((λ e. let s = same (suc count) (suc k) e in omega (arith, s, h)), tt), tt)

  numbered_apart : (count : ℕ) → AreApart (numbered one count)
  numbered_apart zero = tt
  numbered_apart (suc count) = apart_append (numbered one count) (one (suc count) ∷ []) (numbered_apart count) (tt, tt) (below count count (omega arith))

member_same : (p q : ℕ) → Member p ≡ Member q → p ≡ q
member_same p q e = cc

coord_same : (p q : ℕ) → Coord p ≡ Coord q → p ≡ q
coord_same p q e = cc

member_across : (m : ℕ) (count : ℕ) → AllByRecursion (λ y. Member m ≢ y) (numbered Coord count)
member_across m zero = tt
member_across m (suc count) = all_append (λ y. Member m ≢ y) (numbered Coord count) (Coord (suc count) ∷ []) (member_across m count) ((λ e. absurd (let z : Member m ≡ Coord (suc count) = e in cc)), tt)

across : (members coords : ℕ) → AllByRecursion (λ x. AllByRecursion (λ y. x ≢ y) (numbered Coord coords)) (numbered Member members)
across zero coords = tt
across (suc members) coords =
    all_append (λ x. AllByRecursion (λ y. x ≢ y) (numbered Coord coords)) (numbered Member members) (Member (suc members) ∷ []) (across members coords) (member_across (suc members) coords, tt)

nodes_apart : (nodes : List Node) (members coords : ℕ) → nodes ≡ numbered Member members ++ numbered Coord coords → AreApart nodes
nodes_apart nodes members coords is =
    subst AreApart (sym is) (apart_append (numbered Member members) (numbered Coord coords) (numbered_apart Member member_same members) (numbered_apart Coord coord_same coords) (across members coords))

-- what is so of all nodes is so of those of a plan
pub on_plan : (P : Node → Type 0) (file : Spot → Option File) (nodes : List Node) (plan : List Refill) → ArePlanned file nodes plan → AllByRecursion P nodes → AllByRecursion P (map refill_node plan)
on_plan P file [] plan none all = subst (λ (p : List Refill). AllByRecursion P (map refill_node p)) (sym none) tt
on_plan P file (n ∷ nodes) plan (inl new) all = on_plan P file nodes plan new.1 all.1
on_plan P file (n ∷ nodes) plan (inr old) all =
    subst (λ (p : List Refill). AllByRecursion P (map refill_node p)) (sym old.2) (subst P (sym old.3.owned) all.0, on_plan P file nodes old.1 old.4 all.1)

plan_apart : (file : Spot → Option File) (nodes : List Node) (plan : List Refill) → ArePlanned file nodes plan → AreApart nodes → AreApart (map refill_node plan)
plan_apart file [] plan none apart = subst (λ (p : List Refill). AreApart (map refill_node p)) (sym none) tt
plan_apart file (n ∷ nodes) plan (inl new) apart = plan_apart file nodes plan new.1 apart.1
plan_apart file (n ∷ nodes) plan (inr old) apart =
    subst (λ (p : List Refill). AreApart (map refill_node p)) (sym old.2)
    (subst (λ (m : Node). AllByRecursion (λ other. m ≢ other) (map refill_node old.1)) (sym old.3.owned) (on_plan (λ other. n ≢ other) file nodes old.1 old.4 apart.0), plan_apart file nodes old.1 old.4 apart.1)

pub all_nodes_are : all_nodes ≡ numbered Member most_members ++ numbered Coord most_coordinators
unfolding all_nodes
all_nodes_are = refl

pub all_apart : (file : Spot → Option File) (plan : List Refill) → ArePlanned file all_nodes plan → AreApart (map refill_node plan)
all_apart file plan are = plan_apart file all_nodes plan are (nodes_apart all_nodes most_members most_coordinators all_nodes_are)
