-- What each move leaves: who belongs to a coordinator does so on, nobody comes alive, counts and decisions grow, who
-- stands and lives stands on, and who is nowhere with told operations stays so while it lives.
use Rattle.std.proofs.Common.{◌≡◌, ◌≢◌, ◌⊎◌, inl, inr, ℕ, Bool, true, false, ◌||◌, ◌≤◌, ◌==◌, length, Some, refl, sym, ap, ◌∙◌, subst, arith}
use Rattle.std.specs.Option.{is_some}
use Rattle.std.proofs.lemmas.Bool.{or_cases, or_left, or_right, eqb-true, eqb-false}
use Rattle.co_state.specs.declared.engine_state.EngineState.{EngineState}
use Rattle.co_state.specs.declared.verdict.Verdict.TheVariants.{VoteYes}
use Rattle.co_state.specs.Table.{Table, look, put, without, holds}
use Rattle.co_state.specs.EngineState.{operations_in}
use Rattle.co_state.specs.VotingRule.{vote_of, kept_count}
use Rattle.co_plain.specs.declared.coord_state.CoordState.{CoordState}
use Rattle.co_plain.specs.declared.coord_state.Entry.{Entry}
use Rattle.co_plain.specs.declared.member_state.MemberState.{MemberState}
use Rattle.co_plain.specs.CoordStep.{with_table}
use Rattle.co_plain.specs.Sessions.{count_at}
use Rattle.co_plain.specs.Federation.{Federation, with_member, with_coord}
use Rattle.co_plain.specs.Decisions.{told_of, is_decided}
use Rattle.co_plain.specs.Step.{disarmed}
use Rattle.co_plain.specs.Invariants.{Memory, view, stands}
use Rattle.co_law_engine.proofs.YesTells.{SaysYes, yes_parts}
use Rattle.co_law_base.proofs.Lookups.{put_here, put_there, without_here, without_there, without_cases, holds_found, found_holds}
use Rattle.co_law_base.proofs.Facts.{rest_of, alive, belongs, settled_at}
use Rattle.co_law_base.proofs.Carrying.{LivesOn, at_each}
use Rattle.co_law_base.proofs.LogMoves.{not_held}
use Rattle.co_law_base.proofs.CoordMoves.{holds_put}

-- somewhere at a member
abbrev pub present : MemberState → ℕ → Bool
present x t = holds x.engine.active t || stands (view Memory x) t

pub record Onward (s z : Federation) : Type 0 where
  pub belongs_on : (t c : ℕ) → belongs (rest_of s) t c → belongs (rest_of z) t c
  pub alive_back : (t c : ℕ) → belongs (rest_of s) t c → alive (rest_of z) c t ≡ true → alive (rest_of s) c t ≡ true
  pub counts : (t m : ℕ) → count_at (told_of s t) m ≤ count_at (told_of z t) m
  pub decided : (t : ℕ) → is_decided s.decided t ≡ true → is_decided z.decided t ≡ true
  pub stand : (m t : ℕ) → LivesOn (rest_of z) t → stands (view Memory (s.member m)) t ≡ true → stands (view Memory (z.member m)) t ≡ true
  pub committed : (m t : ℕ) → holds (s.member m).committed t ≡ true → holds (z.member m).committed t ≡ true
  pub nowhere : (m t : ℕ) → LivesOn (rest_of z) t → 1 ≤ count_at (told_of s t) m → present (s.member m) t ≡ false → present (z.member m) t ≡ false

pub lives_back : (s z : Federation) → Onward s z → (t : ℕ) → LivesOn (rest_of z) t → LivesOn (rest_of s) t
lives_back s z o t l = λ c b. o.alive_back t c b (l c (o.belongs_on t c b))

pub onward_same : (s : Federation) → Onward s s
onward_same s =
    record {
      belongs_on = λ t c b. b;
      alive_back = λ t c b a. a;
      counts = λ t m. omega arith;
      decided = λ t h. h;
      stand = λ m t l h. h;
      committed = λ m t h. h;
      nowhere = λ m t l n h. h;
    }

pub onward_on : (s z w : Federation) → Onward s z → Onward z w → Onward s w
onward_on s z w o p =
    record {
      belongs_on = λ t c b. p.belongs_on t c (o.belongs_on t c b);
      alive_back = λ t c b a. o.alive_back t c b (p.alive_back t c (o.belongs_on t c b) a);
      counts = λ t m. let x = o.counts t m in let y = p.counts t m in omega (arith, x, y);
      decided = λ t h. p.decided t (o.decided t h);
      stand = λ m t l h. p.stand m t l (o.stand m t (lives_back z w p t l) h);
      committed = λ m t h. p.committed m t (o.committed m t h);
      nowhere = λ m t l n h. let x = o.counts t m in p.nowhere m t l (omega (arith, n, x)) (o.nowhere m t (lives_back z w p t l) n h);
    }

-- tables, entry by entry
module _ {X : Type 0} where
  pub holds_put_on : (table : Table X) (t : ℕ) (x : X) (u : ℕ) → holds table u ≡ true → holds (put table t x) u ≡ true
  holds_put_on table t x u h = by (t == u) refl
    where
      by : (b : Bool) → (t == u) ≡ b → holds (put table t x) u ≡ true
      by true e = ap is_some (ap (look (put table t x)) (sym (eqb-true t u e)) ∙ put_here table t x)
      by false e = ap is_some (put_there table t x u (eqb-false t u e)) ∙ h

  pub holds_put_off : (table : Table X) (t : ℕ) (x : X) (u : ℕ) → t ≢ u → holds (put table t x) u ≡ holds table u
  holds_put_off table t x u n = ap is_some (put_there table t x u n)

  pub holds_without_off : (table : Table X) (t u : ℕ) → t ≢ u → holds (without table t) u ≡ holds table u
  holds_without_off table t u n = ap is_some (without_there table t u n)

  pub holds_without_here : (table : Table X) (t : ℕ) → holds (without table t) t ≡ false
  holds_without_here table t = ap is_some (without_here table t)

  pub none_without : (table : Table X) (t u : ℕ) → holds table u ≡ false → holds (without table t) u ≡ false
  none_without table t u h = by (t == u) refl
    where
      by : (b : Bool) → (t == u) ≡ b → holds (without table t) u ≡ false
      by true e = ap (holds (without table t)) (sym (eqb-true t u e)) ∙ holds_without_here table t
      by false e = holds_without_off table t u (eqb-false t u e) ∙ h

  pub back_without : (table : Table X) (t u : ℕ) → holds (without table t) u ≡ true → holds table u ≡ true
  back_without table t u h = let p = holds_found (without table t) u h in found_holds table u p.0 (without_cases table t u p.0 p.1).1

-- a change of one member
pub member_onward : (s : Federation) (m : ℕ) (x : MemberState) → ((t : ℕ) → LivesOn (rest_of s) t → stands (view Memory (s.member m)) t ≡ true → stands (view Memory x) t ≡ true) →
    ((t : ℕ) → holds (s.member m).committed t ≡ true → holds x.committed t ≡ true) →
    ((t : ℕ) → LivesOn (rest_of s) t → 1 ≤ count_at (told_of s t) m → present (s.member m) t ≡ false → present x t ≡ false) → Onward s (with_member s m x)
member_onward s m x stand committed nowhere =
    record {
      belongs_on = λ t c b. b;
      alive_back = λ t c b a. a;
      counts = λ t k. omega arith;
      decided = λ t h. h;
      stand = λ k t l. at_each (λ k y. stands (view Memory (s.member k)) t ≡ true → stands (view Memory y) t ≡ true) s.member m x (stand t l) (λ k h. h) k;
      committed = λ k t. at_each (λ k y. holds (s.member k).committed t ≡ true → holds y.committed t ≡ true) s.member m x (committed t) (λ k h. h) k;
      nowhere = λ k t l. at_each (λ k y. 1 ≤ count_at (told_of s t) k → present (s.member k) t ≡ false → present y t ≡ false) s.member m x (nowhere t l) (λ k n h. h) k;
    }

-- a member that holds the same
pub member_alike : (s : Federation) (m : ℕ) (x : MemberState) → x.engine ≡ (s.member m).engine → x.committed ≡ (s.member m).committed → Onward s (with_member s m x)
member_alike s m x e k =
    member_onward s m x
    (λ t l h. (λ i. holds (e i).voted t || holds (k i) t) ∙ h)
    (λ t h. ap (λ n. holds n t) k ∙ h)
    (λ t l n h. (λ i. holds (e i).active t || (holds (e i).voted t || holds (k i) t)) ∙ h)

-- a change of one coordinator
pub coord_onward : (s : Federation) (c : ℕ) (y : CoordState) → ((t : ℕ) → holds y.table t ≡ true → alive (rest_of s) c t ≡ true) → Onward s (with_coord s c y)
coord_onward s c y back =
    record {
      belongs_on = λ t d b. b;
      alive_back = λ t d b. at_each (λ d z. (holds z.table t || settled_at (rest_of s) d t) ≡ true → alive (rest_of s) d t ≡ true) s.coord c y (here t) (λ d h. h) d;
      counts = λ t m. omega arith;
      decided = λ t h. h;
      stand = λ m t l h. h;
      committed = λ m t h. h;
      nowhere = λ m t l n h. h;
    }
  where
    here : (t : ℕ) → (holds y.table t || settled_at (rest_of s) c t) ≡ true → alive (rest_of s) c t ≡ true
    here t h = by (or_cases (holds y.table t) (settled_at (rest_of s) c t) h)
      where
        by : (holds y.table t ≡ true) ⊎ (settled_at (rest_of s) c t ≡ true) → alive (rest_of s) c t ≡ true
        by (inl k) = back t k
        by (inr k) = or_right (holds (s.coord c).table t) (settled_at (rest_of s) c t) k

-- one entry takes the place of another
pub entry_onward : (s : Federation) (t c : ℕ) (e x : Entry) → look (s.coord c).table t ≡ Some e → Onward s (with_coord s c (with_table (s.coord c) (put (s.coord c).table t x)))
entry_onward s t c e x is = coord_onward s c (with_table (s.coord c) (put (s.coord c).table t x)) (λ u h. or_left _ _ (holds_put (s.coord c).table t x u (found_holds (s.coord c).table t e is) h))

-- kept operations
pub nothing_kept : (b : EngineState) (t : ℕ) → holds b.active t ≡ false → kept_count b t ≡ 0
nothing_kept b t h = ap (λ o. length (operations_in o)) (not_held b.active t h)

pub absent_casts : (b : EngineState) (t n : ℕ) → SaysYes b t n → 1 ≤ n → holds b.active t ≡ false → ⊥
absent_casts b t n v l h =
    let q : 0 ≡ n = sym (nothing_kept b t h) ∙ v.count in
    let k : 1 ≤ 0 = subst (λ j. 1 ≤ j) (sym q) l in
    omega (arith, k)

pub absent_votes : (b : EngineState) (t n : ℕ) → vote_of b t n ≡ VoteYes → 1 ≤ n → holds b.active t ≡ false → ⊥
absent_votes b t n v l h = absent_casts b t n (yes_parts b t n v) l h

pub disarm_onward : (s : Federation) → Onward s (disarmed s)
disarm_onward s =
    record {
      belongs_on = λ u c b. b;
      alive_back = λ u c b a. a;
      counts = λ u m. omega arith;
      decided = λ u h. h;
      stand = λ m u l h. h;
      committed = λ m u h. h;
      nowhere = λ m u l n h. h;
    }
