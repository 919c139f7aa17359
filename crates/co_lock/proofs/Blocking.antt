-- The least transaction in the way of an operation, as the state says it.
use Rattle.std.proofs.Common.{◌≡◌, ◌⊎◌, inl, inr, T, ℕ, Bool, true, false, cond, not, ◌&&◌, ◌||◌, ◌≤◌, List, [], ◌∷◌, if◌then◌else◌, Option, None, Some, is_some, refl, sym, ap, ◌∙◌, subst, true≢false, arith}
use Rattle.std.specs.Prelude.{◌==◌}
use Rattle.std.specs.Option.{option_map}
use Rattle.std.specs.Ordering.{nat_cmp}
use Rattle.std.specs.FinMap.{entries, entries_sorted, get-entries}
use Rattle.std.specs.FinMap.Entries.{find, below_all, is_sorted}
use Rattle.co_base.specs.declared.op.Op.{Op}
use Rattle.co_base.specs.declared.op.Op.TheVariants.{Read, Write, Erase, Scan}
use Rattle.co_base.specs.Span.{span_of_key}
use Rattle.co_state.specs.declared.engine_state.EngineState.{EngineState}
use Rattle.co_state.specs.declared.engine_state.Operation.{Operation}
use Rattle.co_state.specs.declared.engine_state.Vote.{Vote}
use Rattle.co_state.specs.Changes.{sets_of, spans_of}
use Rattle.co_state.specs.EngineState.{operations_in, sets_in}
use Rattle.co_state.specs.Keys.{reads_key, writes_key, writes_within}
use Rattle.co_state.specs.LockRule.{writes_block, active_blocks, lock_holder}
use Rattle.co_state.specs.Table.{Table, look, first_in, least_where}
use Rattle.co_locktab.specs.Locks.{IsLeast}
use Rattle.co_locktab.proofs.Least.{first, second, least_same, least_lesser, found_above}
use Rattle.co_locktab.proofs.Orders.{same_number, one_number, number_itself}
use Rattle.co_engine.specs.declared.undecided.Undecided.{Undecided}
use Rattle.co_engine.specs.Undecided.{IsKept}
use Rattle.co_engine.proofs.Rolling.{none_mapped}
use Rattle.co_pairs.proofs.Picking.{passes}
use Rattle.co_lock.proofs.Locking.{and_false, or_false}
use Rattle.co_state.proofs.Ties.{nothing_below}

passes_some : {X : Type 0} (test : X → Bool) (o : Option X) → passes test o ≡ true → is_some o ≡ true
passes_some test None e = e
passes_some test (Some x) e = refl

module _ {X : Type 0} (test : ℕ → X → Bool) where
  first_by : (e : ℕ × X) (es : List (ℕ × X)) (b : Bool) → test e.0 e.1 ≡ b → T (below_all nat_cmp e.0 es)
      → IsLeast (λ u. passes (test u) (find nat_cmp u es)) (first_in test es)
      → IsLeast (λ u. passes (test u) (find nat_cmp u (e ∷ es))) (if b then Some e.0 else first_in test es)
  first_by e es true is h k = (
    ap (λ b. passes (test e.0) (cond b (Some e.1) (find nat_cmp e.0 es))) (number_itself e.0) ∙ is,
    λ v f. by v (same_number v e.0) refl f,
  )
    where
      by : (v : ℕ) (b : Bool) → same_number v e.0 ≡ b → passes (test v) (cond b (Some e.1) (find nat_cmp v es)) ≡ true → e.0 ≤ v
      by v true s f = subst (λ j. e.0 ≤ j) (sym (one_number v e.0 s)) (omega arith)
      by v false s f = found_above e.0 v es h (passes_some (test v) (find nat_cmp v es) f)
  first_by e es false is h k = least_same _ _ (first_in test es) (λ u. by u (same_number u e.0) refl) k
    where
      by : (u : ℕ) (b : Bool) → same_number u e.0 ≡ b → passes (test u) (find nat_cmp u es) ≡ passes (test u) (cond b (Some e.1) (find nat_cmp u es))
      by u true s = ap (passes (test u)) (nothing_below nat_cmp u es (subst (λ j. T (below_all nat_cmp j es)) (sym (one_number u e.0 s)) h)) ∙ sym (ap (λ j. test j e.1) (one_number u e.0 s) ∙ is)
      by u false s = refl

  least_first_in : (es : List (ℕ × X)) → T (is_sorted nat_cmp es) → IsLeast (λ u. passes (test u) (find nat_cmp u es)) (first_in test es)
  least_first_in [] h = λ u. refl
  least_first_in (e ∷ es) h = first_by e es (test e.0 e.1) refl (first _ _ h) (least_first_in es (second _ _ h))

  pub least_where_is : (table : Table X) → IsLeast (λ u. passes (test u) (look table u)) (least_where test table)
  least_where_is table =
      least_same _ _ (least_where test table) (λ u. ap (passes (test u)) (sym (get-entries table u))) (least_first_in (entries table) (entries_sorted table))

abbrev pub blocks_in : Option (List Operation) → Option Vote → Op → Bool
blocks_in os vote (Read key) = writes_within (sets_in vote (operations_in os)).writes (span_of_key key)
blocks_in os vote (Scan span) = writes_within (sets_in vote (operations_in os)).writes span
blocks_in os vote (Write key value) = writes_key (sets_in vote (operations_in os)).writes key || reads_key (spans_of (operations_in os)) key
blocks_in os vote (Erase key) = writes_key (sets_in vote (operations_in os)).writes key || reads_key (spans_of (operations_in os)) key

-- whether u is in the way, by what it read and wrote
abbrev pub blocks : EngineState → ℕ → Op → Bool
blocks b u op = blocks_in (look b.active u) (look b.voted u) op

nobody : (op : Op) → blocks_in None None op ≡ false
nobody (Read key) = refl
nobody (Scan span) = refl
nobody (Write key value) = refl
nobody (Erase key) = refl

active_one : (os : List Operation) (op : Op) → active_blocks os op ≡ blocks_in (Some os) None op
active_one os (Read key) = refl
active_one os (Scan span) = refl
active_one os (Write key value) = refl
active_one os (Erase key) = refl

voted_one : (vote : Vote) (op : Op) → writes_block vote.sets.writes op ≡ blocks_in None (Some vote) op
voted_one vote (Read key) = refl
voted_one vote (Scan span) = refl
voted_one vote (Write key value) = sym (or_false (writes_key vote.sets.writes key))
voted_one vote (Erase key) = sym (or_false (writes_key vote.sets.writes key))

in_way : (os : Option (List Operation)) (vote : Option Vote) (op : Op) (n : Bool) → (os ≡ None) ⊎ (vote ≡ None)
    → (passes (λ o. n && active_blocks o op) os || passes (λ v. n && writes_block v.sets.writes op) vote) ≡ (n && blocks_in os vote op)
in_way None None op n one = sym (ap (λ b. n && b) (nobody op) ∙ and_false n)
in_way (Some os) None op n one = or_false (n && active_blocks os op) ∙ ap (λ b. n && b) (active_one os op)
in_way None (Some vote) op n one = ap (λ b. n && b) (voted_one vote op)
in_way (Some os) (Some vote) op n (inl e) = absurd (let f : Some os ≡ None = e in cc)
in_way (Some os) (Some vote) op n (inr e) = absurd (let f : Some vote ≡ None = e in cc)

pub holder_least : (b : EngineState) (t : ℕ) (op : Op) → ((u : ℕ) → (look b.active u ≡ None) ⊎ (look b.voted u ≡ None)) → IsLeast (λ u. not (u == t) && blocks b u op) (lock_holder b t op)
holder_least b t op one =
    least_same _ _ (lock_holder b t op) (λ u. in_way (look b.active u) (look b.voted u) op (not (u == t)) (one u))
    (least_lesser (λ u. passes (λ o. not (u == t) && active_blocks o op) (look b.active u)) (λ u. passes (λ v. not (u == t) && writes_block v.sets.writes op) (look b.voted u)) _ _
    (least_where_is (λ u os. not (u == t) && active_blocks os op) b.active)
    (least_where_is (λ u vote. not (u == t) && writes_block vote.sets.writes op) b.voted))

at_once : (t u : ℕ) → t ≤ u → u ≤ t → t ≡ u
at_once t u h k = omega arith

-- there is one least number
pub least_unique : (test : ℕ → Bool) (a b : Option ℕ) → IsLeast test a → IsLeast test b → a ≡ b
least_unique test None None h k = refl
least_unique test None (Some u) h k = absurd (true≢false (sym k.0 ∙ h u))
least_unique test (Some t) None h k = absurd (true≢false (sym h.0 ∙ k t))
least_unique test (Some t) (Some u) h k = ap (λ n. Some n) (at_once t u (h.1 u k.0) (k.1 t h.0))

one_by : (voted : Bool) (e : Undecided) (os : Option (List Operation)) (vote : Option Vote)
    → option_map sets_of os ≡ (if voted then None else Some e.sets) → option_map (λ v. v.sets) vote ≡ (if voted then Some e.sets else None) → (os ≡ None) ⊎ (vote ≡ None)
one_by true e os vote f g = inl (none_mapped sets_of os f)
one_by false e os vote f g = inr (none_mapped (λ v. v.sets) vote g)

-- a transaction is active or has voted, and not both
pub kept_one : (o : Option Undecided) (os : Option (List Operation)) (vote : Option Vote) → IsKept o os vote → (os ≡ None) ⊎ (vote ≡ None)
kept_one None os vote k = inl (none_mapped sets_of os k.sets_are)
kept_one (Some e) os vote k = one_by e.voted e os vote k.sets_are k.votes_are
