-- Sets of numbers to which those that pass a test were added, by a walk over them or from a log.
use Rattle.std.proofs.Common.{◌≡◌, ◌⊎◌, inl, inr, ℕ, zero, suc, ◌<◌, Bool, true, false, cond, ◌&&◌, ◌||◌, nat_lt, List, [], ◌∷◌, map, Option, None, Some, refl, sym, ap, subst, ◌∙◌, arith}
use Rattle.std.specs.Prelude.{is_some}
use Rattle.std.specs.List.{list_any}
use Rattle.std.specs.Ordering.{nat_cmp, eq_by_cmp}
use Rattle.std.specs.Cmp.{nat_cmp_total}
use Rattle.std.specs.FinMap.{entries, get-insert, contains_key-keys}
use Rattle.std.proofs.lemmas.Bool.{cases_order, and_parts}
use Rattle.std.proofs.lemmas.Bool.Decides.{nat_tests}
use Rattle.co_base.specs.declared.head.Kind.{Kind}
use Rattle.co_pairs.specs.declared.prepared.Prepared.{Prepared}
use Rattle.co_recover.specs.declared.past.Decided.{Decided}
use Rattle.co_recover.specs.Recovered.{past_of_member, past_of_coord, decided_of, prepared_of}
use Rattle.co_state.specs.Table.{Table, look, holds, put, no_entries, least_where}
use Rattle.co_state.specs.declared.engine_state.EngineState.{EngineState}
use Rattle.co_state.specs.declared.engine_state.Vote.{Vote}
use Rattle.co_plain.specs.CoordStep.{coord_down, table_onto}
use Rattle.co_plain.specs.CoordView.{recovered_commits}
use Rattle.co_plain.specs.MemberStep.{member_down_with}
use Rattle.co_plain.specs.MemberView.{Numbers, with_number, with_numbers, recovered_view}
use Rattle.co_plain.specs.declared.coord_state.CoordState.{CoordState}
use Rattle.co_plain.specs.declared.coord_state.Entry.{Entry}
use Rattle.co_plain.specs.declared.coord_state.Entry.TheVariants as entry
use Rattle.co_plain.specs.declared.log_state.LogState.{LogState}
use Rattle.co_plain.specs.declared.member_state.MemberState.{MemberState}
use Rattle.co_coord.specs.Reading.{is_above}
use Rattle.co_member.specs.Reading.{open_after}
use Rattle.co_law_base.proofs.Lookups.{look_none, put_here, put_there}
use Rattle.co_undecided.proofs.Least.{IsLeast, least_of, least_of_both, table_least, passed}
use Rattle.co_cluster.specs.Listed.{is_undecided, is_undecided_up, any_to, AreNoted}
use Rattle.co_cluster.proofs.Walks.{room}

-- ---- truth values

and_none : (a : Bool) → (a && false) ≡ false
and_none true = refl
and_none false = refl

and_all : (a : Bool) → (a && true) ≡ a
and_all true = refl
and_all false = refl

or_none : (a b : Bool) → b ≡ false → a ≡ (a || b)
or_none true b e = refl
or_none false b e = sym e

or_right : (a b : Bool) → b ≡ true → (a || b) ≡ true
or_right true b e = refl
or_right false b e = e

-- ---- a walk over those that pass

-- below the next one, or anywhere where there is none
abbrev pub is_before : Option ℕ → ℕ → Bool
is_before None t = true
is_before (Some n) t = nat_lt t n

-- the next one that passes above a number
abbrev pub IsNext : (ℕ → Bool) → Option ℕ → Option ℕ → Type 0
IsNext test after next = IsLeast (λ u. is_above after u && test u) next

-- those that pass before the next one were added
pub record AreNotedTo (test : ℕ → Bool) (old new : Numbers) (next : Option ℕ) : Type 0 where
  pub noted : (t : ℕ) → holds new t ≡ (holds old t || (test t && is_before next t))
  pub passes : (n : ℕ) → next ≡ Some n → test n ≡ true

module _ (test : ℕ → Bool) where
  below : (t n : ℕ) → t < n → nat_lt t n ≡ true
  below t n l = grind (arith, nat_tests, l)

  under : (t n : ℕ) → nat_lt t n ≡ true → t < n
  under t n e = grind (arith, nat_tests, e)

  not_passing : (t : ℕ) (b : Bool) → test t ≡ false → (test t && b) ≡ false
  not_passing t b e = ap (λ a. a && b) e

  -- none above a number passes before the next one
  none_between : (after next : Option ℕ) → IsNext test after next → (t : ℕ) → is_above after t ≡ true → (test t && is_before next t) ≡ false
  none_between after None least t above = not_passing t true (sym (ap (λ a. a && test t) above) ∙ least t)
  none_between after (Some n) least t above = by (nat_lt t n) refl
    where
      by : (b : Bool) → nat_lt t n ≡ b → (test t && nat_lt t n) ≡ false
      by true e = not_passing t (nat_lt t n) (sym (ap (λ a. a && test t) above) ∙ least.1 t (under t n e))
      by false e = ap (λ b. test t && b) e ∙ and_none (test t)

  found_passes : (after next : Option ℕ) → IsNext test after next → (n : ℕ) → next ≡ Some n → test n ≡ true
  found_passes after next least n is = (and_parts (is_above after n) (test n) (subst (IsLeast (λ u. is_above after u && test u)) is least).0).1

  pub noting_starts : (old : Numbers) (next : Option ℕ) → IsNext test None next → AreNotedTo test old old next
  noting_starts old next least = record {
    noted = λ t. or_none (holds old t) (test t && is_before next t) (none_between None next least t refl);
    passes = found_passes None next least;
  }

  above_next : (n : ℕ) (next : Option ℕ) → IsNext test (Some n) next → (t : ℕ) → (t ≡ n) ⊎ (t < n) → is_before next t ≡ true
  above_next n None least t to = refl
  above_next n (Some k) least t to = by to
    where
      over : n < k
      over = under n k (and_parts (nat_lt n k) (test k) least.0).0

      by : (t ≡ n) ⊎ (t < n) → nat_lt t k ≡ true
      by (inl e) = below t k (omega (arith, e, over))
      by (inr l) = below t k (omega (arith, l, over))

  pub noting_goes_on : (old new more : Numbers) (n : ℕ) (next : Option ℕ) → more ≡ put new n tt → AreNotedTo test old new (Some n) → IsNext test (Some n) next → AreNotedTo test old more next
  noting_goes_on old new more n next is so_far least = record {
    noted = λ t. ap (λ (m : Numbers). holds m t) is ∙ by t (cases_order t n);
    passes = found_passes (Some n) next least;
  }
    where
      by : (t : ℕ) → (t ≡ n) ⊎ ((t < n) ⊎ (n < t)) → holds (put new n tt) t ≡ (holds old t || (test t && is_before next t))
      by t (inl e) =
          ap (holds (put new n tt)) e ∙ ap is_some (put_here new n tt)
          ∙ sym (or_right (holds old t) (test t && is_before next t) (λ i. (ap test e ∙ so_far.passes n refl) i && above_next n next least t (inl e) i))
      by t (inr (inl l)) =
          ap is_some (put_there new n tt t (λ e. omega (arith, e, l))) ∙ so_far.noted t
          ∙ ap (λ b. holds old t || (test t && b)) (below t n l ∙ sym (above_next n next least t (inr l)))
      by t (inr (inr l)) =
          ap is_some (put_there new n tt t (λ e. omega (arith, e, l))) ∙ so_far.noted t
          ∙ ap (λ b. holds old t || b) (not_yet t l ∙ sym (none_between (Some n) next least t (below n t l)))
        where
          not_yet : (t : ℕ) → n < t → (test t && nat_lt t n) ≡ false
          not_yet t l = ap (λ b. test t && b) (let e : nat_lt t n ≡ false = grind (arith, nat_tests, l) in e) ∙ and_none (test t)

  pub noting_ends : (old new : Numbers) → AreNotedTo test old new None → AreNoted test old new
  noting_ends old new x = λ t. x.noted t ∙ ap (λ b. holds old t || b) (and_all (test t))

  -- and each step goes up
  pub noting_rises : (n : ℕ) (next : Option ℕ) → IsNext test (Some n) next → n < 4294967296 → room next < room (Some n)
  noting_rises n None least few = omega (arith, few)
  noting_rises n (Some k) least few = let over : n < k = under n k (and_parts (nat_lt n k) (test k) least.0).0 in omega (arith, few, over)

-- ---- what is walked

passed_is : {X : Type 0} (after : Option ℕ) (u : ℕ) (o : Option X) → passed (λ v x. is_above after v) u o ≡ (is_above after u && is_some o)
passed_is after u None = sym (and_none (is_above after u))
passed_is after u (Some x) = sym (and_all (is_above after u))

both : (a p q : Bool) → ((a && p) || (a && q)) ≡ (a && (p || q))
both true p q = refl
both false p q = refl

pub undecided_next : (b : EngineState) (after : Option ℕ) → IsNext (is_undecided b) after (open_after b after)
undecided_next b after =
    least_of (λ u. passed (λ v os. is_above after v) u (look b.active u) || passed (λ v vote. is_above after v) u (look b.voted u)) (λ u. is_above after u && is_undecided b u) (open_after b after)
    (λ u. (λ i. passed_is after u (look b.active u) i || passed_is after u (look b.voted u) i) ∙ both (is_above after u) (holds b.active u) (holds b.voted u))
    (least_of_both _ _ _ _ (table_least (λ v os. is_above after v) b.active) (table_least (λ v vote. is_above after v) b.voted))

pub tabled_next : {X : Type 0} (table : Table X) (after : Option ℕ) → IsNext (holds table) after (least_where (λ t e. is_above after t) table)
tabled_next table after =
    least_of (λ u. passed (λ v e. is_above after v) u (look table u)) (λ u. is_above after u && holds table u) (least_where (λ t e. is_above after t) table) (λ u. passed_is after u (look table u))
    (table_least (λ v e. is_above after v) table)

-- ---- what logs tell

some_cond : {X : Type 0} (b : Bool) (x : X) (o : Option X) → is_some (cond b (Some x) o) ≡ (b || is_some o)
some_cond true x o = refl
some_cond false x o = refl

shift : (a b c : Bool) → ((b || a) || c) ≡ (a || (b || c))
shift true true c = refl
shift true false c = refl
shift false true c = refl
shift false false c = refl

laid : (ts : List ℕ) (old : Numbers) (t : ℕ) → holds (with_numbers old ts) t ≡ (holds old t || list_any (eq_by_cmp nat_cmp t) ts)
laid [] old t = or_none (holds old t) false refl
laid (u ∷ us) old t =
    laid us (with_number old u) t
    ∙ ap (λ b. b || list_any (eq_by_cmp nat_cmp t) us) (ap is_some (get-insert nat_cmp_total old u tt t) ∙ some_cond (eq_by_cmp nat_cmp t u) tt (look old t))
    ∙ shift (holds old t) (eq_by_cmp nat_cmp t u) (list_any (eq_by_cmp nat_cmp t) us)

voted_keys : (es : List (ℕ × Vote)) → map (λ (v : Prepared). v.txn) (map prepared_of es) ≡ map (λ e. e.0) es
voted_keys [] = refl
voted_keys (e ∷ es) = ap (λ (ts : List ℕ). e.0 ∷ ts) (voted_keys es)

pub voted_noted : (kind : Kind) (l : LogState) (x : MemberState) (old new : Numbers) → x ≡ member_down_with kind l → new ≡ with_numbers old (map (λ (v : Prepared). v.txn) (past_of_member (recovered_view l.stable)).voted) →
    AreNoted (is_undecided x.engine) old new
voted_noted kind l x old new down is = λ t.
    let v = recovered_view l.stable in
    ap (λ (m : Numbers). holds m t) is ∙ laid (map (λ (p : Prepared). p.txn) (past_of_member v).voted) old t
    ∙ ap (λ b. holds old t || b)
    (ap (λ ts. list_any (eq_by_cmp nat_cmp t) ts) (voted_keys (entries v.voted)) ∙ sym (contains_key-keys v.voted t)
    ∙ ap (λ b. b || holds v.voted t) (sym (ap is_some (look_none t))) ∙ ap (λ (y : MemberState). is_undecided y.engine t) (sym down))

decided_keys : (es : List (ℕ × List ℕ)) → map (λ (d : Decided). d.txn) (map decided_of es) ≡ map (λ e. e.0) es
decided_keys [] = refl
decided_keys (e ∷ es) = ap (λ (ts : List ℕ). e.0 ∷ ts) (decided_keys es)

tabled : (es : List (ℕ × List ℕ)) (table : Table Entry) (t : ℕ) → holds (table_onto table es) t ≡ (holds table t || list_any (eq_by_cmp nat_cmp t) (map (λ e. e.0) es))
tabled [] table t = or_none (holds table t) false refl
tabled (e ∷ es) table t =
    tabled es (put table e.0 (entry.Committed e.1 [])) t
    ∙ ap (λ b. b || list_any (eq_by_cmp nat_cmp t) (map (λ d. d.0) es)) (ap is_some (get-insert nat_cmp_total table e.0 (entry.Committed e.1 []) t) ∙ some_cond (eq_by_cmp nat_cmp t e.0) (entry.Committed e.1 []) (look table t))
    ∙ shift (holds table t) (eq_by_cmp nat_cmp t e.0) (list_any (eq_by_cmp nat_cmp t) (map (λ d. d.0) es))

pub decided_noted : (l : LogState) (y : CoordState) (old new : Numbers) → y ≡ coord_down l → new ≡ with_numbers old (map (λ (d : Decided). d.txn) (past_of_coord (recovered_commits l.stable)).committed) →
    AreNoted (holds y.table) old new
decided_noted l y old new down is = λ t.
    let es = entries (recovered_commits l.stable).unended in
    ap (λ (m : Numbers). holds m t) is ∙ laid (map (λ (d : Decided). d.txn) (past_of_coord (recovered_commits l.stable)).committed) old t
    ∙ ap (λ b. holds old t || b)
    (ap (λ ts. list_any (eq_by_cmp nat_cmp t) ts) (decided_keys es) ∙ ap (λ b. b || list_any (eq_by_cmp nat_cmp t) (map (λ e. e.0) es)) (sym (ap is_some (look_none t)))
    ∙ sym (tabled es no_entries t) ∙ ap (λ (z : CoordState). holds z.table t) (sym down))

-- ---- node by node

or_again : (a b c : Bool) → ((a || b) || c) ≡ (a || (b || c))
or_again true b c = refl
or_again false b c = refl

module _ (test : ℕ → ℕ → Bool) where
  pub none_noted_yet : (old : Numbers) → AreNoted (λ t. any_to 0 (λ n. test n t)) old old
  none_noted_yet old = λ t. or_none (holds old t) false refl

  -- one node more
  pub one_noted_more : (n k : ℕ) (old mid new : Numbers) → k ≡ suc n → AreNoted (λ t. any_to n (λ i. test i t)) old mid → AreNoted (test k) mid new → AreNoted (λ t. any_to k (λ i. test i t)) old new
  one_noted_more n zero old mid new e so_far one = absurd (omega (arith, e))
  one_noted_more n (suc k) old mid new e so_far one =
      let same : n ≡ k = omega (arith, e) in
      λ t. one t ∙ ap (λ b. b || test (suc k) t) (so_far t ∙ ap (λ i. holds old t || any_to i (λ j. test j t)) same) ∙ or_again (holds old t) (any_to k (λ j. test j t)) (test (suc k) t)

  pub all_noted : (n k : ℕ) (old new : Numbers) → n ≡ k → AreNoted (λ t. any_to n (λ i. test i t)) old new → AreNoted (λ t. any_to k (λ i. test i t)) old new
  all_noted n k old new same noted = subst (λ i. AreNoted (λ t. any_to i (λ j. test j t)) old new) same noted

-- a member that is down tells nothing, and one that is up what it has
pub up_noted : (x : MemberState) (old new : Numbers) → x.up ≡ true → AreNoted (is_undecided x.engine) old new → AreNoted (is_undecided_up x) old new
up_noted x old new up noted = λ t. noted t ∙ ap (λ b. holds old t || (b && is_undecided x.engine t)) (sym up)

pub down_noted : (x : MemberState) (old : Numbers) → x.up ≡ false → AreNoted (is_undecided_up x) old old
down_noted x old down = λ t. or_none (holds old t) (x.up && is_undecided x.engine t) (ap (λ b. b && is_undecided x.engine t) down)
