-- What the index of ranges finds.
use Rattle.std.proofs.Common.{◌≡◌, ◌⊎◌, inl, inr, ℕ, Bool, true, false, not, ◌&&◌, ◌≤◌, ◌<◌, ◌+◌, ◌-◌, List, Option, None, Some, is_some, length, refl, sym, ap, ◌∙◌, subst, true≢false, arith}
use Rattle.std.specs.Prelude.{◌==◌, nat_le, nat_lt, filter}
use Rattle.std.specs.List.{list_any}
use Rattle.co_locktab.proofs.Holding.{passed}
use Rattle.co_state.specs.Table.{holds}
use Rattle.std.specs.BTreeSet.{contains}
use Rattle.std.specs.FinMap.{FinMap, get, get-entries, entries, entries_sorted}
use Rattle.std.proofs.lemmas.Bool.{cases_order}
use Rattle.std.proofs.lemmas.Bool.Decides.{nat_tests}
use Rattle.co_base.specs.Letters.{IsText}
use Rattle.co_base.specs.Span.{Span, span_cmp, span_has}
use Rattle.co_locktab.specs.declared.fork.Fork.{Fork}
use Rattle.co_locktab.specs.declared.fork_index.ForkIndex.{ForkIndex}
use Rattle.co_locktab.specs.declared.holders.Holders.{Holders}
use Rattle.co_locktab.specs.Forks.{fork_of, with_middle, middle_of, byte_at}
use Rattle.co_locktab.specs.Holding.{is_held, holder_in}
use Rattle.co_locktab.specs.Locks.{IsLeast}
use Rattle.co_locktab.specs.Places.{same_fork, by_lower, by_upper, is_placed, are_beside, IsFirstFrom, IsLastBelow, IsIndexed}
use Rattle.co_locktab.specs.Weighed.{Weighs, holds_over, covers}
use Rattle.co_locktab.proofs.Orders.{keys_apart, spans_total, spans_apart, ties-itself, tie}
use Rattle.co_locktab.proofs.Placing.{forks_total, forks_apart}
use Rattle.co_locktab.proofs.Least.{left_true, right_true}
use Rattle.co_locktab.proofs.Behind.{place_at, none_from, none_below, none_beside, none_before, none_after}
use Rattle.co_locktab.proofs.Starting.{start_of, none_later}

-- ---- what is looked at
there_held : (m : FinMap span_cmp Holders) (s : Span) (u : ℕ) → is_held m s u ≡ true → is_some (get m s) ≡ true
there_held m s u = by (get m s)
  where
    by : (o : Option Holders) → holder_in o u ≡ true → is_some o ≡ true
    by None e = absurd (true≢false (sym e))
    by (Some h) e = refl

placed : (m : FinMap span_cmp Holders) (s : Span) (fork : Fork) (u : ℕ) → fork_of s ≡ fork → is_held m s u ≡ true → is_placed m fork (Some s) ≡ true
placed m s fork u e h = λ i. (ap (same_fork fork) e ∙ ties-itself forks_total forks_apart fork) i && there_held m s u h i

-- the ranges of a fork were seen, in either order
pub weighs_lower : (m : FinMap span_cmp Holders) (forks : ForkIndex) (key : List ℕ) (t : ℕ) (fork : Fork) (before after : Option ℕ) → IsIndexed m forks
    → Weighs m key t before after (λ s. contains by_lower forks.lower (record { fork = fork; range = Some s }) ≡ true) → Weighs m key t before after (λ s. fork_of s ≡ fork)
weighs_lower m forks key t fork before after x w = record {
  keeps = w.keeps;
  right = w.right;
  full = λ s seen has u h n. w.full s (x.by_lower_is (record { fork = fork; range = Some s }) ∙ placed m s fork u seen h) has u h n;
}

pub weighs_upper : (m : FinMap span_cmp Holders) (forks : ForkIndex) (key : List ℕ) (t : ℕ) (fork : Fork) (before after : Option ℕ) → IsIndexed m forks
    → Weighs m key t before after (λ s. contains by_upper forks.upper (record { fork = fork; range = Some (record { range = s }) }) ≡ true) → Weighs m key t before after (λ s. fork_of s ≡ fork)
weighs_upper m forks key t fork before after x w = record {
  keeps = w.keeps;
  right = w.right;
  full = λ s seen has u h n. w.full s (x.by_upper_is (record { fork = fork; range = Some (record { range = s }) }) ∙ placed m s fork u seen h) has u h n;
}

pub weighs_nothing : (m : FinMap span_cmp Holders) (key : List ℕ) (t : ℕ) (least : Option ℕ) (Seen : Span → Type 0) → ((s : Span) → Seen s → ⊥) → Weighs m key t least least Seen
weighs_nothing m key t least Seen none = record { keeps = λ u e. e; right = λ u e. inl e; full = λ s seen has u h n. absurd (none s seen) }

-- of ranges that nobody holds, there is nothing to look at
pub weighs_bare : (m : FinMap span_cmp Holders) (key : List ℕ) (t : ℕ) (before : Option ℕ) (Seen : Span → Type 0) → ((s : Span) → Seen s → (u : ℕ) → is_held m s u ≡ true → ⊥) → Weighs m key t before before Seen
weighs_bare m key t before Seen none = record { keeps = λ u e. e; right = λ u e. inl e; full = λ s seen has u h n. absurd (none s seen u h) }

-- a range with holders stands at its fork
pub stands : (m : FinMap span_cmp Holders) (forks : ForkIndex) (fork : Fork) (middle : ℕ) (s : Span) (u : ℕ) → IsIndexed m forks
    → fork_of s ≡ with_middle fork middle → is_held m s u ≡ true → contains by_lower forks.lower (place_at fork middle s) ≡ true
stands m forks fork middle s u x e h = x.by_lower_is (place_at fork middle s) ∙ placed m s (with_middle fork middle) u e h

-- fewer ranges were seen
pub weighs_fewer : (m : FinMap span_cmp Holders) (key : List ℕ) (t : ℕ) (before after : Option ℕ) (Seen Fewer : Span → Type 0) → ((s : Span) → Fewer s → Seen s) → Weighs m key t before after Seen → Weighs m key t before after Fewer
weighs_fewer m key t before after Seen Fewer into w = record { keeps = w.keeps; right = w.right; full = λ s seen has u h n. w.full s (into s seen) has u h n }

-- one step after others
pub weighs_more : (m : FinMap span_cmp Holders) (key : List ℕ) (t : ℕ) (before between after : Option ℕ) (First Second Seen : Span → Type 0)
    → Weighs m key t before between First → Weighs m key t between after Second → ((s : Span) → Seen s → First s ⊎ Second s) → Weighs m key t before after Seen
weighs_more m key t before between after First Second Seen v w split = record {
  keeps = λ u e. w.keeps u (v.keeps u e);
  right = λ u e. by u (w.right u e);
  full = λ s seen has u h n. of s has u h n (split s seen);
}
  where
    by : (u : ℕ) → (between ≡ Some u) ⊎ (holds_over m key t u ≡ true) → (before ≡ Some u) ⊎ (holds_over m key t u ≡ true)
    by u (inl e) = v.right u e
    by u (inr e) = inr e

    of : (s : Span) → span_has s key ≡ true → (u : ℕ) → is_held m s u ≡ true → not (u == t) ≡ true → First s ⊎ Second s → covers after u ≡ true
    of s has u h n (inl f) = w.keeps u (v.full s f has u h n)
    of s has u h n (inr f) = w.full s f has u h n

-- ---- the forks behind the same bytes
abbrev pub SeenBehind : Fork → ℕ → ℕ → Span → Type 0
SeenBehind start byte heights s = (height : ℕ) × (height < heights) × (fork_of s ≡ with_middle start (middle_of height byte))

-- of those the ones that are not below one of them
abbrev pub SeenFrom : Fork → ℕ → ℕ → Span → Type 0
SeenFrom first byte heights s = (height : ℕ) × (height < heights) × (first.middle ≤ middle_of height byte) × (fork_of s ≡ with_middle first (middle_of height byte))

abbrev pub SeenAt : Fork → ℕ → ℕ → Span → Type 0
SeenAt first byte height s = (first.middle ≤ middle_of height byte) × (fork_of s ≡ with_middle first (middle_of height byte))

pub more_beside : (first : Fork) (byte heights : ℕ) (s : Span) → SeenFrom first byte (heights + 1) s → SeenFrom first byte heights s ⊎ SeenAt first byte heights s
more_beside first byte heights s h = by (nat_lt h.0 heights) refl
  where
    by : (b : Bool) → nat_lt h.0 heights ≡ b → SeenFrom first byte heights s ⊎ SeenAt first byte heights s
    by true e = inl (h.0, (let l : h.0 < heights = grind (arith, nat_tests) in l), h.2, h.3)
    by false e =
        let k : h.0 < heights + 1 = h.1 in
        let m : h.0 ≡ heights = grind (arith, nat_tests) in
        inr (subst (λ n. SeenAt first byte n s) m (h.2, h.3))

-- ---- where no range stands, there is nothing to look at
module _ (m : FinMap span_cmp Holders) (forks : ForkIndex) (key : List ℕ) (t : ℕ) (x : IsIndexed m forks) (start : Fork) (byte : ℕ) where
  pub bare_from : (before : Option ℕ) → IsFirstFrom forks.lower (with_middle start 0) None → Weighs m key t before before (SeenBehind start byte 8)
  bare_from before is = weighs_bare m key t before (SeenBehind start byte 8) (λ s seen u h.
      true≢false (sym (stands m forks start (middle_of seen.0 byte) s u x seen.2 h) ∙ none_from forks.lower start (middle_of seen.0 byte) s is))

  pub bare_beside : (before : Option ℕ) (first : Fork) → IsFirstFrom forks.lower (with_middle start 0) (Some first) → are_beside first start ≡ false
      → Weighs m key t before before (SeenBehind start byte 8)
  bare_beside before first is apart = weighs_bare m key t before (SeenBehind start byte 8) (λ s seen u h.
      true≢false (sym (stands m forks start (middle_of seen.0 byte) s u x seen.2 h) ∙ none_beside forks.lower start (middle_of seen.0 byte) s first is apart))

  -- no range stands below the first fork
  pub weighs_from : (before after : Option ℕ) (first : Fork) → IsFirstFrom forks.lower (with_middle start 0) (Some first) → are_beside first start ≡ true
      → Weighs m key t before after (SeenFrom first byte 8) → Weighs m key t before after (SeenBehind start byte 8)
  weighs_from before after first is beside w = record {
    keeps = w.keeps;
    right = w.right;
    full = λ s seen has u h n. by s seen has u h n (cases_order first.middle (middle_of seen.0 byte));
  }
    where
      same : first.prefix ≡ start.prefix
      same = keys_apart first.prefix start.prefix (tie _ beside)

      at : (middle : ℕ) → with_middle start middle ≡ with_middle first middle
      at middle = λ i. record { prefix = sym same i; middle = middle }

      of : (s : Span) (seen : SeenBehind start byte 8 s) → span_has s key ≡ true → (u : ℕ) → is_held m s u ≡ true → not (u == t) ≡ true
          → first.middle ≤ middle_of seen.0 byte → covers after u ≡ true
      of s seen has u h n l = w.full s (seen.0, seen.1, l, seen.2 ∙ at (middle_of seen.0 byte)) has u h n

      by : (s : Span) (seen : SeenBehind start byte 8 s) → span_has s key ≡ true → (u : ℕ) → is_held m s u ≡ true → not (u == t) ≡ true
          → (first.middle ≡ middle_of seen.0 byte) ⊎ ((first.middle < middle_of seen.0 byte) ⊎ (middle_of seen.0 byte < first.middle)) → covers after u ≡ true
      by s seen has u h n (inl e) = of s seen has u h n (omega (arith, e))
      by s seen has u h n (inr (inl l)) = of s seen has u h n (omega (arith, l))
      by s seen has u h n (inr (inr l)) = absurd (true≢false
          (sym (stands m forks start (middle_of seen.0 byte) s u x seen.2 h) ∙ none_before forks.lower start (middle_of seen.0 byte) s first is same l))

module _ (m : FinMap span_cmp Holders) (forks : ForkIndex) (key : List ℕ) (t : ℕ) (x : IsIndexed m forks) (first : Fork) (byte : ℕ)
    (fits : (height : ℕ) → height < 8 → middle_of height byte < 256) where
  pub bare_below : (before : Option ℕ) → IsLastBelow forks.lower (with_middle first 256) None → Weighs m key t before before (SeenFrom first byte 8)
  bare_below before is = weighs_bare m key t before (SeenFrom first byte 8) (λ s seen u h.
      true≢false (sym (stands m forks first (middle_of seen.0 byte) s u x seen.3 h) ∙ none_below forks.lower first (middle_of seen.0 byte) s is (fits seen.0 seen.1)))

  -- no range stands above the last fork
  pub bare_after : (least : Option ℕ) (last : Fork) (height : ℕ) → height < 8 → IsLastBelow forks.lower (with_middle first 256) (Some last)
      → (first.middle ≤ middle_of height byte → last.middle < middle_of height byte) → Weighs m key t least least (SeenAt first byte height)
  bare_after least last height l is out = weighs_bare m key t least (SeenAt first byte height) (λ s seen u h.
      true≢false (sym (stands m forks first (middle_of height byte) s u x seen.1 h) ∙ none_after forks.lower first (middle_of height byte) s last is (fits height l) (out seen.0)))

-- ---- all forks of a key
abbrev pub SeenOfKey : List ℕ → ℕ → Span → Type 0
SeenOfKey key place = SeenBehind (start_of key place) (byte_at key place) 8

abbrev pub SeenUpTo : List ℕ → ℕ → Span → Type 0
SeenUpTo key places s = (place : ℕ) × (place < places) × SeenOfKey key place s

pub none_up_to : (key : List ℕ) (s : Span) → SeenUpTo key 0 s → ⊥
none_up_to key s h = omega (arith, h.1)

pub more_up_to : (key : List ℕ) (places : ℕ) (s : Span) → SeenUpTo key (places + 1) s → SeenUpTo key places s ⊎ SeenOfKey key places s
more_up_to key places s h = by (nat_lt h.0 places) refl
  where
    by : (b : Bool) → nat_lt h.0 places ≡ b → SeenUpTo key places s ⊎ SeenOfKey key places s
    by true e = inl (h.0, (let l : h.0 < places = grind (arith, nat_tests) in l), h.2)
    by false e =
        let k : h.0 < places + 1 = h.1 in
        let m : h.0 ≡ places = grind (arith, nat_tests) in
        inr (subst (λ n. SeenOfKey key n s) m h.2)

-- where no range stands from one of the starts on, all that are left were seen
pub weighs_rest : (m : FinMap span_cmp Holders) (forks : ForkIndex) (key : List ℕ) (t : ℕ) (least : Option ℕ) (shared places : ℕ) → IsIndexed m forks → IsText 32 key
    → IsFirstFrom forks.lower (start_of key (shared - 1)) None → Weighs m key t None least (SeenUpTo key shared) → Weighs m key t None least (SeenUpTo key places)
weighs_rest m forks key t least shared places x text is w = record {
  keeps = w.keeps;
  right = w.right;
  full = λ s seen has u h n. by s seen has u h n (cases_order seen.0 shared);
}
  where
    bare : (s : Span) (place : ℕ) → shared ≤ place → SeenOfKey key place s → (u : ℕ) → is_held m s u ≡ true → ⊥
    bare s place l seen u h =
        let from : IsFirstFrom forks.lower (start_of key place) None = none_later key text forks.lower (shared - 1) place (omega (arith, l)) is in
        true≢false (sym (stands m forks (start_of key place) (middle_of seen.0 (byte_at key place)) s u x seen.2 h) ∙ none_from forks.lower (start_of key place) (middle_of seen.0 (byte_at key place)) s from)

    by : (s : Span) (seen : SeenUpTo key places s) → span_has s key ≡ true → (u : ℕ) → is_held m s u ≡ true → not (u == t) ≡ true
        → (seen.0 ≡ shared) ⊎ ((seen.0 < shared) ⊎ (shared < seen.0)) → covers least u ≡ true
    by s seen has u h n (inl e) = absurd (bare s seen.0 (omega (arith, e)) seen.2 u h)
    by s seen has u h n (inr (inl l)) = w.full s (seen.0, l, seen.2) has u h n
    by s seen has u h n (inr (inr l)) = absurd (bare s seen.0 (omega (arith, l)) seen.2 u h)

-- ---- the least of all
module _ (m : FinMap span_cmp Holders) (forks : ForkIndex) (key : List ℕ) (t : ℕ) (x : IsIndexed m forks) where
  seen : (s : Span) → is_some (get m s) ≡ true → span_has s key ≡ true → SeenUpTo key (length key + 1) s
  seen s e has =
      let p = x.on_path s e key has in
      let w : p.place ≤ length key = p.within in
      (p.place, omega arith, (p.height, p.bound, p.is))

  all_covered : (after : Option ℕ) → Weighs m key t None after (SeenUpTo key (length key + 1)) → (u : ℕ) → holds_over m key t u ≡ true → covers after u ≡ true
  all_covered after w u e =
      let other : not (u == t) ≡ true = left_true (not (u == t)) (list_any (λ e. holds e.1.txns u) (filter (λ e. span_has e.0 key) (entries m))) e in
      let p = passed spans_total spans_apart (λ s. span_has s key) u (entries m) (entries_sorted m) (right_true (not (u == t)) (list_any (λ e. holds e.1.txns u) (filter (λ e. span_has e.0 key) (entries m))) e) in
      let held : is_held m p.key u ≡ true = ap (λ (o : Option Holders). holder_in o u) (get-entries m p.key) ∙ p.held in
      w.full p.key (seen p.key (there_held m p.key u held) p.passes) p.passes u held other

  pub weighs_least : (after : Option ℕ) → Weighs m key t None after (SeenUpTo key (length key + 1)) → IsLeast (holds_over m key t) after
  weighs_least None w = λ u. by u (holds_over m key t u) refl
    where
      by : (u : ℕ) (b : Bool) → holds_over m key t u ≡ b → b ≡ false
      by u true e = sym (all_covered None w u e)
      by u false e = refl
  weighs_least (Some v) w = (
    by (w.right v refl),
    λ u e. let l : nat_le v u ≡ true = all_covered (Some v) w u e in grind (arith, nat_tests),
  )
    where
      by : (None ≡ Some v) ⊎ (holds_over m key t v ≡ true) → holds_over m key t v ≡ true
      by (inl e) = absurd (cc)
      by (inr e) = e
