-- A message that says what is true keeps the facts.
use Rattle.std.proofs.Common.{◌≡◌, ◌⊎◌, inl, inr, ℕ, Bool, true, false, ◌||◌, ◌&&◌, ◌≤◌, ◌==◌, ◌+◌, if◌then◌else◌, List, [], ◌∷◌, Some, refl, sym, ap, ◌∙◌, subst, arith}
use Rattle.std.specs.Cmp.{nat_cmp_total}
use Rattle.std.specs.List.{AllByRecursion}
use Rattle.std.specs.List.Sorted.{IsStrictlySortedBy}
use Rattle.std.specs.Ordering.{nat_cmp}
use Rattle.std.specs.declared.cmp.Ordering.{Ordering}
use Rattle.std.specs.declared.cmp.Ordering.TheVariants.{Less, Equal, Greater}
use Rattle.std.specs.FinMap.{nat_cmp-IsAntisymmetric}
use Rattle.std.specs.FinMap.Entries.{by_order}
use Rattle.std.proofs.lemmas.Bool.{or_cases, or_left, or_right, eqb-true}
use Rattle.co_message.specs.declared.message.Message.{Message}
use Rattle.co_message.specs.declared.message.Message.TheVariants as message
use Rattle.co_message.specs.Sent.{same_flag, same_message}
use Rattle.co_base.proofs.Ordered.{sorted_none}
use Rattle.co_base.specs.Order.{IsAscending}
use Rattle.co_base.specs.declared.part.Part.{Part}
use Rattle.co_state.proofs.InOrder.{further, turned}
use Rattle.co_state.specs.Table.{look, holds}
use Rattle.co_plain.specs.declared.coord_state.Entry.TheVariants as entry
use Rattle.co_plain.specs.declared.session.Told.{Told}
use Rattle.co_plain.specs.Numbers.{has_number}
use Rattle.co_plain.specs.CoordStep.{has_part, members_of}
use Rattle.co_base.specs.Parts.{with_part}
use Rattle.co_plain.specs.Sessions.{parts_of, count_at}
use Rattle.co_plain.specs.Decisions.{votes_for, told_of}
use Rattle.co_plain.specs.Wire.{was_sent, send_one}
use Rattle.co_plain.specs.Federation.{Federation}
use Rattle.co_plain.specs.Invariants.{Side, Memory, Stable, view, stands, takes_part_in, txn_of}
use Rattle.co_plain.specs.Moves.{Send, effect}
use Rattle.co_law_base.proofs.Facts.{rest_of, changed, told, asked, over, Begun, entry_of, alive, belongs, settled, takes, took, SentFacts, Facts}
use Rattle.co_law_base.proofs.TwoViews.{memory_to_stable, committed_both}
use Rattle.co_law_base.proofs.Carrying.{votes_stand, Later, later_member, later_coord, later_records, numbers_same}

flags : (a b : Bool) → same_flag a b ≡ true → a ≡ b
flags true true h = refl
flags true false h = absurd (let z : false ≡ true = h in cc)
flags false true h = absurd (let z : false ≡ true = h in cc)
flags false false h = refl

four : (a b c d : Bool) → (a && b && c && d) ≡ true → (a ≡ true) × (b ≡ true) × (c ≡ true) × (d ≡ true)
four true true true true h = (refl, refl, refl, refl)
four true true true false h = absurd (let z : false ≡ true = h in cc)
four true true false d h = absurd (let z : false ≡ true = h in cc)
four true false c d h = absurd (let z : false ≡ true = h in cc)
four false b c d h = absurd (let z : false ≡ true = h in cc)

same_is : (a b : Message) → same_message a b ≡ true → a ≡ b
same_is (message.Prepare t c m n) (message.Prepare u d o k) h =
    let p = four (t == u) (c == d) (m == o) (n == k) h in
    λ i. message.Prepare (eqb-true t u p.0 i) (eqb-true c d p.1 i) (eqb-true m o p.2 i) (eqb-true n k p.3 i)
same_is (message.Vote t m c b) (message.Vote u o d a) h =
    let p = four (t == u) (m == o) (c == d) (same_flag b a) h in
    λ i. message.Vote (eqb-true t u p.0 i) (eqb-true m o p.1 i) (eqb-true c d p.2 i) (flags b a p.3 i)
same_is (message.Decide t c m b) (message.Decide u d o a) h =
    let p = four (t == u) (c == d) (m == o) (same_flag b a) h in
    λ i. message.Decide (eqb-true t u p.0 i) (eqb-true c d p.1 i) (eqb-true m o p.2 i) (flags b a p.3 i)
same_is (message.Ask t m c) (message.Ask u o d) h =
    let p = four true (t == u) (m == o) (c == d) h in
    λ i. message.Ask (eqb-true t u p.1 i) (eqb-true m o p.2 i) (eqb-true c d p.3 i)
same_is (message.Ack t m c) (message.Ack u o d) h =
    let p = four true (t == u) (m == o) (c == d) h in
    λ i. message.Ack (eqb-true t u p.1 i) (eqb-true m o p.2 i) (eqb-true c d p.3 i)
same_is _ _ h = absurd (let z : false ≡ true = h in cc)

-- what was sent after one more message
pub send_cases : (sent : List Message) (note k : Message) → was_sent (send_one sent note) k ≡ true → (note ≡ k) ⊎ (was_sent sent k ≡ true)
send_cases sent note k h = by (was_sent sent note) refl
  where
    by : (b : Bool) → was_sent sent note ≡ b → (note ≡ k) ⊎ (was_sent sent k ≡ true)
    by true e = inr (sym (ap (λ b. was_sent (if b then sent else note ∷ sent) k) e) ∙ h)
    by false e = now (or_cases (same_message note k) (was_sent sent k) (sym (ap (λ b. was_sent (if b then sent else note ∷ sent) k) e) ∙ h))
      where
        now : (same_message note k ≡ true) ⊎ (was_sent sent k ≡ true) → (note ≡ k) ⊎ (was_sent sent k ≡ true)
        now (inl p) = inl (same_is note k p)
        now (inr p) = inr p

pub sent_still : (sent : List Message) (note k : Message) → was_sent sent k ≡ true → was_sent (send_one sent note) k ≡ true
sent_still sent note k h = by (was_sent sent note) refl
  where
    by : (b : Bool) → was_sent sent note ≡ b → was_sent (if was_sent sent note then sent else note ∷ sent) k ≡ true
    by true e = ap (λ b. was_sent (if b then sent else note ∷ sent) k) e ∙ h
    by false e = ap (λ b. was_sent (if b then sent else note ∷ sent) k) e ∙ or_right (same_message note k) (was_sent sent k) h

-- the participants are the members at which operations were told
with_part_has : (k : ℕ) (ps : List Part) (m : ℕ) → has_part (with_part k ps) m ≡ ((k == m) || has_part ps m)
with_part_has k [] m = refl
with_part_has k (p ∷ ps) m = by (with_part_has k ps m) (nat_cmp k p.member) refl
  where
    one : Part
    one = record { member = k; count = 1 }

    more : Part
    more = record { member = p.member; count = p.count + 1 }

    twice : (b c : Bool) → (b || c) ≡ (b || (b || c))
    twice true c = refl
    twice false c = refl

    swapped : (a b c : Bool) → (a || (b || c)) ≡ (b || (a || c))
    swapped true true c = refl
    swapped true false c = refl
    swapped false true c = refl
    swapped false false c = refl

    by : has_part (with_part k ps) m ≡ ((k == m) || has_part ps m) → (o : Ordering) → nat_cmp k p.member ≡ o →
        has_part (by_order (nat_cmp k p.member) (one ∷ p ∷ ps) (more ∷ ps) (p ∷ with_part k ps)) m ≡ ((k == m) || ((p.member == m) || has_part ps m))
    by rest Less e = ap (λ o. has_part (by_order o (one ∷ p ∷ ps) (more ∷ ps) (p ∷ with_part k ps)) m) e
    by rest Equal e =
        ap (λ o. has_part (by_order o (one ∷ p ∷ ps) (more ∷ ps) (p ∷ with_part k ps)) m) e
        ∙ twice (p.member == m) (has_part ps m)
        ∙ ap (λ n. (n == m) || ((p.member == m) || has_part ps m)) (sym (nat_cmp-IsAntisymmetric k p.member e))
    by rest Greater e =
        ap (λ o. has_part (by_order o (one ∷ p ∷ ps) (more ∷ ps) (p ∷ with_part k ps)) m) e
        ∙ ap (λ b. (p.member == m) || b) rest ∙ swapped (p.member == m) (k == m) (has_part ps m)

-- a member below all participants
abbrev IsBelowParts : ℕ → List Part → Type 0
IsBelowParts low ps = AllByRecursion (λ k. nat_cmp low k ≡ Less) (members_of ps)

below-with_part : (low m : ℕ) (ps : List Part) → nat_cmp low m ≡ Less → IsBelowParts low ps → IsBelowParts low (with_part m ps)
below-with_part low m [] l a = (l, tt)
below-with_part low m (p ∷ ps) l a = by (below-with_part low m ps l a.1) (nat_cmp m p.member)
  where
    by : IsBelowParts low (with_part m ps) → (o : Ordering) →
        IsBelowParts low (by_order o (record { member = m; count = 1 } ∷ p ∷ ps) (record { member = p.member; count = p.count + 1 } ∷ ps) (p ∷ with_part m ps))
    by rest Less = (l, a)
    by rest Equal = a
    by rest Greater = (a.0, rest)

ascending-with_part : (m : ℕ) (ps : List Part) → IsAscending (members_of ps) → IsAscending (members_of (with_part m ps))
unfolding IsStrictlySortedBy
ascending-with_part m [] a = (tt, tt)
ascending-with_part m (p ∷ ps) a = by (ascending-with_part m ps a.1) (nat_cmp m p.member) refl
  where
    by : IsAscending (members_of (with_part m ps)) → (o : Ordering) → nat_cmp m p.member ≡ o →
        IsAscending (members_of (by_order o (record { member = m; count = 1 } ∷ p ∷ ps) (record { member = p.member; count = p.count + 1 } ∷ ps) (p ∷ with_part m ps)))
    by rest Less e = ((e, further nat_cmp nat_cmp_total m p.member (members_of ps) e a.0), a)
    by rest Equal e = a
    by rest Greater e = (below-with_part p.member m ps (turned nat_cmp nat_cmp_total m p.member e) a.0, rest)

-- the participants of a session ascend
pub parts_ascend : (os : List Told) → IsAscending (members_of (parts_of os))
parts_ascend [] = sorted_none nat_cmp
parts_ascend (o ∷ os) = ascending-with_part o.site.member (parts_of os) (parts_ascend os)

pub parts_told : (os : List Told) (m : ℕ) → has_part (parts_of os) m ≡ true → 1 ≤ count_at os m
parts_told [] m h = absurd (let z : false ≡ true = h in cc)
parts_told (o ∷ os) m h = by (parts_told os m) (o.site.member == m) refl
  where
    by : (has_part (parts_of os) m ≡ true → 1 ≤ count_at os m) → (b : Bool) → (o.site.member == m) ≡ b → 1 ≤ (if o.site.member == m then count_at os m + 1 else count_at os m)
    by rest true e = subst (λ b. 1 ≤ (if b then count_at os m + 1 else count_at os m)) (sym e) (omega arith)
    by rest false e =
        subst (λ b. 1 ≤ (if b then count_at os m + 1 else count_at os m)) (sym e)
        (rest (ap (λ b. b || has_part (parts_of os) m) (sym e) ∙ sym (with_part_has o.site.member (parts_of os) m) ∙ h))

pub told_parts : (os : List Told) (m : ℕ) → 1 ≤ count_at os m → has_part (parts_of os) m ≡ true
told_parts [] m h = absurd (omega (arith, h))
told_parts (o ∷ os) m h = with_part_has o.site.member (parts_of os) m ∙ by (told_parts os m) (o.site.member == m) refl
  where
    by : (1 ≤ count_at os m → has_part (parts_of os) m ≡ true) → (b : Bool) → (o.site.member == m) ≡ b → ((o.site.member == m) || has_part (parts_of os) m) ≡ true
    by rest true e = ap (λ b. b || has_part (parts_of os) m) e
    by rest false e = ap (λ b. b || has_part (parts_of os) m) e ∙ rest (subst (λ b. 1 ≤ (if b then count_at os m + 1 else count_at os m)) e h)

pub part_member : (ps : List Part) (m : ℕ) → has_number (members_of ps) m ≡ has_part ps m
part_member [] m = refl
part_member (p ∷ ps) m = ap (λ b. (p.member == m) || b) (part_member ps m)

-- What a message that is sent must say truly.
abbrev pub Allowed : Federation → Message → Type 0
Allowed s (message.Prepare t c m n) =
    (parts : List Part) × (yeses : List ℕ) × (look (s.coord c).table t ≡ Some (entry.Collecting parts yeses)) × (has_part parts m ≡ true) × (n ≡ count_at (told_of s t) m)
Allowed s (message.Vote t m c true) = votes_for (look (s.member m).engine.voted t) c ≡ true
Allowed s (message.Vote t m c false) = (n : ℕ) × (was_sent s.sent (message.Prepare t c m n) ≡ true)
Allowed s (message.Decide t c m true) = settled (rest_of s) t × took (rest_of s) t m × (over (rest_of s) t ≡ true)
Allowed s (message.Decide t c m false) =
    ((belongs (rest_of s) t c × (alive (rest_of s) c t ≡ false)) ⊎ (holds (view Stable (s.member m)).committed t ≡ true)) × (over (rest_of s) t ≡ true)
Allowed s (message.Ask t m c) = votes_for (look (s.member m).engine.voted t) c ≡ true
Allowed s (message.Ack t m c) = (holds (s.member m).committed t ≡ true)

module _ (s : Federation) (f : Facts s) where
  allowed_over : (note : Message) → Allowed s note → over (rest_of s) (txn_of note) ≡ true
  allowed_over (message.Prepare t c m n) g = or_left (asked (rest_of s) t) (holds s.used t) ((f.coords c).collecting t g.0 g.1 g.2).asked
  allowed_over (message.Vote t m c true) g = ((f.members m).views Memory).over t (votes_stand (view Memory (s.member m)) t c g)
  allowed_over (message.Vote t m c false) g = f.sent.over (message.Prepare t c m g.0) g.1
  allowed_over (message.Decide t c m true) g = g.2
  allowed_over (message.Decide t c m false) g = g.1
  allowed_over (message.Ask t m c) g = ((f.members m).views Memory).over t (votes_stand (view Memory (s.member m)) t c g)
  allowed_over (message.Ack t m c) g = ((f.members m).views Memory).over t (or_right (holds (s.member m).engine.voted t) (holds (s.member m).committed t) g)

  allowed_named : (t m c : ℕ) (granted : Bool) → Allowed s (message.Vote t m c granted) → belongs (rest_of s) t c
  allowed_named t m c true g = ((f.members m).views Memory).named t c g
  allowed_named t m c false g = f.sent.prepares_named t c m g.0 g.1

  both_stand : (t m c : ℕ) (side : Side) → votes_for (look (s.member m).engine.voted t) c ≡ true → stands (view side (s.member m)) t ≡ true
  both_stand t m c Memory g = votes_stand (view Memory (s.member m)) t c g
  both_stand t m c Stable g = memory_to_stable (rest_of s) m (s.member m) (f.members m) t (votes_stand (view Memory (s.member m)) t c g)

  both_committed : (t m : ℕ) (side : Side) → holds (s.member m).committed t ≡ true → holds (view side (s.member m)).committed t ≡ true
  both_committed t m Memory h = h
  both_committed t m Stable h = sym (ap (λ n. holds n t) (committed_both (rest_of s) m (s.member m) (f.members m))) ∙ h

  pub send_later : (note : Message) → Later (rest_of s) s.coord s.sessions (send_one s.sent note) s.member
  send_later note =
      record {
        told_same = λ t o. refl;
        counts = λ t m h. h;
        begun_on = λ t h. h;
        begun_back = λ t o h. h;
        asked_on = λ t h. h;
        by_on = λ t c h. h;
        by_back = λ t c o h. h;
        alive_back = λ t c o h. h;
        part = λ t c m b a h. inl h;
        sent_on = λ k h. sent_still s.sent note k h;
      }

  sent_more : (note : Message) → Allowed s note → SentFacts (changed (rest_of s) s.coord s.sessions (send_one s.sent note)) s.member
  sent_more note g =
      record {
        over = λ k h. over' k (send_cases s.sent note k h);
        prepares_named = λ t c m n h. prepares_named t c m n (send_cases s.sent note _ h);
        prepares_count = λ t c m n h. prepares_count t c m n (send_cases s.sent note _ h);
        prepares_held = λ t c m n h. prepares_held t c m n (send_cases s.sent note _ h);
        votes_named = λ t m c granted h. votes_named t m c granted (send_cases s.sent note _ h);
        yeses_stand = λ t m c side h. yeses_stand t m c side (send_cases s.sent note _ h);
        asks_named = λ t m c h. asks_named t m c (send_cases s.sent note _ h);
        asks_held = λ t m c h. asks_held t m c (send_cases s.sent note _ h);
        asks_take = λ t m c h. asks_take t m c (send_cases s.sent note _ h);
        acks_stand = λ t m c side h. acks_stand t m c side (send_cases s.sent note _ h);
        commits = λ t c m h. commits t c m (send_cases s.sent note _ h);
        aborts = λ t c m h. aborts t c m (send_cases s.sent note _ h);
      }
    where
      over' : (k : Message) → (note ≡ k) ⊎ (was_sent s.sent k ≡ true) → over (rest_of s) (txn_of k) ≡ true
      over' k (inl e) = allowed_over k (subst (Allowed s) e g)
      over' k (inr h) = f.sent.over k h

      prepares_named : (t c m n : ℕ) → (note ≡ message.Prepare t c m n) ⊎ (was_sent s.sent (message.Prepare t c m n) ≡ true) → belongs (rest_of s) t c
      prepares_named t c m n (inr h) = f.sent.prepares_named t c m n h
      prepares_named t c m n (inl e) = let p : Allowed s (message.Prepare t c m n) = subst (Allowed s) e g in Begun ((f.coords c).collecting t p.0 p.1 p.2).still.begun_there

      prepares_count : (t c m n : ℕ) → (note ≡ message.Prepare t c m n) ⊎ (was_sent s.sent (message.Prepare t c m n) ≡ true) → (n ≡ count_at (told (rest_of s) t) m) × (1 ≤ n)
      prepares_count t c m n (inr h) = f.sent.prepares_count t c m n h
      prepares_count t c m n (inl e) =
          let p : Allowed s (message.Prepare t c m n) = subst (Allowed s) e g in
          (p.4, subst (λ k. 1 ≤ k) (sym p.4) (parts_told (told_of s t) m (ap (λ ps. has_part ps m) (sym ((f.coords c).collecting t p.0 p.1 p.2).parts_told) ∙ p.3)))

      prepares_held : (t c m n : ℕ) → (note ≡ message.Prepare t c m n) ⊎ (was_sent s.sent (message.Prepare t c m n) ≡ true) → alive (rest_of s) c t ≡ true →
          (takes_part_in (entry_of (rest_of s) c t) m || holds (s.member m).committed t) ≡ true
      prepares_held t c m n (inr h) a = f.sent.prepares_held t c m n h a
      prepares_held t c m n (inl e) a =
          let p : Allowed s (message.Prepare t c m n) = subst (Allowed s) e g in
          or_left (takes_part_in (entry_of (rest_of s) c t) m) (holds (s.member m).committed t) (ap (λ o. takes_part_in o m) p.2 ∙ part_member p.0 m ∙ p.3)

      votes_named : (t m c : ℕ) (granted : Bool) → (note ≡ message.Vote t m c granted) ⊎ (was_sent s.sent (message.Vote t m c granted) ≡ true) → belongs (rest_of s) t c
      votes_named t m c granted (inr h) = f.sent.votes_named t m c granted h
      votes_named t m c granted (inl e) = allowed_named t m c granted (subst (Allowed s) e g)

      yeses_stand : (t m c : ℕ) (side : Side) → (note ≡ message.Vote t m c true) ⊎ (was_sent s.sent (message.Vote t m c true) ≡ true) → alive (rest_of s) c t ≡ true → stands (view side (s.member m)) t ≡ true
      yeses_stand t m c side (inr h) a = f.sent.yeses_stand t m c side h a
      yeses_stand t m c side (inl e) a = both_stand t m c side (subst (Allowed s) e g)

      asks_named : (t m c : ℕ) → (note ≡ message.Ask t m c) ⊎ (was_sent s.sent (message.Ask t m c) ≡ true) → belongs (rest_of s) t c
      asks_named t m c (inr h) = f.sent.asks_named t m c h
      asks_named t m c (inl e) = ((f.members m).views Memory).named t c (subst (Allowed s) e g)

      asks_held : (t m c : ℕ) → (note ≡ message.Ask t m c) ⊎ (was_sent s.sent (message.Ask t m c) ≡ true) → alive (rest_of s) c t ≡ true →
          (takes_part_in (entry_of (rest_of s) c t) m || holds (s.member m).committed t) ≡ true
      asks_held t m c (inr h) a = f.sent.asks_held t m c h a
      asks_held t m c (inl e) a = or_left (takes_part_in (entry_of (rest_of s) c t) m) (holds (s.member m).committed t) (((f.members m).views Memory).held t c (subst (Allowed s) e g) a)

      asks_take : (t m c : ℕ) → (note ≡ message.Ask t m c) ⊎ (was_sent s.sent (message.Ask t m c) ≡ true) → alive (rest_of s) c t ≡ true → takes (rest_of s) t m
      asks_take t m c (inr h) a = f.sent.asks_take t m c h a
      asks_take t m c (inl e) a = ((f.members m).views Memory).works t c (subst (Allowed s) e g) a

      acks_stand : (t m c : ℕ) (side : Side) → (note ≡ message.Ack t m c) ⊎ (was_sent s.sent (message.Ack t m c) ≡ true) → holds (view side (s.member m)).committed t ≡ true
      acks_stand t m c side (inr h) = f.sent.acks_stand t m c side h
      acks_stand t m c side (inl e) = both_committed t m side (subst (Allowed s) e g)

      commits : (t c m : ℕ) → (note ≡ message.Decide t c m true) ⊎ (was_sent s.sent (message.Decide t c m true) ≡ true) → settled (rest_of s) t × took (rest_of s) t m
      commits t c m (inr h) = f.sent.commits t c m h
      commits t c m (inl e) = let p : Allowed s (message.Decide t c m true) = subst (Allowed s) e g in (p.0, p.1)

      aborts : (t c m : ℕ) → (note ≡ message.Decide t c m false) ⊎ (was_sent s.sent (message.Decide t c m false) ≡ true) →
          (belongs (rest_of s) t c × (alive (rest_of s) c t ≡ false)) ⊎ (holds (view Stable (s.member m)).committed t ≡ true)
      aborts t c m (inr h) = f.sent.aborts t c m h
      aborts t c m (inl e) = let p : Allowed s (message.Decide t c m false) = subst (Allowed s) e g in p.0

  pub keeps_send : (note : Message) → Allowed s note → Facts (effect s (Send note))
  keeps_send note g =
      let l = send_later note in
      let sent = send_one s.sent note in
      record {
        numbers = numbers_same (rest_of s) s.coord sent f.numbers;
        members = λ m. later_member (rest_of s) f.numbers s.coord s.sessions sent s.member l m (λ t os h. refl) (f.members m);
        coords = λ d. later_coord (rest_of s) f.numbers s.coord s.sessions sent s.member l d (s.coord d).table (s.coord d).log.stable (s.coord d).log.waiting (f.coords d);
        sent = sent_more note g;
        records = later_records (rest_of s) f.numbers s.coord s.sessions sent s.member l f.records (λ c t ms h. h);
        serially = f.serially;
      }
