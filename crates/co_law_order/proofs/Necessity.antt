-- Where a member let t precede u and u was decided first, a member more reads in u what it then writes in t.
use Rattle.std.proofs.Common.{◌≡◌, ◌≢◌, ◌⊎◌, inl, inr, ℕ, Bool, true, false, ◌||◌, ◌&&◌, ◌==◌, ◌≤◌, nat_le, ◌-◌, if◌then◌else◌, List, [], ◌∷◌, ◌++◌, length, Option, None, Some, refl, sym, ap, ◌∙◌, subst, arith}
use Rattle.std.proofs.lemmas.Bool.{or_parts, or_cases, or_left, or_right, eqb-true, eq-eqb, ne_eqb}
use Rattle.std.proofs.lemmas.Bool.Decides.{nat_tests}
use Rattle.std.specs.FinMap.{get-empty}
use Rattle.std.specs.Ordering.{nat_cmp}
use Rattle.std.proofs.lemmas.List.Elements.{filter-append}
use Rattle.co_base.specs.declared.head.Kind.{Kind}
use Rattle.co_base.specs.declared.head.Kind.TheVariants.{Lock, Occ, Mv}
use Rattle.co_base.specs.declared.node.Node.TheVariants as node
use Rattle.co_base.specs.declared.op.Op.{Op}
use Rattle.co_base.specs.declared.op.Op.TheVariants as op
use Rattle.co_base.specs.declared.reply.Reply.{Reply}
use Rattle.co_base.specs.declared.reply.Reply.TheVariants as reply
use Rattle.co_base.specs.declared.written.Written.{Written}
use Rattle.co_base.specs.Span.{Span, span_of_key}
use Rattle.co_state.specs.Changes.{span_read, change_made}
use Rattle.co_state.specs.Table.{no_entries}
use Rattle.co_plain.specs.Numbers.{IsAmong, has_number}
use Rattle.co_plain.specs.Opening.{kind_of}
use Rattle.co_plain.specs.CommitmentOrder.{Trace, Began, Operated, Committed, decides_at, decisions_in, installs, before_first, part_seen, ReadsKey, WritesKey, Precedes, ReadAfter, ReadBefore, WroteBefore, StandsBefore, Stands}
use Rattle.co_law_order.specs.Joining.{is_of_member, items_of_member, is_begun_locally, next_member, IsJoinedBy}
use Rattle.co_law_order.specs.Ordering.{IsSerializable, StandsOnce}
use Rattle.co_law_order.proofs.Thinning.{no_cons, heads, tails}
use Rattle.co_law_order.proofs.Transfers.{thinned_back, precedes_on}
use Rattle.co_law_order.proofs.Locality.{to_part}
use Rattle.co_law_order.proofs.Joined.{AreAbroad, BeginAbroad, joined_trace, joined_thins, joined_decisions, own_items, items_by, joined_items, joined_rest, joined_begins, PlacedBefore, joined_place}

-- who is in a list
pub has_at : (front : List ℕ) (v : ℕ) (back : List ℕ) → has_number (front ++ v ∷ back) v ≡ true
has_at [] v back = or_left (v == v) _ (eq-eqb v v refl)
has_at (y ∷ ys) v back = or_right (y == v) _ (has_at ys v back)

has_front : (front : List ℕ) (v : ℕ) (back : List ℕ) → has_number front v ≡ true → has_number (front ++ back) v ≡ true
has_front [] v back h = absurd (let z : false ≡ true = h in cc)
has_front (y ∷ ys) v back h = by (has_front ys v back) (or_cases (y == v) (has_number ys v) h)
  where
    by : (has_number ys v ≡ true → has_number (ys ++ back) v ≡ true) → ((y == v) ≡ true) ⊎ (has_number ys v ≡ true) → has_number (y ∷ (ys ++ back)) v ≡ true
    by rest (inl e) = or_left (y == v) _ e
    by rest (inr k) = or_right (y == v) _ (rest k)

pub first_stands : (order : List ℕ) (t u : ℕ) → StandsBefore order t u → has_number order t ≡ true
first_stands order t u (Stands before rest e h) = ap (λ k. has_number k t) e ∙ has_front before t (u ∷ rest) h

pub second_stands : (order : List ℕ) (t u : ℕ) → StandsBefore order t u → has_number order u ≡ true
second_stands order t u (Stands before rest e h) = ap (λ k. has_number k u) e ∙ has_at before u rest

-- who stands before another does not stand behind it, where each stands once
module _ (t u : ℕ) (rest back : List ℕ) where
  not_both : (order : List ℕ) → StandsOnce order → (before front : List ℕ) → order ≡ before ++ u ∷ rest → has_number before t ≡ true → order ≡ front ++ t ∷ back → has_number front u ≡ true → ⊥
  not_both order o [] front e h f k = let z : false ≡ true = h in cc
  not_both order o (b ∷ before) [] e h f k = let z : false ≡ true = k in cc
  not_both [] o (b ∷ before) (c ∷ front) e h f k = no_cons b (before ++ u ∷ rest) e
  not_both (x ∷ xs) o (b ∷ before) (c ∷ front) e h f k = by (not_both xs o.1 before front) (or_cases (b == t) (has_number before t) h) (or_cases (c == u) (has_number front u) k)
    where
      twice : (v : ℕ) → x ≡ v → has_number xs v ≡ true → ⊥
      twice v q y = let z : true ≡ false = sym y ∙ ap (has_number xs) (sym q) ∙ o.0 in cc

      after_b : xs ≡ before ++ u ∷ rest
      after_b = tails x b xs (before ++ u ∷ rest) e

      after_c : xs ≡ front ++ t ∷ back
      after_c = tails x c xs (front ++ t ∷ back) f

      by : (xs ≡ before ++ u ∷ rest → has_number before t ≡ true → xs ≡ front ++ t ∷ back → has_number front u ≡ true → ⊥) →
          ((b == t) ≡ true) ⊎ (has_number before t ≡ true) → ((c == u) ≡ true) ⊎ (has_number front u ≡ true) → ⊥
      by more (inl y) z = twice t (heads x b xs (before ++ u ∷ rest) e ∙ eqb-true b t y) (ap (λ l. has_number l t) after_c ∙ has_at front t back)
      by more (inr y) (inl z) = twice u (heads x c xs (front ++ t ∷ back) f ∙ eqb-true c u z) (ap (λ l. has_number l u) after_b ∙ has_at before u rest)
      by more (inr y) (inr z) = more after_b y after_c z

pub one_way : (order : List ℕ) → StandsOnce order → (t u : ℕ) → StandsBefore order t u → StandsBefore order u t → ⊥
one_way order once t u (Stands before rest e h) (Stands front back f k) = not_both t u rest back order once before front e h f k

-- the kinds of the others stay
pub same_kind : (kinds : List Kind) (kind : Kind) (m : ℕ) → IsAmong m (length kinds) → kind_of (kinds ++ kind ∷ []) m ≡ kind_of kinds m
same_kind [] kind m i = absurd (omega (arith, i.0, i.1))
same_kind (k ∷ ks) kind m i = by (nat_le m 1) refl (same_kind ks kind (m - 1))
  where
    by : (b : Bool) → nat_le m 1 ≡ b → (IsAmong (m - 1) (length ks) → kind_of (ks ++ kind ∷ []) (m - 1) ≡ kind_of ks (m - 1)) →
        (if b then k else kind_of (ks ++ kind ∷ []) (m - 1)) ≡ (if b then k else kind_of ks (m - 1))
    by true e rest = refl
    by false e rest = let above : 2 ≤ m = grind (arith, nat_tests, e) in rest (omega (arith, above), omega (arith, above, i.1))

-- what is read and written
abbrev the_key : List ℕ
the_key = 120 ∷ []

abbrev the_read : Op
the_read = op.Read the_key

abbrev the_write : Op
the_write = op.Write the_key (49 ∷ [])

-- parts of an item
abbrev is_operated : Trace → Bool
is_operated (Began u by) = false
is_operated (Operated u m o reply) = true
is_operated (Committed at u) = false

abbrev operated_txn : ℕ → Trace → ℕ
operated_txn d (Began u by) = d
operated_txn d (Operated u m o reply) = u
operated_txn d (Committed at u) = d

abbrev operated_op : Op → Trace → Op
operated_op d (Began u by) = d
operated_op d (Operated u m o reply) = o
operated_op d (Committed at u) = d

abbrev is_write : Op → Bool
is_write (op.Read key) = false
is_write (op.Write key value) = true
is_write (op.Erase key) = true
is_write (op.Scan span) = false

-- nothing of the member stands there, so nothing is seen of it
none_kept : (n : ℕ) (x : Trace) (xs : List Trace) → items_of_member n (x ∷ xs) ≡ [] → (is_of_member n x ≡ false) × (items_of_member n xs ≡ [])
none_kept n x xs e = by (is_of_member n x) refl e
  where
    by : (b : Bool) → is_of_member n x ≡ b → (if b then x ∷ items_of_member n xs else items_of_member n xs) ≡ [] → (is_of_member n x ≡ false) × (items_of_member n xs ≡ [])
    by true q e = no_cons x (items_of_member n xs) (sym e)
    by false q e = (q, e)

not_installed : (n u : ℕ) (xs : List Trace) → items_of_member n xs ≡ [] → installs xs n u ≡ false
not_installed n u [] none = refl
not_installed n u (Began t by ∷ xs) none = not_installed n u xs none
not_installed n u (Operated t k o reply ∷ xs) none = not_installed n u xs (none_kept n (Operated t k o reply) xs none).1
not_installed n u (Committed at t ∷ xs) none =
    let p = none_kept n (Committed at t) xs none in
    ap (λ b. b && (t == u) || installs xs n u) p.0 ∙ not_installed n u xs p.1

none_before : (n t : ℕ) (xs : List Trace) → items_of_member n xs ≡ [] → items_of_member n (before_first xs n t) ≡ []
none_before n t [] none = refl
none_before n t (Began u by ∷ xs) none = none_before n t xs none
none_before n t (Operated u k o reply ∷ xs) none = by ((u == t) && (k == n)) (none_before n t xs p.1)
  where
    p : (is_of_member n (Operated u k o reply) ≡ false) × (items_of_member n xs ≡ [])
    p = none_kept n (Operated u k o reply) xs none

    by : (b : Bool) → items_of_member n (before_first xs n t) ≡ [] → items_of_member n (if b then [] else Operated u k o reply ∷ before_first xs n t) ≡ []
    by true h = refl
    by false h = ap (λ b. if b then Operated u k o reply ∷ items_of_member n (before_first xs n t) else items_of_member n (before_first xs n t)) p.0 ∙ h
none_before n t (Committed at u ∷ xs) none =
    let p = none_kept n (Committed at u) xs none in
    ap (λ b. if b then Committed at u ∷ items_of_member n (before_first xs n t) else items_of_member n (before_first xs n t)) p.0 ∙ none_before n t xs p.1

sees_nothing : (kind : Kind) (n t u : ℕ) (xs : List Trace) → items_of_member n xs ≡ [] → installs (part_seen kind xs n t) n u ≡ false
sees_nothing Lock n t u xs none = not_installed n u xs none
sees_nothing Occ n t u xs none = not_installed n u xs none
sees_nothing Mv n t u xs none = not_installed n u (before_first xs n t) (none_before n t xs none)

module _ (n t u : ℕ) (apart : t ≢ u) where
  -- what the new member does for whom
  abbrev op_of : ℕ → Option (Op × Reply)
  op_of s = if s == u then Some (the_read, reply.Got None) else if s == t then Some (the_write, reply.Done) else None

  op_apart : (s : ℕ) → (s == u) ≡ false → (s == t) ≡ false → op_of s ≡ None
  op_apart s a b = (λ i. if a i then Some (the_read, reply.Got None) else if b i then Some (the_write, reply.Done) else None)

  op_reader : op_of u ≡ Some (the_read, reply.Got None)
  op_reader = ap (λ b. if b then Some (the_read, reply.Got None) else if u == t then Some (the_write, reply.Done) else None) (eq-eqb u u refl)

  op_writer : op_of t ≡ Some (the_write, reply.Done)
  op_writer = (λ i. if ne_eqb t u apart i then Some (the_read, reply.Got None) else if eq-eqb t t refl i then Some (the_write, reply.Done) else None)

  -- nobody else has any
  op_whose : (s : ℕ) (o : Op × Reply) → op_of s ≡ Some o → (s ≡ u) ⊎ (s ≡ t)
  op_whose s o e = by (s == u) (s == t) refl refl
    where
      by : (a b : Bool) → (s == u) ≡ a → (s == t) ≡ b → (s ≡ u) ⊎ (s ≡ t)
      by true b p q = inl (eqb-true s u p)
      by false true p q = inr (eqb-true s t q)
      by false false p q = absurd (let z : None ≡ Some o = sym (op_apart s p q) ∙ e in cc)

  abbrev reads : Trace
  reads = Operated u n the_read (reply.Got None)

  abbrev writes : Trace
  writes = Operated t n the_write reply.Done

  abbrev installed : ℕ → Trace
  installed s = Committed (node.Member n) s

  abbrev the_four : List Trace
  the_four = reads ∷ installed u ∷ writes ∷ installed t ∷ []

  own_none : (ss : List ℕ) → has_number ss u ≡ false → has_number ss t ≡ false → items_by n op_of ss ≡ []
  own_none [] a b = refl
  own_none (s ∷ ss) a b =
      let p = or_parts (s == u) (has_number ss u) a in
      let q = or_parts (s == t) (has_number ss t) b in
      ap (λ o. own_items n op_of o s (items_by n op_of ss)) (op_apart s p.0 q.0) ∙ own_none ss p.1 q.1

  own_writer : (ss : List ℕ) → StandsOnce ss → has_number ss u ≡ false → has_number ss t ≡ true → items_by n op_of ss ≡ writes ∷ installed t ∷ []
  own_writer [] o a b = absurd (let z : false ≡ true = b in cc)
  own_writer (s ∷ ss) o a b = by (s == t) refl (own_writer ss o.1 p.1)
    where
      p : ((s == u) ≡ false) × (has_number ss u ≡ false)
      p = or_parts (s == u) (has_number ss u) a

      others : (s == t) ≡ false → ((s == t) ≡ true) ⊎ (has_number ss t ≡ true) → has_number ss t ≡ true
      others e (inl k) = absurd (let z : true ≡ false = sym k ∙ e in cc)
      others e (inr k) = k

      by : (v : Bool) → (s == t) ≡ v → (has_number ss t ≡ true → items_by n op_of ss ≡ writes ∷ installed t ∷ []) → own_items n op_of (op_of s) s (items_by n op_of ss) ≡ writes ∷ installed t ∷ []
      by true e rest =
          let same = eqb-true s t e in
          ap (λ v. own_items n op_of (op_of v) v (items_by n op_of ss)) same ∙ ap (λ x. own_items n op_of x t (items_by n op_of ss)) op_writer
          ∙ ap (λ k. writes ∷ installed t ∷ k) (own_none ss p.1 (ap (has_number ss) (sym same) ∙ o.0))
      by false e rest =
          ap (λ x. own_items n op_of x s (items_by n op_of ss)) (op_apart s p.0 e) ∙ rest (others e (or_cases (s == t) (has_number ss t) b))

  own_both : (ss : List ℕ) → StandsOnce ss → (before rest : List ℕ) → ss ≡ before ++ t ∷ rest → has_number before u ≡ true → items_by n op_of ss ≡ the_four
  own_both ss o [] rest e h = absurd (let z : false ≡ true = h in cc)
  own_both [] o (b ∷ before) rest e h = no_cons b (before ++ t ∷ rest) e
  own_both (s ∷ ss) o (b ∷ before) rest e h = by (s == u) (s == t) refl refl (own_both ss o.1 before rest after)
    where
      after : ss ≡ before ++ t ∷ rest
      after = tails s b ss (before ++ t ∷ rest) e

      same_b : s ≡ b
      same_b = heads s b ss (before ++ t ∷ rest) e

      behind : has_number ss t ≡ true
      behind = ap (λ k. has_number k t) after ∙ has_at before t rest

      others : (s == u) ≡ false → ((b == u) ≡ true) ⊎ (has_number before u ≡ true) → has_number before u ≡ true
      others q (inl k) = absurd (let z : true ≡ false = sym k ∙ ap (λ x. x == u) (sym same_b) ∙ q in cc)
      others q (inr k) = k

      by : (v z : Bool) → (s == u) ≡ v → (s == t) ≡ z → (has_number before u ≡ true → items_by n op_of ss ≡ the_four) → own_items n op_of (op_of s) s (items_by n op_of ss) ≡ the_four
      by true z q y more =
          let same = eqb-true s u q in
          ap (λ x. own_items n op_of (op_of x) x (items_by n op_of ss)) same ∙ ap (λ x. own_items n op_of x u (items_by n op_of ss)) op_reader
          ∙ ap (λ k. reads ∷ installed u ∷ k) (own_writer ss o.1 (ap (has_number ss) (sym same) ∙ o.0) behind)
      by false true q y more = absurd (let z : true ≡ false = sym behind ∙ ap (has_number ss) (sym (eqb-true s t y)) ∙ o.0 in cc)
      by false false q y more =
          ap (λ x. own_items n op_of x s (items_by n op_of ss)) (op_apart s q y) ∙ more (others q (or_cases (b == u) (has_number before u) h))

  -- which operation of the new member stands where
  at_new : (front : List Trace) (w : ℕ) (o : Op) (r : Reply) (back : List Trace) → the_four ≡ front ++ Operated w n o r ∷ back →
      ((u ≡ w) × (the_read ≡ o) × (front ≡ [])) ⊎ ((t ≡ w) × (the_write ≡ o))
  at_new [] w o r back e =
      let q = heads reads (Operated w n o r) (installed u ∷ writes ∷ installed t ∷ []) back e in
      inl (ap (operated_txn 0) q, ap (operated_op the_read) q, refl)
  at_new (a ∷ []) w o r back e =
      let q = heads (installed u) (Operated w n o r) (writes ∷ installed t ∷ []) back (tails reads a (installed u ∷ writes ∷ installed t ∷ []) (Operated w n o r ∷ back) e) in
      absurd (let z : false ≡ true = ap is_operated q in cc)
  at_new (a ∷ b ∷ []) w o r back e =
      let d = tails reads a (installed u ∷ writes ∷ installed t ∷ []) (b ∷ Operated w n o r ∷ back) e in
      let q = heads writes (Operated w n o r) (installed t ∷ []) back (tails (installed u) b (writes ∷ installed t ∷ []) (Operated w n o r ∷ back) d) in
      inr (ap (operated_txn 0) q, ap (operated_op the_write) q)
  at_new (a ∷ b ∷ c ∷ []) w o r back e =
      let d = tails reads a (installed u ∷ writes ∷ installed t ∷ []) (b ∷ c ∷ Operated w n o r ∷ back) e in
      let f = tails (installed u) b (writes ∷ installed t ∷ []) (c ∷ Operated w n o r ∷ back) d in
      let q = heads (installed t) (Operated w n o r) [] back (tails writes c (installed t ∷ []) (Operated w n o r ∷ back) f) in
      absurd (let z : false ≡ true = ap is_operated q in cc)
  at_new (a ∷ b ∷ c ∷ d ∷ front) w o r back e =
      let f = tails reads a (installed u ∷ writes ∷ installed t ∷ []) (b ∷ c ∷ d ∷ (front ++ Operated w n o r ∷ back)) e in
      let g = tails (installed u) b (writes ∷ installed t ∷ []) (c ∷ d ∷ (front ++ Operated w n o r ∷ back)) f in
      let h = tails writes c (installed t ∷ []) (d ∷ (front ++ Operated w n o r ∷ back)) g in
      let k = tails (installed t) d [] (front ++ Operated w n o r ∷ back) h in
      nothing_left front (Operated w n o r) back k
    where
      nothing_left : {A : Type 0} (front : List Trace) (x : Trace) (back : List Trace) → [] ≡ front ++ x ∷ back → A
      nothing_left [] x back e = no_cons x back e
      nothing_left (y ∷ front) x back e = no_cons y (front ++ x ∷ back) e

module _ (kinds : List Kind) (kind : Kind) (trace : List Trace) (t u m : ℕ) (none : items_of_member (next_member kinds) trace ≡ []) (among : IsAmong m (length kinds))
    (once : StandsOnce (decisions_in trace)) (global_t : is_begun_locally trace t ≡ false) (global_u : is_begun_locally trace u ≡ false) (apart : t ≢ u)
    (precedes : Precedes kinds trace t u m) (order : StandsBefore (decisions_in trace) u t) where
  abbrev n : ℕ
  n = next_member kinds

  abbrev more_kinds : List Kind
  more_kinds = kinds ++ kind ∷ []

  abbrev ops : ℕ → Option (Op × Reply)
  ops = op_of n t u apart

  abbrev more : List Trace
  more = joined_trace n ops no_entries trace

  abroad : AreAbroad n ops no_entries
  abroad s k o e = ap (λ x. decides_at x (node.Member k)) (get-empty nat_cmp s)

  begins : BeginAbroad n ops trace
  begins s o e = by (op_whose n t u apart s o e)
    where
      by : (s ≡ u) ⊎ (s ≡ t) → is_begun_locally trace s ≡ false
      by (inl q) = ap (is_begun_locally trace) q ∙ global_u
      by (inr q) = ap (is_begun_locally trace) q ∙ global_t

  decisions : decisions_in more ≡ decisions_in trace
  decisions = joined_decisions n ops trace no_entries abroad begins

  items : items_of_member n more ≡ the_four n t u apart
  items = joined_items n ops trace no_entries none ∙ by order
    where
      by : StandsBefore (decisions_in trace) u t → items_by n ops (decisions_in trace) ≡ the_four n t u apart
      by (Stands before rest e h) = own_both n t u apart (decisions_in trace) once before rest e h

  in_more : (before after : List Trace) (w : ℕ) (o : Op) (r : Reply) → more ≡ before ++ Operated w n o r ∷ after →
      ((u ≡ w) × (the_read ≡ o) × (items_of_member n before ≡ [])) ⊎ ((t ≡ w) × (the_write ≡ o))
  in_more before after w o r e =
      at_new n t u apart (items_of_member n before) w o r (items_of_member n after)
      (sym items ∙ ap (items_of_member n) e ∙ filter-append (is_of_member n) before (Operated w n o r ∷ after)
      ∙ ap (λ b. items_of_member n before ++ (if b then Operated w n o r ∷ items_of_member n after else items_of_member n after)) (eq-eqb n n refl))

  no_write : {A : Type 0} (o : Op) (span : Span) → the_write ≡ o → span_read o ≡ Some span → A
  no_write o span e h = absurd (let z : None ≡ Some span = ap span_read e ∙ h in cc)

  no_read : {A : Type 0} (o : Op) (change : Written) → the_read ≡ o → change_made o ≡ Some change → A
  no_read o change e h = absurd (let z : None ≡ Some change = ap change_made e ∙ h in cc)

  reader : (v : ℕ) (key : List ℕ) (r : ReadsKey more v n key) → (u ≡ v) × (items_of_member n r.before ≡ [])
  reader v key r = by (in_more r.before r.operated.rest v r.o r.operated.reply r.operated.place)
    where
      by : ((u ≡ v) × (the_read ≡ r.o) × (items_of_member n r.before ≡ [])) ⊎ ((t ≡ v) × (the_write ≡ r.o)) → (u ≡ v) × (items_of_member n r.before ≡ [])
      by (inl p) = (p.0, p.2)
      by (inr p) = no_write r.o r.span p.1 r.reads

  writer : (v : ℕ) (key : List ℕ) → WritesKey more v n key → t ≡ v
  writer v key w = by (in_more w.before w.operated.rest v w.o w.operated.reply w.operated.place)
    where
      by : ((u ≡ v) × (the_read ≡ w.o) × (items_of_member n w.before ≡ [])) ⊎ ((t ≡ v) × (the_write ≡ w.o)) → t ≡ v
      by (inl p) = no_read w.o w.change p.1 w.writes
      by (inr p) = p.0

  -- by itself it is ordered
  ordered_here : (v w : ℕ) → v ≢ w → has_number (decisions_in more) v ≡ true → has_number (decisions_in more) w ≡ true → Precedes more_kinds more v w n → StandsBefore (decisions_in more) v w
  ordered_here v w d hv hw (ReadAfter key a r e) =
      absurd (let z : true ≡ false = sym e ∙ sees_nothing (kind_of more_kinds n) n w v r.before (reader w key r).1 in cc)
  ordered_here v w d hv hw (ReadBefore key r e a) =
      subst (λ l. StandsBefore l v w) (sym decisions) (subst (λ x. StandsBefore (decisions_in trace) x w) (reader v key r).0 (subst (λ x. StandsBefore (decisions_in trace) u x) (writer w key a) order))
  ordered_here v w d hv hw (WroteBefore key a b i) = absurd (d (sym (writer v key a) ∙ writer w key b))

  joins : IsJoinedBy kinds kind trace more
  joins =
      record {
        rest = joined_rest n ops trace no_entries none;
        decisions = decisions;
        ordered = to_part more_kinds more n ordered_here;
        global = λ v o r before after e. joined_begins n ops v trace no_entries ∙ by v o before (in_more before after v o r e);
      }
    where
      by : (v : ℕ) (o : Op) (before : List Trace) → ((u ≡ v) × (the_read ≡ o) × (items_of_member n before ≡ [])) ⊎ ((t ≡ v) × (the_write ≡ o)) → is_begun_locally trace v ≡ false
      by v o before (inl p) = ap (is_begun_locally trace) (sym p.0) ∙ global_u
      by v o before (inr p) = ap (is_begun_locally trace) (sym p.0) ∙ global_t

  decided_t : has_number (decisions_in more) t ≡ true
  decided_t = ap (λ l. has_number l t) decisions ∙ second_stands (decisions_in trace) u t order

  decided_u : has_number (decisions_in more) u ≡ true
  decided_u = ap (λ l. has_number l u) decisions ∙ first_stands (decisions_in trace) u t order

  -- but there u precedes t
  the_other_way : Precedes more_kinds more u t n
  the_other_way = ReadBefore the_key read (sees_nothing (kind_of more_kinds n) n u t read.before (reader u the_key read).1) written
    where
      p : PlacedBefore n ops no_entries more u (the_read, reply.Got None)
      p = joined_place n ops u (the_read, reply.Got None) (op_reader n t u apart) trace no_entries abroad begins (first_stands (decisions_in trace) u t order)

      q : PlacedBefore n ops no_entries more t (the_write, reply.Done)
      q = joined_place n ops t (the_write, reply.Done) (op_writer n t u apart) trace no_entries abroad begins (second_stands (decisions_in trace) u t order)

      read : ReadsKey more u n the_key
      read =
          record {
            o = the_read;
            before = p.before;
            operated = record { reply = reply.Got None; rest = p.rest; place = p.place; undecided = p.undecided };
            span = span_of_key the_key;
            reads = refl;
            has = refl;
          }

      written : WritesKey more t n the_key
      written =
          record {
            o = the_write;
            before = q.before;
            operated = record { reply = reply.Done; rest = q.rest; place = q.place; undecided = q.undecided };
            change = record { key = the_key; value = Some (49 ∷ []) };
            writes = refl;
            same = refl;
          }

  pub not_serializable : IsSerializable more_kinds more → ⊥
  not_serializable z =
      one_way z.order z.once t u (z.serial t u m apart decided_t decided_u
      (precedes_on m kinds more_kinds trace more (sym (same_kind kinds kind m among)) (thinned_back m more trace
      (joined_thins n ops m (ne_eqb n m (λ e. omega (arith, e, among.1))) trace no_entries abroad begins)) t u precedes))
      (z.serial u t n (λ e. apart (sym e)) decided_u decided_t the_other_way)

  pub necessary : (more : List Trace) × IsJoinedBy kinds kind trace more × ¬ (IsSerializable more_kinds more)
  necessary = (more, joins, not_serializable)
