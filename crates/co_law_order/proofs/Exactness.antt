-- A trace is commitment ordered exactly where it stays serializable whatever member joins it.
use Rattle.std.proofs.Common.{◌≡◌, ◌≢◌, ◌⊎◌, inl, inr, ℕ, Bool, true, false, not, ◌||◌, ◌==◌, if◌then◌else◌, List, [], ◌∷◌, ◌++◌, length, Option, Some, refl, sym, ap, ◌∙◌, subst}
use Rattle.std.proofs.lemmas.Bool.{or_cases, or_left, or_right, eqb-true, eqb-false}
use Rattle.std.specs.FinMap.{get-empty}
use Rattle.std.specs.Ordering.{nat_cmp}
use Rattle.co_base.specs.declared.head.Kind.{Kind}
use Rattle.co_base.specs.declared.head.Kind.TheVariants.{Lock}
use Rattle.co_base.specs.declared.node.Node.{Node}
use Rattle.co_base.specs.declared.node.Node.TheVariants as node
use Rattle.co_base.specs.declared.op.Op.{Op}
use Rattle.co_base.specs.declared.op.Op.TheVariants as op
use Rattle.co_base.specs.declared.reply.Reply.{Reply}
use Rattle.co_base.specs.declared.reply.Reply.TheVariants as reply
use Rattle.co_base.specs.Nodes.{same_node}
use Rattle.co_state.specs.Table.{Table, no_entries, put}
use Rattle.co_plain.specs.Numbers.{IsAmong, has_number}
use Rattle.co_plain.specs.CommitmentOrder.{Trace, Began, Operated, Committed, decides_at, decisions_in, WritesKey, Precedes, ReadAfter, ReadBefore, WroteBefore, StandsBefore, Stands}
use Rattle.co_law_order.specs.Joining.{without_member, is_begun_locally, next_member, IsGlobal, IsJoinedBy}
use Rattle.co_law_order.specs.Ordering.{IsOrderedTrace, IsSerializable, StandsOnce}
use Rattle.co_law_order.proofs.Thinning.{Thins}
use Rattle.co_law_order.proofs.Transfers.{Carries, thinned_carries, precedes_on}
use Rattle.co_law_order.proofs.Locality.{from_part}
use Rattle.co_law_order.proofs.Joined.{AreAbroad, BeginAbroad, begun_abroad}
use Rattle.co_law_order.proofs.Necessity.{same_kind, necessary}

-- every transaction was begun at a coordinator
module _ (n : ℕ) where
  abbrev anyone : ℕ → Option (Op × Reply)
  anyone s = Some (op.Read [], reply.Done)

  -- what the others see of a trace without the items of one member
  without_thins : (m : ℕ) → m ≢ n → (more : List Trace) (homes : Table Node) → AreAbroad n anyone homes → BeginAbroad n anyone more → Thins m homes more (without_member n more)
  without_thins m d [] homes a b = refl
  without_thins m d (Began t by ∷ rest) homes a b =
      let p = begun_abroad n anyone t by rest homes a b in
      inl (without_member n rest, refl, without_thins m d rest (put homes t by) p.0 p.1)
  without_thins m d (Operated t k o reply ∷ rest) homes a b = by (k == n) refl (without_thins m d rest homes a b)
    where
      other : (v : Bool) → (k == m) ≡ v → (k == n) ≡ true → (k == m) ≡ false
      other false q e = q
      other true q e = absurd (d (sym (eqb-true k m q) ∙ eqb-true k n e))

      by : (v : Bool) → (k == n) ≡ v → Thins m homes rest (without_member n rest) →
          Thins m homes (Operated t k o reply ∷ rest) (if not v then Operated t k o reply ∷ without_member n rest else without_member n rest)
      by true e h = inr (other (k == m) refl e, h)
      by false e h = inl (without_member n rest, refl, h)
  without_thins m d (Committed at t ∷ rest) homes a b = by at (same_node at (node.Member n)) refl (without_thins m d rest homes a b)
    where
      other : (k : ℕ) (v : Bool) → (k == m) ≡ v → (k == n) ≡ true → (k == m) ≡ false
      other k false q e = q
      other k true q e = absurd (d (sym (eqb-true k m q) ∙ eqb-true k n e))

      by : (at : Node) (v : Bool) → same_node at (node.Member n) ≡ v → Thins m homes rest (without_member n rest) →
          Thins m homes (Committed at t ∷ rest) (if not v then Committed at t ∷ without_member n rest else without_member n rest)
      by (node.Member k) true e h = inr ((other k (k == m) refl e, a t k (op.Read [], reply.Done) refl), h)
      by (node.Coord c) true e h = absurd (let z : false ≡ true = e in cc)
      by at false e h = inl (without_member n rest, refl, h)

  without_begins : (more : List Trace) (t : ℕ) → is_begun_locally (without_member n more) t ≡ is_begun_locally more t
  without_begins [] t = refl
  without_begins (Began u (node.Member k) ∷ rest) t = ap (λ b. (u == t) || b) (without_begins rest t)
  without_begins (Began u (node.Coord c) ∷ rest) t = without_begins rest t
  without_begins (Operated u k o reply ∷ rest) t = by (k == n) (without_begins rest t)
    where
      by : (v : Bool) → is_begun_locally (without_member n rest) t ≡ is_begun_locally rest t →
          is_begun_locally (if not v then Operated u k o reply ∷ without_member n rest else without_member n rest) t ≡ is_begun_locally rest t
      by true h = h
      by false h = h
  without_begins (Committed at u ∷ rest) t = by (same_node at (node.Member n)) (without_begins rest t)
    where
      by : (v : Bool) → is_begun_locally (without_member n rest) t ≡ is_begun_locally rest t →
          is_begun_locally (if not v then Committed at u ∷ without_member n rest else without_member n rest) t ≡ is_begun_locally rest t
      by true h = h
      by false h = h

-- somebody wrote there
written : (kinds : List Kind) (trace : List Trace) (t u m : ℕ) → Precedes kinds trace t u m → (v : ℕ) × (key : List ℕ) × WritesKey trace v m key
written kinds trace t u m (ReadAfter key w r e) = (t, key, w)
written kinds trace t u m (ReadBefore key r e w) = (u, key, w)
written kinds trace t u m (WroteBefore key w v i) = (t, key, w)

pub joined_serializable : (kinds : List Kind) (kind : Kind) (trace more : List Trace) → IsGlobal kinds trace → IsOrderedTrace kinds trace → IsJoinedBy kinds kind trace more →
    IsSerializable (kinds ++ kind ∷ []) more
joined_serializable kinds kind trace more g h j =
    record { order = decisions_in more; once = subst StandsOnce (sym j.decisions) g.once; serial = λ t u m d ht hu p. by t u m d ht hu p (m == next_member kinds) refl }
  where
    begins : BeginAbroad (next_member kinds) (anyone (next_member kinds)) more
    begins s o e = sym (without_begins (next_member kinds) more s) ∙ ap (λ k. is_begun_locally k s) j.rest ∙ g.begun s

    carries : (m : ℕ) → m ≢ next_member kinds → Carries m more trace
    carries m d =
        thinned_carries m more trace (subst (Thins m no_entries more) j.rest
        (without_thins (next_member kinds) m d more no_entries (λ s k o e. ap (λ x. decides_at x (node.Member k)) (get-empty nat_cmp s)) begins))

    there : (t u m : ℕ) → m ≢ next_member kinds → Precedes (kinds ++ kind ∷ []) more t u m → IsAmong m (length kinds)
    there t u m d p =
        let w = written (kinds ++ kind ∷ []) more t u m p in
        let q = (carries m d).place_in w.0 w.2.o w.2.operated.reply w.2.before w.2.operated.rest w.2.operated.place in
        g.within w.0 m w.2.o w.2.operated.reply q.front q.back q.place

    by : (t u m : ℕ) → t ≢ u → has_number (decisions_in more) t ≡ true → has_number (decisions_in more) u ≡ true → Precedes (kinds ++ kind ∷ []) more t u m →
        (b : Bool) → (m == next_member kinds) ≡ b → StandsBefore (decisions_in more) t u
    by t u m d ht hu p true e =
        from_part (kinds ++ kind ∷ []) more (next_member kinds) j.ordered t u d ht hu (subst (Precedes (kinds ++ kind ∷ []) more t u) (eqb-true m (next_member kinds) e) p)
    by t u m d ht hu p false e =
        let apart = eqb-false m (next_member kinds) e in
        subst (λ l. StandsBefore l t u) (sym j.decisions)
        (h t u m d (ap (λ l. has_number l t) (sym j.decisions) ∙ ht) (ap (λ l. has_number l u) (sym j.decisions) ∙ hu)
        (precedes_on m (kinds ++ kind ∷ []) kinds more trace (same_kind kinds kind m (there t u m apart p)) (carries m apart) t u p))

-- of two that stand in a list, one stands before the other
one_or_other : (order : List ℕ) (t u : ℕ) → t ≢ u → has_number order t ≡ true → has_number order u ≡ true → StandsBefore order t u ⊎ StandsBefore order u t
one_or_other [] t u d a b = absurd (let z : false ≡ true = a in cc)
one_or_other (x ∷ xs) t u d a b = by (x == t) (x == u) refl refl (or_cases (x == t) (has_number xs t) a) (or_cases (x == u) (has_number xs u) b) (one_or_other xs t u d)
  where
    split : (ys : List ℕ) (v : ℕ) → has_number ys v ≡ true → (before : List ℕ) × (rest : List ℕ) × (ys ≡ before ++ v ∷ rest)
    split [] v h = absurd (let z : false ≡ true = h in cc)
    split (y ∷ ys) v h = at (or_cases (y == v) (has_number ys v) h) (split ys v)
      where
        at : ((y == v) ≡ true) ⊎ (has_number ys v ≡ true) → (has_number ys v ≡ true → (before : List ℕ) × (rest : List ℕ) × (ys ≡ before ++ v ∷ rest)) →
            (before : List ℕ) × (rest : List ℕ) × (y ∷ ys ≡ before ++ v ∷ rest)
        at (inl e) more = ([], ys, ap (λ z. z ∷ ys) (eqb-true y v e))
        at (inr k) more = let p = more k in (y ∷ p.0, p.1, ap (λ z. y ∷ z) p.2)

    first : (v w : ℕ) → (x == v) ≡ true → has_number xs w ≡ true → StandsBefore (x ∷ xs) v w
    first v w e h = let p = split xs w h in Stands (x ∷ p.0) p.1 (ap (λ z. x ∷ z) p.2) (or_left (x == v) _ e)

    later : (v w : ℕ) → StandsBefore xs v w → StandsBefore (x ∷ xs) v w
    later v w (Stands before rest e h) = Stands (x ∷ before) rest (ap (λ z. x ∷ z) e) (or_right (x == v) _ h)

    by : (p q : Bool) → (x == t) ≡ p → (x == u) ≡ q → ((x == t) ≡ true) ⊎ (has_number xs t ≡ true) → ((x == u) ≡ true) ⊎ (has_number xs u ≡ true) →
        (has_number xs t ≡ true → has_number xs u ≡ true → StandsBefore xs t u ⊎ StandsBefore xs u t) → StandsBefore (x ∷ xs) t u ⊎ StandsBefore (x ∷ xs) u t
    by true true e f a b more = absurd (d (sym (eqb-true x t e) ∙ eqb-true x u f))
    by true false e f a (inl k) more = absurd (let z : true ≡ false = sym k ∙ f in cc)
    by true false e f a (inr k) more = inl (first t u e k)
    by false q e f (inl k) b more = absurd (let z : true ≡ false = sym k ∙ e in cc)
    by false true e f (inr k) b more = inr (first u t f k)
    by false false e f (inr k) (inl l) more = absurd (let z : true ≡ false = sym l ∙ f in cc)
    by false false e f (inr k) (inr l) more = either (more k l)
      where
        either : StandsBefore xs t u ⊎ StandsBefore xs u t → StandsBefore (x ∷ xs) t u ⊎ StandsBefore (x ∷ xs) u t
        either (inl s) = inl (later t u s)
        either (inr s) = inr (later u t s)

pub serializable_ordered : (kinds : List Kind) (trace : List Trace) → IsGlobal kinds trace →
    ((kind : Kind) (more : List Trace) → IsJoinedBy kinds kind trace more → IsSerializable (kinds ++ kind ∷ []) more) → IsOrderedTrace kinds trace
serializable_ordered kinds trace g all t u m d ht hu p = by (one_or_other (decisions_in trace) t u d ht hu)
  where
    among : IsAmong m (length kinds)
    among = let w = written kinds trace t u m p in g.within w.0 m w.2.o w.2.operated.reply w.2.before w.2.operated.rest w.2.operated.place

    by : StandsBefore (decisions_in trace) t u ⊎ StandsBefore (decisions_in trace) u t → StandsBefore (decisions_in trace) t u
    by (inl s) = s
    by (inr s) =
        let n = necessary kinds Lock trace t u m g.free among g.once (g.begun t) (g.begun u) d p s in
        absurd (n.2 (all Lock n.0 n.1))
