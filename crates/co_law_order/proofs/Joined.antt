-- A trace with one member more, which does one operation of each of some transactions, right before its decision, and installs it right
-- behind: so it runs them one after another, in the order of decisions.
use Rattle.std.proofs.Common.{◌≡◌, ◌⊎◌, inl, inr, ℕ, Bool, true, false, cond, not, ◌||◌, ◌==◌, if◌then◌else◌, List, [], ◌∷◌, ◌++◌, Option, None, Some, filter, refl, sym, ap, ◌∙◌, subst, arith}
use Rattle.std.proofs.lemmas.Bool.Decides.{nat_tests}
use Rattle.std.specs.Ordering.{nat_cmp, eq_by_cmp}
use Rattle.std.proofs.lemmas.Bool.{or_parts, or_cases, eqb-true, eq-eqb, or_from}
use Rattle.co_base.specs.declared.node.Node.{Node}
use Rattle.co_base.specs.declared.node.Node.TheVariants as node
use Rattle.co_base.specs.declared.op.Op.{Op}
use Rattle.co_base.specs.declared.reply.Reply.{Reply}
use Rattle.co_state.specs.Table.{Table, look, put}
use Rattle.co_state.proofs.Tables.{look-put}
use Rattle.co_plain.specs.Numbers.{has_number}
use Rattle.co_plain.specs.CommitmentOrder.{Trace, Began, Operated, Committed, decides_at, decisions_from}
use Rattle.co_law_order.specs.Joining.{is_of_member, items_of_member, without_member, is_begun_locally}
use Rattle.co_law_order.proofs.Thinning.{Thins, no_cons}

-- an entry that was laid in is the new one or an old one
put_either : {X : Type 0} (table : Table X) (t : ℕ) (x : X) (u : ℕ) (P : Option X → Type 0) → ((t == u) ≡ true → P (Some x)) → P (look table u) → P (look (put table t x) u)
put_either table t x u P new old = subst P (sym (look-put table t x u)) (by (eq_by_cmp nat_cmp u t) refl)
  where
    by : (b : Bool) → eq_by_cmp nat_cmp u t ≡ b → P (cond b (Some x) (look table u))
    by true e = new (grind (arith, nat_tests, e))
    by false e = old

-- a list of which nothing passes the test
pub none_head : (x : Trace) (xs : List Trace) (p : Trace → Bool) → filter p (x ∷ xs) ≡ [] → (p x ≡ false) × (filter p xs ≡ [])
none_head x xs p e = by (p x) refl e
  where
    by : (b : Bool) → p x ≡ b → (if b then x ∷ filter p xs else filter p xs) ≡ [] → (p x ≡ false) × (filter p xs ≡ [])
    by true q e = no_cons x (filter p xs) (sym e)
    by false q e = (q, e)

module _ (n : ℕ) (op_of : ℕ → Option (Op × Reply)) where
  abbrev around : Option (Op × Reply) → ℕ → Node → List Trace → List Trace
  around None s at rest = Committed at s ∷ rest
  around (Some o) s at rest = Operated s n o.0 o.1 ∷ Committed at s ∷ Committed (node.Member n) s ∷ rest

  abbrev pub joined_trace : Table Node → List Trace → List Trace
  joined_trace homes [] = []
  joined_trace homes (Began s by ∷ rest) = Began s by ∷ joined_trace (put homes s by) rest
  joined_trace homes (Operated s m o reply ∷ rest) = Operated s m o reply ∷ joined_trace homes rest
  joined_trace homes (Committed at s ∷ rest) = if decides_at (look homes s) at then around (op_of s) s at (joined_trace homes rest) else Committed at s ∷ joined_trace homes rest

  -- those who operate there were begun at no member, before or in the trace
  abbrev pub AreAbroad : Table Node → Type 0
  AreAbroad homes = (s m : ℕ) (o : Op × Reply) → op_of s ≡ Some o → decides_at (look homes s) (node.Member m) ≡ false

  abbrev pub BeginAbroad : List Trace → Type 0
  BeginAbroad trace = (s : ℕ) (o : Op × Reply) → op_of s ≡ Some o → is_begun_locally trace s ≡ false

  pub begun_abroad : (t : ℕ) (by : Node) (rest : List Trace) (homes : Table Node) → AreAbroad homes → BeginAbroad (Began t by ∷ rest) → AreAbroad (put homes t by) × BeginAbroad rest
  begun_abroad t (node.Member k) rest homes a b = (
    λ s m o e. put_either homes t (node.Member k) s (λ x. decides_at x (node.Member m) ≡ false)
        (λ q. absurd (let z : true ≡ false = sym q ∙ (or_parts (t == s) (is_begun_locally rest s) (b s o e)).0 in cc)) (a s m o e),
    λ s o e. (or_parts (t == s) (is_begun_locally rest s) (b s o e)).1,
  )
  begun_abroad t (node.Coord c) rest homes a b =
      (λ s m o e. put_either homes t (node.Coord c) s (λ x. decides_at x (node.Member m) ≡ false) (λ q. refl) (a s m o e), b)

  -- the others see what they saw
  pub joined_thins : (m : ℕ) → (n == m) ≡ false → (trace : List Trace) (homes : Table Node) → AreAbroad homes → BeginAbroad trace → Thins m homes (joined_trace homes trace) trace
  joined_thins m d [] homes a b = refl
  joined_thins m d (Began t by ∷ rest) homes a b =
      let p = begun_abroad t by rest homes a b in
      inl (rest, refl, joined_thins m d rest (put homes t by) p.0 p.1)
  joined_thins m d (Operated t k o reply ∷ rest) homes a b = inl (rest, refl, joined_thins m d rest homes a b)
  joined_thins m d (Committed at t ∷ rest) homes a b = by (decides_at (look homes t) at) (joined_thins m d rest homes a b)
    where
      with_op : (o : Option (Op × Reply)) → op_of t ≡ o → Thins m homes (joined_trace homes rest) rest → Thins m homes (around o t at (joined_trace homes rest)) (Committed at t ∷ rest)
      with_op None e h = inl (rest, refl, h)
      with_op (Some o) e h = inr (d, inl (rest, refl, inr ((d, a t n o e), h)))

      by : (b : Bool) → Thins m homes (joined_trace homes rest) rest →
          Thins m homes (if b then around (op_of t) t at (joined_trace homes rest) else Committed at t ∷ joined_trace homes rest) (Committed at t ∷ rest)
      by true h = with_op (op_of t) refl h
      by false h = inl (rest, refl, h)

  pub joined_decisions : (trace : List Trace) (homes : Table Node) → AreAbroad homes → BeginAbroad trace → decisions_from homes (joined_trace homes trace) ≡ decisions_from homes trace
  joined_decisions [] homes a b = refl
  joined_decisions (Began t by ∷ rest) homes a b = let p = begun_abroad t by rest homes a b in joined_decisions rest (put homes t by) p.0 p.1
  joined_decisions (Operated t k o reply ∷ rest) homes a b = joined_decisions rest homes a b
  joined_decisions (Committed at t ∷ rest) homes a b = by (decides_at (look homes t) at) refl (joined_decisions rest homes a b)
    where
      with_op : (o : Option (Op × Reply)) → op_of t ≡ o → decides_at (look homes t) at ≡ true → decisions_from homes (joined_trace homes rest) ≡ decisions_from homes rest →
          decisions_from homes (around o t at (joined_trace homes rest)) ≡ t ∷ decisions_from homes rest
      with_op None e q h = ap (λ b. if b then t ∷ decisions_from homes (joined_trace homes rest) else decisions_from homes (joined_trace homes rest)) q ∙ ap (λ k. t ∷ k) h
      with_op (Some o) e q h =
          (λ i. if q i then t ∷ (if a t n o e i then t ∷ decisions_from homes (joined_trace homes rest) else decisions_from homes (joined_trace homes rest))
          else (if a t n o e i then t ∷ decisions_from homes (joined_trace homes rest) else decisions_from homes (joined_trace homes rest)))
          ∙ ap (λ k. t ∷ k) h

      by : (b : Bool) → decides_at (look homes t) at ≡ b → decisions_from homes (joined_trace homes rest) ≡ decisions_from homes rest →
          decisions_from homes (if b then around (op_of t) t at (joined_trace homes rest) else Committed at t ∷ joined_trace homes rest) ≡ (if b then t ∷ decisions_from homes rest else decisions_from homes rest)
      by true q h = with_op (op_of t) refl q h
      by false q h = ap (λ b. if b then t ∷ decisions_from homes (joined_trace homes rest) else decisions_from homes (joined_trace homes rest)) q ∙ h

  -- the items of the new member, by who was decided
  abbrev pub own_items : Option (Op × Reply) → ℕ → List Trace → List Trace
  own_items None s rest = rest
  own_items (Some o) s rest = Operated s n o.0 o.1 ∷ Committed (node.Member n) s ∷ rest

  abbrev pub items_by : List ℕ → List Trace
  items_by [] = []
  items_by (s ∷ ss) = own_items (op_of s) s (items_by ss)

  keeps : (x : Trace) (xs : List Trace) (p : Trace → Bool) (b : Bool) → p x ≡ b → filter p (x ∷ xs) ≡ (if b then x ∷ filter p xs else filter p xs)
  keeps x xs p b e = ap (λ k. if k then x ∷ filter p xs else filter p xs) e

  own_op : (s : ℕ) (o : Op × Reply) (xs : List Trace) → filter (is_of_member n) (Operated s n o.0 o.1 ∷ xs) ≡ Operated s n o.0 o.1 ∷ filter (is_of_member n) xs
  own_op s o xs = keeps (Operated s n o.0 o.1) xs (is_of_member n) true (eq-eqb n n refl)

  own_commit : (s : ℕ) (xs : List Trace) → filter (is_of_member n) (Committed (node.Member n) s ∷ xs) ≡ Committed (node.Member n) s ∷ filter (is_of_member n) xs
  own_commit s xs = keeps (Committed (node.Member n) s) xs (is_of_member n) true (eq-eqb n n refl)

  pub joined_items : (trace : List Trace) (homes : Table Node) → items_of_member n trace ≡ [] → items_of_member n (joined_trace homes trace) ≡ items_by (decisions_from homes trace)
  joined_items [] homes none = refl
  joined_items (Began t by ∷ rest) homes none = joined_items rest (put homes t by) none
  joined_items (Operated t k o reply ∷ rest) homes none =
      let p = none_head (Operated t k o reply) rest (is_of_member n) none in
      keeps (Operated t k o reply) (joined_trace homes rest) (is_of_member n) false p.0 ∙ joined_items rest homes p.1
  joined_items (Committed at t ∷ rest) homes none = by (decides_at (look homes t) at) (joined_items rest homes p.1)
    where
      p : (is_of_member n (Committed at t) ≡ false) × (filter (is_of_member n) rest ≡ [])
      p = none_head (Committed at t) rest (is_of_member n) none

      other : (xs : List Trace) → filter (is_of_member n) (Committed at t ∷ xs) ≡ filter (is_of_member n) xs
      other xs = keeps (Committed at t) xs (is_of_member n) false p.0

      with_op : (o : Option (Op × Reply)) → items_of_member n (joined_trace homes rest) ≡ items_by (decisions_from homes rest) →
          items_of_member n (around o t at (joined_trace homes rest)) ≡ own_items o t (items_by (decisions_from homes rest))
      with_op None h = other (joined_trace homes rest) ∙ h
      with_op (Some o) h =
          own_op t o (Committed at t ∷ Committed (node.Member n) t ∷ joined_trace homes rest)
          ∙ ap (λ k. Operated t n o.0 o.1 ∷ k) (other (Committed (node.Member n) t ∷ joined_trace homes rest) ∙ own_commit t (joined_trace homes rest) ∙ ap (λ k. Committed (node.Member n) t ∷ k) h)

      by : (b : Bool) → items_of_member n (joined_trace homes rest) ≡ items_by (decisions_from homes rest) →
          items_of_member n (if b then around (op_of t) t at (joined_trace homes rest) else Committed at t ∷ joined_trace homes rest) ≡ items_by (if b then t ∷ decisions_from homes rest else decisions_from homes rest)
      by true h = with_op (op_of t) h
      by false h = other (joined_trace homes rest) ∙ h

  -- without them it is the trace again
  pub joined_rest : (trace : List Trace) (homes : Table Node) → items_of_member n trace ≡ [] → without_member n (joined_trace homes trace) ≡ trace
  joined_rest [] homes none = refl
  joined_rest (Began t by ∷ rest) homes none = ap (λ k. Began t by ∷ k) (joined_rest rest (put homes t by) none)
  joined_rest (Operated t k o reply ∷ rest) homes none =
      let p = none_head (Operated t k o reply) rest (is_of_member n) none in
      keeps (Operated t k o reply) (joined_trace homes rest) (λ x. not (is_of_member n x)) true (ap not p.0) ∙ ap (λ l. Operated t k o reply ∷ l) (joined_rest rest homes p.1)
  joined_rest (Committed at t ∷ rest) homes none = by (decides_at (look homes t) at) (joined_rest rest homes p.1)
    where
      p : (is_of_member n (Committed at t) ≡ false) × (filter (is_of_member n) rest ≡ [])
      p = none_head (Committed at t) rest (is_of_member n) none

      stays : (xs : List Trace) → without_member n (Committed at t ∷ xs) ≡ Committed at t ∷ without_member n xs
      stays xs = keeps (Committed at t) xs (λ x. not (is_of_member n x)) true (ap not p.0)

      with_op : (o : Option (Op × Reply)) → without_member n (joined_trace homes rest) ≡ rest → without_member n (around o t at (joined_trace homes rest)) ≡ Committed at t ∷ rest
      with_op None h = stays (joined_trace homes rest) ∙ ap (λ k. Committed at t ∷ k) h
      with_op (Some o) h =
          keeps (Operated t n o.0 o.1) (Committed at t ∷ Committed (node.Member n) t ∷ joined_trace homes rest) (λ x. not (is_of_member n x)) false (ap not (eq-eqb n n refl))
          ∙ stays (Committed (node.Member n) t ∷ joined_trace homes rest)
          ∙ ap (λ k. Committed at t ∷ k) (keeps (Committed (node.Member n) t) (joined_trace homes rest) (λ x. not (is_of_member n x)) false (ap not (eq-eqb n n refl)) ∙ h)

      by : (b : Bool) → without_member n (joined_trace homes rest) ≡ rest →
          without_member n (if b then around (op_of t) t at (joined_trace homes rest) else Committed at t ∷ joined_trace homes rest) ≡ Committed at t ∷ rest
      by true h = with_op (op_of t) h
      by false h = stays (joined_trace homes rest) ∙ ap (λ k. Committed at t ∷ k) h

  -- who is decided operates there before
  pub record PlacedBefore (homes : Table Node) (more : List Trace) (w : ℕ) (o : Op × Reply) : Type 0 where
    pub before : List Trace
    pub rest : List Trace
    pub place : more ≡ before ++ Operated w n o.0 o.1 ∷ rest
    pub undecided : has_number (decisions_from homes before) w ≡ false

  pub joined_place : (w : ℕ) (o : Op × Reply) → op_of w ≡ Some o → (trace : List Trace) (homes : Table Node) → AreAbroad homes → BeginAbroad trace →
      has_number (decisions_from homes trace) w ≡ true → PlacedBefore homes (joined_trace homes trace) w o
  joined_place w o e [] homes a b h = absurd (let z : false ≡ true = h in cc)
  joined_place w o e (Began t by ∷ rest) homes a b h =
      let p = begun_abroad t by rest homes a b in
      let q = joined_place w o e rest (put homes t by) p.0 p.1 h in
      record { before = Began t by ∷ q.before; rest = q.rest; place = ap (λ k. Began t by ∷ k) q.place; undecided = q.undecided }
  joined_place w o e (Operated t k x reply ∷ rest) homes a b h =
      let q = joined_place w o e rest homes a b h in
      record { before = Operated t k x reply ∷ q.before; rest = q.rest; place = ap (λ k'. Operated t k x reply ∷ k') q.place; undecided = q.undecided }
  joined_place w o e (Committed at t ∷ rest) homes a b h = by (decides_at (look homes t) at) refl h (joined_place w o e rest homes a b)
    where
      J : List Trace
      J = joined_trace homes rest

      here : (x : Option (Op × Reply)) → op_of t ≡ x → t ≡ w → PlacedBefore homes (around x t at J) w o
      here None q same = absurd (let z : None ≡ Some o = sym q ∙ ap op_of same ∙ e in cc)
      here (Some x) q same =
          record {
            before = [];
            rest = Committed at t ∷ Committed (node.Member n) t ∷ J;
            place = λ i. Operated (same i) n (own i).0 (own i).1 ∷ Committed at t ∷ Committed (node.Member n) t ∷ J;
            undecided = refl;
          }
        where
          the : (Op × Reply) → Option (Op × Reply) → Op × Reply
          the d None = d
          the d (Some y) = y

          own : x ≡ o
          own = ap (the o) (sym q ∙ ap op_of same ∙ e)

      later : (x : Option (Op × Reply)) → op_of t ≡ x → (t == w) ≡ false → decides_at (look homes t) at ≡ true → PlacedBefore homes J w o → PlacedBefore homes (around x t at J) w o
      later None q d y p =
          record {
            before = Committed at t ∷ p.before;
            rest = p.rest;
            place = ap (λ k. Committed at t ∷ k) p.place;
            undecided = ap (λ b. has_number (if b then t ∷ decisions_from homes p.before else decisions_from homes p.before) w) y ∙ or_from (t == w) _ d p.undecided;
          }
      later (Some x) q d y p =
          let D = decisions_from homes p.before in
          record {
            before = Operated t n x.0 x.1 ∷ Committed at t ∷ Committed (node.Member n) t ∷ p.before;
            rest = p.rest;
            place = ap (λ k. Operated t n x.0 x.1 ∷ Committed at t ∷ Committed (node.Member n) t ∷ k) p.place;
            undecided =
                (λ i. has_number (if y i then t ∷ (if a t n x q i then t ∷ D else D) else (if a t n x q i then t ∷ D else D)) w) ∙ or_from (t == w) _ d p.undecided;
          }

      both : (decides_at (look homes t) at ≡ true) → ((t == w) ≡ true) ⊎ (has_number (decisions_from homes rest) w ≡ true) → (v : Bool) → (t == w) ≡ v →
          (has_number (decisions_from homes rest) w ≡ true → PlacedBefore homes J w o) → PlacedBefore homes (around (op_of t) t at J) w o
      both y c true q p = here (op_of t) refl (eqb-true t w q)
      both y (inl k) false q p = absurd (let z : true ≡ false = sym k ∙ q in cc)
      both y (inr k) false q p = later (op_of t) refl q y (p k)

      by : (v : Bool) → decides_at (look homes t) at ≡ v → has_number (if v then t ∷ decisions_from homes rest else decisions_from homes rest) w ≡ true →
          (has_number (decisions_from homes rest) w ≡ true → PlacedBefore homes J w o) →
          PlacedBefore homes (if v then around (op_of t) t at J else Committed at t ∷ J) w o
      by true y k p = both y (or_cases (t == w) (has_number (decisions_from homes rest) w) k) (t == w) refl p
      by false y k p =
          let q = p k in
          record {
            before = Committed at t ∷ q.before;
            rest = q.rest;
            place = ap (λ k. Committed at t ∷ k) q.place;
            undecided = ap (λ b. has_number (if b then t ∷ decisions_from homes q.before else decisions_from homes q.before) w) y ∙ q.undecided;
          }

  -- each is begun where it was
  pub joined_begins : (w : ℕ) (trace : List Trace) (homes : Table Node) → is_begun_locally (joined_trace homes trace) w ≡ is_begun_locally trace w
  joined_begins w [] homes = refl
  joined_begins w (Began t (node.Member k) ∷ rest) homes = ap (λ b. (t == w) || b) (joined_begins w rest (put homes t (node.Member k)))
  joined_begins w (Began t (node.Coord c) ∷ rest) homes = joined_begins w rest (put homes t (node.Coord c))
  joined_begins w (Operated t k o reply ∷ rest) homes = joined_begins w rest homes
  joined_begins w (Committed at t ∷ rest) homes = by (decides_at (look homes t) at) (op_of t) (joined_begins w rest homes)
    where
      by : (b : Bool) (o : Option (Op × Reply)) → is_begun_locally (joined_trace homes rest) w ≡ is_begun_locally rest w →
          is_begun_locally (if b then around o t at (joined_trace homes rest) else Committed at t ∷ joined_trace homes rest) w ≡ is_begun_locally rest w
      by true None h = h
      by true (Some o) h = h
      by false o h = h
