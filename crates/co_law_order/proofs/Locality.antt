-- Commitment ordering is a matter of each member alone.
use Rattle.std.proofs.Common.{◌≡◌, ◌≢◌, ◌⊎◌, inl, inr, ℕ, Bool, true, false, ◌||◌, ◌&&◌, ◌==◌, if◌then◌else◌, List, [], ◌∷◌, ◌++◌, refl, sym, ap, ◌∙◌, subst}
use Rattle.std.proofs.lemmas.Bool.{and_parts, or_parts, or_cases, or_left, or_right, eqb-true, eqb-false, eq-eqb}
use Rattle.co_base.specs.declared.head.Kind.{Kind}
use Rattle.co_base.specs.declared.node.Node.{Node}
use Rattle.co_base.specs.declared.node.Node.TheVariants as node
use Rattle.co_base.specs.declared.op.Op.{Op}
use Rattle.co_base.specs.declared.reply.Reply.{Reply}
use Rattle.co_base.specs.Nodes.{same_node}
use Rattle.co_message.specs.declared.item.ItemKind.{ItemKind}
use Rattle.co_state.specs.Table.{Table, no_entries, look, put}
use Rattle.co_plain.specs.Numbers.{has_number}
use Rattle.co_plain.specs.CommitmentOrder.{Trace, Began, Operated, Committed, decides_at, decisions_from, decisions_in, installs, trace_of, WritesKey, Precedes, ReadAfter, ReadBefore, WroteBefore, StandsBefore, IsCommitmentOrdered}
use Rattle.co_law_order.specs.Ordering.{IsOrderedTrace}
use Rattle.co_law_order.specs.OwnParts.{own_part_from, own_part}
use Rattle.co_law_order.proofs.Thinning.{Thins, thins_decisions}
use Rattle.co_law_order.proofs.Transfers.{thinned_carries, thinned_back, precedes_on}

own_thins : (m : ℕ) (trace : List Trace) (homes : Table Node) → Thins m homes trace (own_part_from homes m trace)
own_thins m [] homes = refl
own_thins m (Began t by ∷ rest) homes = inl (own_part_from (put homes t by) m rest, refl, own_thins m rest (put homes t by))
own_thins m (Operated t n o reply ∷ rest) homes = by (n == m) refl (own_thins m rest homes)
  where
    by : (b : Bool) → (n == m) ≡ b → Thins m homes rest (own_part_from homes m rest) →
        Thins m homes (Operated t n o reply ∷ rest) (if b then Operated t n o reply ∷ own_part_from homes m rest else own_part_from homes m rest)
    by true e h = inl (own_part_from homes m rest, refl, h)
    by false e h = inr (e, h)
own_thins m (Committed at t ∷ rest) homes = by (same_node at (node.Member m) || decides_at (look homes t) at) refl (own_thins m rest homes)
  where
    by : (b : Bool) → (same_node at (node.Member m) || decides_at (look homes t) at) ≡ b → Thins m homes rest (own_part_from homes m rest) →
        Thins m homes (Committed at t ∷ rest) (if b then Committed at t ∷ own_part_from homes m rest else own_part_from homes m rest)
    by true e h = inl (own_part_from homes m rest, refl, h)
    by false e h = inr (or_parts (same_node at (node.Member m)) (decides_at (look homes t) at) e, h)

-- whether some operation was answered at the member
abbrev operates_at : List Trace → ℕ → Bool
operates_at [] n = false
operates_at (Began t by ∷ rest) n = operates_at rest n
operates_at (Operated t k o reply ∷ rest) n = (k == n) || operates_at rest n
operates_at (Committed at t ∷ rest) n = operates_at rest n

operates_here : (before rest : List Trace) (t n : ℕ) (o : Op) (reply : Reply) → operates_at (before ++ Operated t n o reply ∷ rest) n ≡ true
operates_here [] rest t n o reply = or_left (n == n) (operates_at rest n) (eq-eqb n n refl)
operates_here (Began u by ∷ before) rest t n o reply = operates_here before rest t n o reply
operates_here (Operated u k x r ∷ before) rest t n o reply = or_right (k == n) _ (operates_here before rest t n o reply)
operates_here (Committed at u ∷ before) rest t n o reply = operates_here before rest t n o reply

-- nobody else operates in a member's part
own_alone : (m n : ℕ) → n ≢ m → (trace : List Trace) (homes : Table Node) → operates_at (own_part_from homes m trace) n ≡ false
own_alone m n d [] homes = refl
own_alone m n d (Began t by ∷ rest) homes = own_alone m n d rest (put homes t by)
own_alone m n d (Operated t k o reply ∷ rest) homes = by (k == m) refl (own_alone m n d rest homes)
  where
    apart : (b : Bool) → (k == n) ≡ b → (k == m) ≡ true → (k == n) ≡ false
    apart false e q = e
    apart true e q = absurd (d (sym (eqb-true k n e) ∙ eqb-true k m q))

    by : (b : Bool) → (k == m) ≡ b → operates_at (own_part_from homes m rest) n ≡ false →
        operates_at (if b then Operated t k o reply ∷ own_part_from homes m rest else own_part_from homes m rest) n ≡ false
    by true e h = ap (λ b. b || operates_at (own_part_from homes m rest) n) (apart (k == n) refl e) ∙ h
    by false e h = h
own_alone m n d (Committed at t ∷ rest) homes = by (same_node at (node.Member m) || decides_at (look homes t) at) (own_alone m n d rest homes)
  where
    by : (b : Bool) → operates_at (own_part_from homes m rest) n ≡ false →
        operates_at (if b then Committed at t ∷ own_part_from homes m rest else own_part_from homes m rest) n ≡ false
    by true h = h
    by false h = h

module _ (kinds : List Kind) (trace : List Trace) where
  writes_nowhere : (m n t : ℕ) {key : List ℕ} {A : Type 0} → n ≢ m → WritesKey (own_part m trace) t n key → A
  writes_nowhere m n t d w =
      let yes : operates_at (own_part m trace) n ≡ true = ap (λ k. operates_at k n) w.operated.place ∙ operates_here w.before w.operated.rest t n w.o w.operated.reply in
      absurd (let z : true ≡ false = sym yes ∙ own_alone m n d trace no_entries in cc)

  elsewhere : (m n t u : ℕ) {A : Type 0} → n ≢ m → Precedes kinds (own_part m trace) t u n → A
  elsewhere m n t u d (ReadAfter key w r e) = writes_nowhere m n t d w
  elsewhere m n t u d (ReadBefore key r e w) = writes_nowhere m n u d w
  elsewhere m n t u d (WroteBefore key w v i) = writes_nowhere m n t d w

  pub own_decisions : (m : ℕ) → decisions_in (own_part m trace) ≡ decisions_in trace
  own_decisions m = sym (thins_decisions m trace (own_part m trace) no_entries (own_thins m trace no_entries))

  -- at this member
  abbrev pub IsOrderedAt : ℕ → Type 0
  IsOrderedAt m =
      (t u : ℕ) → t ≢ u → has_number (decisions_in trace) t ≡ true → has_number (decisions_in trace) u ≡ true → Precedes kinds trace t u m →
      StandsBefore (decisions_in trace) t u

  pub to_part : (m : ℕ) → IsOrderedAt m → IsOrderedTrace kinds (own_part m trace)
  to_part m h t u n d ht hu p =
      subst (λ k. StandsBefore k t u) (sym (own_decisions m))
      (h t u d (sym (ap (λ k. has_number k t) (own_decisions m)) ∙ ht) (sym (ap (λ k. has_number k u) (own_decisions m)) ∙ hu) (by (n == m) refl))
    where
      by : (b : Bool) → (n == m) ≡ b → Precedes kinds trace t u m
      by true e =
          precedes_on m kinds kinds (own_part m trace) trace refl (thinned_back m trace (own_part m trace) (own_thins m trace no_entries)) t u
          (subst (λ k. Precedes kinds (own_part m trace) t u k) (eqb-true n m e) p)
      by false e = elsewhere m n t u (eqb-false n m e) p

  pub from_part : (m : ℕ) → IsOrderedTrace kinds (own_part m trace) → IsOrderedAt m
  from_part m h t u d ht hu p =
      subst (λ k. StandsBefore k t u) (own_decisions m)
      (h t u m d (ap (λ k. has_number k t) (own_decisions m) ∙ ht) (ap (λ k. has_number k u) (own_decisions m) ∙ hu)
      (precedes_on m kinds kinds trace (own_part m trace) refl (thinned_carries m trace (own_part m trace) (own_thins m trace no_entries)) t u p))

pub ordered_whole : (kinds : List Kind) (items : List ItemKind) → IsCommitmentOrdered kinds items → (m : ℕ) → IsOrderedTrace kinds (own_part m (trace_of items))
ordered_whole kinds items h m = to_part kinds (trace_of items) m (λ t u. h t u m)

pub ordered_parts : (kinds : List Kind) (items : List ItemKind) → ((m : ℕ) → IsOrderedTrace kinds (own_part m (trace_of items))) → IsCommitmentOrdered kinds items
ordered_parts kinds items h t u m = from_part kinds (trace_of items) m (h m) t u

pub operations_own : (trace before rest : List Trace) (m t n : ℕ) (o : Op) (reply : Reply) → own_part m trace ≡ before ++ Operated t n o reply ∷ rest → n ≡ m
operations_own trace before rest m t n o reply e = by (n == m) refl
  where
    by : (b : Bool) → (n == m) ≡ b → n ≡ m
    by true q = eqb-true n m q
    by false q =
        absurd (let z : true ≡ false = sym (ap (λ k. operates_at k n) e ∙ operates_here before rest t n o reply) ∙ own_alone m n (eqb-false n m q) trace no_entries in cc)

-- a commit record elsewhere that a member's part has decides
installs_decide : (m n t : ℕ) → n ≢ m → (trace : List Trace) (homes : Table Node) → installs (own_part_from homes m trace) n t ≡ true → has_number (decisions_from homes trace) t ≡ true
installs_decide m n t d [] homes h = absurd (let z : false ≡ true = h in cc)
installs_decide m n t d (Began u by ∷ rest) homes h = installs_decide m n t d rest (put homes u by) h
installs_decide m n t d (Operated u k o reply ∷ rest) homes h = by (k == m) (installs_decide m n t d rest homes) h
  where
    by : (b : Bool) → (installs (own_part_from homes m rest) n t ≡ true → has_number (decisions_from homes rest) t ≡ true) →
        installs (if b then Operated u k o reply ∷ own_part_from homes m rest else own_part_from homes m rest) n t ≡ true → has_number (decisions_from homes rest) t ≡ true
    by true more h = more h
    by false more h = more h
installs_decide m n t d (Committed at u ∷ rest) homes h = by (same_node at (node.Member m)) (decides_at (look homes u) at) refl (installs_decide m n t d rest homes) h
  where
    later : (b : Bool) → has_number (decisions_from homes rest) t ≡ true → has_number (if b then u ∷ decisions_from homes rest else decisions_from homes rest) t ≡ true
    later true h = or_right (u == t) _ h
    later false h = h

    -- it is not a record of both
    here : (at : Node) → same_node at (node.Member m) ≡ true → same_node at (node.Member n) ≡ true → ⊥
    here (node.Member k) a b = d (sym (eqb-true k n b) ∙ eqb-true k m a)
    here (node.Coord c) a b = let z : false ≡ true = a in cc

    own : same_node at (node.Member m) ≡ true → (b : Bool) → ((same_node at (node.Member n) && (u == t)) ≡ true) ⊎ (installs (own_part_from homes m rest) n t ≡ true) →
        (installs (own_part_from homes m rest) n t ≡ true → has_number (decisions_from homes rest) t ≡ true) → has_number (if b then u ∷ decisions_from homes rest else decisions_from homes rest) t ≡ true
    own a b (inl k) more = absurd (here at a (and_parts (same_node at (node.Member n)) (u == t) k).0)
    own a b (inr k) more = later b (more k)

    decides : ((same_node at (node.Member n) && (u == t)) ≡ true) ⊎ (installs (own_part_from homes m rest) n t ≡ true) →
        (installs (own_part_from homes m rest) n t ≡ true → has_number (decisions_from homes rest) t ≡ true) → has_number (u ∷ decisions_from homes rest) t ≡ true
    decides (inl k) more = or_left (u == t) _ (and_parts (same_node at (node.Member n)) (u == t) k).1
    decides (inr k) more = or_right (u == t) _ (more k)

    by : (a b : Bool) → same_node at (node.Member m) ≡ a → (installs (own_part_from homes m rest) n t ≡ true → has_number (decisions_from homes rest) t ≡ true) →
        installs (if a || b then Committed at u ∷ own_part_from homes m rest else own_part_from homes m rest) n t ≡ true →
        has_number (if b then u ∷ decisions_from homes rest else decisions_from homes rest) t ≡ true
    by true b e more h = own e b (or_cases (same_node at (node.Member n) && (u == t)) (installs (own_part_from homes m rest) n t) h) more
    by false true e more h = decides (or_cases (same_node at (node.Member n) && (u == t)) (installs (own_part_from homes m rest) n t) h) more
    by false false e more h = more h

pub installs_own : (trace : List Trace) (m t n : ℕ) → n ≢ m → installs (own_part m trace) n t ≡ true → has_number (decisions_in trace) t ≡ true
installs_own trace m t n d h = installs_decide m n t d trace no_entries h
