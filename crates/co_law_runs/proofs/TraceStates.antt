-- What a trace says and what the state has: begins, decisions and installs.
use Rattle.std.proofs.Common.{◌≡◌, ◌⊎◌, inl, inr, ℕ, true, false, ◌||◌, ◌&&◌, ◌==◌, if◌then◌else◌, List, [], ◌∷◌, ◌++◌, Option, None, Some, refl, sym, ap, ◌∙◌}
use Rattle.std.specs.Option.{is_some}
use Rattle.std.proofs.lemmas.Bool.{or_cases, or_left, or_right, and_parts, eqb-true, eq-eqb}
use Rattle.co_base.specs.declared.node.Node.{Node}
use Rattle.co_base.specs.declared.node.Node.TheVariants as node
use Rattle.co_base.specs.declared.op.Op.{Op}
use Rattle.co_base.specs.declared.reply.Reply.{Reply}
use Rattle.co_state.specs.Table.{no_entries, look, holds}
use Rattle.co_plain.specs.declared.session.Session.{Session}
use Rattle.co_base.specs.Nodes.{same_node}
use Rattle.co_plain.specs.Federation.{Federation, with_session}
use Rattle.co_plain.specs.Step.{is_used}
use Rattle.co_plain.specs.Decisions.{decided_numbers}
use Rattle.co_plain.specs.CommitmentOrder.{Trace, Operated, Committed, decides_at, decisions_in, installs}
use Rattle.co_law_moves.proofs.ItemsTold.{no_rest}
use Rattle.co_law_moves.proofs.Onward.{holds_put_on}
use Rattle.co_law_runs.proofs.Deciders.{committed_at, decider_in, decided_in, homes_in, homes_more, decisions_more, home_of, same_homes, homed, homed_session, same_self, decider_same, committed_more, installs_more, or_none, order_more}

pub record Traced (tr : List Trace) (s : Federation) : Type 0 where
  pub by_some : (t : ℕ) (by : Node) → decider_in tr t ≡ Some by → homed (look s.sessions t) by ≡ true
  pub begun : (t : ℕ) (by : Node) → homed (look s.sessions t) by ≡ true → decider_in tr t ≡ Some by
  pub known : (t : ℕ) (at : Node) → committed_at tr at t ≡ true → is_used s t ≡ true
  pub order : decided_in tr tr ≡ decided_numbers s.decided
  pub homes : (t : ℕ) → look (homes_in tr) t ≡ home_of (look s.sessions t)
  pub decisions : decisions_in tr ≡ decided_numbers s.decided
  pub installed : (t m : ℕ) → installs tr m t ≡ true → holds (s.member m).committed t ≡ true
  pub was_installed : (t m : ℕ) → holds (s.member m).committed t ≡ true → (installs tr m t ≡ true) ⊎ (holds s.used t ≡ true)

-- The same parts: nothing is told of.
pub record Alike (s z : Federation) : Type 0 where
  pub homes : (t : ℕ) (by : Node) → homed (look s.sessions t) by ≡ homed (look z.sessions t) by
  pub known : (t : ℕ) → is_used s t ≡ true → is_used z t ≡ true
  pub decided : s.decided ≡ z.decided
  pub committed : (m t : ℕ) → holds (s.member m).committed t ≡ holds (z.member m).committed t
  pub used : (t : ℕ) → holds s.used t ≡ holds z.used t

pub alike_traced : (tr : List Trace) (s z : Federation) → Alike s z → Traced tr s → Traced tr z
alike_traced tr s z a r =
    record {
      by_some = λ t by e. sym (a.homes t by) ∙ r.by_some t by e;
      begun = λ t by h. r.begun t by (a.homes t by ∙ h);
      known = λ t at h. a.known t (r.known t at h);
      order = r.order ∙ ap decided_numbers a.decided;
      homes = λ t. r.homes t ∙ same_homes (look s.sessions t) (look z.sessions t) (a.homes t);
      decisions = r.decisions ∙ ap decided_numbers a.decided;
      installed = λ t m h. sym (a.committed m t) ∙ r.installed t m h;
      was_installed = λ t m h. by t m (r.was_installed t m (a.committed m t ∙ h));
    }
  where
    by : (t m : ℕ) → (installs tr m t ≡ true) ⊎ (holds s.used t ≡ true) → (installs tr m t ≡ true) ⊎ (holds z.used t ≡ true)
    by t m (inl h) = inl h
    by t m (inr h) = inr (sym (a.used t) ∙ h)

-- a number that is used stays so where only sessions are put
pub used_put : (s : Federation) (t : ℕ) (session : Session) (u : ℕ) → is_used s u ≡ true → is_used (with_session s t session) u ≡ true
used_put s t session u h = by (or_cases (holds s.sessions u) (holds s.used u) h)
  where
    by : (holds s.sessions u ≡ true) ⊎ (holds s.used u ≡ true) → is_used (with_session s t session) u ≡ true
    by (inl k) = or_left _ _ (holds_put_on s.sessions t session u k)
    by (inr k) = or_right _ _ k

pub homed_used : (s : Federation) (t : ℕ) (by : Node) → homed (look s.sessions t) by ≡ true → is_used s t ≡ true
homed_used s t by h = let p = homed_session (look s.sessions t) by h in or_left _ _ (ap is_some p.1)

-- an operation tells of none of these
pub operated_traced : (tr : List Trace) (s : Federation) (t m : ℕ) (o : Op) (reply : Reply) → Traced tr s → Traced (tr ++ Operated t m o reply ∷ []) s
operated_traced tr s t m o reply r =
    record {
      by_some = λ u by e. r.by_some u by (sym (decider_same tr u x refl) ∙ e);
      begun = λ u by h. decider_same tr u x refl ∙ r.begun u by h;
      known = λ u at h. r.known u at (sym (or_none _ _ refl) ∙ sym (committed_more tr at u x) ∙ h);
      order = order_more tr x (λ u at h. refl) ∙ no_rest (decided_in tr tr) ∙ r.order;
      homes = λ u. ap (λ k. look k u) (homes_more no_entries tr x) ∙ r.homes u;
      decisions = decisions_more no_entries tr x ∙ no_rest (decisions_in tr) ∙ r.decisions;
      installed = λ u k h. r.installed u k (sym (or_none _ _ refl) ∙ sym (installs_more tr k u x) ∙ h);
      was_installed = λ u k h. by u k (r.was_installed u k h);
    }
  where
    x : List Trace
    x = Operated t m o reply ∷ []

    by : (u k : ℕ) → (installs tr k u ≡ true) ⊎ (holds s.used u ≡ true) → (installs (tr ++ x) k u ≡ true) ⊎ (holds s.used u ≡ true)
    by u k (inl h) = inl (installs_more tr k u x ∙ or_left _ _ h)
    by u k (inr h) = inr h

-- the deciding node, read from the front
pub same_decider : (tr : List Trace) (s : Federation) → Traced tr s → (t : ℕ) → look (homes_in tr) t ≡ decider_in tr t
same_decider tr s r t = r.homes t ∙ by (look s.sessions t) refl
  where
    none : look s.sessions t ≡ None → (o : Option Node) → decider_in tr t ≡ o → None ≡ o
    none e None q = refl
    none e (Some at) q = absurd (let z : true ≡ false = sym (r.by_some t at q) ∙ ap (λ o. homed o at) e in cc)

    by : (o : Option Session) → look s.sessions t ≡ o → home_of o ≡ decider_in tr t
    by None e = none e (decider_in tr t) refl
    by (Some session) e = sym (r.begun t session.by (ap (λ o. homed o session.by) e ∙ same_self session.by))

-- an install: committed here, and decided where the member is its home
pub installed_traced : (tr : List Trace) (s z : Federation) (t m : ℕ) → ((u : ℕ) (by : Node) → homed (look s.sessions u) by ≡ homed (look z.sessions u) by) →
    ((u : ℕ) → is_used s u ≡ true → is_used z u ≡ true) → is_used s t ≡ true →
    decided_numbers z.decided ≡ decided_numbers s.decided ++ decided_in (tr ++ Committed (node.Member m) t ∷ []) (Committed (node.Member m) t ∷ []) →
    ((k u : ℕ) → holds (s.member k).committed u ≡ true → holds (z.member k).committed u ≡ true) → holds (z.member m).committed t ≡ true →
    ((k u : ℕ) → holds (z.member k).committed u ≡ true → (holds (s.member k).committed u ≡ true) ⊎ ((k ≡ m) × (u ≡ t))) → ((u : ℕ) → holds s.used u ≡ holds z.used u) →
    Traced tr s → Traced (tr ++ Committed (node.Member m) t ∷ []) z
installed_traced tr s z t m same uses used_t told grows here back used r =
    record {
      by_some = λ u by e. sym (same u by) ∙ r.by_some u by (sym (decider_same tr u x refl) ∙ e);
      begun = λ u by h. decider_same tr u x refl ∙ r.begun u by (same u by ∙ h);
      known = λ u at h. uses u (known u at (or_cases _ _ (sym (committed_more tr at u x) ∙ h)));
      order = order_more tr x (λ u at h. refl) ∙ ap (λ k. k ++ decided_in (tr ++ x) x) r.order ∙ sym told;
      homes = λ u. ap (λ k. look k u) (homes_more no_entries tr x) ∙ r.homes u ∙ same_homes (look s.sessions u) (look z.sessions u) (same u);
      decisions =
          decisions_more no_entries tr x
          ∙ (λ i. r.decisions i ++ (if decides_at ((same_decider tr s r t ∙ sym (decider_same tr t x refl)) i) (node.Member m) then t ∷ [] else []))
          ∙ sym told;
      installed = λ u k h. now u k (or_cases _ _ (sym (installs_more tr k u x) ∙ h));
      was_installed = λ u k h. was u k (back k u h);
    }
  where
    x : List Trace
    x = Committed (node.Member m) t ∷ []

    known : (u : ℕ) (at : Node) → (committed_at tr at u ≡ true) ⊎ ((same_node (node.Member m) at && (t == u) || false) ≡ true) → is_used s u ≡ true
    known u at (inl h) = r.known u at h
    known u at (inr h) = ap (is_used s) (sym (eqb-true t u (and_parts (same_node (node.Member m) at) (t == u) (sym (or_none _ _ refl) ∙ h)).1)) ∙ used_t

    now : (u k : ℕ) → (installs tr k u ≡ true) ⊎ (((m == k) && (t == u) || false) ≡ true) → holds (z.member k).committed u ≡ true
    now u k (inl h) = grows k u (r.installed u k h)
    now u k (inr h) =
        let p = and_parts (m == k) (t == u) (sym (or_none _ _ refl) ∙ h) in
        (λ i. holds (z.member (sym (eqb-true m k p.0) i)).committed (sym (eqb-true t u p.1) i)) ∙ here

    was : (u k : ℕ) → (holds (s.member k).committed u ≡ true) ⊎ ((k ≡ m) × (u ≡ t)) → (installs (tr ++ x) k u ≡ true) ⊎ (holds z.used u ≡ true)
    was u k (inr p) = inl (installs_more tr k u x ∙ or_right _ _ (or_left _ _ ((λ i. (m == p.0 i) && (t == p.1 i)) ∙ ap (λ b. b && (t == t)) (eq-eqb m m refl) ∙ eq-eqb t t refl)))
    was u k (inl h) = old (r.was_installed u k h)
      where
        old : (installs tr k u ≡ true) ⊎ (holds s.used u ≡ true) → (installs (tr ++ x) k u ≡ true) ⊎ (holds z.used u ≡ true)
        old (inl q) = inl (installs_more tr k u x ∙ or_left _ _ q)
        old (inr q) = inr (sym (used u) ∙ q)
