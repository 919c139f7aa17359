-- What a trace says of deciding nodes, of commits and of decisions, as it grows at its end.
use Rattle.std.proofs.Common.{◌≡◌, ◌⊎◌, inl, inr, ℕ, Bool, true, false, ◌||◌, ◌&&◌, ◌==◌, if◌then◌else◌, List, [], ◌∷◌, ◌++◌, map, Option, None, Some, refl, sym, ap, ◌∙◌}
use Rattle.std.proofs.lemmas.Bool.{or_cases, or_left, or_right, eqb-true, eq-eqb}
use Rattle.std.proofs.lemmas.List.{reverse-append}
use Rattle.co_base.specs.declared.node.Node.{Node}
use Rattle.co_base.specs.declared.node.Node.TheVariants as node
use Rattle.co_state.specs.Table.{Table, no_entries, look, put}
use Rattle.co_plain.specs.declared.session.Decided.{Decided}
use Rattle.co_plain.specs.declared.session.Session.{Session}
use Rattle.co_plain.specs.Decisions.{is_decided, decided_numbers}
use Rattle.co_plain.specs.Numbers.{has_number}
use Rattle.co_base.specs.Nodes.{same_node}
use Rattle.co_plain.specs.CommitmentOrder.{Trace, Began, Operated, Committed, decides_at, decisions_from, installs}
use Rattle.co_law_base.proofs.Facts.{by_coord}

-- the node that decides a transaction, wherever in the trace it is begun
abbrev pub decider_in : List Trace → ℕ → Option Node
decider_in [] t = None
decider_in (Began u by ∷ rest) t = if u == t then Some by else decider_in rest t
decider_in (Operated u m o reply ∷ rest) t = decider_in rest t
decider_in (Committed at u ∷ rest) t = decider_in rest t

-- the decisions that a part of a trace tells, by the deciding nodes of the whole
abbrev pub decided_in : List Trace → List Trace → List ℕ
decided_in whole [] = []
decided_in whole (Began u by ∷ rest) = decided_in whole rest
decided_in whole (Operated u m o reply ∷ rest) = decided_in whole rest
decided_in whole (Committed at t ∷ rest) =
    if decides_at (decider_in whole t) at then t ∷ decided_in whole rest else decided_in whole rest

-- who was begun where, behind a trace
abbrev pub homes_from : Table Node → List Trace → Table Node
homes_from homes [] = homes
homes_from homes (Began t by ∷ rest) = homes_from (put homes t by) rest
homes_from homes (Operated t m o reply ∷ rest) = homes_from homes rest
homes_from homes (Committed at t ∷ rest) = homes_from homes rest

abbrev pub homes_in : List Trace → Table Node
homes_in tr = homes_from no_entries tr

pub homes_more : (homes : Table Node) (tr xs : List Trace) → homes_from homes (tr ++ xs) ≡ homes_from (homes_from homes tr) xs
homes_more homes [] xs = refl
homes_more homes (Began t by ∷ tr) xs = homes_more (put homes t by) tr xs
homes_more homes (Operated t m o reply ∷ tr) xs = homes_more homes tr xs
homes_more homes (Committed at t ∷ tr) xs = homes_more homes tr xs

pub decisions_more : (homes : Table Node) (tr xs : List Trace) → decisions_from homes (tr ++ xs) ≡ decisions_from homes tr ++ decisions_from (homes_from homes tr) xs
decisions_more homes [] xs = refl
decisions_more homes (Began t by ∷ tr) xs = decisions_more (put homes t by) tr xs
decisions_more homes (Operated t m o reply ∷ tr) xs = decisions_more homes tr xs
decisions_more homes (Committed at t ∷ tr) xs = by (decisions_more homes tr xs) (decides_at (look homes t) at)
  where
    by : decisions_from homes (tr ++ xs) ≡ decisions_from homes tr ++ decisions_from (homes_from homes tr) xs → (b : Bool) →
        (if b then t ∷ decisions_from homes (tr ++ xs) else decisions_from homes (tr ++ xs)) ≡
        (if b then t ∷ decisions_from homes tr else decisions_from homes tr) ++ decisions_from (homes_from homes tr) xs
    by rest true = ap (λ k. t ∷ k) rest
    by rest false = rest

-- a commit record of the transaction became stable at the node
abbrev pub committed_at : List Trace → Node → ℕ → Bool
committed_at [] at t = false
committed_at (Began u by ∷ rest) at t = committed_at rest at t
committed_at (Operated u m o reply ∷ rest) at t = committed_at rest at t
committed_at (Committed here u ∷ rest) at t = same_node here at && (u == t) || committed_at rest at t

-- the session of a transaction that the node decides
abbrev pub homed : Option Session → Node → Bool
homed None at = false
homed (Some session) at = same_node session.by at

pub same_home : (a b : Node) → same_node a b ≡ true → a ≡ b
same_home (node.Member m) (node.Member n) h = ap node.Member (eqb-true m n h)
same_home (node.Coord c) (node.Coord d) h = ap node.Coord (eqb-true c d h)
same_home (node.Member m) (node.Coord d) h = absurd (let z : false ≡ true = h in cc)
same_home (node.Coord c) (node.Member n) h = absurd (let z : false ≡ true = h in cc)

pub same_self : (n : Node) → same_node n n ≡ true
same_self (node.Member m) = eq-eqb m m refl
same_self (node.Coord c) = eq-eqb c c refl

-- where its session has a transaction begun
abbrev pub home_of : Option Session → Option Node
home_of None = None
home_of (Some session) = Some session.by

pub same_homes : (o p : Option Session) → ((at : Node) → homed o at ≡ homed p at) → home_of o ≡ home_of p
same_homes None None h = refl
same_homes None (Some b) h = absurd (let z : false ≡ true = h b.by ∙ same_self b.by in cc)
same_homes (Some a) None h = absurd (let z : false ≡ true = sym (h a.by) ∙ same_self a.by in cc)
same_homes (Some a) (Some b) h = ap Some (sym (same_home b.by a.by (sym (h a.by) ∙ same_self a.by)))

pub homed_coord : (o : Option Session) (c : ℕ) → homed o (node.Coord c) ≡ by_coord o c
homed_coord None c = refl
homed_coord (Some session) c = refl

pub homed_session : (o : Option Session) (at : Node) → homed o at ≡ true → (session : Session) × (o ≡ Some session) × (session.by ≡ at)
homed_session None at h = absurd (let z : false ≡ true = h in cc)
homed_session (Some session) at h = (session, refl, same_home session.by at h)

pub one_home : (o : Option Session) (a b : Node) → homed o a ≡ true → homed o b ≡ true → a ≡ b
one_home o a b h k = by (homed_session o a h)
  where
    by : (session : Session) × (o ≡ Some session) × (session.by ≡ a) → a ≡ b
    by p = sym p.2 ∙ same_home p.0.by b (sym (ap (λ z. homed z b) p.1) ∙ k)

-- one more thing at the end of a trace
pub decider_more : (tr : List Trace) (t : ℕ) (by : Node) (xs : List Trace) → decider_in tr t ≡ Some by → decider_in (tr ++ xs) t ≡ Some by
decider_more [] t by xs e = absurd (let z : None ≡ Some by = e in cc)
decider_more (Operated u m o reply ∷ tr) t by xs e = decider_more tr t by xs e
decider_more (Committed at u ∷ tr) t by xs e = decider_more tr t by xs e
decider_more (Began u at ∷ tr) t by xs e = now (decider_more tr t by xs) (u == t) e
  where
    now : (decider_in tr t ≡ Some by → decider_in (tr ++ xs) t ≡ Some by) → (b : Bool) → (if b then Some at else decider_in tr t) ≡ Some by → (if b then Some at else decider_in (tr ++ xs) t) ≡ Some by
    now rest true h = h
    now rest false h = rest h

pub decider_none : (tr : List Trace) (t : ℕ) (xs : List Trace) → decider_in tr t ≡ None → decider_in (tr ++ xs) t ≡ decider_in xs t
decider_none [] t xs e = refl
decider_none (Operated u m o reply ∷ tr) t xs e = decider_none tr t xs e
decider_none (Committed at u ∷ tr) t xs e = decider_none tr t xs e
decider_none (Began u at ∷ tr) t xs e = now (decider_none tr t xs) (u == t) e
  where
    now : (decider_in tr t ≡ None → decider_in (tr ++ xs) t ≡ decider_in xs t) → (b : Bool) → (if b then Some at else decider_in tr t) ≡ None → (if b then Some at else decider_in (tr ++ xs) t) ≡ decider_in xs t
    now rest true h = absurd (let z : Some at ≡ None = h in cc)
    now rest false h = rest h

-- where what is told begins nobody
pub decider_same : (tr : List Trace) (t : ℕ) (xs : List Trace) → decider_in xs t ≡ None → decider_in (tr ++ xs) t ≡ decider_in tr t
decider_same tr t xs n = by (decider_in tr t) refl
  where
    by : (o : Option Node) → decider_in tr t ≡ o → decider_in (tr ++ xs) t ≡ decider_in tr t
    by None e = decider_none tr t xs e ∙ n ∙ sym e
    by (Some at) e = decider_more tr t at xs e ∙ sym e

joins : (a b c : Bool) → ((a || b) || c) ≡ (a || (b || c))
joins true b c = refl
joins false b c = refl

pub committed_more : (tr : List Trace) (at : Node) (t : ℕ) (xs : List Trace) → committed_at (tr ++ xs) at t ≡ (committed_at tr at t || committed_at xs at t)
committed_more [] at t xs = refl
committed_more (Began u by ∷ tr) at t xs = committed_more tr at t xs
committed_more (Operated u m o reply ∷ tr) at t xs = committed_more tr at t xs
committed_more (Committed here u ∷ tr) at t xs =
    ap (λ k. same_node here at && (u == t) || k) (committed_more tr at t xs) ∙ sym (joins (same_node here at && (u == t)) (committed_at tr at t) (committed_at xs at t))

pub installs_more : (tr : List Trace) (m t : ℕ) (xs : List Trace) → installs (tr ++ xs) m t ≡ (installs tr m t || installs xs m t)
installs_more [] m t xs = refl
installs_more (Began u by ∷ tr) m t xs = installs_more tr m t xs
installs_more (Operated u n o reply ∷ tr) m t xs = installs_more tr m t xs
installs_more (Committed here u ∷ tr) m t xs =
    ap (λ k. same_node here (node.Member m) && (u == t) || k) (installs_more tr m t xs) ∙ sym (joins (same_node here (node.Member m) && (u == t)) (installs tr m t) (installs xs m t))

pub or_none : (a b : Bool) → b ≡ false → (a || b) ≡ a
or_none true b e = refl
or_none false b e = e

-- one part of a trace after another
pub decided_more : (whole xs ys : List Trace) → decided_in whole (xs ++ ys) ≡ decided_in whole xs ++ decided_in whole ys
decided_more whole [] ys = refl
decided_more whole (Began u by ∷ xs) ys = decided_more whole xs ys
decided_more whole (Operated u m o reply ∷ xs) ys = decided_more whole xs ys
decided_more whole (Committed at t ∷ xs) ys = by (decided_more whole xs ys) (decides_at (decider_in whole t) at)
  where
    by : decided_in whole (xs ++ ys) ≡ decided_in whole xs ++ decided_in whole ys → (b : Bool) →
        (if b then t ∷ decided_in whole (xs ++ ys) else decided_in whole (xs ++ ys)) ≡ (if b then t ∷ decided_in whole xs else decided_in whole xs) ++ decided_in whole ys
    by rest true = ap (λ k. t ∷ k) rest
    by rest false = rest

-- the decisions that a part tells, where two traces name the same deciding nodes of all that it commits
pub decided_same : (these those tr : List Trace) → ((t : ℕ) (at : Node) → committed_at tr at t ≡ true → decider_in these t ≡ decider_in those t) → decided_in these tr ≡ decided_in those tr
decided_same these those [] h = refl
decided_same these those (Began u by ∷ tr) h = decided_same these those tr h
decided_same these those (Operated u m o reply ∷ tr) h = decided_same these those tr h
decided_same these those (Committed at t ∷ tr) h =
    let here = h t at (or_left _ _ (ap (λ b. b && (t == t)) (same_self at) ∙ eq-eqb t t refl)) in
    let rest = decided_same these those tr (λ u by k. h u by (or_right _ _ k)) in
    λ i. if decides_at (here i) at then t ∷ rest i else rest i

-- the decisions of a trace that grows, where what is told begins nobody whom the trace commits
pub order_more : (tr xs : List Trace) → ((t : ℕ) (at : Node) → committed_at tr at t ≡ true → decider_in xs t ≡ None) → decided_in (tr ++ xs) (tr ++ xs) ≡ decided_in tr tr ++ decided_in (tr ++ xs) xs
order_more tr xs n =
    decided_more (tr ++ xs) tr xs
    ∙ ap (λ k. k ++ decided_in (tr ++ xs) xs) (decided_same (tr ++ xs) tr tr (λ t at h. decider_same tr t xs (n t at h)))

-- a decision more stands behind the others
pub decision_last : (d : Decided) (ds : List Decided) → decided_numbers (d ∷ ds) ≡ decided_numbers ds ++ d.txn ∷ []
decision_last d ds = reverse-append (d.txn ∷ []) (map (λ x. x.txn) ds)

-- who is decided is among the numbers
in_front : (xs ys : List ℕ) (t : ℕ) → has_number xs t ≡ true → has_number (xs ++ ys) t ≡ true
in_front [] ys t h = absurd (let z : false ≡ true = h in cc)
in_front (x ∷ xs) ys t h = by (in_front xs ys t) (or_cases (x == t) (has_number xs t) h)
  where
    by : (has_number xs t ≡ true → has_number (xs ++ ys) t ≡ true) → ((x == t) ≡ true) ⊎ (has_number xs t ≡ true) → has_number (x ∷ (xs ++ ys)) t ≡ true
    by rest (inl e) = or_left (x == t) _ e
    by rest (inr k) = or_right (x == t) _ (rest k)

at_end : (xs : List ℕ) (y t : ℕ) → (y == t) ≡ true → has_number (xs ++ y ∷ []) t ≡ true
at_end [] y t e = or_left (y == t) _ e
at_end (x ∷ xs) y t e = or_right (x == t) _ (at_end xs y t e)

pub decided_number : (ds : List Decided) (t : ℕ) → is_decided ds t ≡ true → has_number (decided_numbers ds) t ≡ true
decided_number [] t h = absurd (let z : false ≡ true = h in cc)
decided_number (d ∷ ds) t h = ap (λ k. has_number k t) (decision_last d ds) ∙ by (decided_number ds t) (or_cases (d.txn == t) (is_decided ds t) h)
  where
    by : (is_decided ds t ≡ true → has_number (decided_numbers ds) t ≡ true) → ((d.txn == t) ≡ true) ⊎ (is_decided ds t ≡ true) → has_number (decided_numbers ds ++ d.txn ∷ []) t ≡ true
    by rest (inl e) = at_end (decided_numbers ds) d.txn t e
    by rest (inr k) = in_front (decided_numbers ds) (d.txn ∷ []) t (rest k)
