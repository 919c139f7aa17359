-- The order of decisions in a trace, and where its acts are.
use Rattle.std.proofs.Common.{◌≡◌, ◌⊎◌, inl, inr, ℕ, Bool, true, false, ◌||◌, ◌&&◌, ◌==◌, if◌then◌else◌, List, [], ◌∷◌, ◌++◌, refl, sym, ap, ◌∙◌}
use Rattle.std.proofs.lemmas.Bool.{or_cases, or_left, or_right, and_parts, eqb-true, eq-eqb}
use Rattle.co_base.specs.declared.node.Node.{Node}
use Rattle.co_base.specs.declared.node.Node.TheVariants as node
use Rattle.co_base.specs.declared.op.Op.{Op}
use Rattle.co_base.specs.declared.reply.Reply.{Reply}
use Rattle.co_state.specs.ReadRule.{operation_reply}
use Rattle.co_plain.specs.Federation.{Federation}
use Rattle.co_plain.specs.Numbers.{has_number}
use Rattle.co_base.specs.Nodes.{same_node}
use Rattle.co_plain.specs.CommitmentOrder.{Trace, Began, Operated, Committed, decides_at, installs, before_first}
use Rattle.co_plain.specs.Moves.{Operate, MarkAsked, Cast, DropActive, DropVoted, Install, CommitLocally, CrashMember, RestartMember, ArmMember, CloseMemberSpare, FillMemberSpare, Begin, Collect, RecordYes, Decide, Leave, RecordAck, End, CrashCoord, RestartCoord, ArmCoord, CloseCoordSpare, FillCoordSpare, BeginLocal, AskEnd, Send}
use Rattle.co_law_runs.proofs.Acts.{Act, Moves, Disarms, after_act, act_trace, acts_trace, same_head, same_tail, not_empty}
use Rattle.co_law_runs.proofs.Deciders.{committed_at, decider_in, decided_in, decided_more, same_home, same_self}

-- who is in the order was decided at its node
pub has_decided : (whole tr : List Trace) (t : ℕ) → has_number (decided_in whole tr) t ≡ true → (at : Node) × (decides_at (decider_in whole t) at ≡ true) × (committed_at tr at t ≡ true)
has_decided whole [] t h = absurd (let z : false ≡ true = h in cc)
has_decided whole (Began u by ∷ tr) t h = has_decided whole tr t h
has_decided whole (Operated u m o reply ∷ tr) t h = has_decided whole tr t h
has_decided whole (Committed at u ∷ tr) t h = by (has_decided whole tr t) (decides_at (decider_in whole u) at) refl h
  where
    later : ((here : Node) × (decides_at (decider_in whole t) here ≡ true) × (committed_at tr here t ≡ true)) → (here : Node) × (decides_at (decider_in whole t) here ≡ true) × (committed_at (Committed at u ∷ tr) here t ≡ true)
    later p = (p.0, p.1, or_right _ _ p.2)

    by : (has_number (decided_in whole tr) t ≡ true → (here : Node) × (decides_at (decider_in whole t) here ≡ true) × (committed_at tr here t ≡ true)) → (b : Bool) → decides_at (decider_in whole u) at ≡ b →
        has_number (if b then u ∷ decided_in whole tr else decided_in whole tr) t ≡ true → (here : Node) × (decides_at (decider_in whole t) here ≡ true) × (committed_at (Committed at u ∷ tr) here t ≡ true)
    by rest false e k = later (rest k)
    by rest true e k = now (or_cases (u == t) (has_number (decided_in whole tr) t) k)
      where
        now : ((u == t) ≡ true) ⊎ (has_number (decided_in whole tr) t ≡ true) → (here : Node) × (decides_at (decider_in whole t) here ≡ true) × (committed_at (Committed at u ∷ tr) here t ≡ true)
        now (inr k) = later (rest k)
        now (inl k) = (at, ap (λ j. decides_at (decider_in whole j) at) (sym (eqb-true u t k)) ∙ e, or_left _ _ (ap (λ b. b && (u == t)) (same_self at) ∙ k))

pub is_in_order : (whole tr : List Trace) (t : ℕ) (at : Node) → decides_at (decider_in whole t) at ≡ true → (before rest : List Trace) → tr ≡ before ++ Committed at t ∷ rest → has_number (decided_in whole tr) t ≡ true
is_in_order whole tr t at d before rest e =
    ap (λ k. has_number (decided_in whole k) t) e ∙ ap (λ k. has_number k t) (decided_more whole before (Committed at t ∷ rest)) ∙ ap (λ b. has_number (decided_in whole before ++ (if b then t ∷ decided_in whole rest else decided_in whole rest)) t) d
    ∙ late (decided_in whole before)
  where
    late : (xs : List ℕ) → has_number (xs ++ t ∷ decided_in whole rest) t ≡ true
    late [] = or_left (t == t) _ (eq-eqb t t refl)
    late (x ∷ xs) = or_right (x == t) _ (late xs)

-- a commit at a node stands somewhere in the trace
pub record Stands' (tr : List Trace) (x : Trace) : Type 0 where
  pub before : List Trace
  pub rest : List Trace
  pub place : tr ≡ before ++ x ∷ rest

pub committed_stands : (tr : List Trace) (at : Node) (t : ℕ) → committed_at tr at t ≡ true → Stands' tr (Committed at t)
committed_stands [] at t h = absurd (let z : false ≡ true = h in cc)
committed_stands (Began u by ∷ tr) at t h = let p = committed_stands tr at t h in record { before = Began u by ∷ p.before; rest = p.rest; place = ap (λ k. Began u by ∷ k) p.place }
committed_stands (Operated u m o reply ∷ tr) at t h = let p = committed_stands tr at t h in record { before = Operated u m o reply ∷ p.before; rest = p.rest; place = ap (λ k. Operated u m o reply ∷ k) p.place }
committed_stands (Committed here u ∷ tr) at t h = by (committed_stands tr at t) (or_cases _ _ h)
  where
    later : Stands' tr (Committed at t) → Stands' (Committed here u ∷ tr) (Committed at t)
    later p = record { before = Committed here u ∷ p.before; rest = p.rest; place = ap (λ z. Committed here u ∷ z) p.place }

    by : (committed_at tr at t ≡ true → Stands' tr (Committed at t)) → ((same_node here at && (u == t)) ≡ true) ⊎ (committed_at tr at t ≡ true) → Stands' (Committed here u ∷ tr) (Committed at t)
    by rest (inr k) = later (rest k)
    by rest (inl k) =
        let p = and_parts (same_node here at) (u == t) k in
        record { before = []; rest = tr; place = λ i. Committed (same_home here at p.0 i) (eqb-true u t p.1 i) ∷ tr }

-- which acts tell of a decision, and of an operation
abbrev is_committed : Trace → Bool
is_committed (Began u by) = false
is_committed (Operated u m o reply) = false
is_committed (Committed at u) = true

abbrev committed_node : Node → Trace → Node
committed_node d (Began u by) = d
committed_node d (Operated u m o reply) = d
committed_node d (Committed at u) = at

abbrev committed_txn : ℕ → Trace → ℕ
committed_txn d (Began u by) = d
committed_txn d (Operated u m o reply) = d
committed_txn d (Committed at u) = u

abbrev is_coord : Node → Bool
is_coord (node.Member m) = false
is_coord (node.Coord c) = true

abbrev node_number : Node → ℕ
node_number (node.Member m) = m
node_number (node.Coord c) = c

abbrev is_coord_commit : Trace → Bool
is_coord_commit x = is_coord (committed_node (node.Member 0) x)

pub decide_act : (s : Federation) (a : Act) (t c : ℕ) → act_trace s a ≡ Committed (node.Coord c) t ∷ [] → a ≡ Moves (Decide t c)
decide_act s Disarms t c e = not_empty _ _ e
decide_act s (Moves (Decide u d)) t c e =
    let same = same_head _ _ _ _ e in
    λ i. Moves (Decide (committed_txn 0 (same i)) (node_number (committed_node (node.Coord 0) (same i))))
decide_act s (Moves (Install u m)) t c e = absurd (let z : false ≡ true = ap is_coord_commit (same_head _ _ _ _ e) in cc)
decide_act s (Moves (CommitLocally u m)) t c e = absurd (let z : false ≡ true = ap is_coord_commit (same_head _ _ _ _ e) in cc)
decide_act s (Moves (Operate u m o)) t c e = absurd (let z : false ≡ true = ap is_committed (same_head _ _ _ _ e) in cc)
decide_act s (Moves (Begin u d)) t c e = absurd (let z : false ≡ true = ap is_committed (same_head _ _ _ _ e) in cc)
decide_act s (Moves (BeginLocal u k)) t c e = absurd (let z : false ≡ true = ap is_committed (same_head _ _ _ _ e) in cc)
decide_act s (Moves _) t c e = not_empty _ _ e

-- a member tells of its own decision as of an install
pub member_act : (s : Federation) (a : Act) (t m : ℕ) → act_trace s a ≡ Committed (node.Member m) t ∷ [] → (a ≡ Moves (CommitLocally t m)) ⊎ (a ≡ Moves (Install t m))
member_act s Disarms t m e = not_empty _ _ e
member_act s (Moves (CommitLocally u k)) t m e =
    let same = same_head _ _ _ _ e in
    inl (λ i. Moves (CommitLocally (committed_txn 0 (same i)) (node_number (committed_node (node.Coord 0) (same i)))))
member_act s (Moves (Install u k)) t m e =
    let same = same_head _ _ _ _ e in
    inr (λ i. Moves (Install (committed_txn 0 (same i)) (node_number (committed_node (node.Coord 0) (same i)))))
member_act s (Moves (Decide u d)) t m e = absurd (let z : true ≡ false = ap is_coord_commit (same_head _ _ _ _ e) in cc)
member_act s (Moves (Operate u k o)) t m e = absurd (let z : false ≡ true = ap is_committed (same_head _ _ _ _ e) in cc)
member_act s (Moves (Begin u d)) t m e = absurd (let z : false ≡ true = ap is_committed (same_head _ _ _ _ e) in cc)
member_act s (Moves (BeginLocal u k)) t m e = absurd (let z : false ≡ true = ap is_committed (same_head _ _ _ _ e) in cc)
member_act s (Moves _) t m e = not_empty _ _ e

abbrev is_operated : Trace → Bool
is_operated (Began u by) = false
is_operated (Operated u m o reply) = true
is_operated (Committed at u) = false

abbrev operated_parts : ℕ × ℕ × Op → Trace → ℕ × ℕ × Op
operated_parts d (Began u by) = d
operated_parts d (Operated u m o reply) = (u, m, o)
operated_parts d (Committed at u) = d

pub operate_act : (s : Federation) (a : Act) (t m : ℕ) (o : Op) (reply : Reply) → act_trace s a ≡ Operated t m o reply ∷ [] → a ≡ Moves (Operate t m o)
operate_act s Disarms t m o reply e = not_empty _ _ e
operate_act s (Moves (Operate u n x)) t m o reply e =
    let same = ap (operated_parts (t, m, o)) (same_head _ _ _ _ e) in
    λ i. Moves (Operate (same i).0 (same i).1 (same i).2)
operate_act s (Moves (Decide u d)) t m o reply e = absurd (let z : false ≡ true = ap is_operated (same_head _ _ _ _ e) in cc)
operate_act s (Moves (Install u k)) t m o reply e = absurd (let z : false ≡ true = ap is_operated (same_head _ _ _ _ e) in cc)
operate_act s (Moves (CommitLocally u k)) t m o reply e = absurd (let z : false ≡ true = ap is_operated (same_head _ _ _ _ e) in cc)
operate_act s (Moves (Begin u d)) t m o reply e = absurd (let z : false ≡ true = ap is_operated (same_head _ _ _ _ e) in cc)
operate_act s (Moves (BeginLocal u k)) t m o reply e = absurd (let z : false ≡ true = ap is_operated (same_head _ _ _ _ e) in cc)
operate_act s (Moves _) t m o reply e = not_empty _ _ e

-- two places of one list
pub data Places {A : Type 0} (f : List A) (a : A) (g : List A) (x : A) : Type 0 where
  Same : a ≡ x → Places f a g x
  First : (mid : List A) → g ≡ f ++ a ∷ mid → Places f a g x
  Second : (mid : List A) → f ≡ g ++ x ∷ mid → Places f a g x

pub places : {A : Type 0} (f : List A) (a : A) (b g : List A) (x : A) (d : List A) → f ++ a ∷ b ≡ g ++ x ∷ d → Places f a g x
places [] a b [] x d e = Same (same_head a x b d e)
places [] a b (y ∷ g) x d e = First g (λ i. same_head y a (g ++ x ∷ d) b (sym e) i ∷ g)
places (z ∷ f) a b [] x d e = Second f (λ i. same_head z x (f ++ a ∷ b) d e i ∷ f)
places (z ∷ f) a b (y ∷ g) x d e = by (places f a b g x d (same_tail z y (f ++ a ∷ b) (g ++ x ∷ d) e))
  where
    same : z ≡ y
    same = same_head z y (f ++ a ∷ b) (g ++ x ∷ d) e

    by : Places f a g x → Places (z ∷ f) a (y ∷ g) x
    by (Same k) = Same k
    by (First mid k) = First mid (λ i. sym same i ∷ k i)
    by (Second mid k) = Second mid (λ i. same i ∷ k i)

-- the part before the first operation is a front of the acts
pub record FirstAt (acts : List Act) (s : Federation) (m t : ℕ) : Type 0 where
  pub front : List Act
  pub op : Op
  pub back : List Act
  pub whole : acts ≡ front ++ Moves (Operate t m op) ∷ back
  pub first : before_first (acts_trace acts s) m t ≡ acts_trace front s

abbrev FirstOr : ℕ → ℕ → List Act → Federation → Type 0
FirstOr m t acts s = (before_first (acts_trace acts s) m t ≡ acts_trace acts s) ⊎ FirstAt acts s m t

pub first_at : (acts : List Act) (s : Federation) (m t : ℕ) → FirstOr m t acts s
first_at [] s m t = inl refl
first_at (a ∷ acts) s m t = by a (first_at acts (after_act s a) m t)
  where
    quiet : (a : Act) → ((tr : List Trace) → before_first (act_trace s a ++ tr) m t ≡ act_trace s a ++ before_first tr m t) → FirstOr m t acts (after_act s a) → FirstOr m t (a ∷ acts) s
    quiet a q (inl e) = inl (q (acts_trace acts (after_act s a)) ∙ ap (λ k. act_trace s a ++ k) e)
    quiet a q (inr p) =
        inr (record { front = a ∷ p.front; op = p.op; back = p.back; whole = ap (λ k. a ∷ k) p.whole; first = q (acts_trace acts (after_act s a)) ∙ ap (λ k. act_trace s a ++ k) p.first })

    operates : (u n : ℕ) (o : Op) (b : Bool) → ((u == t) && (n == m)) ≡ b → FirstOr m t acts (after_act s (Moves (Operate u n o))) → FirstOr m t (Moves (Operate u n o) ∷ acts) s
    operates u n o true k r =
        let p = and_parts (u == t) (n == m) k in
        let x = Operated u n o (operation_reply (s.member n).engine u o) in
        inr (record {
          front = [];
          op = o;
          back = acts;
          whole = λ i. Moves (Operate (eqb-true u t p.0 i) (eqb-true n m p.1 i) o) ∷ acts;
          first = ap (λ b. if b then [] else x ∷ before_first (acts_trace acts (after_act s (Moves (Operate u n o)))) m t) k;
        })
    operates u n o false k (inl e) =
        let x = Operated u n o (operation_reply (s.member n).engine u o) in
        inl (ap (λ b. if b then [] else x ∷ before_first (acts_trace acts (after_act s (Moves (Operate u n o)))) m t) k ∙ ap (λ z. x ∷ z) e)
    operates u n o false k (inr p) =
        let x = Operated u n o (operation_reply (s.member n).engine u o) in
        inr (record {
          front = Moves (Operate u n o) ∷ p.front;
          op = p.op;
          back = p.back;
          whole = ap (λ z. Moves (Operate u n o) ∷ z) p.whole;
          first = ap (λ b. if b then [] else x ∷ before_first (acts_trace acts (after_act s (Moves (Operate u n o)))) m t) k ∙ ap (λ z. x ∷ z) p.first;
        })

    by : (a : Act) → FirstOr m t acts (after_act s a) → FirstOr m t (a ∷ acts) s
    by (Moves (Operate u n o)) r = operates u n o ((u == t) && (n == m)) refl r
    by (Moves (Install u k)) r = quiet (Moves (Install u k)) (λ tr. refl) r
    by (Moves (CommitLocally u k)) r = quiet (Moves (CommitLocally u k)) (λ tr. refl) r
    by (Moves (Begin u c)) r = quiet (Moves (Begin u c)) (λ tr. refl) r
    by (Moves (Decide u c)) r = quiet (Moves (Decide u c)) (λ tr. refl) r
    by Disarms r = quiet Disarms (λ tr. refl) r
    by (Moves (MarkAsked u k c n)) r = quiet (Moves (MarkAsked u k c n)) (λ tr. refl) r
    by (Moves (Cast u k c n)) r = quiet (Moves (Cast u k c n)) (λ tr. refl) r
    by (Moves (DropActive u k)) r = quiet (Moves (DropActive u k)) (λ tr. refl) r
    by (Moves (DropVoted u k)) r = quiet (Moves (DropVoted u k)) (λ tr. refl) r
    by (Moves (CrashMember k)) r = quiet (Moves (CrashMember k)) (λ tr. refl) r
    by (Moves (RestartMember k)) r = quiet (Moves (RestartMember k)) (λ tr. refl) r
    by (Moves (ArmMember k stop)) r = quiet (Moves (ArmMember k stop)) (λ tr. refl) r
    by (Moves (CloseMemberSpare k closed)) r = quiet (Moves (CloseMemberSpare k closed)) (λ tr. refl) r
    by (Moves (FillMemberSpare k)) r = quiet (Moves (FillMemberSpare k)) (λ tr. refl) r
    by (Moves (Collect u c)) r = quiet (Moves (Collect u c)) (λ tr. refl) r
    by (Moves (RecordYes u c k)) r = quiet (Moves (RecordYes u c k)) (λ tr. refl) r
    by (Moves (Leave u c)) r = quiet (Moves (Leave u c)) (λ tr. refl) r
    by (Moves (RecordAck u c k)) r = quiet (Moves (RecordAck u c k)) (λ tr. refl) r
    by (Moves (End u c)) r = quiet (Moves (End u c)) (λ tr. refl) r
    by (Moves (CrashCoord c)) r = quiet (Moves (CrashCoord c)) (λ tr. refl) r
    by (Moves (RestartCoord c)) r = quiet (Moves (RestartCoord c)) (λ tr. refl) r
    by (Moves (ArmCoord c stop)) r = quiet (Moves (ArmCoord c stop)) (λ tr. refl) r
    by (Moves (CloseCoordSpare c closed)) r = quiet (Moves (CloseCoordSpare c closed)) (λ tr. refl) r
    by (Moves (FillCoordSpare c)) r = quiet (Moves (FillCoordSpare c)) (λ tr. refl) r
    by (Moves (BeginLocal u k)) r = quiet (Moves (BeginLocal u k)) (λ tr. refl) r
    by (Moves (AskEnd u)) r = quiet (Moves (AskEnd u)) (λ tr. refl) r
    by (Moves (Send note)) r = quiet (Moves (Send note)) (λ tr. refl) r

-- who is installed before the first operation is installed before
pub first_installs : (tr : List Trace) (m t k u : ℕ) → installs (before_first tr m t) k u ≡ true → installs tr k u ≡ true
first_installs [] m t k u h = h
first_installs (Began v by ∷ tr) m t k u h = first_installs tr m t k u h
first_installs (Committed at v ∷ tr) m t k u h = by (first_installs tr m t k u) (or_cases _ _ h)
  where
    by : (installs (before_first tr m t) k u ≡ true → installs tr k u ≡ true) → ((same_node at (node.Member k) && (v == u)) ≡ true) ⊎ (installs (before_first tr m t) k u ≡ true) →
        (same_node at (node.Member k) && (v == u) || installs tr k u) ≡ true
    by rest (inl q) = or_left _ _ q
    by rest (inr q) = or_right _ _ (rest q)
first_installs (Operated v n o reply ∷ tr) m t k u h = by (first_installs tr m t k u) ((v == t) && (n == m)) h
  where
    by : (installs (before_first tr m t) k u ≡ true → installs tr k u ≡ true) → (b : Bool) → installs (if b then [] else Operated v n o reply ∷ before_first tr m t) k u ≡ true → installs tr k u ≡ true
    by rest true q = absurd (let z : false ≡ true = q in cc)
    by rest false q = rest q
