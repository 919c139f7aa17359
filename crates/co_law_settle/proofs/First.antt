-- Where something is open, settling has a next turn: the first node that is down, the first exchange that can help, or the
-- first timer.
use Rattle.std.proofs.Common.{◌≡◌, ◌⊎◌, inl, inr, ℕ, zero, suc, Bool, true, false, not, ◌||◌, ◌==◌, ◌≤◌, ◌<◌, nat_le, List, [], ◌∷◌, length, Option, None, Some, refl, sym, ap, ◌∙◌, subst, arith}
use Rattle.std.specs.Option.{is_some}
use Rattle.std.proofs.lemmas.Bool.{or_left, or_right, or_cases, and_parts, eqb-true, eqb-false}
use Rattle.std.proofs.lemmas.Bool.Decides.{nat_tests}
use Rattle.co_base.specs.declared.node.Node.{Node}
use Rattle.co_base.specs.declared.node.Node.TheVariants as node
use Rattle.co_state.specs.Table.{look, holds}
use Rattle.co_plain.specs.declared.coord_state.Entry.{Entry}
use Rattle.co_plain.specs.Numbers.{has_number}
use Rattle.co_plain.specs.Federation.{Federation}
use Rattle.co_plain.specs.Invariants.{Memory, view}
use Rattle.co_plain.specs.Quiet.{IsMember, IsNode, node_up, IsOpen, InTable, ActiveAt, VotedAt, IsQuiet, Exchange, Prepares, Votes, Commits, Asks, IsEnabled, prepare_helps, vote_helps, commit_helps, ask_helps, lacks_yes, lacks_ack}
use Rattle.co_plain.specs.Settling.{NodeBefore, IsFirstDown, IsFirstExchange, IsFirstTimer, ExchangeBefore, exchange_txn, exchange_rank, exchange_member, timer_ends, is_idle, SettlesBy, ByRestart, ByExchange, ByTimer}
use Rattle.co_law_base.proofs.Facts.{Facts}
use Rattle.co_law_base.proofs.Carrying.{votes_held}
use Rattle.co_law_runs.proofs.Fitting.{FitSessions}
use Rattle.co_law_runs.proofs.InQuiet.{OpenedFit, TimerThere, timer_there}
use Rattle.co_law_settle.specs.SettlingTurns.{AllUp}
use Rattle.co_law_settle.specs.SettlingMeasure.{any_to, numbers_in_state}
use Rattle.co_law_settle.proofs.Falling.{any_found, found_any}
use Rattle.co_law_settle.proofs.OpenSets.{open_counted}

-- the least number from 1 to some that passes
abbrev pub Least : ℕ → (ℕ → Bool) → Type 0
Least n p = (m : ℕ) × (1 ≤ m) × (m ≤ n) × (p m ≡ true) × ((j : ℕ) → 1 ≤ j → j < m → p j ≡ false)

abbrev pub NoneTo : ℕ → (ℕ → Bool) → Type 0
NoneTo n p = (j : ℕ) → 1 ≤ j → j ≤ n → p j ≡ false

pub least_to : (n : ℕ) (p : ℕ → Bool) → Least n p ⊎ NoneTo n p
least_to zero p = inr (λ j l u. absurd (omega (arith, l, u)))
least_to (suc n) p = by (least_to n p) (p (suc n)) refl
  where
    by : Least n p ⊎ NoneTo n p → (b : Bool) → p (suc n) ≡ b → Least (suc n) p ⊎ NoneTo (suc n) p
    by (inl r) b e = let u = r.2 in inl (r.0, r.1, omega (arith, u), r.3, r.4)
    by (inr h) true e = inl (suc n, omega arith, omega arith, e, λ j l u. h j l (omega (arith, u)))
    by (inr h) false e = inr (λ j l u. here j l u (j == suc n) refl)
      where
        here : (j : ℕ) → 1 ≤ j → j ≤ suc n → (b : Bool) → (j == suc n) ≡ b → p j ≡ false
        here j l u true q = ap p (eqb-true j (suc n) q) ∙ e
        here j l u false q = let d = eqb-false j (suc n) q in h j l (omega (arith, u, d))

-- the least of a list that passes
abbrev pub LeastIn : List ℕ → (ℕ → Bool) → Type 0
LeastIn ks p = (t : ℕ) × (p t ≡ true) × ((u : ℕ) → has_number ks u ≡ true → p u ≡ true → t ≤ u)

abbrev pub NoneIn : List ℕ → (ℕ → Bool) → Type 0
NoneIn ks p = (u : ℕ) → has_number ks u ≡ true → p u ≡ false

pub least_in : (ks : List ℕ) (p : ℕ → Bool) → LeastIn ks p ⊎ NoneIn ks p
least_in [] p = inr (λ u h. absurd (let z : false ≡ true = h in cc))
least_in (k ∷ ks) p = by (least_in ks p) (p k) refl
  where
    among : (P : ℕ → Type 0) → P k → ((u : ℕ) → has_number ks u ≡ true → P u) → (u : ℕ) → has_number (k ∷ ks) u ≡ true → P u
    among P own rest u h = now (or_cases (k == u) (has_number ks u) h)
      where
        now : ((k == u) ≡ true) ⊎ (has_number ks u ≡ true) → P u
        now (inl e) = subst P (eqb-true k u e) own
        now (inr e) = rest u e

    by : LeastIn ks p ⊎ NoneIn ks p → (b : Bool) → p k ≡ b → LeastIn (k ∷ ks) p ⊎ NoneIn (k ∷ ks) p
    by (inr h) true e = inl (k, e, among (λ u. p u ≡ true → k ≤ u) (λ q. omega arith) (λ u g q. absurd (let z : true ≡ false = sym q ∙ h u g in cc)))
    by (inr h) false e = inr (among (λ u. p u ≡ false) e h)
    by (inl r) false e = inl (r.0, r.1, among (λ u. p u ≡ true → r.0 ≤ u) (λ q. absurd (let z : true ≡ false = sym q ∙ e in cc)) r.2)
    by (inl r) true e = lesser (nat_le k r.0) refl
      where
        lesser : (b : Bool) → nat_le k r.0 ≡ b → LeastIn (k ∷ ks) p ⊎ NoneIn (k ∷ ks) p
        lesser true q =
            let le : k ≤ r.0 = grind (arith, nat_tests, q) in
            inl (k, e, among (λ u. p u ≡ true → k ≤ u) (λ z. omega arith) (λ u g z. let a = r.2 u g z in omega (arith, le, a)))
        lesser false q =
            let le : r.0 ≤ k = grind (arith, nat_tests, q) in
            inl (r.0, r.1, among (λ u. p u ≡ true → r.0 ≤ u) (λ z. le) r.2)

not_up : (b : Bool) → not b ≡ true → b ≡ false
not_up true h = absurd (let z : false ≡ true = h in cc)
not_up false h = refl

is_up : (b : Bool) → not b ≡ false → b ≡ true
is_up true h = refl
is_up false h = absurd (let z : true ≡ false = h in cc)

-- the first node that is down, if there is one
pub first_down : (s : Federation) → ((at : Node) × IsFirstDown s at) ⊎ AllUp s
first_down s = members (least_to (length s.kinds) (λ m. not (s.member m).up))
  where
    up_before : (m : ℕ) → IsMember s m → ((j : ℕ) → 1 ≤ j → j < m → not (s.member j).up ≡ false) → (other : Node) → IsNode s other → NodeBefore other (node.Member m) → node_up s other ≡ true
    up_before m i h (node.Member j) k b = is_up (s.member j).up (h j k.0 b)
    up_before m i h (node.Coord c) k b = absurd b

    up_before_coord : NoneTo (length s.kinds) (λ m. not (s.member m).up) → (c : ℕ) → ((j : ℕ) → 1 ≤ j → j < c → not (s.coord j).up ≡ false) → (other : Node) → IsNode s other →
        NodeBefore other (node.Coord c) → node_up s other ≡ true
    up_before_coord none c h (node.Member j) k b = is_up (s.member j).up (none j k.0 k.1)
    up_before_coord none c h (node.Coord d) k b = is_up (s.coord d).up (h d k.0 b)

    all_up : NoneTo (length s.kinds) (λ m. not (s.member m).up) → NoneTo s.coordinators (λ c. not (s.coord c).up) → AllUp s
    all_up none nothing (node.Member j) k = is_up (s.member j).up (none j k.0 k.1)
    all_up none nothing (node.Coord d) k = is_up (s.coord d).up (nothing d k.0 k.1)

    coords : NoneTo (length s.kinds) (λ m. not (s.member m).up) → Least s.coordinators (λ c. not (s.coord c).up) ⊎ NoneTo s.coordinators (λ c. not (s.coord c).up) → ((at : Node) × IsFirstDown s at) ⊎ AllUp s
    coords none (inl r) = inl (node.Coord r.0, record { is_node = (r.1, r.2); down = not_up (s.coord r.0).up r.3; others = up_before_coord none r.0 r.4 })
    coords none (inr h) = inr (all_up none h)

    members : Least (length s.kinds) (λ m. not (s.member m).up) ⊎ NoneTo (length s.kinds) (λ m. not (s.member m).up) → ((at : Node) × IsFirstDown s at) ⊎ AllUp s
    members (inl r) = inl (node.Member r.0, record { is_node = (r.1, r.2); down = not_up (s.member r.0).up r.3; others = up_before r.0 (r.1, r.2) r.4 })
    members (inr h) = coords h (least_to s.coordinators (λ c. not (s.coord c).up))

-- whether an exchange of a kind helps a transaction at a member; the kinds are counted from 1
module _ (s : Federation) where
  abbrev kind_helps : ℕ → ℕ → ℕ → Bool
  kind_helps zero t m = false
  kind_helps (suc zero) t m = any_to s.coordinators (prepare_helps s t m)
  kind_helps (suc (suc zero)) t m = vote_helps s t m
  kind_helps (suc (suc (suc zero))) t m = any_to s.coordinators (commit_helps s t m)
  kind_helps (suc (suc (suc (suc zero)))) t m = any_to s.coordinators (ask_helps s t m)
  kind_helps (suc (suc (suc (suc (suc r))))) t m = false

  abbrev some_kind : ℕ → ℕ → Bool
  some_kind t r = any_to (length s.kinds) (kind_helps r t)

  abbrev helps : ℕ → Bool
  helps t = any_to 4 (some_kind t)

  enabled_kind : (e : Exchange) → IsEnabled s e → (kind_helps (suc (exchange_rank e)) (exchange_txn e) (exchange_member e) ≡ true) × IsMember s (exchange_member e)
  enabled_kind (Prepares t m c) h = (found_any s.coordinators (prepare_helps s t m) c h.1.0 h.1.1 h.2, h.0)
  enabled_kind (Votes t m) h = (h.1, h.0)
  enabled_kind (Commits t m c) h = (found_any s.coordinators (commit_helps s t m) c h.1.0 h.1.1 h.2, h.0)
  enabled_kind (Asks t m c) h = (found_any s.coordinators (ask_helps s t m) c h.1.0 h.1.1 h.2, h.0)

  rank_most : (e : Exchange) → exchange_rank e < 4
  rank_most (Prepares t m c) = omega arith
  rank_most (Votes t m) = omega arith
  rank_most (Commits t m c) = omega arith
  rank_most (Asks t m c) = omega arith

  enabled_some : (e : Exchange) → IsEnabled s e → some_kind (exchange_txn e) (suc (exchange_rank e)) ≡ true
  enabled_some e h =
      let k = enabled_kind e h in found_any (length s.kinds) (kind_helps (suc (exchange_rank e)) (exchange_txn e)) (exchange_member e) k.1.0 k.1.1 k.0

  enabled_helps : (e : Exchange) → IsEnabled s e → helps (exchange_txn e) ≡ true
  enabled_helps e h = let r = rank_most e in found_any 4 (some_kind (exchange_txn e)) (suc (exchange_rank e)) (omega arith) (omega (arith, r)) (enabled_some e h)

  record OfKind (r t m : ℕ) : Type 0 where
    exchange : Exchange
    enabled : IsEnabled s exchange
    txn : exchange_txn exchange ≡ t
    rank : suc (exchange_rank exchange) ≡ r
    member : exchange_member exchange ≡ m

  of_kind : (r t m : ℕ) → IsMember s m → kind_helps r t m ≡ true → OfKind r t m
  of_kind zero t m i h = absurd (let z : false ≡ true = h in cc)
  of_kind (suc zero) t m i h =
      let c = any_found s.coordinators (prepare_helps s t m) h in
      record { exchange = Prepares t m c.0; enabled = (i, (c.1, c.2), c.3); txn = refl; rank = refl; member = refl }
  of_kind (suc (suc zero)) t m i h = record { exchange = Votes t m; enabled = (i, h); txn = refl; rank = refl; member = refl }
  of_kind (suc (suc (suc zero))) t m i h =
      let c = any_found s.coordinators (commit_helps s t m) h in
      record { exchange = Commits t m c.0; enabled = (i, (c.1, c.2), c.3); txn = refl; rank = refl; member = refl }
  of_kind (suc (suc (suc (suc zero)))) t m i h =
      let c = any_found s.coordinators (ask_helps s t m) h in
      record { exchange = Asks t m c.0; enabled = (i, (c.1, c.2), c.3); txn = refl; rank = refl; member = refl }
  of_kind (suc (suc (suc (suc (suc r))))) t m i h = absurd (let z : false ≡ true = h in cc)

  held_here : (o : Option Entry) (test : Option Entry → Bool) → test None ≡ false → test o ≡ true → is_some o ≡ true
  held_here None test n h = absurd (let z : true ≡ false = sym h ∙ n in cc)
  held_here (Some x) test n h = refl

  -- an exchange that can help is of an open transaction
  enabled_open : (e : Exchange) → IsEnabled s e → IsOpen s (exchange_txn e)
  enabled_open (Prepares t m c) h = InTable c h.1 (held_here (look (s.coord c).table t) (λ o. lacks_yes o m) refl (and_parts _ _ h.2).0)
  enabled_open (Votes t m) h = ActiveAt m h.0 (and_parts _ _ h.1).0
  enabled_open (Commits t m c) h = InTable c h.1 (held_here (look (s.coord c).table t) (λ o. lacks_ack o m) refl h.2)
  enabled_open (Asks t m c) h = VotedAt m h.0 (votes_held (view Memory (s.member m)) t c (and_parts _ _ h.2).0)

  pub first_exchange : ((e : Exchange) × IsFirstExchange s e) ⊎ ((e : Exchange) → ¬ (IsEnabled s e))
  first_exchange = by (least_in (numbers_in_state s) helps)
    where
      kinds : (t : ℕ) → helps t ≡ true → Least 4 (some_kind t)
      kinds t h = now (least_to 4 (some_kind t))
        where
          now : Least 4 (some_kind t) ⊎ NoneTo 4 (some_kind t) → Least 4 (some_kind t)
          now (inl r) = r
          now (inr none) = let f = any_found 4 (some_kind t) h in absurd (let z : true ≡ false = sym f.3 ∙ none f.0 f.1 f.2 in cc)

      members : (t r : ℕ) → some_kind t r ≡ true → Least (length s.kinds) (kind_helps r t)
      members t r h = now (least_to (length s.kinds) (kind_helps r t))
        where
          now : Least (length s.kinds) (kind_helps r t) ⊎ NoneTo (length s.kinds) (kind_helps r t) → Least (length s.kinds) (kind_helps r t)
          now (inl l) = l
          now (inr none) = let f = any_found (length s.kinds) (kind_helps r t) h in absurd (let z : true ≡ false = sym f.3 ∙ none f.0 f.1 f.2 in cc)

      by : LeastIn (numbers_in_state s) helps ⊎ NoneIn (numbers_in_state s) helps → ((e : Exchange) × IsFirstExchange s e) ⊎ ((e : Exchange) → ¬ (IsEnabled s e))
      by (inr none) = inr (λ e h. let z : true ≡ false = sym (enabled_helps e h) ∙ none (exchange_txn e) (open_counted s (exchange_txn e) (enabled_open e h)) in cc)
      by (inl first) = inl (found.exchange, record { enabled = found.enabled; others = others })
        where
          kind : Least 4 (some_kind first.0)
          kind = kinds first.0 first.1

          member : Least (length s.kinds) (kind_helps kind.0 first.0)
          member = members first.0 kind.0 kind.3

          found : OfKind kind.0 first.0 member.0
          found = of_kind kind.0 first.0 member.0 (member.1, member.2) member.3

          others : (other : Exchange) → ExchangeBefore other found.exchange → ¬ (IsEnabled s other)
          others other (inl less) h =
              let least = first.2 (exchange_txn other) (open_counted s (exchange_txn other) (enabled_open other h)) (enabled_helps other h) in
              let t = found.txn in
              absurd (omega (arith, less, least, t))
          others other (inr (same, inl less)) h =
              let r = found.rank in
              let here : some_kind first.0 (suc (exchange_rank other)) ≡ true = subst (λ u. some_kind u (suc (exchange_rank other)) ≡ true) (same ∙ found.txn) (enabled_some other h) in
              let z : true ≡ false = sym here ∙ kind.4 (suc (exchange_rank other)) (omega arith) (omega (arith, less, r)) in cc
          others other (inr (same, inr (rank, less))) h =
              let k = enabled_kind other h in
              let m = found.member in
              let here : kind_helps kind.0 first.0 (exchange_member other) ≡ true = subst (λ r. kind_helps r first.0 (exchange_member other) ≡ true) (ap suc rank ∙ found.rank)
              (subst (λ u. kind_helps (suc (exchange_rank other)) u (exchange_member other) ≡ true) (same ∙ found.txn) k.0) in
              let z : true ≡ false = sym here ∙ member.4 (exchange_member other) k.1.0 (omega (arith, less, m)) in cc

  -- a timer ends the transaction somewhere
  abbrev idle_at : ℕ → ℕ → Bool
  idle_at t c = is_idle (look (s.coord c).table t)

  abbrev active_at : ℕ → ℕ → Bool
  active_at t m = holds (s.member m).engine.active t

  abbrev timed : ℕ → Bool
  timed t = any_to s.coordinators (idle_at t) || any_to (length s.kinds) (active_at t)

  ends_timed : (t : ℕ) (at : Node) → IsNode s at → timer_ends s t at ≡ true → timed t ≡ true
  ends_timed t (node.Member m) i h = or_right (any_to s.coordinators (idle_at t)) (any_to (length s.kinds) (active_at t)) (found_any (length s.kinds) (active_at t) m i.0 i.1 h)
  ends_timed t (node.Coord c) i h = or_left (any_to s.coordinators (idle_at t)) (any_to (length s.kinds) (active_at t)) (found_any s.coordinators (idle_at t) c i.0 i.1 h)

  ends_open : (t : ℕ) (at : Node) → IsNode s at → timer_ends s t at ≡ true → IsOpen s t
  ends_open t (node.Member m) i h = ActiveAt m i h
  ends_open t (node.Coord c) i h = InTable c i (held_here (look (s.coord c).table t) is_idle refl h)

  pub first_timer : TimerThere s → (t : ℕ) × (at : Node) × IsFirstTimer s t at
  first_timer there = by (least_in (numbers_in_state s) timed)
    where
      counted : (t : ℕ) (at : Node) → IsNode s at → timer_ends s t at ≡ true → has_number (numbers_in_state s) t ≡ true
      counted t at i h = open_counted s t (ends_open t at i h)

      by : LeastIn (numbers_in_state s) timed ⊎ NoneIn (numbers_in_state s) timed → (t : ℕ) × (at : Node) × IsFirstTimer s t at
      by (inr none) =
          absurd (let z : true ≡ false = sym (ends_timed there.txn there.at there.is_node there.ends) ∙ none there.txn (counted there.txn there.at there.is_node there.ends) in cc)
      by (inl first) = idle (least_to s.coordinators (idle_at first.0))
        where
          least : (u : ℕ) (other : Node) → IsNode s other → timer_ends s u other ≡ true → first.0 ≤ u
          least u other i h = first.2 u (counted u other i h) (ends_timed u other i h)

          active : NoneTo s.coordinators (idle_at first.0) → Least (length s.kinds) (active_at first.0) ⊎ NoneTo (length s.kinds) (active_at first.0) →
              (t : ℕ) × (at : Node) × IsFirstTimer s t at
          active none (inl r) = (
            first.0,
            node.Member r.0,
            record {
              is_node = (r.1, r.2);
              ends = r.3;
              least = least;
              idle_first = λ m e c i. none c i.0 i.1;
              least_member = λ m n e i h. not_before m n e i h;
            },
          )
            where
              not_before : (m n : ℕ) → node.Member r.0 ≡ node.Member m → IsMember s n → holds (s.member n).engine.active first.0 ≡ true → m ≤ n
              not_before m n e i h = now (nat_le m n) refl
                where
                  same : r.0 ≡ m
                  same = let z : node.Member r.0 ≡ node.Member m = e in cc

                  now : (b : Bool) → nat_le m n ≡ b → m ≤ n
                  now true q = grind (arith, nat_tests, q)
                  now false q =
                      let le : n < m = grind (arith, nat_tests, q) in
                      let is = same in
                      absurd (let z : true ≡ false = sym h ∙ r.4 n i.0 (omega (arith, le, is)) in cc)
          active none (inr nothing) = absurd (now (or_cases (any_to s.coordinators (idle_at first.0)) (any_to (length s.kinds) (active_at first.0)) first.1))
            where
              now : (any_to s.coordinators (idle_at first.0) ≡ true) ⊎ (any_to (length s.kinds) (active_at first.0) ≡ true) → ⊥
              now (inl h) = let f = any_found s.coordinators (idle_at first.0) h in let z : true ≡ false = sym f.3 ∙ none f.0 f.1 f.2 in cc
              now (inr h) = let f = any_found (length s.kinds) (active_at first.0) h in let z : true ≡ false = sym f.3 ∙ nothing f.0 f.1 f.2 in cc

          idle : Least s.coordinators (idle_at first.0) ⊎ NoneTo s.coordinators (idle_at first.0) → (t : ℕ) × (at : Node) × IsFirstTimer s t at
          idle (inl r) = (
            first.0,
            node.Coord r.0,
            record {
              is_node = (r.1, r.2);
              ends = r.3;
              least = least;
              idle_first = λ m e c i. absurd (let z : node.Coord r.0 ≡ node.Member m = e in cc);
              least_member = λ m n e i h. absurd (let z : node.Coord r.0 ≡ node.Member m = e in cc);
            },
          )
          idle (inr none) = active none (least_to (length s.kinds) (active_at first.0))

-- the next turn
pub settles_by : (s : Federation) → Facts s → FitSessions (length s.kinds) s.coordinators s.sessions → OpenedFit s → (t : ℕ) → IsOpen s t → SettlesBy s
settles_by s f q o t open' = down (first_down s)
  where
    helps' : AllUp s → ((e : Exchange) × IsFirstExchange s e) ⊎ ((e : Exchange) → ¬ (IsEnabled s e)) → SettlesBy s
    helps' up (inl e) = ByExchange e.0 up e.1
    helps' up (inr none) =
        let quiet : IsQuiet s = record { all_up = up; nothing_helps = none } in
        let timer = first_timer s (timer_there s f q o quiet t open') in
        ByTimer timer.0 timer.1 quiet timer.2

    down : ((at : Node) × IsFirstDown s at) ⊎ AllUp s → SettlesBy s
    down (inl d) = ByRestart d.0 d.1
    down (inr up) = helps' up (first_exchange s)
