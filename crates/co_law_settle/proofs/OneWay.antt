-- A state calls for one turn alone, and so there is one way to settle.
use Rattle.std.proofs.Common.{◌≡◌, ◌≢◌, inl, inr, ℕ, Bool, true, false, ◌==◌, ◌≤◌, ◌<◌, nat_le, List, [], ◌∷◌, Option, None, Some, refl, sym, ap, ◌∙◌, subst, arith}
use Rattle.std.proofs.lemmas.Bool.{and_parts, eqb-true, eqb-false}
use Rattle.std.proofs.lemmas.Bool.Decides.{nat_tests}
use Rattle.co_base.specs.declared.node.Node.{Node}
use Rattle.co_base.specs.declared.node.Node.TheVariants as node
use Rattle.co_state.specs.declared.engine_state.Vote.{Vote}
use Rattle.co_state.specs.Table.{look}
use Rattle.co_plain.specs.declared.coord_state.Entry.{Entry}
use Rattle.co_plain.specs.Decisions.{votes_for}
use Rattle.co_plain.specs.Federation.{Federation}
use Rattle.co_plain.specs.Runs.{run, lines}
use Rattle.co_plain.specs.Quiet.{node_up, Exchange, Prepares, Votes, Commits, Asks, IsEnabled, lacks_yes, lacks_ack}
use Rattle.co_plain.specs.Settling.{IsFirstDown, IsFirstExchange, IsFirstTimer, exchange_txn, exchange_rank, exchange_member, is_idle, SettlesBy, ByRestart, ByExchange, ByTimer}
use Rattle.co_law_base.proofs.Facts.{Facts}
use Rattle.co_law_settle.specs.SettlingTurns.{Turn, Restarts, Exchanges, Fires, turn_events, after_turn, turn_of, AreTurns, turns_events, NothingOpen}
use Rattle.co_law_settle.proofs.Falling.{Calm}
use Rattle.co_law_settle.proofs.Homes.{in_table, one_home}
use Rattle.co_law_settle.proofs.Turns.{next_done, run_more}

same_number : (a b : ℕ) → (a < b → ⊥) → (b < a → ⊥) → a ≡ b
same_number a b p q = by (a == b) refl
  where
    other : a ≢ b → (c : Bool) → nat_le a b ≡ c → ⊥
    other d true e = let l : a ≤ b = grind (arith, nat_tests, e) in p (omega (arith, l, d))
    other d false e = let l : b < a = grind (arith, nat_tests, e) in q l

    by : (c : Bool) → (a == b) ≡ c → a ≡ b
    by true e = eqb-true a b e
    by false e = absurd (other (eqb-false a b e) (nat_le a b) refl)

module _ (s : Federation) where
  not_down : (at : Node) → node_up s at ≡ true → node_up s at ≡ false → ⊥
  not_down at u d = let z : true ≡ false = sym u ∙ d in cc

  one_down : (a b : Node) → IsFirstDown s a → IsFirstDown s b → a ≡ b
  one_down (node.Member m) (node.Member n) f g =
      ap node.Member (same_number m n (λ l. not_down (node.Member m) (g.others (node.Member m) f.is_node l) f.down) (λ l. not_down (node.Member n) (f.others (node.Member n) g.is_node l) g.down))
  one_down (node.Member m) (node.Coord c) f g = absurd (not_down (node.Member m) (g.others (node.Member m) f.is_node tt) f.down)
  one_down (node.Coord c) (node.Member n) f g = absurd (not_down (node.Member n) (f.others (node.Member n) g.is_node tt) g.down)
  one_down (node.Coord c) (node.Coord d) f g =
      ap node.Coord (same_number c d (λ l. not_down (node.Coord c) (g.others (node.Coord c) f.is_node l) f.down) (λ l. not_down (node.Coord d) (f.others (node.Coord d) g.is_node l) g.down))

  held : (test : Option Entry → Bool) (o : Option Entry) → test None ≡ false → test o ≡ true → (x : Entry) × (o ≡ Some x)
  held test None n h = absurd (let z : true ≡ false = sym h ∙ n in cc)
  held test (Some x) n h = (x, refl)

  module _ (f : Facts s) where
    -- one table passes such a test
    one_table : (t c d : ℕ) (test : Option Entry → Bool) → test None ≡ false → test (look (s.coord c).table t) ≡ true → test (look (s.coord d).table t) ≡ true → c ≡ d
    one_table t c d test n p q =
        let x = held test (look (s.coord c).table t) n p in
        let y = held test (look (s.coord d).table t) n q in
        one_home s f t c d (in_table s f t c x.0 x.1) (in_table s f t d y.0 y.1)

    one_vote : (o : Option Vote) (c d : ℕ) → votes_for o c ≡ true → votes_for o d ≡ true → c ≡ d
    one_vote None c d p q = absurd (let z : false ≡ true = p in cc)
    one_vote (Some vote) c d p q = sym (eqb-true vote.coord c p) ∙ eqb-true vote.coord d q

    -- exchanges of one kind, transaction and member
    same_exchange : (a b : Exchange) → IsEnabled s a → IsEnabled s b → exchange_txn a ≡ exchange_txn b → exchange_rank a ≡ exchange_rank b → exchange_member a ≡ exchange_member b → a ≡ b
    same_exchange (Prepares t m c) (Prepares u n d) p q e r l =
        let here = subst (λ v. lacks_yes (look (s.coord d).table v) m ≡ true) (sym e) (subst (λ j. lacks_yes (look (s.coord d).table u) j ≡ true) (sym l) (and_parts _ _ q.2).0) in
        let same = one_table t c d (λ o. lacks_yes o m) refl (and_parts _ _ p.2).0 here in
        (λ i. Prepares (e i) (l i) (same i))
    same_exchange (Votes t m) (Votes u n) p q e r l = λ i. Votes (e i) (l i)
    same_exchange (Commits t m c) (Commits u n d) p q e r l =
        let here = subst (λ v. lacks_ack (look (s.coord d).table v) m ≡ true) (sym e) (subst (λ j. lacks_ack (look (s.coord d).table u) j ≡ true) (sym l) q.2) in
        let same = one_table t c d (λ o. lacks_ack o m) refl p.2 here in
        (λ i. Commits (e i) (l i) (same i))
    same_exchange (Asks t m c) (Asks u n d) p q e r l =
        let here = subst (λ v. votes_for (look (s.member m).engine.voted v) d ≡ true) (sym e) (subst (λ j. votes_for (look (s.member j).engine.voted u) d ≡ true) (sym l) (and_parts _ _ q.2).0) in
        let same = one_vote (look (s.member m).engine.voted t) c d (and_parts _ _ p.2).0 here in
        (λ i. Asks (e i) (l i) (same i))
    same_exchange (Prepares t m c) (Votes u n) p q e r l = absurd (omega (arith, r))
    same_exchange (Prepares t m c) (Commits u n d) p q e r l = absurd (omega (arith, r))
    same_exchange (Prepares t m c) (Asks u n d) p q e r l = absurd (omega (arith, r))
    same_exchange (Votes t m) (Prepares u n d) p q e r l = absurd (omega (arith, r))
    same_exchange (Votes t m) (Commits u n d) p q e r l = absurd (omega (arith, r))
    same_exchange (Votes t m) (Asks u n d) p q e r l = absurd (omega (arith, r))
    same_exchange (Commits t m c) (Prepares u n d) p q e r l = absurd (omega (arith, r))
    same_exchange (Commits t m c) (Votes u n) p q e r l = absurd (omega (arith, r))
    same_exchange (Commits t m c) (Asks u n d) p q e r l = absurd (omega (arith, r))
    same_exchange (Asks t m c) (Prepares u n d) p q e r l = absurd (omega (arith, r))
    same_exchange (Asks t m c) (Votes u n) p q e r l = absurd (omega (arith, r))
    same_exchange (Asks t m c) (Commits u n d) p q e r l = absurd (omega (arith, r))

    one_exchange : (a b : Exchange) → IsFirstExchange s a → IsFirstExchange s b → a ≡ b
    one_exchange a b p q = same_exchange a b p.enabled q.enabled txn rank member
      where
        txn : exchange_txn a ≡ exchange_txn b
        txn = same_number (exchange_txn a) (exchange_txn b) (λ l. q.others a (inl l) p.enabled) (λ l. p.others b (inl l) q.enabled)

        rank : exchange_rank a ≡ exchange_rank b
        rank = same_number (exchange_rank a) (exchange_rank b) (λ l. q.others a (inr (txn, inl l)) p.enabled) (λ l. p.others b (inr (sym txn, inl l)) q.enabled)

        member : exchange_member a ≡ exchange_member b
        member = same_number (exchange_member a) (exchange_member b) (λ l. q.others a (inr (txn, inr (rank, l))) p.enabled) (λ l. p.others b (inr (sym txn, inr (sym rank, l))) q.enabled)

    -- timers of one transaction
    same_timer : (t : ℕ) (a b : Node) → IsFirstTimer s t a → IsFirstTimer s t b → a ≡ b
    same_timer t (node.Member m) (node.Member n) p q =
        let l = p.least_member m n refl q.is_node q.ends in
        let k = q.least_member n m refl p.is_node p.ends in
        ap node.Member (let z : m ≡ n = omega (arith, l, k) in z)
    same_timer t (node.Member m) (node.Coord c) p q = absurd (let z : true ≡ false = sym q.ends ∙ p.idle_first m refl c q.is_node in cc)
    same_timer t (node.Coord c) (node.Member n) p q = absurd (let z : true ≡ false = sym p.ends ∙ q.idle_first n refl c p.is_node in cc)
    same_timer t (node.Coord c) (node.Coord d) p q = ap node.Coord (one_table t c d is_idle refl p.ends q.ends)

    one_timer : (t u : ℕ) (a b : Node) → IsFirstTimer s t a → IsFirstTimer s u b → Fires t a ≡ Fires u b
    one_timer t u a b p q =
        let l = p.least u b q.is_node q.ends in
        let k = q.least t a p.is_node p.ends in
        let same : t ≡ u = omega (arith, l, k) in
        let at = same_timer t a b p (subst (λ v. IsFirstTimer s v b) (sym same) q) in
        (λ i. Fires (same i) (at i))

    -- one turn
    pub one_turn : (a b : SettlesBy s) → turn_of a ≡ turn_of b
    one_turn (ByRestart at p) (ByRestart k q) = ap Restarts (one_down at k p q)
    one_turn (ByRestart at p) (ByExchange e up q) = absurd (not_down at (up at p.is_node) p.down)
    one_turn (ByRestart at p) (ByTimer t k quiet q) = absurd (not_down at (quiet.all_up at p.is_node) p.down)
    one_turn (ByExchange e up p) (ByRestart k q) = absurd (not_down k (up k q.is_node) q.down)
    one_turn (ByExchange e up p) (ByExchange d high q) = ap Exchanges (one_exchange e d p q)
    one_turn (ByExchange e up p) (ByTimer t k quiet q) = absurd (quiet.nothing_helps e p.enabled)
    one_turn (ByTimer t at quiet p) (ByRestart k q) = absurd (not_down k (quiet.all_up k q.is_node) q.down)
    one_turn (ByTimer t at quiet p) (ByExchange d high q) = absurd (quiet.nothing_helps d q.enabled)
    one_turn (ByTimer t at quiet p) (ByTimer u k still q) = one_timer t u at k p q

-- one way to settle
pub one_way : (xs ys : List Turn) (s : Federation) → Calm s → AreTurns xs s → AreTurns ys s → NothingOpen (run (lines (turns_events xs s)) s) → NothingOpen (run (lines (turns_events ys s)) s) →
    xs ≡ ys
one_way [] [] s calm p q n o = refl
one_way [] (y ∷ ys) s calm p q n o = absurd (n q.0.0 q.0.1)
one_way (x ∷ xs) [] s calm p q n o = absurd (o p.0.0 p.0.1)
one_way (x ∷ xs) (y ∷ ys) s calm p q n o =
    let first = sym p.1.1 ∙ one_turn s calm.facts p.1.0 q.1.0 ∙ q.1.1 in
    let rest = one_way xs ys (after_turn s x) (next_done s calm x p.1).calm p.2 (subst (λ w. AreTurns ys (after_turn s w)) (sym first) q.2)
    (subst NothingOpen (run_more (turn_events s x) (turns_events xs (after_turn s x)) s) n)
    (subst NothingOpen (run_more (turn_events s x) (turns_events ys (after_turn s x)) s) (subst (λ w. NothingOpen (run (lines (turns_events (w ∷ ys) s)) s)) (sym first) o)) in
    (λ i. first i ∷ rest i)
