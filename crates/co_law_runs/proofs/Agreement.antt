-- No two members decide a transaction differently.
use Rattle.std.proofs.Common.{◌≡◌, ◌⊎◌, inl, inr, ℕ, true, false, ◌≤◌, ◌==◌, List, [], ◌∷◌, ◌++◌, refl, sym, ap, ◌∙◌, subst, arith}
use Rattle.std.specs.Option.{is_some}
use Rattle.std.proofs.lemmas.Bool.{or_cases, or_left, or_right, or_from, or_parts, eqb-true}
use Rattle.co_base.specs.declared.head.Kind.{Kind}
use Rattle.co_state.specs.Table.{look, holds}
use Rattle.co_state.specs.EngineState.{is_undecided}
use Rattle.co_plain.specs.declared.happening.Happening.{Happening}
use Rattle.co_plain.specs.declared.session.Decided.{Decided}
use Rattle.co_plain.specs.Sessions.{count_at}
use Rattle.co_plain.specs.Federation.{Federation}
use Rattle.co_plain.specs.Step.{step}
use Rattle.co_plain.specs.Runs.{run}
use Rattle.co_plain.specs.Opening.{Found, opened}
use Rattle.co_plain.specs.Decisions.{told_of, is_decided}
use Rattle.co_plain.specs.SoundLogs.{log_has_committed}
use Rattle.co_plain.specs.Promises.{HasDecidedCommit, MembersAgree}
use Rattle.co_plain.specs.Invariants.{Memory, view, stands}
use Rattle.co_law_base.proofs.Lookups.{look_none}
use Rattle.co_law_base.proofs.Facts.{rest_of, told, asked, settled_at, Each, Facts}
use Rattle.co_law_base.proofs.Carrying.{LivesOn}
use Rattle.co_law_base.proofs.TwoViews.{committed_both}
use Rattle.co_law_base.proofs.KeptTold.{told_begun}
use Rattle.co_plain.specs.Premises.{AreTrueVerdicts}
use Rattle.co_law_moves.proofs.Steps.{run_keeps}
use Rattle.co_law_moves.proofs.MoveOnward.{move_onward}
use Rattle.co_law_moves.proofs.Onward.{Onward, onward_same, onward_on, disarm_onward, lives_back}
use Rattle.co_law_moves.proofs.ByMoves.{run_leaves}
use Rattle.co_law_runs.proofs.Working.{Working, move_works, disarm_works}

pub run_onward : (hs : List Happening) (s : Federation) → Facts s → AreTrueVerdicts hs s → Onward s (run hs s)
run_onward = run_leaves Onward onward_same onward_on (λ s f move g. move_onward s f move g) (λ s f. disarm_onward s)

pub run_works : (hs : List Happening) (s : Federation) → Facts s → AreTrueVerdicts hs s → Working s → Working (run hs s)
run_works = run_leaves (λ s z. Working s → Working z) (λ s w. w) (λ s z w p q r. q (p r)) (λ s f move g w. move_works s f move g w) (λ s f w. disarm_works s w)

-- an opened federation
pub opened_works : (kinds : List Kind) (coords : ℕ) (fm fc : ℕ → Found) → Working (opened kinds coords fm fc)
opened_works kinds coords fm fc = record { active = λ m t h. absurd (let z : false ≡ true = ap is_some (sym (look_none t)) ∙ h in cc); works = tt }

-- one run after another
pub run_more : (xs ys : List Happening) (s : Federation) → run (xs ++ ys) s ≡ run ys (run xs s)
run_more [] ys s = refl
run_more (x ∷ xs) ys s = run_more xs ys (step s x).state

pub verdicts_parts : (xs ys : List Happening) (s : Federation) → AreTrueVerdicts (xs ++ ys) s → AreTrueVerdicts xs s × AreTrueVerdicts ys (run xs s)
verdicts_parts [] ys s v = (tt, v)
verdicts_parts (x ∷ xs) ys s v = let p = verdicts_parts xs ys (step s x).state v.1 in ((v.0, p.0), p.1)

-- who is decided and stands somewhere stands at every member where it has told operations
pub stands_where_told : (s : Federation) → Facts s → Working s → (t m n : ℕ) → is_decided s.decided t ≡ true → stands (view Memory (s.member m)) t ≡ true → 1 ≤ count_at (told_of s t) n → stands (view Memory (s.member n)) t ≡ true
stands_where_told s f w t m n d c l = by s.decided d ((f.members n).views Memory).done w.works f.numbers.kept
  where
    here : (e : Decided) → (1 ≤ count_at e.told n → stands (view Memory (s.member n)) e.txn ≡ true) → ((k : ℕ) → stands (view Memory (s.member k)) e.txn ≡ true → 1 ≤ count_at e.told k) →
        (e.told ≡ []) ⊎ ((told (rest_of s) e.txn ≡ e.told) × (asked (rest_of s) e.txn ≡ true)) → e.txn ≡ t → stands (view Memory (s.member n)) t ≡ true
    here e done works (inl none) q =
        let k : 1 ≤ count_at e.told m = works m (ap (stands (view Memory (s.member m))) q ∙ c) in
        let z : 1 ≤ 0 = subst (λ ts. 1 ≤ count_at ts m) none k in
        absurd (omega (arith, z))
    here e done works (inr p) q = ap (stands (view Memory (s.member n))) (sym q) ∙ done (subst (λ ts. 1 ≤ count_at ts n) p.0 (subst (λ u. 1 ≤ count_at (told_of s u) n) (sym q) l))

    by : (ds : List Decided) → is_decided ds t ≡ true → Each (λ e. 1 ≤ count_at e.told n → stands (view Memory (s.member n)) e.txn ≡ true) ds →
        Each (λ e. (k : ℕ) → stands (view Memory (s.member k)) e.txn ≡ true → 1 ≤ count_at e.told k) ds →
        Each (λ e. (e.told ≡ []) ⊎ ((told (rest_of s) e.txn ≡ e.told) × (asked (rest_of s) e.txn ≡ true))) ds → stands (view Memory (s.member n)) t ≡ true
    by [] q p1 p2 p3 = absurd (let z : false ≡ true = q in cc)
    by (e ∷ ds) q p1 p2 p3 = now (λ r. by ds r p1.1 p2.1 p3.1) (or_cases (e.txn == t) (is_decided ds t) q)
      where
        now : (is_decided ds t ≡ true → stands (view Memory (s.member n)) t ≡ true) → ((e.txn == t) ≡ true) ⊎ (is_decided ds t ≡ true) → stands (view Memory (s.member n)) t ≡ true
        now rest (inl r) = here e p1.0 p2.0 p3.0 (eqb-true e.txn t r)
        now rest (inr r) = rest r

-- what was undecided at one moment and nowhere at a later one is committed nowhere after that
never_both : (s z w : Federation) → Facts s → Facts w → Working s → Working w → Onward s z → Onward z w → (t m n : ℕ) →
    is_undecided (s.member n).engine t ≡ true → is_undecided (z.member n).engine t ≡ false → holds (z.member n).committed t ≡ false → log_has_committed (w.member m).log.stable t ≡ true → ⊥
never_both s z w f g ws ww sz zw t m n was gone uncommitted h = by (or_cases _ _ was)
  where
    committed : holds (w.member m).committed t ≡ true
    committed = ap (λ k. holds k t) (committed_both (rest_of w) m (w.member m) (g.members m)) ∙ h

    lives : LivesOn (rest_of w) t
    lives c b = or_right (holds (w.coord c).table t) (settled_at (rest_of w) c t) (((g.members m).views Memory).homed t c committed b)

    parts : (holds (z.member n).engine.active t ≡ false) × (holds (z.member n).engine.voted t ≡ false)
    parts = or_parts _ _ gone

    absent : stands (view Memory (z.member n)) t ≡ false
    absent = or_from _ _ parts.1 uncommitted

    by : (holds (s.member n).engine.active t ≡ true) ⊎ (holds (s.member n).engine.voted t ≡ true) → ⊥
    by (inr v) = let q : true ≡ false = sym (sz.stand n t (lives_back z w zw t lives) (or_left _ _ v)) ∙ absent in cc
    by (inl a) =
        let l = ws.active n t a in
        let k = sz.counts t n in
        let j = zw.counts t n in
        let later : 1 ≤ count_at (told_of w t) n = omega (arith, l, k, j) in
        let nowhere = zw.nowhere n t lives (omega (arith, l, k)) (or_from _ _ parts.0 absent) in
        let decided = ((g.members m).views Memory).known t committed (told_begun (look w.sessions t) n later) in
        let q : true ≡ false = sym (stands_where_told w g ww t m n decided (or_right _ _ committed) later) ∙ (or_parts _ _ nowhere).1 in cc

pub members_agree : (hs : List Happening) (s : Federation) → Facts s → Working s → AreTrueVerdicts hs s → MembersAgree s hs
members_agree hs s f w v t m n c a = by (subst (λ k. AreTrueVerdicts k s) (sym a.front) v) (subst (λ k. HasDecidedCommit (run k s) t m) (sym a.front) c)
  where
    by : AreTrueVerdicts (a.before ++ (a.between ++ a.rest)) s → HasDecidedCommit (run (a.before ++ (a.between ++ a.rest)) s) t m → ⊥
    by v' c' =
        let p = verdicts_parts a.before (a.between ++ a.rest) s v' in
        let q = verdicts_parts a.between a.rest (run a.before s) p.1 in
        let f1 = run_keeps a.before s f p.0 in
        let f2 = run_keeps a.between (run a.before s) f1 q.0 in
        let f3 = run_keeps a.rest (run a.between (run a.before s)) f2 q.1 in
        let w1 = run_works a.before s f p.0 w in
        let w2 = run_works a.between (run a.before s) f1 q.0 w1 in
        let w3 = run_works a.rest (run a.between (run a.before s)) f2 q.1 w2 in
        never_both (run a.before s) (run a.between (run a.before s)) (run a.rest (run a.between (run a.before s))) f1 f3 w1 w3
        (run_onward a.between (run a.before s) f1 q.0) (run_onward a.rest (run a.between (run a.before s)) f2 q.1) t m n a.was
        (subst (λ k. is_undecided (k.member n).engine t ≡ false) (run_more a.before a.between s) a.is_not)
        (subst (λ k. holds (k.member n).committed t ≡ false) (run_more a.before a.between s) a.not_installed)
        (subst (λ k. HasDecidedCommit k t m) (run_more a.before (a.between ++ a.rest) s ∙ run_more a.between a.rest (run a.before s)) c')
