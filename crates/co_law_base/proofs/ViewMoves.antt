-- The facts of a view under a vote, an abort and an install.
use Rattle.std.proofs.Common.{◌≡◌, ◌≢◌, ◌⊎◌, inl, inr, ℕ, Bool, true, false, ◌==◌, ◌≤◌, List, [], ◌∷◌, Some, refl, sym, ap, ◌∙◌, subst}
use Rattle.std.specs.Option.{is_some}
use Rattle.std.proofs.lemmas.Bool.{or_cases, or_left, or_right, or_parts, eqb-true, eqb-false, eq-eqb, false_from_ne_true}
use Rattle.co_state.specs.declared.engine_state.Vote.{Vote}
use Rattle.co_state.specs.Table.{Table, look, holds, put, without}
use Rattle.co_state.specs.VotingRule.{voted_holds}
use Rattle.co_plain.specs.declared.member_view.MemberView.{MemberView}
use Rattle.co_plain.specs.declared.session.Decided.{Decided}
use Rattle.co_plain.specs.MemberView.{cast_in, forget_in, install_in}
use Rattle.co_plain.specs.Sessions.{count_at}
use Rattle.co_plain.specs.Decisions.{is_decided, votes_for}
use Rattle.co_plain.specs.Invariants.{stands, takes_part_in}
use Rattle.co_law_base.proofs.Lookups.{put_here, put_there, without_here, without_there, without_cases, holds_found, found_holds}
use Rattle.co_law_base.proofs.ViewRules.{Replayed, cast_free, forget_free, install_free, cast_replay, forget_replay, install_replay}
use Rattle.co_law_base.proofs.ImageRules.{image_cast, image_forget, image_install}
use Rattle.co_law_base.proofs.Commits.{holds_more, holds_new, holds_cases}
use Rattle.co_law_base.proofs.Facts.{Rest, told_here, begun, over, entry_of, settled_at, Here, Before, settled, alive, belongs, takes, Each, ViewFacts, NumberFacts, serial}
use Rattle.co_law_base.proofs.Carrying.{settled_home}

pub each_map : {A : Type 0} (P Q : A → Type 0) (xs : List A) → ((x : A) → P x → Q x) → Each P xs → Each Q xs
each_map P Q [] h e = tt
each_map P Q (x ∷ xs) h e = (h x e.0, each_map P Q xs h e.1)

pub each_both : {A : Type 0} (P Q : A → Type 0) (xs : List A) → Each P xs → Each Q xs → Each (λ x. P x × Q x) xs
each_both P Q [] p q = tt
each_both P Q (x ∷ xs) p q = ((p.0, q.0), each_both P Q xs p.1 q.1)

-- each decided transaction is decided
pub each_decided : (ds : List Decided) → Each (λ d. is_decided ds d.txn ≡ true) ds
each_decided [] = tt
each_decided (d ∷ ds) = (
  or_left (d.txn == d.txn) (is_decided ds d.txn) (eq-eqb d.txn d.txn refl),
  each_map (λ e. is_decided ds e.txn ≡ true) (λ e. is_decided (d ∷ ds) e.txn ≡ true) ds (λ e h. or_right (d.txn == e.txn) (is_decided ds e.txn) h) (each_decided ds),
)

-- who does not stand is neither voted nor committed
pub neither_stands : (v : MemberView) (t : ℕ) → stands v t ≡ false → (holds v.voted t ≡ false) × (holds v.committed t ≡ false)
neither_stands v t h = or_parts (holds v.voted t) (holds v.committed t) h

pub holds_without : {X : Type 0} (m : Table X) (t u : ℕ) → holds (without m t) u ≡ true → (t ≢ u) × (holds m u ≡ true)
holds_without m t u h =
    let p = holds_found (without m t) u h in
    let q = without_cases m t u p.0 p.1 in
    (q.0, found_holds m u p.0 q.1)

pub still_holds : {X : Type 0} (m : Table X) (t u : ℕ) → t ≢ u → holds m u ≡ true → holds (without m t) u ≡ true
still_holds m t u n h = ap is_some (without_there m t u n) ∙ h

pub holds_put : {X : Type 0} (m : Table X) (t : ℕ) (x : X) (u : ℕ) → holds m u ≡ true → holds (put m t x) u ≡ true
holds_put m t x u h = by (t == u) refl
  where
    by : (b : Bool) → (t == u) ≡ b → holds (put m t x) u ≡ true
    by true e = ap is_some (ap (look (put m t x)) (sym (eqb-true t u e)) ∙ put_here m t x)
    by false e = ap is_some (put_there m t x u (eqb-false t u e)) ∙ h

pub put_holds : {X : Type 0} (m : Table X) (t : ℕ) (x : X) (u : ℕ) → holds (put m t x) u ≡ true → (t ≡ u) ⊎ (holds m u ≡ true)
put_holds m t x u h = by (t == u) refl
  where
    by : (b : Bool) → (t == u) ≡ b → (t ≡ u) ⊎ (holds m u ≡ true)
    by true e = inl (eqb-true t u e)
    by false e = inr (ap is_some (sym (put_there m t x u (eqb-false t u e))) ∙ h)

pub votes_without : (voted : Table Vote) (t u c : ℕ) → votes_for (look (without voted t) u) c ≡ true → (t ≢ u) × (votes_for (look voted u) c ≡ true)
votes_without voted t u c h = by (t == u) refl
  where
    by : (b : Bool) → (t == u) ≡ b → (t ≢ u) × (votes_for (look voted u) c ≡ true)
    by true e = absurd (let z : false ≡ true = ap (λ o. votes_for o c) (sym (without_here voted t) ∙ ap (look (without voted t)) (eqb-true t u e)) ∙ h in cc)
    by false e = (eqb-false t u e, ap (λ o. votes_for o c) (sym (without_there voted t u (eqb-false t u e))) ∙ h)

pub votes_put : (voted : Table Vote) (t : ℕ) (vote : Vote) (u c : ℕ) → votes_for (look (put voted t vote) u) c ≡ true → ((t ≡ u) × (vote.coord ≡ c)) ⊎ (votes_for (look voted u) c ≡ true)
votes_put voted t vote u c h = by (t == u) refl
  where
    by : (b : Bool) → (t == u) ≡ b → ((t ≡ u) × (vote.coord ≡ c)) ⊎ (votes_for (look voted u) c ≡ true)
    by true e =
        let same : t ≡ u = eqb-true t u e in
        inl (same, eqb-true vote.coord c (ap (λ o. votes_for o c) (sym (put_here voted t vote) ∙ ap (look (put voted t vote)) same) ∙ h))
    by false e = inr (ap (λ o. votes_for o c) (sym (put_there voted t vote u (eqb-false t u e))) ∙ h)

-- no committed transaction is voted
abbrev pub AreApart : MemberView → Type 0
AreApart v = (u : ℕ) → holds v.committed u ≡ true → holds v.voted u ≡ false

-- Who stands after an abort, a vote and an install stood before it, or is the one that it is of; and no committed one becomes voted.
module _ (v : MemberView) (t : ℕ) where
  pub forget_stands : (u : ℕ) → stands (forget_in v t) u ≡ true → stands v u ≡ true
  forget_stands u h = by (or_cases _ _ h)
    where
      by : (holds (without v.voted t) u ≡ true) ⊎ (holds v.committed u ≡ true) → stands v u ≡ true
      by (inl k) = or_left _ _ (holds_without v.voted t u k).1
      by (inr k) = or_right _ _ k

  pub cast_stands : (vote : Vote) (u : ℕ) → stands (cast_in v t vote) u ≡ true → (t ≡ u) ⊎ (stands v u ≡ true)
  cast_stands vote u h = by (or_cases _ _ h)
    where
      voted : (t ≡ u) ⊎ (holds v.voted u ≡ true) → (t ≡ u) ⊎ (stands v u ≡ true)
      voted (inl e) = inl e
      voted (inr k) = inr (or_left _ _ k)

      by : (holds (put v.voted t vote) u ≡ true) ⊎ (holds v.committed u ≡ true) → (t ≡ u) ⊎ (stands v u ≡ true)
      by (inl k) = voted (put_holds v.voted t vote u k)
      by (inr k) = inr (or_right _ _ k)

  pub install_stands : (vote : Vote) (u : ℕ) → stands (install_in v t (Some vote)) u ≡ true → (t ≡ u) ⊎ (stands v u ≡ true)
  install_stands vote u h = by (or_cases _ _ h)
    where
      committed : (t ≡ u) ⊎ (holds v.committed u ≡ true) → (t ≡ u) ⊎ (stands v u ≡ true)
      committed (inl e) = inl e
      committed (inr k) = inr (or_right _ _ k)

      by : (holds (without v.voted t) u ≡ true) ⊎ (holds (install_in v t (Some vote)).committed u ≡ true) → (t ≡ u) ⊎ (stands v u ≡ true)
      by (inl k) = inr (or_left _ _ (holds_without v.voted t u k).1)
      by (inr k) = committed (holds_cases v.committed t u k)

  -- so who stands nowhere does not stand after them, where the vote is of another one
  pub forget_leaves : (u : ℕ) → stands v u ≡ false → stands (forget_in v t) u ≡ false
  forget_leaves u n = false_from_ne_true _ (λ k. let z : true ≡ false = sym (forget_stands u k) ∙ n in cc)

  pub cast_leaves : (vote : Vote) (u : ℕ) → t ≢ u → stands v u ≡ false → stands (cast_in v t vote) u ≡ false
  cast_leaves vote u other n = false_from_ne_true _ (λ k. by (cast_stands vote u k))
    where
      by : (t ≡ u) ⊎ (stands v u ≡ true) → ⊥
      by (inl e) = other e
      by (inr k) = let z : true ≡ false = sym k ∙ n in cc

  pub install_leaves : (vote : Vote) → holds v.voted t ≡ true → (u : ℕ) → stands v u ≡ false → stands (install_in v t (Some vote)) u ≡ false
  install_leaves vote here u n = false_from_ne_true _ (λ k. by (install_stands vote u k))
    where
      by : (t ≡ u) ⊎ (stands v u ≡ true) → ⊥
      by (inl e) = let z : true ≡ false = sym (or_left (holds v.voted t) (holds v.committed t) here) ∙ ap (λ k. stands v k) e ∙ n in cc
      by (inr k) = let z : true ≡ false = sym k ∙ n in cc

  pub forget_apart : AreApart v → AreApart (forget_in v t)
  forget_apart apart u h = false_from_ne_true _ (λ k. let z : true ≡ false = sym (holds_without v.voted t u k).1 ∙ apart u h in cc)

  pub cast_apart : (vote : Vote) → holds v.committed t ≡ false → AreApart v → AreApart (cast_in v t vote)
  cast_apart vote new apart u h = false_from_ne_true _ (λ k. never (put_holds v.voted t vote u k))
    where
      never : (t ≡ u) ⊎ (holds v.voted u ≡ true) → ⊥
      never (inl e) = let z : true ≡ false = sym h ∙ ap (holds v.committed) (sym e) ∙ new in cc
      never (inr k) = let z : true ≡ false = sym k ∙ apart u h in cc

  pub install_apart : (vote : Vote) → AreApart v → AreApart (install_in v t (Some vote))
  install_apart vote apart u h = false_from_ne_true _ (λ k. never (holds_without v.voted t u k) (holds_cases v.committed t u h))
    where
      never : (t ≢ u) × (holds v.voted u ≡ true) → (t ≡ u) ⊎ (holds v.committed u ≡ true) → ⊥
      never p (inl e) = p.0 e
      never p (inr k) = let z : true ≡ false = sym p.1 ∙ apart u k in cc

module _ (r : Rest) (n : NumberFacts r) (m : ℕ) (v : MemberView) (f : ViewFacts r m v) where
  -- an abort
  pub view_forget : (t : ℕ) → ¬ (settled r t) → ViewFacts r m (forget_in v t)
  view_forget t open' =
      record {
        free = forget_free v t f.free;
        replay = forget_replay v t (told_here r m) (begun r) f.replay;
        image = image_forget (serial r m) (settled r) v t open' f.image;
        named = λ u c h. f.named u c (votes_without v.voted t u c h).1;
        over = λ u h. f.over u (forget_stands v t u h);
        apart = forget_apart v t f.apart;
        done = each_map (λ d. (1 ≤ count_at d.told m → stands v d.txn ≡ true) × (is_decided r.decided d.txn ≡ true)) (λ d. 1 ≤ count_at d.told m → stands (forget_in v t) d.txn ≡ true) r.decided
            (λ d p h. kept d.txn p.1 (or_cases _ _ (p.0 h)))
            (each_both (λ d. 1 ≤ count_at d.told m → stands v d.txn ≡ true) (λ d. is_decided r.decided d.txn ≡ true) r.decided f.done (each_decided r.decided));
        known = f.known;
        homed = f.homed;
        held = λ u c h a. f.held u c (votes_without v.voted t u c h).1 a;
        works = λ u c h a. f.works u c (votes_without v.voted t u c h).1 a;
      }
    where
      kept : (u : ℕ) → is_decided r.decided u ≡ true → (holds v.voted u ≡ true) ⊎ (holds v.committed u ≡ true) → stands (forget_in v t) u ≡ true
      kept u d (inl h) = or_left _ _ (still_holds v.voted t u (λ e. open' (subst (settled r) (sym e) (Here d))) h)
      kept u d (inr h) = or_right _ _ h

  -- a vote
  pub view_cast : (t : ℕ) (vote : Vote) → ((u : ℕ) (other : Vote) → t ≢ u → look v.voted u ≡ Some other → voted_holds vote.sets other.sets ≡ false) →
      (begun r t ≡ true → Replayed v.records vote (told_here r m t)) → ¬ (settled r t) → belongs r t vote.coord → over r t ≡ true → holds v.committed t ≡ false →
      (alive r vote.coord t ≡ true → takes_part_in (entry_of r vote.coord t) m ≡ true) → takes r t m → ViewFacts r m (cast_in v t vote)
  view_cast t vote apart replays open' mine o new holds_it part =
      record {
        free = cast_free v t vote f.free apart;
        replay = cast_replay v t vote (told_here r m) (begun r) f.replay replays;
        image = image_cast (serial r m) (settled r) v t vote open' f.image;
        named = λ u c h. named u c (votes_put v.voted t vote u c h);
        over = λ u h. overs u (cast_stands v t vote u h);
        apart = cast_apart v t vote new f.apart;
        done = each_map (λ d. 1 ≤ count_at d.told m → stands v d.txn ≡ true) (λ d. 1 ≤ count_at d.told m → stands (cast_in v t vote) d.txn ≡ true) r.decided
            (λ d p h. more d.txn (or_cases _ _ (p h))) f.done;
        known = f.known;
        homed = f.homed;
        held = λ u c h. held u c (votes_put v.voted t vote u c h);
        works = λ u c h. works u c (votes_put v.voted t vote u c h);
      }
    where
      named : (u c : ℕ) → ((t ≡ u) × (vote.coord ≡ c)) ⊎ (votes_for (look v.voted u) c ≡ true) → belongs r u c
      named u c (inl p) = subst (λ k. belongs r k c) p.0 (subst (belongs r t) p.1 mine)
      named u c (inr h) = f.named u c h

      overs : (u : ℕ) → (t ≡ u) ⊎ (stands v u ≡ true) → over r u ≡ true
      overs u (inl e) = ap (over r) (sym e) ∙ o
      overs u (inr k) = f.over u k

      more : (u : ℕ) → (holds v.voted u ≡ true) ⊎ (holds v.committed u ≡ true) → stands (cast_in v t vote) u ≡ true
      more u (inl h) = or_left _ _ (holds_put v.voted t vote u h)
      more u (inr h) = or_right _ _ h

      works : (u c : ℕ) → ((t ≡ u) × (vote.coord ≡ c)) ⊎ (votes_for (look v.voted u) c ≡ true) → alive r c u ≡ true → takes r u m
      works u c (inl p) a = subst (λ k. takes r k m) p.0 part
      works u c (inr h) a = f.works u c h a

      held : (u c : ℕ) → ((t ≡ u) × (vote.coord ≡ c)) ⊎ (votes_for (look v.voted u) c ≡ true) → alive r c u ≡ true → takes_part_in (entry_of r c u) m ≡ true
      held u c (inl p) =
          subst (λ k. alive r c k ≡ true → takes_part_in (entry_of r c k) m ≡ true) p.0
          (subst (λ k. alive r k t ≡ true → takes_part_in (entry_of r k t) m ≡ true) p.1 holds_it)
      held u c (inr h) = f.held u c h

  -- an install
  pub view_install : (t : ℕ) (vote : Vote) → look v.voted t ≡ Some vote → settled r t → ViewFacts r m (install_in v t (Some vote))
  view_install t vote here d =
      record {
        free = install_free v t vote f.free;
        replay = install_replay v t vote (told_here r m) (begun r) f.free here f.replay;
        image = image_install (serial r m) (settled r) v t vote here d f.image;
        named = λ u c h. f.named u c (votes_without v.voted t u c h).1;
        over = λ u h. overs u (install_stands v t vote u h);
        apart = install_apart v t vote f.apart;
        done = each_map (λ e. 1 ≤ count_at e.told m → stands v e.txn ≡ true) (λ e. 1 ≤ count_at e.told m → stands (install_in v t (Some vote)) e.txn ≡ true) r.decided
            (λ e p h. more e.txn (or_cases _ _ (p h))) f.done;
        known = λ u h b. known u b (holds_cases v.committed t u h);
        homed = λ u c h b. homed u c b (holds_cases v.committed t u h);
        held = λ u c h a. f.held u c (votes_without v.voted t u c h).1 a;
        works = λ u c h a. f.works u c (votes_without v.voted t u c h).1 a;
      }
    where
      overs : (u : ℕ) → (t ≡ u) ⊎ (stands v u ≡ true) → over r u ≡ true
      overs u (inl e) = ap (over r) (sym e) ∙ f.over t (or_left _ _ (found_holds v.voted t vote here))
      overs u (inr k) = f.over u k

      more : (u : ℕ) → (holds v.voted u ≡ true) ⊎ (holds v.committed u ≡ true) → stands (install_in v t (Some vote)) u ≡ true
      more u (inr h) = or_right _ _ (holds_more v.committed t u h)
      more u (inl h) = by (t == u) refl
        where
          by : (b : Bool) → (t == u) ≡ b → stands (install_in v t (Some vote)) u ≡ true
          by true e = or_right _ _ (ap (holds (install_in v t (Some vote)).committed) (sym (eqb-true t u e)) ∙ holds_new v.committed t)
          by false e = or_left _ _ (still_holds v.voted t u (eqb-false t u e) h)

      known : (u : ℕ) → begun r u ≡ true → (t ≡ u) ⊎ (holds v.committed u ≡ true) → is_decided r.decided u ≡ true
      known u b (inr k) = f.known u k b
      known u b (inl e) = ap (is_decided r.decided) (sym e) ∙ by d
        where
          by : settled r t → is_decided r.decided t ≡ true
          by (Here k) = k
          by (Before c k) = absurd (let z : true ≡ false = sym (n.commit_used c t k) ∙ ap (holds r.used) e ∙ n.new u b in cc)

      homed : (u c : ℕ) → belongs r u c → (t ≡ u) ⊎ (holds v.committed u ≡ true) → settled_at r c u ≡ true
      homed u c b (inr k) = f.homed u c k b
      homed u c b (inl e) = settled_home r n u c b (subst (settled r) e d)
