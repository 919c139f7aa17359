-- What each move of a member leaves for whom it speaks of.
use Rattle.std.proofs.Common.{◌≡◌, ◌⊎◌, inl, inr, ℕ, Bool, true, false, ◌||◌, ◌≤◌, ◌==◌, Some, refl, sym, ap, ◌∙◌, subst}
use Rattle.std.specs.Option.{is_some}
use Rattle.std.proofs.lemmas.Bool.{or_cases, or_left, or_right, or_from, or_parts, eqb-true, eqb-false, false_from_ne_true}
use Rattle.co_state.specs.declared.engine_state.EngineState.{EngineState}
use Rattle.co_state.specs.declared.engine_state.Vote.{Vote}
use Rattle.co_state.specs.Table.{look, without, holds}
use Rattle.co_state.specs.Changes.{sets_of}
use Rattle.co_state.specs.EngineState.{operations_of}
use Rattle.co_state.specs.Effects.{after_install, install_vote}
use Rattle.co_plain.specs.declared.member_state.MemberState.{MemberState}
use Rattle.co_plain.specs.MemberView.{with_number}
use Rattle.co_plain.specs.MemberStep.{dropped, member_down}
use Rattle.co_plain.specs.Member.{coord_of}
use Rattle.co_plain.specs.Sessions.{count_at}
use Rattle.co_plain.specs.Federation.{Federation, with_member}
use Rattle.co_plain.specs.Decisions.{told_of}
use Rattle.co_plain.specs.Invariants.{Memory, Stable, view, stands}
use Rattle.co_plain.specs.Moves.{MarkAsked, Cast, DropActive, DropVoted, Install, CrashMember, Guard, effect, cast_state, install_state}
use Rattle.co_law_base.proofs.Lookups.{holds_found, look_none}
use Rattle.co_law_base.proofs.Commits.{holds_more, holds_new}
use Rattle.co_law_base.proofs.Facts.{rest_of, Facts}
use Rattle.co_law_base.proofs.Carrying.{LivesOn}
use Rattle.co_law_base.proofs.TwoViews.{memory_to_stable, stable_to_memory, committed_both}
use Rattle.co_law_base.proofs.LogMoves.{dead_there}
use Rattle.co_law_base.proofs.VoteMoves.{MayCast}
use Rattle.co_law_moves.proofs.Standings.{votes_own}
use Rattle.co_law_moves.proofs.Onward.{Onward, absent_casts, holds_put_off, holds_put_on, holds_without_off, member_alike, member_onward, none_without, present}

module _ (s : Federation) (f : Facts s) where
  pub mark : (t m c n : ℕ) → Onward s (effect s (MarkAsked t m c n))
  mark t m c n = member_alike s m _ refl refl

  pub cast : (t m c n : ℕ) → MayCast s t m c n → Onward s (effect s (Cast t m c n))
  cast t m c n g = member_onward s m (cast_state (s.member m) t c n) stand (λ u h. h) nowhere
    where
      vote : Vote
      vote = record { coord = c; count = n; sets = sets_of (operations_of (s.member m).engine t) }

      stand : (u : ℕ) → LivesOn (rest_of s) u → stands (view Memory (s.member m)) u ≡ true → stands (view Memory (cast_state (s.member m) t c n)) u ≡ true
      stand u l h = by (or_cases _ _ h)
        where
          by : (holds (s.member m).engine.voted u ≡ true) ⊎ (holds (s.member m).committed u ≡ true) → stands (view Memory (cast_state (s.member m) t c n)) u ≡ true
          by (inl k) = or_left _ _ (holds_put_on (s.member m).engine.voted t vote u k)
          by (inr k) = or_right _ _ k

      nowhere : (u : ℕ) → LivesOn (rest_of s) u → 1 ≤ count_at (told_of s u) m → present (s.member m) u ≡ false → present (cast_state (s.member m) t c n) u ≡ false
      nowhere u l k h = by (t == u) refl
        where
          parts : (holds (s.member m).engine.active u ≡ false) × (stands (view Memory (s.member m)) u ≡ false)
          parts = or_parts _ _ h

          by : (b : Bool) → (t == u) ≡ b → present (cast_state (s.member m) t c n) u ≡ false
          by true e =
              let p = f.sent.prepares_count t c m n g.0 in
              absurd (absent_casts (s.member m).engine t n g.1 p.1 (ap (holds (s.member m).engine.active) (eqb-true t u e) ∙ parts.0))
          by false e =
              let q = or_parts _ _ parts.1 in
              or_from _ _ (none_without (s.member m).engine.active t u parts.0) (or_from _ _ (holds_put_off (s.member m).engine.voted t vote u (eqb-false t u e) ∙ q.0) q.1)

  -- who is dropped is no other, and does not live
  drop : (t m : ℕ) (x : MemberState) → x.engine ≡ (dropped (s.member m) t).engine → x.committed ≡ (s.member m).committed → (LivesOn (rest_of s) t → holds (s.member m).engine.voted t ≡ false) → Onward s (with_member s m x)
  drop t m x e k dead = member_onward s m x stand (λ u h. ap (λ n. holds n u) k ∙ h) nowhere
    where
      stand : (u : ℕ) → LivesOn (rest_of s) u → stands (view Memory (s.member m)) u ≡ true → stands (view Memory x) u ≡ true
      stand u l h = (λ i. holds (e i).voted u || holds (k i) u) ∙ by (or_cases _ _ h) (t == u) refl
        where
          by : (holds (s.member m).engine.voted u ≡ true) ⊎ (holds (s.member m).committed u ≡ true) → (b : Bool) → (t == u) ≡ b → (holds (without (s.member m).engine.voted t) u || holds (s.member m).committed u) ≡ true
          by (inr q) b d = or_right _ _ q
          by (inl q) false d = or_left _ _ (holds_without_off (s.member m).engine.voted t u (eqb-false t u d) ∙ q)
          by (inl q) true d =
              let same : t ≡ u = eqb-true t u d in
              absurd (let z : true ≡ false = sym q ∙ ap (holds (s.member m).engine.voted) (sym same) ∙ dead (subst (LivesOn (rest_of s)) (sym same) l) in cc)

      nowhere : (u : ℕ) → LivesOn (rest_of s) u → 1 ≤ count_at (told_of s u) m → present (s.member m) u ≡ false → present x u ≡ false
      nowhere u l n h =
          let p = or_parts (holds (s.member m).engine.active u) (stands (view Memory (s.member m)) u) h in
          let q = or_parts (holds (s.member m).engine.voted u) (holds (s.member m).committed u) p.1 in
          (λ i. holds (e i).active u || (holds (e i).voted u || holds (k i) u))
          ∙ or_from _ _ (none_without (s.member m).engine.active t u p.0) (or_from _ _ (none_without (s.member m).engine.voted t u q.0) q.1)

  pub drop_active : (t m : ℕ) → Guard s (DropActive t m) → Onward s (effect s (DropActive t m))
  drop_active t m g =
      let p = holds_found (s.member m).engine.active t g in
      drop t m (dropped (s.member m) t) refl refl (λ l. (or_parts _ _ ((f.members m).active t p.0 p.1).apart).0)

  pub drop_voted : (t m : ℕ) → Guard s (DropVoted t m) → Onward s (effect s (DropVoted t m))
  drop_voted t m g =
      drop t m _ refl refl (λ l.
      let c = coord_of (s.member m) t in
      let b = ((f.members m).views Memory).named t c (votes_own s m t g.0) in
      absurd (let z : true ≡ false = sym (l c b) ∙ dead_there s f.numbers t c b g.1 in cc))

  -- a vote is installed
  installs : (y : MemberState) (t : ℕ) (vote : Vote) → look y.engine.voted t ≡ Some vote → (P : EngineState → Type 0) →
      P (install_vote y.engine t (Some vote)) → P (after_install y.engine t)
  installs y t vote e P p = subst (λ o. P (install_vote y.engine t o)) (sym e) p

  pub install : (t m : ℕ) → Guard s (Install t m) → Onward s (effect s (Install t m))
  install t m g = member_onward s m (install_state (s.member m) t) stand (λ u h. holds_more (s.member m).committed t u h) nowhere
    where
      found : (vote : Vote) × (look (s.member m).engine.voted t ≡ Some vote)
      found = holds_found (s.member m).engine.voted t g.0

      stand : (u : ℕ) → LivesOn (rest_of s) u → stands (view Memory (s.member m)) u ≡ true → stands (view Memory (install_state (s.member m) t)) u ≡ true
      stand u l h =
          installs (s.member m) t found.0 found.1 (λ b. (holds b.voted u || holds (with_number (s.member m).committed t) u) ≡ true) (by (or_cases _ _ h) (t == u) refl)
        where
          by : (holds (s.member m).engine.voted u ≡ true) ⊎ (holds (s.member m).committed u ≡ true) → (b : Bool) → (t == u) ≡ b →
              (holds (without (s.member m).engine.voted t) u || holds (with_number (s.member m).committed t) u) ≡ true
          by (inr q) b d = or_right _ _ (holds_more (s.member m).committed t u q)
          by (inl q) false d = or_left _ _ (holds_without_off (s.member m).engine.voted t u (eqb-false t u d) ∙ q)
          by (inl q) true d = or_right _ _ (ap (holds (with_number (s.member m).committed t)) (sym (eqb-true t u d)) ∙ holds_new (s.member m).committed t)

      nowhere : (u : ℕ) → LivesOn (rest_of s) u → 1 ≤ count_at (told_of s u) m → present (s.member m) u ≡ false → present (install_state (s.member m) t) u ≡ false
      nowhere u l n h =
          installs (s.member m) t found.0 found.1 (λ b. (holds b.active u || (holds b.voted u || holds (with_number (s.member m).committed t) u)) ≡ false) (by (t == u) refl)
        where
          p : (holds (s.member m).engine.active u ≡ false) × (stands (view Memory (s.member m)) u ≡ false)
          p = or_parts _ _ h

          q : (holds (s.member m).engine.voted u ≡ false) × (holds (s.member m).committed u ≡ false)
          q = or_parts _ _ p.1

          by : (b : Bool) → (t == u) ≡ b → (holds (s.member m).engine.active u || (holds (without (s.member m).engine.voted t) u || holds (with_number (s.member m).committed t) u)) ≡ false
          by true d = absurd (let z : true ≡ false = sym g.0 ∙ ap (holds (s.member m).engine.voted) (eqb-true t u d) ∙ q.0 in cc)
          by false d = or_from _ _ p.0 (or_from _ _ (none_without (s.member m).engine.voted t u q.0) (holds_put_off (s.member m).committed t tt u (eqb-false t u d) ∙ q.1))

  pub crash : (m : ℕ) → Onward s (effect s (CrashMember m))
  crash m =
      member_onward s m (member_down (s.member m) (s.member m).log)
      (λ t l h. memory_to_stable (rest_of s) m (s.member m) (f.members m) t h)
      (λ t h. sym (ap (λ n. holds n t) (committed_both (rest_of s) m (s.member m) (f.members m))) ∙ h)
      (λ t l n h. or_from _ _ (ap is_some (look_none t)) (false_from_ne_true (stands (view Stable (s.member m)) t) (λ k.
      let z : true ≡ false = sym (stable_to_memory (rest_of s) m (s.member m) (f.members m) t l k) ∙ (or_parts _ _ h).1 in cc)))
