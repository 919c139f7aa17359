-- Votes that are tried again: one that nothing is in the way of is given and comes in a fair round, or less is left before.
use Rattle.std.proofs.Common.{◌≡◌, ◌⊎◌, inl, inr, ℕ, suc, Bool, true, false, ◌==◌, ◌≤◌, if◌then◌else◌, List, [], ◌∷◌, ◌++◌, Option, None, Some, refl, sym, ap, ◌∙◌, subst, arith}
use Rattle.std.proofs.lemmas.Bool.{eqb-true}
use Rattle.co_base.specs.declared.node.Node.TheVariants as node
use Rattle.co_message.specs.declared.event.Event.{Event}
use Rattle.co_message.specs.declared.event.Event.TheVariants as event
use Rattle.co_message.specs.declared.message.Message.TheVariants as message
use Rattle.co_state.specs.Table.{look, holds, without}
use Rattle.co_state.specs.VotingRule.{vote_of}
use Rattle.co_state.specs.declared.verdict.Verdict.{Verdict}
use Rattle.co_plain.specs.declared.coord_state.Entry.TheVariants as entry
use Rattle.co_plain.specs.declared.member_state.AskedMark.{AskedMark}
use Rattle.co_plain.specs.declared.member_state.MemberState.{MemberState}
use Rattle.co_plain.specs.declared.member_step.MemberStep.{MemberStep}
use Rattle.co_plain.specs.declared.standing.Standing.{Standing}
use Rattle.co_plain.specs.declared.standing.Standing.TheVariants.{IsActive, IsVoted, IsInstalled, IsAbsent}
use Rattle.co_plain.specs.MemberStep.{standing_by, standing_of}
use Rattle.co_plain.specs.Member.{vote_by, vote_again_by, vote_where_asked, member_vote}
use Rattle.co_plain.specs.Federation.{Federation, at_member}
use Rattle.co_plain.specs.Quiet.{IsMember, is_free, lacks_yes}
use Rattle.co_plain.specs.Step.{step_line, up_member}
use Rattle.co_law_base.proofs.Carrying.{at_here}
use Rattle.co_law_moves.proofs.Standings.{active_is}
use Rattle.co_law_settle.specs.SettlingMeasure.{yes_lacking, ack_lacking, weight, weight_at, left_between}
use Rattle.co_law_settle.proofs.AtMember.{dropped_weight, voted_weight, VoteDid, SaysNo, SaysYes, Holds, vote_did}
use Rattle.co_law_settle.proofs.Falling.{any_found}
use Rattle.co_law_settle.proofs.Homes.{Homes, in_table, one_home}
use Rattle.co_law_rounds.specs.CanBeSettled.{MakeThemselves}
use Rattle.co_law_rounds.specs.FairRounds.{Stands, AreVotes, AllDelivered, DeliverTheirOwn}
use Rattle.co_law_rounds.proofs.Telling.{Tells, member_tells}
use Rattle.co_law_rounds.proofs.Following.{Good, good_on, Fell, fell_now, fell_later, pair_lowered}
use Rattle.co_law_rounds.proofs.LackingVotes.{Awaited, some_entry, member_on, vote_comes}

asked_weighs : (a k v y b : Bool) → a ≡ true → 2 ≤ weight a k v y b
asked_weighs true true v y b h = omega arith
asked_weighs true false v y b h = omega arith
asked_weighs false k v y b h = absurd (let z : false ≡ true = h in cc)

few_weighs : (k y b : Bool) → weight false k false y b ≤ 1
few_weighs k true b = omega arith
few_weighs k false true = omega arith
few_weighs k false false = omega arith

vote_alone : (k y b : Bool) → y ≡ false → weight false k true y b ≡ 1
vote_alone k false b e = refl
vote_alone k true b e = absurd (let z : true ≡ false = e in cc)

light_inactive : (a k v : Bool) → weight a k v false false ≤ 1 → a ≡ false
light_inactive true true v h = absurd (omega (arith, h))
light_inactive true false v h = absurd (omega (arith, h))
light_inactive false k v h = refl

-- one that is active and asked, and that nothing is in the way of
pub record Free (t m : ℕ) (mark : AskedMark) (x : MemberState) : Type 0 where
  pub active : holds x.engine.active t ≡ true
  pub asked : look x.asked t ≡ Some mark
  pub free : is_free (vote_of x.engine t mark.count) ≡ true

module _ (pairs : ℕ → List ℕ) (numbers : List ℕ) where
  -- whatever follows, less is left
  abbrev Onto : Federation → Event → Type 0
  Onto w e = (es : List Event) → MakeThemselves es → AllDelivered (step_line w e) es → DeliverTheirOwn es (step_line w e).state → Fell pairs numbers (e ∷ es) w

  -- a vote of an active one is given, or not
  cast : (w : Federation) → Good pairs numbers w → (m u : ℕ) → IsMember w m → holds (w.member m).engine.active u ≡ true → (mark : AskedMark) → look (w.member m).asked u ≡ Some mark →
      (v : Verdict) → (did : MemberStep) → step_line w (event.Vote u m) ≡ at_member w m did → VoteDid m (w.member m) u mark.coord mark.count v did →
      (Onto w (event.Vote u m)) ⊎ ((is_free v ≡ false) × (did.state ≡ w.member m))
  cast w g m u k a mark e v did same (Holds h q sends) = inr (h, q)
  cast w g m u k a mark e v did same (SaysNo h sends) = inl (λ es own all del. fell_now pairs numbers w (event.Vote u m) es g tt own (pair_lowered pairs numbers w (event.Vote u m) g tt u m k less))
    where
      less : suc (left_between (step_line w (event.Vote u m)).state u m) ≤ left_between w u m
      less =
          let z = (step_line w (event.Vote u m)).state in
          let here = ap (λ s. s.state.member m) same ∙ at_here w.member m did.state ∙ h in
          let n = ap (λ x. weight_at x u (yes_lacking z u m) (ack_lacking z u m)) here ∙ dropped_weight (w.member m) u (w.member m).log (yes_lacking z u m) (ack_lacking z u m) in
          let b = few_weighs (holds (without (w.member m).asked u) u) (yes_lacking z u m) (ack_lacking z u m) in
          let d = asked_weighs (holds (w.member m).engine.active u) (holds (w.member m).asked u) (holds (w.member m).engine.voted u) (yes_lacking w u m) (ack_lacking w u m) a in
          omega (arith, n, b, d)
  cast w g m u k a mark e v did same (SaysYes l un h sends) = inl given
    where
      x : Federation
      x = (step_line w (event.Vote u m)).state

      good : Good pairs numbers (step_line w (event.Vote u m)).state
      good = good_on pairs numbers w (event.Vote u m) g tt

      here : (step_line w (event.Vote u m)).state.member m ≡ did.state
      here = ap (λ s. s.state.member m) same ∙ at_here w.member m did.state

      voted : (y b : Bool) → weight_at ((step_line w (event.Vote u m)).state.member m) u y b ≡ weight false (holds (without (w.member m).asked u) u) true y b
      voted y b = ap (λ x. weight_at x u y b) (here ∙ h) ∙ voted_weight (w.member m) u mark.coord mark.count l y b

      tells : Tells (step_line w (event.Vote u m)) (message.Vote u m mark.coord true)
      tells = subst (λ z. Tells z (message.Vote u m mark.coord true)) (sym same) (member_tells w m did (message.Vote u m mark.coord true) sends)

      less : yes_lacking (step_line w (event.Vote u m)).state u m ≡ false → suc (left_between (step_line w (event.Vote u m)).state u m) ≤ left_between w u m
      less q =
          let n = voted (yes_lacking x u m) (ack_lacking x u m) in
          let b = vote_alone (holds (without (w.member m).asked u) u) (yes_lacking x u m) (ack_lacking x u m) q in
          let d = asked_weighs (holds (w.member m).engine.active u) (holds (w.member m).asked u) (holds (w.member m).engine.voted u) (yes_lacking w u m) (ack_lacking w u m) a in
          omega (arith, n, b, d)

      awaited : (d : ℕ) → 1 ≤ d → d ≤ (step_line w (event.Vote u m)).state.coordinators → lacks_yes (look ((step_line w (event.Vote u m)).state.coord d).table u) m ≡ true → Awaited u m mark.coord (step_line w (event.Vote u m)).state
      awaited d lo hi q =
          let r = some_entry (look (x.coord d).table u) m q in
          let home : Homes x u d = in_table x good.calm.facts u d (entry.Collecting r.0 r.1) r.2 in
          let one : d ≡ mark.coord = one_home x good.calm.facts u d mark.coord home (inl (good.calm.facts.sent.votes_named u m mark.coord true tells.sent)) in
          let n = voted false false in
          subst (λ c. Awaited u m c (step_line w (event.Vote u m)).state) one (record {
            member = member_on pairs numbers w (event.Vote u m) g tt m k;
            coord = (lo, hi);
            inactive = light_inactive (holds (x.member m).engine.active u) (holds (x.member m).asked u) (holds (x.member m).engine.voted u) (omega (arith, n));
            lacks = q;
          })

      given : Onto w (event.Vote u m)
      given es own all del = by (yes_lacking x u m) refl
        where
          by : (b : Bool) → yes_lacking (step_line w (event.Vote u m)).state u m ≡ b → Fell pairs numbers (event.Vote u m ∷ es) w
          by false q = fell_now pairs numbers w (event.Vote u m) es g tt own (pair_lowered pairs numbers w (event.Vote u m) g tt u m k (less q))
          by true q =
              let f = any_found x.coordinators (λ d. lacks_yes (look (x.coord d).table u) m) q in
              fell_later pairs numbers w (event.Vote u m) es g tt
              (vote_comes pairs numbers u m mark.coord true es (step_line w (event.Vote u m)).state good own del (all (message.Vote u m mark.coord true) tells.item) (awaited f.0 f.1 f.2 f.3, tells.sent))

  -- a vote at the member: less is left, or the member is as it was
  tried : (w : Federation) → Good pairs numbers w → (m u : ℕ) → IsMember w m → (Onto w (event.Vote u m)) ⊎ ((step_line w (event.Vote u m)).state.member m ≡ w.member m)
  tried w g m u k = by (standing_of (w.member m) u) refl
    where
      arrived : (st : Standing) → standing_of (w.member m) u ≡ st → step_line w (event.Vote u m) ≡ at_member w m (vote_again_by m (w.member m) u st)
      arrived st e = λ j. up_member w m (g.up (node.Member m) k j) (vote_again_by m (w.member m) u (e j))

      same : (did : MemberStep) → step_line w (event.Vote u m) ≡ at_member w m did → did.state ≡ w.member m → (step_line w (event.Vote u m)).state.member m ≡ w.member m
      same did e q = ap (λ s. s.state.member m) e ∙ at_here w.member m did.state ∙ q

      active : standing_of (w.member m) u ≡ IsActive → (o : Option AskedMark) → look (w.member m).asked u ≡ o → (Onto w (event.Vote u m)) ⊎ ((step_line w (event.Vote u m)).state.member m ≡ w.member m)
      active e None q = inr (same (vote_where_asked m (w.member m) u None) (arrived IsActive e ∙ ap (λ o. at_member w m (vote_where_asked m (w.member m) u o)) q) refl)
      active e (Some mark) q = given (cast w g m u k (active_is _ _ _ e) mark q (vote_of (w.member m).engine u mark.count) did at (vote_did m (w.member m) u mark.coord mark.count (g.calm.members m) (vote_of (w.member m).engine u mark.count)))
        where
          did : MemberStep
          did = vote_by m (w.member m) u mark.coord mark.count (vote_of (w.member m).engine u mark.count)

          at : step_line w (event.Vote u m) ≡ at_member w m did
          at = arrived IsActive e ∙ ap (λ o. at_member w m (vote_where_asked m (w.member m) u o)) q

          given : (Onto w (event.Vote u m)) ⊎ ((is_free (vote_of (w.member m).engine u mark.count) ≡ false) × (did.state ≡ w.member m)) →
              (Onto w (event.Vote u m)) ⊎ ((step_line w (event.Vote u m)).state.member m ≡ w.member m)
          given (inl f) = inl f
          given (inr h) = inr (same did at h.1)

      by : (st : Standing) → standing_of (w.member m) u ≡ st → (Onto w (event.Vote u m)) ⊎ ((step_line w (event.Vote u m)).state.member m ≡ w.member m)
      by IsActive e = active e (look (w.member m).asked u) refl
      by IsVoted e = inr (same (vote_again_by m (w.member m) u IsVoted) (arrived IsVoted e) refl)
      by IsInstalled e = inr (same (vote_again_by m (w.member m) u IsInstalled) (arrived IsInstalled e) refl)
      by IsAbsent e = inr (same (vote_again_by m (w.member m) u IsAbsent) (arrived IsAbsent e) refl)

  -- a vote at another member
  elsewhere : (w : Federation) (m n u : ℕ) → (n == m) ≡ false → (step_line w (event.Vote u n)).state.member m ≡ w.member m
  elsewhere w m n u e = by (w.member n).up
    where
      by : (b : Bool) → (up_member w n b (member_vote n (w.member n) u)).state.member m ≡ w.member m
      by true = ap (λ b. if b then (member_vote n (w.member n) u).state else w.member m) e
      by false = refl

  any_tried : (w : Federation) → Good pairs numbers w → (m n u : ℕ) → IsMember w m → (Onto w (event.Vote u n)) ⊎ ((step_line w (event.Vote u n)).state.member m ≡ w.member m)
  any_tried w g m n u k = by (n == m) refl
    where
      by : (b : Bool) → (n == m) ≡ b → (Onto w (event.Vote u n)) ⊎ ((step_line w (event.Vote u n)).state.member m ≡ w.member m)
      by true e = subst (λ i. (Onto w (event.Vote u i)) ⊎ ((step_line w (event.Vote u i)).state.member m ≡ w.member m)) (sym (eqb-true n m e)) (tried w g m u k)
      by false e = inr (elsewhere w m n u e)

  module _ (t m : ℕ) (mark : AskedMark) where
    -- the vote itself
    voted_now : (w : Federation) → Good pairs numbers w → IsMember w m → Free t m mark (w.member m) → Onto w (event.Vote t m)
    voted_now w g k p = by (cast w g m t k p.active mark p.asked (vote_of (w.member m).engine t mark.count) did at (vote_did m (w.member m) t mark.coord mark.count (g.calm.members m) (vote_of (w.member m).engine t mark.count)))
      where
        did : MemberStep
        did = vote_by m (w.member m) t mark.coord mark.count (vote_of (w.member m).engine t mark.count)

        at : step_line w (event.Vote t m) ≡ at_member w m did
        at = (λ j. up_member w m (g.up (node.Member m) k j) (vote_again_by m (w.member m) t (standing_by (p.active j) (holds (w.member m).engine.voted t) (holds (w.member m).committed t))))
            ∙ ap (λ o. at_member w m (vote_where_asked m (w.member m) t o)) p.asked

        by : (Onto w (event.Vote t m)) ⊎ ((is_free (vote_of (w.member m).engine t mark.count) ≡ false) × (did.state ≡ w.member m)) → Onto w (event.Vote t m)
        by (inl f) = f
        by (inr h) = absurd (let z : true ≡ false = sym p.free ∙ h.0 in cc)

    -- among votes that are tried
    pub vote_tried : (first rest : List Event) (w : Federation) → Good pairs numbers w → AreVotes first → MakeThemselves (first ++ rest) → DeliverTheirOwn (first ++ rest) w →
        Stands (event.Vote t m) first → IsMember w m → Free t m mark (w.member m) → Fell pairs numbers (first ++ rest) w
    vote_tried [] rest w g votes own del h k p = absurd h
    vote_tried (event.Vote u n ∷ es) rest w g votes own del (inl same) k p =
        subst (λ e. AllDelivered (step_line w e) (es ++ rest) → DeliverTheirOwn (es ++ rest) (step_line w e).state → Fell pairs numbers (e ∷ (es ++ rest)) w) (sym same)
        (λ a d. voted_now w g k p (es ++ rest) own.1 a d) del.0 del.1
    vote_tried (event.Vote u n ∷ es) rest w g votes own del (inr h) k p = by (vote_tried es rest (step_line w (event.Vote u n)).state) (any_tried w g m n u k)
      where
        by : (Good pairs numbers (step_line w (event.Vote u n)).state → AreVotes es → MakeThemselves (es ++ rest) → DeliverTheirOwn (es ++ rest) (step_line w (event.Vote u n)).state → Stands (event.Vote t m) es →
            IsMember (step_line w (event.Vote u n)).state m → Free t m mark ((step_line w (event.Vote u n)).state.member m) → Fell pairs numbers (es ++ rest) (step_line w (event.Vote u n)).state) →
            (Onto w (event.Vote u n)) ⊎ ((step_line w (event.Vote u n)).state.member m ≡ w.member m) → Fell pairs numbers (event.Vote u n ∷ (es ++ rest)) w
        by more (inl f) = f (es ++ rest) own.1 del.0 del.1
        by more (inr q) =
            fell_later pairs numbers w (event.Vote u n) (es ++ rest) g tt
            (more (good_on pairs numbers w (event.Vote u n) g tt) votes own.1 del.1 h (member_on pairs numbers w (event.Vote u n) g tt m k) (subst (Free t m mark) (sym q) p))
    vote_tried (e ∷ es) rest w g votes own del h k p = absurd votes
