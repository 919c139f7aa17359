-- The exchanges of a commit and of a question.
use Rattle.std.proofs.Common.{◌≡◌, ◌⊎◌, inl, inr, ℕ, suc, Bool, true, false, not, ◌||◌, ◌&&◌, ◌==◌, ◌≤◌, if◌then◌else◌, List, [], ◌∷◌, find, Option, None, Some, refl, sym, ap, ◌∙◌, subst, arith}
use Rattle.std.specs.Option.{is_some}
use Rattle.std.proofs.lemmas.Bool.{or_left, and_parts, eqb-true, eq-eqb, false_from_ne_true}
use Rattle.co_base.specs.declared.node.Node.TheVariants as node
use Rattle.co_message.specs.declared.answer.Answer.TheVariants as answer
use Rattle.co_message.specs.declared.event.Event.TheVariants as event
use Rattle.co_message.specs.declared.message.Message.TheVariants as message
use Rattle.co_record.specs.declared.record.Record.{Record}
use Rattle.co_record.specs.declared.record.Record.TheVariants as log
use Rattle.co_state.specs.declared.engine_state.Vote.{Vote}
use Rattle.co_state.specs.Table.{look, holds, without}
use Rattle.co_plain.specs.declared.coord_state.Entry.{Entry}
use Rattle.co_plain.specs.declared.coord_state.Entry.TheVariants as entry
use Rattle.co_plain.specs.declared.coord_step.CoordStep.{CoordStep}
use Rattle.co_plain.specs.declared.member_state.MemberState.{MemberState}
use Rattle.co_plain.specs.declared.member_step.MemberStep.{MemberStep}
use Rattle.co_plain.specs.declared.standing.Standing.{Standing}
use Rattle.co_plain.specs.declared.standing.Standing.TheVariants.{IsVoted, IsInstalled}
use Rattle.co_plain.specs.Decisions.{votes_for}
use Rattle.co_plain.specs.Invariants.{Memory, view, stands}
use Rattle.co_plain.specs.LogWrite.{outcome_of, with_batch, with_waiting}
use Rattle.co_plain.specs.Numbers.{has_number, numbers_lacking}
use Rattle.co_plain.specs.MemberStep.{standing_by, standing_of, with_log, forced_by}
use Rattle.co_plain.specs.Member.{installed_state, commit_by, abort_by, ask_by, coord_in, coord_of}
use Rattle.co_plain.specs.Coordinator.{decisions_to, resend_entry, ack_entry, ask_entry}
use Rattle.co_plain.specs.Wire.{was_sent}
use Rattle.co_plain.specs.Federation.{Federation, at_member, at_coord, message_list}
use Rattle.co_plain.specs.Step.{step_line, up_coord, up_member}
use Rattle.co_plain.specs.Quiet.{IsMember, IsCoordinator, Commits, Asks, IsEnabled, lacks_yes, lacks_ack, busy_in, IsBusy, BusyAt, BusyIn}
use Rattle.co_law_base.proofs.Facts.{Facts}
use Rattle.co_law_base.proofs.Carrying.{at_here, votes_held}
use Rattle.co_law_base.proofs.Lookups.{holds_found}
use Rattle.co_law_settle.specs.SettlingTurns.{AllUp, decides_for, acks_from, asks_from, wanted}
use Rattle.co_law_settle.specs.SettlingMeasure.{weight, weight_at, left_between, yes_lacking, ack_lacking}
use Rattle.co_law_settle.proofs.Falling.{Calm, MemberFalls}
use Rattle.co_law_settle.proofs.Homes.{in_table}
use Rattle.co_law_settle.proofs.Reaching.{Reaches, reaches_some, reaches_end, note_of, found_sent}
use Rattle.co_law_settle.proofs.AtMember.{member_same, dropped_weight, dropped_falls, installed_weight, installed_falls}
use Rattle.co_law_settle.proofs.AtCoord.{coord_same, AckNoted, ack_noted}
use Rattle.co_law_settle.proofs.Lowering.{member_raises, coord_raises, Next, Lowered, member_next, coord_next, deliver_is, left_by, ack_there}
use Rattle.co_law_settle.proofs.Prepares.{Exchanged, here, gone_left}

-- the commit for the member among those that are sent again
found_commit : (t c m : ℕ) (ms acks : List ℕ) → (has_number ms m && not (has_number acks m)) ≡ true →
    find (decides_for m) (decisions_to c t true (numbers_lacking ms acks)) ≡ Some (message.Decide t c m true)
found_commit t c m [] acks h = absurd (let z : false ≡ true = h in cc)
found_commit t c m (k ∷ ks) acks h = by (found_commit t c m ks acks) (k == m) refl (not (has_number acks k)) refl
  where
    Found : List ℕ → Type 0
    Found ns = find (decides_for m) (decisions_to c t true ns) ≡ Some (message.Decide t c m true)

    by : ((has_number ks m && not (has_number acks m)) ≡ true → Found (numbers_lacking ks acks)) → (b : Bool) → (k == m) ≡ b → (j : Bool) → not (has_number acks k) ≡ j →
        Found (if j then k ∷ numbers_lacking ks acks else numbers_lacking ks acks)
    by more true e true g =
        ap (λ b. if b then Some (message.Decide t c k true) else find (decides_for m) (decisions_to c t true (numbers_lacking ks acks))) e ∙ ap (λ i. Some (message.Decide t c i true)) (eqb-true k m e)
    by more true e false g =
        absurd (let q : false ≡ true = sym g ∙ ap (λ i. not (has_number acks i)) (eqb-true k m e) ∙ (and_parts (has_number (k ∷ ks) m) (not (has_number acks m)) h).1 in cc)
    by more false e j g = kept j
      where
        found : Found (numbers_lacking ks acks)
        found = more (sym (ap (λ b. (b || has_number ks m) && not (has_number acks m)) e) ∙ h)

        kept : (j : Bool) → Found (if j then k ∷ numbers_lacking ks acks else numbers_lacking ks acks)
        kept true = ap (λ b. if b then Some (message.Decide t c k true) else find (decides_for m) (decisions_to c t true (numbers_lacking ks acks))) e ∙ found
        kept false = found

ack_left : (a k v y : Bool) → 1 ≤ weight a k v y true
ack_left true true v y = omega arith
ack_left true false v y = omega arith
ack_left false k true true = omega arith
ack_left false k true false = omega arith
ack_left false k false true = omega arith
ack_left false k false false = omega arith

vote_left : (a k v y b : Bool) → v ≡ true → 1 ≤ weight a k v y b
vote_left true true v y b e = omega arith
vote_left true false v y b e = omega arith
vote_left false k true true b e = omega arith
vote_left false k true false b e = omega arith
vote_left false k false y b e = absurd (let z : false ≡ true = e in cc)

-- who is voted or committed is not active
not_active : (s : Federation) → Facts s → (t m : ℕ) → stands (view Memory (s.member m)) t ≡ true → holds (s.member m).engine.active t ≡ false
not_active s f t m h =
    false_from_ne_true _ (λ a. let p = holds_found (s.member m).engine.active t a in let z : true ≡ false = sym h ∙ ((f.members m).active t p.0 p.1).apart in cc)

module _ (s : Federation) (calm : Calm s) (up : AllUp s) where
  module _ (t m c : ℕ) (i : IsMember s m) (k : IsCoordinator s c) (ms acks : List ℕ) (o : look (s.coord c).table t ≡ Some (entry.Committed ms acks))
      (lacks : (has_number ms m && not (has_number acks m)) ≡ true) where
    abbrev did1 : CoordStep
    did1 = resend_entry c (s.coord c) t (Some (entry.Committed ms acks))

    resent : step_line s (event.Resend t c) ≡ at_coord s c did1
    resent = λ j. up_coord s c (up (node.Coord c) k j) (resend_entry c (s.coord c) t (o j))

    busy : IsBusy s t
    busy = BusyIn c k (ap busy_in o)

    next1 : Next s (at_coord s c did1).state
    next1 = coord_next s s (here s calm up) c t (event.Resend t c) did1 resent (coord_same s t (s.coord c) (calm.coords c)) (λ j b. busy)

    found : find (decides_for m) (decisions_to c t true (numbers_lacking ms acks)) ≡ Some (message.Decide t c m true)
    found = found_commit t c m ms acks lacks

    sent1 : was_sent (at_coord s c did1).state.sent (message.Decide t c m true) ≡ true
    sent1 = found_sent (decides_for m) s.sent (decisions_to c t true (numbers_lacking ms acks)) (message.Decide t c m true) found

    stood : stands (view Memory (s.member m)) t ≡ true
    stood = calm.facts.records.unended t c m ms Memory ((calm.facts.coords c).committed t ms acks o).recorded (and_parts _ _ lacks).0

    before : 1 ≤ left_between s t m
    before =
        let some = ack_left (holds (s.member m).engine.active t) (holds (s.member m).asked t) (holds (s.member m).engine.voted t) (yes_lacking s t m) in
        let same = ap (λ y. weight_at (s.member m) t (yes_lacking s t m) y) (ack_there s t m c k (ap (λ e. lacks_ack e m) o ∙ lacks)) in
        omega (arith, some, same)

    -- the decision is delivered, and the acknowledgement of it
    acknowledged : (did : MemberStep) (j : Bool) → step_line (at_coord s c did1).state (event.Deliver (message.Decide t c m true)) ≡ at_member (at_coord s c did1).state m did →
        MemberFalls t (s.member m) did.state → did.sent ≡ Some (message.Ack t m c) → ((a b : Bool) → weight_at did.state t a b ≡ weight false j false a b) → Exchanged s t m (Commits t m c)
    acknowledged did j e f sends w =
        record {
          first = up (node.Coord c) k;
          raises = coord_raises s c t (event.Resend t c) did1 resent (coord_same s t (s.coord c) (calm.coords c));
          rest = subst (Reaches (Lowered s t m) (wanted (Commits t m c))) (sym resent)
              (reaches_some (Lowered s t m) (decides_for m) (acks_from m ∷ []) (at_coord s c did1) (message.Decide t c m true)
              (note_of (decides_for m) [] (decisions_to c t true (numbers_lacking ms acks)) did1.answer ∙ found) (sent1, next1.up (node.Member m) i)
              (member_raises (at_coord s c did1).state m t (event.Deliver (message.Decide t c m true)) did e f)
              (subst (Reaches (Lowered s t m) (acks_from m ∷ [])) (sym e)
              (reaches_some (Lowered s t m) (acks_from m) [] (at_member (at_coord s c did1).state m did) (message.Ack t m c)
              (note_of (acks_from m) did.marks (message_list did.sent) did.answer ∙ sends2) (sent2, next2.up (node.Coord c) k)
              (coord_raises (at_member (at_coord s c did1).state m did).state c t (event.Deliver (message.Ack t m c)) did3 acked noted.falls)
              (reaches_end (Lowered s t m) (step_line (at_member (at_coord s c did1).state m did).state (event.Deliver (message.Ack t m c)))
              (subst (λ z. Lowered s t m z.state) (sym acked) lowered)))));
        }
      where
        w2 : Federation
        w2 = (at_member (at_coord s c did1).state m did).state

        next2 : Next s (at_member (at_coord s c did1).state m did).state
        next2 = member_next s (at_coord s c did1).state next1 m t (event.Deliver (message.Decide t c m true)) did e f (λ j b. busy)

        sends2 : find (acks_from m) (message_list did.sent) ≡ Some (message.Ack t m c)
        sends2 = ap (λ l. find (acks_from m) (message_list l)) sends ∙ ap (λ b. if b then Some (message.Ack t m c) else None) (eq-eqb m m refl)

        sent2 : was_sent (at_member (at_coord s c did1).state m did).state.sent (message.Ack t m c) ≡ true
        sent2 = found_sent (acks_from m) (at_coord s c did1).state.sent (message_list did.sent) (message.Ack t m c) sends2

        still : look ((at_member (at_coord s c did1).state m did).state.coord c).table t ≡ Some (entry.Committed ms acks)
        still = ap (λ y. look y.table t) (at_here s.coord c (s.coord c)) ∙ o

        did3 : CoordStep
        did3 = ack_entry ((at_member (at_coord s c did1).state m did).state.coord c) t m (Some (entry.Committed ms acks))

        acked : step_line (at_member (at_coord s c did1).state m did).state (event.Deliver (message.Ack t m c)) ≡ at_coord (at_member (at_coord s c did1).state m did).state c did3
        acked = deliver_is (at_member (at_coord s c did1).state m did).state (message.Ack t m c) sent2
            ∙ (λ l. up_coord (at_member (at_coord s c did1).state m did).state c (next2.up (node.Coord c) k l)
            (ack_entry ((at_member (at_coord s c did1).state m did).state.coord c) t m (still l)))

        noted : AckNoted (at_member (at_coord s c did1).state m did).state next2.calm.facts c t m (next2.calm.coords c) did3
        noted = ack_noted (at_member (at_coord s c did1).state m did).state next2.calm.facts c t m (next2.calm.coords c) ms acks still lacks

        next3 : Next s (at_coord (at_member (at_coord s c did1).state m did).state c did3).state
        next3 = coord_next s (at_member (at_coord s c did1).state m did).state next2 c t (event.Deliver (message.Ack t m c)) did3 acked noted.falls (λ j b. busy)

        lowered : Lowered s t m (at_coord (at_member (at_coord s c did1).state m did).state c did3).state
        lowered = record { next = next3; lower = lower }
          where
            z : Federation
            z = (at_coord (at_member (at_coord s c did1).state m did).state c did3).state

            own : z.coord c ≡ did3.state
            own = at_here (at_member (at_coord s c did1).state m did).state.coord c did3.state

            lower : suc (left_between z t m) ≤ left_between s t m
            lower =
                let by = left_by z next3.calm.facts t m c (in_table s calm.facts t c (entry.Committed ms acks) o) in
                let same = ap (λ x. weight_at x t (lacks_yes (look (z.coord c).table t) m) (lacks_ack (look (z.coord c).table t) m)) (at_here s.member m did.state) in
                let now = w (lacks_yes (look (z.coord c).table t) m) (lacks_ack (look (z.coord c).table t) m) in
                let none = gone_left j (lacks_yes (look (z.coord c).table t) m) (lacks_ack (look (z.coord c).table t) m)
                (ap (λ y. lacks_yes (look y.table t) m) own ∙ noted.no_vote) (ap (λ y. lacks_ack (look y.table t) m) own ∙ noted.no_ack) in
                let was = before in
                omega (arith, by, same, now, none, was)

    inactive : holds (s.member m).engine.active t ≡ false
    inactive = not_active s calm.facts t m stood

    arrived : (st : Standing) → standing_of (s.member m) t ≡ st →
        step_line (at_coord s c did1).state (event.Deliver (message.Decide t c m true)) ≡ at_member (at_coord s c did1).state m (commit_by m (s.member m) t c st)
    arrived st e = deliver_is (at_coord s c did1).state (message.Decide t c m true) sent1 ∙ (λ j. up_member (at_coord s c did1).state m (up (node.Member m) i j) (commit_by m (s.member m) t c (e j)))

    standing_here : (v d : Bool) → holds (s.member m).engine.voted t ≡ v → holds (s.member m).committed t ≡ d → standing_of (s.member m) t ≡ standing_by false v d
    standing_here v d e g = λ j. standing_by (inactive j) (e j) (g j)

    -- by whether it is voted or installed
    committed : (holds (s.member m).engine.voted t ≡ true) ⊎ ((holds (s.member m).engine.voted t ≡ false) × (holds (s.member m).committed t ≡ true)) → Exchanged s t m (Commits t m c)
    committed (inl v) =
        acknowledged (commit_by m (s.member m) t c IsVoted) (holds (s.member m).asked t) (arrived IsVoted (standing_here true (holds (s.member m).committed t) v refl))
        (subst (MemberFalls t (s.member m)) (sym state) (installed_falls (s.member m) t vote.0 (with_batch (s.member m).log batch) vote.1 refl)) sends
        (λ x y. ap (λ z. weight_at z t x y) state ∙ installed_weight (s.member m) t vote.0 (with_batch (s.member m).log batch) vote.1 x y
        ∙ ap (λ b. weight b (holds (s.member m).asked t) false x y) inactive)
      where
        vote : (e : Vote) × (look (s.member m).engine.voted t ≡ Some e)
        vote = holds_found (s.member m).engine.voted t v

        batch : List Record
        batch = log.Commit t [] ∷ []

        state : (commit_by m (s.member m) t c IsVoted).state ≡ with_log (installed_state (s.member m) t) (with_batch (s.member m).log batch)
        state = ap (λ a. (forced_by m (installed_state (s.member m) t) (log.Commit t [] ∷ []) answer.Installed (Some (message.Ack t m c)) (outcome_of a 4)).state) (calm.members m)

        sends : (commit_by m (s.member m) t c IsVoted).sent ≡ Some (message.Ack t m c)
        sends = ap (λ a. (forced_by m (installed_state (s.member m) t) (log.Commit t [] ∷ []) answer.Installed (Some (message.Ack t m c)) (outcome_of a 4)).sent) (calm.members m)
    committed (inr p) =
        acknowledged (commit_by m (s.member m) t c IsInstalled) (holds (s.member m).asked t) (arrived IsInstalled (standing_here false true p.0 p.1)) (member_same t (s.member m) (calm.members m)) refl
        (λ x y. λ j. weight (inactive j) (holds (s.member m).asked t) (p.0 j) x y)

    voted_or_not : (v d : Bool) → (v || d) ≡ true → (v ≡ true) ⊎ ((v ≡ false) × (d ≡ true))
    voted_or_not true d h = inl refl
    voted_or_not false d h = inr (refl, h)

    committing : Exchanged s t m (Commits t m c)
    committing = committed (voted_or_not (holds (s.member m).engine.voted t) (holds (s.member m).committed t) stood)

  -- the exchange of a commit
  pub commits : (t m c : ℕ) → IsEnabled s (Commits t m c) → Exchanged s t m (Commits t m c)
  commits t m c h = by (look (s.coord c).table t) refl h.2
    where
      by : (o : Option Entry) → look (s.coord c).table t ≡ o → lacks_ack o m ≡ true → Exchanged s t m (Commits t m c)
      by None e l = absurd (let z : false ≡ true = l in cc)
      by (Some entry.Idle) e l = absurd (let z : false ≡ true = l in cc)
      by (Some (entry.Collecting parts yeses)) e l = absurd (let z : false ≡ true = l in cc)
      by (Some (entry.Committed ms acks)) e l = committing t m c h.0 h.1 ms acks e l

  module _ (t m c : ℕ) (i : IsMember s m) (k : IsCoordinator s c) (v : votes_for (look (s.member m).engine.voted t) c ≡ true) (gone : look (s.coord c).table t ≡ None) where
    voted : holds (s.member m).engine.voted t ≡ true
    voted = votes_held (view Memory (s.member m)) t c v

    standing : standing_of (s.member m) t ≡ IsVoted
    standing = λ j. standing_by (not_active s calm.facts t m (or_left _ _ voted) j) (voted j) (holds (s.member m).committed t)

    named : coord_of (s.member m) t ≡ c
    named = by (look (s.member m).engine.voted t) refl v
      where
        by : (o : Option Vote) → look (s.member m).engine.voted t ≡ o → votes_for o c ≡ true → coord_of (s.member m) t ≡ c
        by None e h = absurd (let z : false ≡ true = h in cc)
        by (Some vote) e h = ap coord_in e ∙ eqb-true vote.coord c h

    waits : IsBusy s t
    waits = BusyAt m i (or_left _ _ voted)

    abbrev asks1 : MemberStep
    asks1 = ask_by m (s.member m) t IsVoted

    abbrev s1 : Federation
    s1 = (at_member s m (ask_by m (s.member m) t IsVoted)).state

    asked : step_line s (event.Ask t m) ≡ at_member s m asks1
    asked = λ j. up_member s m (up (node.Member m) i j) (ask_by m (s.member m) t (standing j))

    next1' : Next s s1
    next1' = member_next s s (here s calm up) m t (event.Ask t m) asks1 asked (member_same t (s.member m) (calm.members m)) (λ j b. waits)

    finds1 : find (asks_from m) (message_list asks1.sent) ≡ Some (message.Ask t m c)
    finds1 = ap (λ d. if m == m then Some (message.Ask t m d) else None) named ∙ ap (λ b. if b then Some (message.Ask t m c) else None) (eq-eqb m m refl)

    question_sent : was_sent s1.sent (message.Ask t m c) ≡ true
    question_sent = found_sent (asks_from m) s.sent (message_list asks1.sent) (message.Ask t m c) finds1

    abbrev answers2 : CoordStep
    answers2 = ask_entry c (s.coord c) t m None

    answered : step_line s1 (event.Deliver (message.Ask t m c)) ≡ at_coord s1 c answers2
    answered = deliver_is s1 (message.Ask t m c) question_sent ∙ (λ j. up_coord s1 c (up (node.Coord c) k j) (ask_entry c (s.coord c) t m (gone j)))

    abbrev s2 : Federation
    s2 = (at_coord s1 c (ask_entry c (s.coord c) t m None)).state

    next2' : Next s s2
    next2' = coord_next s s1 next1' c t (event.Deliver (message.Ask t m c)) answers2 answered (coord_same s1 t (s.coord c) (calm.coords c)) (λ j b. waits)

    finds2 : find (decides_for m) answers2.sent ≡ Some (message.Decide t c m false)
    finds2 = ap (λ b. if b then Some (message.Decide t c m false) else None) (eq-eqb m m refl)

    decision_sent : was_sent s2.sent (message.Decide t c m false) ≡ true
    decision_sent = found_sent (decides_for m) s1.sent answers2.sent (message.Decide t c m false) finds2

    abbrev x2 : MemberState
    x2 = s2.member m

    unchanged : s2.member m ≡ s.member m
    unchanged = at_here s.member m (s.member m)

    abbrev drops3 : MemberStep
    drops3 = abort_by (s2.member m) t IsVoted

    dropped_there : step_line s2 (event.Deliver (message.Decide t c m false)) ≡ at_member s2 m drops3
    dropped_there = deliver_is s2 (message.Decide t c m false) decision_sent
        ∙ (λ j. up_member s2 m (next2'.up (node.Member m) i j) (abort_by (s2.member m) t ((ap (λ x. standing_of x t) unchanged ∙ standing) j)))

    next3' : Next s (at_member s2 m drops3).state
    next3' = member_next s s2 next2' m t (event.Deliver (message.Decide t c m false)) drops3 dropped_there
        (dropped_falls (s2.member m) t (with_waiting (s2.member m).log (log.Abort t)) (next2'.calm.members m)) (λ j b. waits)

    asking_lower : suc (left_between (at_member s2 m drops3).state t m) ≤ left_between s t m
    asking_lower =
        let z = (at_member s2 m drops3).state in
        let none = ap (λ y. look y.table t) (at_here s.coord c (s.coord c)) ∙ gone in
        let by = left_by z next3'.calm.facts t m c (inl (((calm.facts.members m).views Memory).named t c v)) in
        let same = ap (λ x. weight_at x t (lacks_yes (look (z.coord c).table t) m) (lacks_ack (look (z.coord c).table t) m)) (at_here s2.member m drops3.state) in
        let now = dropped_weight (s2.member m) t (with_waiting (s2.member m).log (log.Abort t)) (lacks_yes (look (z.coord c).table t) m) (lacks_ack (look (z.coord c).table t) m) in
        let zero = gone_left (holds (without (s2.member m).asked t) t) (lacks_yes (look (z.coord c).table t) m) (lacks_ack (look (z.coord c).table t) m)
        (ap (λ e. lacks_yes e m) none) (ap (λ e. lacks_ack e m) none) in
        let was = vote_left (holds (s.member m).engine.active t) (holds (s.member m).asked t) (holds (s.member m).engine.voted t) (yes_lacking s t m) (ack_lacking s t m) voted in
        omega (arith, by, same, now, zero, was)

    questioned : Exchanged s t m (Asks t m c)
    questioned =
        record {
          first = up (node.Member m) i;
          raises = member_raises s m t (event.Ask t m) asks1 asked (member_same t (s.member m) (calm.members m));
          rest = subst (Reaches (Lowered s t m) (wanted (Asks t m c))) (sym asked)
              (reaches_some (Lowered s t m) (asks_from m) (decides_for m ∷ []) (at_member s m asks1) (message.Ask t m c)
              (note_of (asks_from m) [] (message_list asks1.sent) asks1.answer ∙ finds1) (question_sent, next1'.up (node.Coord c) k)
              (coord_raises s1 c t (event.Deliver (message.Ask t m c)) answers2 answered (coord_same s1 t (s.coord c) (calm.coords c)))
              (subst (Reaches (Lowered s t m) (decides_for m ∷ [])) (sym answered)
              (reaches_some (Lowered s t m) (decides_for m) [] (at_coord s1 c answers2) (message.Decide t c m false)
              (note_of (decides_for m) [] answers2.sent answers2.answer ∙ finds2) (decision_sent, next2'.up (node.Member m) i)
              (member_raises s2 m t (event.Deliver (message.Decide t c m false)) drops3 dropped_there (dropped_falls (s2.member m) t (with_waiting (s2.member m).log (log.Abort t)) (next2'.calm.members m)))
              (reaches_end (Lowered s t m) (step_line s2 (event.Deliver (message.Decide t c m false)))
              (subst (λ z. Lowered s t m z.state) (sym dropped_there) (record { next = next3'; lower = asking_lower }))))));
        }

  -- the exchange of a question
  pub asks : (t m c : ℕ) → IsEnabled s (Asks t m c) → Exchanged s t m (Asks t m c)
  asks t m c h = let p = and_parts _ _ h.2 in questioned t m c h.0 h.1 p.0 (lacking (look (s.coord c).table t) p.1)
    where
      lacking : (o : Option Entry) → not (is_some o) ≡ true → o ≡ None
      lacking None e = refl
      lacking (Some x) e = absurd (let z : false ≡ true = e in cc)
