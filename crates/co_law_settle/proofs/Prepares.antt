-- The exchanges of a prepare and of a vote.
use Rattle.std.proofs.Common.{◌≡◌, inl, ℕ, suc, Bool, true, false, not, ◌||◌, ◌&&◌, ◌==◌, ◌≤◌, if◌then◌else◌, List, [], ◌∷◌, find, length, Option, None, Some, refl, sym, ap, ◌∙◌, subst, arith}
use Rattle.std.specs.Option.{is_some}
use Rattle.std.proofs.lemmas.Bool.{or_left, or_right, and_parts, eqb-true, eq-eqb}
use Rattle.std.proofs.lemmas.Bool.Decides.{nat_tests}
use Rattle.co_base.specs.declared.node.Node.TheVariants as node
use Rattle.co_base.specs.declared.part.Part.{Part}
use Rattle.co_message.specs.declared.event.Event.{Event}
use Rattle.co_message.specs.declared.event.Event.TheVariants as event
use Rattle.co_message.specs.declared.message.Message.TheVariants as message
use Rattle.co_state.specs.declared.verdict.Verdict.{Verdict}
use Rattle.co_state.specs.declared.verdict.Verdict.TheVariants.{LostOperations}
use Rattle.co_state.specs.Table.{look, holds, without}
use Rattle.co_state.specs.EngineState.{operations_of, operations_in}
use Rattle.co_state.specs.StaleRead.{stale_key}
use Rattle.co_state.specs.Changes.{sets_of}
use Rattle.co_state.specs.VotingRule.{vote_of, kept_count, unless_stale, holder_of}
use Rattle.co_plain.specs.declared.coord_state.Entry.{Entry}
use Rattle.co_plain.specs.declared.coord_state.Entry.TheVariants as entry
use Rattle.co_plain.specs.declared.coord_step.CoordStep.{CoordStep}
use Rattle.co_plain.specs.declared.member_state.AskedMark.{AskedMark}
use Rattle.co_plain.specs.declared.member_state.MemberState.{MemberState}
use Rattle.co_plain.specs.declared.member_step.MemberStep.{MemberStep}
use Rattle.co_plain.specs.declared.standing.Standing.{Standing}
use Rattle.co_plain.specs.declared.standing.Standing.TheVariants.{IsActive, IsVoted, IsInstalled, IsAbsent}
use Rattle.co_plain.specs.Numbers.{has_number}
use Rattle.co_plain.specs.CoordStep.{has_part}
use Rattle.co_plain.specs.MemberStep.{standing_by, standing_of}
use Rattle.co_plain.specs.Member.{with_mark, prepare_by, vote_by, coord_of, vote_again_by, vote_where_asked}
use Rattle.co_plain.specs.Coordinator.{prepares_to, parts_lacking, resend_entry}
use Rattle.co_plain.specs.Wire.{was_sent}
use Rattle.co_plain.specs.Invariants.{Memory}
use Rattle.co_plain.specs.Federation.{Federation, at_member, at_coord, message_list}
use Rattle.co_plain.specs.Step.{step_line, up_coord, up_member}
use Rattle.co_plain.specs.Quiet.{IsMember, IsCoordinator, Exchange, Prepares, Votes, IsEnabled, lacks_yes, lacks_ack, may_be_asked, is_free, free_where_asked, busy_in, IsBusy, BusyAt, BusyIn}
use Rattle.co_law_base.proofs.Facts.{rest_of, belongs}
use Rattle.co_law_base.proofs.Carrying.{at_here}
use Rattle.co_law_moves.proofs.Standings.{active_is, voted_is, absent_is, votes_own}
use Rattle.co_law_runs.proofs.InQuiet.{belongs_fits}
use Rattle.co_law_settle.specs.SettlingTurns.{AllUp, prepares_member, votes_from, note_in, IsServed, wanted, first_event}
use Rattle.co_law_settle.specs.SettlingMeasure.{RaisesNothing, weight, weight_at, left_between, yes_lacking, ack_lacking}
use Rattle.co_law_settle.proofs.Falling.{Calm, falls_same, MemberFalls}
use Rattle.co_law_settle.proofs.Homes.{Homes, in_table, one_home}
use Rattle.co_law_settle.proofs.Reaching.{Reaches, reaches_none, reaches_some, note_of, found_sent}
use Rattle.co_law_settle.proofs.AtMember.{falls_twice, member_same, dropped_weight, dropped_falls, marked_weight, marked_falls, voted_weight, voted_falls, VoteDid, SaysNo, SaysYes, Holds, vote_did}
use Rattle.co_law_settle.proofs.AtCoord.{coord_same}
use Rattle.co_law_settle.proofs.Lowering.{member_raises, coord_raises, Next, Lowered, member_next, coord_next, deliver_is, left_by, yes_there, AfterVote, vote_delivered}

-- what an exchange does from a state: its first event is served, and what follows reaches this
pub record Exchanged (s : Federation) (t m : ℕ) (e : Exchange) : Type 0 where
  pub first : IsServed s (first_event e)
  pub raises : RaisesNothing s (first_event e)
  pub rest : Reaches (Lowered s t m) (wanted e) (step_line s (first_event e))

-- the prepare of the member among those that are sent again
found_prepare : (t c m : ℕ) (parts : List Part) (yeses : List ℕ) → (has_part parts m && not (has_number yeses m)) ≡ true →
    (n : ℕ) × (find (prepares_member m) (prepares_to c t (parts_lacking parts yeses)) ≡ Some (message.Prepare t c m n))
found_prepare t c m [] yeses h = absurd (let z : false ≡ true = h in cc)
found_prepare t c m (p ∷ ps) yeses h = by (found_prepare t c m ps yeses) (p.member == m) refl (not (has_number yeses p.member)) refl
  where
    Found : List Part → Type 0
    Found qs = (n : ℕ) × (find (prepares_member m) (prepares_to c t qs) ≡ Some (message.Prepare t c m n))

    by : ((has_part ps m && not (has_number yeses m)) ≡ true → Found (parts_lacking ps yeses)) → (b : Bool) → (p.member == m) ≡ b → (k : Bool) → not (has_number yeses p.member) ≡ k →
        Found (if k then p ∷ parts_lacking ps yeses else parts_lacking ps yeses)
    by more true e true g = (
      p.count,
      ap (λ b. if b then Some (message.Prepare t c p.member p.count) else find (prepares_member m) (prepares_to c t (parts_lacking ps yeses))) e
          ∙ ap (λ j. Some (message.Prepare t c j p.count)) (eqb-true p.member m e),
    )
    by more true e false g =
        absurd (let q : false ≡ true = sym g ∙ ap (λ j. not (has_number yeses j)) (eqb-true p.member m e) ∙ (and_parts (has_part (p ∷ ps) m) (not (has_number yeses m)) h).1 in cc)
    by more false e k g = by2 k
      where
        found : Found (parts_lacking ps yeses)
        found = more (sym (ap (λ b. (b || has_part ps m) && not (has_number yeses m)) e) ∙ h)

        by2 : (k : Bool) → Found (if k then p ∷ parts_lacking ps yeses else parts_lacking ps yeses)
        by2 true = (found.0, ap (λ b. if b then Some (message.Prepare t c p.member p.count) else find (prepares_member m) (prepares_to c t (parts_lacking ps yeses))) e ∙ found.1)
        by2 false = found

-- weights before
one_left : (a k v b : Bool) → 1 ≤ weight a k v true b
one_left true true v b = omega arith
one_left true false v b = omega arith
one_left false k true b = omega arith
one_left false k false b = omega arith

two_left : (a k v b : Bool) → (a || v) ≡ true → 2 ≤ weight a k v true b
two_left true true v b h = omega arith
two_left true false v b h = omega arith
two_left false k true b h = omega arith
two_left false k false b h = absurd (let z : false ≡ true = h in cc)

three_left : (a k v y b : Bool) → a ≡ true → k ≡ false → weight a k v y b ≡ 3
three_left true false v y b h g = refl
three_left true true v y b h g = absurd (let z : true ≡ false = g in cc)
three_left false k v y b h g = absurd (let z : false ≡ true = h in cc)

asked_left : (a k v y b : Bool) → a ≡ true → k ≡ true → weight a k v y b ≡ 2
asked_left true true v y b h g = refl
asked_left true false v y b h g = absurd (let z : false ≡ true = g in cc)
asked_left false k v y b h g = absurd (let z : false ≡ true = h in cc)

-- weights after
voted_left : (k y b : Bool) → y ≡ false → weight false k true y b ≡ 1
voted_left k false b e = refl
voted_left k true b e = absurd (let z : true ≡ false = e in cc)

pub gone_left : (k y b : Bool) → y ≡ false → b ≡ false → weight false k false y b ≡ 0
gone_left k false false e h = refl
gone_left k true b e h = absurd (let z : true ≡ false = e in cc)
gone_left k false true e h = absurd (let z : true ≡ false = h in cc)

pub few_left : (k y b : Bool) → weight false k false y b ≤ 1
few_left k true b = omega arith
few_left k false true = omega arith
few_left k false false = omega arith

-- a member's step that sends a vote, and the delivery of it
module _ (s w : Federation) (n : Next s w) (t c m : ℕ) (busy : IsBusy s t) (i : IsCoordinator w c) (home : Homes w t c) where
  pub vote_follows : (e : Event) (did : MemberStep) (granted : Bool) → step_line w e ≡ at_member w m did → MemberFalls t (w.member m) did.state →
      did.sent ≡ Some (message.Vote t m c granted) →
      ((z : Federation) → AfterVote (at_member w m did).state z t c m granted →
      suc (weight_at did.state t (lacks_yes (look (z.coord c).table t) m) (lacks_ack (look (z.coord c).table t) m)) ≤ left_between s t m) →
      Reaches (Lowered s t m) (votes_from m ∷ []) (at_member w m did)
  vote_follows e did granted same f sends lower =
      reaches_some (Lowered s t m) (votes_from m) [] (at_member w m did) (message.Vote t m c granted) (note_of (votes_from m) did.marks (message_list did.sent) did.answer ∙ found)
      last.0 last.1 last.2
    where
      found : find (votes_from m) (message_list did.sent) ≡ Some (message.Vote t m c granted)
      found = ap (λ o. find (votes_from m) (message_list o)) sends ∙ ap (λ b. if b then Some (message.Vote t m c granted) else None) (eq-eqb m m refl)

      less : (z : Federation) → AfterVote (at_member w m did).state z t c m granted → suc (left_between z t m) ≤ left_between s t m
      less z a =
          let by = left_by z a.facts t m c a.home in
          let same = ap (λ x. weight_at x t (lacks_yes (look (z.coord c).table t) m) (lacks_ack (look (z.coord c).table t) m)) (a.member_same ∙ at_here w.member m did.state) in
          let l = lower z a in
          omega (arith, by, same, l)

      last : IsServed (at_member w m did).state (event.Deliver (message.Vote t m c granted)) × RaisesNothing (at_member w m did).state (event.Deliver (message.Vote t m c granted)) ×
          Reaches (Lowered s t m) [] (step_line (at_member w m did).state (event.Deliver (message.Vote t m c granted)))
      last = vote_delivered s (at_member w m did).state (member_next s w n m t e did same f (λ j k. busy)) t c m busy granted i
          (found_sent (votes_from m) w.sent (message_list did.sent) (message.Vote t m c granted) found) home less

voted_apart : (a v c : Bool) → standing_by a v c ≡ IsVoted → (a ≡ false) × (v ≡ true)
voted_apart true v c e = absurd (let z : IsActive ≡ IsVoted = e in cc)
voted_apart false true c e = (refl, refl)
voted_apart false false true e = absurd (let z : IsInstalled ≡ IsVoted = e in cc)
voted_apart false false false e = absurd (let z : IsAbsent ≡ IsVoted = e in cc)

-- who is not active has no operations, so a prepare about some finds them lost
absent_loses : (x : MemberState) (t n : ℕ) → holds x.engine.active t ≡ false → 1 ≤ n → vote_of x.engine t n ≡ LostOperations
absent_loses x t n h l = by (look x.engine.active t) refl h
  where
    by : (o : _) → look x.engine.active t ≡ o → is_some o ≡ false → vote_of x.engine t n ≡ LostOperations
    by None e k =
        let none : kept_count x.engine t ≡ 0 = ap (λ o. length (operations_in o)) e in
        ap (λ b. if b then unless_stale (stale_key x.engine t) (holder_of x.engine t (sets_of (operations_of x.engine t))) else LostOperations)
        (let q : (kept_count x.engine t == n) ≡ false = grind (arith, nat_tests, none, l) in q)
    by (Some os) e k = absurd (let z : true ≡ false = k in cc)

module _ (s : Federation) (calm : Calm s) (up : AllUp s) where
  pub here : Next s s
  here = record { calm = calm; up = up; falls = falls_same s; busy = λ u h. h }

  module _ (t m c : ℕ) (i : IsMember s m) (k : IsCoordinator s c) (parts : List Part) (yeses : List ℕ) (o : look (s.coord c).table t ≡ Some (entry.Collecting parts yeses))
      (lacks : (has_part parts m && not (has_number yeses m)) ≡ true) (n : ℕ)
      (found : find (prepares_member m) (prepares_to c t (parts_lacking parts yeses)) ≡ Some (message.Prepare t c m n)) where
    abbrev did1 : CoordStep
    did1 = resend_entry c (s.coord c) t (Some (entry.Collecting parts yeses))

    resent : step_line s (event.Resend t c) ≡ at_coord s c did1
    resent = λ j. up_coord s c (up (node.Coord c) k j) (resend_entry c (s.coord c) t (o j))

    busy : IsBusy s t
    busy = BusyIn c k (ap busy_in o)

    next1 : Next s (at_coord s c did1).state
    next1 = coord_next s s here c t (event.Resend t c) did1 resent (coord_same s t (s.coord c) (calm.coords c)) (λ j b. busy)

    sent1 : was_sent (at_coord s c did1).state.sent (message.Prepare t c m n) ≡ true
    sent1 = found_sent (prepares_member m) s.sent (prepares_to c t (parts_lacking parts yeses)) (message.Prepare t c m n) found

    home : Homes s t c
    home = in_table s calm.facts t c (entry.Collecting parts yeses) o

    before_yes : yes_lacking s t m ≡ true
    before_yes = yes_there s t m c k (ap (λ e. lacks_yes e m) o ∙ lacks)

    still : look ((at_coord s c did1).state.coord c).table t ≡ Some (entry.Collecting parts yeses)
    still = ap (λ y. look y.table t) (at_here s.coord c (s.coord c)) ∙ o

    arrived : (st : Standing) → standing_of (s.member m) t ≡ st →
        step_line (at_coord s c did1).state (event.Deliver (message.Prepare t c m n)) ≡ at_member (at_coord s c did1).state m (prepare_by m (s.member m) t c n st)
    arrived st e = deliver_is (at_coord s c did1).state (message.Prepare t c m n) sent1 ∙ (λ j. up_member (at_coord s c did1).state m (up (node.Member m) i j) (prepare_by m (s.member m) t c n (e j)))

    -- a no is recorded: nothing is left here
    no_sent : (did : MemberStep) (j : Bool) → step_line (at_coord s c did1).state (event.Deliver (message.Prepare t c m n)) ≡ at_member (at_coord s c did1).state m did →
        MemberFalls t (s.member m) did.state → did.sent ≡ Some (message.Vote t m c false) →
        ((a b : Bool) → weight_at did.state t a b ≡ weight false j false a b) →
        Reaches (Lowered s t m) (votes_from m ∷ []) (at_member (at_coord s c did1).state m did)
    no_sent did j e f sends w =
        vote_follows s (at_coord s c did1).state next1 t c m busy k home (event.Deliver (message.Prepare t c m n)) did false e f sends
        (λ z a.
        let gone = a.gone refl (ap (λ e. lacks_yes e m) still ∙ lacks) in
        let now = w (lacks_yes (look (z.coord c).table t) m) (lacks_ack (look (z.coord c).table t) m) in
        let none = gone_left j (lacks_yes (look (z.coord c).table t) m) (lacks_ack (look (z.coord c).table t) m) (ap (λ e. lacks_yes e m) gone) (ap (λ e. lacks_ack e m) gone) in
        let was = one_left (holds (s.member m).engine.active t) (holds (s.member m).asked t) (holds (s.member m).engine.voted t) (ack_lacking s t m) in
        let same = ap (λ y. weight_at (s.member m) t y (ack_lacking s t m)) before_yes in
        omega (arith, now, none, was, same))

    -- a yes is recorded: the decision is left here
    yes_sent : (did : MemberStep) (j : Bool) → step_line (at_coord s c did1).state (event.Deliver (message.Prepare t c m n)) ≡ at_member (at_coord s c did1).state m did →
        MemberFalls t (s.member m) did.state → did.sent ≡ Some (message.Vote t m c true) →
        ((a b : Bool) → weight_at did.state t a b ≡ weight false j true a b) → (holds (s.member m).engine.active t || holds (s.member m).engine.voted t) ≡ true →
        Reaches (Lowered s t m) (votes_from m ∷ []) (at_member (at_coord s c did1).state m did)
    yes_sent did j e f sends w stood =
        vote_follows s (at_coord s c did1).state next1 t c m busy k home (event.Deliver (message.Prepare t c m n)) did true e f sends
        (λ z a.
        let now = w (lacks_yes (look (z.coord c).table t) m) (lacks_ack (look (z.coord c).table t) m) in
        let one = voted_left j (lacks_yes (look (z.coord c).table t) m) (lacks_ack (look (z.coord c).table t) m) a.recorded in
        let was = two_left (holds (s.member m).engine.active t) (holds (s.member m).asked t) (holds (s.member m).engine.voted t) (ack_lacking s t m) stood in
        let same = ap (λ y. weight_at (s.member m) t y (ack_lacking s t m)) before_yes in
        omega (arith, now, one, was, same))

    note1 : note_in (prepares_member m) (at_coord s c did1).items ≡ Some (message.Prepare t c m n)
    note1 = note_of (prepares_member m) [] (prepares_to c t (parts_lacking parts yeses)) did1.answer ∙ found

    served1 : IsServed (at_coord s c did1).state (event.Deliver (message.Prepare t c m n))
    served1 = (sent1, next1.up (node.Member m) i)

    -- the prepare is delivered, and this follows
    follows : (did : MemberStep) → step_line (at_coord s c did1).state (event.Deliver (message.Prepare t c m n)) ≡ at_member (at_coord s c did1).state m did →
        MemberFalls t (s.member m) did.state → Reaches (Lowered s t m) (votes_from m ∷ []) (at_member (at_coord s c did1).state m did) → Exchanged s t m (Prepares t m c)
    follows did e f r =
        record {
          first = up (node.Coord c) k;
          raises = coord_raises s c t (event.Resend t c) did1 resent (coord_same s t (s.coord c) (calm.coords c));
          rest = subst (Reaches (Lowered s t m) (wanted (Prepares t m c))) (sym resent)
              (reaches_some (Lowered s t m) (prepares_member m) (votes_from m ∷ []) (at_coord s c did1) (message.Prepare t c m n) note1 served1
              (member_raises (at_coord s c did1).state m t (event.Deliver (message.Prepare t c m n)) did e f)
              (subst (Reaches (Lowered s t m) (votes_from m ∷ [])) (sym e) r));
        }

    -- an active one, not asked before
    active_falls : holds (s.member m).engine.active t ≡ true → (did : MemberStep) → VoteDid m (with_mark (s.member m) t c n) t c n (vote_of (s.member m).engine t n) did →
        MemberFalls t (s.member m) did.state
    active_falls a did v = by v
      where
        marked : MemberFalls t (s.member m) (with_mark (s.member m) t c n)
        marked = marked_falls (s.member m) t c n (calm.members m) a

        by : VoteDid m (with_mark (s.member m) t c n) t c n (vote_of (s.member m).engine t n) did → MemberFalls t (s.member m) did.state
        by (SaysNo d sends) =
            subst (MemberFalls t (s.member m)) (sym d) (falls_twice t (s.member m) (with_mark (s.member m) t c n) _ marked (dropped_falls (with_mark (s.member m) t c n) t (s.member m).log (calm.members m)))
        by (SaysYes l u d sends) =
            subst (MemberFalls t (s.member m)) (sym d) (falls_twice t (s.member m) (with_mark (s.member m) t c n) _ marked (voted_falls (with_mark (s.member m) t c n) t c n l u a))
        by (Holds v d sends) = subst (MemberFalls t (s.member m)) (sym d) marked

    active_prepared : holds (s.member m).engine.active t ≡ true → holds (s.member m).asked t ≡ false → (did : MemberStep) →
        step_line (at_coord s c did1).state (event.Deliver (message.Prepare t c m n)) ≡ at_member (at_coord s c did1).state m did →
        VoteDid m (with_mark (s.member m) t c n) t c n (vote_of (s.member m).engine t n) did → Reaches (Lowered s t m) (votes_from m ∷ []) (at_member (at_coord s c did1).state m did)
    active_prepared a q did e (SaysNo d sends) =
        no_sent did (holds (without (with_mark (s.member m) t c n).asked t) t) e (active_falls a did (SaysNo d sends))
        sends (λ x y. ap (λ z. weight_at z t x y) d ∙ dropped_weight (with_mark (s.member m) t c n) t (s.member m).log x y)
    active_prepared a q did e (SaysYes l u d sends) =
        yes_sent did (holds (without (with_mark (s.member m) t c n).asked t) t) e (active_falls a did (SaysYes l u d sends))
        sends (λ x y. ap (λ z. weight_at z t x y) d ∙ voted_weight (with_mark (s.member m) t c n) t c n l x y) (or_left _ _ a)
    active_prepared a q did e (Holds v d sends) =
        reaches_none (Lowered s t m) (votes_from m) [] (at_member (at_coord s c did1).state m did) (note_of (votes_from m) did.marks (message_list did.sent) did.answer ∙ ap (λ o. find (votes_from m) (message_list o)) sends)
        (record { next = next2; lower = lower })
      where
        next2 : Next s (at_member (at_coord s c did1).state m did).state
        next2 = member_next s (at_coord s c did1).state next1 m t (event.Deliver (message.Prepare t c m n)) did e (active_falls a did (Holds v d sends)) (λ j b. busy)

        lower : suc (left_between (at_member (at_coord s c did1).state m did).state t m) ≤ left_between s t m
        lower =
            let z = (at_member (at_coord s c did1).state m did).state in
            let now = ap (λ x. weight_at x t (yes_lacking z t m) (ack_lacking z t m)) (at_here s.member m did.state ∙ d)
            ∙ marked_weight (s.member m) t c n a (yes_lacking z t m) (ack_lacking z t m) in
            let was = three_left (holds (s.member m).engine.active t) (holds (s.member m).asked t) (holds (s.member m).engine.voted t) (yes_lacking s t m) (ack_lacking s t m) a q in
            omega (arith, now, was)

    pub prepared : (st : Standing) → standing_of (s.member m) t ≡ st → may_be_asked st (holds (s.member m).asked t) ≡ true → Exchanged s t m (Prepares t m c)
    prepared IsActive e h =
        follows did (arrived IsActive e) (active_falls (active_is _ _ _ e) did voted) (active_prepared (active_is _ _ _ e) (not_asked (holds (s.member m).asked t) h) did (arrived IsActive e) voted)
      where
        did : MemberStep
        did = prepare_by m (s.member m) t c n IsActive

        voted : VoteDid m (with_mark (s.member m) t c n) t c n (vote_of (s.member m).engine t n) did
        voted = vote_did m (with_mark (s.member m) t c n) t c n (calm.members m) (vote_of (s.member m).engine t n)

        not_asked : (b : Bool) → not b ≡ true → b ≡ false
        not_asked true h = absurd (let z : false ≡ true = h in cc)
        not_asked false h = refl
    prepared IsVoted e h =
        follows did (arrived IsVoted e) (member_same t (s.member m) (calm.members m)) (yes_sent did (holds (s.member m).asked t) (arrived IsVoted e) (member_same t (s.member m) (calm.members m))
        (ap (λ d. Some (message.Vote t m d true)) named)
        (λ x y. λ j. weight ((voted_apart _ _ _ e).0 j) (holds (s.member m).asked t) ((voted_apart _ _ _ e).1 j) x y) (or_right _ _ (voted_is _ _ _ e)))
      where
        did : MemberStep
        did = prepare_by m (s.member m) t c n IsVoted

        named : coord_of (s.member m) t ≡ c
        named = one_home s calm.facts t (coord_of (s.member m) t) c
            (inl (((calm.facts.members m).views Memory).named t (coord_of (s.member m) t) (votes_own s m t (voted_is _ _ _ e)))) home
    prepared IsInstalled e h = absurd (let z : false ≡ true = h in cc)
    prepared IsAbsent e h =
        follows did (arrived IsAbsent e ∙ ap (λ v. at_member (at_coord s c did1).state m (vote_by m (s.member m) t c n v)) lost)
        (dropped_falls (s.member m) t (s.member m).log (calm.members m))
        (no_sent did (holds (without (s.member m).asked t) t) (arrived IsAbsent e ∙ ap (λ v. at_member (at_coord s c did1).state m (vote_by m (s.member m) t c n v)) lost)
        (dropped_falls (s.member m) t (s.member m).log (calm.members m)) refl (λ x y. dropped_weight (s.member m) t (s.member m).log x y))
      where
        did : MemberStep
        did = vote_by m (s.member m) t c n LostOperations

        lost : vote_of (s.member m).engine t n ≡ LostOperations
        lost = absent_loses (s.member m) t n (absent_is _ _ _ e).0 (next1.calm.facts.sent.prepares_count t c m n sent1).1

  -- the exchange of a prepare
  pub prepares : (t m c : ℕ) → IsEnabled s (Prepares t m c) → Exchanged s t m (Prepares t m c)
  prepares t m c h = by (look (s.coord c).table t) refl (and_parts _ _ h.2).0
    where
      by : (o : Option Entry) → look (s.coord c).table t ≡ o → lacks_yes o m ≡ true → Exchanged s t m (Prepares t m c)
      by None e l = absurd (let z : false ≡ true = l in cc)
      by (Some entry.Idle) e l = absurd (let z : false ≡ true = l in cc)
      by (Some (entry.Committed ms acks)) e l = absurd (let z : false ≡ true = l in cc)
      by (Some (entry.Collecting parts yeses)) e l =
          let found = found_prepare t c m parts yeses l in
          prepared t m c h.0 h.1 parts yeses e l found.0 found.1 (standing_of (s.member m) t) refl (and_parts _ _ h.2).1

  -- an active one that was asked, and that nothing is in the way of
  vote_done : (t m : ℕ) → IsMember s m → holds (s.member m).engine.active t ≡ true → (mark : AskedMark) → look (s.member m).asked t ≡ Some mark → (did : MemberStep) →
      step_line s (event.Vote t m) ≡ at_member s m did → (v : Verdict) → is_free v ≡ true → VoteDid m (s.member m) t mark.coord mark.count v did → Exchanged s t m (Votes t m)
  vote_done t m i a mark e did same v free d =
      record { first = up (node.Member m) i; raises = member_raises s m t (event.Vote t m) did same (fits d); rest = subst (Reaches (Lowered s t m) (wanted (Votes t m))) (sym same) (by d) }
    where
      sent : was_sent s.sent (message.Prepare t mark.coord m mark.count) ≡ true
      sent = ((calm.facts.members m).marked t mark e).1

      home : belongs (rest_of s) t mark.coord
      home = calm.facts.sent.prepares_named t mark.coord m mark.count sent

      was : left_between s t m ≡ 2
      was = asked_left (holds (s.member m).engine.active t) (holds (s.member m).asked t) (holds (s.member m).engine.voted t) (yes_lacking s t m) (ack_lacking s t m) a (ap is_some e)

      busy : IsBusy s t
      busy = BusyAt m i (or_right (holds (s.member m).engine.voted t) _ (ap is_some e))

      own : IsCoordinator s mark.coord
      own = belongs_fits s calm.sessions calm.opened t mark.coord home

      fits : VoteDid m (s.member m) t mark.coord mark.count v did → MemberFalls t (s.member m) did.state
      fits (SaysNo h sends) = subst (MemberFalls t (s.member m)) (sym h) (dropped_falls (s.member m) t (s.member m).log (calm.members m))
      fits (SaysYes l u h sends) = subst (MemberFalls t (s.member m)) (sym h) (voted_falls (s.member m) t mark.coord mark.count l u a)
      fits (Holds h q sends) = subst (MemberFalls t (s.member m)) (sym q) (member_same t (s.member m) (calm.members m))

      by : VoteDid m (s.member m) t mark.coord mark.count v did → Reaches (Lowered s t m) (votes_from m ∷ []) (at_member s m did)
      by (SaysNo h sends) =
          vote_follows s s here t mark.coord m busy own (inl home) (event.Vote t m) did false same (fits (SaysNo h sends)) sends
          (λ z k.
          let now = ap (λ x. weight_at x t (lacks_yes (look (z.coord mark.coord).table t) m) (lacks_ack (look (z.coord mark.coord).table t) m)) h
          ∙ dropped_weight (s.member m) t (s.member m).log (lacks_yes (look (z.coord mark.coord).table t) m) (lacks_ack (look (z.coord mark.coord).table t) m) in
          let few = few_left (holds (without (s.member m).asked t) t) (lacks_yes (look (z.coord mark.coord).table t) m) (lacks_ack (look (z.coord mark.coord).table t) m) in
          omega (arith, now, few, was))
      by (SaysYes l u h sends) =
          vote_follows s s here t mark.coord m busy own (inl home) (event.Vote t m) did true same (fits (SaysYes l u h sends)) sends
          (λ z k.
          let now = ap (λ x. weight_at x t (lacks_yes (look (z.coord mark.coord).table t) m) (lacks_ack (look (z.coord mark.coord).table t) m)) h
          ∙ voted_weight (s.member m) t mark.coord mark.count l (lacks_yes (look (z.coord mark.coord).table t) m) (lacks_ack (look (z.coord mark.coord).table t) m) in
          let one = voted_left (holds (without (s.member m).asked t) t) (lacks_yes (look (z.coord mark.coord).table t) m) (lacks_ack (look (z.coord mark.coord).table t) m) k.recorded in
          omega (arith, now, one, was))
      by (Holds h q sends) = absurd (let z : true ≡ false = sym free ∙ h in cc)

  pub votes : (t m : ℕ) → IsEnabled s (Votes t m) → Exchanged s t m (Votes t m)
  votes t m h = by (look (s.member m).asked t) refl (and_parts _ _ h.1).1
    where
      active : holds (s.member m).engine.active t ≡ true
      active = (and_parts _ _ h.1).0

      by : (o : Option AskedMark) → look (s.member m).asked t ≡ o → free_where_asked (s.member m).engine t o ≡ true → Exchanged s t m (Votes t m)
      by None e f = absurd (let z : false ≡ true = f in cc)
      by (Some mark) e f =
          vote_done t m h.0 active mark e (vote_by m (s.member m) t mark.coord mark.count (vote_of (s.member m).engine t mark.count)) same
          (vote_of (s.member m).engine t mark.count) f (vote_did m (s.member m) t mark.coord mark.count (calm.members m) (vote_of (s.member m).engine t mark.count))
        where
          same : step_line s (event.Vote t m) ≡ at_member s m (vote_where_asked m (s.member m) t (Some mark))
          same = (λ j. up_member s m (up (node.Member m) h.0 j) (vote_again_by m (s.member m) t (standing_by (active j) (holds (s.member m).engine.voted t) (holds (s.member m).committed t))))
              ∙ ap (λ o. at_member s m (vote_where_asked m (s.member m) t o)) e
