-- How one event changes the entry of a transaction at a coordinator.
use Rattle.std.proofs.Common.{◌≡◌, ◌⊎◌, inl, inr, ℕ, Bool, true, false, not, ◌||◌, ◌&&◌, ◌==◌, if◌then◌else◌, List, [], ◌∷◌, Option, None, Some, refl, sym, ap, ◌∙◌, subst}
use Rattle.std.proofs.lemmas.Bool.{or_left, or_right, or_cases, and_parts, eqb-true, eqb-false}
use Rattle.co_base.specs.declared.node.Node.{Node}
use Rattle.co_base.specs.declared.node.Node.TheVariants as node
use Rattle.co_base.specs.declared.part.Part.{Part}
use Rattle.co_message.specs.declared.answer.Answer.TheVariants as answer
use Rattle.co_message.specs.declared.answer.Cause.TheVariants as cause
use Rattle.co_message.specs.declared.event.Event.{Event}
use Rattle.co_message.specs.declared.event.Event.TheVariants as event
use Rattle.co_message.specs.declared.message.Message.{Message}
use Rattle.co_message.specs.declared.message.Message.TheVariants as message
use Rattle.co_state.specs.Table.{look}
use Rattle.co_plain.specs.declared.coord_state.CoordState.{CoordState}
use Rattle.co_plain.specs.declared.coord_state.Entry.{Entry}
use Rattle.co_plain.specs.declared.coord_state.Entry.TheVariants as entry
use Rattle.co_plain.specs.declared.coord_step.CoordStep.{CoordStep}
use Rattle.co_plain.specs.declared.member_state.MemberState.{MemberState}
use Rattle.co_plain.specs.declared.member_step.MemberStep.{MemberStep}
use Rattle.co_plain.specs.Numbers.{first_lacking, has_number}
use Rattle.co_plain.specs.CoordStep.{has_part, members_of, coord_says}
use Rattle.co_plain.specs.Member.{member_deliver, member_vote, member_timer, member_ask}
use Rattle.co_plain.specs.Coordinator.{yes_entry, no_entry, decided_by, ack_entry, ended_by, waits, aborts, timer_entry, decisions_to, ask_entry, resend_entry, coord_deliver, coord_timer, coord_resend, coord_vote}
use Rattle.co_plain.specs.CoordLog.{coord_restart_by}
use Rattle.co_plain.specs.Wire.{was_sent}
use Rattle.co_plain.specs.Federation.{Federation, Stepped, at_coord, answers}
use Rattle.co_plain.specs.Step.{arrives, member_step, up_member, coord_step, up_coord, step_line}
use Rattle.co_plain.specs.Quiet.{lacks_yes, lacks_ack}
use Rattle.co_law_base.proofs.Lookups.{put_here}
use Rattle.co_law_base.proofs.Commits.{lacks_none}
use Rattle.co_law_base.proofs.Carrying.{at_here}
use Rattle.co_law_settle.proofs.Falling.{Calm, CoordFalls}
use Rattle.co_law_rounds.specs.CanBeSettled.{MakesItself}
use Rattle.co_law_rounds.specs.FairRounds.{Stands}
use Rattle.co_law_rounds.proofs.Telling.{Tells, coord_tells}
use Rattle.co_law_rounds.proofs.NodeEvents.{vote_noted, asked_noted, acked_noted, timer_noted, resent_noted}

-- It stays; or an idle one ends; or a collecting one is aborted, and its participants are told; or a yes that lacked is counted; or an
-- acknowledgement that lacked is.
pub data EntryMove (s : Federation) (c t : ℕ) (z : Stepped) : Type 0 where
  Stays : look (z.state.coord c).table t ≡ look (s.coord c).table t → EntryMove s c t z
  Idles : look (s.coord c).table t ≡ Some entry.Idle → EntryMove s c t z
  Aborts : (parts : List Part) (yeses : List ℕ) → look (s.coord c).table t ≡ Some (entry.Collecting parts yeses) →
      ((j : ℕ) → has_part parts j ≡ true → Tells z (message.Decide t c j false)) → EntryMove s c t z
  Counts : (j : ℕ) → was_sent s.sent (message.Vote t j c true) ≡ true → lacks_yes (look (s.coord c).table t) j ≡ true →
      ((i : ℕ) → lacks_yes (look (s.coord c).table t) i ≡ true → (j ≡ i) ⊎ (lacks_yes (look (z.state.coord c).table t) i ≡ true)) → EntryMove s c t z
  Acks : (j : ℕ) → was_sent s.sent (message.Ack t j c) ≡ true → lacks_ack (look (s.coord c).table t) j ≡ true →
      ((i : ℕ) → lacks_ack (look (s.coord c).table t) i ≡ true → (j ≡ i) ⊎ (lacks_ack (look (z.state.coord c).table t) i ≡ true)) → EntryMove s c t z

-- who is told
told_of : (t c j : ℕ) (parts : List Part) → has_part parts j ≡ true → Stands (message.Decide t c j false) (decisions_to c t false (members_of parts))
told_of t c j [] h = absurd (let z : false ≡ true = h in cc)
told_of t c j (p ∷ ps) h = by (told_of t c j ps) (or_cases (p.member == j) (has_part ps j) h)
  where
    by : (has_part ps j ≡ true → Stands (message.Decide t c j false) (decisions_to c t false (members_of ps))) →
        ((p.member == j) ≡ true) ⊎ (has_part ps j ≡ true) → Stands (message.Decide t c j false) (decisions_to c t false (members_of (p ∷ ps)))
    by rest (inl e) = inl (ap (λ k. message.Decide t c k false) (eqb-true p.member j e))
    by rest (inr k) = inr (rest k)

pub part_named : (parts : List Part) (i : ℕ) → has_part parts i ≡ true → has_number (members_of parts) i ≡ true
part_named [] i h = h
part_named (p ∷ ps) i h = by (part_named ps i) (or_cases (p.member == i) (has_part ps i) h)
  where
    by : (has_part ps i ≡ true → has_number (members_of ps) i ≡ true) → ((p.member == i) ≡ true) ⊎ (has_part ps i ≡ true) → has_number (members_of (p ∷ ps)) i ≡ true
    by rest (inl e) = or_left (p.member == i) (has_number (members_of ps) i) e
    by rest (inr k) = or_right (p.member == i) (has_number (members_of ps) i) (rest k)

-- one more number, and what lacks still
still_lacks : (a : Bool) (j i : ℕ) (given : List ℕ) → (a && not (has_number given i)) ≡ true → (j ≡ i) ⊎ ((a && not (has_number (j ∷ given) i)) ≡ true)
still_lacks a j i given h = by (j == i) refl
  where
    by : (b : Bool) → (j == i) ≡ b → (j ≡ i) ⊎ ((a && not (has_number (j ∷ given) i)) ≡ true)
    by true e = inl (eqb-true j i e)
    by false e = inr (ap (λ b. a && not (b || has_number given i)) e ∙ h)

no_lack : (b : Bool) {A : Type 0} → b ≡ true → not b ≡ true → A
no_lack true h k = absurd (let z : false ≡ true = k in cc)
no_lack false h k = absurd (let z : false ≡ true = h in cc)

none_lack : (ms : List ℕ) (j i : ℕ) (given : List ℕ) → first_lacking ms (j ∷ given) ≡ None → has_number ms i ≡ true → not (has_number given i) ≡ true → j ≡ i
none_lack ms j i given e h l = by (or_cases (j == i) (has_number given i) (lacks_none ms (j ∷ given) i e h))
  where
    by : ((j == i) ≡ true) ⊎ (has_number given i ≡ true) → j ≡ i
    by (inl k) = eqb-true j i k
    by (inr k) = no_lack (has_number given i) k l

module _ (s : Federation) (calm : Calm s) where
  -- of the members' steps, none
  at_members : (c t m : ℕ) (does : MemberState → MemberStep) → EntryMove s c t (member_step s m does)
  at_members c t m does = by (s.member m).up
    where
      by : (b : Bool) → EntryMove s c t (up_member s m b (does (s.member m)))
      by true = Stays refl
      by false = Stays refl

  -- a step of a coordinator at one transaction, by what it does there
  module _ (d u : ℕ) (does : CoordState → CoordStep) (f : CoordFalls s u (s.coord d) (does (s.coord d)).state) (own : EntryMove s d u (at_coord s d (does (s.coord d)))) where
    at_coords : (c t : ℕ) → EntryMove s c t (coord_step s d does)
    at_coords c t = by (s.coord d).up
      where
        here : (b : Bool) → (u == t) ≡ b → EntryMove s d t (at_coord s d (does (s.coord d)))
        here true e = subst (λ v. EntryMove s d v (at_coord s d (does (s.coord d)))) (eqb-true u t e) own
        here false e = Stays (ap (λ y. look y.table t) (at_here s.coord d (does (s.coord d)).state) ∙ f.others t (eqb-false u t e))

        there : (b : Bool) → (d == c) ≡ b → EntryMove s c t (at_coord s d (does (s.coord d)))
        there true e = subst (λ k. EntryMove s k t (at_coord s d (does (s.coord d)))) (eqb-true d c e) (here (u == t) refl)
        there false e = Stays (ap (λ b. look (if b then (does (s.coord d)).state else s.coord c).table t) e)

        by : (b : Bool) → EntryMove s c t (up_coord s d b (does (s.coord d)))
        by true = there (d == c) refl
        by false = Stays refl

  module _ (c t : ℕ) where
    still : look ((at_coord s c (coord_says (s.coord c) answer.Decided)).state.coord c).table t ≡ look (s.coord c).table t
    still = ap (λ y. look y.table t) (at_here s.coord c (s.coord c))

    -- what a yes and an acknowledgement leave
    after : (did : CoordStep) (o : Option Entry) → look did.state.table t ≡ o → look ((at_coord s c did).state.coord c).table t ≡ o
    after did o e = ap (λ y. look y.table t) (at_here s.coord c did.state) ∙ e

    yes_moves : (j : ℕ) → was_sent s.sent (message.Vote t j c true) ≡ true → (o : Option Entry) → look (s.coord c).table t ≡ o → EntryMove s c t (at_coord s c (yes_entry c (s.coord c) t j o))
    yes_moves j sent None h = Stays still
    yes_moves j sent (Some entry.Idle) h = Stays still
    yes_moves j sent (Some (entry.Committed ms acks)) h = Stays still
    yes_moves j sent (Some (entry.Collecting parts yeses)) h = by (has_part parts j && not (has_number yeses j)) refl
      where
        before : (i : ℕ) → lacks_yes (look (s.coord c).table t) i ≡ true → (has_part parts i && not (has_number yeses i)) ≡ true
        before i l = sym (ap (λ o. lacks_yes o i) h) ∙ l

        decided : (has_part parts j && not (has_number yeses j)) ≡ true → (o : Option ℕ) → first_lacking (members_of parts) (j ∷ yeses) ≡ o → EntryMove s c t (at_coord s c (decided_by c (s.coord c) t parts (j ∷ yeses) o))
        decided g (Some k) e =
            Counts j sent (ap (λ o. lacks_yes o j) h ∙ g) (λ i l. kept i (still_lacks (has_part parts i) j i yeses (before i l)))
          where
            did : CoordStep
            did = decided_by c (s.coord c) t parts (j ∷ yeses) (Some k)

            kept : (i : ℕ) → (j ≡ i) ⊎ ((has_part parts i && not (has_number (j ∷ yeses) i)) ≡ true) → (j ≡ i) ⊎ (lacks_yes (look ((at_coord s c did).state.coord c).table t) i ≡ true)
            kept i (inl q) = inl q
            kept i (inr q) = inr (ap (λ o. lacks_yes o i) (after did (Some (entry.Collecting parts (j ∷ yeses))) (put_here (s.coord c).table t (entry.Collecting parts (j ∷ yeses)))) ∙ q)
        decided g None e =
            Counts j sent (ap (λ o. lacks_yes o j) h ∙ g)
            (λ i l. let p = and_parts (has_part parts i) (not (has_number yeses i)) (before i l) in inl (none_lack (members_of parts) j i yeses e (part_named parts i p.0) p.1))

        by : (b : Bool) → (has_part parts j && not (has_number yeses j)) ≡ b →
            EntryMove s c t (at_coord s c (if b then decided_by c (s.coord c) t parts (j ∷ yeses) (first_lacking (members_of parts) (j ∷ yeses)) else waits (s.coord c) parts yeses))
        by true g = decided g (first_lacking (members_of parts) (j ∷ yeses)) refl
        by false g = Stays still

    no_moves : (j : ℕ) (o : Option Entry) → look (s.coord c).table t ≡ o → EntryMove s c t (at_coord s c (no_entry c (s.coord c) t j o))
    no_moves j None h = Stays still
    no_moves j (Some entry.Idle) h = Stays still
    no_moves j (Some (entry.Committed ms acks)) h = Stays still
    no_moves j (Some (entry.Collecting parts yeses)) h = by (has_part parts j)
      where
        by : (b : Bool) → EntryMove s c t (at_coord s c (if b then aborts c (s.coord c) t cause.Vote parts else waits (s.coord c) parts yeses))
        by true = Aborts parts yeses h (λ i p. coord_tells s c (aborts c (s.coord c) t cause.Vote parts) (message.Decide t c i false) (told_of t c i parts p))
        by false = Stays still

    vote_moves : (j : ℕ) (granted : Bool) → was_sent s.sent (message.Vote t j c granted) ≡ true → EntryMove s c t (at_coord s c (coord_vote c (s.coord c) t j granted))
    vote_moves j true sent = yes_moves j sent (look (s.coord c).table t) refl
    vote_moves j false sent = no_moves j (look (s.coord c).table t) refl

    ask_moves : (j : ℕ) (o : Option Entry) → EntryMove s c t (at_coord s c (ask_entry c (s.coord c) t j o))
    ask_moves j None = Stays still
    ask_moves j (Some entry.Idle) = Stays still
    ask_moves j (Some (entry.Collecting parts yeses)) = Stays still
    ask_moves j (Some (entry.Committed ms acks)) = Stays still

    resend_moves : (o : Option Entry) → EntryMove s c t (at_coord s c (resend_entry c (s.coord c) t o))
    resend_moves None = Stays still
    resend_moves (Some entry.Idle) = Stays still
    resend_moves (Some (entry.Collecting parts yeses)) = Stays still
    resend_moves (Some (entry.Committed ms acks)) = Stays still

    timer_moves : (o : Option Entry) → look (s.coord c).table t ≡ o → EntryMove s c t (at_coord s c (timer_entry c (s.coord c) t o))
    timer_moves None h = Stays still
    timer_moves (Some entry.Idle) h = Idles h
    timer_moves (Some (entry.Collecting parts yeses)) h =
        Aborts parts yeses h (λ i p. coord_tells s c (aborts c (s.coord c) t cause.Timer parts) (message.Decide t c i false) (told_of t c i parts p))
    timer_moves (Some (entry.Committed ms acks)) h = Stays still

    ack_moves : (j : ℕ) → was_sent s.sent (message.Ack t j c) ≡ true → (o : Option Entry) → look (s.coord c).table t ≡ o → EntryMove s c t (at_coord s c (ack_entry (s.coord c) t j o))
    ack_moves j sent None h = Stays still
    ack_moves j sent (Some entry.Idle) h = Stays still
    ack_moves j sent (Some (entry.Collecting parts yeses)) h = Stays still
    ack_moves j sent (Some (entry.Committed ms acks)) h = by (has_number ms j && not (has_number acks j)) refl
      where
        before : (i : ℕ) → lacks_ack (look (s.coord c).table t) i ≡ true → (has_number ms i && not (has_number acks i)) ≡ true
        before i l = sym (ap (λ o. lacks_ack o i) h) ∙ l

        counted : (has_number ms j && not (has_number acks j)) ≡ true → (o : Option ℕ) → first_lacking ms (j ∷ acks) ≡ o → EntryMove s c t (at_coord s c (ended_by (s.coord c) t ms (j ∷ acks) o))
        counted g (Some k) e = Acks j sent (ap (λ o. lacks_ack o j) h ∙ g) (λ i l. kept i (still_lacks (has_number ms i) j i acks (before i l)))
          where
            did : CoordStep
            did = ended_by (s.coord c) t ms (j ∷ acks) (Some k)

            kept : (i : ℕ) → (j ≡ i) ⊎ ((has_number ms i && not (has_number (j ∷ acks) i)) ≡ true) → (j ≡ i) ⊎ (lacks_ack (look ((at_coord s c did).state.coord c).table t) i ≡ true)
            kept i (inl q) = inl q
            kept i (inr q) = inr (ap (λ o. lacks_ack o i) (after did (Some (entry.Committed ms (j ∷ acks))) (put_here (s.coord c).table t (entry.Committed ms (j ∷ acks)))) ∙ q)
        counted g None e =
            Acks j sent (ap (λ o. lacks_ack o j) h ∙ g)
            (λ i l. let p = and_parts (has_number ms i) (not (has_number acks i)) (before i l) in inl (none_lack ms j i acks e p.0 p.1))

        by : (b : Bool) → (has_number ms j && not (has_number acks j)) ≡ b →
            EntryMove s c t (at_coord s c (if b then ended_by (s.coord c) t ms (j ∷ acks) (first_lacking ms (j ∷ acks)) else coord_says (s.coord c) answer.Decided))
        by true g = counted g (first_lacking ms (j ∷ acks)) refl
        by false g = Stays still

  -- a message that was sent
  arrival_moves : (c t : ℕ) (note : Message) → was_sent s.sent note ≡ true → EntryMove s c t (arrives s note)
  arrival_moves c t (message.Prepare u d m n) h = at_members c t m (λ x. member_deliver m x (message.Prepare u d m n))
  arrival_moves c t (message.Decide u d m commit) h = at_members c t m (λ x. member_deliver m x (message.Decide u d m commit))
  arrival_moves c t (message.Vote u m d granted) h =
      at_coords d u (λ y. coord_deliver d y (message.Vote u m d granted)) (vote_noted s calm.facts d u (calm.coords d) m granted h) (vote_moves d u m granted h) c t
  arrival_moves c t (message.Ask u m d) h = at_coords d u (λ y. coord_deliver d y (message.Ask u m d)) (asked_noted s calm.facts d u (calm.coords d) m) (ask_moves d u m (look (s.coord d).table u)) c t
  arrival_moves c t (message.Ack u m d) h = at_coords d u (λ y. coord_deliver d y (message.Ack u m d)) (acked_noted s calm.facts d u (calm.coords d) m) (ack_moves d u m h (look (s.coord d).table u) refl) c t

  delivery_moves : (c t : ℕ) (note : Message) → EntryMove s c t (step_line s (event.Deliver note))
  delivery_moves c t note = by (was_sent s.sent note) refl
    where
      by : (b : Bool) → was_sent s.sent note ≡ b → EntryMove s c t (if b then arrives s note else answers s answer.Unsent)
      by true e = arrival_moves c t note e
      by false e = Stays refl

  timed_moves : (c t u : ℕ) (at : Node) → EntryMove s c t (step_line s (event.Timer u at))
  timed_moves c t u (node.Member m) = at_members c t m (λ x. member_timer x u)
  timed_moves c t u (node.Coord d) = at_coords d u (λ y. coord_timer d y u) (timer_noted s calm.facts d u (calm.coords d)) (timer_moves d u (look (s.coord d).table u) refl) c t

  restarted_moves : (c t : ℕ) (at : Node) → EntryMove s c t (step_line s (event.Restart at))
  restarted_moves c t (node.Member m) = Stays refl
  restarted_moves c t (node.Coord d) = by (s.coord d).up
    where
      there : (y : CoordState) → y.table ≡ (s.coord d).table → (b : Bool) → (d == c) ≡ b → look (if b then y else s.coord c).table t ≡ look (s.coord c).table t
      there y q true e = ap (λ k. look k t) q ∙ ap (λ k. look (s.coord k).table t) (eqb-true d c e)
      there y q false e = refl

      by : (b : Bool) → EntryMove s c t (at_coord s d (coord_restart_by (s.coord d) b))
      by true = Stays (there (coord_restart_by (s.coord d) true).state refl (d == c) refl)
      by false = Stays (there (coord_restart_by (s.coord d) false).state refl (d == c) refl)

  pub entry_moves : (c t : ℕ) (e : Event) → MakesItself e → EntryMove s c t (step_line s e)
  entry_moves c t (event.Deliver note) i = delivery_moves c t note
  entry_moves c t (event.Vote u m) i = at_members c t m (λ x. member_vote m x u)
  entry_moves c t (event.Timer u at) i = timed_moves c t u at
  entry_moves c t (event.Ask u m) i = at_members c t m (λ x. member_ask m x u)
  entry_moves c t (event.Resend u d) i = at_coords d u (λ y. coord_resend d y u) (resent_noted s calm.facts d u (calm.coords d)) (resend_moves d u (look (s.coord d).table u)) c t
  entry_moves c t (event.Restart at) i = restarted_moves c t at
  entry_moves c t _ i = absurd i
