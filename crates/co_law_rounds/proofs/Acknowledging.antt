-- An acknowledgement that lacks: it is counted in a fair round, or less is left before.
use Rattle.std.proofs.Common.{◌≡◌, ◌⊎◌, inl, inr, ℕ, suc, Bool, true, false, not, ◌||◌, ◌&&◌, ◌==◌, ◌≤◌, if◌then◌else◌, List, [], ◌∷◌, Option, None, Some, refl, sym, ap, ◌∙◌, subst, arith}
use Rattle.std.proofs.lemmas.Bool.{or_right, and_parts, eqb-true, false_from_ne_true}
use Rattle.co_base.specs.declared.node.Node.TheVariants as node
use Rattle.co_message.specs.declared.answer.Answer.TheVariants as answer
use Rattle.co_message.specs.declared.event.Event.{Event}
use Rattle.co_message.specs.declared.event.Event.TheVariants as event
use Rattle.co_message.specs.declared.message.Message.TheVariants as message
use Rattle.co_record.specs.declared.record.Record.{Record}
use Rattle.co_record.specs.declared.record.Record.TheVariants as log
use Rattle.co_state.specs.Table.{look, holds}
use Rattle.co_plain.specs.declared.coord_state.Entry.{Entry}
use Rattle.co_plain.specs.declared.coord_state.Entry.TheVariants as entry
use Rattle.co_plain.specs.declared.coord_step.CoordStep.{CoordStep}
use Rattle.co_plain.specs.declared.member_step.MemberStep.{MemberStep}
use Rattle.co_plain.specs.declared.standing.Standing.{Standing}
use Rattle.co_plain.specs.declared.standing.Standing.TheVariants.{IsVoted, IsInstalled}
use Rattle.co_plain.specs.Invariants.{Memory, view, stands}
use Rattle.co_plain.specs.LogWrite.{outcome_of, with_batch}
use Rattle.co_plain.specs.Numbers.{has_number, numbers_lacking}
use Rattle.co_plain.specs.MemberStep.{standing_by, standing_of, with_log, forced_by}
use Rattle.co_plain.specs.Member.{installed_state, commit_by}
use Rattle.co_plain.specs.Coordinator.{decisions_to, resend_entry, ack_entry}
use Rattle.co_plain.specs.Wire.{was_sent}
use Rattle.co_plain.specs.Federation.{Federation, at_member, at_coord}
use Rattle.co_plain.specs.Step.{step_line, up_coord, up_member}
use Rattle.co_plain.specs.Quiet.{IsMember, IsCoordinator, lacks_yes, lacks_ack}
use Rattle.co_law_base.proofs.Carrying.{at_here}
use Rattle.co_law_base.proofs.Facts.{Facts}
use Rattle.co_law_base.proofs.Lookups.{holds_found}
use Rattle.co_law_settle.specs.SettlingMeasure.{yes_lacking, ack_lacking, weight, weight_at, left_between}
use Rattle.co_law_settle.proofs.AtCoord.{ack_noted}
use Rattle.co_law_settle.proofs.AtMember.{installed_weight}
use Rattle.co_law_settle.proofs.Falling.{any_found}
use Rattle.co_law_settle.proofs.Homes.{Homes, in_table, one_home}
use Rattle.co_law_settle.proofs.Lowering.{deliver_is, ack_there}
use Rattle.co_law_rounds.specs.CanBeSettled.{MakesItself}
use Rattle.co_law_rounds.specs.FairRounds.{Stands}
use Rattle.co_law_rounds.proofs.EntryMoves.{EntryMove, Stays, Idles, Aborts, Counts, Acks, entry_moves}
use Rattle.co_law_rounds.proofs.NodeEvents.{event_moved}
use Rattle.co_law_rounds.proofs.OneStep.{OneStep}
use Rattle.co_law_rounds.proofs.Telling.{Tells, coord_tells, member_tells}
use Rattle.co_law_rounds.proofs.Following.{Good, Fell, Lowered, Move, Lowers, Keeps, Moves, Lasts, Follows, follow, Sent, sent_moves, passes, pair_lowered, fell_now}
use Rattle.co_law_rounds.proofs.LackingVotes.{member_on, coord_on, one_lack, some_entry}

ack_lowers : (a k v y x c : Bool) → a ≡ false → v ≡ false → x ≡ false → c ≡ false → suc (weight a k v x c) ≤ weight a k v y true
ack_lowers true k v y x c e h g l = absurd (let z : true ≡ false = e in cc)
ack_lowers false k true y x c e h g l = absurd (let z : true ≡ false = h in cc)
ack_lowers false k false y true c e h g l = absurd (let z : true ≡ false = g in cc)
ack_lowers false k false y false true e h g l = absurd (let z : true ≡ false = l in cc)
ack_lowers false k false true false false e h g l = omega arith
ack_lowers false k false false false false e h g l = omega arith

-- nothing weighs nothing
pub zero_is : (a k v : Bool) → weight a k v false false ≤ 0 → (a ≡ false) × (v ≡ false)
zero_is true true v h = absurd (omega (arith, h))
zero_is true false v h = absurd (omega (arith, h))
zero_is false k true h = absurd (omega (arith, h))
zero_is false k false h = (refl, refl)

pub is_zero : (a k v : Bool) → a ≡ false → v ≡ false → weight a k v false false ≡ 0
is_zero true k v e h = absurd (let z : true ≡ false = e in cc)
is_zero false k true e h = absurd (let z : true ≡ false = h in cc)
is_zero false k false e h = refl

some_committed : (o : Option Entry) (i : ℕ) → lacks_ack o i ≡ true → (ms : List ℕ) × (acks : List ℕ) × (o ≡ Some (entry.Committed ms acks))
some_committed None i h = absurd (let z : false ≡ true = h in cc)
some_committed (Some entry.Idle) i h = absurd (let z : false ≡ true = h in cc)
some_committed (Some (entry.Collecting parts yeses)) i h = absurd (let z : false ≡ true = h in cc)
some_committed (Some (entry.Committed ms acks)) i h = (ms, acks, refl)

-- who stands at a member is not active there
pub stands_apart : (s : Federation) → Facts s → (t m : ℕ) → stands (view Memory (s.member m)) t ≡ true → holds (s.member m).engine.active t ≡ false
stands_apart s f t m h =
    false_from_ne_true _ (λ a. let p = holds_found (s.member m).engine.active t a in let z : true ≡ false = sym h ∙ ((f.members m).active t p.0 p.1).apart in cc)

-- the commit for the member among those that are sent again
commit_among : (t c m : ℕ) (ms acks : List ℕ) → (has_number ms m && not (has_number acks m)) ≡ true → Stands (message.Decide t c m true) (decisions_to c t true (numbers_lacking ms acks))
commit_among t c m [] acks h = absurd (let z : false ≡ true = h in cc)
commit_among t c m (k ∷ ks) acks h = by (commit_among t c m ks acks) (k == m) refl (not (has_number acks k)) refl
  where
    Found : List ℕ → Type 0
    Found ns = Stands (message.Decide t c m true) (decisions_to c t true ns)

    by : ((has_number ks m && not (has_number acks m)) ≡ true → Found (numbers_lacking ks acks)) → (b : Bool) → (k == m) ≡ b → (j : Bool) → not (has_number acks k) ≡ j →
        Found (if j then k ∷ numbers_lacking ks acks else numbers_lacking ks acks)
    by more true e true g = inl (ap (λ i. message.Decide t c i true) (eqb-true k m e))
    by more true e false g =
        absurd (let q : false ≡ true = sym g ∙ ap (λ i. not (has_number acks i)) (eqb-true k m e) ∙ (and_parts (has_number (k ∷ ks) m) (not (has_number acks m)) h).1 in cc)
    by more false e j g = kept j
      where
        found : Found (numbers_lacking ks acks)
        found = more (sym (ap (λ b. (b || has_number ks m) && not (has_number acks m)) e) ∙ h)

        kept : (j : Bool) → Found (if j then k ∷ numbers_lacking ks acks else numbers_lacking ks acks)
        kept true = inr found
        kept false = found

pub record Unacknowledged (t m c : ℕ) (w : Federation) : Type 0 where
  pub member : IsMember w m
  pub coord : IsCoordinator w c
  pub lacks : lacks_ack (look (w.coord c).table t) m ≡ true

-- and the member has it installed
record Installed (t m c : ℕ) (w : Federation) : Type 0 where
  unacknowledged : Unacknowledged t m c w
  none : weight_at (w.member m) t false false ≤ 0

module _ (pairs : ℕ → List ℕ) (numbers : List ℕ) (t m c : ℕ) where
  -- once it lacks no more, less is left
  acknowledged : (w : Federation) (e : Event) → Good pairs numbers w → MakesItself e → Unacknowledged t m c w → weight_at (w.member m) t false false ≤ 0 →
      lacks_ack (look ((step_line w e).state.coord c).table t) m ≡ false → Lowered pairs numbers w e
  acknowledged w e g i p none gone = pair_lowered pairs numbers w e g i t m p.member less
    where
      z : Federation
      z = (step_line w e).state

      one : OneStep w (step_line w e).state
      one = (event_moved w g.calm e i).one

      nowhere : (holds (w.member m).engine.active t ≡ false) × (holds (w.member m).engine.voted t ≡ false)
      nowhere = zero_is (holds (w.member m).engine.active t) (holds (w.member m).asked t) (holds (w.member m).engine.voted t) none

      entry_here : (ms : List ℕ) × (acks : List ℕ) × (look (w.coord c).table t ≡ Some (entry.Committed ms acks))
      entry_here = some_committed (look (w.coord c).table t) m p.lacks

      home : Homes w t c
      home = in_table w g.calm.facts t c (entry.Committed entry_here.0 entry_here.1) entry_here.2

      no_yes : yes_lacking z t m ≡ false
      no_yes = false_from_ne_true _ (λ h.
          let f = any_found z.coordinators (λ d. lacks_yes (look (z.coord d).table t) m) h in
          let l = one.yeses f.0 t m f.3 in
          let x = some_entry (look (w.coord f.0).table t) m l in
          let same = one_home w g.calm.facts t c f.0 home (in_table w g.calm.facts t f.0 (entry.Collecting x.0 x.1) x.2) in
          one_lack (look (w.coord c).table t) m m (subst (λ d. lacks_yes (look (w.coord d).table t) m ≡ true) (sym same) l) p.lacks)

      no_ack : ack_lacking z t m ≡ false
      no_ack = false_from_ne_true _ (λ h. let f = any_found z.coordinators (λ d. lacks_ack (look (z.coord d).table t) m) h in by f.0 f.3 (one.acks f.0 t m f.3))
        where
          by : (d : ℕ) → lacks_ack (look ((step_line w e).state.coord d).table t) m ≡ true →
              (lacks_ack (look (w.coord d).table t) m ≡ true) ⊎ ((holds (w.member m).engine.active t || holds (w.member m).engine.voted t) ≡ true) → ⊥
          by d l (inl k) =
              let x = some_committed (look (w.coord d).table t) m k in
              let same = one_home w g.calm.facts t c d home (in_table w g.calm.facts t d (entry.Committed x.0 x.1) x.2) in
              let q : true ≡ false = sym l ∙ subst (λ j. lacks_ack (look ((step_line w e).state.coord j).table t) m ≡ false) same gone in
              cc
          by d l (inr k) = let q : true ≡ false = sym k ∙ (λ j. nowhere.0 j || nowhere.1 j) in cc

      less : suc (left_between z t m) ≤ left_between w t m
      less =
          let a = one.weights m t (yes_lacking z t m) (ack_lacking z t m) in
          let b = ack_lowers (holds (w.member m).engine.active t) (holds (w.member m).asked t) (holds (w.member m).engine.voted t) (yes_lacking w t m) (yes_lacking z t m) (ack_lacking z t m) nowhere.0 nowhere.1 no_yes no_ack in
          let d = ap (λ y. weight_at (w.member m) t (yes_lacking w t m) y) (ack_there w t m c p.coord p.lacks) in
          omega (arith, a, b, d)

  kept : (w : Federation) (e : Event) → Good pairs numbers w → MakesItself e → Unacknowledged t m c w → lacks_ack (look ((step_line w e).state.coord c).table t) m ≡ true → Unacknowledged t m c (step_line w e).state
  kept w e g i p h = record { member = member_on pairs numbers w e g i m p.member; coord = coord_on pairs numbers w e g i c p.coord; lacks = h }

  unacknowledged_moves : Moves pairs numbers (Unacknowledged t m c)
  unacknowledged_moves w e g i p = by (lacks_ack (look ((step_line w e).state.coord c).table t) m) refl
    where
      by : (b : Bool) → lacks_ack (look ((step_line w e).state.coord c).table t) m ≡ b → Move pairs numbers (Unacknowledged t m c) w e
      by true h = Keeps (kept w e g i p h)
      by false h = gone (entry_moves w g.calm c t e i)
        where
          lost : {A : Type 0} → lacks_ack (look ((step_line w e).state.coord c).table t) m ≡ true → A
          lost k = absurd (let z : true ≡ false = sym k ∙ h in cc)

          gone : EntryMove w c t (step_line w e) → Move pairs numbers (Unacknowledged t m c) w e
          gone (Stays k) = lost (ap (λ o. lacks_ack o m) k ∙ p.lacks)
          gone (Idles k) = absurd (let z : false ≡ true = sym (ap (λ o. lacks_ack o m) k) ∙ p.lacks in cc)
          gone (Aborts parts yeses k tells) = absurd (let z : false ≡ true = sym (ap (λ o. lacks_ack o m) k) ∙ p.lacks in cc)
          gone (Counts j sent l others) = one_lack (look (w.coord c).table t) j m l p.lacks
          gone (Acks j sent l others) = counted (others m p.lacks)
            where
              counted : (j ≡ m) ⊎ (lacks_ack (look ((step_line w e).state.coord c).table t) m ≡ true) → Move pairs numbers (Unacknowledged t m c) w e
              counted (inr k) = lost k
              counted (inl same) =
                  let committed = g.calm.facts.sent.acks_stand t m c Memory (subst (λ k. was_sent w.sent (message.Ack t k c) ≡ true) same sent) in
                  let unvoted = ((g.calm.facts.members m).views Memory).apart t committed in
                  let inactive = stands_apart w g.calm.facts t m (or_right _ _ committed) in
                  let none = is_zero (holds (w.member m).engine.active t) (holds (w.member m).asked t) (holds (w.member m).engine.voted t) inactive unvoted in
                  Lowers (acknowledged w e g i p (omega (arith, none)) h)

  installed_moves : Moves pairs numbers (Installed t m c)
  installed_moves w e g i p = by (lacks_ack (look ((step_line w e).state.coord c).table t) m) refl
    where
      by : (b : Bool) → lacks_ack (look ((step_line w e).state.coord c).table t) m ≡ b → Move pairs numbers (Installed t m c) w e
      by true h = Keeps (record { unacknowledged = kept w e g i p.unacknowledged h; none = let a = (event_moved w g.calm e i).one.weights m t false false in let b = p.none in omega (arith, a, b) })
      by false h = Lowers (acknowledged w e g i p.unacknowledged p.none h)

  -- the acknowledgement comes
  ack_comes : Follows pairs numbers (Sent pairs numbers (Installed t m c) (message.Ack t m c)) (event.Deliver (message.Ack t m c))
  ack_comes = follow pairs numbers (Sent pairs numbers (Installed t m c) (message.Ack t m c)) (event.Deliver (message.Ack t m c)) (sent_moves pairs numbers (Installed t m c) (message.Ack t m c) installed_moves) last
    where
      last : Lasts pairs numbers (Sent pairs numbers (Installed t m c) (message.Ack t m c)) (event.Deliver (message.Ack t m c))
      last w es g i own all del p =
          fell_now pairs numbers w (event.Deliver (message.Ack t m c)) es g tt own (acknowledged w (event.Deliver (message.Ack t m c)) g tt p.0.unacknowledged p.0.none gone)
        where
          entry_here : (ms : List ℕ) × (acks : List ℕ) × (look (w.coord c).table t ≡ Some (entry.Committed ms acks))
          entry_here = some_committed (look (w.coord c).table t) m p.0.unacknowledged.lacks

          did : CoordStep
          did = ack_entry (w.coord c) t m (Some (entry.Committed entry_here.0 entry_here.1))

          arrived : step_line w (event.Deliver (message.Ack t m c)) ≡ at_coord w c did
          arrived = deliver_is w (message.Ack t m c) p.1 ∙ (λ j. up_coord w c (g.up (node.Coord c) p.0.unacknowledged.coord j) (ack_entry (w.coord c) t m (entry_here.2 j)))

          gone : lacks_ack (look ((step_line w (event.Deliver (message.Ack t m c))).state.coord c).table t) m ≡ false
          gone = ap (λ z. lacks_ack (look (z.state.coord c).table t) m) arrived ∙ ap (λ y. lacks_ack (look y.table t) m) (at_here w.coord c did.state)
              ∙ (ack_noted w g.calm.facts c t m (g.calm.coords c) entry_here.0 entry_here.1 entry_here.2 (sym (ap (λ o. lacks_ack o m) entry_here.2) ∙ p.0.unacknowledged.lacks)).no_ack

  -- the commit comes, and is acknowledged
  commit_comes : Follows pairs numbers (Sent pairs numbers (Unacknowledged t m c) (message.Decide t c m true)) (event.Deliver (message.Decide t c m true))
  commit_comes = follow pairs numbers (Sent pairs numbers (Unacknowledged t m c) (message.Decide t c m true)) (event.Deliver (message.Decide t c m true))
      (sent_moves pairs numbers (Unacknowledged t m c) (message.Decide t c m true) unacknowledged_moves) last
    where
      last : Lasts pairs numbers (Sent pairs numbers (Unacknowledged t m c) (message.Decide t c m true)) (event.Deliver (message.Decide t c m true))
      last w es g i own all del p = by (holds (w.member m).engine.voted t) (holds (w.member m).committed t) refl refl stood
        where
          x : Event
          x = event.Deliver (message.Decide t c m true)

          entry_here : (ms : List ℕ) × (acks : List ℕ) × (look (w.coord c).table t ≡ Some (entry.Committed ms acks))
          entry_here = some_committed (look (w.coord c).table t) m p.0.lacks

          stood : stands (view Memory (w.member m)) t ≡ true
          stood = g.calm.facts.records.unended t c m entry_here.0 Memory ((g.calm.facts.coords c).committed t entry_here.0 entry_here.1 entry_here.2).recorded
              (and_parts _ _ (sym (ap (λ o. lacks_ack o m) entry_here.2) ∙ p.0.lacks)).0

          inactive : holds (w.member m).engine.active t ≡ false
          inactive = stands_apart w g.calm.facts t m stood

          arrived : (st : Standing) → standing_of (w.member m) t ≡ st → step_line w (event.Deliver (message.Decide t c m true)) ≡ at_member w m (commit_by m (w.member m) t c st)
          arrived st e = deliver_is w (message.Decide t c m true) p.1 ∙ (λ j. up_member w m (g.up (node.Member m) p.0.member j) (commit_by m (w.member m) t c (e j)))

          goes : (did : MemberStep) → step_line w (event.Deliver (message.Decide t c m true)) ≡ at_member w m did → did.sent ≡ Some (message.Ack t m c) → weight_at did.state t false false ≤ 0 →
              Fell pairs numbers (event.Deliver (message.Decide t c m true) ∷ es) w
          goes did e sends none =
              passes pairs numbers (Installed t m c) (message.Ack t m c) ack_comes w (event.Deliver (message.Decide t c m true)) es g tt own all del
              (subst (λ z. Tells z (message.Ack t m c)) (sym e) (member_tells w m did (message.Ack t m c) sends))
              (Keeps (record {
                unacknowledged = kept w (event.Deliver (message.Decide t c m true)) g tt p.0 (subst (λ z. lacks_ack (look (z.state.coord c).table t) m ≡ true) (sym e) p.0.lacks);
                none = subst (λ z. weight_at (z.state.member m) t false false ≤ 0) (sym e) (subst (λ y. weight_at y t false false ≤ 0) (sym (at_here w.member m did.state)) none);
              }))

          batch : List Record
          batch = log.Commit t [] ∷ []

          by : (v d : Bool) → holds (w.member m).engine.voted t ≡ v → holds (w.member m).committed t ≡ d → (v || d) ≡ true → Fell pairs numbers (event.Deliver (message.Decide t c m true) ∷ es) w
          by true d e h k =
              let vote = holds_found (w.member m).engine.voted t e in
              let state : (commit_by m (w.member m) t c IsVoted).state ≡ with_log (installed_state (w.member m) t) (with_batch (w.member m).log batch) =
              ap (λ a. (forced_by m (installed_state (w.member m) t) batch answer.Installed (Some (message.Ack t m c)) (outcome_of a 4)).state) (g.calm.members m) in
              let a = ap (λ y. weight_at y t false false) state ∙ installed_weight (w.member m) t vote.0 (with_batch (w.member m).log batch) vote.1 false false in
              let b = is_zero (holds (w.member m).engine.active t) (holds (w.member m).asked t) false inactive refl in
              goes (commit_by m (w.member m) t c IsVoted) (arrived IsVoted (λ j. standing_by (inactive j) (e j) (holds (w.member m).committed t)))
              (ap (λ a. (forced_by m (installed_state (w.member m) t) batch answer.Installed (Some (message.Ack t m c)) (outcome_of a 4)).sent) (g.calm.members m))
              (omega (arith, a, b))
          by false true e h k =
              let b = is_zero (holds (w.member m).engine.active t) (holds (w.member m).asked t) (holds (w.member m).engine.voted t) inactive e in
              goes (commit_by m (w.member m) t c IsInstalled) (arrived IsInstalled (λ j. standing_by (inactive j) (e j) (h j))) refl (omega (arith, b))
          by false false e h k = absurd (let z : false ≡ true = k in cc)

  -- the commit is sent again
  pub commit_resent : Follows pairs numbers (Unacknowledged t m c) (event.Resend t c)
  commit_resent = follow pairs numbers (Unacknowledged t m c) (event.Resend t c) unacknowledged_moves last
    where
      last : Lasts pairs numbers (Unacknowledged t m c) (event.Resend t c)
      last w es g i own all del p =
          let x = some_committed (look (w.coord c).table t) m p.lacks in
          let did : CoordStep = resend_entry c (w.coord c) t (Some (entry.Committed x.0 x.1)) in
          let resent : step_line w (event.Resend t c) ≡ at_coord w c did = λ j. up_coord w c (g.up (node.Coord c) p.coord j) (resend_entry c (w.coord c) t (x.2 j)) in
          let found = commit_among t c m x.0 x.1 (sym (ap (λ o. lacks_ack o m) x.2) ∙ p.lacks) in
          passes pairs numbers (Unacknowledged t m c) (message.Decide t c m true) commit_comes w (event.Resend t c) es g tt own all del
          (subst (λ z. Tells z (message.Decide t c m true)) (sym resent) (coord_tells w c did (message.Decide t c m true) found))
          (unacknowledged_moves w (event.Resend t c) g tt p)
