-- What the events of settling leave at one coordinator, at one transaction.
use Rattle.std.proofs.Common.{◌≡◌, ◌⊎◌, inl, inr, ℕ, Bool, true, false, not, ◌||◌, ◌&&◌, ◌==◌, if◌then◌else◌, List, [], ◌∷◌, Option, None, Some, refl, sym, ap, ◌∙◌, subst}
use Rattle.std.proofs.lemmas.Bool.{or_cases, or_left, or_right, and_parts, eq-eqb}
use Rattle.co_base.specs.declared.part.Part.{Part}
use Rattle.co_message.specs.declared.answer.Answer.TheVariants as answer
use Rattle.co_message.specs.declared.answer.Cause.TheVariants as cause
use Rattle.co_message.specs.declared.message.Message.TheVariants as message
use Rattle.co_record.specs.declared.record.Record.{Record}
use Rattle.co_record.specs.declared.record.Record.TheVariants as log
use Rattle.co_state.specs.Table.{look, holds, put, without}
use Rattle.co_plain.specs.declared.coord_state.CoordState.{CoordState}
use Rattle.co_plain.specs.declared.coord_state.Entry.{Entry}
use Rattle.co_plain.specs.declared.coord_state.Entry.TheVariants as entry
use Rattle.co_plain.specs.declared.coord_step.CoordStep.{CoordStep}
use Rattle.co_plain.specs.Numbers.{first_lacking, has_number}
use Rattle.co_plain.specs.LogWrite.{outcome_of, with_batch}
use Rattle.co_plain.specs.CoordStep.{has_part, members_of, with_table, with_coord_log, coord_says, coord_forced_by}
use Rattle.co_plain.specs.Coordinator.{yes_entry, no_entry, decided_by, ack_entry, ended_by, waits, aborts, timer_entry, decisions_to}
use Rattle.co_plain.specs.Wire.{was_sent}
use Rattle.co_plain.specs.Federation.{Federation}
use Rattle.co_plain.specs.Invariants.{Memory, view, stands}
use Rattle.co_plain.specs.Quiet.{lacks_yes, lacks_ack}
use Rattle.co_plain.specs.Settling.{is_idle}
use Rattle.co_law_base.proofs.Lookups.{put_here, put_there, without_here, without_there, found_holds}
use Rattle.co_law_base.proofs.Commits.{lacks_none}
use Rattle.co_law_base.proofs.Facts.{Facts, rest_of, CollectingEntry}
use Rattle.co_law_base.proofs.Carrying.{by_coord_begun}
use Rattle.co_law_base.proofs.CoordMoves.{one_yes}
use Rattle.co_law_settle.proofs.Falling.{CoordFalls}

pub coord_same : (s : Federation) (t : ℕ) (x : CoordState) → x.log.armed ≡ None → CoordFalls s t x x
coord_same s t x e = record { unarmed = e; up = λ h. h; others = λ u n. refl; votes = λ m h. h; acks = λ m h. inl h; idles = λ h. h }

-- another entry, or none
put_falls : (s : Federation) (t : ℕ) (x y : CoordState) (e : Entry) → y.log.armed ≡ None → y.up ≡ x.up → y.table ≡ put x.table t e →
    ((m : ℕ) → lacks_yes (Some e) m ≡ true → lacks_yes (look x.table t) m ≡ true) →
    ((m : ℕ) → lacks_ack (Some e) m ≡ true → (lacks_ack (look x.table t) m ≡ true) ⊎ ((holds (s.member m).engine.active t || holds (s.member m).engine.voted t) ≡ true)) →
    is_idle (Some e) ≡ false → CoordFalls s t x y
put_falls s t x y e a u same votes acks idle =
    record {
      unarmed = a;
      up = λ h. u ∙ h;
      others = λ v n. ap (λ k. look k v) same ∙ put_there x.table t e v n;
      votes = λ m h. votes m (sym (ap (λ o. lacks_yes o m) here) ∙ h);
      acks = λ m h. acks m (sym (ap (λ o. lacks_ack o m) here) ∙ h);
      idles = λ h. absurd (let z : true ≡ false = sym h ∙ ap is_idle here ∙ idle in cc);
    }
  where
    here : look y.table t ≡ Some e
    here = ap (λ k. look k t) same ∙ put_here x.table t e

without_falls : (s : Federation) (t : ℕ) (x y : CoordState) → y.log.armed ≡ None → y.up ≡ x.up → y.table ≡ without x.table t → CoordFalls s t x y
without_falls s t x y a u same =
    record {
      unarmed = a;
      up = λ h. u ∙ h;
      others = λ v n. ap (λ k. look k v) same ∙ without_there x.table t v n;
      votes = λ m h. absurd (let z : false ≡ true = sym (ap (λ o. lacks_yes o m) here) ∙ h in cc);
      acks = λ m h. absurd (let z : false ≡ true = sym (ap (λ o. lacks_ack o m) here) ∙ h in cc);
      idles = λ h. absurd (let z : false ≡ true = sym (ap is_idle here) ∙ h in cc);
    }
  where
    here : look y.table t ≡ None
    here = ap (λ k. look k t) same ∙ without_here x.table t

-- a vote comes: what it leaves lacks no vote of the member, and a no leaves nothing of a transaction that lacked it
pub record VoteNoted (s : Federation) (t c m : ℕ) (granted : Bool) (did : CoordStep) : Type 0 where
  pub falls : CoordFalls s t (s.coord c) did.state
  pub recorded : lacks_yes (look did.state.table t) m ≡ false
  pub gone : granted ≡ false → lacks_yes (look (s.coord c).table t) m ≡ true → look did.state.table t ≡ None

-- once more given, nothing else lacks
more_given : (a b c : Bool) → (a && not (b || c)) ≡ true → (a && not c) ≡ true
more_given true true c h = absurd (let z : false ≡ true = h in cc)
more_given true false c h = h
more_given false b c h = h

given_now : (a b c : Bool) → b ≡ true → (a && not (b || c)) ≡ false
given_now true true c e = refl
given_now false true c e = refl
given_now a false c e = absurd (let z : false ≡ true = e in cc)

module _ (s : Federation) (f : Facts s) (c t m : ℕ) (e : (s.coord c).log.armed ≡ None) where
  stays : (granted : Bool) (did : CoordStep) (o : Option Entry) → did.state ≡ s.coord c → look (s.coord c).table t ≡ o → lacks_yes o m ≡ false → VoteNoted s t c m granted did
  stays granted did o same h l =
      record {
        falls = subst (CoordFalls s t (s.coord c)) (sym same) (coord_same s t (s.coord c) e);
        recorded = ap (λ y. lacks_yes (look y.table t) m) same ∙ ap (λ k. lacks_yes k m) h ∙ l;
        gone = λ g k. absurd (let z : true ≡ false = sym k ∙ ap (λ w. lacks_yes w m) h ∙ l in cc);
      }

  -- the last missing yes: every participant has voted
  all_voted : (parts : List Part) (yeses : List ℕ) → look (s.coord c).table t ≡ Some (entry.Collecting parts yeses) → was_sent s.sent (message.Vote t m c true) ≡ true →
      first_lacking (members_of parts) (m ∷ yeses) ≡ None → (k : ℕ) → has_number (members_of parts) k ≡ true → holds (s.member k).engine.voted t ≡ true
  all_voted parts yeses h sent none k part = by (or_cases (holds (s.member k).engine.voted t) (holds (s.member k).committed t) stood)
    where
      x : CollectingEntry (rest_of s) c (s.coord c).log.stable t parts yeses
      x = (f.coords c).collecting t parts yeses h

      yes_sent : was_sent s.sent (message.Vote t k c true) ≡ true
      yes_sent = one_yes (λ j. was_sent s.sent (message.Vote t j c true) ≡ true) yeses m k sent (x.yeses_sent k) (lacks_none (members_of parts) (m ∷ yeses) k none part)

      stood : stands (view Memory (s.member k)) t ≡ true
      stood = f.sent.yeses_stand t k c Memory yes_sent (or_left _ _ (found_holds (s.coord c).table t (entry.Collecting parts yeses) h))

      by : (holds (s.member k).engine.voted t ≡ true) ⊎ (holds (s.member k).committed t ≡ true) → holds (s.member k).engine.voted t ≡ true
      by (inl v) = v
      by (inr d) =
          absurd (let z : true ≡ false = sym (((f.members k).views Memory).known t d (by_coord_begun (look s.sessions t) c x.still.begun_there)) ∙ x.still.undecided in cc)

  decided : (parts : List Part) (yeses : List ℕ) → look (s.coord c).table t ≡ Some (entry.Collecting parts yeses) → was_sent s.sent (message.Vote t m c true) ≡ true →
      (o : Option ℕ) → first_lacking (members_of parts) (m ∷ yeses) ≡ o → VoteNoted s t c m true (decided_by c (s.coord c) t parts (m ∷ yeses) o)
  decided parts yeses h sent (Some k) g =
      record {
        falls = put_falls s t (s.coord c) _ (entry.Collecting parts (m ∷ yeses)) e refl refl
            (λ j l. ap (λ o. lacks_yes o j) h ∙ more_given (has_part parts j) (m == j) (has_number yeses j) l) (λ j l. absurd (let z : false ≡ true = l in cc)) refl;
        recorded = ap (λ o. lacks_yes o m) (put_here (s.coord c).table t (entry.Collecting parts (m ∷ yeses))) ∙ given_now (has_part parts m) (m == m) (has_number yeses m) (eq-eqb m m refl);
        gone = λ n k. absurd (let z : true ≡ false = n in cc);
      }
  decided parts yeses h sent None g =
      record {
        falls = subst (CoordFalls s t (s.coord c)) (sym same) (put_falls s t (s.coord c) _ (entry.Committed (members_of parts) []) refl refl refl
            (λ j l. absurd (let z : false ≡ true = l in cc))
            (λ j l. inr (or_right _ _ (all_voted parts yeses h sent g j (and_parts (has_number (members_of parts) j) (not false) l).0))) refl);
        recorded = ap (λ y. lacks_yes (look y.table t) m) same ∙ ap (λ o. lacks_yes o m) (put_here (s.coord c).table t (entry.Committed (members_of parts) []));
        gone = λ n k. absurd (let z : true ≡ false = n in cc);
      }
    where
      next : CoordState
      next = with_table (s.coord c) (put (s.coord c).table t (entry.Committed (members_of parts) []))

      batch : List Record
      batch = log.Commit t (members_of parts) ∷ []

      same : (decided_by c (s.coord c) t parts (m ∷ yeses) None).state ≡ with_coord_log next (with_batch next.log batch)
      same = ap (λ o. (coord_forced_by c next batch answer.Committed (decisions_to c t true (members_of parts)) (outcome_of o 4)).state) e

  pub yes_noted : (o : Option Entry) → look (s.coord c).table t ≡ o → was_sent s.sent (message.Vote t m c true) ≡ true → VoteNoted s t c m true (yes_entry c (s.coord c) t m o)
  yes_noted None h sent = stays true _ None refl h refl
  yes_noted (Some entry.Idle) h sent = stays true _ (Some entry.Idle) refl h refl
  yes_noted (Some (entry.Committed ms acks)) h sent = stays true _ (Some (entry.Committed ms acks)) refl h refl
  yes_noted (Some (entry.Collecting parts yeses)) h sent = by (has_part parts m && not (has_number yeses m)) refl
    where
      by : (b : Bool) → (has_part parts m && not (has_number yeses m)) ≡ b →
          VoteNoted s t c m true (if b then decided_by c (s.coord c) t parts (m ∷ yeses) (first_lacking (members_of parts) (m ∷ yeses)) else waits (s.coord c) parts yeses)
      by true g = decided parts yeses h sent (first_lacking (members_of parts) (m ∷ yeses)) refl
      by false g = stays true _ (Some (entry.Collecting parts yeses)) refl h g

  pub no_noted : (o : Option Entry) → look (s.coord c).table t ≡ o → VoteNoted s t c m false (no_entry c (s.coord c) t m o)
  no_noted None h = stays false _ None refl h refl
  no_noted (Some entry.Idle) h = stays false _ (Some entry.Idle) refl h refl
  no_noted (Some (entry.Committed ms acks)) h = stays false _ (Some (entry.Committed ms acks)) refl h refl
  no_noted (Some (entry.Collecting parts yeses)) h = by (has_part parts m) refl
    where
      by : (b : Bool) → has_part parts m ≡ b → VoteNoted s t c m false (if b then aborts c (s.coord c) t cause.Vote parts else waits (s.coord c) parts yeses)
      by true g =
          record {
            falls = without_falls s t (s.coord c) _ e refl refl;
            recorded = ap (λ o. lacks_yes o m) (without_here (s.coord c).table t);
            gone = λ n k. without_here (s.coord c).table t;
          }
      by false g = stays false _ (Some (entry.Collecting parts yeses)) refl h (ap (λ b. b && not (has_number yeses m)) g)

  -- an acknowledgement that was lacking comes
  pub record AckNoted (did : CoordStep) : Type 0 where
    pub falls : CoordFalls s t (s.coord c) did.state
    pub no_vote : lacks_yes (look did.state.table t) m ≡ false
    pub no_ack : lacks_ack (look did.state.table t) m ≡ false

  pub ack_noted : (ms acks : List ℕ) → look (s.coord c).table t ≡ Some (entry.Committed ms acks) → (has_number ms m && not (has_number acks m)) ≡ true →
      AckNoted (ack_entry (s.coord c) t m (Some (entry.Committed ms acks)))
  ack_noted ms acks h l = subst (λ b. AckNoted (if b then ended_by (s.coord c) t ms (m ∷ acks) (first_lacking ms (m ∷ acks)) else coord_says (s.coord c) answer.Decided)) (sym l)
      (by (first_lacking ms (m ∷ acks)))
    where
      by : (o : Option ℕ) → AckNoted (ended_by (s.coord c) t ms (m ∷ acks) o)
      by (Some k) =
          record {
            falls = put_falls s t (s.coord c) _ (entry.Committed ms (m ∷ acks)) e refl refl (λ j z. absurd (let q : false ≡ true = z in cc))
                (λ j z. inl (ap (λ o. lacks_ack o j) h ∙ more_given (has_number ms j) (m == j) (has_number acks j) z)) refl;
            no_vote = ap (λ o. lacks_yes o m) (put_here (s.coord c).table t (entry.Committed ms (m ∷ acks)));
            no_ack = ap (λ o. lacks_ack o m) (put_here (s.coord c).table t (entry.Committed ms (m ∷ acks))) ∙ given_now (has_number ms m) (m == m) (has_number acks m) (eq-eqb m m refl);
          }
      by None =
          record {
            falls = without_falls s t (s.coord c) _ e refl refl;
            no_vote = ap (λ o. lacks_yes o m) (without_here (s.coord c).table t);
            no_ack = ap (λ o. lacks_ack o m) (without_here (s.coord c).table t);
          }

  -- the timer of an idle transaction
  pub idle_ends : CoordFalls s t (s.coord c) (timer_entry c (s.coord c) t (Some entry.Idle)).state
  idle_ends = without_falls s t (s.coord c) _ e refl refl
