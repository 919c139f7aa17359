-- From which event a message may come, and what that says of the event.
use Rattle.std.proofs.Common.{◌≡◌, ℕ, Bool, true, false, not, ◌||◌, ◌==◌, List, [], ◌∷◌, ◌++◌, refl, sym, ap, ◌∙◌}
use Rattle.std.specs.List.{list_any}
use Rattle.std.proofs.lemmas.Bool.{and_parts, eqb-true}
use Rattle.co_message.specs.declared.event.Event.TheVariants as event
use Rattle.co_message.specs.declared.message.Message.{Message}
use Rattle.co_message.specs.declared.message.Message.TheVariants as message
use Rattle.co_plain.specs.declared.happening.Happening.{Happening}
use Rattle.co_plain.specs.declared.happening.Happening.TheVariants as happening
use Rattle.co_law_once.specs.Costs.{is_prepare, is_vote, is_decision, is_acknowledgement, is_question, asks_commit, delivers_prepare, delivers_decision}

abbrev pub txn_of : Message → ℕ
txn_of (message.Prepare u c m n) = u
txn_of (message.Vote u m c granted) = u
txn_of (message.Decide u c m commit) = u
txn_of (message.Ask u m c) = u
txn_of (message.Ack u m c) = u

abbrev pub delivers_yes : ℕ → Happening → Bool
delivers_yes t (happening.Line (event.Deliver (message.Vote u m c true))) = u == t
delivers_yes t _ = false

-- where nothing is mended, a prepare comes from the client's word, a vote from a prepare, a decision from a yes, an acknowledgement
-- from a decision, and a question from nowhere
abbrev pub may_come : ℕ → Message → Happening → Bool
may_come t (message.Prepare u c m n) h = asks_commit t h
may_come t (message.Vote u m c granted) h = delivers_prepare t m h
may_come t (message.Decide u c m commit) h = delivers_yes t h
may_come t (message.Ask u m c) h = false
may_come t (message.Ack u m c) h = delivers_decision t m h

-- a message of another transaction, or one that may come from here
abbrev pub fits : ℕ → Happening → Message → Bool
fits t h note = not (txn_of note == t) || may_come t note h

-- all pass
abbrev pub AllPass : (Message → Bool) → List Message → Type 0
AllPass f [] = Unit {0}
AllPass f (note ∷ notes) = (f note ≡ true) × AllPass f notes

pub pass_more : (f : Message → Bool) (xs ys : List Message) → AllPass f xs → AllPass f ys → AllPass f (xs ++ ys)
pass_more f [] ys a b = b
pass_more f (x ∷ xs) ys a b = (a.0, pass_more f xs ys a.1 b)

here : (b c : Bool) → b ≡ true → (not b || c) ≡ true → c ≡ true
here true c e f = f
here false c e f = absurd (let z : false ≡ true = e in cc)

clash : {A : Type 0} → false ≡ true → A
clash h = absurd (let z : false ≡ true = h in cc)

module _ (t m : ℕ) (h : Happening) where
  pub from_commit : (note : Message) → fits t h note ≡ true → is_prepare t m note ≡ true → asks_commit t h ≡ true
  from_commit (message.Prepare u c k n) f p = here (u == t) (asks_commit t h) (and_parts (k == m) (u == t) p).1 f
  from_commit (message.Vote u k c g) f p = clash p
  from_commit (message.Decide u c k b) f p = clash p
  from_commit (message.Ask u k c) f p = clash p
  from_commit (message.Ack u k c) f p = clash p

  pub from_prepare : (note : Message) → fits t h note ≡ true → is_vote t m note ≡ true → delivers_prepare t m h ≡ true
  from_prepare (message.Vote u k c g) f p =
      let q = and_parts (k == m) (u == t) p in
      ap (λ j. delivers_prepare t j h) (sym (eqb-true k m q.0)) ∙ here (u == t) (delivers_prepare t k h) q.1 f
  from_prepare (message.Prepare u c k n) f p = clash p
  from_prepare (message.Decide u c k b) f p = clash p
  from_prepare (message.Ask u k c) f p = clash p
  from_prepare (message.Ack u k c) f p = clash p

  pub from_yes : (note : Message) → fits t h note ≡ true → is_decision t m note ≡ true → delivers_yes t h ≡ true
  from_yes (message.Decide u c k b) f p = here (u == t) (delivers_yes t h) (and_parts (k == m) (u == t) p).1 f
  from_yes (message.Prepare u c k n) f p = clash p
  from_yes (message.Vote u k c g) f p = clash p
  from_yes (message.Ask u k c) f p = clash p
  from_yes (message.Ack u k c) f p = clash p

  pub from_decision : (note : Message) → fits t h note ≡ true → is_acknowledgement t m note ≡ true → delivers_decision t m h ≡ true
  from_decision (message.Ack u k c) f p =
      let q = and_parts (k == m) (u == t) p in
      ap (λ j. delivers_decision t j h) (sym (eqb-true k m q.0)) ∙ here (u == t) (delivers_decision t k h) q.1 f
  from_decision (message.Prepare u c k n) f p = clash p
  from_decision (message.Vote u k c g) f p = clash p
  from_decision (message.Decide u c k b) f p = clash p
  from_decision (message.Ask u k c) f p = clash p

  pub from_nowhere : (note : Message) → fits t h note ≡ true → is_question t m note ≡ true → false ≡ true
  from_nowhere (message.Ask u k c) f p = here (u == t) false (and_parts (k == m) (u == t) p).1 f
  from_nowhere (message.Prepare u c k n) f p = p
  from_nowhere (message.Vote u k c g) f p = p
  from_nowhere (message.Decide u c k b) f p = p
  from_nowhere (message.Ack u k c) f p = p

-- of many messages that fit, one that passes tells of the event
pub one_tells : (f p : Message → Bool) (cause : Bool) → ((note : Message) → f note ≡ true → p note ≡ true → cause ≡ true) →
    (notes : List Message) → AllPass f notes → list_any p notes ≡ true → cause ≡ true
one_tells f p cause each [] a h = clash h
one_tells f p cause each (note ∷ notes) a h = by (one_tells f p cause each notes a.1) (p note) refl
  where
    by : (list_any p notes ≡ true → cause ≡ true) → (b : Bool) → p note ≡ b → cause ≡ true
    by rest true e = each note a.0 e
    by rest false e = rest (sym (ap (λ b. b || list_any p notes) e) ∙ h)
