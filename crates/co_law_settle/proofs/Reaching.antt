-- What the deliveries of an exchange reach: each message that was sent is delivered, and finds its node up.
use Rattle.std.proofs.Common.{◌≡◌, Bool, true, false, ◌&&◌, ◌==◌, ◌≤◌, if◌then◌else◌, List, [], ◌∷◌, ◌++◌, map, find, length, Option, None, Some, refl, sym, ap, ◌∙◌, subst, arith}
use Rattle.std.proofs.lemmas.Bool.{or_left, eq-eqb}
use Rattle.co_base.specs.declared.mark.Mark.{Mark}
use Rattle.co_message.specs.declared.answer.Answer.{Answer}
use Rattle.co_message.specs.declared.event.Event.{Event}
use Rattle.co_message.specs.declared.event.Event.TheVariants as event
use Rattle.co_message.specs.declared.item.ItemKind.TheVariants as item
use Rattle.co_message.specs.declared.message.Message.{Message}
use Rattle.co_message.specs.declared.message.Message.TheVariants as message
use Rattle.co_message.specs.Sent.{same_message, same_flag}
use Rattle.co_plain.specs.Wire.{was_sent, send_one, send_all}
use Rattle.co_plain.specs.Federation.{Federation, Stepped, items_of}
use Rattle.co_plain.specs.Step.{step_line}
use Rattle.co_plain.specs.Runs.{run, lines}
use Rattle.co_law_base.proofs.Sending.{sent_still}
use Rattle.co_law_settle.specs.SettlingMeasure.{RaisesNothing, RaiseNothing}
use Rattle.co_law_settle.specs.SettlingTurns.{note_in, delivers, deliveries, IsServed, AreServed}

-- of what a step tells, the messages
note_of_sent : (test : Message → Bool) (notes : List Message) (a : Answer) → note_in test (map item.Sent notes ++ item.Answered a ∷ []) ≡ find test notes
note_of_sent test [] a = refl
note_of_sent test (n ∷ ns) a = by (note_of_sent test ns a) (test n)
  where
    by : note_in test (map item.Sent ns ++ item.Answered a ∷ []) ≡ find test ns → (b : Bool) →
        (if b then Some n else note_in test (map item.Sent ns ++ item.Answered a ∷ [])) ≡ (if b then Some n else find test ns)
    by rest true = refl
    by rest false = rest

pub note_of : (test : Message → Bool) (marks : List Mark) (notes : List Message) (a : Answer) → note_in test (items_of marks notes a) ≡ find test notes
note_of test [] notes a = note_of_sent test notes a
note_of test (m ∷ ms) notes a = note_of test ms notes a

all_four : (a b c d : Bool) → a ≡ true → b ≡ true → c ≡ true → d ≡ true → (a && b && c && d) ≡ true
all_four a b c d p q r u = rw (p, q, r, u)

all_three : (a b c : Bool) → a ≡ true → b ≡ true → c ≡ true → (a && b && c) ≡ true
all_three a b c p q r = rw (p, q, r)

same_flags : (b : Bool) → same_flag b b ≡ true
same_flags true = refl
same_flags false = refl

same_note : (note : Message) → same_message note note ≡ true
same_note (message.Prepare t c m n) = all_four (t == t) (c == c) (m == m) (n == n) (eq-eqb t t refl) (eq-eqb c c refl) (eq-eqb m m refl) (eq-eqb n n refl)
same_note (message.Vote t m c b) = all_four (t == t) (m == m) (c == c) (same_flag b b) (eq-eqb t t refl) (eq-eqb m m refl) (eq-eqb c c refl) (same_flags b)
same_note (message.Decide t c m b) = all_four (t == t) (c == c) (m == m) (same_flag b b) (eq-eqb t t refl) (eq-eqb c c refl) (eq-eqb m m refl) (same_flags b)
same_note (message.Ask t m c) = all_three (t == t) (m == m) (c == c) (eq-eqb t t refl) (eq-eqb m m refl) (eq-eqb c c refl)
same_note (message.Ack t m c) = all_three (t == t) (m == m) (c == c) (eq-eqb t t refl) (eq-eqb m m refl) (eq-eqb c c refl)

pub sent_now : (sent : List Message) (note : Message) → was_sent (send_one sent note) note ≡ true
sent_now sent note = by (was_sent sent note) refl
  where
    by : (b : Bool) → was_sent sent note ≡ b → was_sent (if b then sent else note ∷ sent) note ≡ true
    by true e = e
    by false e = or_left (same_message note note) (was_sent sent note) (same_note note)

all_still : (sent notes : List Message) (note : Message) → was_sent sent note ≡ true → was_sent (send_all sent notes) note ≡ true
all_still sent [] note h = h
all_still sent (n ∷ ns) note h = all_still (send_one sent n) ns note (sent_still sent n note h)

-- what was found among messages is sent with them
pub found_sent : (test : Message → Bool) (sent notes : List Message) (note : Message) → find test notes ≡ Some note → was_sent (send_all sent notes) note ≡ true
found_sent test sent [] note h = absurd (let z : None ≡ Some note = h in cc)
found_sent test sent (n ∷ ns) note h = by (found_sent test (send_one sent n) ns note) (test n) refl
  where
    by : (find test ns ≡ Some note → was_sent (send_all (send_one sent n) ns) note ≡ true) → (b : Bool) → test n ≡ b → was_sent (send_all (send_one sent n) ns) note ≡ true
    by rest true e =
        let is : Some n ≡ Some note = sym (ap (λ b. if b then Some n else find test ns) e) ∙ h in
        let same : n ≡ note = cc in
        all_still (send_one sent n) ns note (subst (λ k. was_sent (send_one sent n) k ≡ true) same (sent_now sent n))
    by rest false e = rest (sym (ap (λ b. if b then Some n else find test ns) e) ∙ h)

-- What holds of the deliveries after a step: each is served, and this holds in the end.
pub record Reaches (P : Federation → Type 0) (tests : List (Message → Bool)) (z : Stepped) : Type 0 where
  pub served : AreServed (deliveries tests z) z.state
  pub raises : RaiseNothing (deliveries tests z) z.state
  pub ends : P (run (lines (deliveries tests z)) z.state)

module _ (P : Federation → Type 0) where
  pub reaches_end : (z : Stepped) → P z.state → Reaches P [] z
  reaches_end z p = record { served = tt; raises = tt; ends = p }

  pub reaches_none : (test : Message → Bool) (tests : List (Message → Bool)) (z : Stepped) → note_in test z.items ≡ None → P z.state → Reaches P (test ∷ tests) z
  reaches_none test tests z e p =
      record {
        served = subst (λ o. AreServed (delivers o more) z.state) (sym e) tt;
        raises = subst (λ o. RaiseNothing (delivers o more) z.state) (sym e) tt;
        ends = subst (λ o. P (run (lines (delivers o more)) z.state)) (sym e) p;
      }
    where
      more : Message → List Event
      more = λ note. deliveries tests (step_line z.state (event.Deliver note))

  pub reaches_some : (test : Message → Bool) (tests : List (Message → Bool)) (z : Stepped) (note : Message) → note_in test z.items ≡ Some note → IsServed z.state (event.Deliver note) →
      RaisesNothing z.state (event.Deliver note) → Reaches P tests (step_line z.state (event.Deliver note)) → Reaches P (test ∷ tests) z
  reaches_some test tests z note e s n r =
      record {
        served = subst (λ o. AreServed (delivers o more) z.state) (sym e) (s, r.served);
        raises = subst (λ o. RaiseNothing (delivers o more) z.state) (sym e) (n, r.raises);
        ends = subst (λ o. P (run (lines (delivers o more)) z.state)) (sym e) r.ends;
      }
    where
      more : Message → List Event
      more = λ note. deliveries tests (step_line z.state (event.Deliver note))

-- at most one event for each message that is wanted
pub deliveries_count : (tests : List (Message → Bool)) (z : Stepped) → length (deliveries tests z) ≤ length tests
deliveries_count [] z = omega arith
deliveries_count (test ∷ tests) z = by (λ note. deliveries_count tests (step_line z.state (event.Deliver note))) (note_in test z.items)
  where
    by : ((note : Message) → length (deliveries tests (step_line z.state (event.Deliver note))) ≤ length tests) → (o : Option Message) →
        length (delivers o (λ note. deliveries tests (step_line z.state (event.Deliver note)))) ≤ length (test ∷ tests)
    by rest None = omega arith
    by rest (Some note) = let k = rest note in omega (arith, k)
