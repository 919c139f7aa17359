-- The wire's set of messages, in the order of first sending, read as the list of sent messages.
use Rattle.std.proofs.Common.{◌≡◌, ℕ, Bool, true, false, ◌&&◌, ◌||◌, ◌==◌, List, [], ◌∷◌, ◌++◌, reverse, if◌then◌else◌, refl, sym, ap, ◌∙◌, arith}
use Rattle.std.proofs.Math.Dec.{eqb}
use Rattle.std.proofs.Math.Bool.{beq, or_comm}
use Rattle.std.proofs.lemmas.Bool.Decides.{nat_tests}
use Rattle.std.proofs.lemmas.List.{reverse-append}
use Rattle.std.specs.List.{list_any}
use Rattle.co_message.specs.contracts.message.MessagePartialEq.TheImpl as derived
use Rattle.co_message.specs.declared.message.Message.{Message}
use Rattle.co_message.specs.declared.message.Message.TheVariants as message
use Rattle.co_message.specs.Sent.{same_message, same_flag, was_sent, send_one}

swapped : (a b : ℕ) → eqb a b ≡ (b == a)
swapped a b = grind (arith, nat_tests)

swapped_flag : (a b : Bool) → beq a b ≡ same_flag b a
swapped_flag true true = refl
swapped_flag true false = refl
swapped_flag false true = refl
swapped_flag false false = refl

both : {a b c d : Bool} → a ≡ b → c ≡ d → (a && c) ≡ (b && d)
both p q i = p i && q i

and_assoc : (a b c : Bool) → (a && (b && c)) ≡ ((a && b) && c)
and_assoc true b c = refl
and_assoc false b c = refl

three : {a b c x y z : Bool} → a ≡ x → b ≡ y → c ≡ z → (a && (b && c)) ≡ ((x && y) && z)
three {x} {y} {z} p q r = both p (both q r) ∙ and_assoc x y z

four : {a b c d x y z w : Bool} → a ≡ x → b ≡ y → c ≡ z → d ≡ w → (a && (b && (c && d))) ≡ (((x && y) && z) && w)
four {x} {y} {z} {w} p q r s =
    both p (three q r s) ∙ and_assoc x (y && z) w ∙ both (and_assoc x y z) refl

-- the derived test says which messages are the same
pub derived_same : (x y : Message) → (derived.eq-value).it x y ≡ same_message y x
derived_same (message.Prepare t c m n) (message.Prepare u d o k) = four (swapped t u) (swapped c d) (swapped m o) (swapped n k)
derived_same (message.Vote t c m n) (message.Vote u d o k) = four (swapped t u) (swapped c d) (swapped m o) (swapped_flag n k)
derived_same (message.Decide t c m n) (message.Decide u d o k) =
    four (swapped t u) (swapped c d) (swapped m o) (swapped_flag n k)
derived_same (message.Ask t c m) (message.Ask u d o) = three (swapped t u) (swapped c d) (swapped m o)
derived_same (message.Ack t c m) (message.Ack u d o) = three (swapped t u) (swapped c d) (swapped m o)
derived_same _ _ = refl

or_assoc : (a b c : Bool) → (a || (b || c)) ≡ ((a || b) || c)
or_assoc true b c = refl
or_assoc false b c = refl

was_sent-append : (xs ys : List Message) (m : Message) → was_sent (xs ++ ys) m ≡ (was_sent xs m || was_sent ys m)
was_sent-append [] ys m = refl
was_sent-append (x ∷ xs) ys m =
    ap (λ b. same_message x m || b) (was_sent-append xs ys m) ∙ or_assoc (same_message x m) (was_sent xs m) (was_sent ys m)

or_false : (a : Bool) → (a || false) ≡ a
or_false true = refl
or_false false = refl

module _ (eq : Message → Message → Bool) (same : (x y : Message) → eq x y ≡ same_message y x) where
  -- the set has a message exactly where it was sent
  pub found : (ks : List Message) (m : Message) → list_any (eq m) ks ≡ was_sent (reverse ks) m
  found [] m = refl
  found (k ∷ ks) m =
      let last : was_sent (reverse (k ∷ ks)) m ≡ (was_sent (reverse ks) m || same_message k m) =
      ap (λ l. was_sent l m) (reverse-append (k ∷ []) ks)
      ∙ was_sent-append (reverse ks) (k ∷ []) m
      ∙ ap (λ b. was_sent (reverse ks) m || b) (or_false (same_message k m)) in
      ap (λ b. b || list_any (eq m) ks) (same m k)
      ∙ ap (λ b. same_message k m || b) (found ks m)
      ∙ or_comm (same_message k m) (was_sent (reverse ks) m)
      ∙ sym last

  -- a new message goes last in the set, and first in the list
  pub inserted : (ks : List Message) (m : Message) → reverse (if list_any (eq m) ks then ks else ks ++ m ∷ []) ≡ send_one (reverse ks) m
  inserted ks m = by (list_any (eq m) ks) refl
    where
      by : (b : Bool) → list_any (eq m) ks ≡ b → reverse (if list_any (eq m) ks then ks else ks ++ m ∷ []) ≡ send_one (reverse ks) m
      by true e =
          ap (λ b. reverse (if b then ks else ks ++ m ∷ [])) e
          ∙ ap (λ b. if b then reverse ks else m ∷ reverse ks) (sym e ∙ found ks m)
      by false e =
          ap (λ b. reverse (if b then ks else ks ++ m ∷ [])) e
          ∙ reverse-append ks (m ∷ [])
          ∙ ap (λ b. if b then reverse ks else m ∷ reverse ks) (sym e ∙ found ks m)
