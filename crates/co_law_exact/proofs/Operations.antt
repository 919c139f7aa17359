-- Why an operation is refused.
use Rattle.std.proofs.Common.{◌≡◌, ◌≢◌, ℕ, Bool, true, false, ◌==◌, if◌then◌else◌, Option, None, Some, refl, sym, ap, ◌∙◌, arith}
use Rattle.std.proofs.lemmas.Bool.{eqb-true, eqb-false, eq-eqb, ne_eqb}
use Rattle.co_base.specs.declared.op.Op.{Op}
use Rattle.co_base.specs.declared.reply.Reply.{Reply}
use Rattle.co_base.specs.Limits.{most_operations}
use Rattle.co_message.specs.declared.answer.Answer.{Answer}
use Rattle.co_message.specs.declared.answer.Answer.TheVariants as answer
use Rattle.co_state.specs.LockRule.{lock_blocker}
use Rattle.co_state.specs.ReadRule.{operation_reply}
use Rattle.co_state.specs.VotingRule.{kept_count}
use Rattle.co_plain.specs.declared.member_state.MemberState.{MemberState}
use Rattle.co_plain.specs.declared.member_step.MemberStep.{MemberStep}
use Rattle.co_plain.specs.Numbers.{counted}
use Rattle.co_plain.specs.MemberStep.{says}
use Rattle.co_plain.specs.Member.{unless_blocked, member_op}
use Rattle.co_law_node.specs.Causes.{Exactly}
use Rattle.co_law_exact.specs.Votes.{IsSilent, OperationIsExact}

abbrev rank : Answer → ℕ
rank (answer.Gone kept carried) = 1
rank answer.TooMany = 2
rank (answer.Blocked u) = 3
rank (answer.Replied reply) = 4
rank _ = 0

abbrev blocker_named : ℕ → Answer → ℕ
blocker_named d (answer.Blocked u) = u
blocker_named d _ = d

abbrev reply_named : Reply → Answer → Reply
reply_named d (answer.Replied reply) = reply
reply_named d _ = d

apart : {A : Type 0} (a b : Answer) → a ≡ b → rank a ≢ rank b → A
apart a b e n = absurd (n (ap rank e))

module _ (x : MemberState) (t carried : ℕ) (op : Op) where
  abbrev done : Bool → Bool → Option ℕ → MemberStep
  done kept most blocker = if kept then (if most then says x answer.TooMany else unless_blocked x t op blocker) else says x (answer.Gone (counted (kept_count x.engine t)) (counted carried))

  made : (kept most : Bool) (blocker : Option ℕ) → (kept_count x.engine t == carried) ≡ kept → (carried == most_operations) ≡ most → lock_blocker x.engine t op ≡ blocker →
      member_op x t carried op ≡ done kept most blocker
  made kept most blocker e f g = λ i. done (e i) (f i) (g i)

  abbrev Agrees : Type 0
  Agrees = kept_count x.engine t ≡ carried

  gone_to : (kept most : Bool) (blocker : Option ℕ) → (kept_count x.engine t == carried) ≡ kept → (done kept most blocker).answer ≡ answer.Gone (counted (kept_count x.engine t)) (counted carried) → Agrees → ⊥
  gone_to false most blocker e h n = let z : true ≡ false = sym (eq-eqb (kept_count x.engine t) carried n) ∙ e in cc
  gone_to true true blocker e h n = apart answer.TooMany (answer.Gone (counted (kept_count x.engine t)) (counted carried)) h (λ z. omega (arith, z))
  gone_to true false (Some u) e h n = apart (answer.Blocked u) (answer.Gone (counted (kept_count x.engine t)) (counted carried)) h (λ z. omega (arith, z))
  gone_to true false None e h n = apart (answer.Replied (operation_reply x.engine t op)) (answer.Gone (counted (kept_count x.engine t)) (counted carried)) h (λ z. omega (arith, z))

  many_to : (kept most : Bool) (blocker : Option ℕ) → (kept_count x.engine t == carried) ≡ kept → (carried == most_operations) ≡ most → (done kept most blocker).answer ≡ answer.TooMany → Agrees × (carried ≡ most_operations)
  many_to false most blocker e f h = apart (answer.Gone (counted (kept_count x.engine t)) (counted carried)) answer.TooMany h (λ z. omega (arith, z))
  many_to true true blocker e f h = (eqb-true (kept_count x.engine t) carried e, eqb-true carried most_operations f)
  many_to true false (Some u) e f h = apart (answer.Blocked u) answer.TooMany h (λ z. omega (arith, z))
  many_to true false None e f h = apart (answer.Replied (operation_reply x.engine t op)) answer.TooMany h (λ z. omega (arith, z))

  blocked_to : (v : ℕ) (kept most : Bool) (blocker : Option ℕ) → (kept_count x.engine t == carried) ≡ kept → (carried == most_operations) ≡ most → lock_blocker x.engine t op ≡ blocker →
      (done kept most blocker).answer ≡ answer.Blocked v → Agrees × (carried ≢ most_operations) × (lock_blocker x.engine t op ≡ Some v)
  blocked_to v false most blocker e f g h = apart (answer.Gone (counted (kept_count x.engine t)) (counted carried)) (answer.Blocked v) h (λ z. omega (arith, z))
  blocked_to v true true blocker e f g h = apart answer.TooMany (answer.Blocked v) h (λ z. omega (arith, z))
  blocked_to v true false (Some u) e f g h = (eqb-true (kept_count x.engine t) carried e, eqb-false carried most_operations f, g ∙ ap (λ a. Some (blocker_named u a)) h)
  blocked_to v true false None e f g h = apart (answer.Replied (operation_reply x.engine t op)) (answer.Blocked v) h (λ z. omega (arith, z))

  replied_to : (r : Reply) (kept most : Bool) (blocker : Option ℕ) → (kept_count x.engine t == carried) ≡ kept → (carried == most_operations) ≡ most → lock_blocker x.engine t op ≡ blocker →
      (done kept most blocker).answer ≡ answer.Replied r → Agrees × (carried ≢ most_operations) × (lock_blocker x.engine t op ≡ None) × (operation_reply x.engine t op ≡ r)
  replied_to r false most blocker e f g h = apart (answer.Gone (counted (kept_count x.engine t)) (counted carried)) (answer.Replied r) h (λ z. omega (arith, z))
  replied_to r true true blocker e f g h = apart answer.TooMany (answer.Replied r) h (λ z. omega (arith, z))
  replied_to r true false (Some u) e f g h = apart (answer.Blocked u) (answer.Replied r) h (λ z. omega (arith, z))
  replied_to r true false None e f g h = (eqb-true (kept_count x.engine t) carried e, eqb-false carried most_operations f, g, ap (reply_named (operation_reply x.engine t op)) h)

  stays_by : (kept most : Bool) (blocker : Option ℕ) → ((r : Reply) → (done kept most blocker).answer ≢ answer.Replied r) → IsSilent (done kept most blocker) × ((done kept most blocker).state ≡ x)
  stays_by false most blocker n = ((refl, refl), refl)
  stays_by true true blocker n = ((refl, refl), refl)
  stays_by true false (Some u) n = ((refl, refl), refl)
  stays_by true false None n = absurd (n (operation_reply x.engine t op) refl)

pub operations_exact : (x : MemberState) → OperationIsExact x
operations_exact x =
    record {
      gone = λ t carried op. (
        gone_to x t carried op (kept_count x.engine t == carried) (carried == most_operations) (lock_blocker x.engine t op) refl,
        λ n. ap (λ did. did.answer) (made x t carried op false (carried == most_operations) (lock_blocker x.engine t op) (ne_eqb (kept_count x.engine t) carried n) refl refl),
      );
      too_many = λ t carried op. (
        many_to x t carried op (kept_count x.engine t == carried) (carried == most_operations) (lock_blocker x.engine t op) refl refl,
        λ p. ap (λ did. did.answer) (made x t carried op true true (lock_blocker x.engine t op) (eq-eqb (kept_count x.engine t) carried p.0) (eq-eqb carried most_operations p.1) refl),
      );
      blocked = λ t carried u op. (
        blocked_to x t carried op u (kept_count x.engine t == carried) (carried == most_operations) (lock_blocker x.engine t op) refl refl refl,
        λ p. ap (λ did. did.answer) (made x t carried op true false (Some u) (eq-eqb (kept_count x.engine t) carried p.0) (ne_eqb carried most_operations p.1) p.2),
      );
      replied = λ t carried op r. (
        replied_to x t carried op r (kept_count x.engine t == carried) (carried == most_operations) (lock_blocker x.engine t op) refl refl refl,
        λ p. ap (λ did. did.answer) (made x t carried op true false None (eq-eqb (kept_count x.engine t) carried p.0) (ne_eqb carried most_operations p.1) p.2) ∙ ap answer.Replied p.3,
      );
      stays = λ t carried op. stays_by x t carried op (kept_count x.engine t == carried) (carried == most_operations) (lock_blocker x.engine t op);
    }

-- with the counts that the answer names
abbrev kept_named : ℕ → Answer → ℕ
kept_named d (answer.Gone kept carried) = kept
kept_named d _ = d

abbrev carried_named : ℕ → Answer → ℕ
carried_named d (answer.Gone kept carried) = carried
carried_named d _ = d

pub gone_exact : (x : MemberState) (t carried : ℕ) (op : Op) (kept count : ℕ) →
    Exactly ((member_op x t carried op).answer ≡ answer.Gone kept count) ((kept_count x.engine t ≢ carried) × (counted (kept_count x.engine t) ≡ kept) × (counted carried ≡ count))
gone_exact x t carried op kept count = (
  to (kept_count x.engine t == carried) (carried == most_operations) (lock_blocker x.engine t op) refl,
  λ p. ap (λ did. did.answer) (made x t carried op false (carried == most_operations) (lock_blocker x.engine t op) (ne_eqb (kept_count x.engine t) carried p.0) refl refl)
      ∙ (λ i. answer.Gone (p.1 i) (p.2 i)),
)
  where
    to : (k most : Bool) (blocker : Option ℕ) → (kept_count x.engine t == carried) ≡ k → (done x t carried op k most blocker).answer ≡ answer.Gone kept count →
        (kept_count x.engine t ≢ carried) × (counted (kept_count x.engine t) ≡ kept) × (counted carried ≡ count)
    to false most blocker e h = (eqb-false (kept_count x.engine t) carried e, ap (kept_named 0) h, ap (carried_named 0) h)
    to true true blocker e h = apart answer.TooMany (answer.Gone kept count) h (λ z. omega (arith, z))
    to true false (Some u) e h = apart (answer.Blocked u) (answer.Gone kept count) h (λ z. omega (arith, z))
    to true false None e h = apart (answer.Replied (operation_reply x.engine t op)) (answer.Gone kept count) h (λ z. omega (arith, z))
