-- The limit on transactions, of what is kept of the clients as of the plain federation.
use Rattle.std.proofs.Common.{◌≡◌, ◌≤◌, ◌+◌, ℕ, true, nat_le, length, sym, ◌∙◌, arith}
use Rattle.std.specs.Prelude.{◌↔◌}
use Rattle.std.proofs.lemmas.Bool.Decides.{nat_tests}
use Rattle.co_base.specs.declared.head.Kind.{Kind}
use Rattle.co_message.specs.declared.event.Event.{Event}
use Rattle.co_message.specs.declared.event.Event.TheVariants as event
use Rattle.co_plain.specs.Federation.{Federation}
use Rattle.co_state.specs.declared.engine_state.EngineState.{EngineState}
use Rattle.co_world.specs.Counting.{taken_count, IsOneTooMany, MeetsPlainLimit, IsOneMore, MeetsLimit}
use Rattle.co_world.specs.Standing.{RepresentsWorld}
use Rattle.co_world.specs.declared.world.World.{World}
use Rattle.co_world.proofs.Acting.{used_alike}

all_taken : (n : ℕ) → nat_le 65536 n ≡ true → n ≤ 65536 → n ≡ 65536
all_taken n full few = grind (arith, nat_tests, full, few)

none_left : (n : ℕ) → n ≡ 65536 → nat_le 65536 n ≡ true
none_left n is = grind (arith, nat_tests, is)

same : {P : Type 0} → P ↔ P
same = (λ p. p, λ p. p)

pub through : {P Q R : Type 0} → (P ↔ Q) → (Q ↔ R) → (P ↔ R)
through one other = (λ p. other.0 (one.0 p), λ r. one.1 (other.1 r))

module _ {E : Type 0} (takes : Kind → Type 0) (stands_for : E → EngineState → Type 0) (w : World E) (s : Federation) (r : RepresentsWorld takes stands_for w s) where
  counts : length w.sessions.begun + length w.sessions.used ≡ taken_count s
  counts = λ i. r.counted.begun i + length (r.counted.used i)

  one_more : (t : ℕ) → IsOneMore w.sessions t ↔ IsOneTooMany s t
  one_more t = (
    λ m. (sym (used_alike takes stands_for w s r t) ∙ m.0, sym counts ∙ all_taken (length w.sessions.begun + length w.sessions.used) m.1 r.counted.few),
    λ m. (used_alike takes stands_for w s r t ∙ m.0, none_left (length w.sessions.begun + length w.sessions.used) (counts ∙ m.1)),
  )

  pub limits_alike : (e : Event) → MeetsLimit w.sessions e ↔ MeetsPlainLimit s e
  limits_alike (event.Begin t c) = one_more t
  limits_alike (event.Local t m) = one_more t
  limits_alike (event.Read t m k) = same
  limits_alike (event.Write t m k v) = same
  limits_alike (event.Erase t m k) = same
  limits_alike (event.Scan t m k) = same
  limits_alike (event.Commit t) = same
  limits_alike (event.Abort t) = same
  limits_alike (event.Deliver note) = same
  limits_alike (event.Vote t m) = same
  limits_alike (event.Timer t at) = same
  limits_alike (event.Ask t m) = same
  limits_alike (event.Resend t c) = same
  limits_alike (event.Crash at) = same
  limits_alike (event.Restart at) = same
  limits_alike (event.Arm at call leaves) = same
  limits_alike (event.Checkpoint at) = same
