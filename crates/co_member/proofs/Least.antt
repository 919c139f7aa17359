-- The least undecided transaction of all: number 0 where it is undecided, and else the least one above it.
use Rattle.std.proofs.Common.{◌≡◌, ◌≢◌, ◌<◌, ℕ, Bool, true, false, ◌||◌, nat_lt, List, Option, None, Some, refl, sym, ◌∙◌, arith}
use Rattle.std.proofs.lemmas.Bool.Decides.{nat_tests}
use Rattle.co_state.specs.declared.engine_state.EngineState.{EngineState}
use Rattle.co_state.specs.declared.engine_state.Operation.{Operation}
use Rattle.co_state.specs.declared.engine_state.Vote.{Vote}
use Rattle.co_state.specs.Table.{is_above, look}
use Rattle.co_undecided.proofs.Least.{IsLeast, least_once, least_of, least_of_both, passed, table_least}
use Rattle.co_undecided.proofs.Numbered.{by_number}
use Rattle.co_undecided.specs.Kept.{mark_of, mark_at, next_open}
use Rattle.co_member.specs.Reading.{open_after}
use Rattle.co_member.proofs.Standings.{none_active, none_voted}

abbrev is_open : EngineState → Option ℕ → ℕ → Bool
is_open b after u = passed (λ u (os : List Operation). is_above after u) u (look b.active u) || passed (λ u (vote : Vote). is_above after u) u (look b.voted u)

open_least : (b : EngineState) (after : Option ℕ) → IsLeast (is_open b after) (open_after b after)
open_least b after =
    least_of_both (λ u. passed (λ u (os : List Operation). is_above after u) u (look b.active u)) (λ u. passed (λ u (vote : Vote). is_above after u) u (look b.voted u)) _ _
    (table_least (λ u (os : List Operation). is_above after u) b.active) (table_least (λ u (vote : Vote). is_above after u) b.voted)

closed_at : (b : EngineState) (after : Option ℕ) (u : ℕ) → mark_at b u ≡ None → is_open b after u ≡ false
closed_at b after u none = (λ i. passed (λ u (os : List Operation). is_above after u) u (none_active (look b.active u) (look b.voted u) none i) || passed (λ u (vote : Vote). is_above after u) u (none_voted (look b.active u) (look b.voted u) none i))

open_by : (os : Option (List Operation)) (vote : Option Vote) (f : Bool) → mark_of os vote ≡ Some f → (passed (λ u (x : List Operation). true) 0 os || passed (λ u (x : Vote). true) 0 vote) ≡ true
open_by (Some os) vote f e = refl
open_by None (Some vote) f e = refl
open_by None None f e = absurd (let z : None ≡ Some f = e in cc)

-- number 0 is the least where it is undecided
pub open_first : (b : EngineState) (f : Bool) → mark_at b 0 ≡ Some f → Some 0 ≡ open_after b None
open_first b f e = least_once (is_open b None) (Some 0) (open_after b None) (open_by (look b.active 0) (look b.voted 0) f e, λ v below. absurd (let z : v < 0 = below in omega (arith, z))) (open_least b None)

passed_alike : {X : Type 0} (u : ℕ) (o : Option X) → nat_lt 0 u ≡ true → passed (λ u (x : X). nat_lt 0 u) u o ≡ passed (λ u (x : X). true) u o
passed_alike u None e = refl
passed_alike u (Some x) e = e

-- and else the next one above it is
pub open_next : (b : EngineState) → mark_at b 0 ≡ None → next_open b 0 ≡ open_after b None
open_next b none = least_once (is_open b None) (next_open b 0) (open_after b None) (least_of (is_open b (Some 0)) (is_open b None) (next_open b 0) alike (open_least b (Some 0))) (open_least b None)
  where
    alike : (u : ℕ) → is_open b (Some 0) u ≡ is_open b None u
    alike u = by_number (λ u. is_open b (Some 0) u ≡ is_open b None u) 0 u (closed_at b (Some 0) 0 none ∙ sym (closed_at b None 0 none)) (λ n. above n)
      where
        above : u ≢ 0 → is_open b (Some 0) u ≡ is_open b None u
        above n =
            let e : nat_lt 0 u ≡ true = grind (arith, nat_tests) in
            λ i. passed_alike u (look b.active u) e i || passed_alike u (look b.voted u) e i
