-- What the state of an engine answers, told by what an engine finds.
use Rattle.std.proofs.Common.{◌≡◌, ℕ, Bool, true, false, cond, not, ◌&&◌, List, [], ◌∷◌, length, if◌then◌else◌, is_some, Option, None, Some, IsTrue, refl, sym, ap, true≢false, arith}
use Rattle.std.specs.Prelude.{nat_lt, ◌≤◌}
use Rattle.std.proofs.lemmas.Bool.Decides.{nat_tests}
use Rattle.co_base.specs.declared.op.Op.{Op}
use Rattle.co_serial.specs.Records.{Records}
use Rattle.co_state.specs.declared.engine_state.EngineState.{EngineState}
use Rattle.co_state.specs.declared.engine_state.Install.{Install}
use Rattle.co_state.specs.Effects.{with_operation}
use Rattle.co_state.specs.EngineState.{records_at, records_now}
use Rattle.co_state.specs.LockRule.{lock_blocker}
use Rattle.co_state.specs.ReadRule.{operation_reply}
use Rattle.co_state.specs.Table.{look}
use Rattle.co_engine.specs.Calls.{may_operate, is_installed, seen_by, seen_of}

pub cond-same : {X : Type 0} (c : Bool) (x : X) → cond c x x ≡ x
cond-same true x = refl
cond-same false x = refl

none_held : {X : Type 0} (o : Option X) (rest : Bool) → IsTrue (not (is_some o) && rest) → o ≡ None
none_held None rest h = refl
none_held (Some x) rest h = absurd (true≢false (sym h))

-- one that may operate has not voted
pub not_voted : (b : EngineState) (t : ℕ) → IsTrue (may_operate b t) → look b.voted t ≡ None
not_voted b t h = none_held (look b.voted t) (not (is_installed b.installed t)) h

-- ---- blocked operations
pub seen_alike : (b : EngineState) (t : ℕ) (op : Op) (o : Option ℕ) → o ≡ lock_blocker b t op → seen_by o (operation_reply b t op) ≡ seen_of b t op
seen_alike b t op o e = ap (λ x. seen_by x (operation_reply b t op)) e

abbrev pub after_seen : EngineState → ℕ → Op → Option ℕ → EngineState
after_seen b t op o = if is_some o then b else with_operation b t op

-- ---- as many installs as there are
longer_or_at : (is : List Install) (i : Install) (count : ℕ) (base : Records) → length (i ∷ is) ≤ count → records_at base (i ∷ is) count ≡ records_now base (i ∷ is)
longer_or_at is i count base h = let t : nat_lt (length is) count ≡ true = grind (arith, nat_tests) in ap (λ b. if b then records_now base (i ∷ is) else records_at base is count) t

pub records_at-all : (base : Records) (is : List Install) → records_at base is (length is) ≡ records_now base is
records_at-all base [] = refl
records_at-all base (i ∷ is) = longer_or_at is i (length (i ∷ is)) base (omega arith)
