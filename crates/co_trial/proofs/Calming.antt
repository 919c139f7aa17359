-- Calls of a directory at which no call is to fail.
use Rattle.std.specs.Prelude.{◌≡◌, ◌↔◌, [], Some, Result, Contains, IsErrOf, refl, map}
use Rattle.std.proofs.Common.{subst, ap, arith}
use Rattle.co_outside.specs.declared.home.FailAt.{FailAt}
use Rattle.co_outside.specs.declared.home.HomeCall.{HomeCall}
use Rattle.co_outside.specs.declared.home.HomeFault.{HomeFault}
use Rattle.co_outside.specs.declared.home.HomeFault.TheVariants.{Failed}
use Rattle.co_outside.specs.declared.spot.Spot.{Spot}
use Rattle.co_outside.specs.declared.home_memory.HomeMemory.{HomeMemory}
use Rattle.co_outside.specs.HomeMemory.{memory_seen}
use Rattle.co_trial.specs.Calm.{calm_seen}
use Rattle.co_outside.specs.Home.{IsCounted, FailsAsDue, nearer}

module _ (A : Type 0) (spot : Spot) (call : HomeCall) where
  none_among : (f : FailAt) → Contains [] f → ⊥
  none_among f h = let l = h.1 in omega (arith, l)

  -- where none is to fail, this one does not, and none is to fail then
  pub never : (old new : HomeMemory) (result : Result A HomeFault) → old.fail.items ≡ [] → FailsAsDue spot call (memory_seen old) (memory_seen new) result → (IsErrOf result Failed → ⊥) × (new.fail.items ≡ [])
  never old new result none due =
      let p = due [] (ap Some none) in
      let q : Some new.fail.items ≡ Some (map (nearer spot call) []) = p.1 in
      (λ h. none_among (record { spot = spot; call = call; number = 1 }) (p.0.0 h), (let z : new.fail.items ≡ [] = cc in z))

  pub due_none : (old new : HomeMemory) (result : Result A HomeFault) → (IsErrOf result Failed → ⊥) → FailsAsDue spot call (calm_seen old) (calm_seen new) result
  due_none old new result unfailed = λ calls e.
      let q : [] ≡ calls = cc in
      subst (λ cs. (IsErrOf result Failed ↔ Contains cs (record { spot = spot; call = call; number = 1 })) × (Some [] ≡ Some (map (nearer spot call) cs))) q ((λ h. absurd (unfailed h), λ h. absurd (none_among (record { spot = spot; call = call; number = 1 }) h)), refl)

  pub counted_none : (old new : HomeMemory) (result : Result A HomeFault) → (IsErrOf result Failed → ⊥) → IsCounted spot (calm_seen old) (calm_seen new) result
  counted_none old new result unfailed =
      record {
        count = omega arith;
        failed = λ h. absurd (unfailed h);
        named = λ h. absurd (unfailed h);
        quiet = λ n. refl;
        kept = λ n. refl;
      }
