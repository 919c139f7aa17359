-- How a call ends that wants memory, and how one does that passes a fault on.
use Rattle.std.proofs.Common.{◌≡◌, true, false, Result, Ok, Err, sym, ap, ◌∙◌, subst}
use Rattle.std.specs.Prelude.{IfErr, OnOk}
use Rattle.std.specs.Result.{IsErr, IsErrAnd}
use Rattle.co_durable.specs.declared.fault.WorldFault.{WorldFault}
use Rattle.co_durable.specs.declared.fault.WorldFault.TheVariants as world
use Rattle.co_cluster.specs.Served.{IsOfNoFile}

module _ {A : Type 0} where
  pub no_limit : (result : Result A WorldFault) → IfErr result (λ fault. fault ≡ world.Memory) → result ≡ Err world.Count → ⊥
  no_limit (Ok a) h e = let w : ◌≡◌ {A = Result A WorldFault} (Ok a) (Err world.Count) = e in absurd (cc)
  no_limit (Err fault) h e = let w : ◌≡◌ {A = Result A WorldFault} (Err fault) (Err world.Count) = e in absurd (cc)

  -- a fault that is passed on
  pub errs_as : (fault : WorldFault) (result : Result A WorldFault) → IsErr result × IsErrAnd result (λ f. f ≡ fault) → result ≡ Err fault
  errs_as fault (Ok a) h = absurd (let w : false ≡ true = h.0 in cc)
  errs_as fault (Err f) h = ap Err h.1

  pub passed_limit : (fault : WorldFault) (result : Result A WorldFault) → IsErr result × IsErrAnd result (λ f. f ≡ fault) → (fault ≡ world.Count → ⊥) → result ≡ Err world.Count → ⊥
  passed_limit fault result h none is = none (let e = sym (errs_as fault result h) ∙ is in cc)

  pub passed_memory : (fault : WorldFault) (result : Result A WorldFault) → IsErr result × IsErrAnd result (λ f. f ≡ fault) → fault ≡ world.Memory → IfErr result (λ f. f ≡ world.Memory)
  passed_memory fault (Ok a) h memory = tt
  passed_memory fault (Err f) h memory = h.1 ∙ memory

  pub all_ok : {X : Type 0} (result : Result A WorldFault) → X → OnOk result X
  all_ok (Ok a) x = x
  all_ok (Err f) x = tt

  pub of_memory : (result : Result A WorldFault) → IfErr result (λ fault. fault ≡ world.Memory) → IfErr result IsOfNoFile
  of_memory (Ok a) memory = tt
  of_memory (Err fault) memory = subst IsOfNoFile (sym memory) tt
