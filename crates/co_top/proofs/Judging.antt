-- How the judging of a transcript ends, by how its verdict was written.
use Rattle.std.proofs.Common.{◌≡◌, ◌⊎◌, inl, inr, ℕ, List, Option, Result, Ok, Err, refl, ap, ◌∙◌}
use Rattle.co_check.proofs.Fronts.{checked_once}
use Rattle.co_check.specs.Checked.{IsCheck}
use Rattle.co_check.specs.Once.{IsOfText, IsSameAnswer}
use Rattle.co_check.specs.Written.{IsWritten}
use Rattle.co_check.specs.declared.fault.CheckFault.{CheckFault}
use Rattle.co_check.specs.declared.fault.CheckFault.TheVariants as check
use Rattle.co_check.specs.declared.verdict.Verdict.{Verdict}
use Rattle.co_check.specs.declared.verdict.Verdict.TheVariants as verdict
use Rattle.co_check.specs.declared.writing.Finding.{Finding}
use Rattle.co_check.specs.declared.writing.Finding.TheVariants as finding
use Rattle.co_check.specs.declared.writing.VerdictFault.{VerdictFault}
use Rattle.co_check.specs.declared.writing.VerdictFault.TheVariants as fault
use Rattle.co_top.specs.Checking.{status_of_check, status_of_answer, IsCheckEnd, HasGivenUp, IsExactCheck}
use Rattle.co_top.specs.declared.status.LimitKind.TheVariants as limit
use Rattle.co_top.specs.declared.status.Status.{Status}
use Rattle.co_top.specs.declared.status.Status.TheVariants as status

pub end_of : (input held : List ℕ) (told : Option (List ℕ)) (o : Result Finding VerdictFault) → IsWritten input held told o → IsCheckEnd input held told (status_of_check o)
end_of input held told (Ok finding.Serial) h = h
end_of input held told (Ok (finding.NotSerial txn line)) h = h
end_of input held told (Err (fault.Text line)) h = h
end_of input held told (Err (fault.Long line)) h = h
end_of input held told (Err fault.Many) h = h
end_of input held told (Err fault.Read) h = h
end_of input held told (Err fault.Write) h = h
end_of input held told (Err fault.Memory) h = h

-- the same answer has the same status
same_status : (one other : Result Verdict CheckFault) → IsSameAnswer one other → status_of_answer one ≡ status_of_answer other
same_status (Ok (verdict.Serial n map)) (Ok (verdict.Serial k records)) s = refl
same_status (Ok (verdict.Differs t line told serial)) (Ok (verdict.Differs u at was other)) s = ap (λ n. status.NotSerial n line) s.0 ∙ ap (status.NotSerial u) s.1
same_status (Ok (verdict.Serial n map)) (Ok (verdict.Differs u at was other)) s = absurd s
same_status (Ok (verdict.Differs t line told serial)) (Ok (verdict.Serial k records)) s = absurd s
same_status (Ok one) (Err why) s = absurd (never one why s)
  where
    never : (one : Verdict) (why : CheckFault) → IsSameAnswer (Ok one) (Err why) → ⊥
    never (verdict.Serial n map) why s = s
    never (verdict.Differs t line told serial) why s = s
same_status (Err why) (Ok other) s = absurd s
same_status (Err why) (Err other) s = ap (λ f. status_of_answer (Err f)) s

module _ (input held : List ℕ) (told : Option (List ℕ)) (answer : Result Verdict CheckFault) (is : IsCheck input answer) (own : IsOfText answer) where
  by : (one : Result Verdict CheckFault) → IsCheck input one → IsOfText one → status_of_answer one ≡ status_of_answer answer
  by one c k = same_status one answer (checked_once input one answer c is k own)

  ends_as : (ended : Status) → IsCheckEnd input held told ended → (ended ≡ status_of_answer answer) ⊎ HasGivenUp ended
  ends_as status.Done h = inl (by (Ok (verdict.Serial h.0 h.1)) h.2.0 tt)
  ends_as (status.NotSerial txn line) h = inl (by (Ok (verdict.Differs txn line h.0 h.1)) h.2.0 tt)
  ends_as (status.Transcript line) h = inl (by (Err (check.Text line)) h.0 tt)
  ends_as (status.Limit (limit.Line line)) h = inl (by (Err (check.Long line)) h.0 tt)
  ends_as (status.Limit limit.Lines) h = inl (by (Err check.Many) h.0 tt)
  ends_as status.Read h = inr tt
  ends_as status.Write h = inr tt
  ends_as status.Memory h = inr tt
  ends_as status.Usage h = absurd h
  ends_as (status.Schedule line what) h = absurd h
  ends_as (status.Device spot) h = absurd h
  ends_as (status.Differs spot place kept read) h = absurd h
  ends_as (status.InUse spot) h = absurd h
  ends_as (status.BadLog spot place) h = absurd h
  ends_as (status.OldLog spot) h = absurd h
  ends_as (status.Limit limit.Transactions) h = absurd h
  ends_as (status.Limit (limit.Log spot)) h = absurd h

pub exact_of : (input held : List ℕ) (told : Option (List ℕ)) (ended : Status) → IsCheckEnd input held told ended → IsExactCheck input ended
exact_of input held told ended h = λ answer is own. ends_as input held told answer is own ended h
