-- How a trial ends.
use Rattle.std.specs.Prelude.{ℕ, ◌≡◌, ◌⊎◌, ◌++◌, List, take, Option, Some, Result}
use Rattle.co_trial.specs.Line.{summary_line}
use Rattle.co_trial.specs.Trials.{IsTrial}
use Rattle.co_trial.specs.declared.summary.Summary.{Summary}
use Rattle.co_top.specs.Telling.{IsTextPut}
use Rattle.co_top.specs.Views.{SinkView, TellsWrite}
use Rattle.co_top.specs.declared.status.Status.{Status}
use Rattle.co_top.specs.declared.status.Status.TheVariants as status

-- how the line of a summary was put
abbrev pub IsSummaryTold : Summary → Option (List ℕ) → Option (List ℕ) → Result (Unit {0}) Status → Type 0
IsSummaryTold summary held told result = IsTextPut (summary_line summary) held told result

-- The line of the summary of the trial with this number and so many events was put whole, or a front of it where the sink failed or there was no memory; or nothing was
-- put, where there was no memory. No other status comes.
abbrev pub IsTrialEnd : ℕ → ℕ → List ℕ → Option (List ℕ) → Status → Type 0
IsTrialEnd number events held told status.Done = (summary : Summary) × IsTrial number events summary × (told ≡ Some (held ++ summary_line summary))
IsTrialEnd number events held told status.Write = (summary : Summary) × IsTrial number events summary × (count : ℕ) × (told ≡ Some (held ++ take count (summary_line summary)))
IsTrialEnd number events held told status.Memory = (told ≡ Some held) ⊎ ((summary : Summary) × IsTrial number events summary × (count : ℕ) × (told ≡ Some (held ++ take count (summary_line summary))))
IsTrialEnd number events held told _ = ⊥

-- the statuses of a trial
abbrev pub IsOfTrial : Status → Type 0
IsOfTrial status.Done = Unit {0}
IsOfTrial status.Write = Unit {0}
IsOfTrial status.Memory = Unit {0}
IsOfTrial _ = ⊥

-- The command `trial`: how it ends, over what is seen of the sink.
pub record TriesAs (number events : ℕ) (out_old out_new : SinkView) (ended : Status) : Type 0 where
  pub end : (held : List ℕ) → out_old.told ≡ Some held → IsTrialEnd number events held out_new.told ended
  pub write : TellsWrite out_old out_new ended
