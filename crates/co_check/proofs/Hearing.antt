-- Texts that may lie ahead of a checker.
use Rattle.std.proofs.Common.{◌≡◌, List, ℕ, ◌++◌, Some, Result, Ok, Err, IsErr, IsErrAnd, false, true, ap}
use Rattle.co_outside.specs.Onward.{Past, IsOnward, LiesAhead}
use Rattle.co_outside.proofs.Onward.{between}
use Rattle.co_schedule.specs.Lines.{unread}
use Rattle.co_schedule.specs.declared.lines.Lines.{Lines}
use Rattle.co_check.specs.Taking.{HasTaken, IsStep}
use Rattle.co_check.specs.declared.fault.CheckFault.{CheckFault}
use Rattle.co_check.specs.declared.lines.Step.{Step}
use Rattle.co_check.specs.declared.reader.Reader.{Reader}
use Rattle.co_check.specs.Stages.{Stage}

pub rest_is : (s : Stage) (whole : List ℕ) (lines : Lines) (text : List ℕ) (reader : Reader) (h : HasTaken s whole lines (Some text) reader) → unread lines ++ text ≡ h.rest
rest_is s whole lines text reader h = let e : Some (unread lines ++ text) ≡ Some h.rest = h.is_rest in cc

-- one more step, of whatever lies ahead
pub steps_on : (s : Stage) (old mid new : Past) (before lines : Lines) (reader : Reader) (result : Result Step CheckFault) → IsOnward mid new →
    ((text more : List ℕ) → LiesAhead old mid text more → HasTaken s text before (Some more) reader) →
    ((whole text more : List ℕ) → LiesAhead mid new text more → HasTaken s whole before (Some text) reader → IsStep s whole lines (Some more) result) →
    (text more : List ℕ) → LiesAhead old new text more → IsStep s text lines (Some more) result
steps_on s old mid new before lines reader result on taken step text more ahead =
    let it = between old mid new text more on ahead in
    step text it.rest more it.then (taken text it.rest it.first)

-- a fault that is handed on is the one that was met
pub handed : {A E : Type 0} (o : Result A E) (met : E) → IsErr o × IsErrAnd o (λ e. e ≡ met) → o ≡ Err met
handed (Ok x) met h = absurd (let z : false ≡ true = h.0 in cc)
handed (Err e) met h = ap Err h.1
