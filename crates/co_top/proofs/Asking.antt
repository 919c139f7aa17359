-- Words ask for one command.
use Rattle.std.proofs.Common.{◌≡◌, ℕ, Bool, List}
use Rattle.co_top.specs.Command.{AsksRun, AsksRecords, AsksResolve, AsksTrial, AsksLook}
use Rattle.co_top.specs.declared.reader.Ask.{Ask}

pub run_asked : {directory other : List ℕ} {resume also : Bool} → AsksRun directory resume ≡ AsksRun other also → (directory ≡ other) × (resume ≡ also)
run_asked e = (cc, cc)

pub records_asked : {directory other : List ℕ} → AsksRecords directory ≡ AsksRecords other → directory ≡ other
records_asked e = cc

pub resolve_asked : {directory other : List ℕ} → AsksResolve directory ≡ AsksResolve other → directory ≡ other
resolve_asked e = cc

pub trial_asked : {number other events others : ℕ} → AsksTrial number events ≡ AsksTrial other others → (number ≡ other) × (events ≡ others)
trial_asked e = (cc, cc)

pub look_asked : {ask other : Ask} → AsksLook ask ≡ AsksLook other → ask ≡ other
look_asked e = cc
