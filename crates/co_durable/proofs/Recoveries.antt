-- Logs that were told one after another.
use Rattle.std.proofs.Common.{◌≡◌, ℕ, ◌<◌, List, take, length, get_or, Option, Err, refl}
use Rattle.co_log.specs.LogView.{LogView}
use Rattle.co_recover.specs.declared.fault.RecoverFault.{RecoverFault}
use Rattle.co_recover.specs.declared.fault.RecoverFault.TheVariants as recover
use Rattle.co_recover.specs.Recovered.{IsMemberRecovery, IsCoordRecovery}
use Rattle.co_durable.specs.declared.fault.WorldFault.{WorldFault}
use Rattle.co_durable.specs.declared.fault.WorldFault.TheVariants.{Device, Differs, InUse, Bad, Full, Count, Old, Memory}
use Rattle.co_durable.specs.Pairs.{EachPair}
use Rattle.co_durable.specs.Recovering.{HasItems, member_refuses, coord_refuses, fallen, LogStands, LogFalls, IsFirstToFall}
use Rattle.co_log.specs.NodeFiles.{Items}
use Rattle.co_durable.proofs.Pairs.{left_all, first_at}

-- the log at a place is the first that falls, where all before it stand
pub first_to_fall : {T : Type 0} (refuses : Items → Option ℕ) (related : LogView → T → Type 0) (stands : (log : LogView) (told : T) → related log told → LogStands refuses log)
    (logs : List LogView) (tolds : List T) (i : ℕ) (log d : LogView) (fault : WorldFault) → i < length logs → log ≡ get_or logs i d → EachPair related (take i logs) tolds → LogFalls refuses fault log → IsFirstToFall refuses logs fault
first_to_fall refuses related stands logs tolds i log d (Device spot) h is pairs falls = absurd falls
first_to_fall refuses related stands logs tolds i log d (Differs spot at kept read) h is pairs falls = absurd falls
first_to_fall refuses related stands logs tolds i log d (InUse spot) h is pairs falls = absurd falls
first_to_fall refuses related stands logs tolds i log d (Bad spot at) h is pairs falls =
    first_at (LogStands refuses) (LogFalls refuses (Bad spot at)) logs i log d h is (left_all related (LogStands refuses) stands (take i logs) tolds pairs) falls
first_to_fall refuses related stands logs tolds i log d (Full spot) h is pairs falls = absurd falls
first_to_fall refuses related stands logs tolds i log d Count h is pairs falls = absurd falls
first_to_fall refuses related stands logs tolds i log d (Old spot) h is pairs falls = absurd falls
first_to_fall refuses related stands logs tolds i log d Memory h is pairs falls = tt

-- what a refused recovery says of the log
pub member_falls : (coords : ℕ) (log : LogView) (fault : RecoverFault) → ((items : Items) → HasItems log items → IsMemberRecovery coords items (Err fault)) → LogFalls (member_refuses coords) (fallen log.current.spot fault) log
member_falls coords log (recover.Inconsistent at) f = (refl, f)
member_falls coords log recover.Memory f = tt

pub coord_falls : (members : ℕ) (log : LogView) (fault : RecoverFault) → ((items : Items) → HasItems log items → IsCoordRecovery members items (Err fault)) → LogFalls (coord_refuses members) (fallen log.current.spot fault) log
coord_falls members log (recover.Inconsistent at) f = (refl, f)
coord_falls members log recover.Memory f = tt
