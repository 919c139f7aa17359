-- Logs that were read one after another.
use Rattle.std.proofs.Common.{◌≡◌, ℕ, ◌<◌, List, take, length, get_or, subst, Option, Result, Ok, Err, IfErr, ◌≤◌, ◌∙◌, refl, arith}
use Rattle.std.specs.Result.{IsErrAnd}
use Rattle.co_base.specs.declared.node.Node.{Node}
use Rattle.co_outside.specs.declared.spot.Spot.{Spot}
use Rattle.co_outside.specs.Home.{HomeView, File, HasFailed}
use Rattle.co_log.specs.LogView.{LogView}
use Rattle.co_durable.specs.declared.fault.WorldFault.{WorldFault}
use Rattle.co_durable.specs.declared.fault.WorldFault.TheVariants.{Device, Differs, InUse, Bad, Full, Count, Old, Memory}
use Rattle.co_durable.specs.Pairs.{EachPair}
use Rattle.co_durable.specs.Reading.{OnlyReads, IsLogOf, HasLog, IsUnread, IsFirstUnread}
use Rattle.co_durable.proofs.Pairs.{left_all, first_at}

-- files that are the same at each place are the same
pub same_files : (now before : Spot → Option File) → ((s : Spot) → now s ≡ before s) → now ≡ before
same_files now before stay = λ i s. stay s i

pub log_moved : (now before : Spot → Option File) (node : Node) (log : LogView) → ((s : Spot) → now s ≡ before s) → IsLogOf now node log → IsLogOf before node log
log_moved now before node log stay is = subst (λ (f : Spot → Option File). IsLogOf f node log) (same_files now before stay) is

-- the node at a place is the first that was not read, where all before it were
pub first_unread : (now before : Spot → Option File) (nodes : List Node) (logs : List LogView) (i : ℕ) (node d : Node) (fault : WorldFault) → ((s : Spot) → now s ≡ before s) → i < length nodes → node ≡ get_or nodes i d
    → EachPair (IsLogOf before) (take i nodes) logs → IsUnread now fault node → IsFirstUnread before nodes fault
first_unread now before nodes logs i node d fault stay h is read bad = by fault (subst (λ (f : Spot → Option File). IsUnread f fault node) (same_files now before stay) bad)
  where
    by : (e : WorldFault) → IsUnread before e node → IsFirstUnread before nodes e
    by (Device spot) b = first_at (HasLog before) (IsUnread before (Device spot)) nodes i node d h is (left_all (IsLogOf before) (HasLog before) (λ n l r. (l, r)) (take i nodes) logs read) b
    by (Differs spot at kept other) b = absurd b
    by (InUse spot) b = absurd b
    by (Bad spot at) b = first_at (HasLog before) (IsUnread before (Bad spot at)) nodes i node d h is (left_all (IsLogOf before) (HasLog before) (λ n l r. (l, r)) (take i nodes) logs read) b
    by (Full spot) b = first_at (HasLog before) (IsUnread before (Full spot)) nodes i node d h is (left_all (IsLogOf before) (HasLog before) (λ n l r. (l, r)) (take i nodes) logs read) b
    by Count b = absurd b
    by (Old spot) b = absurd b
    by Memory b = tt

-- what follows from the error that `?` hands on
pub handed_on : {T E : Type 0} (P Q : E → Type 0) (answer : Result T E) → ((e : E) → P e → Q e) → IsErrAnd answer P → IfErr answer Q
handed_on P Q (Ok x) f p = tt
handed_on P Q (Err e) f p = f e p

pub logs_moved : (now before : Spot → Option File) (nodes : List Node) (logs : List LogView) → ((s : Spot) → now s ≡ before s) → EachPair (IsLogOf now) nodes logs → EachPair (IsLogOf before) nodes logs
logs_moved now before nodes logs stay pairs = subst (λ (f : Spot → Option File). EachPair (IsLogOf f) nodes logs) (same_files now before stay) pairs

pub unread_moved : (now before : Spot → Option File) (nodes : List Node) (fault : WorldFault) → ((s : Spot) → now s ≡ before s) → IsFirstUnread now nodes fault → IsFirstUnread before nodes fault
unread_moved now before nodes fault stay unread = subst (λ (f : Spot → Option File). IsFirstUnread f nodes fault) (same_files now before stay) unread

pub nothing_read : (h : HomeView) → OnlyReads h h
nothing_read h = record { files = λ s. refl; directory = refl; count = omega arith }

-- one reading after another
pub reads_on : (old mid new : HomeView) → OnlyReads old mid → OnlyReads mid new → OnlyReads old new
reads_on old mid new first then = record {
  files = λ s. then.files s ∙ first.files s;
  directory = then.directory ∙ first.directory;
  count = omega (arith, first.count, then.count);
}

-- a failure after a reading is one of both
pub fails_later : (old mid new : HomeView) (spot : Spot) → old.faults ≤ mid.faults → HasFailed spot mid new → HasFailed spot old new
fails_later old mid new spot count failed = record { count = omega (arith, count, failed.count); named = failed.named }
