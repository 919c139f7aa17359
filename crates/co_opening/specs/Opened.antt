-- The nodes of a federation that was opened, and why it was not.
use Rattle.std.specs.Prelude.{ℕ, suc, false, true, Bool, ◌≡◌, ◌≤◌, ◌<◌, ◌⊎◌, ◌++◌, length, slice_get, Option, Some, Result, Ok, Err}
use Rattle.std.specs.FinMap.{keys}
use Rattle.co_base.specs.Limits.{most_transactions}
use Rattle.co_base.specs.declared.head.Head.{Head}
use Rattle.co_base.specs.declared.head.Kind.{Kind}
use Rattle.co_outside.specs.declared.spot.Spot.{Spot}
use Rattle.co_outside.specs.Home.{File}
use Rattle.co_plain.specs.Opening.{Found, opened_member, opened_coord, used_numbers, member_headers, coord_headers}
use Rattle.co_state.specs.declared.engine_state.EngineState.{EngineState}
use Rattle.co_coord.specs.declared.coord.Coord.{Coord}
use Rattle.co_member.specs.declared.member.Member.{Member}
use Rattle.co_durable.specs.declared.fault.WorldFault.{WorldFault}
use Rattle.co_durable.specs.declared.fault.WorldFault.TheVariants.{Device, Differs, InUse, Bad, Full, Count, Old, Memory}
use Rattle.co_durable.specs.Durable.{IsUndurable}
use Rattle.co_durable.specs.Nodes.{nodes_of}
use Rattle.co_durable.specs.Pairs.{FirstWhere}
use Rattle.co_opening.specs.Fit.{AreFit}
use Rattle.co_opening.specs.Nodes.{IsMemberAt, IsCoordAt}
use Rattle.co_opening.specs.Found.{AreFound, MayRun, AreUnused}
pub use Rattle.co_opening.specs.InUse.{IsUnusedNode, IsInUse}
use Rattle.co_opening.specs.Versions.{IsFirstOld}
use Rattle.co_opening.specs.declared.nodes.Nodes.{Nodes}

-- The nodes of the federation that is opened over what was found in the files: each stands for the plain one, the numbers that stand in the logs are used,
-- no more than there may be, and the new headers are marked.
pub record AreOpened {E : Type 0} (takes : Kind → Type 0) (stands_for : E → EngineState → Type 0) (file : Spot → Option File) (head : Head) (resume : Bool) (n : Nodes E) : Type 0 where
  pub found_member : ℕ → Found
  pub found_coord : ℕ → Found
  pub found : AreFound file (length head.kinds) head.coords found_member found_coord
  pub may : MayRun head.kinds head.coords found_member found_coord
  pub unused : resume ≡ false → AreUnused found_member found_coord
  pub fit : AreFit file head resume
  pub members : length n.members.items ≡ length head.kinds
  pub coords : length n.coords.items ≡ head.coords
  pub member : (p : ℕ) (m : Member E) → slice_get n.members.items p ≡ Some m → IsMemberAt takes stands_for head.coords p m (opened_member head.kinds (suc p) (found_member (suc p)))
  pub coord : (p : ℕ) (c : Coord) → slice_get n.coords.items p ≡ Some c → IsCoordAt (length head.kinds) p c (opened_coord (suc p) (found_coord (suc p)))
  pub used : n.used ≡ keys (used_numbers (length head.kinds) head.coords found_member found_coord)
  pub few : length n.used ≤ most_transactions
  pub marks : n.marks ≡ member_headers (length head.kinds) found_member ++ coord_headers head.coords found_coord

-- the logs were found so, and more numbers stand in them than there may be
pub record AreTooMany (file : Spot → Option File) (head : Head) : Type 0 where
  pub found_member : ℕ → Found
  pub found_coord : ℕ → Found
  pub found : AreFound file (length head.kinds) head.coords found_member found_coord
  pub many : most_transactions < length (keys (used_numbers (length head.kinds) head.coords found_member found_coord))

-- Why the federation was not opened, by the files where the directory tells them. A log that is not resumed is refused where it is in use, and for nothing else;
-- one that is resumed is refused where its files are no log or are too long, then where its records are not allowed, then where a current file is of version 1; and
-- where nothing of this is so, the numbers are counted.
abbrev pub IsUnopened : (Spot → Option File) → Head → Bool → WorldFault → Type 0
IsUnopened file head resume (Device spot) = Unit {0}
IsUnopened file head resume (Differs spot at kept read) = ⊥
IsUnopened file head resume (InUse spot) = (resume ≡ false) × FirstWhere (IsUnusedNode file) (IsInUse file spot) (nodes_of (length head.kinds) head.coords)
IsUnopened file head resume (Bad spot at) = (resume ≡ true) × IsUndurable file (length head.kinds) head.coords (Bad spot at)
IsUnopened file head resume (Full spot) = (resume ≡ true) × IsUndurable file (length head.kinds) head.coords (Full spot)
IsUnopened file head resume Count = (resume ≡ true) × AreFit file head resume × AreTooMany file head
IsUnopened file head resume (Old spot) = (resume ≡ true) × IsFirstOld file (length head.kinds) head.coords spot
IsUnopened file head resume Memory = Unit {0}

-- the refusals before which nothing is written
abbrev pub IsOfFound : WorldFault → Type 0
IsOfFound (Device spot) = ⊥
IsOfFound (Differs spot at kept read) = Unit {0}
IsOfFound (InUse spot) = Unit {0}
IsOfFound (Bad spot at) = Unit {0}
IsOfFound (Full spot) = Unit {0}
IsOfFound Count = Unit {0}
IsOfFound (Old spot) = Unit {0}
IsOfFound Memory = ⊥

-- the directory failed, or there was no memory
abbrev pub IsExcused : WorldFault → Type 0
IsExcused (Device spot) = Unit {0}
IsExcused Memory = Unit {0}
IsExcused _ = ⊥

-- A federation is opened where the files are refused for nothing; and where they are refused, that is answered, unless the directory failed or there was no memory.
abbrev pub IsExact : {T : Type 0} → (Spot → Option File) → Head → Bool → Result T WorldFault → Type 0
IsExact file head resume (Ok opened) = (why : WorldFault) → IsOfFound why → IsUnopened file head resume why → ⊥
IsExact file head resume (Err fault) = (why : WorldFault) → IsOfFound why → IsUnopened file head resume why → (fault ≡ why) ⊎ IsExcused fault
