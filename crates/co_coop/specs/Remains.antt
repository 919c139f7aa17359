-- Which doubts remain behind their turns.
use Rattle.std.specs.Prelude.{ℕ, Bool, true, false, ◌≡◌, ◌⊎◌, List, [], ◌∷◌}
use Rattle.co_plain.specs.Decisions.{told_of}
use Rattle.co_plain.specs.Federation.{Federation}
use Rattle.co_plain.specs.MemberStep.{standing_of}
use Rattle.co_plain.specs.Numbers.{Count}
use Rattle.co_plain.specs.Sessions.{count_at}
use Rattle.co_plain.specs.declared.standing.Standing.{Standing}
use Rattle.co_plain.specs.declared.standing.Standing.TheVariants.{IsActive, IsVoted, IsAbsent}
use Rattle.co_cluster.specs.declared.doubting.Doubt.{Doubt}

-- A member can tell no verdict: it is down, or has the transaction voted, or has it active or nowhere, where the client was told of no operations of
-- it there or its coordinator is up.
abbrev pub TellsNothing : Bool → Standing → Count → Bool → Type 0
TellsNothing up standing carried coord_up =
    (up ≡ false) ⊎ ((standing ≡ IsVoted) ⊎ (((standing ≡ IsActive) ⊎ (standing ≡ IsAbsent)) × ((carried ≡ 0) ⊎ (coord_up ≡ true))))

abbrev pub CannotTell : Federation → Doubt → ℕ → Type 0
CannotTell s doubt other =
    TellsNothing (s.member other).up (standing_of (s.member other) doubt.txn) (count_at (told_of s doubt.txn) other) (s.coord doubt.coord).up

-- none of them is of the same transaction at the same member
abbrev pub AreOfOthers : Doubt → List Doubt → Type 0
AreOfOthers doubt [] = Unit {0}
AreOfOthers doubt (d ∷ ds) = ((d.member ≡ doubt.member) × (d.txn ≡ doubt.txn) → ⊥) × AreOfOthers doubt ds
