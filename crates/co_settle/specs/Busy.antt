-- Which busy transactions are among the candidates of settling.
use Rattle.std.specs.Prelude.{ℕ, true, ◌≡◌, Option, None, Some}
use Rattle.co_state.specs.Table.{holds}
use Rattle.co_plain.specs.Federation.{Federation}
use Rattle.co_plain.specs.MemberView.{Numbers}
use Rattle.co_plain.specs.Quiet.{IsBusy}

-- where this one is busy, it is among them
abbrev pub IsKnown : Federation → Numbers → ℕ → Type 0
IsKnown s numbers t = IsBusy s t → holds numbers t ≡ true

-- Where it is busy it was laid in, and none was taken away.
pub record IsLaidIn (s : Federation) (t : ℕ) (old new : Numbers) : Type 0 where
  pub laid : IsKnown s new t
  pub rest : (u : ℕ) → holds old u ≡ true → holds new u ≡ true

-- all busy ones
abbrev pub HaveBusy : Federation → Numbers → Type 0
HaveBusy s numbers = (t : ℕ) → IsKnown s numbers t

-- all, once they were collected
abbrev pub AreKnown : Federation → Option Numbers → Type 0
AreKnown s None = Unit {0}
AreKnown s (Some numbers) = HaveBusy s numbers
