-- What is known of every order: transactions that stand before others.
use Rattle.std.specs.Prelude.{ℕ, ◌≡◌, ◌<◌, List, [], ◌∷◌, slice_get, Option, None, Some}
use Rattle.co_check.specs.declared.client.Committed.{Committed}
use Rattle.co_order_check.specs.Ranks.{Ranks}
use Rattle.co_order_check.specs.declared.fact.Fact.{Fact}

abbrev pub Holds : {ds : List Committed} → Ranks ds → Fact → Type 0
Holds w f = w.rank f.before < w.rank f.behind

abbrev pub HoldAll : {ds : List Committed} → Ranks ds → List Fact → Type 0
HoldAll w [] = Unit {0}
HoldAll w (f ∷ fs) = Holds w f × HoldAll w fs

-- whatever is known, this follows
abbrev pub Follows : List Committed → List Fact → Fact → Type 0
Follows ds known f = (w : Ranks ds) → HoldAll w known → Holds w f

-- a case that cannot be
abbrev pub IsShut : List Committed → List Fact → Type 0
IsShut ds known = (w : Ranks ds) → HoldAll w known → ⊥

abbrev pub AreShut : List Committed → List (List Fact) → Type 0
AreShut ds [] = Unit {0}
AreShut ds (c ∷ cs) = IsShut ds c × AreShut ds cs

-- it is known that a transaction stands behind a version; all stand behind the start
abbrev pub IsKnownBehind : List Fact → Option ℕ → ℕ → Type 0
IsKnownBehind known None u = Unit {0}
IsKnownBehind known (Some t) u = (k : ℕ) × (slice_get known k ≡ Some (record { before = t; behind = u }))
