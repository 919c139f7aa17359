-- What was noted.
use Rattle.std.specs.Prelude.{List, [], ◌∷◌, ◌++◌}
use Rattle.co_trace.specs.declared.past.Past.{Past, Nothing, Then'}

-- what was noted, the newest first
abbrev pub noted_in : {C : Type 0} → Past C → List C
noted_in Nothing = []
noted_in (Then' snapshot past call) = call ∷ noted_in past

-- the same with the oldest first
abbrev pub in_order : {C : Type 0} → List C → List C
in_order [] = []
in_order (newest ∷ earlier) = in_order earlier ++ newest ∷ []
