-- Participants, ascending by member, each with the count of its operations.
use Rattle.std.specs.Prelude.{ℕ, ◌+◌, ◌==◌, List, [], ◌∷◌, if◌then◌else◌}
use Rattle.std.specs.Ordering.{nat_cmp}
use Rattle.std.specs.FinMap.Entries.{by_order}
use Rattle.co_base.specs.declared.part.Part.{Part}

-- one more operation at a member, among the participants in ascending order
abbrev pub with_part : ℕ → List Part → List Part
with_part m [] = record { member = m; count = 1 } ∷ []
with_part m (p ∷ ps) =
    by_order (nat_cmp m p.member)
    (record { member = m; count = 1 } ∷ p ∷ ps)
    (record { member = p.member; count = p.count + 1 } ∷ ps)
    (p ∷ with_part m ps)

-- the count of a member among participants; none of one that is absent
abbrev pub count_among : List Part → ℕ → ℕ
count_among [] m = 0
count_among (p ∷ ps) m = if p.member == m then p.count else count_among ps m
