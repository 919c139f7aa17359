-- Least keys and least transactions, found one after another.
use Rattle.std.specs.Prelude.{ℕ, Bool, false, ◌||◌, List, Option, None, Some}
use Rattle.co_base.specs.Span.{Span, span_has}
use Rattle.co_base.specs.declared.op.Op.{Op}
use Rattle.co_base.specs.declared.op.Op.TheVariants.{Read, Write, Erase, Scan}
use Rattle.co_state.specs.declared.engine_state.Sets.{Sets}
use Rattle.co_state.specs.Keys.{least_from, least_key, reads_key}
use Rattle.co_state.specs.LockRule.{writes_block}

-- the least of some keys and of one that was found before, where there was one
abbrev pub least_with : Option (List ℕ) → List (List ℕ) → Option (List ℕ)
least_with None keys = least_key keys
least_with (Some key) keys = Some (least_from key keys)

-- whether a range that was read, if any was, has the key
abbrev pub range_has : Option Span → List ℕ → Bool
range_has None key = false
range_has (Some span) key = span_has span key

-- whether an active transaction with these sets is in the way of the operation
abbrev pub sets_block : Sets → Op → Bool
sets_block sets (Read key) = writes_block sets.writes (Read key)
sets_block sets (Scan span) = writes_block sets.writes (Scan span)
sets_block sets (Write key value) = writes_block sets.writes (Write key value) || reads_key sets.reads key
sets_block sets (Erase key) = writes_block sets.writes (Erase key) || reads_key sets.reads key
