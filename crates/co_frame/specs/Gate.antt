-- What the image of a gate byte says.
--
-- A batch is written with a closed gate behind it, synced, its gate is opened, and that is synced: device
-- calls 1 to 4. So the batch counts exactly where the image has its gate open, which only a stop in call 3
-- or 4 leaves to the image.
use Rattle.std.specs.Prelude.{ℕ, Bool, true, false, not, ◌&&◌, ◌==◌, nat_le, List, [], ◌∷◌}
use Rattle.co_base.specs.declared.leaves.Leaves.{Leaves}
use Rattle.co_base.specs.declared.leaves.Leaves.TheVariants.{Old, New, Filled}
use Rattle.co_frame.specs.LogText.{open_gate}

abbrev pub begins_open : List ℕ → Bool
begins_open [] = false
begins_open (byte ∷ bytes) = byte == open_gate

abbrev pub begins_closed : List ℕ → Bool
begins_closed [] = false
begins_closed (byte ∷ bytes) = not (byte == open_gate)

-- whether the image of a gate that is being opened has it open: the gate is the first touched place
abbrev pub opens_gate : Leaves → Bool
opens_gate Old = false
opens_gate New = true
opens_gate (Filled bytes) = begins_open bytes

-- whether the image of a spare file that is being closed begins with a byte that is no open gate. A spare
-- that was empty stays so where the image has no byte for its first place.
abbrev pub closes_spare : Leaves → Bool
closes_spare Old = false
closes_spare New = true
closes_spare (Filled bytes) = begins_closed bytes

-- whether the batch of a stopped write counts
abbrev pub batch_is_stable : ℕ → Leaves → Bool
batch_is_stable call leaves = nat_le 3 call && opens_gate leaves
