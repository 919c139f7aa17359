-- Prepared transactions of one member that may wait side by side: their numbers differ, and no two are in conflict.
use Rattle.std.specs.Prelude.{Bool, true, false, ◌||◌, ◌&&◌, not, ◌==◌, List, [], ◌∷◌}
use Rattle.co_pairs.specs.declared.prepared.Prepared.{Prepared}
use Rattle.co_state.specs.Keys.{reads_meet, writes_meet}

-- they have one number, or what one read or wrote was written by the other
abbrev pub clash : Prepared → Prepared → Bool
clash p q = (p.txn == q.txn) || reads_meet p.sets.reads q.sets.writes || reads_meet q.sets.reads p.sets.writes || writes_meet p.sets.writes q.sets.writes

abbrev pub clashes_with : Prepared → List Prepared → Bool
clashes_with p [] = false
clashes_with p (q ∷ qs) = clash p q || clashes_with p qs

abbrev pub are_free : List Prepared → Bool
are_free [] = true
are_free (p ∷ ps) = not (clashes_with p ps) && are_free ps
