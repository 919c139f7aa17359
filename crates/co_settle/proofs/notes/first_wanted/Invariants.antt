use Rattle.std.proofs.Common.{◌≡◌, map, drop}
use Rattle.co_law_settle.specs.SettlingTurns.{note_in}
use Rattle.co_settle.specs.Notes.{wanted_by}
use Rattle.co_settle.proofs.notes.first_wanted.Given as goal

abbrev pub invariant-loop-item : goal.invariant-loop-item
invariant-loop-item l = note_in (wanted_by l.want l.member) (map (λ i. i.what) (drop l.item-index l.items)) ≡ note_in (wanted_by l.want l.member) (map (λ i. i.what) l.items)
