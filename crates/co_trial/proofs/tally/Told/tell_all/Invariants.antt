use Rattle.std.proofs.Common.{◌≡◌, ◌++◌, ℕ, List, drop}
use Rattle.sha2.specs.Hashers.{Holds256}
use Rattle.co_replay.specs.Transcript.{items_text}
use Rattle.co_trial.proofs.tally.Told.tell_all.Given as goal

abbrev pub invariant-loop-item : goal.invariant-loop-item
invariant-loop-item l = (text : List ℕ) → Holds256 l.fn.self.hasher text →
    (now : List ℕ) × Holds256 l.self.hasher now × (now ++ items_text (drop l.item-index l.items) ≡ text ++ items_text l.items)
