-- Moves whose votes leave one part of the voting rule out.
use Rattle.std.specs.Prelude.{true, false, ◌≡◌, ◌≤◌, List, [], ◌∷◌}
use Rattle.co_message.specs.declared.message.Message.TheVariants as message
use Rattle.co_state.specs.declared.verdict.Verdict.TheVariants.{VoteYes}
use Rattle.co_plain.specs.Decisions.{told_of, is_asked}
use Rattle.co_plain.specs.Federation.{Federation}
use Rattle.co_plain.specs.Moves.{Move, Cast, CommitLocally, Guard, effect, session_by_member}
use Rattle.co_plain.specs.Sessions.{count_at}
use Rattle.co_plain.specs.Wire.{was_sent}
use Rattle.co_state.specs.Table.{look}
use Rattle.co_law_minimal.specs.Rule.{RulePart, vote_without}

-- What must hold before a move: of a vote, that the rule without this part grants it; of each other move what always must.
abbrev pub GuardWithout : RulePart → Federation → Move → Type 0
GuardWithout left s (Cast t m c n) =
    (was_sent s.sent (message.Prepare t c m n) ≡ true) × (vote_without left (s.member m).engine t n ≡ VoteYes)
GuardWithout left s (CommitLocally t m) =
    session_by_member (look s.sessions t) m × (is_asked s t ≡ false) × (1 ≤ count_at (told_of s t) m)
    × (vote_without left (s.member m).engine t (count_at (told_of s t) m) ≡ VoteYes)
GuardWithout left s move = Guard s move

-- moves one after another, each guarded so where it stands
abbrev pub GuardsHoldWithout : RulePart → List Move → Federation → Type 0
GuardsHoldWithout left [] s = Unit {0}
GuardsHoldWithout left (move ∷ moves) s = GuardWithout left s move × GuardsHoldWithout left moves (effect s move)
