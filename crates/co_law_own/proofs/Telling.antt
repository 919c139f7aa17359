-- Runs move by move, with what each move tells.
use Rattle.std.proofs.Common.{◌≡◌, List, [], ◌∷◌, ◌++◌, sym, ap, ◌∙◌, subst}
use Rattle.co_plain.specs.CommitmentOrder.{Trace}
use Rattle.co_plain.specs.Federation.{Federation}
use Rattle.co_plain.specs.Moves.{Move, Guard, GuardsHold, effect}
use Rattle.co_law_moves.specs.MoveTraces.{move_trace, moves_trace}

abbrev pub WalksTelling : List Move → Federation → Federation → List Trace → Type 0
WalksTelling [] s z told = (s ≡ z) × (told ≡ [])
WalksTelling (move ∷ moves) s z told =
    Guard s move × (next : Federation) × (effect s move ≡ next) × (head : List Trace) × (rest : List Trace) × (move_trace s move ≡ head) × (told ≡ head ++ rest)
    × WalksTelling moves next z rest

pub telling_guards : (moves : List Move) (s z : Federation) (told : List Trace) → WalksTelling moves s z told → GuardsHold moves s
telling_guards [] s z told w = tt
telling_guards (move ∷ moves) s z told w = (w.0, subst (GuardsHold moves) (sym w.2) (telling_guards moves w.1 z w.4 w.7))

pub telling_tells : (moves : List Move) (s z : Federation) (told : List Trace) → WalksTelling moves s z told → moves_trace moves s ≡ told
telling_tells [] s z told w = sym w.1
telling_tells (move ∷ moves) s z told w =
    (λ i. w.5 i ++ moves_trace moves (w.2 i)) ∙ ap (λ rest. w.3 ++ rest) (telling_tells moves w.1 z w.4 w.7) ∙ sym w.6
