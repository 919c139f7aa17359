-- Runs move by move: each guard, and the state that comes next, written out.
use Rattle.std.proofs.Common.{◌≡◌, List, [], ◌∷◌, sym, ap, ◌∙◌, subst}
use Rattle.co_plain.specs.Federation.{Federation}
use Rattle.co_plain.specs.Moves.{Move, Guard, GuardsHold, effect, all_effects}

abbrev pub Walks : List Move → Federation → Federation → Type 0
Walks [] s z = s ≡ z
Walks (move ∷ moves) s z = Guard s move × ((next : Federation) × (effect s move ≡ next) × Walks moves next z)

pub walks_guards : (moves : List Move) (s z : Federation) → Walks moves s z → GuardsHold moves s
walks_guards [] s z w = tt
walks_guards (move ∷ moves) s z w = (w.0, subst (GuardsHold moves) (sym w.1.1) (walks_guards moves w.1.0 z w.1.2))

pub walks_to : (moves : List Move) (s z : Federation) → Walks moves s z → all_effects moves s ≡ z
walks_to [] s z w = w
walks_to (move ∷ moves) s z w = ap (all_effects moves) w.1.1 ∙ walks_to moves w.1.0 z w.1.2
