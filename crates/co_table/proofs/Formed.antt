-- No letter of an item ends its cell.
use Rattle.std.proofs.Common.{◌≡◌, ℕ, Bool, true, false, not, ◌&&◌, ◌||◌, ◌==◌, if◌then◌else◌, List, [], ◌∷◌, ◌++◌, refl, ap, ◌∙◌}
use Rattle.std.specs.Prelude.{All}
use Rattle.std.proofs.lemmas.List.Elements.{All-nil, All-cons}
use Rattle.co_base.specs.declared.node.Node.{Node}
use Rattle.co_message.specs.declared.item.Item.{Item}
use Rattle.co_picture.specs.Course.{after, at_first}
use Rattle.co_picture.specs.Picture.{head_of}
use Rattle.co_picture.specs.declared.course.Course.{Course}
use Rattle.co_table.specs.Entry.{escaped, words_of, entry_of, entries_from}
use Rattle.co_table.specs.Laws.{ends_cell, AreWellFormed}
use Rattle.co_table.specs.Place.{nodes_of}
use Rattle.co_table.specs.declared.entry.Entry.{Entry}

one_letter : (letter before : ℕ) (rest : List ℕ) (bar : Bool) → (letter == 124) ≡ bar → ((last : ℕ) → ends_cell last rest ≡ false) →
    ends_cell before ((if bar then 92 ∷ 124 ∷ [] else letter ∷ []) ++ rest) ≡ false
one_letter letter before rest true is others = others 124
one_letter letter before rest false is others = ap (λ bar. (bar && not (before == 92)) || ends_cell letter rest) is ∙ others letter

within_cell : (text : List ℕ) (before : ℕ) → ends_cell before (escaped text) ≡ false
within_cell [] before = refl
within_cell (letter ∷ letters) before = one_letter letter before (escaped letters) (letter == 124) refl (λ last. within_cell letters last)

abbrev is_formed : Entry → Type 0
is_formed entry = ends_cell 0 entry.text ≡ false

all_formed : (nodes : List Node) (c : Course) (items : List Item) → All is_formed (entries_from nodes c items)
all_formed nodes c [] = All-nil is_formed
all_formed nodes c (it ∷ items) =
    All-cons is_formed (entry_of nodes (after c it.what) it) (entries_from nodes (after c it.what) items) (within_cell (words_of it) 0) (all_formed nodes (after c it.what) items)

pub well_formed : (items : List Item) → AreWellFormed items
well_formed items = all_formed (nodes_of (head_of items)) at_first items
