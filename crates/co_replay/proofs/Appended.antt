-- The text of two lists of items.
use Rattle.std.proofs.Common.{◌≡◌, List, [], ◌∷◌, ◌++◌, append_assoc, refl, sym, ap, ◌∙◌}
use Rattle.co_message.specs.declared.item.Item.{Item}
use Rattle.co_schedule.specs.LineText.{newline}
use Rattle.co_transcript.specs.Spelling.{item_text}
use Rattle.co_replay.specs.Transcript.{items_text}

pub items_text-append : (xs ys : List Item) → items_text (xs ++ ys) ≡ items_text xs ++ items_text ys
items_text-append [] ys = refl
items_text-append (x ∷ xs) ys =
    ap (λ text. (item_text x ++ newline ∷ []) ++ text) (items_text-append xs ys) ∙ sym (append_assoc (item_text x ++ newline ∷ []) (items_text xs) (items_text ys))
