-- Items whose texts are short, and that are not too many, stand in their text one behind another.
use Rattle.std.proofs.Common.{◌≡◌, ℕ, suc, ◌+◌, ◌<◌, ◌≤◌, List, [], ◌∷◌, ◌++◌, length, length-append, drop, Some, Ok, refl, sym, ap, ◌∙◌, subst, arith}
use Rattle.std.specs.List.{AllByRecursion}
use Rattle.std.proofs.Math.Seq.{take-append_seam, drop-append-add}
use Rattle.std.proofs.lemmas.List.{append-nil}
use Rattle.co_message.specs.declared.item.Item.{Item}
use Rattle.co_schedule.specs.LineText.{newline, behind_line}
use Rattle.co_schedule.proofs.NextLine.{next_held, behind_line_held}
use Rattle.co_transcript.specs.Grammar.{item_places}
use Rattle.co_transcript.specs.Spelling.{item_words, item_text}
use Rattle.co_transcript.proofs.ItemFits.{item_fits}
use Rattle.co_replay.specs.Transcript.{items_text}
use Rattle.co_check.proofs.Fronts.{IsFront}
use Rattle.co_check.specs.Checked.{StandsBehind, AtStart, OneMore}
use Rattle.co_schedule.specs.Limits.{most_of_text}
use Rattle.co_law_check.specs.Told.{IsShortItem}
use Rattle.co_law_check.proofs.Cutting.{newline_at, text_of_clean}
use Rattle.co_law_check.proofs.Places.{items_clean}

nothing_behind : (text : List ℕ) → drop (length text + 1) (text ++ newline ∷ []) ≡ []
nothing_behind text = drop-append-add text (newline ∷ []) 1

pub front : (lent : ℕ) (items : List Item) → AllByRecursion IsShortItem items → lent + length items ≤ most_of_text → IsFront lent (items_text items) items []
front lent [] each few = refl
front lent (it ∷ items) each few =
    let text = item_text it in
    let at = newline_at text (text_of_clean item_places (item_words it) items_clean (item_fits it each.0.0)) in
    let room : lent < most_of_text = omega (arith, few) in
    let fits : length (text ++ newline ∷ []) ≤ most_of_text + 1 = omega (arith, each.0.1, length-append text (newline ∷ [])) in (
      each.0.0,
      next_held most_of_text most_of_text lent (text ++ newline ∷ []) (items_text items) (length text) room fits at ∙ ap (λ t. Ok (Some t)) (take-append_seam text (newline ∷ [])),
      subst (λ t. IsFront (suc lent) t items []) (ap (λ t. t ++ items_text items) (sym (nothing_behind text)) ∙ behind_line_held (text ++ newline ∷ []) (items_text items) (length text) at)
          (front (suc lent) items each.1 (omega (arith, few))),
    )

pub append_one : {A : Type 0} (xs : List A) (x : A) (ys : List A) → (xs ++ x ∷ []) ++ ys ≡ xs ++ x ∷ ys
append_one [] x ys = refl
append_one (z ∷ xs) x ys = ap (λ zs. z ∷ zs) (append_one xs x ys)

stands_on : (text : List ℕ) (done : List Item) (left : List ℕ) (items : List Item) (rest : List ℕ) → StandsBehind text done left → IsFront (length done) left items rest → StandsBehind text (done ++ items) rest
stands_on text done left [] rest s f = subst (λ is. StandsBehind text is rest) (sym (append-nil done)) (subst (StandsBehind text done) f s)
stands_on text done left (it ∷ items) rest s f =
    subst (λ is. StandsBehind text is rest) (append_one done it items)
    (stands_on text (done ++ it ∷ []) (behind_line left) items rest (OneMore text left done it s f.0 f.1)
    (subst (λ n. IsFront n (behind_line left) items rest) (let q : suc (length done) ≡ length (done ++ it ∷ []) = omega (arith, length-append done (it ∷ [])) in q) f.2))

pub items_stand : (items : List Item) → AllByRecursion IsShortItem items → length items ≤ most_of_text → StandsBehind (items_text items) items []
items_stand items each few = stands_on (items_text items) [] (items_text items) items [] (AtStart (items_text items)) (front 0 items each (let q : 0 + length items ≤ most_of_text = omega (arith, few) in q))
