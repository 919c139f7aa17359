-- One more turn of the loops over operations, rows, readings and places.
use Rattle.std.proofs.Common.{◌≡◌, ◌≢◌, ℕ, zero, suc, ◌+◌, ◌<◌, Bool, true, false, ◌||◌, List, [], ◌∷◌, ◌++◌, map, reverse, length, take, drop, get_or, is_some, if◌then◌else◌, Option, None, Some, refl, sym, ap, ◌∙◌, subst, arith, add-one, drop-cons}
use Rattle.std.proofs.lemmas.List.{take_more}
use Rattle.co_base.specs.declared.row.Row.{Row}
use Rattle.co_state.specs.Keys.{same_key}
use Rattle.co_check.specs.declared.client.Answered.{Answered}
use Rattle.co_order_check.specs.Reads.{Content, left_by, left_from, value_in}
use Rattle.co_order_check.specs.declared.record_id.RecordId.{RecordId}

left_push : (r : RecordId) (held : Option Content) (told : List Answered) (a : Answered) → left_from r held (told ++ a ∷ []) ≡ left_by r (left_from r held told) a.site.member a.site.op
left_push r held [] a = refl
left_push r held (x ∷ told) a = left_push r (left_by r held x.site.member x.site.op) told a

pub left_more : (r : RecordId) (told : List Answered) (i : ℕ) (a : Answered) → i < length told → a ≡ get_or told i a →
    left_from r None (take (i + 1) told) ≡ left_by r (left_from r None (take i told)) a.site.member a.site.op
left_more r told i a h e =
    ap (left_from r None) (take_more told i a h ∙ ap (λ z. take i told ++ z ∷ []) (sym e)) ∙ left_push r None (take i told) a

pub drop_more : {A : Type 0} (xs : List A) (i : ℕ) (x : A) → i < length xs → x ≡ get_or xs i x → drop i xs ≡ x ∷ drop (i + 1) xs
drop_more xs i x h e = rw add-one (drop-cons xs i x h ∙ ap (λ z. z ∷ drop (suc i) xs) (sym e))

pub value_skips : (rows : List Row) (key : List ℕ) (i : ℕ) (row : Row) → i < length rows → row ≡ get_or rows i row → same_key key row.key ≡ false →
    value_in (drop i rows) key ≡ value_in (drop (i + 1) rows) key
value_skips rows key i row h e f =
    ap (λ z. value_in z key) (drop_more rows i row h e) ∙ ap (λ b. if b then Some row.value else value_in (drop (i + 1) rows) key) f

pub value_here : (rows : List Row) (key : List ℕ) (i : ℕ) (row : Row) → i < length rows → row ≡ get_or rows i row → same_key key row.key ≡ true →
    value_in (drop i rows) key ≡ Some row.value
value_here rows key i row h e f =
    ap (λ z. value_in z key) (drop_more rows i row h e) ∙ ap (λ b. if b then Some row.value else value_in (drop (i + 1) rows) key) f

pub or_true : (b : Bool) → (b || true) ≡ true
or_true true = refl
or_true false = refl

pub or_false : (b : Bool) → (b || false) ≡ b
or_false true = refl
or_false false = refl
