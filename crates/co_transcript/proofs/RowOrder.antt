-- Records in the order of their keys.
use Rattle.std.proofs.Common.{◌≡◌, true, List, [], ◌∷◌, ◌++◌, map, Option, None, Some, refl, ap}
use Rattle.std.specs.Ordering.{is_lt}
use Rattle.std.specs.List.{AllByRecursion}
use Rattle.std.specs.List.Sorted.{IsStrictlySortedBy}
use Rattle.std.specs.declared.cmp.Ordering.{Ordering}
use Rattle.std.specs.declared.cmp.Ordering.TheVariants.{Less, Equal, Greater}
use Rattle.std.proofs.lemmas.Cmp.{nat_list_cmp_total}
use Rattle.co_base.specs.declared.row.Row.{Row}
use Rattle.co_base.specs.Order.{key_cmp}
use Rattle.co_base.specs.RowOrder.{IsInKeyOrder}
use Rattle.co_base.specs.Letters.{IsText, most_key_bytes, most_value_bytes}
use Rattle.co_schedule.specs.Words.{Word}
use Rattle.co_schedule.specs.Places.{is_in, is_text}
use Rattle.co_schedule.specs.View.{IsKey}
use Rattle.co_schedule.proofs.Numbers.{both}
use Rattle.co_transcript.specs.Spelling.{row_words}
use Rattle.co_transcript.specs.Grammar.{row_key}
use Rattle.co_transcript.specs.Items.{AreRows}
use Rattle.co_transcript.specs.Rows.{last_key_or}

-- the key is above this one, if there is one
abbrev pub IsAbove : Option Word → Word → Type 0
IsAbove None key = Unit {0}
IsAbove (Some before) key = key_cmp before key ≡ Less

less : (o : Ordering) → is_lt o ≡ true → o ≡ Less
less Less e = refl
less Equal e = absurd cc
less Greater e = absurd cc

pub above_wanted : (before : Option Word) (key : Word) → is_in (row_key before) key ≡ true → IsAbove before key
above_wanted None key e = tt
above_wanted (Some before) key e = less (key_cmp before key) (both (is_text most_key_bytes key) (is_lt (key_cmp before key)) e).1

-- what is below the first key, and the last key below another, is below that one
below_all : (low key : Word) (rows : List Row) → IsInKeyOrder rows → AllByRecursion (λ y. key_cmp low y ≡ Less) (map (λ r. r.key) rows) → IsAbove (last_key_or (Some low) rows) key → key_cmp low key ≡ Less
unfolding IsStrictlySortedBy
below_all low key [] sorted below above = above
below_all low key (row ∷ rows) sorted below above =
    nat_list_cmp_total.trans low row.key key below.0 (below_all row.key key rows sorted.1 sorted.0 above)

all_push : (low : Word) (rows : List Row) (row : Row) → AllByRecursion (λ y. key_cmp low y ≡ Less) (map (λ r. r.key) rows) → key_cmp low row.key ≡ Less → AllByRecursion (λ y. key_cmp low y ≡ Less) (map (λ r. r.key) (rows ++ row ∷ []))
all_push low [] row all below = (below, tt)
all_push low (first ∷ rows) row all below = (all.0, all_push low rows row all.1 below)

-- a record above the last one stands in order behind the others
pub in_order-push : (before : Option Word) (rows : List Row) (row : Row) → IsInKeyOrder rows → IsAbove (last_key_or before rows) row.key → IsInKeyOrder (rows ++ row ∷ [])
unfolding IsStrictlySortedBy
in_order-push before [] row sorted above = (tt, tt)
in_order-push before (first ∷ rows) row sorted above =
    (all_push first.key rows row sorted.0 (below_all first.key row.key rows sorted.1 sorted.0 above), in_order-push (Some first.key) rows row sorted.1 above)

pub last_key-push : (before : Option Word) (rows : List Row) (row : Row) → last_key_or before (rows ++ row ∷ []) ≡ Some row.key
last_key-push before [] row = refl
last_key-push before (first ∷ rows) row = last_key-push (Some first.key) rows row

pub row_words-push : (rows : List Row) (row : Row) (rest : List Word) → row_words (rows ++ row ∷ []) ++ rest ≡ row_words rows ++ row.key ∷ row.value ∷ rest
row_words-push [] row rest = refl
row_words-push (first ∷ rows) row rest = ap (λ (words : List Word). first.key ∷ first.value ∷ words) (row_words-push rows row rest)

pub AreRows-push : (rows : List Row) (row : Row) → AreRows rows → IsKey row.key → IsText most_value_bytes row.value → AreRows (rows ++ row ∷ [])
AreRows-push [] row all k v = (k, v, tt)
AreRows-push (first ∷ rows) row all k v = (all.0, all.1, AreRows-push rows row all.2 k v)
