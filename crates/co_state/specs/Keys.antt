-- Keys and ranges of keys: which meet which.
use Rattle.std.specs.Prelude.{ℕ, Bool, false, ◌||◌, List, [], ◌∷◌, if◌then◌else◌, Option, None, Some}
use Rattle.std.specs.Ordering.{eq_by_cmp, is_lt}
use Rattle.co_base.specs.Order.{key_cmp}
use Rattle.co_base.specs.Span.{Span, span_has}
use Rattle.co_base.specs.declared.written.Written.{Written}

abbrev pub same_key : List ℕ → List ℕ → Bool
same_key = eq_by_cmp key_cmp

-- whether some range has the key
abbrev pub reads_key : List Span → List ℕ → Bool
reads_key [] key = false
reads_key (span ∷ spans) key = span_has span key || reads_key spans key

-- whether some change is one of the key
abbrev pub writes_key : List Written → List ℕ → Bool
writes_key [] key = false
writes_key (w ∷ ws) key = same_key w.key key || writes_key ws key

-- whether some change is one of a key of the range
abbrev pub writes_within : List Written → Span → Bool
writes_within [] span = false
writes_within (w ∷ ws) span = span_has span w.key || writes_within ws span

-- a read meets a write: a range has a key that is changed
abbrev pub reads_meet : List Span → List Written → Bool
reads_meet spans [] = false
reads_meet spans (w ∷ ws) = reads_key spans w.key || reads_meet spans ws

-- two writes meet: one key is changed by both
abbrev pub writes_meet : List Written → List Written → Bool
writes_meet ws [] = false
writes_meet ws (v ∷ vs) = writes_key ws v.key || writes_meet ws vs

-- the least of some keys
abbrev pub least_from : List ℕ → List (List ℕ) → List ℕ
least_from key [] = key
least_from key (k ∷ ks) = if is_lt (key_cmp k key) then least_from k ks else least_from key ks

abbrev pub least_key : List (List ℕ) → Option (List ℕ)
least_key [] = None
least_key (k ∷ ks) = Some (least_from k ks)
