-- Reading from left to right, with the first fault that is met. A reader answers a value and the bytes
-- behind it; a fault says how many bytes stand from its place to the end.
use Rattle.std.specs.Prelude.{◌≡◌, ℕ, zero, suc, ◌-◌, Bool, true, ◌&&◌, ◌||◌, not, List, [], ◌∷◌, length, take, drop, Option, Some, None, Result, Ok, Err, nat_lt, nat_le, ◌==◌, if◌then◌else◌}
use Rattle.std.specs.Int.{Width, w16, w32, byte_len, from_be_bytes}
use Rattle.std.specs.Ordering.{is_gt, is_lt, on, nat_cmp}
use Rattle.std.specs.declared.cmp.Ordering.{Ordering}
use Rattle.co_base.specs.Order.{key_cmp}
use Rattle.co_base.specs.Span.{Span, span_cmp}
use Rattle.co_base.specs.declared.node.Node.{Node}
use Rattle.co_base.specs.declared.node.Node.TheVariants.{Member, Coord}
use Rattle.co_base.specs.declared.row.Row.{Row}
use Rattle.co_base.specs.declared.written.Written.{Written}
use Rattle.co_base.specs.Limits.{most_coordinators, most_members, most_operations}
use Rattle.co_record.specs.declared.element.PairKind.{PairKind}
use Rattle.co_record.specs.declared.element.PairKind.TheVariants.{Bounds, Entry}
use Rattle.co_record.specs.declared.miss.Miss.{Miss}
use Rattle.co_record.specs.declared.miss.Miss.TheVariants.{Short, Kind, Outside}
use Rattle.co_record.specs.declared.record.Record.{Record}
use Rattle.co_record.specs.declared.record.Record.TheVariants.{Header, Prepare, Commit, Abort, End, Checkpoint}
use Rattle.co_record.specs.Format.{most_key, most_value}

infixl 10 ◌>>=◌
abbrev pub ◌>>=◌ : {A B : Type 0} → Result A Miss → (A → Result B Miss) → Result B Miss
(Ok x) >>= f = f x
(Err e) >>= f = Err e

-- what a function returned, seen by view, is what reading gives
abbrev pub Gives : {X Y : Type 0} → (X → Y) → Result X Miss → Result Y Miss → Type 0
Gives view (Ok x) read = read ≡ Ok (view x)
Gives view (Err e) read = read ≡ Err e

abbrev pub Reader : Type 0 → Type 0
Reader A = List ℕ → Result (A × List ℕ) Miss

-- one field, and then another
abbrev pub then_at : {A B : Type 0} → Reader A → Reader B → Reader (A × B)
then_at a b bytes = a bytes >>= λ x. b x.1 >>= λ y. Ok ((x.0, y.0), y.1)

-- what was read, as something else
abbrev pub as_at : {A B : Type 0} → (A → B) → Reader A → Reader B
as_at f a bytes = a bytes >>= λ x. Ok (f x.0, x.1)

-- a field outside its set is a fault at its own first byte
abbrev pub where_at : {A : Type 0} → (A → Bool) → Reader A → Reader A
where_at test a bytes = a bytes >>= λ x. if test x.0 then Ok x else Err (Outside (length bytes))

-- a count, and then what the count says
abbrev pub counted_at : {A : Type 0} → Reader ℕ → (ℕ → Reader A) → Reader A
counted_at count body bytes = count bytes >>= λ n. body n.0 n.1

-- the same step so many times, up to the first fault
unfoldable pub steps : {X : Type 0} → (X → Result X Miss) → ℕ → X → Result X Miss
steps step zero x = Ok x
steps step (suc n) x = step x >>= steps step n

-- ---- numbers

abbrev pub byte_at : Reader ℕ
byte_at [] = Err Short
byte_at (b ∷ rest) = Ok (b, rest)

abbrev pub number_at : Width → Reader ℕ
number_at w bytes = if nat_lt (length bytes) (byte_len w) then Err Short else Ok (from_be_bytes w (take (byte_len w) bytes), drop (byte_len w) bytes)

abbrev pub within : ℕ → ℕ → ℕ → Bool
within low most n = nat_le low n && nat_le n most

abbrev pub byte_within : ℕ → ℕ → Reader ℕ
byte_within low most = where_at (within low most) byte_at

abbrev pub number_within : Width → ℕ → ℕ → Reader ℕ
number_within w low most = where_at (within low most) (number_at w)

-- ---- letters

-- a letter is a field of its own
abbrev pub past_letter : List ℕ → Result (List ℕ) Miss
past_letter bytes = byte_within 33 126 bytes >>= λ x. Ok x.1

abbrev pub letters_at : ℕ → Reader (List ℕ)
letters_at n bytes = steps past_letter n bytes >>= λ rest. Ok (take n bytes, rest)

unfoldable pub key_at : Reader (List ℕ)
key_at = counted_at (byte_within 1 most_key) letters_at

unfoldable pub value_at : ℕ → Reader (List ℕ)
value_at version = counted_at (number_within w16 1 (most_value version)) letters_at

-- ---- elements

-- a lower bound, and an upper one that is not below it: else the fault is at the upper one
unfoldable pub bounds_at : Reader (List ℕ × List ℕ)
bounds_at bytes = key_at bytes >>= λ lo. where_at (λ hi. not (is_gt (key_cmp lo.0 hi))) key_at lo.1 >>= λ hi. Ok ((lo.0, hi.0), hi.1)

unfoldable pub entry_at : ℕ → Reader (List ℕ × List ℕ)
entry_at version = then_at key_at (value_at version)

abbrev pub span_of : List ℕ × List ℕ → Span
span_of pair = record { lo = pair.0; hi = pair.1 }

abbrev pub row_of : List ℕ × List ℕ → Row
row_of pair = record { key = pair.0; value = pair.1 }

abbrev pub range_at : Reader Span
range_at = as_at span_of bounds_at

abbrev pub row_at : ℕ → Reader Row
row_at version = as_at row_of (entry_at version)

-- a tag of 0 for none, or of 1 and a value
unfoldable pub held_at : ℕ → Reader (Option (List ℕ))
held_at version [] = Err Short
held_at version (zero ∷ rest) = Ok (None, rest)
held_at version (suc zero ∷ rest) = as_at Some (value_at version) rest
held_at version (suc (suc tag) ∷ rest) = Err (Outside (length (suc (suc tag) ∷ rest)))

abbrev pub written_of : List ℕ × Option (List ℕ) → Written
written_of pair = record { key = pair.0; value = pair.1 }

unfoldable pub change_at : ℕ → Reader Written
change_at version = as_at written_of (then_at key_at (held_at version))

abbrev pub member_at : Reader ℕ
member_at = byte_within 1 most_members

abbrev pub txn_at : Reader ℕ
txn_at = number_at w32

-- ---- lists of elements

abbrev pub follows : {A : Type 0} → (A → A → Ordering) → Option A → A → Bool
follows cmp None x = true
follows cmp (Some before) x = is_lt (cmp before x)

-- one element more, which has to be above the one before it: else the fault is at its first byte
abbrev pub next_at : {A : Type 0} → Reader A → (A → A → Ordering) → Option A × List ℕ → Result (Option A × List ℕ) Miss
next_at read cmp before = read before.1 >>= λ x. if follows cmp before.0 x.0 then Ok (Some x.0, x.1) else Err (Outside (length before.1))

-- the elements at the front, as many as can be read
unfoldable pub elements : {A : Type 0} → Reader A → ℕ → List ℕ → List A
elements read zero bytes = []
elements read (suc n) bytes = elim (read bytes) [ Ok x ↦ x.0 ∷ elements read n x.1 | Err e ↦ [] ]

-- what stands behind so many elements in their order
abbrev pub items_end : {A : Type 0} → Reader A → (A → A → Ordering) → ℕ → List ℕ → Result (List ℕ) Miss
items_end read cmp n bytes = steps (next_at read cmp) n (None, bytes) >>= λ x. Ok x.1

abbrev pub items_at : {A : Type 0} → Reader A → (A → A → Ordering) → ℕ → Reader (List A)
items_at read cmp n bytes = items_end read cmp n bytes >>= λ rest. Ok (elements read n bytes, rest)

-- the pairs of a list of ranges, or of rows
abbrev pub pair_at : PairKind → Reader (List ℕ × List ℕ)
pair_at Bounds = bounds_at
pair_at (Entry version) = entry_at version

abbrev pub row_cmp : Row → Row → Ordering
row_cmp = on (λ r. r.key) key_cmp

abbrev pub change_cmp : Written → Written → Ordering
change_cmp = on (λ w. w.key) key_cmp

unfoldable pub ranges_at : Reader (List Span)
ranges_at = counted_at (number_within w16 0 most_operations) (items_at range_at span_cmp)

unfoldable pub writes_at : ℕ → Reader (List Written)
writes_at version = counted_at (number_within w16 0 most_operations) (items_at (change_at version) change_cmp)

unfoldable pub members_at : Reader (List ℕ)
members_at = counted_at (byte_within 0 most_members) (items_at member_at nat_cmp)

unfoldable pub rows_at : ℕ → Reader (List Row)
rows_at version = counted_at (number_at w32) (items_at (row_at version) row_cmp)

unfoldable pub undos_at : ℕ → Reader (List Written)
undos_at version = counted_at (number_at w32) (items_at (change_at version) change_cmp)

unfoldable pub txns_at : Reader (List ℕ)
txns_at = counted_at (number_at w32) (items_at txn_at nat_cmp)

-- ---- records

abbrev pub is_node_byte : ℕ → Bool
is_node_byte b = within 1 most_members b || within 129 136 b

abbrev pub node_of : ℕ → Node
node_of b = if nat_lt b 128 then Member b else Coord (b - 128)

unfoldable pub node_at : Reader Node
node_at = as_at node_of (where_at is_node_byte byte_at)

unfoldable pub header_at : ℕ → Reader Record
header_at version = as_at (λ p. Header p.1.0 p.1.1) (then_at (byte_within version version) (then_at node_at (number_at w32)))

unfoldable pub prepare_at : ℕ → Reader Record
prepare_at version = as_at (λ p. Prepare p.0 p.1.0 p.1.1.0 p.1.1.1.0 p.1.1.1.1)
    (then_at txn_at (then_at (byte_within 1 most_coordinators) (then_at (number_within w16 1 most_operations) (then_at ranges_at (writes_at version)))))

unfoldable pub commit_at : Reader Record
commit_at = as_at (λ p. Commit p.0 p.1) (then_at txn_at members_at)

unfoldable pub abort_at : Reader Record
abort_at = as_at Abort txn_at

unfoldable pub end_at : Reader Record
end_at = as_at End txn_at

unfoldable pub checkpoint_at : ℕ → Reader Record
checkpoint_at version = as_at (λ p. Checkpoint p.0 p.1.0 p.1.1) (then_at (rows_at version) (then_at (undos_at version) txns_at))

-- a kind byte, and the fields of its kind
unfoldable pub record_at : ℕ → Reader Record
record_at version [] = Err Short
record_at version (kind ∷ fields) =
    if kind == 1 then header_at version fields
    else if kind == 2 then prepare_at version fields
    else if kind == 3 then commit_at fields
    else if kind == 4 then abort_at fields
    else if kind == 5 then end_at fields
    else if kind == 6 then checkpoint_at version fields
    else Err Kind
