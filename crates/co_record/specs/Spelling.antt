-- The one spelling of each record in a version of the format, and which records have one there.
use Rattle.std.specs.Prelude.{◌≡◌, ℕ, ◌≤◌, ◌<◌, ◌^◌, List, [], ◌∷◌, ◌++◌, length, Option, Some, None, IfSome}
use Rattle.std.specs.List.{flat_map, AllByRecursion}
use Rattle.std.specs.List.Sorted.{IsStrictlySortedBy}
use Rattle.std.specs.Int.{Width, w16, w32, to_be_bytes}
use Rattle.std.specs.Ordering.{is_gt}
use Rattle.std.specs.Prelude.{false}
use Rattle.co_base.specs.Letters.{IsText, most_value_bytes}
use Rattle.co_base.specs.Nodes.{IsValidNode, node_byte}
use Rattle.co_base.specs.Order.{key_cmp, IsAscending}
use Rattle.co_base.specs.RowOrder.{IsInKeyOrder}
pub use Rattle.co_base.specs.RowOrder.{AreInKeyOrder}
use Rattle.co_base.specs.Span.{Span, span_cmp}
use Rattle.co_base.specs.declared.row.Row.{Row}
use Rattle.co_base.specs.declared.written.Written.{Written}
use Rattle.co_base.specs.Limits.{most_coordinators, most_members, most_operations}
use Rattle.co_record.specs.declared.record.Record.{Record}
use Rattle.co_record.specs.declared.record.Record.TheVariants.{Header, Prepare, Commit, Abort, End, Checkpoint}
use Rattle.co_record.specs.Format.{newest, most_key, most_value}

-- one byte of length, and its letters
abbrev pub key_text : List ℕ → List ℕ
key_text key = length key ∷ key

-- two bytes of length, and its letters
abbrev pub value_text : List ℕ → List ℕ
value_text value = to_be_bytes w16 (length value) ++ value

-- a tag, and the value where there is one
abbrev pub held_text : Option (List ℕ) → List ℕ
held_text None = 0 ∷ []
held_text (Some value) = 1 ∷ value_text value

abbrev pub change_text : Written → List ℕ
change_text w = key_text w.key ++ held_text w.value

abbrev pub range_text : Span → List ℕ
range_text span = key_text span.lo ++ key_text span.hi

abbrev pub row_text : Row → List ℕ
row_text row = key_text row.key ++ value_text row.value

abbrev pub txn_text : ℕ → List ℕ
txn_text txn = to_be_bytes w32 txn

-- how many there are, and one after another
abbrev pub listed : {A : Type 0} → Width → (A → List ℕ) → List A → List ℕ
listed w text items = to_be_bytes w (length items) ++ flat_map text items

-- the spelling of a record in a version: its kind, and its fields in order
abbrev pub spelling : ℕ → Record → List ℕ
spelling version (Header node generation) = 1 ∷ version ∷ node_byte node ∷ to_be_bytes w32 generation
spelling version (Prepare txn coord count reads writes) =
    2 ∷ (txn_text txn ++ (coord ∷ (to_be_bytes w16 count ++ (listed w16 range_text reads ++ listed w16 change_text writes))))
spelling version (Commit txn members) = 3 ∷ (txn_text txn ++ (length members ∷ members))
spelling version (Abort txn) = 4 ∷ txn_text txn
spelling version (End txn) = 5 ∷ txn_text txn
spelling version (Checkpoint rows undos committed) =
    6 ∷ (listed w32 row_text rows ++ (listed w32 change_text undos ++ listed w32 txn_text committed))

abbrev pub IsMember : ℕ → Type 0
IsMember member = (1 ≤ member) × (member ≤ most_members)

-- What has to hold of a record that is written, beyond what the types of its parts promise.
abbrev pub IsWritable : Record → Type 0
IsWritable (Header node generation) = IsValidNode node
IsWritable (Prepare txn coord count reads writes) =
    ((1 ≤ coord) × (coord ≤ most_coordinators)) × ((1 ≤ count) × (count ≤ most_operations))
    × (length reads ≤ most_operations) × IsStrictlySortedBy span_cmp reads
    × (length writes ≤ most_operations) × AreInKeyOrder writes
IsWritable (Commit txn members) = (length members ≤ most_members) × AllByRecursion IsMember members × IsAscending members
IsWritable (Abort txn) = Unit {0}
IsWritable (End txn) = Unit {0}
IsWritable (Checkpoint rows undos committed) =
    (length rows < 2 ^ 32) × (length undos < 2 ^ 32) × AreInKeyOrder undos × (length committed < 2 ^ 32)

abbrev pub IsKey : List ℕ → Type 0
IsKey = IsText most_key

abbrev pub IsValueIn : ℕ → List ℕ → Type 0
IsValueIn version = IsText (most_value version)

-- a value of the newest version
abbrev pub IsValue : List ℕ → Type 0
IsValue = IsText most_value_bytes

abbrev pub IsTxn : ℕ → Type 0
IsTxn txn = txn < 2 ^ 32

abbrev pub IsRange : Span → Type 0
IsRange span = IsKey span.lo × IsKey span.hi × (is_gt (key_cmp span.lo span.hi) ≡ false)

abbrev pub IsRowIn : ℕ → Row → Type 0
IsRowIn version row = IsKey row.key × IsValueIn version row.value

abbrev pub IsChangeIn : ℕ → Written → Type 0
IsChangeIn version w = IsKey w.key × IfSome w.value (IsValueIn version)

abbrev pub IsRow : Row → Type 0
IsRow row = IsKey row.key × IsValue row.value

abbrev pub IsChange : Written → Type 0
IsChange w = IsKey w.key × IfSome w.value IsValue

-- which parts a record has in a version
abbrev pub HasPartsIn : ℕ → Record → Type 0
HasPartsIn version (Header node generation) = generation < 2 ^ 32
HasPartsIn version (Prepare txn coord count reads writes) = IsTxn txn × AllByRecursion IsRange reads × AllByRecursion (IsChangeIn version) writes
HasPartsIn version (Commit txn members) = IsTxn txn
HasPartsIn version (Abort txn) = IsTxn txn
HasPartsIn version (End txn) = IsTxn txn
HasPartsIn version (Checkpoint rows undos committed) =
    AllByRecursion (IsRowIn version) rows × IsInKeyOrder rows × AllByRecursion (IsChangeIn version) undos × AllByRecursion IsTxn committed × IsAscending committed

-- a record of the grammar of a version: every field and element is in its set, and every list in its order
abbrev pub IsSpelledIn : ℕ → Record → Type 0
IsSpelledIn version item = IsWritable item × HasPartsIn version item

-- what the types of its parts promise of each record
abbrev pub HasParts : Record → Type 0
HasParts = HasPartsIn newest

-- a record of the grammar of the newest version
abbrev pub IsSpelled : Record → Type 0
IsSpelled = IsSpelledIn newest
