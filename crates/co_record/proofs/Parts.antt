-- Keys, values and elements: read as they are spelled, and spelled as they are read.
use Rattle.std.proofs.Common.{◌≡◌, ◌≢◌, ℕ, zero, suc, ◌+◌, ◌-◌, ◌^◌, ◌<◌, ◌≤◌, Bool, true, false, cond, eqb, List, [], ◌∷◌, ◌++◌, length, map, Option, Some, None, Result, Ok, Err, refl, sym, ap, subst, ◌∙◌, append_assoc, arith, inl, inr, ◌⊎◌}
use Rattle.std.specs.Prelude.{IfSome, ◌||◌, not}
use Rattle.std.specs.List.{flat_map, AllByRecursion}
use Rattle.std.specs.List.Sorted.{IsStrictlySortedBy}
use Rattle.std.specs.Int.{w16, w32, to_be_bytes}
use Rattle.std.specs.Ordering.{is_lt, is_gt, on, nat_cmp}
use Rattle.std.specs.declared.cmp.Ordering.{Ordering}
use Rattle.std.specs.declared.cmp.Ordering.TheVariants.{Less, Equal, Greater}
use Rattle.std.specs.Cmp.{IsTotalOrder}
use Rattle.std.proofs.lemmas.Bool.{lt-ltb, le-ltb}
use Rattle.std.proofs.lemmas.Cmp.{nat_cmp_total, nat_list_cmp_total}
use Rattle.std.proofs.lemmas.List.{map-id}
use Rattle.std.proofs.lemmas.List.Elements.{All-from_recursion, recursion_from_All}
use Rattle.co_base.proofs.Ordered.{span_total}
use Rattle.co_base.specs.Letters.{IsLetter}
use Rattle.co_base.specs.Nodes.{IsValidNode, node_byte}
use Rattle.co_base.specs.Order.{key_cmp, IsAscending}
use Rattle.co_base.specs.RowOrder.{IsInKeyOrder}
use Rattle.co_base.specs.Span.{Span, span_cmp}
use Rattle.co_base.specs.declared.node.Node.{Node}
use Rattle.co_base.specs.declared.node.Node.TheVariants.{Member, Coord}
use Rattle.co_base.specs.declared.row.Row.{Row}
use Rattle.co_base.specs.declared.written.Written.{Written}
use Rattle.co_base.specs.Limits.{most_members, most_operations}
use Rattle.co_record.specs.declared.miss.Miss.{Miss}
use Rattle.co_record.specs.declared.miss.Miss.TheVariants.{Outside}
use Rattle.co_record.specs.Format.{oldest, most_key, most_value}
use Rattle.co_record.specs.Spelling.{key_text, value_text, held_text, change_text, range_text, row_text, txn_text, listed, IsKey, IsValueIn, IsRange, IsRowIn, IsChangeIn, IsTxn, IsMember, AreInKeyOrder}
use Rattle.co_record.specs.Reading.{◌>>=◌, Reader, then_at, where_at, counted_at, byte_at, number_at, within, byte_within, number_within, letters_at, key_at, value_at, bounds_at, entry_at, span_of, row_of, written_of, range_at, row_at, held_at, change_at, member_at, txn_at, follows, items_at, row_cmp, change_cmp, ranges_at, writes_at, members_at, rows_at, undos_at, txns_at, is_node_byte, node_of, node_at}
use Rattle.co_record.proofs.Codec.{IsBytes, IsBytes-rest, IsCodec, Takes, Takes-then, bind_ok, ok_is, one_byte, as_takes, as_again, codec-then, codec-as, codec-where, codec-fits, codec-counted, codec-byte, codec-byte_within, codec-number, codec-number_within, codec-letters, codec-items, wide16, wide32, within_is, is_within, Ascends}

pub codec-key : IsCodec key_at key_text IsKey
unfolding key_at
codec-key = codec-fits key_at (λ xs. one_byte (length xs) ++ xs) key_text (λ xs. ((1 ≤ length xs) × (length xs ≤ 32)) × AllByRecursion IsLetter xs) IsKey
    (λ xs. refl) (λ xs h. (h.0, All-from_recursion IsLetter xs h.1)) (λ xs h. (h.0, recursion_from_All IsLetter xs h.1))
    (codec-counted (byte_within 1 most_key) letters_at one_byte (λ xs. xs) (λ n. (1 ≤ n) × (n ≤ 32)) (AllByRecursion IsLetter) (codec-byte_within 1 most_key (omega arith)) codec-letters)

small_value : (version : ℕ) → most_value version < 2 ^ 16
small_value version = by_test (eqb version oldest)
  where
    by_test : (t : Bool) → cond t 256 4096 < 2 ^ 16
    by_test true = omega arith
    by_test false = omega arith

pub codec-value : (version : ℕ) → IsCodec (value_at version) value_text (IsValueIn version)
unfolding value_at
codec-value version = codec-fits (value_at version) value_text value_text (λ xs. ((1 ≤ length xs) × (length xs ≤ most_value version)) × AllByRecursion IsLetter xs) (IsValueIn version)
    (λ xs. refl) (λ xs h. (h.0, All-from_recursion IsLetter xs h.1)) (λ xs h. (h.0, recursion_from_All IsLetter xs h.1))
    (codec-counted (number_within w16 1 (most_value version)) letters_at (to_be_bytes w16) (λ xs. xs) (λ n. (1 ≤ n) × (n ≤ most_value version)) (AllByRecursion IsLetter)
    (codec-number_within w16 (2 ^ 16) 1 (most_value version) wide16 (small_value version)) codec-letters)

-- ---- elements

abbrev pub pair_of_span : Span → List ℕ × List ℕ
pair_of_span span = (span.lo, span.hi)

abbrev pub pair_of_row : Row → List ℕ × List ℕ
pair_of_row row = (row.key, row.value)

abbrev IsBounds : List ℕ × List ℕ → Type 0
IsBounds p = IsKey p.0 × IsKey p.1 × (is_gt (key_cmp p.0 p.1) ≡ false)

not_true : (b : Bool) → not b ≡ true → b ≡ false
not_true true e = absurd cc
not_true false e = refl

true_not : (b : Bool) → b ≡ false → not b ≡ true
true_not true e = absurd cc
true_not false e = refl

codec-bounds : IsCodec bounds_at (λ p. key_text p.0 ++ key_text p.1) IsBounds
unfolding bounds_at
codec-bounds = record {
  takes = λ bytes x rest fits e.
      let p = bind_ok (key_at bytes) (λ lo. where_at (λ hi. not (is_gt (key_cmp lo.0 hi))) key_at lo.1 >>= λ hi. Ok ((lo.0, hi.0), hi.1)) (x, rest) e in
      let q = bind_ok (where_at (λ hi. not (is_gt (key_cmp p.0.0 hi))) key_at p.0.1) (λ hi. Ok ((p.0.0, hi.0), hi.1)) (x, rest) p.2 in
      let t = codec-key.takes bytes p.0.0 p.0.1 fits p.1 in
      let u = (codec-where (λ hi. not (is_gt (key_cmp p.0.0 hi))) key_at key_text IsKey codec-key).takes p.0.1 q.0.0 q.0.1 t.0.rest_fits q.1 in
      let made : (List ℕ × List ℕ) × List ℕ = ((p.0.0, q.0.0), q.0.1) in
      subst (λ (y : (List ℕ × List ℕ) × List ℕ). Takes bytes (key_text y.0.0 ++ key_text y.0.1) y.1 × IsBounds y.0) (ok_is made (x, rest) q.2)
      (Takes-then bytes (key_text p.0.0) p.0.1 (key_text q.0.0) q.0.1 t.0 u.0, (t.1, u.1.0, not_true _ u.1.1));
  again = λ x rest fits.
      let tested = where_at (λ hi. not (is_gt (key_cmp x.0 hi))) key_at in
      ap (λ (r : Result (List ℕ × List ℕ) Miss). r >>= λ lo. where_at (λ hi. not (is_gt (key_cmp lo.0 hi))) key_at lo.1 >>= λ hi. Ok ((lo.0, hi.0), hi.1))
      (ap key_at (append_assoc (key_text x.0) (key_text x.1) rest) ∙ codec-key.again x.0 (key_text x.1 ++ rest) fits.0)
      ∙ ap (λ (r : Result (List ℕ × List ℕ) Miss). r >>= λ hi. Ok ((x.0, hi.0), hi.1))
      ((codec-where (λ hi. not (is_gt (key_cmp x.0 hi))) key_at key_text IsKey codec-key).again x.1 rest (fits.1, true_not _ fits.2));
}

pub codec-range : IsCodec range_at range_text IsRange
codec-range = codec-as span_of pair_of_span bounds_at (λ p. key_text p.0 ++ key_text p.1) IsBounds (λ p h. refl) (λ s h. refl) codec-bounds

codec-entry : (version : ℕ) → IsCodec (entry_at version) (λ p. key_text p.0 ++ value_text p.1) (λ p. IsKey p.0 × IsValueIn version p.1)
unfolding entry_at
codec-entry version = codec-then key_at (value_at version) key_text value_text IsKey (IsValueIn version) codec-key (codec-value version)

pub codec-row : (version : ℕ) → IsCodec (row_at version) row_text (IsRowIn version)
codec-row version = codec-as row_of pair_of_row (entry_at version) (λ p. key_text p.0 ++ value_text p.1) (λ p. IsKey p.0 × IsValueIn version p.1) (λ p h. refl) (λ r h. refl) (codec-entry version)

held_takes : (version : ℕ) (bytes : List ℕ) (o : Option (List ℕ)) (rest : List ℕ) → IsBytes bytes → held_at version bytes ≡ Ok (o, rest) → Takes bytes (held_text o) rest × IfSome o (IsValueIn version)
unfolding held_at
held_takes version [] o rest fits e = absurd cc
held_takes version (zero ∷ bytes) o rest fits e =
    subst (λ (x : Option (List ℕ) × List ℕ). Takes (0 ∷ bytes) (held_text x.0) x.1 × IfSome x.0 (IsValueIn version)) (ok_is (None, bytes) (o, rest) e) (record { parts = refl; rest_fits = IsBytes-rest 0 bytes fits }, tt)
held_takes version (suc zero ∷ bytes) o rest fits e =
    let t = as_takes Some (value_at version) value_text (IsValueIn version) (codec-value version) bytes o rest (IsBytes-rest 1 bytes fits) e in
    subst (λ (x : Option (List ℕ)). Takes (1 ∷ bytes) (held_text x) rest × IfSome x (IsValueIn version)) t.1
    (record { parts = ap (λ (w : List ℕ). 1 ∷ w) t.2.parts; rest_fits = t.2.rest_fits }, t.3)
held_takes version (suc (suc b) ∷ bytes) o rest fits e = absurd cc

held_again : (version : ℕ) (o : Option (List ℕ)) (rest : List ℕ) → IfSome o (IsValueIn version) → held_at version (held_text o ++ rest) ≡ Ok (o, rest)
unfolding held_at
held_again version None rest h = refl
held_again version (Some v) rest h = as_again Some (value_at version) value_text (IsValueIn version) (codec-value version) v rest h

codec-held : (version : ℕ) → IsCodec (held_at version) held_text (λ o. IfSome o (IsValueIn version))
codec-held version = record { takes = held_takes version; again = held_again version }

abbrev pub pair_of_change : Written → List ℕ × Option (List ℕ)
pair_of_change w = (w.key, w.value)

pub codec-change : (version : ℕ) → IsCodec (change_at version) change_text (IsChangeIn version)
unfolding change_at
codec-change version = codec-as written_of pair_of_change (then_at key_at (held_at version)) (λ p. key_text p.0 ++ held_text p.1) (λ p. IsKey p.0 × IfSome p.1 (IsValueIn version)) (λ p h. refl) (λ w h. refl)
    (codec-then key_at (held_at version) key_text held_text IsKey (λ o. IfSome o (IsValueIn version)) codec-key (codec-held version))

pub codec-txn : IsCodec txn_at txn_text IsTxn
codec-txn = codec-number w32 (2 ^ 32) wide32

-- ---- orders

less_is : (o : Ordering) → is_lt o ≡ true → o ≡ Less
less_is Less e = refl
less_is Equal e = absurd cc
less_is Greater e = absurd cc

module _ {A K : Type 0} (f : A → K) (cmp : K → K → Ordering) (total : IsTotalOrder cmp) where
  further : (p q : K) (ks : List K) → cmp p q ≡ Less → AllByRecursion (λ y. cmp q y ≡ Less) ks → AllByRecursion (λ y. cmp p y ≡ Less) ks
  further p q [] lt all = tt
  further p q (k ∷ ks) lt all = (total.trans p q k lt all.0, further p q ks lt all.1)

  above : (x : A) (xs : List A) → Ascends (on f cmp) (Some x) xs → AllByRecursion (λ y. cmp (f x) y ≡ Less) (map f xs)
  above x [] up = tt
  above x (y ∷ ys) up = (less_is _ up.0, further (f x) (f y) (map f ys) (less_is _ up.0) (above y ys up.1))

  pub sorted : (before : Option A) (xs : List A) → Ascends (on f cmp) before xs → IsStrictlySortedBy cmp (map f xs)
  unfolding IsStrictlySortedBy
  sorted before [] up = tt
  sorted before (x ∷ xs) up = (above x xs up.1, sorted (Some x) xs up.1)

  less_tests : (o : Ordering) → o ≡ Less → is_lt o ≡ true
  less_tests o e = ap is_lt e

  follow : (before : Option A) (xs : List A) → ((y : A) (ys : List A) → xs ≡ y ∷ ys → follows (on f cmp) before y ≡ true) → IsStrictlySortedBy cmp (map f xs) → Ascends (on f cmp) before xs
  unfolding IsStrictlySortedBy
  follow before [] first up = tt
  follow before (x ∷ xs) first up = (first x xs refl, follow (Some x) xs (λ y ys e. less_tests _ (subst (λ (zs : List A). AllByRecursion (λ z. cmp (f x) z ≡ Less) (map f zs)) e up.0).0) up.1)

  pub ascends : (xs : List A) → IsStrictlySortedBy cmp (map f xs) → Ascends (on f cmp) None xs
  ascends xs up = follow None xs (λ y ys e. refl) up

sorted_plain : {A : Type 0} (cmp : A → A → Ordering) (total : IsTotalOrder cmp) (xs : List A) → Ascends cmp None xs → IsStrictlySortedBy cmp xs
sorted_plain {A} cmp total xs up = subst (IsStrictlySortedBy cmp) (map-id xs) (sorted (λ (x : A). x) cmp total None xs up)

ascends_plain : {A : Type 0} (cmp : A → A → Ordering) (total : IsTotalOrder cmp) (xs : List A) → IsStrictlySortedBy cmp xs → Ascends cmp None xs
ascends_plain {A} cmp total xs up = ascends (λ (x : A). x) cmp total xs (subst (IsStrictlySortedBy cmp) (sym (map-id xs)) up)

-- ---- lists

module _ {A : Type 0} (count : Reader ℕ) (tc : ℕ → List ℕ) (Fc : ℕ → Type 0) (counts : IsCodec count tc Fc) (read : Reader A) (cmp : A → A → Ordering) (text : A → List ℕ) (Fits : A → Type 0) (codec : IsCodec read text Fits) (In : List A → Type 0)
    (to : (xs : List A) → Ascends cmp None xs → In xs) (from : (xs : List A) → In xs → Ascends cmp None xs) where
  pub codec-list : IsCodec (counted_at count (items_at read cmp)) (λ xs. tc (length xs) ++ flat_map text xs) (λ xs. Fc (length xs) × (AllByRecursion Fits xs × In xs))
  codec-list = codec-fits (counted_at count (items_at read cmp)) (λ xs. tc (length xs) ++ flat_map text xs) (λ xs. tc (length xs) ++ flat_map text xs) (λ xs. Fc (length xs) × (AllByRecursion Fits xs × Ascends cmp None xs)) (λ xs. Fc (length xs) × (AllByRecursion Fits xs × In xs))
      (λ xs. refl) (λ xs h. (h.0, (h.1.0, to xs h.1.1))) (λ xs h. (h.0, (h.1.0, from xs h.1.1)))
      (codec-counted count (items_at read cmp) tc (flat_map text) Fc (λ xs. AllByRecursion Fits xs × Ascends cmp None xs) counts (codec-items read cmp text Fits codec))

abbrev pub IsUpTo : ℕ → ℕ → Type 0
IsUpTo most n = (0 ≤ n) × (n ≤ most)

counts16 : (most : ℕ) → most < 2 ^ 16 → IsCodec (number_within w16 0 most) (to_be_bytes w16) (IsUpTo most)
counts16 most small = codec-number_within w16 (2 ^ 16) 0 most wide16 small

counts32 : IsCodec (number_at w32) (to_be_bytes w32) (λ n. n < 2 ^ 32)
counts32 = codec-number w32 (2 ^ 32) wide32

pub codec-ranges : IsCodec ranges_at (listed w16 range_text) (λ xs. IsUpTo most_operations (length xs) × (AllByRecursion IsRange xs × IsStrictlySortedBy span_cmp xs))
unfolding ranges_at
codec-ranges = codec-list (number_within w16 0 most_operations) (to_be_bytes w16) (IsUpTo most_operations) (counts16 most_operations (omega arith)) range_at span_cmp range_text IsRange codec-range (IsStrictlySortedBy span_cmp)
    (sorted_plain span_cmp span_total) (ascends_plain span_cmp span_total)

in_order : (xs : List Written) → Ascends change_cmp None xs → AreInKeyOrder xs
in_order xs up = sorted (λ w. w.key) key_cmp nat_list_cmp_total None xs up

order_in : (xs : List Written) → AreInKeyOrder xs → Ascends change_cmp None xs
order_in xs up = ascends (λ w. w.key) key_cmp nat_list_cmp_total xs up

pub codec-writes : (version : ℕ) → IsCodec (writes_at version) (listed w16 change_text) (λ xs. IsUpTo most_operations (length xs) × (AllByRecursion (IsChangeIn version) xs × AreInKeyOrder xs))
unfolding writes_at
codec-writes version = codec-list (number_within w16 0 most_operations) (to_be_bytes w16) (IsUpTo most_operations) (counts16 most_operations (omega arith)) (change_at version) change_cmp change_text (IsChangeIn version) (codec-change version) AreInKeyOrder in_order order_in

pub codec-undos : (version : ℕ) → IsCodec (undos_at version) (listed w32 change_text) (λ xs. (length xs < 2 ^ 32) × (AllByRecursion (IsChangeIn version) xs × AreInKeyOrder xs))
unfolding undos_at
codec-undos version = codec-list (number_at w32) (to_be_bytes w32) (λ n. n < 2 ^ 32) counts32 (change_at version) change_cmp change_text (IsChangeIn version) (codec-change version) AreInKeyOrder in_order order_in

pub codec-rows : (version : ℕ) → IsCodec (rows_at version) (listed w32 row_text) (λ xs. (length xs < 2 ^ 32) × (AllByRecursion (IsRowIn version) xs × IsInKeyOrder xs))
unfolding rows_at
codec-rows version = codec-list (number_at w32) (to_be_bytes w32) (λ n. n < 2 ^ 32) counts32 (row_at version) row_cmp row_text (IsRowIn version) (codec-row version) IsInKeyOrder
    (λ xs up. sorted (λ r. r.key) key_cmp nat_list_cmp_total None xs up) (λ xs up. ascends (λ r. r.key) key_cmp nat_list_cmp_total xs up)

pub codec-txns : IsCodec txns_at (listed w32 txn_text) (λ xs. (length xs < 2 ^ 32) × (AllByRecursion IsTxn xs × IsAscending xs))
unfolding txns_at
codec-txns = codec-list (number_at w32) (to_be_bytes w32) (λ n. n < 2 ^ 32) counts32 txn_at nat_cmp txn_text IsTxn codec-txn IsAscending (sorted_plain nat_cmp nat_cmp_total) (ascends_plain nat_cmp nat_cmp_total)

same_bytes : (xs : List ℕ) → flat_map one_byte xs ≡ xs
same_bytes [] = refl
same_bytes (x ∷ xs) = ap (λ (t : List ℕ). x ∷ t) (same_bytes xs)

pub codec-members : IsCodec members_at (λ xs. length xs ∷ xs) (λ xs. IsUpTo most_members (length xs) × (AllByRecursion IsMember xs × IsAscending xs))
unfolding members_at
codec-members = codec-fits members_at (λ xs. one_byte (length xs) ++ flat_map one_byte xs) (λ xs. length xs ∷ xs) (λ xs. IsUpTo most_members (length xs) × (AllByRecursion IsMember xs × IsAscending xs)) (λ xs. IsUpTo most_members (length xs) × (AllByRecursion IsMember xs × IsAscending xs))
    (λ xs. ap (λ (t : List ℕ). length xs ∷ t) (same_bytes xs)) (λ xs h. h) (λ xs h. h)
    (codec-list (byte_within 0 most_members) one_byte (IsUpTo most_members) (codec-byte_within 0 most_members (omega arith)) member_at nat_cmp one_byte IsMember (codec-byte_within 1 most_members (omega arith)) IsAscending (sorted_plain nat_cmp nat_cmp_total) (ascends_plain nat_cmp nat_cmp_total))

-- ---- nodes

or_true : (a b : Bool) → (a || b) ≡ true → (a ≡ true) ⊎ (b ≡ true)
or_true true b e = inl refl
or_true false b e = inr e

true_or : (a b : Bool) → b ≡ true → (a || b) ≡ true
true_or true b e = refl
true_or false b e = e

or_left : (a b : Bool) → a ≡ true → (a || b) ≡ true
or_left true b e = refl
or_left false b e = absurd cc

byte_back : (b : ℕ) → is_node_byte b ≡ true → (node_byte (node_of b) ≡ b) × IsValidNode (node_of b)
byte_back b e =
    elim (or_true (within 1 most_members b) (within 129 136 b) e) [
      | inl h ↦ let f = within_is 1 most_members b h in
          subst (λ (t : Bool). (node_byte (cond t (Member b) (Coord (b - 128))) ≡ b) × IsValidNode (cond t (Member b) (Coord (b - 128)))) (sym (lt-ltb b 128 (omega (arith, f.1)))) (refl, f)
      | inr h ↦ let f = within_is 129 136 b h in
          subst (λ (t : Bool). (node_byte (cond t (Member b) (Coord (b - 128))) ≡ b) × IsValidNode (cond t (Member b) (Coord (b - 128)))) (sym (le-ltb b 128 (omega (arith, f.0))))
          (omega (arith, f.0), (omega (arith, f.0), omega (arith, f.1)))
    ]

node_back : (node : Node) → IsValidNode node → (is_node_byte (node_byte node) ≡ true) × (node_of (node_byte node) ≡ node)
node_back (Member n) valid =
    (or_left _ _ (is_within 1 most_members n valid.0 valid.1), ap (λ (t : Bool). cond t (Member n) (Coord (n - 128))) (lt-ltb n 128 (omega (arith, valid.1))))
node_back (Coord n) valid = (
  true_or _ _ (is_within 129 136 (128 + n) (omega (arith, valid.0)) (omega (arith, valid.1))),
  ap (λ (t : Bool). cond t (Member (128 + n)) (Coord (128 + n - 128))) (le-ltb (128 + n) 128 (omega arith)) ∙ ap Coord (omega arith),
)

small_byte : (node : Node) → IsValidNode node → node_byte node < 256
small_byte (Member n) h = omega (arith, h.1)
small_byte (Coord n) h = omega (arith, h.1)

abbrev IsNodeByte : ℕ → Type 0
IsNodeByte b = (b < 256) × (is_node_byte b ≡ true)

codec-node_byte : IsCodec (where_at is_node_byte byte_at) one_byte IsNodeByte
codec-node_byte = codec-where is_node_byte byte_at one_byte (λ n. n < 256) codec-byte

pub codec-node : IsCodec node_at (λ node. one_byte (node_byte node)) IsValidNode
unfolding node_at
codec-node = record {
  takes = λ bytes node rest fits e.
      let t = as_takes node_of (where_at is_node_byte byte_at) one_byte IsNodeByte codec-node_byte bytes node rest fits e in
      let h = byte_back t.0 t.3.1 in
      subst (λ (n : Node). Takes bytes (one_byte (node_byte n)) rest × IsValidNode n) t.1 (subst (λ (k : ℕ). Takes bytes (one_byte k) rest) (sym h.0) t.2, h.1);
  again = λ node rest valid.
      let h = node_back node valid in
      as_again node_of (where_at is_node_byte byte_at) one_byte IsNodeByte codec-node_byte (node_byte node) rest (small_byte node valid, h.0) ∙ ap (λ (n : Node). Ok (n, rest)) h.1;
}

-- a byte that stands for no valid node
no_node : (b : ℕ) (t : Bool) → is_node_byte b ≡ t → ((node : Node) → IsValidNode node → node_byte node ≢ b) → is_node_byte b ≡ false
no_node b true e none = let h = byte_back b e in absurd (none (node_of b) h.1 h.0)
no_node b false e none = e

pub node_fails : (bytes rest : List ℕ) (b : ℕ) → byte_at bytes ≡ Ok (b, rest) → ((node : Node) → IsValidNode node → node_byte node ≢ b) → node_at bytes ≡ Err (Outside (length bytes))
unfolding node_at
node_fails bytes rest b e none =
    let got : ℕ × List ℕ = (b, rest) in
    ap (λ (r : Result (ℕ × List ℕ) Miss). (r >>= λ x. cond (is_node_byte x.0) (Ok x) (Err (Outside (length bytes)))) >>= λ x. Ok (node_of x.0, x.1)) e
    ∙ ap (λ (t : Bool). cond t (Ok got) (Err (Outside (length bytes))) >>= λ x. Ok (node_of x.0, x.1)) (no_node b (is_node_byte b) refl none)
