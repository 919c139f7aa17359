-- The two laws of records: what is read is spelled so, and what is spelled so is read.
use Rattle.std.proofs.Common.{◌≡◌, ℕ, zero, suc, ◌-◌, ◌^◌, ◌<◌, ◌≤◌, Bool, true, false, cond, eqb, List, [], ◌∷◌, ◌++◌, length, drop, Result, Ok, refl, sym, ap, subst, ◌∙◌, arith, inl, inr, ◌⊎◌}
use Rattle.std.specs.Prelude.{Option, Some, None, IfSome}
use Rattle.std.specs.List.{AllByRecursion}
use Rattle.std.specs.Int.{w16, w32, to_be_bytes}
use Rattle.std.proofs.lemmas.Bool.{eqb-true}
use Rattle.std.proofs.lemmas.List.{drop_at, length-append}
use Rattle.co_base.specs.Nodes.{IsValidNode, node_byte}
use Rattle.co_base.specs.Order.{IsAscending}
use Rattle.co_base.specs.RowOrder.{IsInKeyOrder}
use Rattle.co_base.specs.Span.{Span, span_cmp}
use Rattle.co_base.specs.declared.node.Node.{Node}
use Rattle.co_base.specs.declared.row.Row.{Row}
use Rattle.co_base.specs.declared.written.Written.{Written}
use Rattle.co_base.specs.Limits.{most_coordinators, most_members, most_operations}
use Rattle.std.specs.List.Sorted.{IsStrictlySortedBy}
use Rattle.co_record.specs.declared.miss.Miss.{Miss}
use Rattle.co_record.specs.declared.record.Record.{Record}
use Rattle.co_record.specs.declared.record.Record.TheVariants.{Header, Prepare, Commit, Abort, End, Checkpoint}
use Rattle.co_record.specs.Lent.{StandsAt, placed, reading}
use Rattle.co_record.specs.Format.{IsVersion, newest, oldest}
use Rattle.co_record.specs.Spelling.{spelling, IsSpelledIn, IsSpelled, listed, range_text, change_text, row_text, txn_text, IsValue, IsValueIn, IsRange, IsChange, IsChangeIn, IsRow, IsRowIn, IsTxn, IsMember, AreInKeyOrder}
use Rattle.co_record.specs.Reading.{Reader, then_at, byte_within, number_within, number_at, txn_at, ranges_at, writes_at, members_at, rows_at, undos_at, txns_at, node_at, header_at, prepare_at, commit_at, abort_at, end_at, checkpoint_at, record_at}
use Rattle.co_record.proofs.Codec.{ok_is, IsBytes, IsBytes-rest, IsCodec, Takes, one_byte, as_takes, as_again, codec-then, codec-byte_within, codec-number, codec-number_within, wide16, wide32}
use Rattle.co_record.proofs.Parts.{IsUpTo, codec-node, codec-ranges, codec-writes, codec-members, codec-rows, codec-undos, codec-txns, codec-txn}

-- a kind byte in front
behind : (kind : ℕ) (bytes text rest : List ℕ) → Takes bytes text rest → Takes (kind ∷ bytes) (kind ∷ text) rest
behind kind bytes text rest t = record { parts = ap (λ (x : List ℕ). kind ∷ x) t.parts; rest_fits = t.rest_fits }

module _ (version : ℕ) (small : version < 256) where
  -- ---- headers

  abbrev HeaderParts : Type 0
  HeaderParts = ℕ × (Node × ℕ)

  abbrev header_text : HeaderParts → List ℕ
  header_text p = one_byte p.0 ++ (one_byte (node_byte p.1.0) ++ to_be_bytes w32 p.1.1)

  abbrev IsHeader : HeaderParts → Type 0
  IsHeader p = ((version ≤ p.0) × (p.0 ≤ version)) × (IsValidNode p.1.0 × (p.1.1 < 2 ^ 32))

  abbrev header_parts : Reader HeaderParts
  header_parts = then_at (byte_within version version) (then_at node_at (number_at w32))

  codec-header : IsCodec header_parts header_text IsHeader
  codec-header = codec-then (byte_within version version) (then_at node_at (number_at w32)) one_byte (λ p. one_byte (node_byte p.0) ++ to_be_bytes w32 p.1) (λ v. (version ≤ v) × (v ≤ version)) (λ p. IsValidNode p.0 × (p.1 < 2 ^ 32))
      (codec-byte_within version version small) (codec-then node_at (number_at w32) (λ node. one_byte (node_byte node)) (to_be_bytes w32) IsValidNode (λ n. n < 2 ^ 32) codec-node (codec-number w32 (2 ^ 32) wide32))

  header_takes : (bytes : List ℕ) (r : Record) (rest : List ℕ) → IsBytes bytes → header_at version bytes ≡ Ok (r, rest) → Takes (1 ∷ bytes) (spelling version r) rest × IsSpelledIn version r
  unfolding header_at
  header_takes bytes r rest fits e =
      let t = as_takes (λ p. Header p.1.0 p.1.1) header_parts header_text IsHeader codec-header bytes r rest fits e in
      let one : t.0.0 ≡ version = omega (arith, t.3.0.0, t.3.0.1) in
      subst (λ (y : Record). Takes (1 ∷ bytes) (spelling version y) rest × IsSpelledIn version y) t.1
      (subst (λ (v : ℕ). Takes (1 ∷ bytes) (1 ∷ v ∷ node_byte t.0.1.0 ∷ to_be_bytes w32 t.0.1.1) rest) one (behind 1 bytes (header_text t.0) rest t.2), (t.3.1.0, t.3.1.1))

  header_again : (node : Node) (generation : ℕ) (rest : List ℕ) → IsValidNode node → generation < 2 ^ 32 → header_at version (header_text (version, (node, generation)) ++ rest) ≡ Ok (Header node generation, rest)
  unfolding header_at
  header_again node generation rest valid small = as_again (λ p. Header p.1.0 p.1.1) header_parts header_text IsHeader codec-header (version, (node, generation)) rest ((omega arith, omega arith), (valid, small))

  -- ---- prepares

  abbrev PrepareParts : Type 0
  PrepareParts = ℕ × (ℕ × (ℕ × (List Span × List Written)))

  abbrev prepare_text : PrepareParts → List ℕ
  prepare_text p = txn_text p.0 ++ (one_byte p.1.0 ++ (to_be_bytes w16 p.1.1.0 ++ (listed w16 range_text p.1.1.1.0 ++ listed w16 change_text p.1.1.1.1)))

  abbrev AreReads : List Span → Type 0
  AreReads xs = IsUpTo most_operations (length xs) × (AllByRecursion IsRange xs × IsStrictlySortedBy span_cmp xs)

  abbrev AreWrites : List Written → Type 0
  AreWrites xs = IsUpTo most_operations (length xs) × (AllByRecursion (IsChangeIn version) xs × AreInKeyOrder xs)

  abbrev IsPrepare : PrepareParts → Type 0
  IsPrepare p = IsTxn p.0 × (((1 ≤ p.1.0) × (p.1.0 ≤ most_coordinators)) × (((1 ≤ p.1.1.0) × (p.1.1.0 ≤ most_operations)) × (AreReads p.1.1.1.0 × AreWrites p.1.1.1.1)))

  abbrev lists_at : Reader (List Span × List Written)
  lists_at = then_at ranges_at (writes_at version)

  abbrev counts_at : Reader (ℕ × (List Span × List Written))
  counts_at = then_at (number_within w16 1 most_operations) lists_at

  abbrev coords_at : Reader (ℕ × (ℕ × (List Span × List Written)))
  coords_at = then_at (byte_within 1 most_coordinators) counts_at

  codec-prepare : IsCodec (then_at txn_at coords_at) prepare_text IsPrepare
  codec-prepare = codec-then txn_at coords_at txn_text (λ p. one_byte p.0 ++ (to_be_bytes w16 p.1.0 ++ (listed w16 range_text p.1.1.0 ++ listed w16 change_text p.1.1.1))) IsTxn
      (λ p. ((1 ≤ p.0) × (p.0 ≤ most_coordinators)) × (((1 ≤ p.1.0) × (p.1.0 ≤ most_operations)) × (AreReads p.1.1.0 × AreWrites p.1.1.1))) codec-txn
      (codec-then (byte_within 1 most_coordinators) counts_at one_byte (λ p. to_be_bytes w16 p.0 ++ (listed w16 range_text p.1.0 ++ listed w16 change_text p.1.1)) (λ n. (1 ≤ n) × (n ≤ most_coordinators))
      (λ p. ((1 ≤ p.0) × (p.0 ≤ most_operations)) × (AreReads p.1.0 × AreWrites p.1.1)) (codec-byte_within 1 most_coordinators (omega arith))
      (codec-then (number_within w16 1 most_operations) lists_at (to_be_bytes w16) (λ p. listed w16 range_text p.0 ++ listed w16 change_text p.1) (λ n. (1 ≤ n) × (n ≤ most_operations)) (λ p. AreReads p.0 × AreWrites p.1)
      (codec-number_within w16 (2 ^ 16) 1 most_operations wide16 (omega arith))
      (codec-then ranges_at (writes_at version) (listed w16 range_text) (listed w16 change_text) AreReads AreWrites codec-ranges (codec-writes version))))

  prepare_takes : (bytes : List ℕ) (r : Record) (rest : List ℕ) → IsBytes bytes → prepare_at version bytes ≡ Ok (r, rest) → Takes (2 ∷ bytes) (spelling version r) rest × IsSpelledIn version r
  unfolding prepare_at
  prepare_takes bytes r rest fits e =
      let t = as_takes (λ (p : PrepareParts). Prepare p.0 p.1.0 p.1.1.0 p.1.1.1.0 p.1.1.1.1) (then_at txn_at coords_at) prepare_text IsPrepare codec-prepare bytes r rest fits e in
      let f = t.3 in
      subst (λ (y : Record). Takes (2 ∷ bytes) (spelling version y) rest × IsSpelledIn version y) t.1 (
        behind 2 bytes (prepare_text t.0) rest t.2,
        ((f.1.0, f.1.1.0, f.1.1.1.0.0.1, f.1.1.1.0.1.1, f.1.1.1.1.0.1, f.1.1.1.1.1.1), (f.0, f.1.1.1.0.1.0, f.1.1.1.1.1.0)),
      )

  -- ---- commits

  abbrev AreMembers : List ℕ → Type 0
  AreMembers xs = IsUpTo most_members (length xs) × (AllByRecursion IsMember xs × IsAscending xs)

  codec-commit : IsCodec (then_at txn_at members_at) (λ p. txn_text p.0 ++ (length p.1 ∷ p.1)) (λ p. IsTxn p.0 × AreMembers p.1)
  codec-commit = codec-then txn_at members_at txn_text (λ xs. length xs ∷ xs) IsTxn AreMembers codec-txn codec-members

  commit_takes : (bytes : List ℕ) (r : Record) (rest : List ℕ) → IsBytes bytes → commit_at bytes ≡ Ok (r, rest) → Takes (3 ∷ bytes) (spelling version r) rest × IsSpelledIn version r
  unfolding commit_at
  commit_takes bytes r rest fits e =
      let t = as_takes (λ (p : ℕ × List ℕ). Commit p.0 p.1) (then_at txn_at members_at) (λ p. txn_text p.0 ++ (length p.1 ∷ p.1)) (λ p. IsTxn p.0 × AreMembers p.1) codec-commit bytes r rest fits e in
      subst (λ (y : Record). Takes (3 ∷ bytes) (spelling version y) rest × IsSpelledIn version y) t.1
      (behind 3 bytes (txn_text t.0.0 ++ (length t.0.1 ∷ t.0.1)) rest t.2, ((t.3.1.0.1, t.3.1.1.0, t.3.1.1.1), t.3.0))

  abort_takes : (bytes : List ℕ) (r : Record) (rest : List ℕ) → IsBytes bytes → abort_at bytes ≡ Ok (r, rest) → Takes (4 ∷ bytes) (spelling version r) rest × IsSpelledIn version r
  unfolding abort_at
  abort_takes bytes r rest fits e =
      let t = as_takes Abort txn_at txn_text IsTxn codec-txn bytes r rest fits e in
      subst (λ (y : Record). Takes (4 ∷ bytes) (spelling version y) rest × IsSpelledIn version y) t.1 (behind 4 bytes (txn_text t.0) rest t.2, (tt, t.3))

  end_takes : (bytes : List ℕ) (r : Record) (rest : List ℕ) → IsBytes bytes → end_at bytes ≡ Ok (r, rest) → Takes (5 ∷ bytes) (spelling version r) rest × IsSpelledIn version r
  unfolding end_at
  end_takes bytes r rest fits e =
      let t = as_takes End txn_at txn_text IsTxn codec-txn bytes r rest fits e in
      subst (λ (y : Record). Takes (5 ∷ bytes) (spelling version y) rest × IsSpelledIn version y) t.1 (behind 5 bytes (txn_text t.0) rest t.2, (tt, t.3))

  -- ---- checkpoints

  abbrev CheckpointParts : Type 0
  CheckpointParts = List Row × (List Written × List ℕ)

  abbrev checkpoint_text : CheckpointParts → List ℕ
  checkpoint_text p = listed w32 row_text p.0 ++ (listed w32 change_text p.1.0 ++ listed w32 txn_text p.1.1)

  abbrev AreRows : List Row → Type 0
  AreRows xs = (length xs < 2 ^ 32) × (AllByRecursion (IsRowIn version) xs × IsInKeyOrder xs)

  abbrev AreUndos : List Written → Type 0
  AreUndos xs = (length xs < 2 ^ 32) × (AllByRecursion (IsChangeIn version) xs × AreInKeyOrder xs)

  abbrev AreTxns : List ℕ → Type 0
  AreTxns xs = (length xs < 2 ^ 32) × (AllByRecursion IsTxn xs × IsAscending xs)

  abbrev IsCheckpoint : CheckpointParts → Type 0
  IsCheckpoint p = AreRows p.0 × (AreUndos p.1.0 × AreTxns p.1.1)

  abbrev checkpoint_parts : Reader CheckpointParts
  checkpoint_parts = then_at (rows_at version) (then_at (undos_at version) txns_at)

  codec-checkpoint : IsCodec checkpoint_parts checkpoint_text IsCheckpoint
  codec-checkpoint = codec-then (rows_at version) (then_at (undos_at version) txns_at) (listed w32 row_text) (λ p. listed w32 change_text p.0 ++ listed w32 txn_text p.1) AreRows (λ p. AreUndos p.0 × AreTxns p.1) (codec-rows version)
      (codec-then (undos_at version) txns_at (listed w32 change_text) (listed w32 txn_text) AreUndos AreTxns (codec-undos version) codec-txns)

  checkpoint_takes : (bytes : List ℕ) (r : Record) (rest : List ℕ) → IsBytes bytes → checkpoint_at version bytes ≡ Ok (r, rest) → Takes (6 ∷ bytes) (spelling version r) rest × IsSpelledIn version r
  unfolding checkpoint_at
  checkpoint_takes bytes r rest fits e =
      let t = as_takes (λ (p : CheckpointParts). Checkpoint p.0 p.1.0 p.1.1) checkpoint_parts checkpoint_text IsCheckpoint codec-checkpoint bytes r rest fits e in
      let f = t.3 in
      subst (λ (y : Record). Takes (6 ∷ bytes) (spelling version y) rest × IsSpelledIn version y) t.1 (
        behind 6 bytes (checkpoint_text t.0) rest t.2,
        ((f.0.0, f.1.0.0, f.1.0.1.1, f.1.1.0), (f.0.1.0, f.0.1.1, f.1.0.1.0, f.1.1.1.0, f.1.1.1.1)),
      )

  -- ---- records

  -- one of the kinds, or one of those that follow
  pick : {A : Type 0} (kind n : ℕ) (x y : Result A Miss) (z : A) → cond (eqb kind n) x y ≡ Ok z → ((kind ≡ n) × (x ≡ Ok z)) ⊎ (y ≡ Ok z)
  pick {A} kind n x y z e = by_test (eqb kind n) refl e
    where
      by_test : (t : Bool) → eqb kind n ≡ t → cond t x y ≡ Ok z → ((kind ≡ n) × (x ≡ Ok z)) ⊎ (y ≡ Ok z)
      by_test true h e = inl (eqb-true kind n h, e)
      by_test false h e = inr e

  -- as kind n, since it is that one
  as_kind : (kind n : ℕ) (fields : List ℕ) (r : Record) (rest : List ℕ) → kind ≡ n → Takes (n ∷ fields) (spelling version r) rest × IsSpelledIn version r → Takes (kind ∷ fields) (spelling version r) rest × IsSpelledIn version r
  as_kind kind n fields r rest same t = subst (λ (k : ℕ). Takes (k ∷ fields) (spelling version r) rest × IsSpelledIn version r) (sym same) t

  -- what is read is spelled so, each byte of it
  pub record_takes : (bytes : List ℕ) (r : Record) (rest : List ℕ) → IsBytes bytes → record_at version bytes ≡ Ok (r, rest) → Takes bytes (spelling version r) rest × IsSpelledIn version r
  unfolding record_at
  record_takes [] r rest fits e = absurd cc
  record_takes (kind ∷ fields) r rest fits e =
      let f = IsBytes-rest kind fields fits in
      elim (pick kind 1 (header_at version fields) _ (r, rest) e) [
        | inl h ↦ as_kind kind 1 fields r rest h.0 (header_takes fields r rest f h.1)
        | inr e2 ↦ elim (pick kind 2 (prepare_at version fields) _ (r, rest) e2) [
          | inl h ↦ as_kind kind 2 fields r rest h.0 (prepare_takes fields r rest f h.1)
          | inr e3 ↦ elim (pick kind 3 (commit_at fields) _ (r, rest) e3) [
            | inl h ↦ as_kind kind 3 fields r rest h.0 (commit_takes fields r rest f h.1)
            | inr e4 ↦ elim (pick kind 4 (abort_at fields) _ (r, rest) e4) [
              | inl h ↦ as_kind kind 4 fields r rest h.0 (abort_takes fields r rest f h.1)
              | inr e5 ↦ elim (pick kind 5 (end_at fields) _ (r, rest) e5) [
                | inl h ↦ as_kind kind 5 fields r rest h.0 (end_takes fields r rest f h.1)
                | inr e6 ↦ elim (pick kind 6 (checkpoint_at version fields) _ (r, rest) e6) [
                  | inl h ↦ as_kind kind 6 fields r rest h.0 (checkpoint_takes fields r rest f h.1)
                  | inr e7 ↦ absurd cc
                ]
              ]
            ]
          ]
        ]
      ]

  prepare_again : (p : PrepareParts) (rest : List ℕ) → IsPrepare p → prepare_at version (prepare_text p ++ rest) ≡ Ok (Prepare p.0 p.1.0 p.1.1.0 p.1.1.1.0 p.1.1.1.1, rest)
  unfolding prepare_at
  prepare_again p rest fits = as_again (λ (p : PrepareParts). Prepare p.0 p.1.0 p.1.1.0 p.1.1.1.0 p.1.1.1.1) (then_at txn_at coords_at) prepare_text IsPrepare codec-prepare p rest fits

  commit_again : (txn : ℕ) (members rest : List ℕ) → IsTxn txn → AreMembers members → commit_at (txn_text txn ++ (length members ∷ members) ++ rest) ≡ Ok (Commit txn members, rest)
  unfolding commit_at
  commit_again txn members rest small fits = as_again (λ (p : ℕ × List ℕ). Commit p.0 p.1) (then_at txn_at members_at) (λ p. txn_text p.0 ++ (length p.1 ∷ p.1)) (λ p. IsTxn p.0 × AreMembers p.1) codec-commit (txn, members) rest (small, fits)

  abort_again : (txn : ℕ) (rest : List ℕ) → IsTxn txn → abort_at (txn_text txn ++ rest) ≡ Ok (Abort txn, rest)
  unfolding abort_at
  abort_again txn rest small = as_again Abort txn_at txn_text IsTxn codec-txn txn rest small

  end_again : (txn : ℕ) (rest : List ℕ) → IsTxn txn → end_at (txn_text txn ++ rest) ≡ Ok (End txn, rest)
  unfolding end_at
  end_again txn rest small = as_again End txn_at txn_text IsTxn codec-txn txn rest small

  checkpoint_again : (p : CheckpointParts) (rest : List ℕ) → IsCheckpoint p → checkpoint_at version (checkpoint_text p ++ rest) ≡ Ok (Checkpoint p.0 p.1.0 p.1.1, rest)
  unfolding checkpoint_at
  checkpoint_again p rest fits = as_again (λ (p : CheckpointParts). Checkpoint p.0 p.1.0 p.1.1) checkpoint_parts checkpoint_text IsCheckpoint codec-checkpoint p rest fits

  -- what is spelled so is read, whatever follows
  pub record_again : (r : Record) (rest : List ℕ) → IsSpelledIn version r → record_at version (spelling version r ++ rest) ≡ Ok (r, rest)
  unfolding record_at
  record_again (Header node generation) rest fits = header_again node generation rest fits.0 fits.1
  record_again (Prepare txn coord count reads writes) rest fits =
      let w = fits.0 in
      let h = fits.1 in
      prepare_again (txn, (coord, (count, (reads, writes)))) rest (h.0, (w.0, (w.1, (((omega arith, w.2), (h.1, w.3)), ((omega arith, w.4), (h.2, w.5))))))
  record_again (Commit txn members) rest fits = commit_again txn members rest fits.1 ((omega arith, fits.0.0), (fits.0.1, fits.0.2))
  record_again (Abort txn) rest fits = abort_again txn rest fits.1
  record_again (End txn) rest fits = end_again txn rest fits.1
  record_again (Checkpoint rows undos committed) rest fits =
      let w = fits.0 in
      let h = fits.1 in
      checkpoint_again (rows, (undos, committed)) rest ((w.0, (h.0, h.1)), ((w.1, (h.2, w.2)), (w.3, (h.3, h.4))))

  pub record_shrinks : (bytes : List ℕ) (r : Record) (rest : List ℕ) → IsBytes bytes → record_at version bytes ≡ Ok (r, rest) → length rest ≤ length bytes
  record_shrinks bytes r rest fits e =
      let t = (record_takes bytes r rest fits e).0.parts in
      omega (arith, ap length t, length-append (spelling version r) rest)

  -- the record that is read stands at the front
  pub stands : (bytes : List ℕ) (r : Record) (rest : List ℕ) → IsBytes bytes → record_at version bytes ≡ Ok (r, rest) → StandsAt version bytes r (length bytes - length rest)
  stands bytes r rest fits e =
      let t = record_takes bytes r rest fits e in
      let many : length bytes - length rest ≡ length (spelling version r) = omega (arith, ap length t.0.parts, length-append (spelling version r) rest) in
      let left : drop (length bytes - length rest) bytes ≡ rest = ap (drop (length bytes - length rest)) t.0.parts ∙ drop_at (spelling version r) rest (length bytes - length rest) (sym many) in
      record { spelled = t.1; text = t.0.parts ∙ ap (λ (x : List ℕ). spelling version r ++ x) (sym left); length_is = many }

  -- what stands at the front is read
  pub reads : (bytes : List ℕ) (r : Record) (rest : List ℕ) → IsSpelledIn version r → bytes ≡ spelling version r ++ rest → reading version bytes ≡ Ok (r, length (spelling version r))
  reads bytes r rest fits e =
      let many : length bytes - length rest ≡ length (spelling version r) = omega (arith, ap length e, length-append (spelling version r) rest) in
      ap (placed (length bytes)) (ap (record_at version) e ∙ record_again r rest fits) ∙ ap (λ (n : ℕ). Ok (r, n)) many

  -- two spellings at the front of the same bytes are of one record
  pub spelled_once : (this that : Record) (a b : List ℕ) → IsSpelledIn version this → IsSpelledIn version that → spelling version this ++ a ≡ spelling version that ++ b → (this ≡ that) × (a ≡ b)
  spelled_once this that a b f g e =
      let x : Record × List ℕ = (this, a) in
      let y : Record × List ℕ = (that, b) in
      let same : x ≡ y = ok_is x y (sym (record_again this a f) ∙ ap (record_at version) e ∙ record_again that b g) in
      (ap (λ (z : Record × List ℕ). z.0) same, ap (λ (z : Record × List ℕ). z.1) same)

-- ---- versions

short_value : (value : List ℕ) → IsValueIn oldest value → IsValue value
short_value value h = ((h.0.0, omega (arith, h.0.1)), h.1)

short_held : (held : Option (List ℕ)) → IfSome held (IsValueIn oldest) → IfSome held IsValue
short_held None h = tt
short_held (Some value) h = short_value value h

short_changes : (writes : List Written) → AllByRecursion (IsChangeIn oldest) writes → AllByRecursion IsChange writes
short_changes [] h = tt
short_changes (w ∷ writes) h = ((h.0.0, short_held w.value h.0.1), short_changes writes h.1)

short_rows : (rows : List Row) → AllByRecursion (IsRowIn oldest) rows → AllByRecursion IsRow rows
short_rows [] h = tt
short_rows (row ∷ rows) h = ((h.0.0, short_value row.value h.0.1), short_rows rows h.1)

-- a record of the oldest version is one of the newest
pub widened : (item : Record) → IsSpelledIn oldest item → IsSpelled item
widened (Header node generation) h = h
widened (Prepare txn coord count reads writes) h = (h.0, (h.1.0, h.1.1, short_changes writes h.1.2))
widened (Commit txn members) h = h
widened (Abort txn) h = h
widened (End txn) h = h
widened (Checkpoint rows undos committed) h = (h.0, (short_rows rows h.1.0, h.1.1, short_changes undos h.1.2, h.1.3, h.1.4))

one_of_two : (version : ℕ) → IsVersion version → (version ≡ oldest) ⊎ (version ≡ newest)
one_of_two zero h = absurd (omega (arith, h.0))
one_of_two (suc zero) h = inl refl
one_of_two (suc (suc zero)) h = inr refl
one_of_two (suc (suc (suc n))) h = absurd (omega (arith, h.1))

-- a record of a version is one of the newest
pub newest_too : (version : ℕ) → IsVersion version → (item : Record) → IsSpelledIn version item → IsSpelled item
newest_too version is item h =
    elim (one_of_two version is) [
      | inl e ↦ widened item (subst (λ (v : ℕ). IsSpelledIn v item) e h)
      | inr e ↦ subst (λ (v : ℕ). IsSpelledIn v item) e h
    ]
