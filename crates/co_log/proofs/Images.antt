-- The images of a disk at the device calls of a log write, read as log files.
use Rattle.std.proofs.Common.{◌≡◌, ◌≢◌, ℕ, zero, suc, ◌+◌, ◌<◌, ◌≤◌, Bool, true, false, List, [], ◌∷◌, ◌++◌, length, take, drop, refl, sym, ap, subst, ◌∙◌, append_assoc, arith, inl, inr}
use Rattle.std.specs.Prelude.{Some, slice_get, nat_lt, nat_le, ◌==◌, if◌then◌else◌, ◌&&◌, ◌||◌}
use Rattle.std.specs.List.{AllByRecursion}
use Rattle.std.proofs.lemmas.Bool.{cases_Bool, cases_lt}
use Rattle.std.proofs.lemmas.Bool.Decides.{nat_tests}
use Rattle.std.proofs.lemmas.List.{take_at, length-append}
use Rattle.co_base.specs.declared.leaves.Leaves.{Leaves}
use Rattle.co_base.specs.declared.leaves.Leaves.TheVariants.{Old, New, Filled}
use Rattle.co_outside.specs.Overlay.{overlaid}
use Rattle.co_disk.specs.DiskModel.{IsImage, IsChosen, IsSound, read_of, stable_disk, touched_before, or_else, left_at}
use Rattle.co_disk.proofs.Images.{chosen_is_image, sound_more}
use Rattle.co_disk.proofs.Gets.{get_right, get_past, length_overlaid, length_take}
use Rattle.co_frame.specs.LogText.{IsBatch, gated, batch_text, open_gate, closed_gate}
use Rattle.co_record.specs.declared.record.Record.{Record}
use Rattle.co_record.specs.declared.record.Record.TheVariants.{Header, Prepare, Commit, Abort, End, Checkpoint}
use Rattle.co_record.specs.Format.{newest}
use Rattle.co_record.specs.Spelling.{spelling, IsSpelled}
use Rattle.co_log.specs.LogFile.{spelled, EndsAt, EndsAfter, OldOrBoth, opened}
use Rattle.co_log.specs.BatchWrite.{closed_batch, batch_pending, gate_pending, disk_at}
use Rattle.co_frame.specs.Gate.{opens_gate, batch_is_stable}
use Rattle.co_log.proofs.Files.{hidden, one_byte, gate_opens, gate_stays, gate_within}

-- ---- the batch behind the gate

-- what stands in front, with the gate
front_taken : (bytes : List ℕ) (gate : ℕ) (items : List (ℕ × Record)) (e : EndsAt bytes gate items) → take (gate + 1) bytes ≡ gated e.batches ++ e.text.gate ∷ []
front_taken bytes gate items e =
    let front = gated e.batches ++ e.text.gate ∷ [] in
    let whole : bytes ≡ front ++ e.text.rest = e.text.text ∙ sym (append_assoc (gated e.batches) (e.text.gate ∷ []) e.text.rest) in
    let long : length front ≡ gate + 1 = omega (arith, e.place, length-append (gated e.batches) (e.text.gate ∷ [])) in
    ap (take (gate + 1)) whole ∙ take_at front e.text.rest (gate + 1) long

-- the file with the batch behind its gate
pub laid : (bytes : List ℕ) (gate : ℕ) (items : List (ℕ × Record)) (more : List Record) (e : EndsAt bytes gate items)
    → (rest : List ℕ) × (read_of (batch_pending bytes gate (closed_batch more)) ≡ gated e.batches ++ e.text.gate ∷ (batch_text (spelled more) ++ closed_gate ∷ rest))
laid bytes gate items more e =
    let text = closed_batch more in
    let rest = drop (gate + 1 + length text) bytes in
    let start : overlaid bytes (gate + 1) text ≡ (gated e.batches ++ e.text.gate ∷ []) ++ text ++ rest = ap (λ (t : List ℕ). t ++ text ++ rest) (front_taken bytes gate items e) in
    let one : (gated e.batches ++ e.text.gate ∷ []) ++ text ++ rest ≡ (gated e.batches ++ e.text.gate ∷ []) ++ (text ++ rest) = append_assoc (gated e.batches ++ e.text.gate ∷ []) text rest in
    let two : (gated e.batches ++ e.text.gate ∷ []) ++ (text ++ rest) ≡ gated e.batches ++ e.text.gate ∷ (text ++ rest) = append_assoc (gated e.batches) (e.text.gate ∷ []) (text ++ rest) in
    let three : text ++ rest ≡ batch_text (spelled more) ++ closed_gate ∷ rest = append_assoc (batch_text (spelled more)) (closed_gate ∷ []) rest in
    (rest, start ∙ one ∙ two ∙ ap (λ (t : List ℕ). gated e.batches ++ e.text.gate ∷ t) three)

uncovered_below : (at place : ℕ) (piece : List ℕ) → place < at → (nat_le at place && nat_lt place (at + length piece)) || false ≡ false
uncovered_below at place piece lt =
    let h : nat_le at place ≡ false = grind (arith, nat_tests) in
    ap (λ (b : Bool). (b && nat_lt place (at + length piece)) || false) h

-- at calls 1 and 2 every image has the old records
pub batch_images : (bytes image : List ℕ) (gate : ℕ) (items : List (ℕ × Record)) (batch : List ℕ) → EndsAt bytes gate items → IsImage (batch_pending bytes gate batch) image → EndsAt image gate items
batch_images bytes image gate items batch e i =
    let within = gate_within bytes gate items e in
    hidden bytes image gate items e (λ place le. i.untouched place (omega arith) (uncovered_below (gate + 1) place batch (omega arith)))

-- ---- the gate

uncovered_else : (at place : ℕ) → place ≢ at → (nat_le at place && nat_lt place (at + 1)) || false ≡ false
uncovered_else at place other = elim (cases_lt place at) [
  | inl lt ↦ uncovered_below at place (0 ∷ []) lt
  | inr le ↦
      let h : nat_lt place (at + 1) ≡ false = let far : at + 1 ≤ place = omega (arith, other) in grind (arith, nat_tests) in
      let k : nat_le at place ≡ true = grind (arith, nat_tests) in
      ap (λ (b : Bool). (nat_le at place && b) || false) h ∙ ap (λ (b : Bool). (b && false) || false) k
]

-- at calls 3 and 4 every image has one byte for the gate, and else what is stable
pub gate_images : (bytes image : List ℕ) (gate : ℕ) (items : List (ℕ × Record)) (more : List Record) (e : EndsAt bytes gate items) → IsImage (gate_pending bytes gate (closed_batch more)) image
    → (x : ℕ) × (rest : List ℕ) × (image ≡ gated e.batches ++ x ∷ (batch_text (spelled more) ++ closed_gate ∷ rest))
gate_images bytes image gate items more e i =
    let stable = read_of (batch_pending bytes gate (closed_batch more)) in
    let it = laid bytes gate items more e in
    let behind = batch_text (spelled more) ++ closed_gate ∷ it.0 in
    let many : length stable ≡ length (gated e.batches ++ e.text.gate ∷ behind) = ap (λ (t : List ℕ). length t) it.1 in
    let within : gate < length stable = omega (arith, e.place, many, length-append (gated e.batches) (e.text.gate ∷ behind)) in
    let long : length image ≡ length stable = omega (arith, i.no_shorter, i.no_longer, length_overlaid stable gate (open_gate ∷ []) (omega arith)) in
    let same : (place : ℕ) → place ≢ gate → slice_get image place ≡ slice_get stable place = λ place other. elim (cases_lt place (length stable)) [
      | inl lt ↦ i.untouched place lt (uncovered_else gate place other)
      | inr le ↦ get_past image place (omega (arith, long)) ∙ sym (get_past stable place le)
    ] in
    let found = one_byte (gated e.batches) behind image e.text.gate (long ∙ many) (λ place other. same place (λ is. other (is ∙ e.place)) ∙ ap (λ (t : List ℕ). slice_get t place) it.1) in
    (found.0, it.0, found.1)

is_open : (x : ℕ) → (x == open_gate) ≡ true → x ≡ open_gate
is_open x e = grind (arith, nat_tests)

is_closed : (x : ℕ) → (x == open_gate) ≡ false → x ≢ open_gate
is_closed x e same = absurd (let h : true ≡ false = sym (ap (λ (y : ℕ). y == open_gate) same) ∙ e in cc)

pub old_or_both : (bytes image : List ℕ) (gate : ℕ) (items : List (ℕ × Record)) (more : List Record) → EndsAt bytes gate items → AllByRecursion IsSpelled more → IsBatch (spelled more) → IsImage (gate_pending bytes gate (closed_batch more)) image → OldOrBoth image gate items more
old_or_both bytes image gate items more e these one i =
    let it = gate_images bytes image gate items more e i in
    elim (cases_Bool (it.0 == open_gate)) [
      | inl open' ↦ inr (gate_opens e.batches gate items more it.1 image e.text.each e.holds e.place these one (it.2 ∙ ap (λ (x : ℕ). gated e.batches ++ x ∷ (batch_text (spelled more) ++ closed_gate ∷ it.1)) (is_open it.0 open')))
      | inr shut ↦ inl (gate_stays e.batches gate it.0 items (batch_text (spelled more) ++ closed_gate ∷ it.1) image e.text.each e.holds e.place (is_closed it.0 shut) it.2)
    ]

-- ---- the chosen image

get_at : (front rest : List ℕ) (x place : ℕ) → place ≡ length front → slice_get (front ++ x ∷ rest) place ≡ Some x
get_at front rest x place e =
    ap (slice_get (front ++ x ∷ rest)) (let h : place ≡ length front + 0 = omega (arith, e) in h) ∙ get_right front (x ∷ rest) 0

none_before : (bytes : List ℕ) (gate : ℕ) (batch : List ℕ) (n : ℕ) → n ≤ gate → touched_before (gate_pending bytes gate batch) n ≡ 0
none_before bytes gate batch zero le = refl
none_before bytes gate batch (suc n) le =
    let disk = gate_pending bytes gate batch in
    ap (λ (b : Bool). if b then touched_before disk n + 1 else touched_before disk n) (uncovered_below gate n (open_gate ∷ []) (omega arith)) ∙ none_before bytes gate batch n (omega arith)

covered_here : (gate : ℕ) → (nat_le gate gate && nat_lt gate (gate + 1)) || false ≡ true
covered_here gate =
    let h : nat_le gate gate ≡ true = grind (arith, nat_tests) in
    let k : nat_lt gate (gate + 1) ≡ true = grind (arith, nat_tests) in
    ap (λ (b : Bool). (b && nat_lt gate (gate + 1)) || false) h ∙ ap (λ (b : Bool). b || false) k

-- the byte that a choice leaves for the gate
abbrev gate_byte : ℕ → Leaves → ℕ
gate_byte x Old = x
gate_byte x New = open_gate
gate_byte x (Filled []) = x
gate_byte x (Filled (b ∷ bytes)) = b

left_gate : (bytes : List ℕ) (gate x : ℕ) (batch : List ℕ) (leaves : Leaves) → slice_get (read_of (batch_pending bytes gate batch)) gate ≡ Some x → gate ≤ length (read_of (batch_pending bytes gate batch)) → left_at (gate_pending bytes gate batch) leaves gate ≡ Some (gate_byte x leaves)
left_gate bytes gate x batch Old is within = is
left_gate bytes gate x batch New is within =
    let stable = read_of (batch_pending bytes gate batch) in
    ap (λ (t : List ℕ). slice_get t gate) (append_assoc (take gate stable) (open_gate ∷ []) (drop (gate + 1) stable)) ∙ get_at (take gate stable) (drop (gate + 1) stable) open_gate gate (sym (length_take gate stable within))
left_gate bytes gate x batch (Filled f) is within =
    let disk = gate_pending bytes gate batch in
    let here : left_at disk (Filled f) gate ≡ or_else (slice_get f (touched_before disk gate)) (slice_get disk.stable gate) = ap (λ (b : Bool). if b then or_else (slice_get f (touched_before disk gate)) (slice_get disk.stable gate) else slice_get disk.stable gate) (covered_here gate) in
    let first : or_else (slice_get f (touched_before disk gate)) (slice_get disk.stable gate) ≡ or_else (slice_get f 0) (Some x) = ap (λ (n : ℕ). or_else (slice_get f n) (slice_get disk.stable gate)) (none_before bytes gate batch gate (omega arith)) ∙ ap (or_else (slice_get f 0)) is in
    here ∙ first ∙ by_fill f
  where
    by_fill : (f : List ℕ) → or_else (slice_get f 0) (Some x) ≡ Some (gate_byte x (Filled f))
    by_fill [] = refl
    by_fill (b ∷ f) = refl

byte_opens : (x : ℕ) (leaves : Leaves) → x ≢ open_gate → (gate_byte x leaves == open_gate) ≡ opens_gate leaves
byte_opens x Old shut = elim (cases_Bool (x == open_gate)) [ inl e ↦ absurd (shut (is_open x e)) | inr e ↦ e ]
byte_opens x New shut = refl
byte_opens x (Filled []) shut = elim (cases_Bool (x == open_gate)) [ inl e ↦ absurd (shut (is_open x e)) | inr e ↦ e ]
byte_opens x (Filled (b ∷ bytes)) shut = refl

some_byte : (x y : ℕ) → Some x ≡ Some y → x ≡ y
some_byte x y e = cc

sound_batch : (bytes : List ℕ) (gate : ℕ) (batch : List ℕ) → gate < length bytes → IsSound (gate_pending bytes gate batch)
sound_batch bytes gate batch lt =
    let stable = read_of (batch_pending bytes gate batch) in
    let long = length_overlaid bytes (gate + 1) batch (omega arith) in
    sound_more (stable_disk stable) gate (open_gate ∷ []) tt (omega (arith, long))

-- the chosen image of a gate that is being opened: its byte, and its records
pub chosen_gate : (bytes image : List ℕ) (gate : ℕ) (items : List (ℕ × Record)) (more : List Record) (leaves : Leaves) → EndsAt bytes gate items → AllByRecursion IsSpelled more → IsBatch (spelled more) → IsChosen (gate_pending bytes gate (closed_batch more)) leaves image
    → (opened (slice_get image gate) ≡ opens_gate leaves) × EndsAfter (opens_gate leaves) image gate items more
chosen_gate bytes image gate items more leaves e these one chosen =
    let disk = gate_pending bytes gate (closed_batch more) in
    let it = gate_images bytes image gate items more e (chosen_is_image disk leaves image (sound_batch bytes gate (closed_batch more) (gate_within bytes gate items e)) chosen) in
    let before = laid bytes gate items more e in
    let behind = batch_text (spelled more) ++ closed_gate ∷ before.0 in
    let kept : slice_get (read_of (batch_pending bytes gate (closed_batch more))) gate ≡ Some e.text.gate = ap (λ (t : List ℕ). slice_get t gate) before.1 ∙ get_at (gated e.batches) behind e.text.gate gate e.place in
    let within : gate ≤ length (read_of (batch_pending bytes gate (closed_batch more))) = omega (arith, e.place, ap (λ (t : List ℕ). length t) before.1, length-append (gated e.batches) (e.text.gate ∷ behind)) in
    let byte : Some it.0 ≡ Some (gate_byte e.text.gate leaves) = sym (ap (λ (t : List ℕ). slice_get t gate) it.2 ∙ get_at (gated e.batches) (batch_text (spelled more) ++ closed_gate ∷ it.1) it.0 gate e.place) ∙ chosen gate ∙ left_gate bytes gate e.text.gate (closed_batch more) leaves kept within in
    let opens : (it.0 == open_gate) ≡ opens_gate leaves = ap (λ (y : ℕ). y == open_gate) (some_byte it.0 (gate_byte e.text.gate leaves) byte) ∙ byte_opens e.text.gate leaves e.text.closed in
    let found : slice_get image gate ≡ Some it.0 = ap (λ (t : List ℕ). slice_get t gate) it.2 ∙ get_at (gated e.batches) (batch_text (spelled more) ++ closed_gate ∷ it.1) it.0 gate e.place in
    let ends : EndsAfter (it.0 == open_gate) image gate items more = elim (cases_Bool (it.0 == open_gate)) [
      | inl yes' ↦ subst (λ (b : Bool). EndsAfter b image gate items more) (sym yes') (gate_opens e.batches gate items more it.1 image e.text.each e.holds e.place these one (it.2 ∙ ap (λ (x : ℕ). gated e.batches ++ x ∷ (batch_text (spelled more) ++ closed_gate ∷ it.1)) (is_open it.0 yes')))
      | inr shut ↦ subst (λ (b : Bool). EndsAfter b image gate items more) (sym shut) (gate_stays e.batches gate it.0 items (batch_text (spelled more) ++ closed_gate ∷ it.1) image e.text.each e.holds e.place (is_closed it.0 shut) it.2)
    ] in
    (ap opened found ∙ opens, subst (λ (b : Bool). EndsAfter b image gate items more) opens ends)

-- the gate of a file that ends there is not open
pub shut_gate : (bytes : List ℕ) (gate : ℕ) (items : List (ℕ × Record)) → EndsAt bytes gate items → opened (slice_get bytes gate) ≡ false
shut_gate bytes gate items e =
    let found : slice_get bytes gate ≡ Some e.text.gate = ap (λ (t : List ℕ). slice_get t gate) e.text.text ∙ get_at (gated e.batches) e.text.rest e.text.gate gate e.place in
    let shut : (e.text.gate == open_gate) ≡ false = elim (cases_Bool (e.text.gate == open_gate)) [ inl o ↦ absurd (e.text.closed (is_open e.text.gate o)) | inr o ↦ o ] in
    ap opened found ∙ shut

-- the chosen image of a disk at a device call of a log write: the byte of its gate, and its records
pub chosen_at : (call : ℕ) (bytes image : List ℕ) (gate : ℕ) (items : List (ℕ × Record)) (more : List Record) (leaves : Leaves) → EndsAt bytes gate items → AllByRecursion IsSpelled more → IsBatch (spelled more) → IsChosen (disk_at call bytes gate (closed_batch more)) leaves image
    → (opened (slice_get image gate) ≡ batch_is_stable call leaves) × EndsAfter (batch_is_stable call leaves) image gate items more
chosen_at call bytes image gate items more leaves e these one chosen = elim (cases_Bool (nat_le call 2)) [
  | inl few ↦
      let disk = batch_pending bytes gate (closed_batch more) in
      let at : IsChosen disk leaves image = subst (λ (b : Bool). IsChosen (if b then disk else gate_pending bytes gate (closed_batch more)) leaves image) few chosen in
      let ends = batch_images bytes image gate items (closed_batch more) e (chosen_is_image disk leaves image (sound_more (stable_disk bytes) (gate + 1) (closed_batch more) tt (let w = gate_within bytes gate items e in omega (arith, w))) at) in
      let early : nat_le 3 call ≡ false = grind (arith, nat_tests) in
      let is : batch_is_stable call leaves ≡ false = ap (λ (b : Bool). b && opens_gate leaves) early in
      (shut_gate image gate items ends ∙ sym is, subst (λ (b : Bool). EndsAfter b image gate items more) (sym is) ends)
  | inr many ↦
      let disk = gate_pending bytes gate (closed_batch more) in
      let at : IsChosen disk leaves image = subst (λ (b : Bool). IsChosen (if b then batch_pending bytes gate (closed_batch more) else disk) leaves image) many chosen in
      let both = chosen_gate bytes image gate items more leaves e these one at in
      let late : nat_le 3 call ≡ true = grind (arith, nat_tests) in
      let is : batch_is_stable call leaves ≡ opens_gate leaves = ap (λ (b : Bool). b && opens_gate leaves) late in
      (both.0 ∙ sym is, subst (λ (b : Bool). EndsAfter b image gate items more) (sym is) both.1)
]

-- after the whole write the file has the old records and the new ones
pub written_whole : (bytes : List ℕ) (gate : ℕ) (items : List (ℕ × Record)) (more : List Record) → EndsAt bytes gate items → AllByRecursion IsSpelled more → IsBatch (spelled more)
    → EndsAfter true (read_of (gate_pending bytes gate (closed_batch more))) gate items more
written_whole bytes gate items more e these one = (chosen_gate bytes (read_of (gate_pending bytes gate (closed_batch more))) gate items more New e these one (λ place. refl)).1

-- a record has a spelling of at least one byte
pub some_bytes : (items : List Record) → 0 < length items → 1 ≤ length (spelled items)
some_bytes [] some = absurd (omega arith)
some_bytes (item ∷ items) some = omega (arith, some_spelling item, length-append (spelling newest item) (spelled items))
  where
    some_spelling : (item : Record) → 1 ≤ length (spelling newest item)
    some_spelling (Header node generation) = omega arith
    some_spelling (Prepare txn coord count reads writes) = omega arith
    some_spelling (Commit txn members) = omega arith
    some_spelling (Abort txn) = omega arith
    some_spelling (End txn) = omega arith
    some_spelling (Checkpoint rows undos committed) = omega arith
