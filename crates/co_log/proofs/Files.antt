-- The records of a log file after a change at its gate or behind it.
use Rattle.std.proofs.Common.{◌≡◌, ◌≢◌, ℕ, suc, ◌+◌, ◌<◌, ◌≤◌, List, [], ◌∷◌, ◌++◌, length, take, drop, refl, sym, ap, subst, ◌∙◌, append_assoc, arith}
use Rattle.std.specs.Prelude.{Some, slice_get}
use Rattle.std.specs.List.{AllByRecursion}
use Rattle.std.proofs.lemmas.List.{append-nil, take_at, length-append, length-take, take-append-drop}
use Rattle.co_disk.proofs.Gets.{get_take, same_to, same_everywhere}
use Rattle.co_frame.specs.LogText.{IsBatch, gated, batch_text, open_gate, closed_gate}
use Rattle.co_frame.proofs.Texts.{gated_more, each_more}
use Rattle.co_record.specs.declared.record.Record.{Record}
use Rattle.co_record.specs.Format.{newest}
use Rattle.co_record.specs.Spelling.{spelling, IsSpelled}
use Rattle.co_record.specs.Stored.{AreRecords, HoldRecords}
use Rattle.co_log.specs.LogFile.{placed_from, spelled, EndsAt}

-- ---- records

-- spelled records are the records from their place on
pub are_placed : (at : ℕ) (items : List Record) → AllByRecursion IsSpelled items → AreRecords newest at (spelled items) (placed_from at items)
are_placed at [] each = refl
are_placed at (item ∷ items) each = (refl, each.0, (spelled items, refl, are_placed (at + length (spelling newest item)) items each.1))

-- a batch more, behind those that are there
pub hold_more : (version gate from : ℕ) (batches : List (List ℕ)) (batch : List ℕ) (items more : List (ℕ × Record)) → HoldRecords version gate batches items → gate + length (gated batches) + 5 ≡ from → AreRecords version from batch more
    → HoldRecords version gate (batches ++ batch ∷ []) (items ++ more)
hold_more version gate from [] batch items more held e are =
    let first : AreRecords version (gate + 5) batch more = subst (λ (n : ℕ). AreRecords version n batch more) (omega (arith, e)) are in
    (more, [], ap (λ (xs : List (ℕ × Record)). xs ++ more) held ∙ sym (append-nil more), first, refl)
hold_more version gate from (b ∷ bs) batch items more held e are =
    let behind : gate + 5 + length b + length (gated bs) + 5 ≡ from = omega (arith, e, length-append (batch_text b) (gated bs)) in
    (held.0, held.1 ++ more, ap (λ (xs : List (ℕ × Record)). xs ++ more) held.2 ∙ append_assoc held.0 held.1 more, held.3, hold_more version (gate + 5 + length b) from bs batch held.1 more held.4 behind are)

-- ---- files

-- the gate lies within the file
pub gate_within : (bytes : List ℕ) (gate : ℕ) (items : List (ℕ × Record)) → EndsAt bytes gate items → gate < length bytes
gate_within bytes gate items e = omega (arith, e.place, ap (λ (b : List ℕ). length b) e.text.text, length-append (gated e.batches) (e.text.gate ∷ e.text.rest))

same_front : (n : ℕ) (xs ys : List ℕ) → ((place : ℕ) → place < n → slice_get xs place ≡ slice_get ys place) → take n xs ≡ take n ys
same_front n xs ys same =
    same_to (take n xs) (take n ys) n (omega (arith, length-take n xs, length-take n ys)) (λ place lt. get_take n xs place lt ∙ same place lt ∙ sym (get_take n ys place lt))

-- whatever changes behind the gate
pub hidden : (bytes image : List ℕ) (gate : ℕ) (items : List (ℕ × Record)) → EndsAt bytes gate items → ((place : ℕ) → place ≤ gate → slice_get image place ≡ slice_get bytes place) → EndsAt image gate items
hidden bytes image gate items e same =
    let front = gated e.batches ++ e.text.gate ∷ [] in
    let whole : bytes ≡ front ++ e.text.rest = e.text.text ∙ sym (append_assoc (gated e.batches) (e.text.gate ∷ []) e.text.rest) in
    let long : length front ≡ gate + 1 = omega (arith, e.place, length-append (gated e.batches) (e.text.gate ∷ [])) in
    let taken : take (gate + 1) bytes ≡ front = ap (take (gate + 1)) whole ∙ take_at front e.text.rest (gate + 1) long in
    let kept : take (gate + 1) image ≡ front = same_front (gate + 1) image bytes (λ place lt. same place (omega arith)) ∙ taken in
    let both : image ≡ front ++ drop (gate + 1) image = sym (take-append-drop (gate + 1) image) ∙ ap (λ (t : List ℕ). t ++ drop (gate + 1) image) kept in
    record {
      batches = e.batches;
      text = record { each = e.text.each; gate = e.text.gate; rest = drop (gate + 1) image; closed = e.text.closed; text = both ∙ append_assoc (gated e.batches) (e.text.gate ∷ []) (drop (gate + 1) image) };
      place = e.place;
      holds = e.holds;
    }

-- a text that has another byte at one place
pub one_byte : (front rest image : List ℕ) (g : ℕ) → length image ≡ length (front ++ g ∷ rest) → ((place : ℕ) → place ≢ length front → slice_get image place ≡ slice_get (front ++ g ∷ rest) place) → (x : ℕ) × (image ≡ front ++ x ∷ rest)
one_byte [] rest [] g long same = absurd (omega (arith, long))
one_byte [] rest (x ∷ image) g long same = (x, ap (λ (t : List ℕ). x ∷ t) (same_everywhere image rest (λ place. same (suc place) (λ e. omega (arith, e)))))
one_byte (f ∷ front) rest [] g long same = absurd (omega (arith, long))
one_byte (f ∷ front) rest (y ∷ image) g long same =
    let first : Some y ≡ Some f = same 0 (λ e. omega (arith, e)) in
    let head : y ≡ f = cc in
    let more = one_byte front rest image g (omega (arith, long)) (λ place other. same (suc place) (λ e. other (omega (arith, e)))) in
    (more.0, ap (λ (b : ℕ). b ∷ image) head ∙ ap (λ (t : List ℕ). f ∷ t) more.1)

-- the gate in front of a batch: open it adds the records of the batch, and else the file is as before
pub gate_opens : (batches : List (List ℕ)) (gate : ℕ) (items : List (ℕ × Record)) (more : List Record) (rest image : List ℕ) → AllByRecursion IsBatch batches → HoldRecords newest 0 batches items → gate ≡ length (gated batches)
    → AllByRecursion IsSpelled more → IsBatch (spelled more) → image ≡ gated batches ++ open_gate ∷ (batch_text (spelled more) ++ closed_gate ∷ rest)
    → EndsAt image (gate + 5 + length (spelled more)) (items ++ placed_from (gate + 5) more)
gate_opens batches gate items more rest image each held place these one is =
    record {
      batches = batches ++ spelled more ∷ [];
      text = record {
        each = each_more batches (spelled more) each one;
        gate = closed_gate;
        rest = rest;
        closed = λ e. omega (arith, e);
        text = is ∙ sym (gated_more batches (spelled more) (closed_gate ∷ rest));
      };
      place = omega (arith, place, ap (λ (t : List ℕ). length t) (gated_more batches (spelled more) []), length-append (gated (batches ++ spelled more ∷ [])) [], length-append (gated batches) (open_gate ∷ (batch_text (spelled more) ++ [])), length-append (batch_text (spelled more)) []);
      holds = hold_more newest 0 (gate + 5) batches (spelled more) items (placed_from (gate + 5) more) held (omega (arith, place)) (are_placed (gate + 5) more these);
    }

pub gate_stays : (batches : List (List ℕ)) (gate x : ℕ) (items : List (ℕ × Record)) (rest image : List ℕ) → AllByRecursion IsBatch batches → HoldRecords newest 0 batches items → gate ≡ length (gated batches) → x ≢ open_gate → image ≡ gated batches ++ x ∷ rest
    → EndsAt image gate items
gate_stays batches gate x items rest image each held place closed is =
    record { batches = batches; text = record { each = each; gate = x; rest = rest; closed = closed; text = is }; place = place; holds = held }

pub all_both : (P : Record → Type 0) (xs ys : List Record) → AllByRecursion P xs → AllByRecursion P ys → AllByRecursion P (xs ++ ys)
all_both P [] ys f g = g
all_both P (x ∷ xs) ys f g = (f.0, all_both P xs ys f.1 g)
