-- Batches as they are read at the start.
use Rattle.std.proofs.Common.{◌≡◌, ◌≢◌, ℕ, ◌+◌, ◌<◌, List, [], ◌∷◌, ◌++◌, length, drop, refl, sym, ap, subst, ◌∙◌, append_assoc, arith, inl, inr}
use Rattle.std.specs.Prelude.{Option, Some, None}
use Rattle.std.proofs.lemmas.List.{append-nil, length-append}
use Rattle.co_base.specs.declared.node.Node.{Node}
use Rattle.co_record.specs.declared.record.Record.{Record}
use Rattle.co_record.specs.declared.record.Record.TheVariants.{Header}
use Rattle.co_record.specs.Lent.{StandsAt}
use Rattle.co_record.specs.Format.{IsVersion}
use Rattle.co_record.specs.Spelling.{spelling, IsSpelledIn}
use Rattle.co_record.specs.Stored.{AreRecords}
use Rattle.co_frame.specs.LogText.{GateWalk, HasPassed, IsLogText, IsBatch, gated}
use Rattle.co_record.specs.Stored.{HoldRecords}
use Rattle.co_log.proofs.Files.{hold_more}
use Rattle.co_log.specs.Scanning.{IsFound, IsHeaded, IsReadTo, IsUnreadable, IsScanned, IsLogFileIn, IsBadBatch}

module _ (version : ℕ) where
  -- one record more, behind those that are there
  are_more : (at : ℕ) (front : List ℕ) (items : List (ℕ × Record)) (item : Record) → AreRecords version at front items → IsSpelledIn version item → AreRecords version at (front ++ spelling version item) (items ++ (at + length front, item) ∷ [])
  are_more at front [] item are spelled' =
      let none : front ≡ [] = are in
      let place : at + length front ≡ at = omega (arith, ap (λ (b : List ℕ). length b) none) in
      (place, spelled', ([], ap (λ (b : List ℕ). b ++ spelling version item) none ∙ sym (append-nil (spelling version item)), refl))
  are_more at front (x ∷ items) item are spelled' =
      let rest = are.2.0 in
      let text = are.2.1 in
      let there : at + length front ≡ at + length (spelling version x.1) + length rest = omega (arith, ap (λ (b : List ℕ). length b) text, length-append (spelling version x.1) rest) in
      let more = are_more (at + length (spelling version x.1)) rest items item are.2.2 spelled' in (
        are.0,
        are.1,
        (
          rest ++ spelling version item,
          ap (λ (b : List ℕ). b ++ spelling version item) text ∙ append_assoc (spelling version x.1) rest (spelling version item),
          subst (λ (n : ℕ). AreRecords version (at + length (spelling version x.1)) (rest ++ spelling version item) (items ++ (n, item) ∷ [])) (sym there) more,
        ),
      )

  headed_more : (node : Node) (at place : ℕ) (before : Option ℕ) (front : List ℕ) (items : List (ℕ × Record)) (item : Record) (found next : Option ℕ) → AreRecords version at front items → place ≡ at + length front → IsHeaded node at before items found → IsFound node found item next
      → IsHeaded node at before (items ++ (place, item) ∷ []) next
  headed_more node at place (Some g) front items item found next are e headed f = subst (λ (o : Option ℕ). IsFound node o item next) headed f
  headed_more node at place None front [] item found next are e headed f =
      let one : (g : ℕ) × (item ≡ Header node g) × (next ≡ Some g) = subst (λ (o : Option ℕ). IsFound node o item next) headed f in
      let none : front ≡ [] = are in
      let here : place ≡ at = omega (arith, e, ap (λ (b : List ℕ). length b) none) in
      (one.0, ap (λ (n : ℕ). let x : ℕ × Record = (n, item) in x) here ∙ ap (λ (r : Record). let x : ℕ × Record = (at, r) in x) one.1, one.2)
  headed_more node at place None front (x ∷ items) item found next are e headed f =
      (headed.0, headed.1, subst (λ (o : Option ℕ). IsFound node o item next) headed.2 f)

  pub read_first : (node : Node) (at : ℕ) (batch : List ℕ) (before : Option ℕ) → IsReadTo version node at batch before batch at before
  read_first node at batch before = record { front = []; items = []; both = refl; are = refl; place_is = omega arith; headed = start before }
    where
      start : (b : Option ℕ) → IsHeaded node at b [] b
      start None = refl
      start (Some g) = refl

  pub read_next : (node : Node) (at : ℕ) (batch : List ℕ) (before : Option ℕ) (rest : List ℕ) (place : ℕ) (found next : Option ℕ) (item : Record) (count : ℕ) → IsReadTo version node at batch before rest place found → StandsAt version rest item count → IsFound node found item next
      → IsReadTo version node at batch before (drop count rest) (place + count) next
  read_next node at batch before rest place found next item count r s f = record {
    front = r.front ++ spelling version item;
    items = r.items ++ (place, item) ∷ [];
    both = r.both ∙ ap (λ (b : List ℕ). r.front ++ b) s.text ∙ sym (append_assoc r.front (spelling version item) (drop count rest));
    are = subst (λ (n : ℕ). AreRecords version at (r.front ++ spelling version item) (r.items ++ (n, item) ∷ [])) (sym r.place_is) (are_more at r.front r.items item r.are s.spelled);
    place_is = omega (arith, r.place_is, s.length_is, length-append r.front (spelling version item));
    headed = headed_more node at place before r.front r.items item found next r.are r.place_is r.headed f;
  }

  -- ---- whole files

  pub scan_first : (node : Node) (bytes : List ℕ) → IsScanned version node (let w : GateWalk = record { source = bytes; at = 0 } in w) None
  scan_first node bytes = record { batches = []; items = []; passed = record { each = tt; text = refl; place = refl }; holds = refl; headed = refl; start = λ e. refl }

  headed_both : (node : Node) (at : ℕ) (items more : List (ℕ × Record)) (found next : Option ℕ) → (found ≡ None → at ≡ 5) → IsHeaded node 5 None items found → IsHeaded node at found more next → IsHeaded node 5 None (items ++ more) next
  headed_both node at [] more found next here headed h =
      let h' : IsHeaded node at None more next = subst (λ (o : Option ℕ). IsHeaded node at o more next) headed h in
      subst (λ (n : ℕ). IsHeaded node n None more next) (here headed) h'
  headed_both node at (x ∷ items) more found next here headed h =
      (headed.0, headed.1, subst (λ (o : Option ℕ). IsHeaded node at o more next) headed.2 h)

  -- a batch that was read has a header in front of it, or in it
  has_header : (node : Node) (at : ℕ) (batch : List ℕ) (before found : Option ℕ) (items : List (ℕ × Record)) → 0 < length batch → AreRecords version at batch items → IsHeaded node at before items found → found ≢ None
  has_header node at batch (Some g) found items some are headed none = absurd (let h : Some g ≡ None = sym headed ∙ none in cc)
  has_header node at batch None found [] some are headed none = omega (arith, some, ap (λ (b : List ℕ). length b) (let e : batch ≡ [] = are in e))
  has_header node at batch None found (x ∷ items) some are headed none = absurd (let h : Some headed.0 ≡ None = sym headed.2 ∙ none in cc)

  pub scan_next : (node : Node) (walk next : GateWalk) (found later : Option ℕ) (at : ℕ) (batch : List ℕ) (place : ℕ) (s : IsScanned version node walk found) → HasPassed next (s.batches ++ batch ∷ []) → IsBatch batch → at ≡ walk.at + 5 → IsReadTo version node at batch found [] place later
      → IsScanned version node next later
  scan_next node walk next found later at batch place s passed one here read =
      let whole : batch ≡ read.front = read.both ∙ append-nil read.front in
      let are : AreRecords version at batch read.items = subst (λ (b : List ℕ). AreRecords version at b read.items) (sym whole) read.are in
      let first : found ≡ None → at ≡ 5 = λ e. omega (arith, here, s.passed.place, ap (λ (bs : List (List ℕ)). length (gated bs)) (s.start e)) in
      record {
        batches = s.batches ++ batch ∷ [];
        items = s.items ++ read.items;
        passed = passed;
        holds = hold_more version 0 at s.batches batch s.items read.items s.holds (omega (arith, here, s.passed.place)) are;
        headed = headed_both node at s.items read.items found later first s.headed read.headed;
        start = λ e. absurd (has_header node at batch found later read.items (omega (arith, one.0)) are read.headed e);
      }

  none_some : {A : Type 0} (x : A) → None ≡ Some x → ⊥
  none_some x e = cc

  -- a file that is read to its last gate
  pub scan_last : IsVersion version → (node : Node) (walk : GateWalk) (found : Option ℕ) (s : IsScanned version node walk found) → IsLogText walk.source s.batches → IsLogFileIn version node walk.source walk.at found
  scan_last known node walk None s text =
      let none = s.start refl in
      (subst (λ (bs : List (List ℕ)). IsLogText walk.source bs) none text, s.passed.place ∙ ap (λ (bs : List (List ℕ)). length (gated bs)) none)
  scan_last known node walk (Some g) s text = with_items s.items s.holds s.headed
    where
      with_items : (items : List (ℕ × Record)) → HoldRecords version 0 s.batches items → IsHeaded node 5 None items (Some g) → IsLogFileIn version node walk.source walk.at (Some g)
      with_items [] holds headed = absurd (none_some g (sym headed))
      with_items (x ∷ items) holds headed =
          let same : headed.0 ≡ g = let e : Some g ≡ Some headed.0 = headed.2 in cc in
          let first : x ≡ (let y : ℕ × Record = (5, Header node g) in y) = headed.1 ∙ ap (λ (n : ℕ). let y : ℕ × Record = (5, Header node n) in y) same in
          elim text [
            | inl a ↦ absurd (let none : x ∷ items ≡ [] = subst (λ (bs : List (List ℕ)). HoldRecords version 0 bs (x ∷ items)) a.1 holds in cc)
            | inr a ↦ (items, known, record { batches = s.batches; text = a.1; place = s.passed.place; holds = subst (λ (y : ℕ × Record). HoldRecords version 0 s.batches (y ∷ items)) first holds })
          ]

  pub bad_batch : (node : Node) (walk next : GateWalk) (found : Option ℕ) (at : ℕ) (batch : List ℕ) (place : ℕ) (s : IsScanned version node walk found) → HasPassed next (s.batches ++ batch ∷ []) → next.source ≡ walk.source → at ≡ walk.at + 5 → next.at ≡ at + length batch
      → IsUnreadable version node at batch found place → IsBadBatch version node walk.source place
  bad_batch node walk next found at batch place s passed source here there bad =
      let same : next ≡ (let w : GateWalk = record { source = walk.source; at = walk.at + 5 + length batch } in w) =
      ap (λ (b : List ℕ). let w : GateWalk = record { source = b; at = next.at } in w) source ∙ ap (λ (n : ℕ). let w : GateWalk = record { source = walk.source; at = n } in w) (there ∙ ap (λ (n : ℕ). n + length batch) here) in
      record {
        gate = walk.at;
        batch = batch;
        found = found;
        scanned = s;
        behind = subst (λ (w : GateWalk). HasPassed w (s.batches ++ batch ∷ [])) same passed;
        unreadable = subst (λ (n : ℕ). IsUnreadable version node n batch found place) here bad;
      }
