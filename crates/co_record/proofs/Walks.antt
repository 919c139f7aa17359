-- A walk over the records of a log text, step by step.
use Rattle.std.proofs.Common.{◌≡◌, ℕ, ◌+◌, ◌<◌, ◌≤◌, List, [], ◌∷◌, ◌++◌, length, drop, Some, Result, Ok, Err, refl, sym, ap, subst, ◌∙◌, append_assoc, arith}
use Rattle.std.proofs.lemmas.List.{append-nil, append_cancel_left, drop_at}
use Rattle.co_frame.specs.LogText.{GateWalk, HasPassed, IsLogText, IsBrokenAt, Tells}
use Rattle.co_frame.specs.declared.fault.FrameFault.{FrameFault}
use Rattle.co_frame.specs.declared.fault.FrameFault.TheVariants.{Broken}
use Rattle.co_record.specs.Format.{newest}
use Rattle.co_frame.proofs.Texts.{reads_once, reads_or_breaks, passed_first}
use Rattle.co_record.specs.declared.fault.RecordFault.{RecordFault}
use Rattle.co_record.specs.declared.record.Record.{Record}
use Rattle.co_record.specs.declared.record.Record.TheVariants.{Header, Prepare, Commit, Abort, End, Checkpoint}
use Rattle.co_record.specs.Spelling.{spelling, IsSpelledIn}
use Rattle.co_record.specs.Stored.{AreRecords, HoldRecords, HasRecords, RecordWalk, HasLeft, version_of, version_in}

abbrev pub walk_of : ℕ → GateWalk → ℕ → List ℕ → RecordWalk
walk_of version gates at rest = record { version = version; gates = gates; at = at; rest = rest }

module _ (version : ℕ) where
  -- a spelling version has at least its kind
  spelled_some : (r : Record) (rest : List ℕ) → [] ≡ spelling version r ++ rest → ⊥
  spelled_some (Header node generation) rest e = cc
  spelled_some (Prepare txn coord count reads writes) rest e = cc
  spelled_some (Commit txn members) rest e = cc
  spelled_some (Abort txn) rest e = cc
  spelled_some (End txn) rest e = cc
  spelled_some (Checkpoint rows undos committed) rest e = cc

  none_here : (at : ℕ) (front : List (ℕ × Record)) → AreRecords version at [] front → front ≡ []
  none_here at [] here = refl
  none_here at (item ∷ items) here = absurd (spelled_some item.1 here.2.0 here.2.1)

  no_bytes : (rest : List ℕ) → length rest ≤ 0 → rest ≡ []
  no_bytes [] h = refl
  no_bytes (b ∷ bs) h = absurd (omega arith)

  -- nothing is left of a batch, so what is left is behind it
  left_behind : (gates : GateWalk) (at : ℕ) (rest : List ℕ) (items : List (ℕ × Record)) → length rest ≤ 0 → (left : HasLeft (walk_of version gates at rest) items) → items ≡ left.back
  left_behind gates at rest items short left =
      let empty : rest ≡ [] = no_bytes rest short in
      let nothing : left.front ≡ [] = none_here at left.front (subst (λ (t : List ℕ). AreRecords version at t left.front) empty left.here) in
      left.both ∙ ap (λ (f : List (ℕ × Record)). f ++ left.back) nothing

  -- the batches are done, so no record is left
  pub done : (gates new : GateWalk) (at : ℕ) (rest : List ℕ) → length rest ≤ 0 → ((batches : List (List ℕ)) → HasPassed gates batches → IsLogText gates.source batches × (new ≡ gates))
      → (items : List (ℕ × Record)) → HasLeft (walk_of version gates at rest) items → items ≡ []
  done gates new at rest short told items left =
      let same : left.passed ++ [] ≡ left.passed ++ left.batches = append-nil left.passed ∙ reads_once gates.source left.passed (left.passed ++ left.batches) (told left.passed left.has_passed).0 left.text in
      let none : [] ≡ left.batches = append_cancel_left left.passed [] left.batches same in
      left_behind gates at rest items short left ∙ subst (λ (bs : List (List ℕ)). HoldRecords version gates.at bs left.back) (sym none) left.behind

  -- a log text is not broken
  unbroken : (gates : GateWalk) (new : GateWalk) (at place : ℕ) (rest : List ℕ) → ((batches : List (List ℕ)) → HasPassed gates batches → IsBrokenAt gates.source place × (place ≡ gates.at) × (new ≡ gates))
      → (items : List (ℕ × Record)) → HasLeft (walk_of version gates at rest) items → items ≡ []
  unbroken gates new at place rest told items left = absurd (reads_or_breaks gates.source (left.passed ++ left.batches) place left.text (told left.passed left.has_passed).0)

  pub no_fault : (gates new : GateWalk) (at : ℕ) (rest : List ℕ) (fault : FrameFault) → ((batches : List (List ℕ)) → HasPassed gates batches → Tells gates (Some (Err fault)) new batches)
      → (items : List (ℕ × Record)) → HasLeft (walk_of version gates at rest) items → items ≡ []
  no_fault gates new at rest (Broken place) told = unbroken gates new at place rest told

  -- the next batch is the first of those behind
  pub entered : (gates new : GateWalk) (at to : ℕ) (rest records : List ℕ) → length rest ≤ 0 → ((batches : List (List ℕ)) → HasPassed gates batches → HasPassed new (batches ++ records ∷ []) × (new.source ≡ gates.source))
      → to ≡ gates.at + 5 → new.at ≡ to + length records
      → (items : List (ℕ × Record)) → HasLeft (walk_of version gates at rest) items → HasLeft (walk_of version new to records) items
  entered gates new at to rest records short told there further items left =
      let next = told left.passed left.has_passed in
      let text : IsLogText new.source (left.passed ++ left.batches) = subst (λ (s : List ℕ). IsLogText s (left.passed ++ left.batches)) (sym next.1) left.text in
      let more = passed_first new (left.passed ++ records ∷ []) (left.passed ++ left.batches) next.0 text in
      let first : left.batches ≡ records ∷ more.0 = append_cancel_left left.passed left.batches (records ∷ more.0) (more.1 ∙ append_assoc left.passed (records ∷ []) more.0) in
      let holds = subst (λ (bs : List (List ℕ)). HoldRecords version gates.at bs left.back) first left.behind in
      record {
        front = holds.0;
        back = holds.1;
        both = left_behind gates at rest items short left ∙ holds.2;
        here = subst (λ (n : ℕ). AreRecords version n records holds.0) (sym there) holds.3;
        passed = left.passed ++ records ∷ [];
        batches = more.0;
        has_passed = next.0;
        text = subst (λ (bs : List (List ℕ)). IsLogText new.source bs) more.1 text;
        behind = subst (λ (n : ℕ). HoldRecords version n more.0 holds.1) (let e : gates.at + 5 + length records ≡ new.at = omega arith in e) holds.4;
      }

  -- ---- records

  -- the first record that is left, in a batch with something left
  first_left : (gates : GateWalk) (at : ℕ) (rest : List ℕ) (items front back : List (ℕ × Record)) → 0 < length rest → items ≡ front ++ back → AreRecords version at rest front
      → (r : Record) × (more : List (ℕ × Record)) × (tail : List ℕ) × (items ≡ (at, r) ∷ (more ++ back)) × IsSpelledIn version r × (rest ≡ spelling version r ++ tail) × AreRecords version (at + length (spelling version r)) tail more
  first_left gates at rest items [] back some both here = absurd (omega (arith, ap length here))
  first_left gates at rest items (item ∷ front) back some both here =
      (item.1, front, here.2.0, both ∙ ap (λ (n : ℕ). (n, item.1) ∷ (front ++ back)) here.0, here.1, here.2.1, here.2.2)

  abbrev pub answer : Record → ℕ → Result (Record × ℕ) RecordFault
  answer r count = Ok (r, count)

  abbrev ok : Record × ℕ → Result (Record × ℕ) RecordFault
  ok x = Ok x

  -- what was read is the first record that is left
  pub lent : (gates : GateWalk) (at count : ℕ) (rest after : List ℕ) (r : Record) → after ≡ drop count rest → ((item : Record) (tail : List ℕ) → IsSpelledIn version item → rest ≡ spelling version item ++ tail → answer item (length (spelling version item)) ≡ answer r count)
      → (items : List (ℕ × Record)) → HasLeft (walk_of version gates at rest) items × (0 < length rest) → (more : List (ℕ × Record)) × (items ≡ (at, r) ∷ more) × HasLeft (walk_of version gates (at + count) after) more
  lent gates at count rest after r cut shown items given =
      let left = given.0 in
      let f = first_left gates at rest items left.front left.back given.1 left.both left.here in
      let x : Record × ℕ = (f.0, length (spelling version f.0)) in
      let y : Record × ℕ = (r, count) in
      let e : ok x ≡ ok y = shown f.0 f.2 f.4 f.5 in
      let same : x ≡ y = cc in
      let is_r : f.0 ≡ r = ap (λ (z : Record × ℕ). z.0) same in
      let is_count : length (spelling version f.0) ≡ count = ap (λ (z : Record × ℕ). z.1) same in
      let tail : after ≡ f.2 = cut ∙ ap (drop count) f.5 ∙ drop_at (spelling version f.0) f.2 count is_count in (
        f.1 ++ left.back,
        f.3 ∙ ap (λ (z : Record). (at, z) ∷ (f.1 ++ left.back)) is_r,
        record {
          front = f.1;
          back = left.back;
          both = refl;
          here = subst (λ (t : List ℕ). AreRecords version (at + count) t f.1) (sym tail) (subst (λ (n : ℕ). AreRecords version (at + n) f.2 f.1) is_count f.6);
          passed = left.passed;
          batches = left.batches;
          has_passed = left.has_passed;
          text = left.text;
          behind = left.behind;
        },
      )

  -- what is left is read
  pub not_missed : (gates : GateWalk) (at : ℕ) (rest : List ℕ) (fault : RecordFault) → ((item : Record) (tail : List ℕ) → IsSpelledIn version item → rest ≡ spelling version item ++ tail → answer item (length (spelling version item)) ≡ Err fault)
      → (items : List (ℕ × Record)) → HasLeft (walk_of version gates at rest) items × (0 < length rest) → items ≡ []
  not_missed gates at rest fault shown items given =
      let f = first_left gates at rest items given.0.front given.0.back given.1 given.0.both given.0.here in
      let e = shown f.0 f.2 f.4 f.5 in
      absurd cc

-- ---- the front of a text

pub at_front : (version : ℕ) (bytes : List ℕ) (items : List (ℕ × Record)) (has : HasRecords bytes items) → version ≡ version_in has.0 → HasLeft (walk_of version (record { source = bytes; at = 0 }) 0 []) items
at_front version bytes items has same = record {
  front = [];
  back = items;
  both = refl;
  here = refl;
  passed = [];
  batches = has.0;
  has_passed = record { each = tt; text = refl; place = refl };
  text = has.1;
  behind = subst (λ (v : ℕ). HoldRecords v 0 has.0 items) (sym same) has.2;
}

-- ---- the version of a text

front_passed : (bytes : List ℕ) (old : GateWalk) → old ≡ record { source = bytes; at = 0 } → HasPassed old []
front_passed bytes old e = subst (λ (w : GateWalk). HasPassed w []) (sym e) record { each = tt; text = refl; place = refl }

-- the first batch has the version
pub first_version : (bytes : List ℕ) (old new : GateWalk) (batch : List ℕ) → old ≡ record { source = bytes; at = 0 } → ((batches : List (List ℕ)) → HasPassed old batches → HasPassed new (batches ++ batch ∷ []) × (new.source ≡ old.source))
    → (batches : List (List ℕ)) → IsLogText bytes batches → version_of batch ≡ version_in batches
first_version bytes old new batch e told batches text =
    let next = told [] (front_passed bytes old e) in
    let source : new.source ≡ bytes = next.1 ∙ ap (λ (w : GateWalk). w.source) e in
    let more = passed_first new (batch ∷ []) batches next.0 (subst (λ (b : List ℕ). IsLogText b batches) (sym source) text) in
    ap version_in (sym more.1)

-- a text without a batch has the newest one
pub no_version : (bytes : List ℕ) (old new : GateWalk) → old ≡ record { source = bytes; at = 0 } → ((batches : List (List ℕ)) → HasPassed old batches → IsLogText old.source batches × (new ≡ old))
    → (batches : List (List ℕ)) → IsLogText bytes batches → newest ≡ version_in batches
no_version bytes old new e told batches text =
    ap version_in (reads_once bytes [] batches (subst (λ (w : GateWalk). IsLogText w.source []) e (told [] (front_passed bytes old e)).0) text)

-- a log text is not broken at its front
pub broken_version : (bytes : List ℕ) (old new : GateWalk) (fault : FrameFault) → old ≡ record { source = bytes; at = 0 } → ((batches : List (List ℕ)) → HasPassed old batches → Tells old (Some (Err fault)) new batches)
    → (batches : List (List ℕ)) → IsLogText bytes batches → newest ≡ version_in batches
broken_version bytes old new (Broken place) e told batches text =
    absurd (reads_or_breaks bytes batches place text (subst (λ (w : GateWalk). IsBrokenAt w.source place) e (told [] (front_passed bytes old e)).0))
