-- A file is a log of its node in one way, or bad at one place, and not both.
use Rattle.std.proofs.Common.{◌≡◌, ◌⊎◌, inl, inr, ℕ, ◌+◌, List, [], ◌∷◌, ◌++◌, length, refl, sym, ap, subst, ◌∙◌, append_assoc, arith}
use Rattle.std.specs.Prelude.{Option, Some, None}
use Rattle.std.proofs.lemmas.List.{append-nil, length-append}
use Rattle.co_base.specs.declared.node.Node.{Node}
use Rattle.co_disk.specs.DiskView.{DiskView}
use Rattle.co_frame.specs.LogText.{IsLogText, gated, batch_text}
use Rattle.co_frame.proofs.Texts.{breaks_once, reads_or_breaks, reads_once, passed_first}
use Rattle.co_record.specs.declared.record.Record.{Record}
use Rattle.co_record.specs.declared.record.Record.TheVariants.{Header}
use Rattle.co_record.specs.Format.{IsVersion}
use Rattle.co_record.specs.Spelling.{spelling, IsSpelledIn}
use Rattle.co_record.specs.Stored.{AreRecords, HoldRecords, version_in}
use Rattle.co_record.proofs.Records.{spelled_once}
use Rattle.co_log.specs.Attaching.{IsCurrent, IsAttached, AreTwins, IsGood, IsOlder, IsBadPair}
use Rattle.co_log.specs.declared.fault.LogFault.{LogFault}
use Rattle.co_log.specs.declared.fault.LogFault.TheVariants.{Device, Stopped, Bad, Differs, Full, InUse, Memory}
use Rattle.co_log.specs.Current.{IsCurrentOf}
use Rattle.co_log.specs.LogFile.{EndsIn}
use Rattle.co_log.specs.LogView.{LogView}
use Rattle.co_log.specs.Scanning.{IsHeaded, HasNoRecord, HasWrongHeader, IsUnreadable, IsLogFileIn, IsLogFile, IsBadBatch, IsBadAt}
use Rattle.co_log.proofs.Currents.{log_file_in}
use Rattle.co_log.proofs.Versions.{in_version, has_records, versions_once}
use Rattle.co_log.proofs.Once.{not_empty, generation_of, holds_once, ends_once, file_once, none_has, smaller}
use Rattle.co_log.proofs.Splits.{PartsLater, parted}

-- ---- records that stand one after another at the front of one text

-- two readings are one
record AreOne (front other rest left : List ℕ) : Type 0 where
  fronts : front ≡ other
  rests : rest ≡ left

-- The second reading has one record more at least, which stands where the first one ends.
record GoesOn (version : ℕ) (xs ys : List (ℕ × Record)) (rest : List ℕ) : Type 0 where
  item : ℕ × Record
  more : List (ℕ × Record)
  items : ys ≡ xs ++ item ∷ more
  behind : List ℕ
  spelled : IsSpelledIn version item.1
  text : rest ≡ spelling version item.1 ++ behind

-- the records in front of a batch, its own, and those behind it
record IsHeldAt (version gate : ℕ) (before : List (List ℕ)) (batch : List ℕ) (items : List (ℕ × Record)) : Type 0 where
  first : List (ℕ × Record)
  own : List (ℕ × Record)
  last : List (ℕ × Record)
  all : items ≡ first ++ (own ++ last)
  holds : HoldRecords version gate before first
  are : AreRecords version (gate + length (gated before) + 5) batch own

module _ (version : ℕ) (known : IsVersion version) where
  compared : (at : ℕ) (front other rest left : List ℕ) (xs ys : List (ℕ × Record)) → AreRecords version at front xs → AreRecords version at other ys → front ++ rest ≡ other ++ left → AreOne front other rest left ⊎ (GoesOn version xs ys rest ⊎ GoesOn version ys xs left)
  compared at front other rest left [] [] these those e =
      let none : front ≡ [] = these in
      let nil : other ≡ [] = those in
      inl record { fronts = none ∙ sym nil; rests = sym (ap (λ (b : List ℕ). b ++ rest) none) ∙ e ∙ ap (λ (b : List ℕ). b ++ left) nil }
  compared at front other rest left [] (y ∷ ys) these those e =
      let none : front ≡ [] = these in
      inr (inl record {
        item = y;
        more = ys;
        items = refl;
        behind = those.2.0 ++ left;
        spelled = those.1;
        text = sym (ap (λ (b : List ℕ). b ++ rest) none) ∙ e ∙ ap (λ (b : List ℕ). b ++ left) those.2.1 ∙ append_assoc (spelling version y.1) those.2.0 left;
      })
  compared at front other rest left (x ∷ xs) [] these those e =
      let nil : other ≡ [] = those in
      inr (inr record {
        item = x;
        more = xs;
        items = refl;
        behind = these.2.0 ++ rest;
        spelled = these.1;
        text = sym (ap (λ (b : List ℕ). b ++ left) nil) ∙ sym e ∙ ap (λ (b : List ℕ). b ++ rest) these.2.1 ∙ append_assoc (spelling version x.1) these.2.0 rest;
      })
  compared at front other rest left (x ∷ xs) (y ∷ ys) these those e =
      let text : spelling version x.1 ++ (these.2.0 ++ rest) ≡ spelling version y.1 ++ (those.2.0 ++ left) =
      sym (append_assoc (spelling version x.1) these.2.0 rest) ∙ sym (ap (λ (b : List ℕ). b ++ rest) these.2.1) ∙ e ∙ ap (λ (b : List ℕ). b ++ left) those.2.1 ∙ append_assoc (spelling version y.1) those.2.0 left in
      let same = spelled_once version (omega (arith, known.1)) x.1 y.1 (these.2.0 ++ rest) (those.2.0 ++ left) these.1 those.1 text in
      let item : x ≡ y = ap (λ (n : ℕ). let p : ℕ × Record = (n, x.1) in p) (these.0 ∙ sym those.0) ∙ ap (λ (r : Record). let p : ℕ × Record = (y.0, r) in p) same.0 in
      let behind : AreRecords version (at + length (spelling version x.1)) those.2.0 ys = subst (λ (r : Record). AreRecords version (at + length (spelling version r)) those.2.0 ys) (sym same.0) those.2.2 in
      elim (compared (at + length (spelling version x.1)) these.2.0 those.2.0 rest left xs ys these.2.2 behind same.1) [
        | inl a ↦ inl record {
          fronts = these.2.1 ∙ ap (λ (r : Record). spelling version r ++ these.2.0) same.0 ∙ ap (λ (b : List ℕ). spelling version y.1 ++ b) a.fronts ∙ sym those.2.1;
          rests = a.rests;
        }
        | inr l ↦ inr (elim l [
          | inl g ↦ inl record {
            item = g.item;
            more = g.more;
            items = ap (λ (z : ℕ × Record). z ∷ ys) (sym item) ∙ ap (λ (zs : List (ℕ × Record)). x ∷ zs) g.items;
            behind = g.behind;
            spelled = g.spelled;
            text = g.text;
          }
          | inr g ↦ inr record {
            item = g.item;
            more = g.more;
            items = ap (λ (z : ℕ × Record). z ∷ xs) item ∙ ap (λ (zs : List (ℕ × Record)). y ∷ zs) g.items;
            behind = g.behind;
            spelled = g.spelled;
            text = g.text;
          }
        ])
      ]

  -- ---- the generation that is found

  -- where none is found, none was found before, and no record was read
  none_read : (node : Node) (at : ℕ) (before found : Option ℕ) (items : List (ℕ × Record)) → IsHeaded node at before items found → found ≡ None → (before ≡ None) × (items ≡ [])
  none_read node at (Some g) found items headed none = absurd (let h : Some g ≡ None = sym headed ∙ none in cc)
  none_read node at None found [] headed none = (refl, refl)
  none_read node at None found (x ∷ items) headed none = absurd (let h : Some headed.0 ≡ None = sym headed.2 ∙ none in cc)

  headed_once : (node : Node) (at : ℕ) (before : Option ℕ) (items : List (ℕ × Record)) (this that : Option ℕ) → IsHeaded node at before items this → IsHeaded node at before items that → this ≡ that
  unfolding generation_of
  headed_once node at (Some g) items this that h k = h ∙ sym k
  headed_once node at None [] this that h k = h ∙ sym k
  headed_once node at None (x ∷ items) this that h k =
      let same : h.0 ≡ k.0 = ap (λ (y : ℕ × Record). generation_of (y ∷ [])) (sym h.1 ∙ k.1) in
      h.2 ∙ ap (λ (n : ℕ). let o : Option ℕ = Some n in o) same ∙ sym k.2

  -- no wrong header stands where the first record is a header of the node
  header_stands : (node : Node) (at : ℕ) (rest behind : List ℕ) (x : ℕ × Record) (items : List (ℕ × Record)) (found : Option ℕ) → IsHeaded node at None (x ∷ items) found → IsSpelledIn version x.1 → rest ≡ spelling version x.1 ++ behind → HasWrongHeader version node rest → ⊥
  header_stands node at rest behind x items found headed spelled text wrong =
      let same = spelled_once version (omega (arith, known.1)) wrong.item x.1 wrong.behind behind wrong.spelled spelled (sym wrong.text ∙ text) in
      wrong.wrong headed.0 (same.0 ∙ ap (λ (y : ℕ × Record). y.1) headed.1)

  -- ---- batches that hold records

  held_at : (gate : ℕ) (before : List (List ℕ)) (batch : List ℕ) (behind : List (List ℕ)) (items : List (ℕ × Record)) → HoldRecords version gate (before ++ batch ∷ behind) items → IsHeldAt version gate before batch items
  held_at gate [] batch behind items holds = record {
    first = [];
    own = holds.0;
    last = holds.1;
    all = holds.2;
    holds = refl;
    are = subst (λ (n : ℕ). AreRecords version n batch holds.0) (let e : gate + 5 ≡ gate + length (gated []) + 5 = omega arith in e) holds.3;
  }
  held_at gate (b ∷ bs) batch behind items holds =
      let later = held_at (gate + 5 + length b) bs batch behind holds.1 holds.4 in
      let place : gate + 5 + length b + length (gated bs) + 5 ≡ gate + length (gated (b ∷ bs)) + 5 = omega (arith, length-append (batch_text b) (gated bs)) in
      record {
        first = holds.0 ++ later.first;
        own = later.own;
        last = later.last;
        all = holds.2 ∙ ap (λ (zs : List (ℕ × Record)). holds.0 ++ zs) later.all ∙ sym (append_assoc holds.0 later.first (later.own ++ later.last));
        holds = (holds.0, later.first, refl, holds.3, later.holds);
        are = subst (λ (n : ℕ). AreRecords version n batch later.own) place later.are;
      }

  -- a batch whose records are read is not unreadable
  held_reads : (node : Node) (before : List (List ℕ)) (batch : List ℕ) (behind : List (List ℕ)) (items : List (ℕ × Record)) (later found : Option ℕ) (at place : ℕ) → HoldRecords version 0 (before ++ batch ∷ behind) items → IsHeaded node 5 None items later
      → at ≡ length (gated before) + 5 → (found ≡ None → before ≡ []) → IsUnreadable version node at batch found place → ⊥
  held_reads node before batch behind items later found at place holds headed here start unreadable =
      elim unreadable.why [ inl none ↦ by_none none | inr wrong ↦ by_wrong wrong.1 (none_read node at found unreadable.found unreadable.read.items unreadable.read.headed wrong.0) ]
    where
      held : IsHeldAt version 0 before batch items
      held = held_at 0 before batch behind items holds

      own : AreRecords version at batch held.own
      own = subst (λ (n : ℕ). AreRecords version n batch held.own) (let e : 0 + length (gated before) + 5 ≡ at = omega (arith, here) in e) held.are

      by_none : HasNoRecord version unreadable.rest → ⊥
      by_none none = elim (compared at unreadable.read.front batch unreadable.rest [] unreadable.read.items held.own unreadable.read.are own (sym unreadable.read.both ∙ sym (append-nil batch))) [
        | inl one ↦ none.some one.rests
        | inr l ↦ elim l [ inl on ↦ none.none on.item.1 on.behind on.spelled on.text | inr on ↦ not_empty version on.item.1 on.behind on.text ]
      ]

      by_wrong : HasWrongHeader version node unreadable.rest → (found ≡ None) × (unreadable.read.items ≡ []) → ⊥
      by_wrong wrong none = by_own held.own own held.all
        where
          nothing : unreadable.read.front ≡ []
          nothing = subst (λ (zs : List (ℕ × Record)). AreRecords version at unreadable.read.front zs) none.1 unreadable.read.are

          whole : batch ≡ unreadable.rest
          whole = unreadable.read.both ∙ ap (λ (b : List ℕ). b ++ unreadable.rest) nothing

          first_none : held.first ≡ []
          first_none = subst (λ (bs : List (List ℕ)). HoldRecords version 0 bs held.first) (start none.0) held.holds

          by_own : (list : List (ℕ × Record)) → AreRecords version at batch list → items ≡ held.first ++ (list ++ held.last) → ⊥
          by_own [] are all = let empty : batch ≡ [] = are in not_empty version wrong.item wrong.behind (sym empty ∙ whole ∙ wrong.text)
          by_own (x ∷ list) are all =
              let is : items ≡ x ∷ (list ++ held.last) = all ∙ ap (λ (zs : List (ℕ × Record)). zs ++ (x ∷ list ++ held.last)) first_none in
              header_stands node 5 unreadable.rest are.2.0 x (list ++ held.last) later (subst (λ (zs : List (ℕ × Record)). IsHeaded node 5 None zs later) is headed) are.1 (sym whole ∙ are.2.1) wrong

  -- where a reading goes on behind an unreadable place
  goes_past : (node : Node) (at : ℕ) (batch : List ℕ) (found : Option ℕ) (place : ℕ) (u : IsUnreadable version node at batch found place) (later : Option ℕ) (items : List (ℕ × Record)) → IsHeaded node at found items later → GoesOn version u.read.items items u.rest → ⊥
  goes_past node at batch found place u later items headed on = elim u.why [
    | inl none ↦ none.none on.item.1 on.behind on.spelled on.text
    | inr wrong ↦
        let none = none_read node at found u.found u.read.items u.read.headed wrong.0 in
        let is : items ≡ on.item ∷ on.more = on.items ∙ ap (λ (zs : List (ℕ × Record)). zs ++ on.item ∷ on.more) none.1 in
        let first : IsHeaded node at None (on.item ∷ on.more) later = subst (λ (zs : List (ℕ × Record)). IsHeaded node at None zs later) is (subst (λ (o : Option ℕ). IsHeaded node at o items later) none.0 headed) in
        header_stands node at u.rest on.behind on.item on.more later first on.spelled on.text wrong.1
  ]

  unreadable_once : (node : Node) (at : ℕ) (batch : List ℕ) (found : Option ℕ) (this that : ℕ) → IsUnreadable version node at batch found this → IsUnreadable version node at batch found that → this ≡ that
  unreadable_once node at batch found this that u v =
      elim (compared at u.read.front v.read.front u.rest v.rest u.read.items v.read.items u.read.are v.read.are (sym u.read.both ∙ v.read.both)) [
        | inl one ↦ u.read.place_is ∙ ap (λ (b : List ℕ). at + length b) one.fronts ∙ sym v.read.place_is
        | inr l ↦ elim l [
          | inl on ↦ absurd (goes_past node at batch found this u v.found v.read.items v.read.headed on)
          | inr on ↦ absurd (goes_past node at batch found that v u.found u.read.items u.read.headed on)
        ]
      ]

  -- ---- files

  -- the batches of a text with a bad batch begin with those before it, and then it
  bad_first : (node : Node) (bytes : List ℕ) (at : ℕ) (batches : List (List ℕ)) (bad : IsBadBatch version node bytes at) → IsLogText bytes batches → (more : List (List ℕ)) × (batches ≡ bad.scanned.batches ++ bad.batch ∷ more)
  bad_first node bytes at batches bad text =
      let first = passed_first record { source = bytes; at = bad.gate + 5 + length bad.batch } (bad.scanned.batches ++ bad.batch ∷ []) batches bad.behind text in
      (first.0, first.1 ∙ append_assoc bad.scanned.batches (bad.batch ∷ []) first.0)

  bad_not_held : (node : Node) (bytes : List ℕ) (at : ℕ) (bad : IsBadBatch version node bytes at) (behind : List (List ℕ)) (items : List (ℕ × Record)) (later : Option ℕ) → HoldRecords version 0 (bad.scanned.batches ++ bad.batch ∷ behind) items → IsHeaded node 5 None items later → ⊥
  bad_not_held node bytes at bad behind items later holds headed =
      held_reads node bad.scanned.batches bad.batch behind items later bad.found (bad.gate + 5) at holds headed (ap (λ (n : ℕ). n + 5) bad.scanned.passed.place) bad.scanned.start bad.unreadable

  -- of two bad batches none stands in front of the other
  bad_not_before : (node : Node) (bytes : List ℕ) (this that : ℕ) (b : IsBadBatch version node bytes this) (c : IsBadBatch version node bytes that) → PartsLater b.scanned.batches b.batch c.scanned.batches → ⊥
  bad_not_before node bytes this that b c later =
      bad_not_held node bytes this b later.more c.scanned.items c.found (subst (λ (bs : List (List ℕ)). HoldRecords version 0 bs c.scanned.items) later.is c.scanned.holds) c.scanned.headed

  bad_batch_once : (node : Node) (bytes : List ℕ) (batches : List (List ℕ)) (this that : ℕ) → IsLogText bytes batches → IsBadBatch version node bytes this → IsBadBatch version node bytes that → this ≡ that
  bad_batch_once node bytes batches this that text b c =
      let one = bad_first node bytes this batches b text in
      let two = bad_first node bytes that batches c text in
      elim (parted b.scanned.batches c.scanned.batches b.batch c.batch one.0 two.0 (sym one.1 ∙ two.1)) [
        | inl alike ↦
            let held : HoldRecords version 0 c.scanned.batches b.scanned.items = subst (λ (bs : List (List ℕ)). HoldRecords version 0 bs b.scanned.items) alike.fronts b.scanned.holds in
            let items : b.scanned.items ≡ c.scanned.items = holds_once version known 0 c.scanned.batches b.scanned.items c.scanned.items held c.scanned.holds in
            let found : b.found ≡ c.found =
            headed_once node 5 None c.scanned.items b.found c.found (subst (λ (zs : List (ℕ × Record)). IsHeaded node 5 None zs b.found) items b.scanned.headed) c.scanned.headed in
            let gate : b.gate ≡ c.gate = b.scanned.passed.place ∙ ap (λ (bs : List (List ℕ)). length (gated bs)) alike.fronts ∙ sym c.scanned.passed.place in
            let here : IsUnreadable version node (c.gate + 5) b.batch b.found this = subst (λ (n : ℕ). IsUnreadable version node (n + 5) b.batch b.found this) gate b.unreadable in
            let same : IsUnreadable version node (c.gate + 5) c.batch b.found this = subst (λ (x : List ℕ). IsUnreadable version node (c.gate + 5) x b.found this) alike.elements here in
            unreadable_once node (c.gate + 5) c.batch c.found this that (subst (λ (o : Option ℕ). IsUnreadable version node (c.gate + 5) c.batch o this) found same) c.unreadable
        | inr l ↦ elim l [ inl later ↦ absurd (bad_not_before node bytes this that b c later) | inr later ↦ absurd (bad_not_before node bytes that this c b later) ]
      ]

pub bad_once : (node : Node) (bytes : List ℕ) (this that : ℕ) → IsBadAt node bytes this → IsBadAt node bytes that → this ≡ that
bad_once node bytes this that one two = elim one [
  | inl broken ↦ elim two [ inl other ↦ breaks_once bytes this that broken other | inr bad ↦ absurd (reads_or_breaks bytes bad.0.0 this bad.0.1 broken) ]
  | inr bad ↦ elim two [
    | inl broken ↦ absurd (reads_or_breaks bytes bad.0.0 that bad.0.1 broken)
    | inr other ↦
        let same : version_in other.0.0 ≡ version_in bad.0.0 = ap version_in (reads_once bytes other.0.0 bad.0.0 other.0.1 bad.0.1) in
        bad_batch_once (version_in bad.0.0) (in_version bad.0.0) node bytes bad.0.0 this that bad.0.1 bad.1 (subst (λ (v : ℕ). IsBadBatch v node bytes that) same other.1)
  ]
]

-- the text of a file that is a log
file_text : (node : Node) (bytes : List ℕ) (gate : ℕ) (generation : Option ℕ) → IsLogFile node bytes gate generation → (batches : List (List ℕ)) × IsLogText bytes batches
file_text node bytes gate None file = ([], file.0)
file_text node bytes gate (Some g) file = let has = has_records file.0 file.1.1 node g bytes gate file.1.0 file.1.2 in (has.0, has.1)

file_not_bad : (node : Node) (bytes : List ℕ) (gate at : ℕ) (generation : Option ℕ) → IsLogFile node bytes gate generation → (text : (batches : List (List ℕ)) × IsLogText bytes batches) → IsBadBatch (version_in text.0) node bytes at → ⊥
file_not_bad node bytes gate at None file text bad =
    let first = bad_first (version_in text.0) (in_version text.0) node bytes at [] bad file.0 in
    none_parted bad.scanned.batches bad.batch first.0 first.1
  where
    none_parted : (before : List (List ℕ)) (x : List ℕ) (more : List (List ℕ)) → [] ≡ before ++ x ∷ more → ⊥
    none_parted [] x more e = absurd (cc)
    none_parted (b ∷ before) x more e = absurd (cc)
file_not_bad node bytes gate at (Some g) file text bad =
    let has = has_records file.0 file.1.1 node g bytes gate file.1.0 file.1.2 in
    let here : IsBadBatch (version_in has.0) node bytes at = subst (λ (v : ℕ). IsBadBatch v node bytes at) (ap version_in (reads_once bytes text.0 has.0 text.1 has.1)) bad in
    let first = bad_first (version_in has.0) (in_version has.0) node bytes at has.0 here has.1 in
    bad_not_held (version_in has.0) (in_version has.0) node bytes at here first.0 ((5, Header node g) ∷ file.1.0) (Some g) (subst (λ (bs : List (List ℕ)). HoldRecords (version_in has.0) 0 bs ((5, Header node g) ∷ file.1.0)) first.1 has.2) (g, refl, refl)

pub good_not_bad : (node : Node) (bytes : List ℕ) (gate at : ℕ) (generation : Option ℕ) → IsLogFile node bytes gate generation → IsBadAt node bytes at → ⊥
good_not_bad node bytes gate at generation file bad = elim bad [
  | inl broken ↦ let text = file_text node bytes gate generation file in reads_or_breaks bytes text.0 at text.1 broken
  | inr b ↦ file_not_bad node bytes gate at generation file b.0 b.1
]

pub judged_once : (node : Node) (bytes : List ℕ) (this that : ℕ) (g h : Option ℕ) → IsLogFile node bytes this g → IsLogFile node bytes that h → (this ≡ that) × (g ≡ h)
judged_once node bytes this that None None one two = (one.1 ∙ sym two.1, refl)
judged_once node bytes this that None (Some h) one two = absurd (none_has two.0 bytes that (5, Header node h) two.1.0 one.0 two.1.2)
judged_once node bytes this that (Some g) None one two = absurd (none_has one.0 bytes this (5, Header node g) one.1.0 two.0 one.1.2)
judged_once node bytes this that (Some g) (Some h) one two =
    let same = file_once node bytes this that g h one two in
    (same.0, ap (λ (n : ℕ). let o : Option ℕ = Some n in o) same.1)

-- ---- the two files of a node

good_not_twin : (node : Node) (a b : List ℕ) (at : ℕ) → IsBadAt node b at → AreTwins node a b → ⊥
good_not_twin node a b at bad twins = good_not_bad node b twins.2 at (Some twins.0) twins.4 bad

pub pair_once : (node : Node) (a b : DiskView) (this that : LogFault) → IsBadPair node a b this → IsBadPair node a b that → this ≡ that
pair_once node a b (Bad spot at) (Bad other place) one two = elim one [
  | inl first ↦ elim two [
    | inl again ↦ is_bad (first.0 ∙ sym again.0) (bad_once node a.state.stable at place first.1 again.1)
    | inr second ↦ absurd (good_not_bad node a.state.stable second.1.0 at second.1.1 second.1.2 first.1)
  ]
  | inr second ↦ elim two [
    | inl first ↦ absurd (good_not_bad node a.state.stable second.1.0 place second.1.1 second.1.2 first.1)
    | inr again ↦ is_bad (second.0 ∙ sym again.0) (elim second.2 [
      | inl bad ↦ elim again.2 [ inl more ↦ bad_once node b.state.stable at place bad more | inr twins ↦ absurd (good_not_twin node a.state.stable b.state.stable at bad twins.1) ]
      | inr twins ↦ elim again.2 [ inl bad ↦ absurd (good_not_twin node a.state.stable b.state.stable place bad twins.1) | inr more ↦ twins.0 ∙ sym more.0 ]
    ])
  ]
]
  where
    is_bad : spot ≡ other → at ≡ place → Bad spot at ≡ Bad other place
    is_bad s p = cc
pair_once node a b (Bad spot at) (Device other) one two = absurd two
pair_once node a b (Bad spot at) (Stopped call stable marks) one two = absurd two
pair_once node a b (Bad spot at) (Differs other place kept read) one two = absurd two
pair_once node a b (Bad spot at) (Full other) one two = absurd two
pair_once node a b (Bad spot at) (InUse other) one two = absurd two
pair_once node a b (Bad spot at) Memory one two = absurd two
pair_once node a b (Device spot) that one two = absurd one
pair_once node a b (Stopped call stable marks) that one two = absurd one
pair_once node a b (Differs spot at kept read) that one two = absurd one
pair_once node a b (Full spot) that one two = absurd one
pair_once node a b (InUse spot) that one two = absurd one
pair_once node a b Memory that one two = absurd one

-- a file that is older than a generation is a log
older_good : (node : Node) (bytes : List ℕ) (generation : ℕ) → IsOlder node bytes generation → IsGood node bytes
older_good node bytes generation older = elim older [ inl none ↦ (0, None, (none, refl)) | inr less ↦ (less.0, Some less.1, less.2) ]

-- two files that are logs, and no twins
record AreGood (node : Node) (a b : List ℕ) : Type 0 where
  first : IsGood node a
  second : IsGood node b
  apart : AreTwins node a b → ⊥

pair_good : (node : Node) (a b : DiskView) (fault : LogFault) → AreGood node a.state.stable b.state.stable → IsBadPair node a b fault → ⊥
pair_good node a b (Device spot) good bad = bad
pair_good node a b (Stopped call stable marks) good bad = bad
pair_good node a b (Bad spot at) good bad = elim bad [
  | inl first ↦ good_not_bad node a.state.stable good.first.0 at good.first.1 good.first.2 first.1
  | inr second ↦ elim second.2 [ inl other ↦ good_not_bad node b.state.stable good.second.0 at good.second.1 good.second.2 other | inr twins ↦ good.apart twins.1 ]
]
pair_good node a b (Differs spot at kept read) good bad = bad
pair_good node a b (Full spot) good bad = bad
pair_good node a b (InUse spot) good bad = bad
pair_good node a b Memory good bad = bad

-- the current file is no twin of an older one
current_apart : (node : Node) (current spare : DiskView) (log : LogView) (g gate other : ℕ) → IsCurrent node current spare log → IsLogFile node current.state.stable gate (Some g) → IsLogFile node spare.state.stable other (Some g) → ⊥
current_apart node current spare log g gate other c one two =
    omega (arith, (file_once node current.state.stable gate c.gate g c.generation one (c.version, c.file)).1, smaller node spare.state.stable other g c.generation two c.older)

attached_good : (node : Node) (a b : DiskView) (log : LogView) → IsAttached node a b log → AreGood node a.state.stable b.state.stable
attached_good node a b log attached = elim attached [
  | inl fresh ↦ record {
    first = (0, None, (fresh.1, refl));
    second = (0, None, (fresh.2, refl));
    apart = λ twins. none_has twins.3.0 a.state.stable twins.1 (5, Header node twins.0) twins.3.1.0 fresh.1 twins.3.1.2;
  }
  | inr live ↦ elim live [
    | inl c ↦ record {
      first = (c.gate, Some c.generation, (c.version, c.file));
      second = older_good node b.state.stable c.generation c.older;
      apart = λ twins. current_apart node a b log twins.0 twins.1 twins.2 c twins.3 twins.4;
    }
    | inr c ↦ record {
      first = older_good node a.state.stable c.generation c.older;
      second = (c.gate, Some c.generation, (c.version, c.file));
      apart = λ twins. current_apart node b a log twins.0 twins.2 twins.1 c twins.4 twins.3;
    }
  ]
]

pub attached_not_bad : (node : Node) (a b : DiskView) (log : LogView) (fault : LogFault) → IsAttached node a b log → IsBadPair node a b fault → ⊥
attached_not_bad node a b log fault attached bad = pair_good node a b fault (attached_good node a b log attached) bad

-- ---- which of two files is current

pub current_file_in : (node : Node) (v g : ℕ) (a b : List ℕ) (items : List (ℕ × Record)) (c : IsCurrentOf node v g a b items) → IsLogFileIn v node a c.gate (Some g)
current_file_in node v g a b items c = log_file_in node g v c.known a c.gate items c.ends c.header

pub current_file : (node : Node) (v g : ℕ) (a b : List ℕ) (items : List (ℕ × Record)) (c : IsCurrentOf node v g a b items) → IsLogFile node a c.gate (Some g)
current_file node v g a b items c = (v, current_file_in node v g a b items c)

pub current_once : (node : Node) (v w g h : ℕ) (a b : List ℕ) (items more : List (ℕ × Record)) → IsCurrentOf node v g a b items → IsCurrentOf node w h a b more → (v ≡ w) × (items ≡ more)
current_once node v w g h a b items more c d =
    let one = current_file_in node v g a b items c in
    let two = current_file_in node w h a b more d in
    let same = versions_once v w c.known d.known node a c.gate d.gate g h one.0 two.0 one.2 two.2 in
    (same, (ends_once w d.known a c.gate d.gate items more (subst (λ (n : ℕ). EndsIn n a c.gate items) same c.ends) d.ends).1)

pub one_current : (node : Node) (v w g h : ℕ) (a b : List ℕ) (items more : List (ℕ × Record)) → IsCurrentOf node v g a b items → IsCurrentOf node w h b a more → ⊥
one_current node v w g h a b items more c d =
    omega (arith, smaller node b d.gate h g (current_file node w h b a more d) c.older, smaller node a c.gate g h (current_file node v g a b items c) d.older)

pub none_current : (node : Node) (v g : ℕ) (a b : List ℕ) (items : List (ℕ × Record)) → IsLogText a [] → IsCurrentOf node v g a b items → ⊥
none_current node v g a b items none c = let file = current_file node v g a b items c in none_has file.0 a c.gate (5, Header node g) file.1.0 none file.1.2
