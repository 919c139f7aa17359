-- A file has one reading, so a start finds one current file.
use Rattle.std.proofs.Common.{◌≡◌, ℕ, ◌+◌, ◌<◌, List, [], ◌∷◌, ◌++◌, length, refl, sym, ap, subst, ◌∙◌, arith, inl, inr}
use Rattle.std.specs.Prelude.{Some}
use Rattle.co_base.specs.declared.node.Node.{Node}
use Rattle.co_disk.specs.DiskView.{DiskView}
use Rattle.co_frame.specs.LogText.{IsLogText, gated}
use Rattle.co_frame.proofs.Texts.{same_batches, reads_once, hides}
use Rattle.co_record.specs.declared.record.Record.{Record}
use Rattle.co_record.specs.declared.record.Record.TheVariants.{Header, Prepare, Commit, Abort, End, Checkpoint}
use Rattle.co_record.specs.Format.{IsVersion}
use Rattle.co_record.specs.Spelling.{spelling}
use Rattle.co_record.specs.Stored.{AreRecords, HoldRecords}
use Rattle.co_record.proofs.Records.{spelled_once}
use Rattle.co_log.specs.Attaching.{built, IsOlder, IsAttached}
use Rattle.co_log.specs.Current.{IsCurrentOf}
use Rattle.co_log.specs.LogFile.{EndsIn}
use Rattle.co_log.specs.LogView.{LogView}
use Rattle.co_log.specs.Scanning.{IsLogFile}
use Rattle.co_log.proofs.Currents.{log_file_in}
use Rattle.co_log.proofs.Versions.{versions_once}

-- a spelling has at least its kind
pub not_empty : (version : ℕ) (r : Record) (rest : List ℕ) → [] ≡ spelling version r ++ rest → ⊥
not_empty version (Header node generation) rest e = cc
not_empty version (Prepare txn coord count reads writes) rest e = cc
not_empty version (Commit txn members) rest e = cc
not_empty version (Abort txn) rest e = cc
not_empty version (End txn) rest e = cc
not_empty version (Checkpoint rows undos committed) rest e = cc

module _ (version : ℕ) (known : IsVersion version) where
  records_once : (at : ℕ) (bytes : List ℕ) (xs ys : List (ℕ × Record)) → AreRecords version at bytes xs → AreRecords version at bytes ys → xs ≡ ys
  records_once at bytes [] [] these those = refl
  records_once at bytes [] (y ∷ ys) these those = absurd (not_empty version y.1 those.2.0 (let none : bytes ≡ [] = these in sym none ∙ those.2.1))
  records_once at bytes (x ∷ xs) [] these those = absurd (not_empty version x.1 these.2.0 (let none : bytes ≡ [] = those in sym none ∙ these.2.1))
  records_once at bytes (x ∷ xs) (y ∷ ys) these those =
      let same = spelled_once version (omega (arith, known.1)) x.1 y.1 these.2.0 those.2.0 these.1 those.1 (sym these.2.1 ∙ those.2.1) in
      let item : x ≡ y = ap (λ (n : ℕ). let p : ℕ × Record = (n, x.1) in p) (these.0 ∙ sym those.0) ∙ ap (λ (r : Record). let p : ℕ × Record = (y.0, r) in p) same.0 in
      let more : AreRecords version (at + length (spelling version x.1)) these.2.0 ys = subst (λ (r : Record). AreRecords version (at + length (spelling version r)) these.2.0 ys) (sym same.0) (subst (λ (b : List ℕ). AreRecords version (at + length (spelling version y.1)) b ys) (sym same.1) those.2.2) in
      ap (λ (z : ℕ × Record). z ∷ xs) item ∙ ap (λ (zs : List (ℕ × Record)). y ∷ zs) (records_once (at + length (spelling version x.1)) these.2.0 xs ys these.2.2 more)

  pub holds_once : (gate : ℕ) (batches : List (List ℕ)) (xs ys : List (ℕ × Record)) → HoldRecords version gate batches xs → HoldRecords version gate batches ys → xs ≡ ys
  holds_once gate [] xs ys these those = let e : xs ≡ [] = these in e ∙ sym (let f : ys ≡ [] = those in f)
  holds_once gate (b ∷ bs) xs ys these those =
      let front = records_once (gate + 5) b these.0 those.0 these.3 those.3 in
      let back = holds_once (gate + 5 + length b) bs these.1 those.1 these.4 those.4 in
      these.2 ∙ ap (λ (f : List (ℕ × Record)). f ++ these.1) front ∙ ap (λ (k : List (ℕ × Record)). those.0 ++ k) back ∙ sym those.2

  -- a file ends at one gate, with the same records
  pub ends_once : (bytes : List ℕ) (gate other : ℕ) (xs ys : List (ℕ × Record)) → EndsIn version bytes gate xs → EndsIn version bytes other ys → (gate ≡ other) × (xs ≡ ys)
  ends_once bytes gate other xs ys this that =
      let same = same_batches this.batches that.batches this.text.gate that.text.gate this.text.rest that.text.rest this.text.each that.text.each this.text.closed that.text.closed (sym this.text.text ∙ that.text.text) in (
        this.place ∙ ap (λ (bs : List (List ℕ)). length (gated bs)) same ∙ sym that.place,
        holds_once 0 that.batches xs ys (subst (λ (bs : List (List ℕ)). HoldRecords version 0 bs xs) same this.holds) that.holds,
      )

unfoldable pub generation_of : List (ℕ × Record) → ℕ
generation_of [] = 0
generation_of ((at, Header node generation) ∷ items) = generation
generation_of ((at, Prepare txn coord count reads writes) ∷ items) = 0
generation_of ((at, Commit txn members) ∷ items) = 0
generation_of ((at, Abort txn) ∷ items) = 0
generation_of ((at, End txn) ∷ items) = 0
generation_of ((at, Checkpoint rows undos committed) ∷ items) = 0

pub file_once : (node : Node) (bytes : List ℕ) (gate other g h : ℕ) → IsLogFile node bytes gate (Some g) → IsLogFile node bytes other (Some h) → (gate ≡ other) × (g ≡ h)
unfolding generation_of
file_once node bytes gate other g h this that =
    let version = versions_once this.0 that.0 this.1.1 that.1.1 node bytes gate other g h this.1.0 that.1.0 this.1.2 that.1.2 in
    let here : EndsIn that.0 bytes gate ((5, Header node g) ∷ this.1.0) = subst (λ (v : ℕ). EndsIn v bytes gate ((5, Header node g) ∷ this.1.0)) version this.1.2 in
    let same = ends_once that.0 that.1.1 bytes gate other ((5, Header node g) ∷ this.1.0) ((5, Header node h) ∷ that.1.0) here that.1.2 in
    (same.0, ap generation_of same.1)

-- a file without a batch has no record
pub none_has : (version : ℕ) (bytes : List ℕ) (gate : ℕ) (x : ℕ × Record) (items : List (ℕ × Record)) → IsLogText bytes [] → EndsIn version bytes gate (x ∷ items) → ⊥
none_has version bytes gate x items none e =
    let text : IsLogText bytes e.batches = subst (λ (b : List ℕ). IsLogText b e.batches) (sym e.text.text) (hides e.batches e.text.gate e.text.rest e.text.each e.text.closed) in
    let empty : x ∷ items ≡ [] = subst (λ (bs : List (List ℕ)). HoldRecords version 0 bs (x ∷ items)) (reads_once bytes e.batches [] text none) e.holds in
    absurd (cc)

-- an older file has a smaller generation
pub smaller : (node : Node) (bytes : List ℕ) (gate g h : ℕ) → IsLogFile node bytes gate (Some g) → IsOlder node bytes h → g < h
smaller node bytes gate g h file older = elim older [
  | inl none ↦ absurd (none_has file.0 bytes gate (5, Header node g) file.1.0 none file.1.2)
  | inr less ↦ omega (arith, less.3, (file_once node bytes gate less.0 g less.1 file less.2).1)
]

pub first_is : (node : Node) (a b : DiskView) (log : LogView) (v g : ℕ) (items : List (ℕ × Record)) (c : IsCurrentOf node v g a.state.stable b.state.stable items) → IsAttached node a b log → log ≡ built node v a b c.gate g
first_is node a b log v g items c attached =
    let file : IsLogFile node a.state.stable c.gate (Some g) = (v, log_file_in node g v c.known a.state.stable c.gate items c.ends c.header) in
    elim attached [
      | inl fresh ↦ absurd (none_has file.0 a.state.stable c.gate (5, Header node g) file.1.0 fresh.1 file.1.2)
      | inr live ↦ elim live [
        | inl one ↦
            let same = file_once node a.state.stable c.gate one.gate g one.generation file (one.version, one.file) in
            let version = versions_once v one.version c.known one.file.1 node a.state.stable c.gate one.gate g one.generation file.1.0 one.file.0 file.1.2 one.file.2 in
            one.is ∙ ap (λ (n : ℕ). built node one.version a b n one.generation) (sym same.0) ∙ ap (λ (n : ℕ). built node one.version a b c.gate n) (sym same.1) ∙ ap (λ (n : ℕ). built node n a b c.gate g) (sym version)
        | inr other ↦
            absurd (omega (arith, smaller node a.state.stable c.gate g other.generation file other.older, smaller node b.state.stable other.gate other.generation g (other.version, other.file) c.older))
      ]
    ]

pub second_is : (node : Node) (a b : DiskView) (log : LogView) (v g : ℕ) (items : List (ℕ × Record)) (c : IsCurrentOf node v g b.state.stable a.state.stable items) → IsAttached node a b log → log ≡ built node v b a c.gate g
second_is node a b log v g items c attached =
    let file : IsLogFile node b.state.stable c.gate (Some g) = (v, log_file_in node g v c.known b.state.stable c.gate items c.ends c.header) in
    elim attached [
      | inl fresh ↦ absurd (none_has file.0 b.state.stable c.gate (5, Header node g) file.1.0 fresh.2 file.1.2)
      | inr live ↦ elim live [
        | inl other ↦
            absurd (omega (arith, smaller node b.state.stable c.gate g other.generation file other.older, smaller node a.state.stable other.gate other.generation g (other.version, other.file) c.older))
        | inr one ↦
            let same = file_once node b.state.stable c.gate one.gate g one.generation file (one.version, one.file) in
            let version = versions_once v one.version c.known one.file.1 node b.state.stable c.gate one.gate g one.generation file.1.0 one.file.0 file.1.2 one.file.2 in
            one.is ∙ ap (λ (n : ℕ). built node one.version b a n one.generation) (sym same.0) ∙ ap (λ (n : ℕ). built node one.version b a c.gate n) (sym same.1) ∙ ap (λ (n : ℕ). built node n b a c.gate g) (sym version)
      ]
    ]
