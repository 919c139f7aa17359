-- Which version a file is of: its first record says it, so it is one for all records of the file.
use Rattle.std.proofs.Common.{◌≡◌, ℕ, zero, suc, ◌+◌, Bool, true, false, cond, eqb, List, [], ◌∷◌, ◌++◌, length, sym, ap, subst, ◌∙◌, refl, arith}
use Rattle.std.specs.Prelude.{Option, Some, None}
use Rattle.std.specs.List.{AllByRecursion}
use Rattle.co_base.specs.declared.node.Node.{Node}
use Rattle.co_frame.specs.LogText.{IsBatch, IsLogText}
use Rattle.co_frame.proofs.Texts.{same_batches, hides}
use Rattle.co_record.specs.declared.record.Record.{Record}
use Rattle.co_record.specs.declared.record.Record.TheVariants.{Header}
use Rattle.co_record.specs.Format.{IsVersion, newest, oldest}
use Rattle.co_record.specs.Spelling.{spelling}
use Rattle.co_record.specs.Stored.{AreRecords, HoldRecords, HasRecords, version_of, version_in}
use Rattle.co_log.specs.Current.{BeginsWith}
use Rattle.co_log.specs.LogFile.{EndsIn, EndsAt}
use Rattle.co_log.specs.LogView.{LogView, IsLive}
use Rattle.co_log.specs.Scanning.{IsLogFileIn, IsLogFile}

pub newest_known : IsVersion newest
newest_known = (omega arith, omega arith)

said : (version : ℕ) → IsVersion version → cond (eqb version newest) newest oldest ≡ version
said zero known = absurd (omega (arith, known.0))
said (suc zero) known = refl
said (suc (suc zero)) known = refl
said (suc (suc (suc n))) known = absurd (omega (arith, known.1))

-- batches are of one of the two versions
pub in_version : (batches : List (List ℕ)) → IsVersion (version_in batches)
in_version [] = (omega arith, omega arith)
in_version ([] ∷ batches) = (omega arith, omega arith)
in_version ((kind ∷ []) ∷ batches) = (omega arith, omega arith)
in_version ((kind ∷ version ∷ fields) ∷ batches) = by_test (eqb version newest)
  where
    by_test : (t : Bool) → IsVersion (cond t newest oldest)
    by_test true = (omega arith, omega arith)
    by_test false = (omega arith, omega arith)

-- batches whose first record is a header of a version are of that version
pub header_says : (version : ℕ) → IsVersion version → (batches : List (List ℕ)) → AllByRecursion IsBatch batches → (gate at : ℕ) (node : Node) (generation : ℕ) (items : List (ℕ × Record)) → HoldRecords version gate batches ((at, Header node generation) ∷ items) → version_in batches ≡ version
header_says version known [] each gate at node generation items holds = absurd (let none : (at, Header node generation) ∷ items ≡ [] = holds in cc)
header_says version known (b ∷ batches) each gate at node generation items holds = by_front holds.0 holds.2 holds.3
  where
    header : ℕ × Record
    header = (at, Header node generation)

    by_front : (front : List (ℕ × Record)) → header ∷ items ≡ front ++ holds.1 → AreRecords version (gate + 5) b front → version_of b ≡ version
    by_front [] both are = absurd (omega (arith, each.0.0, ap (λ (t : List ℕ). length t) (let e : b ≡ [] = are in e)))
    by_front (x ∷ front) both are =
        let same : header ≡ x = cc in
        let text : b ≡ spelling version (Header node generation) ++ are.2.0 = are.2.1 ∙ ap (λ (r : Record). spelling version r ++ are.2.0) (sym (ap (λ (p : ℕ × Record). p.1) same)) in
        ap version_of text ∙ said version known

-- a file that begins with a header is of one version
pub versions_once : (v w : ℕ) → IsVersion v → IsVersion w → (node : Node) (bytes : List ℕ) (gate other g h : ℕ) (xs ys : List (ℕ × Record)) → EndsIn v bytes gate ((5, Header node g) ∷ xs) → EndsIn w bytes other ((5, Header node h) ∷ ys) → v ≡ w
versions_once v w known_v known_w node bytes gate other g h xs ys this that =
    let same = same_batches this.batches that.batches this.text.gate that.text.gate this.text.rest that.text.rest this.text.each that.text.each this.text.closed that.text.closed (sym this.text.text ∙ that.text.text) in
    sym (header_says v known_v this.batches this.text.each 0 5 node g xs this.holds) ∙ ap version_in same ∙ header_says w known_w that.batches that.text.each 0 5 node h ys that.holds

-- a file that ends at a gate that is not open has its records
pub has_records : (version : ℕ) → IsVersion version → (node : Node) (generation : ℕ) (bytes : List ℕ) (gate : ℕ) (items : List (ℕ × Record)) → EndsIn version bytes gate ((5, Header node generation) ∷ items) → HasRecords bytes ((5, Header node generation) ∷ items)
has_records version known node generation bytes gate items e = (
  e.batches,
  subst (λ (b : List ℕ). IsLogText b e.batches) (sym e.text.text) (hides e.batches e.text.gate e.text.rest e.text.each e.text.closed),
  subst (λ (v : ℕ). HoldRecords v 0 e.batches ((5, Header node generation) ∷ items)) (sym (header_says version known e.batches e.text.each 0 5 node generation items e.holds)) e.holds,
)

pub begun_records : (version : ℕ) (node : Node) (generation : ℕ) (bytes : List ℕ) (gate : ℕ) (items : List (ℕ × Record)) → IsVersion version → BeginsWith node generation items → EndsIn version bytes gate items → HasRecords bytes items
begun_records version node generation bytes gate [] known begins ends = absurd begins
begun_records version node generation bytes gate (x ∷ items) known begins ends =
    subst (λ (y : ℕ × Record). HasRecords bytes (y ∷ items)) (sym begins) (has_records version known node generation bytes gate items (subst (λ (y : ℕ × Record). EndsIn version bytes gate (y ∷ items)) begins ends))

-- a log of the newest version ends with its records
pub ends_newest : (log : LogView) (items : List (ℕ × Record)) → log.version ≡ newest → IsLive log items → EndsAt log.current.state.stable log.gate items
ends_newest log items latest live = subst (λ (v : ℕ). EndsIn v log.current.state.stable log.gate items) latest live.ends

-- a file of a version is one of a log
pub file_of : (version : ℕ) (node : Node) (bytes : List ℕ) (gate : ℕ) (generation : Option ℕ) → IsLogFileIn version node bytes gate generation → IsLogFile node bytes gate generation
file_of version node bytes gate None file = file
file_of version node bytes gate (Some g) file = (version, file)
