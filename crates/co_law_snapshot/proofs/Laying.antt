-- The serial run of some decided transactions at one member, and of one more among them.
use Rattle.std.proofs.Common.{◌≡◌, ◌≢◌, ℕ, Bool, true, false, cond, ◌||◌, ◌==◌, if◌then◌else◌, List, [], ◌∷◌, refl, sym, ap, ◌∙◌}
use Rattle.std.proofs.lemmas.Bool.{eqb-true, eqb-false}
use Rattle.std.proofs.lemmas.Cmp.{nat_list_cmp_total}
use Rattle.std.specs.FinMap.{get, same_map, slice_cmp-IsAntisymmetric, nat_cmp-IsAntisymmetric}
use Rattle.co_base.specs.declared.written.Written.{Written}
use Rattle.co_serial.specs.Records.{Records, with_changes}
use Rattle.co_serial.specs.SerialRun.{AllRecords, after_whole}
use Rattle.co_state.specs.Keys.{writes_key, writes_meet}
use Rattle.co_state.specs.Table.{holds}
use Rattle.co_plain.specs.declared.session.Decided.{Decided}
use Rattle.co_plain.specs.declared.session.Told.{Told}
use Rattle.co_plain.specs.MemberView.{Numbers, with_number}
use Rattle.co_plain.specs.Sessions.{told_at}
use Rattle.co_plain.specs.Decisions.{is_decided, sites_of}
use Rattle.co_plain.specs.Promises.{AreDecidedOnce}
use Rattle.co_plain.specs.Invariants.{told_changes}
use Rattle.co_law_engine.proofs.Keys.{changes_agree, unchanged, overlaid}
use Rattle.co_law_engine.proofs.SetsMade.{unwritten, meet_turned}
use Rattle.co_law_base.proofs.Commits.{holds_new}
use Rattle.co_law_base.proofs.Deciding.{serial_more}
use Rattle.co_law_base.proofs.Facts.{Each, serial_of}
use Rattle.co_law_base.proofs.ToldRuns.{leaves_changes}
use Rattle.co_law_moves.proofs.Onward.{holds_put_off}
use Rattle.co_law_snapshot.specs.Snapshot.{decided_among}

-- records are the same where each key has the same value
pub same_records : (r s : Records) → ((q : List ℕ) → get r q ≡ get s q) → r ≡ s
same_records r s h = same_map nat_list_cmp_total (slice_cmp-IsAntisymmetric nat_cmp-IsAntisymmetric) r s h

-- changes of other keys may be made in either order
turned : (r : Records) (ws vs : List Written) → writes_meet ws vs ≡ false → with_changes (with_changes r ws) vs ≡ with_changes (with_changes r vs) ws
turned r ws vs apart = same_records (with_changes (with_changes r ws) vs) (with_changes (with_changes r vs) ws) (λ q. by q (writes_key ws q) refl)
  where
    by : (q : List ℕ) (b : Bool) → writes_key ws q ≡ b → get (with_changes (with_changes r ws) vs) q ≡ get (with_changes (with_changes r vs) ws) q
    by q true w = unchanged vs (with_changes r ws) q (unwritten vs ws q (meet_turned ws vs apart) w) ∙ overlaid ws r (with_changes r vs) q w
    by q false w = changes_agree vs (with_changes r ws) r q (unchanged ws r q w) ∙ sym (unchanged ws (with_changes r vs) q w)

-- what a decided transaction changed at a member
abbrev pub changed_at : ℕ → Decided → List Written
changed_at m d = told_changes (told_at d.told m)

-- the changes of the decided ones among some, laid over; the newest stands first
abbrev pub laid : Numbers → ℕ → Records → List Decided → Records
laid numbers m start [] = start
laid numbers m start (d ∷ ds) = if holds numbers d.txn then with_changes (laid numbers m start ds) (changed_at m d) else laid numbers m start ds

-- that is what the serial run leaves
pub serial_laid : (start : AllRecords) (numbers : Numbers) (m : ℕ) (ds : List Decided) → serial_of start (decided_among numbers ds) m ≡ laid numbers m (start m) ds
serial_laid start numbers m [] = refl
serial_laid start numbers m (d ∷ ds) = by (serial_laid start numbers m ds) (holds numbers d.txn)
  where
    whole : (all : AllRecords) (told : List Told) → after_whole all (sites_of told) m ≡ with_changes (all m) (told_changes (told_at told m))
    whole all told = same_records (after_whole all (sites_of told) m) (with_changes (all m) (told_changes (told_at told m))) (leaves_changes all told m)

    by : serial_of start (decided_among numbers ds) m ≡ laid numbers m (start m) ds → (b : Bool) →
        serial_of start (cond b (d ∷ decided_among numbers ds) (decided_among numbers ds)) m
        ≡ (if b then with_changes (laid numbers m (start m) ds) (changed_at m d) else laid numbers m (start m) ds)
    by rest false = rest
    by rest true =
        ap (λ all. all m) (serial_more start d (decided_among numbers ds))
        ∙ whole (serial_of start (decided_among numbers ds)) d.told
        ∙ ap (λ r. with_changes r (changed_at m d)) rest

-- the same ones are among them
pub laid_alike : (some more : Numbers) (m : ℕ) (start : Records) (ds : List Decided) → Each (λ d. holds more d.txn ≡ holds some d.txn) ds → laid more m start ds ≡ laid some m start ds
laid_alike some more m start [] e = refl
laid_alike some more m start (d ∷ ds) e =
    λ i. if e.0 i then with_changes (laid_alike some more m start ds e.1 i) (changed_at m d) else laid_alike some more m start ds e.1 i

-- who is not decided is none of the decided ones
pub never_decided : (t : ℕ) (ds : List Decided) → is_decided ds t ≡ false → Each (λ d. t ≢ d.txn) ds
never_decided t [] n = tt
never_decided t (d ∷ ds) n = by (d.txn == t) refl (never_decided t ds)
  where
    by : (b : Bool) → (d.txn == t) ≡ b → (is_decided ds t ≡ false → Each (λ e. t ≢ e.txn) ds) → Each (λ e. t ≢ e.txn) (d ∷ ds)
    by true e rest = absurd (let z : true ≡ false = sym (ap (λ b. b || is_decided ds t) e) ∙ n in cc)
    by false e rest = ((λ q. eqb-false d.txn t e (sym q)), rest (sym (ap (λ b. b || is_decided ds t) e) ∙ n))

-- one more number changes nothing where it is none of the decided ones
pub laid_without : (numbers : Numbers) (t m : ℕ) (start : Records) (ds : List Decided) → Each (λ d. t ≢ d.txn) ds → laid (with_number numbers t) m start ds ≡ laid numbers m start ds
laid_without numbers t m start ds n = laid_alike numbers (with_number numbers t) m start ds (alike ds n)
  where
    alike : (es : List Decided) → Each (λ d. t ≢ d.txn) es → Each (λ d. holds (with_number numbers t) d.txn ≡ holds numbers d.txn) es
    alike [] n = tt
    alike (d ∷ es) n = (holds_put_off numbers t tt d.txn n.0, alike es n.1)

-- changes below are changes above, where no decided one meets them
pub laid_over : (numbers : Numbers) (m : ℕ) (start : Records) (ws : List Written) (ds : List Decided) → Each (λ d. writes_meet ws (changed_at m d) ≡ false) ds →
    laid numbers m (with_changes start ws) ds ≡ with_changes (laid numbers m start ds) ws
laid_over numbers m start ws [] a = refl
laid_over numbers m start ws (d ∷ ds) a = by (laid_over numbers m start ws ds a.1) (holds numbers d.txn)
  where
    by : laid numbers m (with_changes start ws) ds ≡ with_changes (laid numbers m start ds) ws → (b : Bool) →
        (if b then with_changes (laid numbers m (with_changes start ws) ds) (changed_at m d) else laid numbers m (with_changes start ws) ds)
        ≡ with_changes (if b then with_changes (laid numbers m start ds) (changed_at m d) else laid numbers m start ds) ws
    by rest false = rest
    by rest true = ap (λ r. with_changes r (changed_at m d)) rest ∙ turned (laid numbers m start ds) ws (changed_at m d) a.0

-- those that were decided after t leave what some changes write
abbrev pub LeftBehind : ℕ → ℕ → List Written → List Decided → Type 0
LeftBehind t m ws [] = Unit {0}
LeftBehind t m ws (d ∷ ds) = (is_decided ds t ≡ true → writes_meet ws (changed_at m d) ≡ false) × LeftBehind t m ws ds

-- One more decided one among them, with what it changed, is its changes above all.
pub laid_more : (numbers : Numbers) (t m : ℕ) (start : Records) (ws : List Written) (ds : List Decided) → holds numbers t ≡ false → AreDecidedOnce ds →
    is_decided ds t ≡ true → Each (λ d. t ≡ d.txn → changed_at m d ≡ ws) ds → LeftBehind t m ws ds →
    laid (with_number numbers t) m start ds ≡ with_changes (laid numbers m start ds) ws
laid_more numbers t m start ws [] new once h own behind = absurd (let z : false ≡ true = h in cc)
laid_more numbers t m start ws (d ∷ ds) new once h own behind =
    by (λ k. laid_more numbers t m start ws ds new once.1 k own.1 behind.1) (d.txn == t) refl
  where
    goal : Bool → Bool → Type 0
    goal a b =
        (if a then with_changes (laid (with_number numbers t) m start ds) (changed_at m d) else laid (with_number numbers t) m start ds)
        ≡ with_changes (if b then with_changes (laid numbers m start ds) (changed_at m d) else laid numbers m start ds) ws

    here : t ≡ d.txn → goal true false
    here e =
        ap (λ r. with_changes r (changed_at m d)) (laid_without numbers t m start ds (never_decided t ds (ap (is_decided ds) e ∙ once.0)))
        ∙ ap (with_changes (laid numbers m start ds)) (own.0 e)

    below : laid (with_number numbers t) m start ds ≡ with_changes (laid numbers m start ds) ws → is_decided ds t ≡ true → (b : Bool) → goal b b
    below rest k false = rest
    below rest k true = ap (λ r. with_changes r (changed_at m d)) rest ∙ turned (laid numbers m start ds) ws (changed_at m d) (behind.0 k)

    by : (is_decided ds t ≡ true → laid (with_number numbers t) m start ds ≡ with_changes (laid numbers m start ds) ws) → (b : Bool) → (d.txn == t) ≡ b →
        goal (holds (with_number numbers t) d.txn) (holds numbers d.txn)
    by rest true e =
        let same : t ≡ d.txn = sym (eqb-true d.txn t e) in
        let among : holds (with_number numbers t) d.txn ≡ true = ap (holds (with_number numbers t)) (sym same) ∙ holds_new numbers t in
        let unheld : holds numbers d.txn ≡ false = ap (holds numbers) (sym same) ∙ new in
        (λ i. if among i then with_changes (laid (with_number numbers t) m start ds) (changed_at m d) else laid (with_number numbers t) m start ds)
        ∙ here same
        ∙ (λ i. with_changes (if sym unheld i then with_changes (laid numbers m start ds) (changed_at m d) else laid numbers m start ds) ws)
    by rest false e =
        let other : t ≢ d.txn = λ q. eqb-false d.txn t e (sym q) in
        let k : is_decided ds t ≡ true = sym (ap (λ b. b || is_decided ds t) e) ∙ h in
        (λ i. if holds_put_off numbers t tt d.txn other i then with_changes (laid (with_number numbers t) m start ds) (changed_at m d) else laid (with_number numbers t) m start ds)
        ∙ below (rest k) k (holds numbers d.txn)
