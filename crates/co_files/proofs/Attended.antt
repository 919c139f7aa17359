-- A file that was attended to.
use Rattle.std.proofs.Common.{◌≡◌, ◌⊎◌, ◌∙◌, inl, inr, sym, Bool, true, List, []}
use Rattle.std.specs.Prelude.{ℕ, Result, Ok, Err, OnOk, OnErr}
use Rattle.co_files.specs.declared.call.Work.TheVariants.{Open, Make}
use Rattle.co_files.specs.declared.call.Call.{Call}
use Rattle.co_files.specs.Calls.{begun_by}
use Rattle.co_files.specs.Folder.{IsAttended}

-- a file that was begun is kept, or nothing is where there was no memory
pub kept_or_not : {E : Type 0} {path : List ℕ} {makes : Bool} {old new first : List Call} (result : Result (Unit {0}) E) → old ≡ []
    → (first ≡ begun_by (Open path)) ⊎ ((makes ≡ true) × (first ≡ begun_by (Make path))) → OnErr result (new ≡ old) → OnOk result (new ≡ first) → IsAttended path makes old new
kept_or_not (Ok done) none (inl opened) stays kept = inr (none, inl (kept ∙ opened))
kept_or_not (Ok done) none (inr (may, made)) stays kept = inr (none, inr (may, kept ∙ made))
kept_or_not (Err fault) none begun stays kept = inl stays

-- where there is no file behind it, there was none
pub none_before : {path : List ℕ} {makes : Bool} {old new : List Call} → IsAttended path makes old new → new ≡ [] → (old ≡ []) × (new ≡ [])
none_before (inl same) none = (sym same ∙ none, none)
none_before (inr (before, begun)) none = (before, none)
