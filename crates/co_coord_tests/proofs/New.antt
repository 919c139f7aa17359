-- A transaction that the log has not committed.
use Rattle.std.proofs.Common.{◌≡◌, ℕ, Bool, false, nat_eq, ◌||◌, List, [], ◌∷◌, ◌++◌, refl, sym, ap, ◌∙◌, arith}
use Rattle.std.specs.Prelude.{Ok}
use Rattle.std.specs.FinMap.{keys, contains_key-keys}
use Rattle.std.specs.Ordering.{nat_cmp, eq_by_cmp}
use Rattle.std.proofs.lemmas.Bool.Decides.{nat_tests}
use Rattle.std.specs.List.{list_any}
use Rattle.co_base.specs.declared.node.Node.{Node}
use Rattle.co_log.specs.LogView.{LogView}
use Rattle.co_node.specs.NodeLog.{RepresentsLog}
use Rattle.co_plain.specs.declared.log_state.LogState.{LogState}
use Rattle.co_recover.specs.Recovered.{IsCoordRecovery}
use Rattle.co_recover.specs.declared.past.CoordPast.{CoordPast}
use Rattle.co_record.specs.declared.record.Record.{Record}
use Rattle.co_record.specs.declared.record.Record.TheVariants as log
use Rattle.co_state.specs.Table.{holds}
use Rattle.co_state.proofs.Tables.{same_test}
use Rattle.co_plain.specs.CoordView.{has_commit_of}
use Rattle.co_plain.specs.MemberView.{Numbers}
use Rattle.co_law_node.specs.WholeCoords.{EndsAlone}

-- ends tell of no commit
pub ends_tell : (w stable : List Record) (t : ℕ) → EndsAlone w → has_commit_of (w ++ stable) t ≡ has_commit_of stable t
ends_tell [] stable t e = refl
ends_tell (log.End u ∷ rs) stable t e = ends_tell rs stable t e
ends_tell (log.Header a b ∷ rs) stable t e = absurd e
ends_tell (log.Prepare a b c d x ∷ rs) stable t e = absurd e
ends_tell (log.Commit a b ∷ rs) stable t e = absurd e
ends_tell (log.Abort a ∷ rs) stable t e = absurd e
ends_tell (log.Checkpoint a b c ∷ rs) stable t e = absurd e

-- a number that is not among those of a table
swapped : (u t : ℕ) → nat_eq u t ≡ nat_eq t u
swapped u t = grind (arith, nat_tests)

same_any : (f g : ℕ → Bool) (xs : List ℕ) → ((x : ℕ) → f x ≡ g x) → list_any f xs ≡ list_any g xs
same_any f g [] same = refl
same_any f g (x ∷ xs) same = ap (λ b. b || list_any f xs) (same x) ∙ ap (λ b. g x || b) (same_any f g xs same)

pub has_none : (numbers : Numbers) (t : ℕ) → list_any (λ u. nat_eq u t) (keys numbers) ≡ false → holds numbers t ≡ false
has_none numbers t none = contains_key-keys numbers t ∙ same_any (eq_by_cmp nat_cmp t) (λ u. nat_eq u t) (keys numbers) (λ u. same_test t u ∙ swapped t u) ∙ none

-- a transaction that the recovered log has not seen
pub unknown : (owner : Node) (log : LogView) (l : LogState) (members : ℕ) (past : CoordPast) (t : ℕ) → (s : RepresentsLog owner log l) → IsCoordRecovery members s.items (Ok past) → EndsAlone l.waiting → list_any (λ u. nat_eq u t) past.seen ≡ false → has_commit_of (l.waiting ++ l.stable) t ≡ false
unknown owner log l members past t s recovered ends none =
    ends_tell l.waiting l.stable t ends ∙ ap (λ rs. has_commit_of rs t) s.stable ∙ has_none _ t (ap (λ (p : CoordPast). list_any (λ u. nat_eq u t) p.seen) (sym recovered.1) ∙ none)
