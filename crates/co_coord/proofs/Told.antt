-- What the log of a coordinator tells: its records are lent, they are allowed, and its table is what they tell.
use Rattle.std.proofs.Common.{◌≡◌, ℕ, List, [], ◌∷◌, refl, sym, ap, subst, ◌∙◌}
use Rattle.std.specs.Prelude.{map, reverse, Some, None, Err}
use Rattle.std.specs.FinMap.{entries}
use Rattle.std.proofs.lemmas.List.{reverse-reverse}
use Rattle.co_base.specs.declared.node.Node.{Node}
use Rattle.co_disk.specs.DiskModel.{read_of}
use Rattle.co_log.specs.LogView.{LogView}
use Rattle.co_log.proofs.Unmade.{read_stable}
use Rattle.co_log.proofs.Versions.{begun_records}
use Rattle.co_node.specs.NodeLog.{RepresentsLog}
use Rattle.co_plain.specs.CoordStep.{table_from}
use Rattle.co_plain.specs.CoordView.{first_refused_at_coord, recovered_commits}
use Rattle.co_plain.specs.declared.log_state.LogState.{LogState}
use Rattle.co_record.specs.Stored.{HasRecords}
use Rattle.co_recover.specs.Recovered.{decided_of, past_of_coord, records_of, IsCoordRecovery}
use Rattle.co_recover.specs.declared.past.CoordPast.{CoordPast}
use Rattle.co_recover.specs.declared.fault.RecoverFault.TheVariants.{Inconsistent}
use Rattle.co_coord.specs.Opening.{pair_of, table_of, told_table}

-- a list of decided transactions is the table that it was made of
pairs_are : (es : List (ℕ × List ℕ)) → map pair_of (map decided_of es) ≡ es
pairs_are [] = refl
pairs_are (e ∷ es) = ap (λ (xs : List (ℕ × List ℕ)). e ∷ xs) (pairs_are es)

pub table_told : (l : LogState) (past : CoordPast) → past ≡ past_of_coord (recovered_commits l.stable) → table_of past.committed ≡ told_table l
table_told l past is = ap (λ (p : CoordPast). table_of p.committed) is ∙ ap table_from (pairs_are (entries (recovered_commits l.stable).unended))

-- the records of a log that stands are lent
pub log_records : (owner : Node) (log : LogView) (l : LogState) → (s : RepresentsLog owner log l) → HasRecords (read_of log.current.state) s.items
log_records owner log l s =
    let live = s.ordered.live in
    subst (λ (bytes : List ℕ). HasRecords bytes s.items) (sym (read_stable log.current.state live.still))
    (begun_records log.version log.node log.generation log.current.state.stable log.gate s.items live.known s.ordered.header live.ends)

-- they are the stable ones
oldest_first : (owner : Node) (log : LogView) (l : LogState) → (s : RepresentsLog owner log l) → reverse l.stable ≡ records_of s.items
oldest_first owner log l s = ap reverse s.stable ∙ reverse-reverse (records_of s.items)

-- no record of an allowed log is refused
pub never_refused : (owner : Node) (log : LogView) (l : LogState) (members at : ℕ) → (s : RepresentsLog owner log l) → first_refused_at_coord members (reverse l.stable) ≡ None → IsCoordRecovery members s.items (Err (Inconsistent at)) → ⊥
never_refused owner log l members at s allowed refused =
    let none = ap (first_refused_at_coord members) (sym (oldest_first owner log l s)) ∙ allowed in
    let clash : None ≡ Some refused.behind = sym none ∙ refused.first in
    absurd cc
