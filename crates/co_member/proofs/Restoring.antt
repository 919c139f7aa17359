-- What a member goes up with is what its records tell.
use Rattle.std.proofs.Common.{◌≡◌, ℕ, Bool, true, false, cond, ◌||◌, List, [], ◌∷◌, Option, None, Some, reverse, refl, sym, ap, subst, ◌∙◌}
use Rattle.std.proofs.lemmas.List.{reverse-reverse}
use Rattle.std.specs.Option.{is_some}
use Rattle.std.specs.List.{list_any}
use Rattle.std.specs.Ordering.{nat_cmp, eq_by_cmp}
use Rattle.std.specs.Cmp.{nat_cmp_total}
use Rattle.std.specs.FinMap.{keys, get, get-empty, get-insert, contains_key-keys, same_map, nat_cmp-IsAntisymmetric}
use Rattle.co_base.specs.declared.head.Kind.{Kind}
use Rattle.co_base.specs.declared.node.Node.{Node}
use Rattle.co_disk.specs.DiskModel.{laid_over, read_of}
use Rattle.co_log.proofs.Versions.{begun_records}
use Rattle.co_log.specs.LogView.{LogView}
use Rattle.co_node.specs.NodeLog.{RepresentsLog}
use Rattle.co_pairs.proofs.Votes.{votes_again}
use Rattle.co_pairs.specs.Votes.{votes_of, voted_of}
use Rattle.co_record.specs.Stored.{HasRecords}
use Rattle.co_recover.specs.Recovered.{IsRefusedAt, records_of}
use Rattle.co_serial.specs.Records.{all_rows}
use Rattle.co_state.proofs.Rows.{records_from-rows}
use Rattle.co_state.specs.Effects.{records_from, restored}
use Rattle.co_state.specs.Table.{no_entries}
use Rattle.co_plain.specs.MemberView.{Numbers, with_number, with_numbers, numbers_from, engine_from, first_refused_at_member}
use Rattle.co_plain.specs.declared.log_state.LogState.{LogState}
use Rattle.co_plain.specs.declared.member_view.MemberView.{MemberView}

either : {A : Type 0} (a b : Bool) (x y : A) → cond b x (cond a x y) ≡ cond (a || b) x y
either true true x y = refl
either true false x y = refl
either false true x y = refl
either false false x y = refl

laid : (ts : List ℕ) (n : Numbers) (q : ℕ) → get (with_numbers n ts) q ≡ cond (list_any (eq_by_cmp nat_cmp q) ts) (Some tt) (get n q)
laid [] n q = refl
laid (t ∷ ts) n q =
    laid ts (with_number n t) q ∙ ap (cond (list_any (eq_by_cmp nat_cmp q) ts) (Some tt)) (get-insert nat_cmp_total n t tt q)
    ∙ either (eq_by_cmp nat_cmp q t) (list_any (eq_by_cmp nat_cmp q) ts) (Some tt) (get n q)

only_there : (o : Option (Unit {0})) → cond (is_some o) (Some tt) None ≡ o
only_there None = refl
only_there (Some x) = refl

-- the numbers of a set give the set
pub numbers_again : (numbers : Numbers) → numbers_from (keys numbers) ≡ numbers
numbers_again numbers = same_map nat_cmp_total nat_cmp-IsAntisymmetric _ _
    (λ q. laid (keys numbers) no_entries q ∙ ap (cond (list_any (eq_by_cmp nat_cmp q) (keys numbers)) (Some tt)) (get-empty nat_cmp q)
    ∙ ap (λ b. cond b (Some tt) None) (sym (contains_key-keys numbers q)) ∙ only_there (get numbers q))

-- ---- what the records of a log tell

-- the current file of a log that stands for a plain log has its records
pub readable : (owner : Node) (log : LogView) (l : LogState) (r : RepresentsLog owner log l) → HasRecords (read_of log.current.state) r.items
readable owner log l r =
    let live = r.ordered.live in
    subst (λ pending. HasRecords (laid_over log.current.state.stable pending) r.items) (sym live.still)
    (begun_records log.version log.node log.generation log.current.state.stable log.gate r.items live.known r.ordered.header live.ends)

-- no record is refused where all are allowed
pub never_refused : (owner : Node) (log : LogView) (l : LogState) (coords at : ℕ) (r : RepresentsLog owner log l) → first_refused_at_member coords (reverse l.stable) ≡ None
    → IsRefusedAt r.items (first_refused_at_member coords (records_of r.items)) at → ⊥
never_refused owner log l coords at r allowed refused =
    let same : reverse l.stable ≡ records_of r.items = ap reverse r.stable ∙ reverse-reverse (records_of r.items) in
    let none : first_refused_at_member coords (records_of r.items) ≡ None = ap (first_refused_at_member coords) (sym same) ∙ allowed in
    let clash : None ≡ Some refused.behind = sym none ∙ refused.first in
    absurd cc

-- the rows and the list of votes of a view restore its engine
pub restored_view : (kind : Kind) (v : MemberView) → restored kind (records_from (all_rows v.records)) (votes_of (voted_of v.voted)) ≡ engine_from kind v
restored_view kind v = λ i. restored kind (records_from-rows v.records i) (votes_again v.voted i)
