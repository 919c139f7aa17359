-- A filled spare tells what memory has.
use Rattle.std.proofs.Common.{◌≡◌, ℕ, Bool, true, false, cond, ◌||◌, if◌then◌else◌, T, List, [], ◌∷◌, map, Option, None, Some, refl, sym, ap, ◌∙◌}
use Rattle.std.proofs.lemmas.Cmp.{nat_list_cmp_total}
use Rattle.std.specs.Ordering.{nat_cmp, eq_by_cmp}
use Rattle.std.specs.FinMap.{get, entries, entries_sorted, get-entries, keys, same_map, slice_cmp-IsAntisymmetric, nat_cmp-IsAntisymmetric}
use Rattle.std.specs.FinMap.Entries.{find, is_sorted}
use Rattle.co_base.specs.declared.head.Kind.{Kind}
use Rattle.co_base.specs.declared.head.Kind.TheVariants.{Lock, Occ, Mv}
use Rattle.co_base.specs.declared.node.Node.TheVariants as node
use Rattle.co_base.specs.declared.written.Written.{Written}
use Rattle.co_record.specs.declared.record.Record.{Record}
use Rattle.co_record.specs.declared.record.Record.TheVariants as log
use Rattle.co_serial.specs.Records.{Records, with_change, with_changes, all_rows}
use Rattle.co_state.specs.declared.engine_state.EngineState.{EngineState}
use Rattle.co_state.specs.declared.engine_state.Vote.{Vote}
use Rattle.co_state.proofs.Rows.{records_from-rows}
use Rattle.co_state.proofs.Tables.{same_table}
use Rattle.co_state.specs.Table.{Table, look, put, no_entries}
use Rattle.co_state.specs.Keys.{same_key, writes_key}
use Rattle.co_state.specs.EngineState.{installed_records}
use Rattle.co_state.specs.Effects.{records_from, undecided_changes, undo_of, dumped_rows, dumped_undos}
use Rattle.co_plain.specs.declared.member_state.MemberState.{MemberState}
use Rattle.co_plain.specs.Numbers.{next_generation}
use Rattle.co_plain.specs.LogWrite.{with_filled_spare, generation_of}
use Rattle.co_plain.specs.MemberView.{Numbers, with_number, with_numbers, recovered_view}
use Rattle.co_plain.specs.MemberStep.{with_log}
use Rattle.co_plain.specs.Member.{prepare_record}
use Rattle.co_plain.specs.MemberLog.{prepares_onto, member_spare}
use Rattle.co_plain.specs.Federation.{Federation}
use Rattle.co_plain.specs.Invariants.{Memory, Stable, view}
use Rattle.co_plain.specs.Moves.{FillMemberSpare, effect, Guard}
use Rattle.co_law_engine.proofs.Keys.{same_key_is, same_key_sym, get-change, unchanged}
use Rattle.co_law_engine.proofs.YesTells.{in_some}
use Rattle.co_law_base.proofs.Lookups.{is_nothing, look_none, put_here, put_there, own_number, same_number}
use Rattle.co_law_base.proofs.Commits.{none_below, both_T}
use Rattle.co_law_base.proofs.Facts.{rest_of, ViewFacts, MemberFacts, Facts}
use Rattle.co_law_base.proofs.TwoViews.{both_sides, forced}
use Rattle.co_law_base.proofs.MemberFrame.{member_change}

-- entries laid into a table one after another
abbrev put_all : {X : Type 0} → Table X → List (ℕ × X) → Table X
put_all table [] = table
put_all table (e ∷ es) = put_all (put table e.0 e.1) es

other_all : {X : Type 0} (es : List (ℕ × X)) (table : Table X) (t : ℕ) → find nat_cmp t es ≡ None → look (put_all table es) t ≡ look table t
other_all [] table t n = refl
other_all {X} (e ∷ es) table t n = by (other_all es (put table e.0 e.1) t) (eq_by_cmp nat_cmp t e.0) refl
  where
    by : (find nat_cmp t es ≡ None → look (put_all (put table e.0 e.1) es) t ≡ look (put table e.0 e.1) t) → (b : Bool) → eq_by_cmp nat_cmp t e.0 ≡ b → look (put_all (put table e.0 e.1) es) t ≡ look table t
    by rest true g = absurd (let f : Some e.1 ≡ None = sym (ap (λ c. cond c (Some e.1) (find nat_cmp t es)) g) ∙ n in cc)
    by rest false g =
        rest (sym (ap (λ c. cond c (Some e.1) (find nat_cmp t es)) g) ∙ n)
        ∙ put_there table e.0 e.1 t (λ q. let f : false ≡ true = sym g ∙ ap (λ k. eq_by_cmp nat_cmp k e.0) (sym q) ∙ own_number e.0 in cc)

found_all : {X : Type 0} (es : List (ℕ × X)) (table : Table X) (t : ℕ) (x : X) → T (is_sorted nat_cmp es) → find nat_cmp t es ≡ Some x → look (put_all table es) t ≡ Some x
found_all [] table t x s f = is_nothing f
found_all {X} (e ∷ es) table t x s f = by (found_all es (put table e.0 e.1) t x (both_T _ _ s).1) (eq_by_cmp nat_cmp t e.0) refl
  where
    by : (find nat_cmp t es ≡ Some x → look (put_all (put table e.0 e.1) es) t ≡ Some x) → (b : Bool) → eq_by_cmp nat_cmp t e.0 ≡ b → look (put_all (put table e.0 e.1) es) t ≡ Some x
    by rest false g = rest (sym (ap (λ c. cond c (Some e.1) (find nat_cmp t es)) g) ∙ f)
    by rest true g =
        let same : t ≡ e.0 = same_number t e.0 g in
        let is : e.1 ≡ x = in_some (sym (ap (λ c. cond c (Some e.1) (find nat_cmp t es)) g) ∙ f) in
        other_all es (put table e.0 e.1) t (ap (λ k. find nat_cmp k es) same ∙ none_below e.0 es (both_T _ _ s).0)
        ∙ ap (look (put table e.0 e.1)) same ∙ put_here table e.0 e.1 ∙ ap Some is

-- all entries of a table make it again
rebuilt : {X : Type 0} (table : Table X) → put_all no_entries (entries table) ≡ table
rebuilt {X} table = same_table (put_all no_entries (entries table)) table (λ u. by u (look table u) refl)
  where
    by : (u : ℕ) (o : Option X) → look table u ≡ o → look (put_all no_entries (entries table)) u ≡ look table u
    by u None e = other_all (entries table) no_entries u (sym (get-entries table u) ∙ e) ∙ look_none u ∙ sym e
    by u (Some x) e = found_all (entries table) no_entries u x (entries_sorted table) (sym (get-entries table u) ∙ e) ∙ sym e

prepares : (rs : List Record) (es : List (ℕ × Vote)) → recovered_view (prepares_onto rs es) ≡ record { records = (recovered_view rs).records; voted = put_all (recovered_view rs).voted es; committed = (recovered_view rs).committed }
prepares rs [] = refl
prepares rs (e ∷ es) = prepares (prepare_record e.0 e.1.coord e.1.count e.1.sets ∷ rs) es

numbers : (n : Numbers) (es : List (ℕ × Unit {0})) → with_numbers n (map (λ e. e.0) es) ≡ put_all n es
numbers n [] = refl
numbers n (e ∷ es) = numbers (with_number n e.0) es

-- undos lead back to the records that they were taken from
undone : (ws : List Written) (i r : Records) (q : List ℕ) → (writes_key ws q ≡ false → get r q ≡ get i q) → get (with_changes r (map (undo_of i) ws)) q ≡ get i q
undone [] i r q h = h refl
undone (w ∷ ws) i r q h =
    undone ws i (with_change r w.key (get i w.key)) q
    (λ n. get-change r w.key (get i w.key) q ∙ by n (same_key q w.key) refl)
  where
    by : writes_key ws q ≡ false → (b : Bool) → same_key q w.key ≡ b → (if same_key q w.key then get i w.key else get r q) ≡ get i q
    by n true e = ap (λ b. if b then get i w.key else get r q) e ∙ ap (get i) (sym (same_key_is q w.key e))
    by n false e =
        ap (λ b. if b then get i w.key else get r q) e
        ∙ h (ap (λ b. b || writes_key ws q) (same_key_sym w.key q ∙ e) ∙ n)

dumped : (kind : Kind) (b : EngineState) → with_changes (records_from (dumped_rows kind b)) (dumped_undos kind b) ≡ installed_records b
dumped Occ b = records_from-rows (installed_records b)
dumped Mv b = records_from-rows (installed_records b)
dumped Lock b =
    same_map nat_list_cmp_total (slice_cmp-IsAntisymmetric nat_cmp-IsAntisymmetric) _ _
    (λ q. undone (undecided_changes b) (installed_records b) (records_from (all_rows (with_changes (installed_records b) (undecided_changes b)))) q
    (λ n. ap (λ r. get r q) (records_from-rows (with_changes (installed_records b) (undecided_changes b))) ∙ unchanged (undecided_changes b) (installed_records b) q n))

-- what a filled spare tells
pub spare_tells : (m : ℕ) (x : MemberState) (generation : ℕ) → recovered_view (member_spare m x generation) ≡ view Memory x
spare_tells m x generation =
    prepares (log.Checkpoint (dumped_rows x.engine.kind x.engine) (dumped_undos x.engine.kind x.engine) (keys x.committed) ∷ log.Header (node.Member m) generation ∷ []) (entries x.engine.voted)
    ∙ (λ i. record {
      records = dumped x.engine.kind x.engine i;
      voted = rebuilt x.engine.voted i;
      committed = (numbers no_entries (entries x.committed) ∙ rebuilt x.committed) i;
    })

pub keeps_member_fill : (s : Federation) → Facts s → (m : ℕ) → Guard s (FillMemberSpare m) → Facts (effect s (FillMemberSpare m))
keeps_member_fill s f m g =
    member_change s f m y
    (record {
      views = both_sides (ViewFacts (rest_of s) m) y same (x.views Memory);
      active = λ t os h. let a = x.active t os h in record { kept = a.kept; stamps = a.stamps; begun = a.begun; apart = a.apart };
      marked = x.marked;
      logged = same;
      waiting = tt;
    })
    (forced (rest_of s) m (s.member m) x y same (λ t l h. h) (λ t h. h))
  where
    x : MemberFacts (rest_of s) m (s.member m)
    x = f.members m

    generation : ℕ
    generation = next_generation (generation_of (s.member m).log.stable)

    y : MemberState
    y = with_log (s.member m) (with_filled_spare (s.member m).log (member_spare m (s.member m) generation))

    same : view Stable y ≡ view Memory y
    same = spare_tells m (s.member m) generation
