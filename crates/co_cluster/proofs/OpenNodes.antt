-- Who has something open: what a node has in memory, or what its log tells while it is down.
use Rattle.std.proofs.Common.{◌≡◌, ◌⊎◌, inl, inr, ℕ, Bool, true, false, not, ◌||◌, ◌==◌, ◌≤◌, List, [], ◌∷◌, length, map, Option, None, Some, refl, sym, ap, ◌∙◌, arith}
use Rattle.std.specs.FinMap.{entries}
use Rattle.std.specs.Option.{is_some}
use Rattle.std.proofs.lemmas.Bool.{or_cases}
use Rattle.std.proofs.lemmas.Bool.Decides.{nat_tests}
use Rattle.std.proofs.lemmas.Bool.{false_from_ne_true, true_from_ne_false, eqb-true, eqb-false}
use Rattle.co_base.specs.declared.head.Kind.{Kind}
use Rattle.co_plain.specs.CoordStep.{coord_down, table_onto, table_from}
use Rattle.co_plain.specs.CoordView.{recovered_commits}
use Rattle.co_plain.specs.Federation.{Federation}
use Rattle.co_plain.specs.MemberStep.{member_down_with}
use Rattle.co_plain.specs.MemberView.{recovered_view}
use Rattle.co_plain.specs.Quiet.{IsOpen, IsMember, IsCoordinator, InTable, ActiveAt, VotedAt}
use Rattle.co_plain.specs.declared.coord_state.CoordState.{CoordState}
use Rattle.co_plain.specs.declared.coord_state.Entry.{Entry}
use Rattle.co_plain.specs.declared.coord_state.Entry.TheVariants as entry
use Rattle.co_plain.specs.declared.log_state.LogState.{LogState}
use Rattle.co_plain.specs.declared.member_state.MemberState.{MemberState}
use Rattle.co_recover.specs.Recovered.{past_of_member, past_of_coord, decided_of, prepared_of}
use Rattle.co_state.specs.Table.{Table, look, holds, put, no_entries, first_in, least_where, lesser}
use Rattle.co_state.specs.declared.engine_state.EngineState.{EngineState}
use Rattle.co_law_base.proofs.Lookups.{look_none, put_here, put_there}
use Rattle.co_member.specs.Reading.{open_after}
use Rattle.co_undecided.proofs.Least.{IsLeast, table_least, passed}

-- ---- what is open in memory

abbrev any : {X : Type 0} → ℕ → X → Bool
any t x = true

passes : {X : Type 0} (t : ℕ) (o : Option X) → passed any t o ≡ is_some o
passes t None = refl
passes t (Some x) = refl

table_some : {X : Type 0} (table : Table X) (o : Option ℕ) → IsLeast (λ u. passed any u (look table u)) o → is_some o ≡ true → (t : ℕ) × (holds table t ≡ true)
table_some table None least e = absurd (let z : false ≡ true = e in cc)
table_some table (Some t) least e = (t, sym (passes t (look table t)) ∙ least.0)

table_none : {X : Type 0} (table : Table X) (o : Option ℕ) → IsLeast (λ u. passed any u (look table u)) o → is_some o ≡ false → (t : ℕ) → holds table t ≡ false
table_none table None least e t = sym (passes t (look table t)) ∙ least t
table_none table (Some u) least e t = absurd (let z : true ≡ false = e in cc)

pub tabled_some : (y : CoordState) → is_some (least_where any y.table) ≡ true → (t : ℕ) × (holds y.table t ≡ true)
tabled_some y = table_some y.table (least_where any y.table) (table_least any y.table)

pub tabled_none : (y : CoordState) → is_some (least_where any y.table) ≡ false → (t : ℕ) → holds y.table t ≡ false
tabled_none y = table_none y.table (least_where any y.table) (table_least any y.table)

some_lesser : (a b : Option ℕ) → is_some (lesser a b) ≡ (is_some a || is_some b)
some_lesser None b = refl
some_lesser (Some t) None = refl
some_lesser (Some t) (Some u) = refl

neither : (a b : Bool) → (a || b) ≡ false → (a ≡ false) × (b ≡ false)
neither true b e = absurd (let z : true ≡ false = e in cc)
neither false b e = (refl, e)

pub undecided_some : (b : EngineState) → is_some (open_after b None) ≡ true → (t : ℕ) × ((holds b.active t ≡ true) ⊎ (holds b.voted t ≡ true))
undecided_some b e = by (or_cases _ _ (sym (some_lesser (least_where any b.active) (least_where any b.voted)) ∙ e))
  where
    by : (is_some (least_where any b.active) ≡ true) ⊎ (is_some (least_where any b.voted) ≡ true) → (t : ℕ) × ((holds b.active t ≡ true) ⊎ (holds b.voted t ≡ true))
    by (inl h) = let x = table_some b.active (least_where any b.active) (table_least any b.active) h in (x.0, inl x.1)
    by (inr h) = let x = table_some b.voted (least_where any b.voted) (table_least any b.voted) h in (x.0, inr x.1)

pub undecided_none : (b : EngineState) → is_some (open_after b None) ≡ false → (t : ℕ) → (holds b.active t ≡ false) × (holds b.voted t ≡ false)
undecided_none b e t =
    let two = neither _ _ (sym (some_lesser (least_where any b.active) (least_where any b.voted)) ∙ e) in
    (table_none b.active (least_where any b.active) (table_least any b.active) two.0 t, table_none b.voted (least_where any b.voted) (table_least any b.voted) two.1 t)

-- ---- what logs tell

abbrev pub is_empty : {X : Type 0} → List X → Bool
is_empty [] = true
is_empty (x ∷ xs) = false

pub empty_is : {X : Type 0} (b : Bool) (xs ys : List X) → b ≡ (length xs == 0) → xs ≡ ys → not b ≡ not (is_empty ys)
empty_is {X} b xs ys is same = ap not (is ∙ ap (λ l. length l == 0) same ∙ by ys)
  where
    by : (zs : List X) → (length zs == 0) ≡ is_empty zs
    by [] = refl
    by (z ∷ zs) = grind (arith, nat_tests)

first_some : {X Y : Type 0} (f : ℕ × X → Y) (es : List (ℕ × X)) → is_some (first_in any es) ≡ not (is_empty (map f es))
first_some f [] = refl
first_some f (e ∷ es) = refl

none_active : (X : Type 0) → is_some (least_where any (no_entries {X = X})) ≡ false
none_active X = false_from_ne_true _ (λ h. let x = table_some (no_entries {X = X}) (least_where any no_entries) (table_least any no_entries) h in let z : false ≡ true = sym (ap is_some (look_none x.0)) ∙ x.1 in cc)

pub down_undecided : (kind : Kind) (l : LogState) (x : MemberState) → x ≡ member_down_with kind l → is_some (open_after x.engine None) ≡ not (is_empty (past_of_member (recovered_view l.stable)).voted)
down_undecided kind l x is =
    ap (λ (y : MemberState). is_some (open_after y.engine None)) is
    ∙ some_lesser (least_where any no_entries) (least_where any (recovered_view l.stable).voted)
    ∙ ap (λ b. b || is_some (least_where any (recovered_view l.stable).voted)) (none_active _)
    ∙ first_some prepared_of (entries (recovered_view l.stable).voted)

put_held : (table : Table Entry) (u : ℕ) (x : Entry) (t : ℕ) → holds table t ≡ true → holds (put table u x) t ≡ true
put_held table u x t h = by (u == t) refl
  where
    by : (b : Bool) → (u == t) ≡ b → holds (put table u x) t ≡ true
    by true e = ap (λ k. is_some (look (put table u x) k)) (sym (eqb-true u t e)) ∙ ap is_some (put_here table u x)
    by false e = ap is_some (put_there table u x t (eqb-false u t e)) ∙ h

held_onto : (es : List (ℕ × List ℕ)) (table : Table Entry) (t : ℕ) → holds table t ≡ true → holds (table_onto table es) t ≡ true
held_onto [] table t h = h
held_onto (e ∷ es) table t h = held_onto es (put table e.0 (entry.Committed e.1 [])) t (put_held table e.0 (entry.Committed e.1 []) t h)

pub down_tabled : (l : LogState) (y : CoordState) → y ≡ coord_down l → is_some (least_where any y.table) ≡ not (is_empty (past_of_coord (recovered_commits l.stable)).committed)
down_tabled l y is = ap (λ (z : CoordState). is_some (least_where any z.table)) is ∙ by (entries (recovered_commits l.stable).unended)
  where
    by : (es : List (ℕ × List ℕ)) → is_some (least_where any (table_from es)) ≡ not (is_empty (map decided_of es))
    by [] = none_active Entry
    by (e ∷ es) =
        true_from_ne_false _ (λ h. let here : holds (table_from (e ∷ es)) e.0 ≡ true = held_onto es (put no_entries e.0 (entry.Committed e.1 [])) e.0 (ap is_some (put_here no_entries e.0 (entry.Committed e.1 []))) in
        let none = table_none (table_from (e ∷ es)) (least_where any (table_from (e ∷ es))) (table_least any (table_from (e ∷ es))) h e.0 in
        let z : true ≡ false = sym here ∙ none in cc)

-- ---- what is open anywhere

pub none_is : {X : Type 0} (o : Option X) → is_some o ≡ false → o ≡ None
none_is None e = refl
none_is (Some x) e = absurd (let z : true ≡ false = e in cc)

pub member_opens : (s : Federation) (m : ℕ) → IsMember s m → is_some (open_after (s.member m).engine None) ≡ true → (t : ℕ) × IsOpen s t
member_opens s m own e = let x = undecided_some (s.member m).engine e in (x.0, by x.0 x.1)
  where
    by : (t : ℕ) → (holds (s.member m).engine.active t ≡ true) ⊎ (holds (s.member m).engine.voted t ≡ true) → IsOpen s t
    by t (inl h) = ActiveAt m own h
    by t (inr h) = VotedAt m own h

pub coord_opens : (s : Federation) (c : ℕ) → IsCoordinator s c → is_some (least_where any (s.coord c).table) ≡ true → (t : ℕ) × IsOpen s t
coord_opens s c own e = let x = tabled_some (s.coord c) e in (x.0, InTable c own x.1)

pub nothing_opens : (s : Federation) → ((m : ℕ) → 1 ≤ m → m ≤ length s.kinds → is_some (open_after (s.member m).engine None) ≡ false) →
    ((c : ℕ) → 1 ≤ c → c ≤ s.coordinators → is_some (least_where any (s.coord c).table) ≡ false) → (t : ℕ) → IsOpen s t → ⊥
nothing_opens s members coords t (InTable c own h) = let z : true ≡ false = sym h ∙ tabled_none (s.coord c) (coords c own.0 own.1) t in cc
nothing_opens s members coords t (ActiveAt m own h) = let z : true ≡ false = sym h ∙ (undecided_none (s.member m).engine (members m own.0 own.1) t).0 in cc
nothing_opens s members coords t (VotedAt m own h) = let z : true ≡ false = sym h ∙ (undecided_none (s.member m).engine (members m own.0 own.1) t).1 in cc
