-- What became stable decides exactly the transactions whose commit record became stable at their deciding node.
use Rattle.std.proofs.Common.{◌≡◌, ℕ, true, false, List, [], ◌∷◌, ◌++◌, map, reverse, refl, sym, ap, ◌∙◌, subst}
use Rattle.std.proofs.lemmas.List.{reverse-append}
use Rattle.co_base.specs.declared.mark.Mark.{Mark}
use Rattle.co_base.specs.declared.node.Node.{Node}
use Rattle.co_record.specs.declared.record.Record.{Record}
use Rattle.co_record.specs.declared.record.Record.TheVariants as log
use Rattle.co_state.specs.Table.{Table, look}
use Rattle.co_plain.specs.declared.session.Decided.{Decided}
use Rattle.co_plain.specs.declared.session.Session.{Session}
use Rattle.co_plain.specs.LogWrite.{marks_of}
use Rattle.co_record.specs.Marks.{mark_of}
use Rattle.co_plain.specs.Federation.{decided_where, decide_all}
use Rattle.co_plain.specs.Invariants.{ends_only}
use Rattle.co_law_base.proofs.Facts.{Rest, OnlyAborts}

-- the record decides nothing at this node
abbrev pub Quiet : Table Session → Node → Record → Type 0
Quiet sessions at (log.Header a b) = Unit {0}
Quiet sessions at (log.Prepare a b c d e) = Unit {0}
Quiet sessions at (log.Commit t members) = (ds : List Decided) → decided_where (look sessions t) at t ds ≡ ds
Quiet sessions at (log.Abort t) = Unit {0}
Quiet sessions at (log.End t) = Unit {0}
Quiet sessions at (log.Checkpoint a b c) = Unit {0}

abbrev pub AllQuiet : Table Session → Node → List Record → Type 0
AllQuiet sessions at [] = Unit {0}
AllQuiet sessions at (r ∷ rs) = Quiet sessions at r × AllQuiet sessions at rs

pub quiet_more : (sessions : Table Session) (at : Node) (xs ys : List Record) → AllQuiet sessions at xs → AllQuiet sessions at ys → AllQuiet sessions at (xs ++ ys)
quiet_more sessions at [] ys p q = q
quiet_more sessions at (x ∷ xs) ys p q = (p.0, quiet_more sessions at xs ys p.1 q)

quiet_turned : (sessions : Table Session) (at : Node) (rs : List Record) → AllQuiet sessions at rs → AllQuiet sessions at (reverse rs)
quiet_turned sessions at [] q = tt
quiet_turned sessions at (r ∷ rs) q =
    subst (AllQuiet sessions at) (sym (reverse-append (r ∷ []) rs)) (quiet_more sessions at (reverse rs) (r ∷ []) (quiet_turned sessions at rs q.1) (q.0, tt))

one_quiet : (sessions : Table Session) (at : Node) (ds : List Decided) (r : Record) (rest : List Mark) → Quiet sessions at r → decide_all sessions ds (mark_of at r ∷ rest) ≡ decide_all sessions ds rest
one_quiet sessions at ds (log.Header a b) rest q = refl
one_quiet sessions at ds (log.Prepare a b c d e) rest q = refl
one_quiet sessions at ds (log.Commit t members) rest q = ap (λ k. decide_all sessions k rest) (q ds)
one_quiet sessions at ds (log.Abort t) rest q = refl
one_quiet sessions at ds (log.End t) rest q = refl
one_quiet sessions at ds (log.Checkpoint a b c) rest q = refl

all_quiet : (sessions : Table Session) (at : Node) (ds : List Decided) (rs : List Record) (rest : List Mark) → AllQuiet sessions at rs → decide_all sessions ds (map (mark_of at) rs ++ rest) ≡ decide_all sessions ds rest
all_quiet sessions at ds [] rest q = refl
all_quiet sessions at ds (r ∷ rs) rest q = one_quiet sessions at ds r (map (mark_of at) rs ++ rest) q.0 ∙ all_quiet sessions at ds rs rest q.1

no_rest : {A : Type 0} (xs : List A) → xs ++ [] ≡ xs
no_rest [] = refl
no_rest (x ∷ xs) = ap (λ ys. x ∷ ys) (no_rest xs)

map_more : {A B : Type 0} (f : A → B) (xs ys : List A) → map f (xs ++ ys) ≡ map f xs ++ map f ys
map_more f [] ys = refl
map_more f (x ∷ xs) ys = ap (λ zs. f x ∷ zs) (map_more f xs ys)

-- records that decide nothing
pub quiet_marks : (sessions : Table Session) (at : Node) (ds : List Decided) (rs : List Record) → AllQuiet sessions at rs → decide_all sessions ds (marks_of at rs) ≡ ds
quiet_marks sessions at ds rs q = ap (decide_all sessions ds) (sym (no_rest (map (mark_of at) (reverse rs)))) ∙ all_quiet sessions at ds (reverse rs) [] (quiet_turned sessions at rs q)

-- a commit record over records that decide nothing
pub commit_marks : (sessions : Table Session) (at : Node) (ds : List Decided) (t : ℕ) (members : List ℕ) (rs : List Record) → AllQuiet sessions at rs →
    decide_all sessions ds (marks_of at (log.Commit t members ∷ rs)) ≡ decided_where (look sessions t) at t ds
commit_marks sessions at ds t members rs q =
    ap (λ k. decide_all sessions ds (map (mark_of at) k)) (reverse-append (log.Commit t members ∷ []) rs)
    ∙ ap (decide_all sessions ds) (map_more (mark_of at) (reverse rs) (log.Commit t members ∷ []))
    ∙ all_quiet sessions at ds (reverse rs) (map (mark_of at) (log.Commit t members ∷ [])) (quiet_turned sessions at rs q)

pub aborts_quiet : (r : Rest) (sessions : Table Session) (at : Node) (rs : List Record) → OnlyAborts r rs → AllQuiet sessions at rs
aborts_quiet r sessions at [] w = tt
aborts_quiet r sessions at (log.Abort t ∷ rs) w = (tt, aborts_quiet r sessions at rs w.1)
aborts_quiet r sessions at (log.Header a b ∷ rs) w = absurd w
aborts_quiet r sessions at (log.Prepare a b c d e ∷ rs) w = absurd w
aborts_quiet r sessions at (log.Commit a b ∷ rs) w = absurd w
aborts_quiet r sessions at (log.End a ∷ rs) w = absurd w
aborts_quiet r sessions at (log.Checkpoint a b c ∷ rs) w = absurd w

pub ends_quiet : (sessions : Table Session) (at : Node) (rs : List Record) → ends_only rs ≡ true → AllQuiet sessions at rs
ends_quiet sessions at [] e = tt
ends_quiet sessions at (log.End t ∷ rs) e = (tt, ends_quiet sessions at rs e)
ends_quiet sessions at (log.Header a b ∷ rs) e = absurd (let z : false ≡ true = e in cc)
ends_quiet sessions at (log.Prepare a b c d x ∷ rs) e = absurd (let z : false ≡ true = e in cc)
ends_quiet sessions at (log.Commit a b ∷ rs) e = absurd (let z : false ≡ true = e in cc)
ends_quiet sessions at (log.Abort a ∷ rs) e = absurd (let z : false ≡ true = e in cc)
ends_quiet sessions at (log.Checkpoint a b c ∷ rs) e = absurd (let z : false ≡ true = e in cc)
