-- Equal rows.
use Rattle.std.proofs.Common.{◌≡◌, ℕ, Bool, true, ◌&&◌, List, nat_eq, refl, subst}
use Rattle.std.specs.Cmp.Lexicographic.{pointwise}
use Rattle.std.proofs.lemmas.Bool.{and_parts, eqb-true, eq-eqb}
use Rattle.std.proofs.lemmas.Slice.Eq.{slice_eq-Decides}
use Rattle.co_serial.specs.declared.member_row.MemberRow.{MemberRow}

both : (a b : Bool) → a ≡ true → b ≡ true → (a && b) ≡ true
both a b p q = rw (p, q)

texts : (xs ys : List ℕ) → (pointwise nat_eq xs ys ≡ true → xs ≡ ys) × (xs ≡ ys → pointwise nat_eq xs ys ≡ true)
texts xs ys = slice_eq-Decides (λ a b. (eqb-true a b, eq-eqb a b)) xs ys (pointwise nat_eq xs ys) refl

abbrev pub row_eq : MemberRow → MemberRow → Bool
row_eq a b = nat_eq a.member b.member && (pointwise nat_eq a.row.key b.row.key && pointwise nat_eq a.row.value b.row.value)

itself : (a : MemberRow) → row_eq a a ≡ true
itself a = both _ _ (eq-eqb a.member a.member refl) (both _ _ ((texts a.row.key a.row.key).1 refl) ((texts a.row.value a.row.value).1 refl))

-- the test of rows decides whether they are equal
pub same_rows : (a b : MemberRow) → (row_eq a b ≡ true → a ≡ b) × (a ≡ b → row_eq a b ≡ true)
same_rows a b = (forward, λ e. subst (λ c. row_eq a c ≡ true) e (itself a))
  where
    forward : row_eq a b ≡ true → a ≡ b
    forward h =
        let p = and_parts _ _ h in
        let q = and_parts _ _ p.1 in
        let m = eqb-true a.member b.member p.0 in
        let key = (texts a.row.key b.row.key).0 q.0 in
        let value = (texts a.row.value b.row.value).0 q.1 in
        λ i. record { member = m i; row = record { key = key i; value = value i } }
