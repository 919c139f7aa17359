-- The counts of participants are those of the operations that were told.
use Rattle.std.proofs.Common.{◌≡◌, ℕ, ◌+◌, ◌==◌, Bool, true, false, if◌then◌else◌, List, [], ◌∷◌, refl, sym, ap, ◌∙◌}
use Rattle.std.proofs.lemmas.Bool.{eqb-true, eqb-false}
use Rattle.co_plain.specs.declared.session.Told.{Told}
use Rattle.co_base.specs.Parts.{count_among, with_part}
use Rattle.co_base.proofs.Parts.{ascends, ascends_more, counts_one, keeps_others}
use Rattle.co_plain.specs.Sessions.{count_at, parts_of}

parts_ascend : (os : List Told) → ascends (parts_of os)
parts_ascend [] = tt
parts_ascend (o ∷ os) = ascends_more o.site.member (parts_of os) (parts_ascend os)

-- a participant's count is the number of its answered operations
pub counts_told : (os : List Told) (m : ℕ) → count_among (parts_of os) m ≡ count_at os m
counts_told [] m = refl
counts_told (o ∷ os) m = by (counts_told os m) (o.site.member == m) refl
  where
    by : count_among (parts_of os) m ≡ count_at os m → (b : Bool) → (o.site.member == m) ≡ b → count_among (parts_of (o ∷ os)) m ≡ count_at (o ∷ os) m
    by rest true e =
        let same = eqb-true o.site.member m e in
        let one : count_among (with_part o.site.member (parts_of os)) m ≡ count_among (parts_of os) m + 1 =
        ap (λ k. count_among (with_part k (parts_of os)) m) same ∙ counts_one m (parts_of os) (parts_ascend os) in
        one ∙ ap (λ n. n + 1) rest ∙ ap (λ b. if b then count_at os m + 1 else count_at os m) (sym e)
    by rest false e =
        keeps_others o.site.member m (parts_of os) (eqb-false o.site.member m e)
        ∙ rest ∙ ap (λ b. if b then count_at os m + 1 else count_at os m) (sym e)
