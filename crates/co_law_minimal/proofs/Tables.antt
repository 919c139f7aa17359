-- What computes tables: how look-ups and entries go through what was laid in and taken out.
use Rattle.std.proofs.Common.{◌≡◌, ◌≢◌, ℕ, Bool, cond, not, true, false, List, [], ◌∷◌, length, Option, None, refl, sym, ap, ◌∙◌, arith}
use Rattle.std.specs.FinMap.{get-empty, get-entries, entries, entries_sorted, entries-insert, len-empty, len-entries, nat_cmp-IsAntisymmetric}
use Rattle.std.specs.FinMap.Entries.{put as put_in, where_key, is_sorted-where_key, find-where_key, same_entries}
use Rattle.std.specs.Cmp.{nat_cmp_total, eq_by_cmp_equiv}
use Rattle.std.specs.Ordering.{nat_cmp, eq_by_cmp}
use Rattle.co_base.specs.declared.node.Node.{Node}
use Rattle.co_base.specs.declared.node.Node.TheVariants as node
use Rattle.co_base.specs.declared.part.Part.{Part}
use Rattle.co_state.specs.declared.verdict.Verdict.{Verdict}
use Rattle.co_state.specs.declared.verdict.Verdict.TheVariants.{LostOperations, StaleRead, HeldBy, VoteYes}
use Rattle.co_state.specs.Table.{Table, no_entries, look, put, without}
use Rattle.co_state.proofs.Tables.{look-put, look-without}

none_of : {A : Type 0} (es : List A) → 0 ≡ length es → es ≡ []
none_of [] h = refl
none_of (e ∷ es) h = absurd (omega (arith, h))

pub entries_none : {X : Type 0} → entries (no_entries {X = X}) ≡ []
entries_none {X} = none_of (entries (no_entries {X = X})) (sym (len-empty nat_cmp X) ∙ len-entries (no_entries {X = X}))

pub entries_put : {X : Type 0} (m : Table X) (t : ℕ) (x : X) → entries (put m t x) ≡ put_in nat_cmp t x (entries m)
entries_put m t x = entries-insert nat_cmp_total m t x

pub entries_out : {X : Type 0} (m : Table X) (t : ℕ) → entries (without m t) ≡ where_key nat_cmp (λ x. not (eq_by_cmp nat_cmp t x)) (entries m)
entries_out {X} m t =
    same_entries nat_cmp nat_cmp_total nat_cmp-IsAntisymmetric (entries (without m t)) (where_key nat_cmp (λ x. not (eq_by_cmp nat_cmp t x)) (entries m)) (entries_sorted (without m t))
    (is_sorted-where_key nat_cmp (λ x. not (eq_by_cmp nat_cmp t x)) (entries m) (entries_sorted m))
    (λ q. sym (get-entries (without m t) q) ∙ look-without m t q
    ∙ ap (λ b. cond b None (look m q)) ((eq_by_cmp_equiv nat_cmp_total).symm q t)
    ∙ turned (eq_by_cmp nat_cmp t q) (look m q)
    ∙ ap (λ z. cond (not (eq_by_cmp nat_cmp t q)) z None) (get-entries m q)
    ∙ sym (find-where_key nat_cmp (λ x. not (eq_by_cmp nat_cmp t x)) q (λ x e. ap (λ z. not (eq_by_cmp nat_cmp t z)) (sym (nat_cmp-IsAntisymmetric q x e))) (entries m)))
  where
    turned : (b : Bool) (z : Option X) → cond b None z ≡ cond (not b) z None
    turned true z = refl
    turned false z = refl

pub ruleset tables = (look-put, look-without, get-empty, entries_none, entries_put, entries_out)

-- a coordinator is no member
pub no_member : {A : Type 0} (c n : ℕ) → node.Coord c ≡ node.Member n → A
no_member c n e = absurd (let z : true ≡ false = ap is_coord e in cc)
  where
    is_coord : Node → Bool
    is_coord (node.Coord c) = true
    is_coord (node.Member m) = false

pub some_parts : (p : Part) (ps : List Part) → p ∷ ps ≢ []
some_parts p ps e = let z : true ≡ false = ap is_cons e in cc
  where
    is_cons : List Part → Bool
    is_cons [] = false
    is_cons (q ∷ qs) = true

-- a verdict that is no yes
abbrev is_yes : Verdict → Bool
is_yes LostOperations = false
is_yes (StaleRead key) = false
is_yes (HeldBy u) = false
is_yes VoteYes = true

pub not_yes : (v w : Verdict) → v ≡ w → is_yes w ≡ false → v ≢ VoteYes
not_yes v w e n h = let z : true ≡ false = ap is_yes (sym h ∙ e) ∙ n in cc
