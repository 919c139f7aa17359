-- The operations that clients were told of, while they may still ask for the end.
use Rattle.std.proofs.Common.{◌≡◌, ℕ, suc, ◌+◌, ◌≤◌, Bool, true, false, if◌then◌else◌, List, [], ◌∷◌, length, Some, ap, arith}
use Rattle.std.specs.Cmp.{nat_cmp_total}
use Rattle.std.specs.Ordering.{nat_cmp}
use Rattle.std.specs.declared.cmp.Ordering.{Ordering}
use Rattle.std.specs.declared.cmp.Ordering.TheVariants.{Less, Equal, Greater}
use Rattle.std.specs.FinMap.{entries, nat_cmp-IsAntisymmetric}
use Rattle.std.specs.FinMap.Entries.{by_order}
use Rattle.co_base.specs.declared.node.Node.{Node}
use Rattle.co_base.specs.declared.part.Part.{Part}
use Rattle.co_state.specs.Table.{Table, look, put}
use Rattle.co_plain.specs.declared.session.Session.{Session}
use Rattle.co_plain.specs.declared.session.Told.{Told}
use Rattle.co_base.specs.Parts.{with_part}
use Rattle.co_plain.specs.Sessions.{parts_of, begun_by, with_told, asked_to_end}
use Rattle.co_law_sizes.proofs.Weights.{weighs, held, insert_weighs}

-- the operations that a client was told of, while it may still ask for the end
abbrev pub told_weight : ℕ → Session → ℕ
told_weight t session = if session.asked then 0 else length session.told

abbrev pub open_told : Table Session → ℕ
open_told sessions = weighs told_weight (entries sessions)

put_told : (sessions : Table Session) (t : ℕ) (session : Session) → open_told (put sessions t session) + held told_weight t (look sessions t) ≤ told_weight t session + open_told sessions
put_told sessions t session = insert_weighs nat_cmp_total nat_cmp-IsAntisymmetric told_weight sessions t session

-- no more members take part than operations were told of
few_more : (m : ℕ) (ps : List Part) → length (with_part m ps) ≤ suc (length ps)
few_more m [] = omega arith
few_more m (p ∷ ps) = by (few_more m ps) (nat_cmp m p.member)
  where
    by : length (with_part m ps) ≤ suc (length ps) → (r : Ordering) →
        length (by_order r (record { member = m; count = 1 } ∷ p ∷ ps) (record { member = p.member; count = p.count + 1 } ∷ ps) (p ∷ with_part m ps)) ≤ suc (suc (length ps))
    by rest Less = omega arith
    by rest Equal = omega arith
    by rest Greater = omega (arith, rest)

few_parts : (told : List Told) → length (parts_of told) ≤ length told
few_parts [] = omega arith
few_parts (o ∷ os) = omega (arith, few_more o.site.member (parts_of os), few_parts os)

-- who begins was told of nothing
pub begun_told : (sessions : Table Session) (t : ℕ) (at : Node) → open_told (put sessions t (begun_by at)) ≤ open_told sessions
begun_told sessions t at = omega (arith, put_told sessions t (begun_by at))

pub more_told : (sessions : Table Session) (t : ℕ) (session : Session) (o : Told) → look sessions t ≡ Some session → open_told (put sessions t (with_told session o)) ≤ 1 + open_told sessions
more_told sessions t session o e = omega (arith, put_told sessions t (with_told session o), ap (held told_weight t) e, by session.asked)
  where
    by : (b : Bool) → (if b then 0 else suc (length session.told)) ≤ 1 + (if b then 0 else length session.told)
    by true = omega arith
    by false = omega arith

pub asked_told : (sessions : Table Session) (t : ℕ) (session : Session) → open_told (put sessions t (asked_to_end session)) ≤ open_told sessions
asked_told sessions t session = omega (arith, put_told sessions t (asked_to_end session))

-- who asks for the end makes room for its participants
pub ended_told : (sessions : Table Session) (t : ℕ) (session : Session) → look sessions t ≡ Some session → session.asked ≡ false →
    open_told (put sessions t (asked_to_end session)) + length (parts_of session.told) ≤ open_told sessions
ended_told sessions t session e f =
    omega (arith, put_told sessions t (asked_to_end session), ap (held told_weight t) e, few_parts session.told, ap (λ (b : Bool). if b then 0 else length session.told) f)
