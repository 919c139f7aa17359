-- Where a transaction stands at a member.
use Rattle.std.proofs.Common.{◌≡◌, ℕ, Bool, true, false, Option, None, Some, refl, sym, subst}
use Rattle.std.proofs.lemmas.Bool.{eq-eqb}
use Rattle.co_state.specs.declared.engine_state.EngineState.{EngineState}
use Rattle.co_state.specs.declared.engine_state.Vote.{Vote}
use Rattle.co_state.specs.Table.{look, holds}
use Rattle.co_state.specs.Effects.{install_vote}
use Rattle.co_plain.specs.declared.standing.Standing.TheVariants.{IsActive, IsVoted, IsInstalled, IsAbsent}
use Rattle.co_plain.specs.MemberStep.{standing_by}
use Rattle.co_plain.specs.Member.{coord_in, coord_of}
use Rattle.co_plain.specs.Federation.{Federation}
use Rattle.co_plain.specs.Decisions.{votes_for}
use Rattle.co_law_base.proofs.Lookups.{holds_found}

-- where a transaction stands
pub active_is : (a v c : Bool) → standing_by a v c ≡ IsActive → a ≡ true
active_is true v c e = refl
active_is false true c e = absurd (let z : IsVoted ≡ IsActive = e in cc)
active_is false false true e = absurd (let z : IsInstalled ≡ IsActive = e in cc)
active_is false false false e = absurd (let z : IsAbsent ≡ IsActive = e in cc)

pub voted_is : (a v c : Bool) → standing_by a v c ≡ IsVoted → v ≡ true
voted_is true v c e = absurd (let z : IsActive ≡ IsVoted = e in cc)
voted_is false true c e = refl
voted_is false false true e = absurd (let z : IsInstalled ≡ IsVoted = e in cc)
voted_is false false false e = absurd (let z : IsAbsent ≡ IsVoted = e in cc)

pub installed_is : (a v c : Bool) → standing_by a v c ≡ IsInstalled → c ≡ true
installed_is true v c e = absurd (let z : IsActive ≡ IsInstalled = e in cc)
installed_is false true c e = absurd (let z : IsVoted ≡ IsInstalled = e in cc)
installed_is false false true e = refl
installed_is false false false e = absurd (let z : IsAbsent ≡ IsInstalled = e in cc)

pub absent_is : (a v c : Bool) → standing_by a v c ≡ IsAbsent → (a ≡ false) × (v ≡ false)
absent_is true v c e = absurd (let z : IsActive ≡ IsAbsent = e in cc)
absent_is false true c e = absurd (let z : IsVoted ≡ IsAbsent = e in cc)
absent_is false false true e = absurd (let z : IsInstalled ≡ IsAbsent = e in cc)
absent_is false false false e = (refl, refl)

-- who is voted is so for the coordinator of its vote
pub votes_own : (s : Federation) (m t : ℕ) → holds (s.member m).engine.voted t ≡ true → votes_for (look (s.member m).engine.voted t) (coord_of (s.member m) t) ≡ true
votes_own s m t h =
    let p = holds_found (s.member m).engine.voted t h in
    subst (λ o. votes_for o (coord_in o) ≡ true) (sym p.1) (eq-eqb p.0.coord p.0.coord refl)

-- an install leaves the kind
pub install_kind : (b : EngineState) (t : ℕ) (o : Option Vote) → (install_vote b t o).kind ≡ b.kind
install_kind b t None = refl
install_kind b t (Some vote) = refl
