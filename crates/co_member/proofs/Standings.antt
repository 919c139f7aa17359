-- Where a transaction stands, by its operations, its vote and the committed ones.
use Rattle.std.proofs.Common.{◌≡◌, ℕ, Bool, true, false, List, length, Option, None, Some, is_some, ◌⊎◌, inl, inr, refl, sym, ap, ◌∙◌}
use Rattle.co_state.specs.EngineState.{operations_in}
use Rattle.co_state.specs.Table.{Table, look, holds}
use Rattle.co_state.specs.VotingRule.{kept_count}
use Rattle.co_state.specs.declared.engine_state.EngineState.{EngineState}
use Rattle.co_state.specs.declared.engine_state.Operation.{Operation}
use Rattle.co_state.specs.declared.engine_state.Vote.{Vote}
use Rattle.co_plain.specs.MemberStep.{standing_by}
use Rattle.co_plain.specs.declared.standing.Standing.{Standing}
use Rattle.co_plain.specs.declared.standing.Standing.TheVariants.{IsActive, IsVoted, IsInstalled, IsAbsent}
use Rattle.co_plain.specs.declared.member_state.AskedMark.{AskedMark}
use Rattle.co_undecided.proofs.Readings.{coord_is}
use Rattle.co_undecided.specs.Kept.{coord_asked, coord_in, entry_of, kept_in, mark_of}
use Rattle.co_undecided.specs.Represented.{Represents, kept_at}
use Rattle.co_undecided.specs.declared.undecideds.Undecideds.{Undecideds}

-- ---- from the mark of the vote

pub stands_active : (os : Option (List Operation)) (vote : Option Vote) (c : Bool) → mark_of os vote ≡ Some false → standing_by (is_some os) (is_some vote) c ≡ IsActive
stands_active os (Some vote) c e = absurd (let z : Some true ≡ Some false = e in cc)
stands_active (Some os) None c e = refl
stands_active None None c e = absurd (let z : None ≡ Some false = e in cc)

pub stands_voted : (os : Option (List Operation)) (vote : Option Vote) (c : Bool) → (is_some vote ≡ true → os ≡ None) → mark_of os vote ≡ Some true → standing_by (is_some os) (is_some vote) c ≡ IsVoted
stands_voted os (Some vote) c apart e = ap (λ o. standing_by (is_some o) true c) (apart refl)
stands_voted (Some os) None c apart e = absurd (let z : Some false ≡ Some true = e in cc)
stands_voted None None c apart e = absurd (let z : None ≡ Some true = e in cc)

pub stands_else : (os : Option (List Operation)) (vote : Option Vote) (c : Bool) → mark_of os vote ≡ None → standing_by (is_some os) (is_some vote) c ≡ standing_by false false c
stands_else os (Some vote) c e = absurd (let z : Some true ≡ None = e in cc)
stands_else (Some os) None c e = absurd (let z : Some false ≡ None = e in cc)
stands_else None None c e = refl

-- who is neither active nor voted
pub none_active : (os : Option (List Operation)) (vote : Option Vote) → mark_of os vote ≡ None → os ≡ None
none_active os (Some vote) e = absurd (let z : Some true ≡ None = e in cc)
none_active (Some os) None e = absurd (let z : Some false ≡ None = e in cc)
none_active None None e = refl

pub none_voted : (os : Option (List Operation)) (vote : Option Vote) → mark_of os vote ≡ None → vote ≡ None
none_voted os (Some vote) e = absurd (let z : Some true ≡ None = e in cc)
none_voted os None e = refl

-- ---- to what is held

pub held_active : (a v c : Bool) → standing_by a v c ≡ IsActive → a ≡ true
held_active true v c e = refl
held_active false true c e = absurd (let z : IsVoted ≡ IsActive = e in cc)
held_active false false true e = absurd (let z : IsInstalled ≡ IsActive = e in cc)
held_active false false false e = absurd (let z : IsAbsent ≡ IsActive = e in cc)

pub held_voted : (a v c : Bool) → standing_by a v c ≡ IsVoted → (a ≡ false) × (v ≡ true)
held_voted true v c e = absurd (let z : IsActive ≡ IsVoted = e in cc)
held_voted false true c e = (refl, refl)
held_voted false false true e = absurd (let z : IsInstalled ≡ IsVoted = e in cc)
held_voted false false false e = absurd (let z : IsAbsent ≡ IsVoted = e in cc)

pub held_absent : (a v c : Bool) → standing_by a v c ≡ IsAbsent → (a ≡ false) × (v ≡ false)
held_absent true v c e = absurd (let z : IsActive ≡ IsAbsent = e in cc)
held_absent false true c e = absurd (let z : IsVoted ≡ IsAbsent = e in cc)
held_absent false false true e = absurd (let z : IsInstalled ≡ IsAbsent = e in cc)
held_absent false false false e = (refl, refl)

-- ---- who has not voted

pub unvoted_active : (os : Option (List Operation)) (vote : Option Vote) → (is_some vote ≡ true → os ≡ None) → is_some os ≡ true → is_some vote ≡ false
unvoted_active os None apart active = refl
unvoted_active os (Some vote) apart active = absurd (let z : false ≡ true = sym (ap is_some (apart refl)) ∙ active in cc)

pub unvoted_standing : (os : Option (List Operation)) (vote : Option Vote) (c : Bool) (s : Standing) → (is_some vote ≡ true → os ≡ None) → s ≡ standing_by (is_some os) (is_some vote) c → (s ≡ IsActive) ⊎ (s ≡ IsAbsent) → is_some vote ≡ false
unvoted_standing os vote c s apart at (inl e) = unvoted_active os vote apart (held_active (is_some os) (is_some vote) c (sym at ∙ e))
unvoted_standing os vote c s apart at (inr e) = (held_absent (is_some os) (is_some vote) c (sym at ∙ e)).1

-- who is marked is active, and has not voted
pub marked_unvoted : (os : Option (List Operation)) (vote : Option Vote) (mark : Option AskedMark) (k : AskedMark) → (is_some vote ≡ true → os ≡ None) → (os ≡ None → mark ≡ None) → mark ≡ Some k → is_some vote ≡ false
marked_unvoted os None mark k apart marks e = refl
marked_unvoted os (Some vote) mark k apart marks e = absurd (let z : None ≡ Some k = sym (marks (apart refl)) ∙ e in cc)

-- ---- one member, and two states that it stands for

unvoted_by : (vote other : Option Vote) → coord_asked vote ≡ coord_asked other → is_some vote ≡ false → is_some other ≡ false
unvoted_by None None e f = refl
unvoted_by None (Some v) e f = absurd (let z : None ≡ Some v.coord = e in cc)
unvoted_by (Some v) other e f = absurd (let z : true ≡ false = f in cc)

pub unvoted_alike : {E : Type 0} (stands_for : E → EngineState → Type 0) (u : Undecideds E) (b d : EngineState) (asked marks : Table AskedMark) (t : ℕ) → Represents stands_for u b asked → Represents stands_for u d marks
    → holds b.voted t ≡ false → holds d.voted t ≡ false
unvoted_alike stands_for u b d asked marks t r s =
    unvoted_by (look b.voted t) (look d.voted t)
    (sym (coord_is (look b.active t) (look b.voted t) (look asked t)) ∙ ap coord_in (sym (r.entries t) ∙ s.entries t) ∙ coord_is (look d.active t) (look d.voted t) (look marks t))

-- ---- what is kept

kept_by : (os : Option (List Operation)) (vote : Option Vote) (mark : Option AskedMark) → (is_some vote ≡ true → os ≡ None) → kept_in (entry_of os vote mark) ≡ length (operations_in os)
kept_by os (Some vote) mark apart = ap (λ o. length (operations_in o)) (sym (apart refl))
kept_by (Some os) None mark apart = refl
kept_by None None mark apart = refl

pub kept_is : {E : Type 0} (stands_for : E → EngineState → Type 0) (u : Undecideds E) (b : EngineState) (asked : Table AskedMark) (t : ℕ) → Represents stands_for u b asked → kept_at u t ≡ kept_count b t
kept_is stands_for u b asked t r = ap kept_in (r.entries t) ∙ kept_by (look b.active t) (look b.voted t) (look asked t) (r.apart t)
