-- What a member has in memory after a change of a transaction.
use Rattle.std.proofs.Common.{◌≡◌, ◌||◌, ℕ, true, false, Option, None, Some, is_some, refl, sym, ap, subst, ◌<◌, ◌⊎◌, inl, inr, ◌∙◌, arith}
use Rattle.co_state.specs.declared.engine_state.EngineState.{EngineState}
use Rattle.co_base.specs.declared.head.Kind.{Kind}
use Rattle.co_state.specs.Changes.{sets_of}
use Rattle.co_state.specs.EngineState.{is_undecided, operations_of, sets_at, sets_in}
use Rattle.co_state.specs.Effects.{after_drop, after_cast, after_install, install_vote}
use Rattle.co_state.specs.declared.engine_state.Vote.{Vote}
use Rattle.co_state.specs.Table.{Table, look, without, holds}
use Rattle.co_state.proofs.Tables.{same_table}
use Rattle.co_plain.specs.Member.{voted_state}
use Rattle.co_plain.specs.MemberStep.{standing_by, standing_of}
use Rattle.co_plain.specs.declared.member_state.AskedMark.{AskedMark}
use Rattle.co_plain.specs.declared.member_state.MemberState.{MemberState}
use Rattle.co_plain.specs.Numbers.{counted}
use Rattle.co_plain.specs.declared.standing.Standing.{Standing}
use Rattle.co_plain.specs.declared.standing.Standing.TheVariants.{IsActive, IsVoted, IsInstalled, IsAbsent}
use Rattle.co_undecided.proofs.Numbered.{here, gone, left, by_number}
use Rattle.co_undecided.specs.Kept.{mark_at}
use Rattle.co_undecided.specs.Represented.{Represents}
use Rattle.co_undecided.specs.declared.undecideds.Undecideds.{Undecideds}
use Rattle.co_member.specs.Plans.{marked_by, ballot_plan, prepare_plan}
use Rattle.co_member.specs.Standing.{RepresentsRunning}
use Rattle.co_member.specs.declared.running.Running.{Running}
use Rattle.co_member.proofs.Standings.{none_active, none_voted}

-- nothing is taken out where nothing is
pub without_none : {X : Type 0} (table : Table X) (t : ℕ) → look table t ≡ None → without table t ≡ table
without_none table t none = same_table (without table t) table (λ u. by_number (λ u. look (without table t) u ≡ look table u) t u (gone table t ∙ sym none) (λ n. left table t u n))

-- who is nowhere may be dropped
pub drop_none : {E : Type 0} (stands_for : E → EngineState → Type 0) (u : Undecideds E) (b : EngineState) (asked : Table AskedMark) (t : ℕ) → mark_at b t ≡ None → Represents stands_for u b asked
    → Represents stands_for u (after_drop b t) (without asked t)
drop_none stands_for u b asked t none r =
    let active = none_active (look b.active t) (look b.voted t) none in
    let voted = none_voted (look b.active t) (look b.voted t) none in
    let state : after_drop b t ≡ b = λ i. record b { active = without_none b.active t active i; voted = without_none b.voted t voted i } in
    let marks : without asked t ≡ asked = without_none asked t (r.marks t active) in
    subst (λ (s : EngineState). Represents stands_for u s (without asked t)) (sym state) (subst (λ (ms : Table AskedMark). Represents stands_for u b ms) (sym marks) r)

-- a member has the same committed ones, and an engine of its kind
pub keeps : {E : Type 0} (stands_for : E → EngineState → Type 0) (kind : Kind) (r : Running E) (u : Undecideds E) (x y : MemberState) → RepresentsRunning stands_for kind r x → Represents stands_for u y.engine y.asked
    → y.committed ≡ x.committed → y.engine.kind ≡ x.engine.kind → RepresentsRunning stands_for kind (record { undecided = u; committed = r.committed }) y
keeps stands_for kind r u x y s now same like = record { undecided = now; committed = same ∙ s.committed; kind = like ∙ s.kind }

-- a mark is of an active transaction alone
pub unmarked : (x : MemberState) (t coord count : ℕ) (s : Standing) → (s ≡ IsVoted) ⊎ ((s ≡ IsInstalled) ⊎ (s ≡ IsAbsent)) → marked_by x t coord count s ≡ x
unmarked x t coord count IsVoted is = refl
unmarked x t coord count IsInstalled is = refl
unmarked x t coord count IsAbsent is = refl
unmarked x t coord count IsActive (inl e) = absurd (let z : IsActive ≡ IsVoted = e in cc)
unmarked x t coord count IsActive (inr (inl e)) = absurd (let z : IsActive ≡ IsInstalled = e in cc)
unmarked x t coord count IsActive (inr (inr e)) = absurd (let z : IsActive ≡ IsAbsent = e in cc)

-- an install leaves the kind
kind_by : (b : EngineState) (t : ℕ) (vote : Option Vote) → (install_vote b t vote).kind ≡ b.kind
kind_by b t None = refl
kind_by b t (Some vote) = refl

pub installed_kind : (b : EngineState) (t : ℕ) → (after_install b t).kind ≡ b.kind
installed_kind b t = kind_by b t (look b.voted t)

-- ---- votes

pub balloted : (m t coord count : ℕ) (x : MemberState) (s : Standing) → (s ≡ IsActive) ⊎ (s ≡ IsAbsent) → prepare_plan m x t coord count s ≡ ballot_plan m x t coord count
balloted m t coord count x IsActive is = refl
balloted m t coord count x IsAbsent is = refl
balloted m t coord count x IsVoted (inl e) = absurd (let z : IsVoted ≡ IsActive = e in cc)
balloted m t coord count x IsVoted (inr e) = absurd (let z : IsVoted ≡ IsAbsent = e in cc)
balloted m t coord count x IsInstalled (inl e) = absurd (let z : IsInstalled ≡ IsActive = e in cc)
balloted m t coord count x IsInstalled (inr e) = absurd (let z : IsInstalled ≡ IsAbsent = e in cc)

pub counted_small : (n : ℕ) → n < 65536 → counted n ≡ n
counted_small n small = omega (arith, small)

-- who was active has voted once its vote is cast
pub cast_stands : (x : MemberState) (t coord count : ℕ) → standing_of (voted_state x t coord count) t ≡ IsVoted
cast_stands x t coord count =
    let b = after_cast x.engine t coord count in
    ap (λ a. standing_by a (holds b.voted t) (holds x.committed t)) (ap is_some (gone x.engine.active t)) ∙ ap (λ v. standing_by false v (holds x.committed t)) (ap is_some (here x.engine.voted t _))

-- and keeps what it read and wrote
pub cast_undecided : (x : MemberState) (t coord count : ℕ) → is_undecided (after_cast x.engine t coord count) t ≡ true
cast_undecided x t coord count =
    let b = after_cast x.engine t coord count in
    ap (λ a. a || holds b.voted t) (ap is_some (gone x.engine.active t)) ∙ ap is_some (here x.engine.voted t _)

pub cast_sets : (x : MemberState) (t coord count : ℕ) → sets_at (after_cast x.engine t coord count) t ≡ sets_of (operations_of x.engine t)
cast_sets x t coord count =
    let b = after_cast x.engine t coord count in
    ap (λ v. sets_in v (operations_of b t)) (here x.engine.voted t _)
