-- Logs that are made where they are fresh, and the nodes on them.
use Rattle.std.proofs.Common.{◌≡◌, ◌≢◌, ◌⊎◌, inl, inr, ℕ, zero, suc, ◌<◌, Bool, true, false, eqb, List, [], ◌∷◌, ◌++◌, append-nil, refl, sym, ap, subst, ◌∙◌, length, get_or, if◌then◌else◌, ◌-◌, arith}
use Rattle.std.proofs.lemmas.Bool.{eqb-true, eqb-false}
use Rattle.std.proofs.lemmas.Bool.Decides.{nat_tests}
use Rattle.std.specs.Prelude.{nat_le, Err}
use Rattle.co_base.specs.declared.head.Kind.{Kind}
use Rattle.co_base.specs.Nodes.{IsValidNode}
use Rattle.co_base.specs.declared.mark.Mark.{Mark}
use Rattle.co_base.specs.declared.node.Node.{Node}
use Rattle.co_outside.specs.Home.{HomeView, HasFailed, IsClean, RestStays}
use Rattle.co_outside.specs.declared.spot.Spot.{Spot}
use Rattle.co_record.specs.declared.record.Record.{Record}
use Rattle.co_frame.specs.Gate.{begins_closed}
use Rattle.co_log.specs.Calls.{MayMake, IsMakeAnswer}
use Rattle.co_log.specs.Fresh.{IsFresh, IsMade}
use Rattle.co_log.specs.LogView.{LogView, IsHeld, HasSpots}
use Rattle.co_log.specs.Others.{BothWithin}
use Rattle.co_log.specs.declared.fault.LogFault.{LogFault}
use Rattle.co_log.specs.declared.fault.LogFault.TheVariants as log
use Rattle.co_log.proofs.Ordered.{attached_unarmed}
use Rattle.co_node.specs.NodeLog.{RepresentsLog}
use Rattle.co_node.proofs.Homes.{node_within, still_clean}
use Rattle.co_node.proofs.Opened.{made_stands}
use Rattle.co_plain.specs.CoordView.{recovered_commits}
use Rattle.co_plain.specs.MemberView.{recovered_view}
use Rattle.co_plain.specs.Opening.{Found, made, header_mark, opened_log, kind_of}
use Rattle.co_opening.specs.Kept.{IsOwnLog}
use Rattle.co_opening.specs.Standing.{IsStanding}

-- a log without a gate is fresh, and nothing was found
fresh_one : (owner : Node) (l : LogView) (found : Found) → IsStanding owner l found → l.gate ≡ 0 → IsFresh l × (found.records ≡ []) × (found.spare_closed ≡ begins_closed l.spare.state.stable)
fresh_one owner l found s none = elim s.either [ inl f ↦ f | inr r ↦ absurd (omega (arith, r.0, none)) ]

-- one with a gate stands for what was found, of which a header is one
live_one : (owner : Node) (l : LogView) (found : Found) → IsStanding owner l found → (l.gate ≡ 0 → ⊥) → (header_mark owner found.records ≡ []) × RepresentsLog owner l (opened_log owner found)
live_one owner l found s some = elim s.either [ inl f ↦ absurd (some f.0.unmade) | inr r ↦ (r.1, r.2) ]

pub still_stands : (owner : Node) (l : LogView) (found : Found) → IsStanding owner l found → (l.gate ≡ 0 → ⊥) → RepresentsLog owner l (opened_log owner found)
still_stands owner l found s some = (live_one owner l found s some).1

pub still_marked : (owner : Node) (l : LogView) (found : Found) (marks : List Mark) → IsStanding owner l found → (l.gate ≡ 0 → ⊥) → marks ≡ marks ++ header_mark owner found.records
still_marked owner l found marks s some = sym (ap (λ (ms : List Mark). marks ++ ms) (live_one owner l found s some).0 ∙ append-nil marks)

owned_by : (owner : Node) (l : LogView) (found : Found) → IsStanding owner l found → l.node ≡ owner
owned_by owner l found s = (attached_unarmed owner s.a s.b l s.attached).0

pub may_make : (owner : Node) (l : LogView) (found : Found) (home : HomeView) → IsStanding owner l found → IsHeld home l → l.gate ≡ 0 → MayMake home l
may_make owner l found home s held none = record { held = held; fresh = (fresh_one owner l found s none).0; node = subst IsValidNode (sym (owned_by owner l found s)) s.valid }

-- the directory keeps it
pub made_own : (home : HomeView) (l after : LogView) → HasSpots l → IsMade l after → IsHeld home after → BothWithin home.file l → IsOwnLog home l.node after
made_own home l after spots m held short = record { owned = m.node; kept = record { held = held; within = node_within home.file l spots short } }

either_way : (b : Bool) → (b ≡ true) ⊎ (b ≡ false)
either_way true = inl refl
either_way false = inr refl

same_or : (s t : Spot) → (s ≡ t) ⊎ (s ≢ t)
same_or s t = elim (either_way (eqb s.node t.node)) [
  | inl node ↦ elim (either_way (eqb s.part t.part)) [
    | inl part ↦ inl (λ i. record { node = eqb-true s.node t.node node i; part = eqb-true s.part t.part part i })
    | inr other ↦ inr (λ e. eqb-false s.part t.part other (ap (λ (x : Spot). x.part) e))
  ]
  | inr other ↦ inr (λ e. eqb-false s.node t.node other (ap (λ (x : Spot). x.node) e))
]

-- and its file is clean, as all others are that were
pub made_clean : (old new : HomeView) (spot : Spot) → IsClean new spot → RestStays spot old new → (s : Spot) → IsClean old s → IsClean new s
made_clean old new spot clean rest s was = elim (same_or s spot) as (λ x. IsClean new s) [
  | inl same ↦ subst (IsClean new) (sym same) clean
  | inr other ↦ still_clean old new s (rest.others.files s other) was
]

-- ---- it was not made

module _ (l after : LogView) (old new : HomeView) (fault : LogFault) (answered : IsMakeAnswer l after old new (Err fault)) where
  pub making_as : (other : LogFault) → fault ≡ other → IsMakeAnswer l after old new (Err other)
  making_as other is = subst (λ (e : LogFault). IsMakeAnswer l after old new (Err e)) is answered

  pub making_failed : (spot at : Spot) → fault ≡ log.Device spot → spot ≡ at → HasFailed at old new
  making_failed spot at is same =
      let failed = making_as (log.Device spot) is in
      subst (λ (s : Spot). HasFailed s old new) (sym failed.0 ∙ same) failed.1

-- one that was made stands for nothing found
pub fresh_stands : (owner : Node) (l after : LogView) (found : Found) → IsStanding owner l found → l.gate ≡ 0 → IsMade l after → RepresentsLog owner after (opened_log owner found)
fresh_stands owner l after found s none m =
    let f = fresh_one owner l found s none in
    let same : opened_log owner (record { records = []; spare_closed = begins_closed l.spare.state.stable }) ≡ opened_log owner found =
    λ i. opened_log owner (record { records = sym f.1 i; spare_closed = sym f.2 i }) in
    subst (RepresentsLog owner after) same (made_stands owner s.a s.b l after s.valid s.attached f.0 m)

-- ---- a header tells nothing

pub made_view : (owner : Node) (records : List Record) → recovered_view (made owner records) ≡ recovered_view records
made_view owner [] = refl
made_view owner (r ∷ rs) = refl

pub made_commits : (owner : Node) (records : List Record) → recovered_commits (made owner records) ≡ recovered_commits records
made_commits owner [] = refl
made_commits owner (r ∷ rs) = refl

-- ---- the kinds of members

pub kind_at : (kinds : List Kind) (p q : ℕ) (d : Kind) → q ≡ p → p < length kinds → get_or kinds q d ≡ kind_of kinds (suc p)
kind_at kinds p q d same h = ap (λ n. get_or kinds n d) same ∙ here kinds p h
  where
    later : (n : ℕ) → nat_le (suc (suc n)) 1 ≡ false
    later n = grind (arith, nat_tests)

    here : (ks : List Kind) (n : ℕ) → n < length ks → get_or ks n d ≡ kind_of ks (suc n)
    here [] n low = absurd (omega (arith, low))
    here (k ∷ ks) zero low = refl
    here (k ∷ ks) (suc n) low = here ks n (omega (arith, low)) ∙ sym (ap (λ (b : Bool). if b then k else kind_of ks (suc (suc n) - 1)) (later n) ∙ ap (kind_of ks) (let e : suc (suc n) - 1 ≡ suc n = omega arith in e))
