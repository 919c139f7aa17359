-- Records of a member's log that are allowed where they stand, and what they tell.
use Rattle.std.proofs.Common.{◌≡◌, ◌≢◌, ◌⊎◌, inl, inr, ℕ, Bool, true, false, not, ◌&&◌, ◌≤◌, nat_le, if◌then◌else◌, List, [], ◌∷◌, ◌++◌, length, reverse, Option, None, Some, refl, sym, ap, ◌∙◌, subst, arith}
use Rattle.std.specs.Option.{is_some, is_none}
use Rattle.std.proofs.lemmas.Bool.{or_from, and_parts}
use Rattle.std.proofs.lemmas.Bool.Decides.{nat_tests}
use Rattle.co_record.specs.declared.record.Record.{Record}
use Rattle.co_record.specs.declared.record.Record.TheVariants as log
use Rattle.co_state.specs.declared.engine_state.Sets.{Sets}
use Rattle.co_state.specs.declared.engine_state.Vote.{Vote}
use Rattle.std.specs.FinMap.{entries, entries_sorted, get-entries}
use Rattle.co_state.specs.Table.{look, holds, first_in, least_where}
use Rattle.co_state.specs.Keys.{reads_meet, writes_meet}
use Rattle.co_state.specs.VotingRule.{voted_holds}
use Rattle.co_plain.specs.declared.member_view.MemberView.{MemberView}
use Rattle.co_plain.specs.MemberView.{nothing_known, view_with, recovered_view, cast_in, install_in, forget_in, sets_conflict, conflicts_with_voted, member_allows, first_refused_from, first_refused_at_member}
use Rattle.co_plain.specs.Invariants.{VotedAreConflictFree}
use Rattle.co_law_engine.proofs.YesTells.{passes_none}
use Rattle.co_law_base.proofs.Lookups.{is_nothing, look_none, put_cases, without_cases}
use Rattle.co_law_base.proofs.ImageRules.{EachEntry, each_entry}
use Rattle.co_law_base.proofs.ViewRules.{three_parts, cast_free, forget_free, install_free}
use Rattle.co_law_base.proofs.ViewMoves.{AreApart, forget_apart, cast_apart, install_apart}
use Rattle.co_plain.specs.Numbers.{IsAmong}
use Rattle.co_law_node.proofs.FirstRefused.{AllAllowed, older_allowed, all_from_none, none_from_all}

-- each record of a member's log is allowed where it stands; the newest is first
abbrev pub Allowed : ℕ → List Record → Type 0
Allowed coords rs = AllAllowed (member_allows coords) recovered_view rs

module _ (coords : ℕ) where
  pub allowed_from : (rs : List Record) → first_refused_at_member coords (reverse rs) ≡ None → Allowed coords rs
  allowed_from =
      all_from_none (member_allows coords) view_with (first_refused_from coords) recovered_view (λ place v. refl) (λ place v r rs. refl) (λ r rs. refl)

  pub none_from : (rs : List Record) → Allowed coords rs → first_refused_at_member coords (reverse rs) ≡ None
  none_from =
      none_from_all (member_allows coords) view_with (first_refused_from coords) recovered_view (λ place v. refl) (λ place v r rs. refl) (λ r rs. refl)

  pub older : (front rs : List Record) → Allowed coords (front ++ rs) → Allowed coords rs
  older = older_allowed (member_allows coords) recovered_view

-- What allowed records tell: votes that neither conflict nor are committed, each of a coordinator of the federation.
pub record Tells (coords : ℕ) (v : MemberView) : Type 0 where
  pub free : VotedAreConflictFree v
  pub apart : AreApart v
  pub among : (t : ℕ) (vote : Vote) → look v.voted t ≡ Some vote → IsAmong vote.coord coords

pub tells_nothing : (coords : ℕ) → Tells coords nothing_known
tells_nothing coords =
    record {
      free = λ t u a b n e. is_nothing (sym (look_none t) ∙ e);
      apart = λ t h. ap is_some (look_none t);
      among = λ t vote e. is_nothing (sym (look_none t) ∙ e);
    }

module _ (coords : ℕ) (v : MemberView) (f : Tells coords v) where
  pub tells_forget : (t : ℕ) → Tells coords (forget_in v t)
  tells_forget t =
      record {
        free = forget_free v t f.free;
        apart = forget_apart v t f.apart;
        among = λ u vote e. f.among u vote (without_cases v.voted t u vote e).1;
      }

  pub tells_install : (t : ℕ) (vote : Vote) → Tells coords (install_in v t (Some vote))
  tells_install t vote =
      record {
        free = install_free v t vote f.free;
        apart = install_apart v t vote f.apart;
        among = λ u other e. f.among u other (without_cases v.voted t u other e).1;
      }

  pub tells_cast : (t : ℕ) (vote : Vote) → ((u : ℕ) (other : Vote) → t ≢ u → look v.voted u ≡ Some other → voted_holds vote.sets other.sets ≡ false) →
      holds v.committed t ≡ false → IsAmong vote.coord coords → Tells coords (cast_in v t vote)
  tells_cast t vote way new own =
      record {
        free = cast_free v t vote f.free way;
        apart = cast_apart v t vote new f.apart;
        among = λ u other e. by u other (put_cases v.voted t vote u other e);
      }
    where
      by : (u : ℕ) (other : Vote) → ((t ≡ u) × (vote ≡ other)) ⊎ ((t ≢ u) × (look v.voted u ≡ Some other)) → IsAmong other.coord coords
      by u other (inl p) = subst (λ z. IsAmong z.coord coords) p.1 own
      by u other (inr p) = f.among u other p.1

-- what an allowed vote comes with
record MayVote (coords place : ℕ) (v : MemberView) (t coord : ℕ) (sets : Sets) : Type 0 where
  voted : holds v.voted t ≡ false
  committed : holds v.committed t ≡ false
  among : IsAmong coord coords
  free : conflicts_with_voted v sets ≡ false

false_of : (b : Bool) → not b ≡ true → b ≡ false
false_of true h = absurd (let z : false ≡ true = h in cc)
false_of false h = refl

at_most : (a b : ℕ) → nat_le a b ≡ true → a ≤ b
at_most a b h = grind (arith, nat_tests, h)

vote_parts : (coords place : ℕ) (v : MemberView) (t coord : ℕ) (sets : Sets) →
    (nat_le 1 place && not (holds v.voted t) && not (holds v.committed t) && nat_le 1 coord && nat_le coord coords && not (conflicts_with_voted v sets)) ≡ true →
    MayVote coords place v t coord sets
vote_parts coords place v t coord sets h =
    let p = and_parts _ _ h in
    let q = and_parts _ _ p.0 in
    let r = and_parts _ _ q.0 in
    let s = and_parts _ _ r.0 in
    let u = and_parts _ _ s.0 in
    record {
      voted = false_of _ u.1;
      committed = false_of _ s.1;
      among = (at_most 1 coord r.1, at_most coord coords q.1);
      free = false_of _ p.1;
    }

-- who is not in conflict with the votes is in the way of none
no_way : (v : MemberView) (sets : Sets) → conflicts_with_voted v sets ≡ false → (u : ℕ) (other : Vote) → look v.voted u ≡ Some other → voted_holds sets other.sets ≡ false
no_way v sets h u other e =
    let p = three_parts (reads_meet other.sets.reads sets.writes) (reads_meet sets.reads other.sets.writes) (writes_meet other.sets.writes sets.writes)
    (passes_none (λ k vote. sets_conflict vote.sets sets) v.voted u other (none_of (least_where (λ k vote. sets_conflict vote.sets sets) v.voted) h) e) in
    or_from _ _ (or_from _ _ p.0 p.2) p.1
  where
    none_of : (o : Option ℕ) → not (is_none o) ≡ false → o ≡ None
    none_of None h = refl
    none_of (Some k) h = absurd (let z : true ≡ false = h in cc)

pub told_step : (coords place : ℕ) (v : MemberView) (r : Record) → member_allows coords place v r ≡ true → Tells coords v → Tells coords (view_with v r)
told_step coords place v (log.Header a b) h f = f
told_step coords place v (log.End t) h f = absurd (let z : false ≡ true = h in cc)
told_step coords place v (log.Checkpoint rows undos committed) h f =
    record {
      free = λ t u a b n e. is_nothing (sym (look_none t) ∙ e);
      apart = λ t k. ap is_some (look_none t);
      among = λ t vote e. is_nothing (sym (look_none t) ∙ e);
    }
told_step coords place v (log.Abort t) h f = tells_forget coords v f t
told_step coords place v (log.Commit t members) h f = by (look v.voted t)
  where
    by : (o : Option Vote) → Tells coords (install_in v t o)
    by None = f
    by (Some vote) = tells_install coords v f t vote
told_step coords place v (log.Prepare t coord count reads writes) h f =
    let sets : Sets = record { reads = reads; writes = writes } in
    let p = vote_parts coords place v t coord sets h in
    tells_cast coords v f t (record { coord = coord; count = count; sets = sets }) (λ u other n e. no_way v sets p.free u other e) p.committed p.among

pub tells : (coords : ℕ) (rs : List Record) → Allowed coords rs → Tells coords (recovered_view rs)
tells coords [] a = tells_nothing coords
tells coords (r ∷ rs) a = told_step coords (length rs) (recovered_view rs) r a.0 (tells coords rs a.1)

-- when a vote is allowed
six : (a b c d e f : Bool) → a ≡ true → b ≡ false → c ≡ false → d ≡ true → e ≡ true → f ≡ false → (a && not b && not c && d && e && not f) ≡ true
six a b c d e f p q r s t u = rw (p, q, r, s, t, u)

none_first : {X : Type 0} (test : ℕ → X → Bool) (es : List (ℕ × X)) → EachEntry (λ u x. test u x ≡ false) es → first_in test es ≡ None
none_first test [] h = refl
none_first test (e ∷ es) h = ap (λ b. if b then Some e.0 else first_in test es) h.0 ∙ none_first test es h.1

pub no_conflict : (v : MemberView) (sets : Sets) → ((u : ℕ) (other : Vote) → look v.voted u ≡ Some other → sets_conflict other.sets sets ≡ false) → conflicts_with_voted v sets ≡ false
no_conflict v sets h =
    ap (λ o. not (is_none o))
    (none_first (λ u vote. sets_conflict vote.sets sets) (entries v.voted)
    (each_entry (λ u vote. sets_conflict vote.sets sets ≡ false) (entries v.voted) (entries_sorted v.voted) (λ u x g. h u x (get-entries v.voted u ∙ g))))

pub may_vote : (coords place : ℕ) (v : MemberView) (t coord : ℕ) (sets : Sets) → 1 ≤ place → holds v.voted t ≡ false → holds v.committed t ≡ false → IsAmong coord coords →
    ((u : ℕ) (other : Vote) → look v.voted u ≡ Some other → sets_conflict other.sets sets ≡ false) →
    (nat_le 1 place && not (holds v.voted t) && not (holds v.committed t) && nat_le 1 coord && nat_le coord coords && not (conflicts_with_voted v sets)) ≡ true
may_vote coords place v t coord sets behind voted committed among free =
    six (nat_le 1 place) (holds v.voted t) (holds v.committed t) (nat_le 1 coord) (nat_le coord coords) (conflicts_with_voted v sets)
    (grind (arith, nat_tests, behind)) voted committed (grind (arith, nat_tests, among.0)) (grind (arith, nat_tests, among.1)) (no_conflict v sets free)
