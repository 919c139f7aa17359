-- What holds where a member asks another one: both are in the head, and the federation has all invariants.
use Rattle.std.proofs.Common.{◌≡◌, ℕ, Bool, true, false, ◌||◌, ◌==◌, ◌≤◌, length, Option, None, Some, refl, sym, ap, ◌∙◌, subst}
use Rattle.std.proofs.lemmas.Bool.{eq-eqb}
use Rattle.co_base.specs.declared.head.Kind.{Kind}
use Rattle.co_plain.specs.AllInvariants.{AllInvariants}
use Rattle.co_plain.specs.Decisions.{BelongsTo, BegunThere, VotedBefore, votes_for}
use Rattle.co_plain.specs.Federation.{Federation}
use Rattle.co_plain.specs.Invariants.{Memory, stands}
use Rattle.co_plain.specs.Member.{coord_of}
use Rattle.co_plain.specs.MemberStep.{standing_of, standing_by}
use Rattle.co_plain.specs.Numbers.{IsAmong}
use Rattle.co_plain.specs.Premises.{IsOwnNode}
use Rattle.co_state.specs.declared.engine_state.EngineState.{EngineState}
use Rattle.co_state.specs.declared.engine_state.Vote.{Vote}
use Rattle.co_state.specs.Table.{look, holds}
use Rattle.co_law_base.proofs.Carrying.{one_belongs}
use Rattle.co_law_base.proofs.Facts.{rest_of}
use Rattle.co_law_base.proofs.LogMoves.{as_belongs}
use Rattle.co_law_base.proofs.Lookups.{holds_found, is_nothing}
use Rattle.co_law_engine.proofs.YesTells.{in_some}
use Rattle.co_undecided.specs.Kept.{coord_asked}
use Rattle.co_cluster.specs.Listed.{IsDoubt}
use Rattle.co_law_moves.proofs.Standings.{votes_own}
use Rattle.co_law.proofs.AllBack.{all_back}
use Rattle.co_law.proofs.EveryInvariant.{every_invariant}
use Rattle.co_cluster.specs.declared.doubting.Doubt.{Doubt}
use Rattle.co_world.specs.Standing.{RepresentsWorld}
use Rattle.co_world.specs.declared.world.World.{World}
use Rattle.co_settle.specs.Reached.{IsReached}
use Rattle.co_settle.proofs.Reaching.{all_reached}
use Rattle.co_coop.specs.Consulted.{is_voted_there}

pub reached_invariants : (s : Federation) → IsReached s → AllInvariants s
reached_invariants s r = subst AllInvariants r.is (every_invariant r.kinds r.coords r.found_member r.found_coord r.happened r.openable r.true_verdicts)

-- a coordinator to which a transaction belongs is one of the federation
pub home_own : (s : Federation) → IsReached s → (t c : ℕ) → BelongsTo s t c → IsAmong c s.coordinators
home_own s r t c (VotedBefore m h) = (all_reached s r).opened.votes m t c h
home_own s r t c (BegunThere session e by) = subst (IsOwnNode (length s.kinds) s.coordinators) by ((all_reached s r).sessions t session e).home

module _ {E : Type 0} (takes : Kind → Type 0) (stands_for : E → EngineState → Type 0) (w : World E) (s : Federation) (r : RepresentsWorld takes stands_for w s) where
  pub member_in_head : (m : ℕ) → IsAmong m (length s.kinds) → (1 ≤ m) × (m ≤ length w.cluster.members.items)
  member_in_head m i = (i.0, subst (λ n. m ≤ n) (sym r.cluster.kinds) i.1)

  pub coord_in_head : (c : ℕ) → IsAmong c s.coordinators → (1 ≤ c) × (c ≤ length w.cluster.coords.items)
  coord_in_head c i = (i.0, subst (λ n. c ≤ n) (sym r.cluster.coordinators) i.1)

-- voted is who stands voted
voted_by : (a v k : Bool) → (a ≡ true → v ≡ false) → is_voted_there (standing_by a v k) ≡ v
voted_by true v k h = sym (h refl)
voted_by false true k h = refl
voted_by false false true h = refl
voted_by false false false h = refl

left_false : (v k : Bool) → (v || k) ≡ false → v ≡ false
left_false true k h = h
left_false false k h = refl

module _ (s : Federation) (i : AllInvariants s) where
  active_unvoted : (t m : ℕ) → holds (s.member m).engine.active t ≡ true → holds (s.member m).engine.voted t ≡ false
  active_unvoted t m h =
      let p = holds_found (s.member m).engine.active t h in
      left_false (holds (s.member m).engine.voted t) (holds (s.member m).committed t) (i.active.apart t m p.0 p.1)

  pub voted_stands : (t m : ℕ) → is_voted_there (standing_of (s.member m) t) ≡ holds (s.member m).engine.voted t
  voted_stands t m = voted_by (holds (s.member m).engine.active t) (holds (s.member m).engine.voted t) (holds (s.member m).committed t) (active_unvoted t m)

  -- a vote names the coordinator to which its transaction belongs
  pub voted_home : (t m c : ℕ) → BelongsTo s t c → holds (s.member m).engine.voted t ≡ true → coord_of (s.member m) t ≡ c
  voted_home t m c b h =
      one_belongs (rest_of s) (all_back s i).facts.numbers t (coord_of (s.member m) t) c
      (as_belongs s t (coord_of (s.member m) t) ((i.views m Memory).named t (coord_of (s.member m) t) (votes_own s m t h))) (as_belongs s t c b)

-- so a doubt names it
pub doubt_home : (s : Federation) → AllInvariants s → (doubt : Doubt) → IsDoubt s doubt → BelongsTo s doubt.txn doubt.coord
doubt_home s i doubt d = (i.views doubt.member Memory).named doubt.txn doubt.coord (by (look (s.member doubt.member).engine.voted doubt.txn) d.voted)
  where
    by : (o : Option Vote) → coord_asked o ≡ Some doubt.coord → votes_for o doubt.coord ≡ true
    by None h = is_nothing h
    by (Some vote) h = ap (λ c. c == doubt.coord) (in_some h) ∙ eq-eqb doubt.coord doubt.coord refl
