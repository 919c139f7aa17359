-- A verdict that is handed over is a decision of the coordinator that asked for the vote.
use Rattle.std.proofs.Common.{◌≡◌, ℕ, Bool, true, false, Option, None, Some, ap}
use Rattle.std.specs.Prelude.{is_some}
use Rattle.co_message.specs.declared.message.Message.TheVariants as message
use Rattle.co_plain.specs.Federation.{Federation}
use Rattle.co_plain.specs.Member.{coord_in, coord_of, member_decide}
use Rattle.co_plain.specs.Step.{step, member_step, up_member}
use Rattle.co_plain.specs.declared.happening.Happening.TheVariants as happening
use Rattle.co_state.specs.declared.engine_state.Vote.{Vote}
use Rattle.co_undecided.specs.Kept.{coord_asked}
use Rattle.co_cluster.specs.Calls.{member_does}
use Rattle.co_cluster.specs.declared.calls.MemberCall.TheVariants as to_member

pub asker_is : (o : Option Vote) (c : ℕ) → Some c ≡ coord_asked o → c ≡ coord_in o
asker_is None c e = absurd (let z : Some c ≡ None = e in cc)
asker_is (Some vote) c e = cc

pub none_asked : (o : Option Vote) → None ≡ coord_asked o → is_some o ≡ true → ⊥
none_asked None e h = let z : false ≡ true = h in cc
none_asked (Some vote) e h = let z : None ≡ Some vote.coord = e in cc

pub handed_is : (s : Federation) (m t c : ℕ) (commit : Bool) → c ≡ coord_of (s.member m) t →
    member_step s m (member_does m (to_member.Deliver (message.Decide t c m commit))) ≡ step s (happening.Hand t m commit)
handed_is s m t c commit e = ap (λ k. up_member s m (s.member m).up (member_decide m (s.member m) t k commit)) e
