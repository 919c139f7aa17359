-- An event that is held, and an operation that is blocked, tells nothing but its answer.
use Rattle.std.proofs.Common.{◌≡◌, ℕ, Bool, true, false, if◌then◌else◌, sym, ap, ◌∙◌}
use Rattle.co_base.specs.declared.node.Node.{Node}
use Rattle.co_base.specs.declared.node.Node.TheVariants as node
use Rattle.co_base.specs.declared.op.Op.{Op}
use Rattle.co_base.specs.declared.op.Op.TheVariants as op
use Rattle.co_message.specs.declared.answer.Answer.{Answer}
use Rattle.co_message.specs.declared.answer.Answer.TheVariants as answer
use Rattle.co_message.specs.declared.event.Event.{Event}
use Rattle.co_message.specs.declared.event.Event.TheVariants as event
use Rattle.co_message.specs.declared.message.Message.TheVariants as message
use Rattle.co_state.specs.declared.verdict.Verdict.TheVariants.{HeldBy}
use Rattle.co_state.specs.Table.{look}
use Rattle.co_plain.specs.declared.member_step.MemberStep.{MemberStep}
use Rattle.co_plain.specs.declared.session.Session.{Session}
use Rattle.co_plain.specs.Federation.{Federation, answers, at_member, items_of, message_list}
use Rattle.co_plain.specs.Member.{member_op, member_prepare, member_vote}
use Rattle.co_plain.specs.LocalCommit.{member_local_commit}
use Rattle.co_plain.specs.Sessions.{Refuses, Grants, leave_to_visit, leave_to_end, unless_asked, count_at}
use Rattle.co_plain.specs.Step.{up_member, operated, operate_with, reply_in, entered, local_answers, commit_at, commit_with, arrives, step_line}
use Rattle.co_law_exact.specs.Events.{AsksAtHome, AsksTheRule, Finds, ComesToRow, Operates, IsBlocked, TellsAlone}
use Rattle.co_law_exact.specs.Votes.{IsSilent}
use Rattle.co_law_exact.proofs.Ballots.{held_exact}
use Rattle.co_law_exact.proofs.Operations.{operations_exact}

-- what a silent step of a member tells
silent_tells : (s : Federation) (m : ℕ) (did : MemberStep) (a : Answer) → IsSilent did → did.answer ≡ a → TellsAlone (at_member s m did) a
silent_tells s m did a q e = (λ i. items_of (q.1 i) (message_list (q.0 i)) (e i))

module _ (s : Federation) (u : ℕ) where
  at_home : (t : ℕ) (session : Session) (at : Node) → AsksAtHome (Finds (HeldBy u)) s t session at → TellsAlone (commit_at s t session at) (answer.Held u)
  at_home t session (node.Coord c) p = absurd p
  at_home t session (node.Member m) p =
      let x = held_exact m (s.member m) in
      let did = member_local_commit m (s.member m) t (count_at session.told m) in
      let e = (x.alone t (count_at session.told m) u).1 (p.1, p.2) in
      ap (λ up. (local_answers s t session m up did).items) p.0 ∙ silent_tells s m did (answer.Held u) (x.alone_stays t (count_at session.told m) u e).0 e

  pub held_alone : (e : Event) → AsksTheRule (Finds (HeldBy u)) s e → TellsAlone (step_line s e) (answer.Held u)
  held_alone (event.Deliver (message.Prepare t d m n)) p =
      let x = held_exact m (s.member m) in
      let did = member_prepare m (s.member m) t d n in
      let e = (x.prepare t d n u).1 (p.1, p.2) in
      ap (λ b. (if b then arrives s (message.Prepare t d m n) else answers s answer.Unsent).items) p.0.0
      ∙ ap (λ up. (up_member s m up did).items) p.0.1
      ∙ silent_tells s m did (answer.Held u) (x.prepare_marks t d n u e).0 e
  held_alone (event.Vote t m) p =
      let x = held_exact m (s.member m) in
      let did = member_vote m (s.member m) t in
      let e = (x.again t u).1 p.1 in
      ap (λ up. (up_member s m up did).items) p.0 ∙ silent_tells s m did (answer.Held u) (x.again_stays t u e).0 e
  held_alone (event.Commit t) p =
      ap (λ o. (commit_with s t (leave_to_end o)).items) p.1
      ∙ ap (λ k. (commit_with s t (if k then Refuses answer.Asked else Grants p.0)).items) p.2
      ∙ at_home t p.0 p.0.by p.3
  held_alone _ p = absurd p

  -- a block is no reply
  abbrev is_reply : Answer → Bool
  is_reply (answer.Replied reply) = true
  is_reply _ = false

  op_alone : (t m : ℕ) (o : Op) → ComesToRow (IsBlocked u) s t m o → TellsAlone (operate_with s t m o (leave_to_visit (look s.sessions t) m)) (answer.Blocked u)
  op_alone t m o p =
      let x = operations_exact (s.member m) in
      let carried = count_at p.0.told m in
      let did = member_op (s.member m) t carried o in
      let e = (x.blocked t carried u o).1 p.2 in
      let quiet = (x.stays t carried o (λ reply h. let z : false ≡ true = ap is_reply (sym e ∙ h) in cc)).0 in
      ap (λ z. (operate_with s t m o (leave_to_visit z m)).items) p.1.0
      ∙ ap (λ k. (operate_with s t m o (if k then unless_asked p.0 else Refuses answer.NotBegun)).items) p.1.1
      ∙ ap (λ k. (operate_with s t m o (if k then Refuses answer.Asked else Grants p.0)).items) p.1.2
      ∙ ap (λ up. (operated s t p.0 m o up did).items) p.1.3
      ∙ silent_tells (entered s t p.0 m o (reply_in did.answer)) m did (answer.Blocked u) quiet e

  pub blocked_alone : (e : Event) → Operates (IsBlocked u) s e → TellsAlone (step_line s e) (answer.Blocked u)
  blocked_alone (event.Read t m key) p = op_alone t m (op.Read key) p
  blocked_alone (event.Write t m key value) p = op_alone t m (op.Write key value) p
  blocked_alone (event.Erase t m key) p = op_alone t m (op.Erase key) p
  blocked_alone (event.Scan t m span) p = op_alone t m (op.Scan span) p
  blocked_alone _ p = absurd p
