-- A line that is refused leaves the state as it was.
use Rattle.std.proofs.Common.{◌≡◌, ℕ, List, [], ◌∷◌, ◌++◌, map, None, Some, refl, sym, ap, ◌∙◌, subst}
use Rattle.co_base.specs.declared.mark.Mark.{Mark}
use Rattle.co_message.specs.declared.answer.Answer.{Answer}
use Rattle.co_message.specs.declared.item.ItemKind.TheVariants as item
use Rattle.co_message.specs.declared.message.Message.{Message}
use Rattle.co_plain.specs.declared.coord_step.CoordStep.{CoordStep}
use Rattle.co_plain.specs.declared.member_state.MemberState.{MemberState}
use Rattle.co_plain.specs.declared.member_step.MemberStep.{MemberStep}
use Rattle.co_plain.specs.Federation.{Federation, Stepped, items_of, message_list, noted, with_member, answers, at_member, at_coord}
use Rattle.co_plain.specs.Step.{reply_in}
use Rattle.co_law_engine.proofs.YesTells.{in_some}
use Rattle.co_law_moves.proofs.Made.{member_same}
use Rattle.co_law.specs.Refusals.{IsRefusal, reply_told}

-- what a step tells last
reply_of_sent : (messages : List Message) (a : Answer) → reply_told (map item.Sent messages ++ item.Answered a ∷ []) ≡ Some a
reply_of_sent [] a = refl
reply_of_sent (m ∷ ms) a = reply_of_sent ms a

pub reply_of : (marks : List Mark) (messages : List Message) (a : Answer) → reply_told (items_of marks messages a) ≡ Some a
reply_of [] messages a = reply_of_sent messages a
reply_of (m ∷ ms) messages a = reply_of ms messages a

-- what leaves the state where its reply is a refusal
abbrev pub Unchanged : Federation → Stepped → Type 0
Unchanged s z = (a : Answer) → reply_told z.items ≡ Some a → IsRefusal a → z.state ≡ s

-- a step of a node that leaves the node where it refuses
pub record LeavesMember (x : MemberState) (did : MemberStep) : Type 0 where
  pub state : did.state ≡ x
  pub marks : did.marks ≡ []
  pub sent : did.sent ≡ None
  pub reply : reply_in did.answer ≡ None

pub member_unchanged : (s : Federation) (m : ℕ) (did : MemberStep) → (IsRefusal did.answer → LeavesMember (s.member m) did) → Unchanged s (at_member s m did)
member_unchanged s m did h a e r =
    let is : did.answer ≡ a = in_some (sym (reply_of did.marks (message_list did.sent) did.answer) ∙ e) in
    let l = h (subst IsRefusal (sym is) r) in
    ap (λ x. noted (with_member s m x) did.marks (message_list did.sent)) l.state
    ∙ ap (λ ms. noted (with_member s m (s.member m)) ms (message_list did.sent)) l.marks
    ∙ ap (λ o. noted (with_member s m (s.member m)) [] (message_list o)) l.sent
    ∙ member_same s m

-- a step that is no refusal
pub member_admitted : (s z : Federation) (m : ℕ) (did : MemberStep) → (IsRefusal did.answer → ⊥) → Unchanged s (at_member z m did)
member_admitted s z m did n a e r = absurd (n (subst IsRefusal (in_some (sym e ∙ reply_of did.marks (message_list did.sent) did.answer)) r))

pub coord_admitted : (s z : Federation) (c : ℕ) (did : CoordStep) → (IsRefusal did.answer → ⊥) → Unchanged s (at_coord z c did)
coord_admitted s z c did n a e r = absurd (n (subst IsRefusal (in_some (sym e ∙ reply_of did.marks did.sent did.answer)) r))

-- a reply alone
pub answer_unchanged : (s : Federation) (a : Answer) → Unchanged s (answers s a)
answer_unchanged s a b e r = refl
