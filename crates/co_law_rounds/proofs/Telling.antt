-- Messages that a step tells as sent, and that are sent then.
use Rattle.std.proofs.Common.{◌≡◌, inl, inr, ℕ, true, List, [], ◌∷◌, Some, refl, sym, ap, subst}
use Rattle.co_base.specs.declared.mark.Mark.{Mark}
use Rattle.co_message.specs.declared.answer.Answer.{Answer}
use Rattle.co_message.specs.declared.item.ItemKind.TheVariants as item
use Rattle.co_message.specs.declared.message.Message.{Message}
use Rattle.co_plain.specs.declared.coord_step.CoordStep.{CoordStep}
use Rattle.co_plain.specs.declared.member_step.MemberStep.{MemberStep}
use Rattle.co_plain.specs.Federation.{Federation, Stepped, at_member, at_coord, items_of, message_list}
use Rattle.co_plain.specs.Wire.{was_sent, send_one, send_all}
use Rattle.co_law_settle.proofs.Reaching.{sent_now}
use Rattle.co_law_rounds.specs.FairRounds.{Stands}
use Rattle.co_law_rounds.proofs.OneStep.{all_still}

pub record Tells (z : Stepped) (note : Message) : Type 0 where
  pub item : Stands (item.Sent note) z.items
  pub sent : was_sent z.state.sent note ≡ true

among_items : (marks : List Mark) (notes : List Message) (a : Answer) (note : Message) → Stands note notes → Stands (item.Sent note) (items_of marks notes a)
among_items [] [] a note h = absurd h
among_items [] (n ∷ ns) a note (inl e) = inl (ap item.Sent e)
among_items [] (n ∷ ns) a note (inr h) = inr (among_items [] ns a note h)
among_items (m ∷ ms) notes a note h = inr (among_items ms notes a note h)

among_sent : (sent notes : List Message) (note : Message) → Stands note notes → was_sent (send_all sent notes) note ≡ true
among_sent sent [] note h = absurd h
among_sent sent (n ∷ ns) note (inl e) = all_still (send_one sent n) ns note (subst (λ k. was_sent (send_one sent n) k ≡ true) e (sent_now sent n))
among_sent sent (n ∷ ns) note (inr h) = among_sent (send_one sent n) ns note h

pub coord_tells : (s : Federation) (c : ℕ) (did : CoordStep) (note : Message) → Stands note did.sent → Tells (at_coord s c did) note
coord_tells s c did note h = record { item = among_items did.marks did.sent did.answer note h; sent = among_sent s.sent did.sent note h }

pub member_tells : (s : Federation) (m : ℕ) (did : MemberStep) (note : Message) → did.sent ≡ Some note → Tells (at_member s m did) note
member_tells s m did note e =
    let h : Stands note (message_list did.sent) = subst (λ o. Stands note (message_list o)) (sym e) (inl refl) in
    record { item = among_items did.marks (message_list did.sent) did.answer note h; sent = among_sent s.sent (message_list did.sent) note h }
