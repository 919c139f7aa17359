-- A message goes to one node.
use Rattle.std.proofs.Common.{◌≡◌, ℕ, Bool, true, false, if◌then◌else◌, List, refl, sym, ap, ◌∙◌}
use Rattle.std.specs.Prelude.{◌↔◌}
use Rattle.co_base.specs.declared.node.Node.{Node}
use Rattle.co_base.specs.declared.node.Node.TheVariants as node
use Rattle.co_message.specs.declared.answer.Answer.TheVariants as answer
use Rattle.co_message.specs.declared.message.Message.{Message}
use Rattle.co_message.specs.declared.message.Message.TheVariants as message
use Rattle.co_plain.specs.Federation.{Federation, Stepped, answers}
use Rattle.co_plain.specs.Step.{arrives, deliver, member_step, coord_step}
use Rattle.co_plain.specs.Wire.{was_sent}
use Rattle.co_schedule.specs.View.{IsMessageFor, IsNode}
use Rattle.co_cluster.specs.Calls.{coord_does, member_does}
use Rattle.co_world.specs.Calls.{receiver}
use Rattle.co_cluster.specs.declared.calls.CoordCall.TheVariants as to_coord
use Rattle.co_cluster.specs.declared.calls.MemberCall.TheVariants as to_member

-- which is in the head
pub receiver_in_head : (members coords : ℕ) (note : Message) → IsMessageFor members coords note → IsNode members coords (receiver note)
receiver_in_head members coords (message.Prepare t c m count) h = h.2
receiver_in_head members coords (message.Vote t m c granted) h = h.2
receiver_in_head members coords (message.Decide t c m commit) h = h.2
receiver_in_head members coords (message.Ask t m c) h = h.2
receiver_in_head members coords (message.Ack t m c) h = h.2

abbrev arrives_at : Federation → Message → Node → Stepped
arrives_at s note (node.Member m) = member_step s m (member_does m (to_member.Deliver note))
arrives_at s note (node.Coord c) = coord_step s c (coord_does c (to_coord.Deliver note))

arrives_there : (s : Federation) (note : Message) → arrives_at s note (receiver note) ≡ arrives s note
arrives_there s (message.Prepare t c m count) = refl
arrives_there s (message.Vote t m c granted) = refl
arrives_there s (message.Decide t c m commit) = refl
arrives_there s (message.Ask t m c) = refl
arrives_there s (message.Ack t m c) = refl

sent_arrives : (s : Federation) (note : Message) → was_sent s.sent note ≡ true → arrives s note ≡ deliver s note
sent_arrives s note sent = ap (λ (b : Bool). if b then arrives s note else answers s answer.Unsent) (sym sent)

pub delivers_to_member : (s : Federation) (note : Message) (m : ℕ) → node.Member m ≡ receiver note → was_sent s.sent note ≡ true → member_step s m (member_does m (to_member.Deliver note)) ≡ deliver s note
delivers_to_member s note m to sent = ap (arrives_at s note) to ∙ arrives_there s note ∙ sent_arrives s note sent

pub delivers_to_coord : (s : Federation) (note : Message) (c : ℕ) → node.Coord c ≡ receiver note → was_sent s.sent note ≡ true → coord_step s c (coord_does c (to_coord.Deliver note)) ≡ deliver s note
delivers_to_coord s note c to sent = ap (arrives_at s note) to ∙ arrives_there s note ∙ sent_arrives s note sent

pub never_sent : (sent : List Message) (note : Message) → ((false ≡ true) ↔ (was_sent sent note ≡ true)) → was_sent sent note ≡ false
never_sent sent note h = by (was_sent sent note) refl
  where
    by : (b : Bool) → was_sent sent note ≡ b → was_sent sent note ≡ false
    by true e = absurd (let w : false ≡ true = h.1 e in cc)
    by false e = e

pub unsent_is : (s : Federation) (note : Message) → was_sent s.sent note ≡ false → answers s answer.Unsent ≡ deliver s note
unsent_is s note unsent = ap (λ (b : Bool). if b then arrives s note else answers s answer.Unsent) (sym unsent)
