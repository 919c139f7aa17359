-- What each call of a node asks for, where the nodes of the federation are whole and what they would write next can be written.
use Rattle.std.proofs.Common.{◌≡◌, ◌≢◌, ℕ, Bool, true, false, not, ◌&&◌, ◌||◌, ◌==◌, ◌≤◌, ◌<◌, if◌then◌else◌, List, [], ◌∷◌, length, Option, None, Some, refl, sym, ap, ◌∙◌, arith}
use Rattle.std.specs.Prelude.{IsTrue}
use Rattle.std.specs.FinMap.{entries, get-entries}
use Rattle.std.specs.List.{AllByRecursion}
use Rattle.std.proofs.lemmas.Bool.{eqb-false}
use Rattle.co_base.specs.declared.op.Op.{Op}
use Rattle.co_base.specs.declared.reply.Reply.{Reply}
use Rattle.co_base.specs.Limits.{most_operations}
use Rattle.co_message.specs.declared.answer.Answer.TheVariants as answer
use Rattle.co_message.specs.declared.message.Message.{Message}
use Rattle.co_message.specs.declared.message.Message.TheVariants as message
use Rattle.co_record.specs.declared.record.Record.{Record}
use Rattle.co_engine.specs.Calls.{is_installed, may_operate}
use Rattle.co_state.specs.declared.engine_state.Install.{Install}
use Rattle.co_state.specs.declared.engine_state.Vote.{Vote}
use Rattle.co_state.specs.LockRule.{lock_blocker}
use Rattle.co_state.specs.Table.{holds}
use Rattle.co_state.specs.VotingRule.{kept_count}
use Rattle.co_plain.specs.declared.member_state.MemberState.{MemberState}
use Rattle.co_plain.specs.declared.member_step.MemberStep.{MemberStep}
use Rattle.co_plain.specs.Federation.{Federation}
use Rattle.co_plain.specs.Invariants.{Memory, Stable, view, stands}
use Rattle.co_plain.specs.Member.{prepare_record, unless_blocked, member_op}
use Rattle.co_plain.specs.MemberLog.{prepares_onto, member_spare}
use Rattle.co_plain.specs.MemberStep.{says}
use Rattle.co_plain.specs.Numbers.{counted, IsAmong}
use Rattle.co_plain.specs.Step.{reply_in}
use Rattle.co_plain.specs.Wire.{was_sent}
use Rattle.co_law_base.proofs.ImageRules.{EachEntry, entry_has}
use Rattle.co_law_base.proofs.Lookups.{apart_by, is_nothing}
use Rattle.co_law_node.specs.WholeMembers.{IsWholeMember, was_installed}
use Rattle.co_law_node.specs.Writable.{IsWithinBounds}
use Rattle.co_law_node.proofs.MemberEvents.{few_kept}
use Rattle.co_law_node.proofs.MemberLaws.{as_kept}
use Rattle.co_member.specs.Checkpoint.{MayFill}
use Rattle.co_cluster.specs.Calls.{CoordMay, MemberMay}
use Rattle.co_cluster.specs.Conditions.{IsReady}
use Rattle.co_cluster.specs.declared.calls.CoordCall.TheVariants as to_coord
use Rattle.co_cluster.specs.declared.calls.MemberCall.TheVariants as to_member

-- ---- the votes that a filled spare tells again can be written, each by itself

again_below : (P : Record → Type 0) (es : List (ℕ × Vote)) (rs : List Record) → AllByRecursion P (prepares_onto rs es) → AllByRecursion P rs
again_below P [] rs b = b
again_below P (e ∷ es) rs b = (again_below P es (prepare_record e.0 e.1.coord e.1.count e.1.sets ∷ rs) b).1

again_each : (P : Record → Type 0) (es : List (ℕ × Vote)) (rs : List Record) → AllByRecursion P (prepares_onto rs es) →
    EachEntry (λ u vote. P (prepare_record u vote.coord vote.count vote.sets)) es
again_each P [] rs b = tt
again_each P (e ∷ es) rs b =
    let first = prepare_record e.0 e.1.coord e.1.count e.1.sets in
    ((again_below P es (first ∷ rs) b).0, again_each P es (first ∷ rs) b)

fills : (m : ℕ) (x : MemberState) → AllByRecursion IsWithinBounds (member_spare m x 0) → MayFill x
fills m x b t vote is =
    entry_has (λ u v. IsWithinBounds (prepare_record u v.coord v.count v.sets)) (entries x.engine.voted) (again_each IsWithinBounds (entries x.engine.voted) _ b) t vote
    (sym (get-entries x.engine.voted t) ∙ is)

-- ---- operations

pub neither : (a b : Bool) → (a || b) ≡ false → (a ≡ false) × (b ≡ false)
neither true b e = apart_by true refl e
neither false b e = (refl, e)

installed_alike : (is : List Install) (t : ℕ) → is_installed is t ≡ was_installed is t
installed_alike [] t = refl
installed_alike (i ∷ is) t = ap (λ b. (i.txn == t) || b) (installed_alike is t)

-- who stands nowhere at a whole member is neither voted nor installed
pub operable : (coords : ℕ) (x : MemberState) (t : ℕ) → IsWholeMember coords x → stands (view Memory x) t ≡ false → IsTrue (may_operate x.engine t)
operable coords x t whole none = by (was_installed x.engine.installed t) refl
  where
    two : (holds x.engine.voted t ≡ false) × (holds x.committed t ≡ false)
    two = neither (holds x.engine.voted t) (holds x.committed t) none

    by : (b : Bool) → was_installed x.engine.installed t ≡ b → (not (holds x.engine.voted t) && not (is_installed x.engine.installed t)) ≡ true
    by true e = apart_by (holds x.committed t) (whole.installed t e) two.1
    by false e = ap (λ b. not b && not (is_installed x.engine.installed t)) two.0 ∙ ap not (installed_alike x.engine.installed t ∙ e)

pub few_kept_here : (coords : ℕ) (x : MemberState) (t : ℕ) → IsWholeMember coords x → kept_count x.engine t ≤ most_operations
few_kept_here coords x t whole = few_kept coords x (as_kept coords x whole) t

-- an operation sends nothing, and nothing becomes stable
module _ (x : MemberState) (t carried : ℕ) (op : Op) where
  abbrev op_where : Bool → Bool → Option ℕ → MemberStep
  op_where kept most o =
      if kept then (if most then says x answer.TooMany else unless_blocked x t op o) else says x (answer.Gone (counted (kept_count x.engine t)) (counted carried))

  op_quiet_where : (kept most : Bool) (o : Option ℕ) → ((op_where kept most o).sent ≡ None) × ((op_where kept most o).marks ≡ [])
  op_quiet_where false most o = (refl, refl)
  op_quiet_where true true o = (refl, refl)
  op_quiet_where true false None = (refl, refl)
  op_quiet_where true false (Some u) = (refl, refl)

  pub op_quiet : ((member_op x t carried op).sent ≡ None) × ((member_op x t carried op).marks ≡ [])
  op_quiet = op_quiet_where (kept_count x.engine t == carried) (carried == most_operations) (lock_blocker x.engine t op)

  -- and one that was replied to is none too many
  pub replied_few : (reply : Reply) → carried ≤ most_operations → reply_in (member_op x t carried op).answer ≡ Some reply → carried < most_operations
  replied_few reply few is = by (kept_count x.engine t == carried) (carried == most_operations) refl is
    where
      by : (kept most : Bool) → (carried == most_operations) ≡ most → reply_in (op_where kept most (lock_blocker x.engine t op)).answer ≡ Some reply → carried < most_operations
      by false most e h = is_nothing h
      by true true e h = is_nothing h
      by true false e h = let other : carried ≢ most_operations = eqb-false carried most_operations e in omega (arith, other, few)

-- ---- what the calls ask for

module _ (s : Federation) (ready : IsReady s) where
  module _ (m : ℕ) (own : IsAmong m (length s.kinds)) where
    pub takes_note : (note : Message) → was_sent s.sent note ≡ true → (s.member m).up ≡ true → MemberMay s.coordinators (to_member.Deliver note) (s.member m)
    takes_note (message.Prepare t c o n) sent up = let p = ready.whole.prepares t c o n sent in (up, p.1, λ granted. (ready.writable.member m own).vote t c n p.0 p.1 granted)
    takes_note (message.Decide t c o commit) sent up = (up, tt, tt)
    takes_note (message.Vote t o c granted) sent up = (up, tt, tt)
    takes_note (message.Ask t o c) sent up = (up, tt, tt)
    takes_note (message.Ack t o c) sent up = (up, tt, tt)

    pub votes_again : (t : ℕ) → (s.member m).up ≡ true → MemberMay s.coordinators (to_member.Vote t) (s.member m)
    votes_again t up = (
      up,
      λ mark is granted. let k = (ready.whole.member m).marked t mark is in
          (ready.writable.member m own).vote t mark.coord mark.count k.1 k.2 granted,
    )

    pub checkpoints_member : (s.member m).up ≡ true → MemberMay s.coordinators to_member.Checkpoint (s.member m)
    checkpoints_member up = (up, fills m (s.member m) ((ready.writable.member m own).spare_within 0))

  pub restarts_member : (m : ℕ) → MemberMay s.coordinators to_member.Restart (s.member m)
  restarts_member m = record { allowed = (ready.whole.member m).readable Stable; free = (ready.whole.member m).conflict_free Stable }

  module _ (c : ℕ) (own : IsAmong c s.coordinators) where
    pub hears_note : (note : Message) → (s.coord c).up ≡ true → CoordMay (length s.kinds) c (to_coord.Deliver note) (s.coord c)
    hears_note note up = (up, λ t parts yeses is. (ready.writable.coord c own).decision t parts yeses is)

    pub checkpoints_coord : (s.coord c).up ≡ true → CoordMay (length s.kinds) c to_coord.Checkpoint (s.coord c)
    checkpoints_coord up = (up, λ generation. (ready.writable.coord c own).spare generation)

  pub restarts_coord : (c : ℕ) → CoordMay (length s.kinds) c to_coord.Restart (s.coord c)
  restarts_coord c = (ready.whole.coord c).readable Stable
