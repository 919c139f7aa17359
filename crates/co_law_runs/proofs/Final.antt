-- Every timer that ends a transaction is final.
use Rattle.std.proofs.Common.{◌≡◌, ◌⊎◌, inl, inr, ℕ, Bool, true, false, List, Option, None, Some, refl, sym, subst}
use Rattle.co_base.specs.declared.node.Node.{Node}
use Rattle.co_base.specs.declared.node.Node.TheVariants as node
use Rattle.co_base.specs.declared.part.Part.{Part}
use Rattle.co_message.specs.declared.answer.Answer.TheVariants as answer
use Rattle.co_message.specs.declared.answer.Cause.TheVariants as cause
use Rattle.co_state.specs.Table.{look, holds}
use Rattle.co_plain.specs.declared.coord_state.Entry.{Entry}
use Rattle.co_plain.specs.declared.coord_state.Entry.TheVariants as entry
use Rattle.co_plain.specs.Coordinator.{aborts, timer_entry}
use Rattle.co_plain.specs.Federation.{Federation}
use Rattle.co_plain.specs.Member.{timer_by}
use Rattle.co_plain.specs.MemberStep.{standing_by}
use Rattle.co_plain.specs.Moves.{Leave, effect}
use Rattle.co_plain.specs.Step.{up_member, up_coord}
use Rattle.co_law_base.proofs.Facts.{Facts}
use Rattle.co_law_runs.proofs.Working.{Working}
use Rattle.co_law_runs.specs.Finality.{reply_told, IsFinal}
use Rattle.co_law_runs.proofs.Hopeless.{Hopeless, Dead, Lost}
use Rattle.co_law_runs.proofs.InQuiet.{drop_hopeless, leave_hopeless, timer_never, active_timed}

module _ (s : Federation) (f : Facts s) (w : Working s) where
  -- the messages to participants do not matter
  told_hopeless : (t c : ℕ) (parts : List Part) → Hopeless (effect s (Leave t c)) t → Hopeless (up_coord s c true (aborts c (s.coord c) t cause.Timer parts)).state t
  told_hopeless t c parts (Dead d b a) = Dead d b a
  told_hopeless t c parts (Lost m l h) = Lost m l h

  -- a member drops who is active there
  dropped_active : (t m : ℕ) → (up a v c : Bool) → reply_told (up_member s m up (timer_by (s.member m) t (standing_by a v c))).items ≡ Some answer.Dropped → (up ≡ true) × (a ≡ true)
  dropped_active t m false a v c h = absurd (let z : Some (answer.Down (node.Member m)) ≡ Some answer.Dropped = h in cc)
  dropped_active t m true true v c h = (refl, refl)
  dropped_active t m true false true c h = absurd (let z : Some answer.Kept ≡ Some answer.Dropped = h in cc)
  dropped_active t m true false false true h = absurd (let z : Some answer.Already ≡ Some answer.Dropped = h in cc)
  dropped_active t m true false false false h = absurd (let z : Some answer.Absent ≡ Some answer.Dropped = h in cc)

  abbrev IsUndecided : Option Entry → Type 0
  IsUndecided o = (o ≡ Some entry.Idle) ⊎ ((parts : List Part) × (yeses : List ℕ) × (o ≡ Some (entry.Collecting parts yeses)))

  -- a coordinator ends who is undecided in its table
  aborted_undecided : (t c : ℕ) (up : Bool) (o : Option Entry) → reply_told (up_coord s c up (timer_entry c (s.coord c) t o)).items ≡ Some (answer.Aborted cause.Timer) → (up ≡ true) × IsUndecided o
  aborted_undecided t c false o h = absurd (let z : Some (answer.Down (node.Coord c)) ≡ Some (answer.Aborted cause.Timer) = h in cc)
  aborted_undecided t c true None h = absurd (let z : Some answer.Unknown ≡ Some (answer.Aborted cause.Timer) = h in cc)
  aborted_undecided t c true (Some entry.Idle) h = (refl, inl refl)
  aborted_undecided t c true (Some (entry.Collecting parts yeses)) h = (refl, inr (parts, yeses, refl))
  aborted_undecided t c true (Some (entry.Committed members acks)) h = absurd (let z : Some answer.Decided ≡ Some (answer.Aborted cause.Timer) = h in cc)

  pub timer_final : (t : ℕ) (at : Node) → IsFinal s t at
  timer_final t (node.Member m) h =
      let p = dropped_active t m (s.member m).up (holds (s.member m).engine.active t) (holds (s.member m).engine.voted t) (holds (s.member m).committed t) h in
      timer_never s f w t (node.Member m) (subst (λ z. Hopeless z.state t) (sym (active_timed s f w t m p.0 p.1)) (drop_hopeless s f w t m p.1))
  timer_final t (node.Coord c) h =
      let p = aborted_undecided t c (s.coord c).up (look (s.coord c).table t) h in
      timer_never s f w t (node.Coord c) (by p.0 p.1)
    where
      by : (s.coord c).up ≡ true → IsUndecided (look (s.coord c).table t) → Hopeless (up_coord s c (s.coord c).up (timer_entry c (s.coord c) t (look (s.coord c).table t))).state t
      by u (inl e) =
          subst (λ z. Hopeless z.state t) (λ j. up_coord s c (sym u j) (timer_entry c (s.coord c) t (sym e j)))
          (leave_hopeless s f w t c ((f.coords c).idle t e))
      by u (inr q) =
          subst (λ z. Hopeless z.state t) (λ j. up_coord s c (sym u j) (timer_entry c (s.coord c) t (sym q.2 j)))
          (told_hopeless t c q.0 (leave_hopeless s f w t c ((f.coords c).collecting t q.0 q.1 q.2).still))
