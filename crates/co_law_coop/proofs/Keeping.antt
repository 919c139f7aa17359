-- What a consultation leaves as it was: the federation's nodes, its clients and its opened logs.
use Rattle.std.proofs.Common.{◌≡◌, ℕ, Bool, true, false, [], ◌∷◌, ◌++◌, refl, ap, ◌∙◌}
use Rattle.co_base.specs.declared.node.Node.TheVariants as node
use Rattle.co_message.specs.declared.event.Event.TheVariants as event
use Rattle.co_plain.specs.declared.happening.Happening.TheVariants as happening
use Rattle.co_plain.specs.declared.member_step.MemberStep.{MemberStep}
use Rattle.co_plain.specs.declared.standing.Standing.{Standing}
use Rattle.co_plain.specs.declared.standing.Standing.TheVariants.{IsActive, IsVoted, IsInstalled, IsAbsent}
use Rattle.co_plain.specs.Decisions.{BelongsTo, BegunThere, VotedBefore, votes_for}
use Rattle.co_plain.specs.MemberView.{recovered_view}
use Rattle.co_state.specs.Table.{look}
use Rattle.co_plain.specs.Federation.{Federation}
use Rattle.co_plain.specs.MemberStep.{standing_of}
use Rattle.co_plain.specs.Runs.{run}
use Rattle.co_plain.specs.Step.{step, up_member}
use Rattle.co_plain.specs.Premises.{AreOwn}
use Rattle.co_law_coop.specs.declared.told.Told.{Told}
use Rattle.co_law_coop.specs.declared.told.Told.TheVariants as told
use Rattle.co_law_coop.specs.Consulting.{told_at_turn, letting_go, done_for, consultation}

pub record Keeps (s z : Federation) : Type 0 where
  pub kinds : z.kinds ≡ s.kinds
  pub coordinators : z.coordinators ≡ s.coordinators
  pub coord : z.coord ≡ s.coord
  pub sessions : z.sessions ≡ s.sessions
  pub opened : z.opened_member ≡ s.opened_member

pub keeps_all : (s : Federation) → Keeps s s
keeps_all s = record { kinds = refl; coordinators = refl; coord = refl; sessions = refl; opened = refl }

pub keeps_on : (s z w : Federation) → Keeps s z → Keeps z w → Keeps s w
keeps_on s z w g k =
    record {
      kinds = k.kinds ∙ g.kinds;
      coordinators = k.coordinators ∙ g.coordinators;
      coord = k.coord ∙ g.coord;
      sessions = k.sessions ∙ g.sessions;
      opened = k.opened ∙ g.opened;
    }

-- so does all that one member does
member_keeps : (s : Federation) (m : ℕ) (up : Bool) (did : MemberStep) → Keeps s (up_member s m up did).state
member_keeps s m true did = record { kinds = refl; coordinators = refl; coord = refl; sessions = refl; opened = refl }
member_keeps s m false did = keeps_all s

pub hand_keeps : (s : Federation) (t m : ℕ) (commit : Bool) → Keeps s (step s (happening.Hand t m commit)).state
hand_keeps s t m commit = member_keeps s m (s.member m).up _

pub timer_keeps : (s : Federation) (t m : ℕ) → Keeps s (step s (happening.Line (event.Timer t (node.Member m)))).state
timer_keeps s t m = member_keeps s m (s.member m).up _

letting_keeps : (s : Federation) (x : Standing) (t m other : ℕ) → Keeps s (run (letting_go x t other ++ happening.Hand t m false ∷ []) s)
letting_keeps s IsActive t m other =
    let z = (step s (happening.Line (event.Timer t (node.Member other)))).state in
    keeps_on s z (step z (happening.Hand t m false)).state (timer_keeps s t other) (hand_keeps z t m false)
letting_keeps s IsVoted t m other = hand_keeps s t m false
letting_keeps s IsInstalled t m other = hand_keeps s t m false
letting_keeps s IsAbsent t m other = hand_keeps s t m false

done_keeps : (s : Federation) (x : Told) (t m other : ℕ) → Keeps s (run (done_for x (s.member other) t m other) s)
done_keeps s told.Commit t m other = hand_keeps s t m true
done_keeps s told.Abort t m other = letting_keeps s (standing_of (s.member other) t) t m other
done_keeps s told.Settled t m other = keeps_all s
done_keeps s told.Down t m other = keeps_all s
done_keeps s told.InDoubt t m other = keeps_all s
done_keeps s told.Stranger t m other = keeps_all s
done_keeps s told.Reachable t m other = keeps_all s

pub consultation_keeps : (s : Federation) (t m c other : ℕ) → Keeps s (run (consultation s t m c other) s)
consultation_keeps s t m c other = done_keeps s (told_at_turn s t m c other) t m other

-- a transaction belongs to its coordinator still
pub still_belongs : (s z : Federation) → Keeps s z → (t c : ℕ) → BelongsTo s t c → BelongsTo z t c
still_belongs s z k t c (BegunThere session e by) = BegunThere session (ap (λ x. look x t) k.sessions ∙ e) by
still_belongs s z k t c (VotedBefore m h) = VotedBefore m (ap (λ logs. votes_for (look (recovered_view (logs m)).voted t) c) k.opened ∙ h)

-- ---- begins and operations are none of what is done

letting_own : (n k : ℕ) (x : Standing) (t m other : ℕ) → AreOwn n k (letting_go x t other ++ happening.Hand t m false ∷ [])
letting_own n k IsActive t m other = (tt, (tt, tt))
letting_own n k IsVoted t m other = (tt, tt)
letting_own n k IsInstalled t m other = (tt, tt)
letting_own n k IsAbsent t m other = (tt, tt)

done_own : (n k : ℕ) (s : Federation) (x : Told) (t m other : ℕ) → AreOwn n k (done_for x (s.member other) t m other)
done_own n k s told.Commit t m other = (tt, tt)
done_own n k s told.Abort t m other = letting_own n k (standing_of (s.member other) t) t m other
done_own n k s told.Settled t m other = tt
done_own n k s told.Down t m other = tt
done_own n k s told.InDoubt t m other = tt
done_own n k s told.Stranger t m other = tt
done_own n k s told.Reachable t m other = tt

pub consultation_own : (n k : ℕ) (s : Federation) (t m c other : ℕ) → AreOwn n k (consultation s t m c other)
consultation_own n k s t m c other = done_own n k s (told_at_turn s t m c other) t m other
