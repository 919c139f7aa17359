-- Two happenings of an abort, and what a verdict says of the member that is in doubt.
use Rattle.std.proofs.Common.{◌≡◌, ◌≢◌, inr, ℕ, suc, Bool, true, false, ◌==◌, if◌then◌else◌, List, [], ◌∷◌, ◌++◌, length, Option, None, Result, Ok, Err, refl, sym, ap, ◌∙◌, subst}
use Rattle.std.specs.Result.{IsErr, IsErrAnd, IfErr}
use Rattle.std.proofs.lemmas.Bool.{and_parts, eqb-true}
use Rattle.co_base.specs.declared.head.Kind.{Kind}
use Rattle.co_base.specs.declared.node.Node.TheVariants as node
use Rattle.co_durable.specs.declared.fault.WorldFault.{WorldFault}
use Rattle.co_durable.specs.declared.fault.WorldFault.TheVariants as world
use Rattle.co_message.specs.declared.event.Event.TheVariants as event
use Rattle.co_message.specs.declared.item.Item.{Item}
use Rattle.co_opening.specs.Rest.{OnlyOwnFilesChange}
use Rattle.co_outside.specs.Home.{File, HomeView, IsClean}
use Rattle.co_outside.specs.declared.spot.Spot.{Spot}
use Rattle.co_plain.specs.Federation.{Federation}
use Rattle.co_plain.specs.Member.{coord_of, member_timer}
use Rattle.co_plain.specs.MemberStep.{standing_of}
use Rattle.co_plain.specs.Numbers.{IsAmong}
use Rattle.co_plain.specs.Step.{step, up_member}
use Rattle.co_plain.specs.declared.happening.Happening.{Happening}
use Rattle.co_plain.specs.declared.happening.Happening.TheVariants as happening
use Rattle.co_plain.specs.declared.standing.Standing.{Standing}
use Rattle.co_plain.specs.declared.standing.Standing.TheVariants.{IsActive, IsVoted, IsInstalled, IsAbsent}
use Rattle.co_state.specs.Table.{holds}
use Rattle.co_state.specs.declared.engine_state.EngineState.{EngineState}
use Rattle.co_cluster.specs.Served.{HasEndedAs}
use Rattle.co_cluster.specs.declared.doubting.Doubt.{Doubt}
use Rattle.co_world.specs.Standing.{AreServed, RepresentsWorld}
use Rattle.co_world.specs.declared.world.World.{World}
use Rattle.co_law_coop.specs.declared.told.Told.{Told}
use Rattle.co_law_coop.specs.declared.told.Told.TheVariants as told
use Rattle.co_law_coop.specs.Consulting.{is_in_doubt, letting_go, transcript_along}
use Rattle.co_law_coop.proofs.Keeping.{timer_keeps}
use Rattle.co_settle.specs.Progress.{HasEnded, EndsAs}
use Rattle.co_settle.specs.Reached.{IsReached}
use Rattle.co_settle.proofs.Composing.{ended_later, served_later}
use Rattle.co_coop.specs.Consulted.{MayConsult, IsVotedFor, FaultLeaves, DoesAlong, told_of_doubt, is_active_there}
use Rattle.co_coop.specs.Turn.{is_verdict}
use Rattle.co_coop.proofs.Along.{two_items}
use Rattle.co_coop.proofs.Asked.{reached_invariants, voted_home}

-- ---- how a call ends

pub fails_ending : {A E : Type 0} (w : World E) (old new : HomeView) (result : Result A WorldFault) (fault : WorldFault) → IsErr result × IsErrAnd result (λ f. f ≡ fault) → HasEnded fault old new → EndsAs w old new result
fails_ending w old new (Ok a) fault is h = absurd (let z : false ≡ true = is.0 in cc)
fails_ending w old new (Err f) fault is h = subst (λ (k : WorldFault). HasEnded k old new) (sym is.1) h

pub fails_leaving : {A : Type 0} (old new : HomeView) (result : Result A WorldFault) (fault : WorldFault) → IsErr result × IsErrAnd result (λ f. f ≡ fault) → FaultLeaves old new fault → IfErr result (FaultLeaves old new)
fails_leaving old new (Ok a) fault is h = tt
fails_leaving old new (Err f) fault is h = subst (λ (k : WorldFault). FaultLeaves old new k) (sym is.1) h

pub event_leaves : (fault : WorldFault) (old new : HomeView) → HasEndedAs fault old new → FaultLeaves old new fault
event_leaves (world.Device spot) old new h = tt
event_leaves (world.Differs spot at kept read) old new h = (h.1, h.2)
event_leaves (world.InUse spot) old new h = tt
event_leaves (world.Bad spot at) old new h = tt
event_leaves (world.Full spot) old new h = λ s was. subst (λ (v : HomeView). IsClean v s) (sym h) was
event_leaves world.Count old new h = tt
event_leaves (world.Old spot) old new h = tt
event_leaves world.Memory old new h = tt

-- a fault behind calls that met none
pub leaves_later : (fault : WorldFault) (old mid new : HomeView) → ((spot : Spot) → mid.file spot ≡ None → old.file spot ≡ None) → ((s : Spot) → IsClean old s → IsClean mid s) → FaultLeaves mid new fault → FaultLeaves old new fault
leaves_later (world.Device spot) old mid new told clean h = tt
leaves_later (world.Differs spot at kept read) old mid new told clean h = (told spot h.0, h.1)
leaves_later (world.InUse spot) old mid new told clean h = tt
leaves_later (world.Bad spot at) old mid new told clean h = tt
leaves_later (world.Full spot) old mid new told clean h = λ s was. h s (clean s was)
leaves_later world.Count old mid new told clean h = tt
leaves_later (world.Old spot) old mid new told clean h = tt
leaves_later world.Memory old mid new told clean h = tt

pub errs_later : {A : Type 0} (result : Result A WorldFault) (old mid new : HomeView) → ((spot : Spot) → mid.file spot ≡ None → old.file spot ≡ None) → ((s : Spot) → IsClean old s → IsClean mid s) →
    IfErr result (FaultLeaves mid new) → IfErr result (FaultLeaves old new)
errs_later (Ok a) old mid new told clean h = tt
errs_later (Err fault) old mid new told clean h = leaves_later fault old mid new told clean h

pub ends_later : {A E : Type 0} (w x : World E) (old mid new : HomeView) (result : Result A WorldFault) → AreServed w old mid → EndsAs x mid new result → EndsAs x old new result
ends_later w x old mid new (Ok a) served h = served_later w x old mid new served h
ends_later w x old mid new (Err fault) served h = ended_later fault old mid new served.quiet h

-- ---- the files of the head

pub rest_as : {E : Type 0} (takes : Kind → Type 0) (stands_for : E → EngineState → Type 0) (w : World E) (s z : Federation) (old new : HomeView) → RepresentsWorld takes stands_for w s → RepresentsWorld takes stands_for w z →
    OnlyOwnFilesChange (length s.kinds) s.coordinators old new → OnlyOwnFilesChange (length z.kinds) z.coordinators old new
rest_as takes stands_for w s z old new r q h =
    subst (λ n. OnlyOwnFilesChange n z.coordinators old new) (sym r.cluster.kinds ∙ q.cluster.kinds) (subst (λ k. OnlyOwnFilesChange (length s.kinds) k old new) (sym r.cluster.coordinators ∙ q.cluster.coordinators) h)

-- ---- the timer at the other member

abbrev pub timer_at_other : ℕ → ℕ → Happening
timer_at_other t other = happening.Line (event.Timer t (node.Member other))

abbrev pub after_timer : Federation → ℕ → ℕ → Federation
after_timer s t other = (step s (timer_at_other t other)).state

pub timer_apart : (s : Federation) (t other m : ℕ) → other ≢ m → (after_timer s t other).member m ≡ s.member m
timer_apart s t other m apart = by (s.member other).up (other == m) refl
  where
    by : (u b : Bool) → (other == m) ≡ b → (up_member s other u (member_timer (s.member other) t)).state.member m ≡ s.member m
    by false b e = refl
    by true true e = absurd (apart (eqb-true other m e))
    by true false e = ap (λ c. if c then (member_timer (s.member other) t).state else s.member m) e

pub voted_still : (s : Federation) (doubt : Doubt) (other : ℕ) → MayConsult s doubt other → IsVotedFor s doubt → IsVotedFor (after_timer s doubt.txn other) doubt
voted_still s doubt other may v =
    let same = timer_apart s doubt.txn other doubt.member (λ e. may.apart (sym e)) in
    record {
      own = subst (λ ks. IsAmong doubt.member (length ks)) (sym (timer_keeps s doubt.txn other).kinds) v.own;
      up = ap (λ x. x.up) same ∙ v.up;
      voted = ap (λ x. holds x.engine.voted doubt.txn) same ∙ v.voted;
      coord = ap (λ x. coord_of x doubt.txn) same ∙ v.coord;
    }

pub active_is : (st : Standing) → true ≡ is_active_there st → st ≡ IsActive
active_is IsActive h = refl
active_is IsVoted h = absurd (let z : true ≡ false = h in cc)
active_is IsInstalled h = absurd (let z : true ≡ false = h in cc)
active_is IsAbsent h = absurd (let z : true ≡ false = h in cc)

pub nothing_let_go : (st : Standing) (t other : ℕ) → false ≡ is_active_there st → letting_go st t other ≡ []
nothing_let_go IsActive t other h = absurd (let z : false ≡ true = h in cc)
nothing_let_go IsVoted t other h = refl
nothing_let_go IsInstalled t other h = refl
nothing_let_go IsAbsent t other h = refl

module _ {A E : Type 0} (takes : Kind → Type 0) (stands_for : E → EngineState → Type 0) (s : Federation) (t m other number : ℕ) (file : Spot → Option File) (w : World E) (old : List Item) (result : Result A WorldFault) where
  abbrev hand : Happening
  hand = happening.Hand t m false

  does_two : (next : ℕ) (mid new : List Item) (r : Result A WorldFault) → next ≡ suc number → mid ≡ old ++ transcript_along number (timer_at_other t other ∷ []) s →
      DoesAlong takes stands_for (after_timer s t other) next (hand ∷ []) mid new w file r → DoesAlong takes stands_for s number (timer_at_other t other ∷ hand ∷ []) old new w file r
  does_two next mid new (Ok a) follows p d = (two_items number next (timer_at_other t other) hand (event.Timer t (node.Member other)) s old mid new refl follows p d.0, d.1)
  does_two next mid new (Err fault) follows p d = inr d

  pub does_both : (next : ℕ) (mid new : List Item) → standing_of (s.member other) t ≡ IsActive → next ≡ suc number → mid ≡ old ++ transcript_along number (timer_at_other t other ∷ []) s →
      DoesAlong takes stands_for (after_timer s t other) next (hand ∷ []) mid new w file result →
      DoesAlong takes stands_for s number (letting_go (standing_of (s.member other) t) t other ++ hand ∷ []) old new w file result
  does_both next mid new e follows p d = subst (λ st. DoesAlong takes stands_for s number (letting_go st t other ++ hand ∷ []) old new w file result) (sym e) (does_two next mid new result follows p d)

-- ---- a verdict

-- what is told of two tests
doubted : (b u : Bool) (x : Told) → is_verdict (if b then (if u then x else told.Down) else told.Settled) ≡ true → (b ≡ true) × (u ≡ true)
doubted false u x h = absurd (let z : false ≡ true = h in cc)
doubted true false x h = absurd (let z : false ≡ true = h in cc)
doubted true true x h = (refl, refl)

module _ (s : Federation) (r : IsReached s) (doubt : Doubt) (other : ℕ) (may : MayConsult s doubt other) (verdict : is_verdict (told_of_doubt s doubt other) ≡ true) where
  tests : (is_in_doubt s doubt.txn doubt.member ≡ true) × ((s.member other).up ≡ true)
  tests = doubted (is_in_doubt s doubt.txn doubt.member) (s.member other).up _ verdict

  pub verdict_up : (s.member other).up ≡ true
  verdict_up = tests.1

  pub verdict_voted : IsVotedFor s doubt
  verdict_voted =
      let p = and_parts (s.member doubt.member).up (holds (s.member doubt.member).engine.voted doubt.txn) tests.0 in
      record { own = may.asker; up = p.0; voted = p.1; coord = voted_home s (reached_invariants s r) doubt.txn doubt.member doubt.coord may.home p.1 }
