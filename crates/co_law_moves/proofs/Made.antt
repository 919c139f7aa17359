-- A list of moves from one state to another.
use Rattle.std.specs.Option.{is_some}
use Rattle.co_state.specs.declared.engine_state.Vote.{Vote}
use Rattle.std.proofs.Common.{◌≡◌, ◌⊎◌, inl, inr, ℕ, true, false, ◌==◌, List, [], ◌∷◌, Option, None, Some, refl, sym, ap, ◌∙◌, subst, Bool, if◌then◌else◌}
use Rattle.std.proofs.lemmas.Bool.{or_left, or_right, eqb-true, eq-eqb}
use Rattle.co_base.specs.declared.part.Part.{Part}
use Rattle.co_plain.specs.Numbers.{has_number}
use Rattle.co_plain.specs.Coordinator.{decisions_to, prepares_to}
use Rattle.co_base.specs.declared.mark.Mark.{Mark}
use Rattle.co_message.specs.declared.message.Message.{Message}
use Rattle.co_message.specs.declared.message.Message.TheVariants as message
use Rattle.co_serial.specs.SerialRun.{with_at}
use Rattle.co_state.specs.Table.{look, holds}
use Rattle.co_plain.specs.declared.coord_state.CoordState.{CoordState}
use Rattle.co_plain.specs.declared.member_state.MemberState.{MemberState}
use Rattle.co_plain.specs.Member.{coord_in, coord_of}
use Rattle.co_plain.specs.MemberStep.{member_down}
use Rattle.co_plain.specs.CoordStep.{coord_down}
use Rattle.co_plain.specs.Federation.{Federation, with_member, with_coord, noted, decide_all}
use Rattle.co_plain.specs.Decisions.{votes_for, BelongsTo, IsPresumedAborted}
use Rattle.co_plain.specs.SoundLogs.{log_has_committed}
use Rattle.co_plain.specs.Invariants.{Stable, view}
use Rattle.co_plain.specs.Moves.{Move, Operate, MarkAsked, Cast, DropActive, DropVoted, Install, CommitLocally, CrashMember, RestartMember, ArmMember, CloseMemberSpare, FillMemberSpare, Begin, Collect, RecordYes, Decide, Leave, RecordAck, End, CrashCoord, RestartCoord, ArmCoord, CloseCoordSpare, FillCoordSpare, BeginLocal, AskEnd, Send, Guard, effect, all_effects, GuardsHold}
use Rattle.co_law_base.proofs.Facts.{rest_of, over, settled, took, alive, belongs}
use Rattle.co_law_base.proofs.Carrying.{at_here}
use Rattle.co_law_base.proofs.Sending.{Allowed}
use Rattle.co_law_moves.specs.OwnGuards.{Logs, SoundLogs, AnyLogs, Where, may_say, GuardOver, GuardsOver}
use Rattle.co_law_moves.proofs.CoordNotes.{EachPart}
use Rattle.co_law_moves.specs.EventMoves.{sends}
use Rattle.co_law_moves.proofs.KeptFrom.{settled_is, took_is, dead_is, belongs_is}

-- each move with its strong guard
pub record Made (s : Federation) (moves : List Move) (z : Federation) : Type 0 where
  pub same : all_effects moves s ≡ z
  pub guards : GuardsHold moves s

-- each with its guard over sound logs, or over any
pub record MadeOver (l : Logs) (s : Federation) (moves : List Move) (z : Federation) : Type 0 where
  pub same : all_effects moves s ≡ z
  pub guards : GuardsOver l moves s

-- over sound logs the guards are the strong ones
sound_guard : (s : Federation) (move : Move) → GuardOver SoundLogs s move → Guard s move
sound_guard s (Send (message.Decide t c m true)) g = (g.0.0, g.0.1, g.1)
sound_guard s (Send (message.Decide t c m false)) g = g
sound_guard s (Send (message.Prepare t c m n)) g = g
sound_guard s (Send (message.Vote t m c granted)) g = g
sound_guard s (Send (message.Ask t m c)) g = g
sound_guard s (Send (message.Ack t m c)) g = g
sound_guard s (Operate t m o) g = g
sound_guard s (MarkAsked t m c n) g = g
sound_guard s (Cast t m c n) g = g
sound_guard s (DropActive t m) g = g
sound_guard s (DropVoted t m) g = g
sound_guard s (Install t m) g = g
sound_guard s (CommitLocally t m) g = g
sound_guard s (CrashMember m) g = g
sound_guard s (RestartMember m) g = g
sound_guard s (ArmMember m stop) g = g
sound_guard s (CloseMemberSpare m closed) g = g
sound_guard s (FillMemberSpare m) g = g
sound_guard s (Begin t c) g = g
sound_guard s (Collect t c) g = g
sound_guard s (RecordYes t c m) g = g
sound_guard s (Decide t c) g = g
sound_guard s (Leave t c) g = g
sound_guard s (RecordAck t c m) g = g
sound_guard s (End t c) g = g
sound_guard s (CrashCoord c) g = g
sound_guard s (RestartCoord c) g = g
sound_guard s (ArmCoord c stop) g = g
sound_guard s (CloseCoordSpare c closed) g = g
sound_guard s (FillCoordSpare c) g = g
sound_guard s (BeginLocal t m) g = g
sound_guard s (AskEnd t) g = g

sound_guards : (moves : List Move) (s : Federation) → GuardsOver SoundLogs moves s → GuardsHold moves s
sound_guards [] s g = tt
sound_guards (move ∷ moves) s g = (sound_guard s move g.0, sound_guards moves (effect s move) g.1)

pub sound_made : (s : Federation) (moves : List Move) (z : Federation) → MadeOver SoundLogs s moves z → Made s moves z
sound_made s moves z r = record { same = r.same; guards = sound_guards moves s r.guards }

pub no_move : (l : Logs) (s : Federation) → MadeOver l s [] s
no_move l s = record { same = refl; guards = tt }

pub one_more : (l : Logs) (s z : Federation) (move : Move) (moves : List Move) → GuardOver l s move → MadeOver l (effect s move) moves z → MadeOver l s (move ∷ moves) z
one_more l s z move moves g r = record { same = r.same; guards = (g, r.guards) }

pub made_to : (l : Logs) (s : Federation) (moves : List Move) (z w : Federation) → z ≡ w → MadeOver l s moves z → MadeOver l s moves w
made_to l s moves z w e r = subst (MadeOver l s moves) e r

pub made_from : (l : Logs) (s w : Federation) (moves : List Move) (z : Federation) → s ≡ w → MadeOver l w moves z → MadeOver l s moves z
made_from l s w moves z e r = subst (λ k. MadeOver l k moves z) (sym e) r

-- a node that stays, and a second change of the same node
same_family : {X : Type 0} (f : ℕ → X) (m : ℕ) → with_at f m (f m) ≡ f
same_family f m = λ i n. by n (m == n) refl i
  where
    by : (n : ℕ) (b : Bool) → (m == n) ≡ b → (if m == n then f m else f n) ≡ f n
    by n true e = ap (λ b. if b then f m else f n) e ∙ ap f (eqb-true m n e)
    by n false e = ap (λ b. if b then f m else f n) e

twice_family : {X : Type 0} (f : ℕ → X) (m : ℕ) (x y : X) → with_at (with_at f m x) m y ≡ with_at f m y
twice_family f m x y = λ i n. by n (m == n) i
  where
    by : (n : ℕ) (b : Bool) → (if b then y else (if b then x else f n)) ≡ (if b then y else f n)
    by n true = refl
    by n false = refl

pub member_same : (s : Federation) (m : ℕ) → with_member s m (s.member m) ≡ s
member_same s m = λ i. record s { member = same_family s.member m i }

pub coord_same : (s : Federation) (c : ℕ) → with_coord s c (s.coord c) ≡ s
coord_same s c = λ i. record s { coord = same_family s.coord c i }

pub member_first : (l : Logs) (s : Federation) (m : ℕ) (moves : List Move) (z : Federation) → MadeOver l (with_member s m (s.member m)) moves z → MadeOver l s moves z
member_first l s m moves z r = made_from l s (with_member s m (s.member m)) moves z (sym (member_same s m)) r

pub coord_first : (l : Logs) (s : Federation) (c : ℕ) (moves : List Move) (z : Federation) → MadeOver l (with_coord s c (s.coord c)) moves z → MadeOver l s moves z
coord_first l s c moves z r = made_from l s (with_coord s c (s.coord c)) moves z (sym (coord_same s c)) r

pub member_still : (l : Logs) (s : Federation) (m : ℕ) → MadeOver l s [] (with_member s m (s.member m))
member_still l s m = made_to l s [] s (with_member s m (s.member m)) (sym (member_same s m)) (no_move l s)

pub coord_still : (l : Logs) (s : Federation) (c : ℕ) → MadeOver l s [] (with_coord s c (s.coord c))
coord_still l s c = made_to l s [] s (with_coord s c (s.coord c)) (sym (coord_same s c)) (no_move l s)

pub member_then : (l : Logs) (s : Federation) (m : ℕ) (x : MemberState) (next : MemberState → MemberState) (move : Move) →
    (effect (with_member s m x) move ≡ with_member (with_member s m x) m (next (with_at s.member m x m))) →
    GuardOver l (with_member s m x) move → (moves : List Move) (z : Federation) → MadeOver l (with_member s m (next x)) moves z → MadeOver l (with_member s m x) (move ∷ moves) z
member_then l s m x next move does g moves z r =
    one_more l (with_member s m x) z move moves g
    (made_from l (effect (with_member s m x) move) (with_member s m (next x)) moves z
    (does ∙ (λ i. record s { member = twice_family s.member m x (next (with_at s.member m x m)) i }) ∙ ap (λ k. with_member s m (next k)) (at_here s.member m x)) r)

pub coord_then : (l : Logs) (s : Federation) (c : ℕ) (y : CoordState) (next : CoordState → CoordState) (move : Move) →
    (effect (with_coord s c y) move ≡ with_coord (with_coord s c y) c (next (with_at s.coord c y c))) →
    GuardOver l (with_coord s c y) move → (moves : List Move) (z : Federation) → MadeOver l (with_coord s c (next y)) moves z → MadeOver l (with_coord s c y) (move ∷ moves) z
coord_then l s c y next move does g moves z r =
    one_more l (with_coord s c y) z move moves g
    (made_from l (effect (with_coord s c y) move) (with_coord s c (next y)) moves z
    (does ∙ (λ i. record s { coord = twice_family s.coord c y (next (with_at s.coord c y c)) i }) ∙ ap (λ k. with_coord s c (next k)) (at_here s.coord c y)) r)

-- a message that says what is true
names_it : (s : Federation) (t m c : ℕ) → votes_for (look (s.member m).engine.voted t) c ≡ true → (holds (s.member m).engine.voted t ≡ true) × (coord_of (s.member m) t ≡ c)
names_it s t m c h = by (look (s.member m).engine.voted t) h
  where
    by : (o : Option Vote) → votes_for o c ≡ true → (is_some o ≡ true) × (coord_in o ≡ c)
    by None k = absurd (let z : false ≡ true = k in cc)
    by (Some vote) k = (refl, eqb-true vote.coord c k)

-- what is asked for only over sound logs
pub where_map : {A B : Type 0} (l : Logs) → (A → B) → Where l A → Where l B
where_map SoundLogs h a = h a
where_map AnyLogs h a = tt

pub always : {A : Type 0} (l : Logs) → A → Where l A
always SoundLogs a = a
always AnyLogs a = tt

abbrev pub AllowedOver : Logs → Federation → Message → Type 0
AllowedOver l s (message.Decide t c m true) = Where l (settled (rest_of s) t × took (rest_of s) t m) × (over (rest_of s) t ≡ true)
AllowedOver l s (message.Decide t c m false) =
    Where l ((belongs (rest_of s) t c × (alive (rest_of s) c t ≡ false)) ⊎ (holds (view Stable (s.member m)).committed t ≡ true)) × (over (rest_of s) t ≡ true)
AllowedOver l s note = Allowed s note

abbrev pub AllAllowedOver : Logs → Federation → List Message → Type 0
AllAllowedOver l s [] = Unit {0}
AllAllowedOver l s (k ∷ ks) = AllowedOver l s k × AllAllowedOver l (effect s (Send k)) ks

pub allowed_may : (l : Logs) (s : Federation) (note : Message) → AllowedOver l s note → may_say l s note
allowed_may l s (message.Prepare t c m n) g = g
allowed_may l s (message.Vote t m c true) g = names_it s t m c g
allowed_may l s (message.Vote t m c false) g = g
allowed_may l s (message.Decide t c m true) g = (where_map l (λ p. (settled_is s t p.0, took_is s t m p.1)) g.0, g.1)
allowed_may l s (message.Decide t c m false) g = (where_map l by g.0, g.1)
  where
    by : (belongs (rest_of s) t c × (alive (rest_of s) c t ≡ false)) ⊎ (holds (view Stable (s.member m)).committed t ≡ true) → (BelongsTo s t c × IsPresumedAborted s t) ⊎ (log_has_committed (s.member m).log.stable t ≡ true)
    by (inl p) = inl (belongs_is s t c p.0, dead_is s t c p.0 p.1)
    by (inr h) = inr h
allowed_may l s (message.Ask t m c) g = names_it s t m c g
allowed_may l s (message.Ack t m c) g = g

-- messages that may be said now may be said while others are sent
pub all_commits : (l : Logs) (s : Federation) (t c : ℕ) (ms : List ℕ) → ((m : ℕ) → has_number ms m ≡ true → AllowedOver l s (message.Decide t c m true)) → AllAllowedOver l s (decisions_to c t true ms)
all_commits l s t c [] h = tt
all_commits l s t c (m ∷ ms) h = (
  h m (or_left (m == m) (has_number ms m) (eq-eqb m m refl)),
  all_commits l (effect s (Send (message.Decide t c m true))) t c ms (λ k n. h k (or_right (m == k) (has_number ms k) n)),
)

pub all_aborts : (l : Logs) (s : Federation) (t c : ℕ) (ms : List ℕ) → ((m : ℕ) → AllowedOver l s (message.Decide t c m false)) → AllAllowedOver l s (decisions_to c t false ms)
all_aborts l s t c [] h = tt
all_aborts l s t c (m ∷ ms) h = (h m, all_aborts l (effect s (Send (message.Decide t c m false))) t c ms h)

pub all_prepares : (l : Logs) (s : Federation) (t c : ℕ) (ps : List Part) → EachPart (λ p. Allowed s (message.Prepare t c p.member p.count)) ps → AllAllowedOver l s (prepares_to c t ps)
all_prepares l s t c [] h = tt
all_prepares l s t c (p ∷ ps) h = (h.0, all_prepares l (effect s (Send (message.Prepare t c p.member p.count))) t c ps h.1)

-- messages, with marks that decide nothing
pub sends_made : (l : Logs) (z : Federation) (marks : List Mark) (notes : List Message) → decide_all z.sessions z.decided marks ≡ z.decided → AllAllowedOver l z notes → MadeOver l z (sends notes) (noted z marks notes)
sends_made l z marks [] e g = made_to l z [] z (noted z marks []) (λ i. record z { decided = sym e i }) (no_move l z)
sends_made l z marks (k ∷ ks) e g = one_more l z (noted z marks (k ∷ ks)) (Send k) (sends ks) (allowed_may l z k g.0) (sends_made l (effect z (Send k)) marks ks e g.1)

-- a crash
pub crash_made : (l : Logs) (s : Federation) (m : ℕ) (x : MemberState) (marks : List Mark) → decide_all s.sessions s.decided marks ≡ s.decided → MadeOver l (with_member s m x) (CrashMember m ∷ []) (noted (with_member s m (member_down x x.log)) marks [])
crash_made l s m x marks e =
    member_then l s m x (λ z. member_down z z.log) (CrashMember m) refl tt [] (noted (with_member s m (member_down x x.log)) marks [])
    (sends_made l (with_member s m (member_down x x.log)) marks [] e tt)

pub coord_crash_made : (l : Logs) (s : Federation) (c : ℕ) (y : CoordState) (marks : List Mark) → decide_all s.sessions s.decided marks ≡ s.decided → MadeOver l (with_coord s c y) (CrashCoord c ∷ []) (noted (with_coord s c (coord_down y.log)) marks [])
coord_crash_made l s c y marks e =
    coord_then l s c y (λ z. coord_down z.log) (CrashCoord c) refl tt [] (noted (with_coord s c (coord_down y.log)) marks [])
    (sends_made l (with_coord s c (coord_down y.log)) marks [] e tt)
