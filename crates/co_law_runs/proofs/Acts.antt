-- A run as a list of acts: moves, and the taking away of all armed stops.
use Rattle.std.proofs.Common.{◌≡◌, ◌⊎◌, inl, inr, Bool, true, false, List, [], ◌∷◌, ◌++◌, map, refl, sym, ap, ◌∙◌, subst}
use Rattle.co_plain.specs.declared.happening.Happening.{Happening}
use Rattle.co_plain.specs.declared.happening.Happening.TheVariants as happening
use Rattle.co_plain.specs.Federation.{Federation}
use Rattle.co_plain.specs.Step.{step, disarmed}
use Rattle.co_plain.specs.Runs.{run}
use Rattle.co_plain.specs.CommitmentOrder.{Trace, trace_of}
use Rattle.co_plain.specs.Moves.{Move, Operate, Install, CommitLocally, Begin, BeginLocal, Decide, Guard, GuardsHold, effect, all_effects}
use Rattle.co_law_base.proofs.Facts.{Facts}
use Rattle.co_plain.specs.Premises.{IsTrueVerdict, AreTrueVerdicts}
use Rattle.co_law_moves.proofs.Steps.{step_keeps}
use Rattle.co_law_moves.specs.EventMoves.{moves_of}
use Rattle.co_law_moves.specs.MoveTraces.{move_trace, moves_trace, items_along}
use Rattle.co_law_moves.proofs.ItemsTold.{more}
use Rattle.co_law_moves.proofs.Made.{Made}
use Rattle.co_law_moves.proofs.MoveByMove.{move_keeps}
use Rattle.co_law_moves.proofs.StepsMade.{event_made}
use Rattle.co_law_moves.proofs.StepsTold.{step_told}

pub data Act : Type 0 where
  Moves : Move → Act
  Disarms : Act

abbrev pub after_act : Federation → Act → Federation
after_act s (Moves move) = effect s move
after_act s Disarms = disarmed s

abbrev pub act_guard : Federation → Act → Type 0
act_guard s (Moves move) = Guard s move
act_guard s Disarms = Unit {0}

abbrev pub run_acts : List Act → Federation → Federation
run_acts [] s = s
run_acts (a ∷ acts) s = run_acts acts (after_act s a)

abbrev pub ActsHold : List Act → Federation → Type 0
ActsHold [] s = Unit {0}
ActsHold (a ∷ acts) s = act_guard s a × ActsHold acts (after_act s a)

-- what an act tells, done at this state, and acts one after another
abbrev pub act_trace : Federation → Act → List Trace
act_trace s (Moves move) = move_trace s move
act_trace s Disarms = []

abbrev pub acts_trace : List Act → Federation → List Trace
acts_trace [] s = []
acts_trace (a ∷ acts) s = act_trace s a ++ acts_trace acts (after_act s a)

pub act_keeps : (s : Federation) → Facts s → (a : Act) → act_guard s a → Facts (after_act s a)
act_keeps s f (Moves move) g = move_keeps s f move g
act_keeps s f Disarms g = step_keeps s f happening.Disarm tt

pub acts_keep : (acts : List Act) (s : Federation) → Facts s → ActsHold acts s → Facts (run_acts acts s)
acts_keep [] s f g = f
acts_keep (a ∷ acts) s f g = acts_keep acts (after_act s a) (act_keeps s f a g.0) g.1

-- what every act leaves
pub acts_leave : (R : Federation → Federation → Type 0) → ((s : Federation) → R s s) → ((s z w : Federation) → R s z → R z w → R s w) →
    ((s : Federation) → Facts s → (a : Act) → act_guard s a → R s (after_act s a)) → (acts : List Act) (s : Federation) → Facts s → ActsHold acts s → R s (run_acts acts s)
acts_leave R same on by [] s f g = same s
acts_leave R same on by (a ∷ acts) s f g =
    on s (after_act s a) (run_acts acts (after_act s a)) (by s f a g.0) (acts_leave R same on by acts (after_act s a) (act_keeps s f a g.0) g.1)

-- one list after another
pub acts_more : (xs ys : List Act) (s : Federation) → run_acts (xs ++ ys) s ≡ run_acts ys (run_acts xs s)
acts_more [] ys s = refl
acts_more (x ∷ xs) ys s = acts_more xs ys (after_act s x)

pub hold_more : (xs ys : List Act) (s : Federation) → ActsHold xs s → ActsHold ys (run_acts xs s) → ActsHold (xs ++ ys) s
hold_more [] ys s p q = q
hold_more (x ∷ xs) ys s p q = (p.0, hold_more xs ys (after_act s x) p.1 q)

pub hold_parts : (xs ys : List Act) (s : Federation) → ActsHold (xs ++ ys) s → ActsHold xs s × ActsHold ys (run_acts xs s)
hold_parts [] ys s p = (tt, p)
hold_parts (x ∷ xs) ys s p = let q = hold_parts xs ys (after_act s x) p.1 in ((p.0, q.0), q.1)

pub trace_more : (xs ys : List Act) (s : Federation) → acts_trace (xs ++ ys) s ≡ acts_trace xs s ++ acts_trace ys (run_acts xs s)
trace_more [] ys s = refl
trace_more (x ∷ xs) ys s =
    ap (λ k. act_trace s x ++ k) (trace_more xs ys (after_act s x))
    ∙ sym (more (act_trace s x) (acts_trace xs (after_act s x)) (acts_trace ys (run_acts xs (after_act s x))))

-- a list of moves
abbrev as_acts : List Move → List Act
as_acts moves = map Moves moves

leaves_as : (moves : List Move) (s : Federation) → run_acts (as_acts moves) s ≡ all_effects moves s
leaves_as [] s = refl
leaves_as (move ∷ moves) s = leaves_as moves (effect s move)

hold_as : (moves : List Move) (s : Federation) → GuardsHold moves s → ActsHold (as_acts moves) s
hold_as [] s g = tt
hold_as (move ∷ moves) s g = (g.0, hold_as moves (effect s move) g.1)

trace_as : (moves : List Move) (s : Federation) → acts_trace (as_acts moves) s ≡ moves_trace moves s
trace_as [] s = refl
trace_as (move ∷ moves) s = ap (λ k. move_trace s move ++ k) (trace_as moves (effect s move))

-- a run is its acts, and its items tell of them
pub record ActedAs (z : Federation) (trace : List Trace) (s : Federation) : Type 0 where
  pub acts : List Act
  pub leaves : run_acts acts s ≡ z
  pub guarded : ActsHold acts s
  pub tells : trace ≡ acts_trace acts s

made_acted : (s : Federation) (moves : List Move) (z : Federation) → Made s moves z → ActedAs z (moves_trace moves s) s
made_acted s moves z m = record { acts = as_acts moves; leaves = leaves_as moves s ∙ m.same; guarded = hold_as moves s m.guards; tells = sym (trace_as moves s) }

step_acted : (s : Federation) → Facts s → (h : Happening) → IsTrueVerdict s h → ActedAs (step s h).state (moves_trace (moves_of s h) s) s
step_acted s f happening.Disarm v = record { acts = Disarms ∷ []; leaves = refl; guarded = (tt, tt); tells = refl }
step_acted s f (happening.Line e) v = made_acted s (moves_of s (happening.Line e)) (step s (happening.Line e)).state (event_made s f (happening.Line e) (λ n. let z : happening.Line e ≡ happening.Disarm = n in cc) v)
step_acted s f (happening.Hand t m commit) v =
    made_acted s (moves_of s (happening.Hand t m commit)) (step s (happening.Hand t m commit)).state (event_made s f (happening.Hand t m commit) (λ n. let z : happening.Hand t m commit ≡ happening.Disarm = n in cc) v)

pub acted : (hs : List Happening) (s : Federation) → Facts s → AreTrueVerdicts hs s → ActedAs (run hs s) (trace_of (items_along hs s)) s
acted [] s f v = record { acts = []; leaves = refl; guarded = tt; tells = refl }
acted (h ∷ hs) s f v = by (step_acted s f h v.0) (acted hs (step s h).state (step_keeps s f h v.0) v.1)
  where
    by : ActedAs (step s h).state (moves_trace (moves_of s h) s) s → ActedAs (run hs (step s h).state) (trace_of (items_along hs (step s h).state)) (step s h).state → ActedAs (run (h ∷ hs) s) (trace_of (items_along (h ∷ hs) s)) s
    by a b =
        record {
          acts = a.acts ++ b.acts;
          leaves = acts_more a.acts b.acts s ∙ ap (run_acts b.acts) a.leaves ∙ b.leaves;
          guarded = hold_more a.acts b.acts s a.guarded (subst (ActsHold b.acts) (sym a.leaves) b.guarded);
          tells =
              step_told s f h (items_along hs (step s h).state) ∙ (λ i. a.tells i ++ b.tells i)
              ∙ ap (λ z. acts_trace a.acts s ++ acts_trace b.acts z) (sym a.leaves) ∙ sym (trace_more a.acts b.acts s);
        }

-- An act tells of nothing or of one thing.
pub tells_one : (s : Federation) (a : Act) → (act_trace s a ≡ []) ⊎ ((x : Trace) × (act_trace s a ≡ x ∷ []))
tells_one s Disarms = inl refl
tells_one s (Moves (Operate t m o)) = inr (_, refl)
tells_one s (Moves (Install t m)) = inr (_, refl)
tells_one s (Moves (CommitLocally t m)) = inr (_, refl)
tells_one s (Moves (Begin t c)) = inr (_, refl)
tells_one s (Moves (BeginLocal t m)) = inr (_, refl)
tells_one s (Moves (Decide t c)) = inr (_, refl)
tells_one s (Moves _) = inl refl

-- heads and tails of equal lists
abbrev head_of : {A : Type 0} → A → List A → A
head_of d [] = d
head_of d (x ∷ xs) = x

abbrev tail_of : {A : Type 0} → List A → List A
tail_of [] = []
tail_of (x ∷ xs) = xs

abbrev is_cons : {A : Type 0} → List A → Bool
is_cons [] = false
is_cons (x ∷ xs) = true

pub not_empty : {A B : Type 0} (x : A) (xs : List A) → [] ≡ x ∷ xs → B
not_empty x xs e = absurd (let z : false ≡ true = ap is_cons e in cc)

pub same_head : {A : Type 0} (x y : A) (xs ys : List A) → x ∷ xs ≡ y ∷ ys → x ≡ y
same_head x y xs ys e = ap (head_of x) e

pub same_tail : {A : Type 0} (x y : A) (xs ys : List A) → x ∷ xs ≡ y ∷ ys → xs ≡ ys
same_tail x y xs ys e = ap tail_of e

-- a place of the trace is an act
pub record Placed (acts : List Act) (s : Federation) (before : List Trace) (x : Trace) : Type 0 where
  pub front : List Act
  pub act : Act
  pub back : List Act
  pub whole : acts ≡ front ++ act ∷ back
  pub first : acts_trace front s ≡ before
  pub here : act_trace (run_acts front s) act ≡ x ∷ []

pub placed : (acts : List Act) (s : Federation) (before : List Trace) (x : Trace) (rest : List Trace) → acts_trace acts s ≡ before ++ x ∷ rest → Placed acts s before x
placed [] s [] x rest e = not_empty x rest e
placed [] s (b ∷ bs) x rest e = not_empty b (bs ++ x ∷ rest) e
placed (a ∷ acts) s before x rest e = by (λ bs k. placed acts (after_act s a) bs x rest k) (tells_one s a) before e
  where
    z : Federation
    z = after_act s a

    later : (bs : List Trace) → Placed acts z bs x → act_trace s a ≡ [] → Placed (a ∷ acts) s bs x
    later bs p q = record { front = a ∷ p.front; act = p.act; back = p.back; whole = ap (λ k. a ∷ k) p.whole; first = (λ i. q i ++ p.first i); here = p.here }

    one : ((bs : List Trace) → acts_trace acts z ≡ bs ++ x ∷ rest → Placed acts z bs x) → (y : Trace) → act_trace s a ≡ y ∷ [] → (bs : List Trace) → y ∷ acts_trace acts z ≡ bs ++ x ∷ rest → Placed (a ∷ acts) s bs x
    one deeper y q [] k = record { front = []; act = a; back = acts; whole = refl; first = refl; here = q ∙ ap (λ w. w ∷ []) (same_head y x (acts_trace acts z) rest k) }
    one deeper y q (b ∷ bs) k =
        let p = deeper bs (same_tail y b (acts_trace acts z) (bs ++ x ∷ rest) k) in
        record { front = a ∷ p.front; act = p.act; back = p.back; whole = ap (λ w. a ∷ w) p.whole; first = (λ i. q i ++ p.first i) ∙ ap (λ w. w ∷ bs) (same_head y b (acts_trace acts z) (bs ++ x ∷ rest) k); here = p.here }

    by : ((bs : List Trace) → acts_trace acts z ≡ bs ++ x ∷ rest → Placed acts z bs x) → (act_trace s a ≡ []) ⊎ ((y : Trace) × (act_trace s a ≡ y ∷ [])) → (bs : List Trace) → act_trace s a ++ acts_trace acts z ≡ bs ++ x ∷ rest → Placed (a ∷ acts) s bs x
    by deeper (inl q) bs k = later bs (deeper bs (ap (λ w. w ++ acts_trace acts z) (sym q) ∙ k)) q
    by deeper (inr p) bs k = one deeper p.0 p.1 bs (ap (λ w. w ++ acts_trace acts z) (sym p.1) ∙ k)

-- a front of the trace is that of some front of the acts
pub record Cut (acts : List Act) (s : Federation) (before : List Trace) : Type 0 where
  pub front : List Act
  pub back : List Act
  pub whole : acts ≡ front ++ back
  pub first : acts_trace front s ≡ before

pub cut : (acts : List Act) (s : Federation) (before rest : List Trace) → acts_trace acts s ≡ before ++ rest → Cut acts s before
cut acts s [] rest e = record { front = []; back = acts; whole = refl; first = refl }
cut [] s (b ∷ bs) rest e = not_empty b (bs ++ rest) e
cut (a ∷ acts) s (b ∷ bs) rest e = by (λ cs k. cut acts (after_act s a) cs rest k) (tells_one s a)
  where
    z : Federation
    z = after_act s a

    by : ((cs : List Trace) → acts_trace acts z ≡ cs ++ rest → Cut acts z cs) → (act_trace s a ≡ []) ⊎ ((y : Trace) × (act_trace s a ≡ y ∷ [])) → Cut (a ∷ acts) s (b ∷ bs)
    by deeper (inl q) =
        let p = deeper (b ∷ bs) (ap (λ k. k ++ acts_trace acts z) (sym q) ∙ e) in
        record { front = a ∷ p.front; back = p.back; whole = ap (λ k. a ∷ k) p.whole; first = (λ i. q i ++ p.first i) }
    by deeper (inr y) =
        let k : y.0 ∷ acts_trace acts z ≡ b ∷ (bs ++ rest) = ap (λ k. k ++ acts_trace acts z) (sym y.1) ∙ e in
        let p = deeper bs (same_tail y.0 b (acts_trace acts z) (bs ++ rest) k) in
        record { front = a ∷ p.front; back = p.back; whole = ap (λ w. a ∷ w) p.whole; first = (λ i. y.1 i ++ p.first i) ∙ ap (λ w. w ∷ bs) (same_head y.0 b (acts_trace acts z) (bs ++ rest) k) }

-- of two fronts of one list one is the front of the other
pub data Fronts {A : Type 0} (f g : List A) : Type 0 where
  Shorter : (mid : List A) → g ≡ f ++ mid → Fronts f g
  Longer : (mid : List A) → f ≡ g ++ mid → Fronts f g

pub fronts : {A : Type 0} (f b g d : List A) → f ++ b ≡ g ++ d → Fronts f g
fronts [] b g d e = Shorter g refl
fronts (x ∷ f) b [] d e = Longer (x ∷ f) refl
fronts (x ∷ f) b (y ∷ g) d e = by (fronts f b g d (same_tail x y (f ++ b) (g ++ d) e))
  where
    same : x ≡ y
    same = same_head x y (f ++ b) (g ++ d) e

    by : Fronts f g → Fronts (x ∷ f) (y ∷ g)
    by (Shorter mid k) = Shorter mid (λ i. sym same i ∷ k i)
    by (Longer mid k) = Longer mid (λ i. same i ∷ k i)
