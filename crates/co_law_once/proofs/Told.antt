-- What is forced once is told once.
use Rattle.std.proofs.Common.{◌≡◌, ℕ, Bool, true, false, ◌||◌, ◌&&◌, ◌==◌, List, [], ◌∷◌, ◌++◌, refl, sym, ap, ◌∙◌, subst}
use Rattle.std.specs.List.{list_any}
use Rattle.std.proofs.lemmas.Bool.{and_parts, or_parts, false_from_ne_true}
use Rattle.std.proofs.lemmas.List.Folds.{list_any-append}
use Rattle.co_base.specs.declared.head.Kind.{Kind}
use Rattle.co_base.specs.declared.node.Node.{Node}
use Rattle.co_base.specs.declared.node.Node.TheVariants as node
use Rattle.co_base.specs.Nodes.{same_node}
use Rattle.co_plain.specs.declared.happening.Happening.{Happening}
use Rattle.co_plain.specs.CommitmentOrder.{trace_of}
use Rattle.co_plain.specs.Federation.{Federation}
use Rattle.co_plain.specs.Moves.{Move, Operate, Install, CommitLocally, Begin, BeginLocal, Decide, effect}
use Rattle.co_plain.specs.Opening.{Found, opened}
use Rattle.co_plain.specs.Premises.{AreOpenable, AreTrueVerdicts}
use Rattle.co_plain.specs.Step.{step}
use Rattle.co_law_base.proofs.Facts.{Facts}
use Rattle.co_law_moves.specs.EventMoves.{moves_of}
use Rattle.co_law_moves.specs.MoveTraces.{items_along, move_trace, moves_trace}
use Rattle.co_law_moves.proofs.Start.{start_facts}
use Rattle.co_law_moves.proofs.Steps.{step_keeps}
use Rattle.co_law_moves.proofs.StepsTold.{step_told}
use Rattle.co_law_once.specs.Once.{AtMostOnce, moves_along, forces_install, forces_decision, tells_commit_here}
use Rattle.co_law_once.proofs.Forced.{installs_once, decisions_once}
use Rattle.co_law_once.proofs.Walking.{once_append}

-- the parts of a list
once_parts : {X : Type 0} (p : X → Bool) (xs ys : List X) → AtMostOnce p (xs ++ ys) → AtMostOnce p xs × (list_any p xs ≡ true → list_any p ys ≡ false) × AtMostOnce p ys
once_parts p [] ys a = (tt, (λ h. absurd (let z : false ≡ true = h in cc)), a)
once_parts p (x ∷ xs) ys a =
    let q = once_parts p xs ys a.1 in
    (((λ h. (both h).0), q.0), by q (p x) refl, q.2)
  where
    both : p x ≡ true → (list_any p xs ≡ false) × (list_any p ys ≡ false)
    both h = or_parts (list_any p xs) (list_any p ys) (sym (list_any-append p xs ys) ∙ a.0 h)

    by : AtMostOnce p xs × (list_any p xs ≡ true → list_any p ys ≡ false) × AtMostOnce p ys → (b : Bool) → p x ≡ b → (b || list_any p xs) ≡ true → list_any p ys ≡ false
    by q true e h = (both e).1
    by q false e h = q.1 h

-- a test that passes less
less_any : {X : Type 0} (p q : X → Bool) → ((x : X) → q x ≡ true → p x ≡ true) → (xs : List X) → list_any p xs ≡ false → list_any q xs ≡ false
less_any p q less [] h = refl
less_any p q less (x ∷ xs) h =
    let r = or_parts (p x) (list_any p xs) h in
    let none : q x ≡ false = false_from_ne_true _ (λ k. let z : true ≡ false = sym (less x k) ∙ r.0 in cc) in
    ap (λ b. b || list_any q xs) none ∙ less_any p q less xs r.1

less_once : {X : Type 0} (p q : X → Bool) → ((x : X) → q x ≡ true → p x ≡ true) → (xs : List X) → AtMostOnce p xs → AtMostOnce q xs
less_once p q less [] a = tt
less_once p q less (x ∷ xs) a = ((λ h. less_any p q less xs (a.0 (less x h))), less_once p q less xs a.1)

module _ (at : Node) (t : ℕ) where
  -- the moves that tell of such a record
  abbrev told_by : Move → Bool
  told_by (Install u k) = same_node (node.Member k) at && (u == t)
  told_by (CommitLocally u k) = same_node (node.Member k) at && (u == t)
  told_by (Decide u c) = same_node (node.Coord c) at && (u == t)
  told_by _ = false

  or_none : (a : Bool) → (a || false) ≡ a
  or_none true = refl
  or_none false = refl

  -- a move tells of one thing at most
  record TellsOne (s : Federation) (move : Move) : Type 0 where
    any : list_any (tells_commit_here at t) (move_trace s move) ≡ told_by move
    once : AtMostOnce (tells_commit_here at t) (move_trace s move)

  tells_one : (s : Federation) (move : Move) → TellsOne s move
  tells_one s (Install u k) = record { any = or_none (same_node (node.Member k) at && (u == t)); once = ((λ h. refl), tt) }
  tells_one s (CommitLocally u k) = record { any = or_none (same_node (node.Member k) at && (u == t)); once = ((λ h. refl), tt) }
  tells_one s (Decide u c) = record { any = or_none (same_node (node.Coord c) at && (u == t)); once = ((λ h. refl), tt) }
  tells_one s (Operate u k o) = record { any = refl; once = ((λ h. refl), tt) }
  tells_one s (Begin u c) = record { any = refl; once = ((λ h. refl), tt) }
  tells_one s (BeginLocal u k) = record { any = refl; once = ((λ h. refl), tt) }
  tells_one s _ = record { any = refl; once = tt }

  any_told : (moves : List Move) (s : Federation) → list_any (tells_commit_here at t) (moves_trace moves s) ≡ list_any told_by moves
  any_told [] s = refl
  any_told (move ∷ moves) s =
      list_any-append (tells_commit_here at t) (move_trace s move) (moves_trace moves (effect s move))
      ∙ (λ i. (tells_one s move).any i || any_told moves (effect s move) i)

  once_told : (moves : List Move) (s : Federation) → AtMostOnce told_by moves → AtMostOnce (tells_commit_here at t) (moves_trace moves s)
  once_told [] s a = tt
  once_told (move ∷ moves) s a =
      once_append (tells_commit_here at t) (move_trace s move) (moves_trace moves (effect s move)) (tells_one s move).once
      (λ h. any_told moves (effect s move) ∙ a.0 (sym (tells_one s move).any ∙ h)) (once_told moves (effect s move) a.1)

  any_along : (hs : List Happening) (s : Federation) → Facts s → AreTrueVerdicts hs s → list_any (tells_commit_here at t) (trace_of (items_along hs s)) ≡ list_any told_by (moves_along hs s)
  any_along [] s f v = refl
  any_along (h ∷ hs) s f v =
      ap (list_any (tells_commit_here at t)) (step_told s f h (items_along hs (step s h).state))
      ∙ list_any-append (tells_commit_here at t) (moves_trace (moves_of s h) s) (trace_of (items_along hs (step s h).state))
      ∙ (λ i. any_told (moves_of s h) s i || any_along hs (step s h).state (step_keeps s f h v.0) v.1 i)
      ∙ sym (list_any-append told_by (moves_of s h) (moves_along hs (step s h).state))

  once_along : (hs : List Happening) (s : Federation) → Facts s → AreTrueVerdicts hs s → AtMostOnce told_by (moves_along hs s) → AtMostOnce (tells_commit_here at t) (trace_of (items_along hs s))
  once_along [] s f v a = tt
  once_along (h ∷ hs) s f v a =
      let q = once_parts told_by (moves_of s h) (moves_along hs (step s h).state) a in
      subst (AtMostOnce (tells_commit_here at t)) (sym (step_told s f h (items_along hs (step s h).state)))
      (once_append (tells_commit_here at t) (moves_trace (moves_of s h) s) (trace_of (items_along hs (step s h).state)) (once_told (moves_of s h) s q.0)
      (λ k. any_along hs (step s h).state (step_keeps s f h v.0) v.1 ∙ q.1 (sym (any_told (moves_of s h) s) ∙ k))
      (once_along hs (step s h).state (step_keeps s f h v.0) v.1 q.2))

member_less : (t m : ℕ) (move : Move) → told_by (node.Member m) t move ≡ true → forces_install t m move ≡ true
member_less t m (Install u k) h = h
member_less t m (CommitLocally u k) h = h
member_less t m (Decide u c) h = absurd (let z : false ≡ true = h in cc)
member_less t m _ h = h

coord_less : (t c : ℕ) (move : Move) → told_by (node.Coord c) t move ≡ true → forces_decision t move ≡ true
coord_less t c (Install u k) h = absurd (let z : false ≡ true = h in cc)
coord_less t c (CommitLocally u k) h = absurd (let z : false ≡ true = h in cc)
coord_less t c (Decide u d) h = (and_parts (d == c) (u == t) h).1
coord_less t c _ h = h

pub told_once : (kinds : List Kind) (coords : ℕ) (fm fc : ℕ → Found) (hs : List Happening) (at : Node) (t : ℕ) → AreOpenable kinds coords fm fc →
    AreTrueVerdicts hs (opened kinds coords fm fc) → AtMostOnce (tells_commit_here at t) (trace_of (items_along hs (opened kinds coords fm fc)))
told_once kinds coords fm fc hs (node.Member m) t g v =
    let s = opened kinds coords fm fc in
    let f = start_facts kinds coords fm fc g in
    once_along (node.Member m) t hs s f v (less_once (forces_install t m) (told_by (node.Member m) t) (member_less t m) (moves_along hs s) (installs_once t m hs s f v))
told_once kinds coords fm fc hs (node.Coord c) t g v =
    let s = opened kinds coords fm fc in
    let f = start_facts kinds coords fm fc g in
    once_along (node.Coord c) t hs s f v (less_once (forces_decision t) (told_by (node.Coord c) t) (coord_less t c) (moves_along hs s) (decisions_once t hs s f v))
