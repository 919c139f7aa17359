-- What is done at most once: after it a fact holds that stays, and while that holds it is not done.
use Rattle.std.proofs.Common.{◌≡◌, ◌⊎◌, inl, inr, Bool, true, false, ◌||◌, List, [], ◌∷◌, ◌++◌, refl, ap, ◌∙◌, subst}
use Rattle.std.specs.List.{list_any}
use Rattle.std.proofs.lemmas.Bool.{or_from, or_cases, or_parts}
use Rattle.std.proofs.lemmas.List.Folds.{list_any-append}
use Rattle.co_plain.specs.declared.happening.Happening.{Happening}
use Rattle.co_plain.specs.declared.happening.Happening.TheVariants as happening
use Rattle.co_plain.specs.Federation.{Federation}
use Rattle.co_plain.specs.Moves.{Move, Guard, GuardsHold, effect, all_effects}
use Rattle.co_plain.specs.Premises.{AreTrueVerdicts, IsTrueVerdict}
use Rattle.co_plain.specs.Step.{disarmed, step}
use Rattle.co_law_base.proofs.Facts.{Facts}
use Rattle.co_law_moves.specs.EventMoves.{moves_of}
use Rattle.co_law_moves.proofs.MoveByMove.{move_keeps}
use Rattle.co_law_moves.proofs.Steps.{step_keeps}
use Rattle.co_law_moves.proofs.StepsMade.{event_made}
use Rattle.co_law_once.specs.Once.{AtMostOnce, moves_along}

-- one list behind another
pub once_append : {X : Type 0} (p : X → Bool) (xs ys : List X) → AtMostOnce p xs → (list_any p xs ≡ true → list_any p ys ≡ false) → AtMostOnce p ys → AtMostOnce p (xs ++ ys)
once_append p [] ys a b c = c
once_append p (x ∷ xs) ys a b c = (
  λ h. list_any-append p xs ys ∙ or_from (list_any p xs) (list_any p ys) (a.0 h) (b (ap (λ z. z || list_any p xs) h)),
  once_append p xs ys a.1 (λ h. b (later (p x) (list_any p xs) h)) c,
)
  where
    later : (u v : Bool) → v ≡ true → (u || v) ≡ true
    later true v h = refl
    later false v h = h

-- none is once
pub none_once : {X : Type 0} (p : X → Bool) (xs : List X) → list_any p xs ≡ false → AtMostOnce p xs
none_once p [] h = tt
none_once p (x ∷ xs) h = let q = or_parts (p x) (list_any p xs) h in ((λ k. q.1), none_once p xs q.1)

module _ (p : Move → Bool) (Done : Federation → Type 0)
    (done : (s : Federation) → Facts s → (move : Move) → Guard s move → p move ≡ true → Done (effect s move))
    (stays : (s : Federation) → Facts s → (move : Move) → Guard s move → Done s → Done (effect s move))
    (never : (s : Federation) → Facts s → (move : Move) → Guard s move → Done s → p move ≡ false)
    (unarmed : (s : Federation) → Done s → Done (disarmed s)) where
  -- while it is done it is not done again
  record Idle (moves : List Move) (z : Federation) : Type 0 where
    none : list_any p moves ≡ false
    still : Done z

  moves_idle : (moves : List Move) (s : Federation) → Facts s → GuardsHold moves s → Done s → Idle moves (all_effects moves s)
  moves_idle [] s f g d = record { none = refl; still = d }
  moves_idle (move ∷ moves) s f g d =
      let q = moves_idle moves (effect s move) (move_keeps s f move g.0) g.1 (stays s f move g.0 d) in
      record { none = or_from (p move) (list_any p moves) (never s f move g.0 d) q.none; still = q.still }

  -- and it is done once
  record Once (moves : List Move) (z : Federation) : Type 0 where
    once : AtMostOnce p moves
    after : list_any p moves ≡ true → Done z

  moves_once : (moves : List Move) (s : Federation) → Facts s → GuardsHold moves s → Once moves (all_effects moves s)
  moves_once [] s f g = record { once = tt; after = λ h. absurd (let z : false ≡ true = h in cc) }
  moves_once (move ∷ moves) s f g =
      let q = moves_once moves (effect s move) (move_keeps s f move g.0) g.1 in
      record {
        once = ((λ h. (moves_idle moves (effect s move) (move_keeps s f move g.0) g.1 (done s f move g.0 h)).none), q.once);
        after = λ h. by q (or_cases (p move) (list_any p moves) h);
      }
    where
      by : Once moves (all_effects moves (effect s move)) → (p move ≡ true) ⊎ (list_any p moves ≡ true) → Done (all_effects moves (effect s move))
      by q (inl h) = (moves_idle moves (effect s move) (move_keeps s f move g.0) g.1 (done s f move g.0 h)).still
      by q (inr h) = q.after h

  step_idle : (s : Federation) → Facts s → (h : Happening) → IsTrueVerdict s h → Done s → Idle (moves_of s h) (step s h).state
  step_idle s f (happening.Line e) v d =
      let m = event_made s f (happening.Line e) (λ n. let z : happening.Line e ≡ happening.Disarm = n in cc) v in
      subst (Idle (moves_of s (happening.Line e))) m.same (moves_idle (moves_of s (happening.Line e)) s f m.guards d)
  step_idle s f (happening.Hand t m commit) v d =
      let k = event_made s f (happening.Hand t m commit) (λ n. let z : happening.Hand t m commit ≡ happening.Disarm = n in cc) v in
      subst (Idle (moves_of s (happening.Hand t m commit))) k.same (moves_idle (moves_of s (happening.Hand t m commit)) s f k.guards d)
  step_idle s f happening.Disarm v d = record { none = refl; still = unarmed s d }

  step_once : (s : Federation) → Facts s → (h : Happening) → IsTrueVerdict s h → Once (moves_of s h) (step s h).state
  step_once s f (happening.Line e) v =
      let m = event_made s f (happening.Line e) (λ n. let z : happening.Line e ≡ happening.Disarm = n in cc) v in
      subst (Once (moves_of s (happening.Line e))) m.same (moves_once (moves_of s (happening.Line e)) s f m.guards)
  step_once s f (happening.Hand t m commit) v =
      let k = event_made s f (happening.Hand t m commit) (λ n. let z : happening.Hand t m commit ≡ happening.Disarm = n in cc) v in
      subst (Once (moves_of s (happening.Hand t m commit))) k.same (moves_once (moves_of s (happening.Hand t m commit)) s f k.guards)
  step_once s f happening.Disarm v = record { once = tt; after = λ h. absurd (let z : false ≡ true = h in cc) }

  pub run_idle : (hs : List Happening) (s : Federation) → Facts s → AreTrueVerdicts hs s → Done s → list_any p (moves_along hs s) ≡ false
  run_idle [] s f v d = refl
  run_idle (h ∷ hs) s f v d =
      let a = step_idle s f h v.0 d in
      list_any-append p (moves_of s h) (moves_along hs (step s h).state)
      ∙ or_from (list_any p (moves_of s h)) (list_any p (moves_along hs (step s h).state)) a.none (run_idle hs (step s h).state (step_keeps s f h v.0) v.1 a.still)

  pub run_once : (hs : List Happening) (s : Federation) → Facts s → AreTrueVerdicts hs s → AtMostOnce p (moves_along hs s)
  run_once [] s f v = tt
  run_once (h ∷ hs) s f v =
      let a = step_once s f h v.0 in
      once_append p (moves_of s h) (moves_along hs (step s h).state) a.once (λ k. run_idle hs (step s h).state (step_keeps s f h v.0) v.1 (a.after k))
      (run_once hs (step s h).state (step_keeps s f h v.0) v.1)
