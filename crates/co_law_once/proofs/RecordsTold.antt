-- The forced records of a run are told as often as its moves force them: so each prepare once, and a commit costs what presumed abort does.
use Rattle.std.proofs.Common.{◌≡◌, ℕ, Bool, true, false, ◌||◌, List, [], ◌∷◌, ◌++◌, refl, sym, ap, ◌∙◌, subst}
use Rattle.std.specs.List.{list_any}
use Rattle.std.proofs.lemmas.Bool.{or_parts, or_from, false_from_ne_true}
use Rattle.std.proofs.lemmas.List.Folds.{list_any-append}
use Rattle.co_base.specs.declared.mark.Mark.{Mark}
use Rattle.co_base.specs.declared.mark.MarkKind.{MarkKind}
use Rattle.co_base.specs.declared.mark.MarkKind.TheVariants as kind
use Rattle.co_base.specs.declared.node.Node.{Node}
use Rattle.co_message.specs.declared.item.ItemKind.{ItemKind}
use Rattle.co_message.specs.declared.item.ItemKind.TheVariants as item
use Rattle.co_plain.specs.declared.happening.Happening.{Happening}
use Rattle.co_plain.specs.Federation.{Federation}
use Rattle.co_plain.specs.Moves.{Move}
use Rattle.co_plain.specs.Premises.{AreTrueVerdicts}
use Rattle.co_plain.specs.Step.{step}
use Rattle.co_law_base.proofs.Facts.{Facts}
use Rattle.co_law_moves.specs.EventMoves.{moves_of}
use Rattle.co_law_moves.specs.MoveTraces.{told_with, items_along}
use Rattle.co_law_moves.proofs.Steps.{step_keeps}
use Rattle.co_law_once.specs.Once.{AtMostOnce, moves_along}
use Rattle.co_law_once.specs.Records.{tells_of}
use Rattle.co_law_once.proofs.ForcedMarks.{forced_mark, forced_in, forced_more, move_marks, marks_by, marks_more}
use Rattle.co_law_once.proofs.ForcedTold.{step_forced}
use Rattle.co_law_once.proofs.Walking.{once_append}

clash : {A : Type 0} → false ≡ true → A
clash h = absurd (let z : false ≡ true = h in cc)

-- the forced records that a run tells of
pub forced_along : (hs : List Happening) (s : Federation) → Facts s → AreTrueVerdicts hs s → forced_in (items_along hs s) ≡ marks_by (moves_along hs s)
forced_along [] s f v = refl
forced_along (h ∷ hs) s f v =
    forced_more (told_with h (step s h).items) (items_along hs (step s h).state)
    ∙ (λ i. step_forced s f h i ++ forced_along hs (step s h).state (step_keeps s f h v.0) v.1 i)
    ∙ sym (marks_more (moves_of s h) (moves_along hs (step s h).state))

-- a test that only forced records pass finds the same among the items and among their forced records
pub record IsOfForced (p : Mark → Bool) : Type 0 where
  pub header : (at : Node) (n : ℕ) → p (record { node = at; kind = kind.Header; number = n }) ≡ false
  pub abort : (at : Node) (n : ℕ) → p (record { node = at; kind = kind.Abort; number = n }) ≡ false
  pub end : (at : Node) (n : ℕ) → p (record { node = at; kind = kind.End; number = n }) ≡ false
  pub checkpoint : (at : Node) (n : ℕ) → p (record { node = at; kind = kind.Checkpoint; number = n }) ≡ false

module _ (p : Mark → Bool) (of : IsOfForced p) where
  any_told : (items : List ItemKind) → list_any (tells_of p) items ≡ list_any p (forced_in items)
  any_told [] = refl
  any_told (item.Log mark ∷ items) = by mark.kind (any_told items)
    where
      by : (k : MarkKind) → list_any (tells_of p) items ≡ list_any p (forced_in items) →
          (p (record { node = mark.node; kind = k; number = mark.number }) || list_any (tells_of p) items) ≡ list_any p (forced_mark k (record { node = mark.node; kind = k; number = mark.number }) ++ forced_in items)
      by kind.Prepare rest = ap (λ b. p (record { node = mark.node; kind = kind.Prepare; number = mark.number }) || b) rest
      by kind.Commit rest = ap (λ b. p (record { node = mark.node; kind = kind.Commit; number = mark.number }) || b) rest
      by kind.Header rest = ap (λ b. b || list_any (tells_of p) items) (of.header mark.node mark.number) ∙ rest
      by kind.Abort rest = ap (λ b. b || list_any (tells_of p) items) (of.abort mark.node mark.number) ∙ rest
      by kind.End rest = ap (λ b. b || list_any (tells_of p) items) (of.end mark.node mark.number) ∙ rest
      by kind.Checkpoint rest = ap (λ b. b || list_any (tells_of p) items) (of.checkpoint mark.node mark.number) ∙ rest
  any_told (item.Head head ∷ items) = any_told items
  any_told (item.Event e ∷ items) = any_told items
  any_told (item.Sent note ∷ items) = any_told items
  any_told (item.Answered a ∷ items) = any_told items

  once_told : (items : List ItemKind) → AtMostOnce p (forced_in items) → AtMostOnce (tells_of p) items
  once_told [] a = tt
  once_told (item.Log mark ∷ items) a = by mark.kind (once_told items) a
    where
      by : (k : MarkKind) → (AtMostOnce p (forced_in items) → AtMostOnce (tells_of p) items) → AtMostOnce p (forced_mark k (record { node = mark.node; kind = k; number = mark.number }) ++ forced_in items) →
          (p (record { node = mark.node; kind = k; number = mark.number }) ≡ true → list_any (tells_of p) items ≡ false) × AtMostOnce (tells_of p) items
      by kind.Prepare rest a = ((λ h. any_told items ∙ a.0 h), rest a.1)
      by kind.Commit rest a = ((λ h. any_told items ∙ a.0 h), rest a.1)
      by kind.Header rest a = ((λ h. clash (sym (of.header mark.node mark.number) ∙ h)), rest a)
      by kind.Abort rest a = ((λ h. clash (sym (of.abort mark.node mark.number) ∙ h)), rest a)
      by kind.End rest a = ((λ h. clash (sym (of.end mark.node mark.number) ∙ h)), rest a)
      by kind.Checkpoint rest a = ((λ h. clash (sym (of.checkpoint mark.node mark.number) ∙ h)), rest a)
  once_told (item.Head head ∷ items) a = ((λ h. clash h), once_told items a)
  once_told (item.Event e ∷ items) a = ((λ h. clash h), once_told items a)
  once_told (item.Sent note ∷ items) a = ((λ h. clash h), once_told items a)
  once_told (item.Answered b ∷ items) a = ((λ h. clash h), once_told items a)

-- what a move tells passes only where the move does, and once
pub record IsForcedBy (p : Mark → Bool) (q : Move → Bool) : Type 0 where
  pub less : (move : Move) → list_any p (move_marks move) ≡ true → q move ≡ true
  pub once : (move : Move) → AtMostOnce p (move_marks move)

module _ (p : Mark → Bool) (q : Move → Bool) (of : IsForcedBy p q) where
  none_forced : (moves : List Move) → list_any q moves ≡ false → list_any p (marks_by moves) ≡ false
  none_forced [] h = refl
  none_forced (move ∷ moves) h =
      let k = or_parts (q move) (list_any q moves) h in
      list_any-append p (move_marks move) (marks_by moves)
      ∙ or_from (list_any p (move_marks move)) (list_any p (marks_by moves)) (false_from_ne_true _ (λ e. let z : true ≡ false = sym (of.less move e) ∙ k.0 in cc)) (none_forced moves k.1)

  once_forced : (moves : List Move) → AtMostOnce q moves → AtMostOnce p (marks_by moves)
  once_forced [] a = tt
  once_forced (move ∷ moves) a =
      once_append p (move_marks move) (marks_by moves) (of.once move) (λ h. none_forced moves (a.0 (of.less move h))) (once_forced moves a.1)

module _ (p : Mark → Bool) (q : Move → Bool) (told : IsOfForced p) (of : IsForcedBy p q) (hs : List Happening) (s : Federation) (f : Facts s) (v : AreTrueVerdicts hs s) where
  -- what the moves do at most once, and never, is told so
  pub told_at_most_once : AtMostOnce q (moves_along hs s) → AtMostOnce (tells_of p) (items_along hs s)
  told_at_most_once a = once_told p told (items_along hs s) (subst (AtMostOnce p) (sym (forced_along hs s f v)) (once_forced p q of (moves_along hs s) a))

  pub told_never : list_any q (moves_along hs s) ≡ false → list_any (tells_of p) (items_along hs s) ≡ false
  told_never n = any_told p told (items_along hs s) ∙ ap (list_any p) (forced_along hs s f v) ∙ none_forced p q of (moves_along hs s) n
