-- One node more is opened on its log.
use Rattle.std.proofs.Common.{◌≡◌, ◌≢◌, ℕ, suc, ◌+◌, ◌≤◌, List, [], ◌∷◌, ◌++◌, length, sym, ap, subst, ◌∙◌, append_assoc, arith}
use Rattle.co_base.specs.Nodes.{IsValidNode}
use Rattle.co_base.specs.declared.mark.Mark.{Mark}
use Rattle.co_base.specs.declared.node.Node.{Node}
use Rattle.co_outside.specs.Home.{HomeView}
use Rattle.co_log.specs.LogView.{LogView}
use Rattle.co_log.specs.Others.{NodeStays, OtherFilesStay}
use Rattle.co_opening.specs.From.{AllFrom, BothFrom}
use Rattle.co_opening.specs.Kept.{IsOwnLog, AreOwnLogs}
use Rattle.co_opening.specs.Sorts.{node_in, most_in}
use Rattle.co_opening.specs.declared.sort.Sort.{Sort}
use Rattle.co_opening.proofs.From.{all_from_map, all_from_next, both_next}
use Rattle.co_opening.proofs.Sorts.{next_of, number_valid, nodes_apart}
use Rattle.co_log.proofs.Spots.{stays_elsewhere}
use Rattle.co_opening.proofs.Stays.{stays_on, own_stays, own_all_stay}

pub leaves : (this that : Node) (old mid new : HomeView) → IsValidNode this → IsValidNode that → that ≢ this → NodeStays that old mid → OtherFilesStay this mid new → NodeStays that old new
leaves this that old mid new one two other left stay = stays_on that old mid new left (stays_elsewhere this that mid new one two other stay)

-- how many are left at first, and behind one more
pub left_first : {A : Type 0} (n : ℕ) (all left : List A) → left ≡ all → length all ≡ n → 0 + length left ≡ n
left_first n all left is many = let e : length left ≡ length all = ap length is in omega (arith, e, many)

pub one_less : {A : Type 0} (place n : ℕ) (old new : List A) (x : A) → old ≡ x ∷ new → place + length old ≡ n → place + 1 + length new ≡ n
one_less place n old new x is many = let e : length old ≡ suc (length new) = ap length is in omega (arith, e, many)

-- nothing is left
pub all_done : {A : Type 0} (place n len : ℕ) (left : List A) → len ≡ 0 → len ≡ length left → place + length left ≡ n → place ≡ n
all_done place n len left none is many = omega (arith, none, is, many)

pub place_below : {A : Type 0} (place n most : ℕ) (old new : List A) (x : A) → old ≡ x ∷ new → place + length old ≡ n → n ≤ most → suc place ≤ most
place_below place n most old new x is many few = let e : length old ≡ suc (length new) = ap length is in omega (arith, e, many, few)

-- the lists of what is left, at the next place
pub both_on : {A B : Type 0} (R : ℕ → A → B → Type 0) (place : ℕ) (xs more : List A) (ys rest : List B) (x : A) (y : B) → xs ≡ x ∷ more → ys ≡ y ∷ rest → BothFrom R place xs ys → BothFrom R (place + 1) more rest
both_on R place xs more ys rest x y is are both = subst (λ n. BothFrom R n more rest) (sym (next_of place)) (both_next R place xs more ys rest x y is are both).1

pub all_on : {A : Type 0} (P : ℕ → A → Type 0) (place : ℕ) (xs more : List A) (x : A) → more ≡ xs ++ x ∷ [] → length xs ≡ place → AllFrom P 0 xs → P place x → AllFrom P 0 more
all_on P place xs more x pushed many all here = subst (AllFrom P 0) (sym pushed) (all_from_next P xs place x many all here)

-- the headers of one node more
pub marks_on : (headers : ℕ → List Mark) (here before mid after : List Mark) (place : ℕ) → headers (suc place) ≡ headers place ++ here → after ≡ mid ++ here → mid ≡ before ++ headers place → after ≡ before ++ headers (place + 1)
marks_on headers here before mid after place next two one =
    two ∙ ap (λ (ms : List Mark). ms ++ here) one ∙ append_assoc before (headers place) here ∙ ap (λ (ms : List Mark). before ++ ms) (sym next) ∙ ap (λ n. before ++ headers n) (sym (next_of place))

module _ (sort : Sort) (place : ℕ) (few : suc place ≤ most_in sort) (before after : HomeView) (stay : OtherFilesStay (node_in sort (suc place)) before after) where
  -- another node of the sort is left
  other_stays : (q : ℕ) → suc q ≤ most_in sort → (q ≡ place → ⊥) → NodeStays (node_in sort (suc q)) before after
  other_stays q below other =
      stays_elsewhere (node_in sort (suc place)) (node_in sort (suc q)) before after (number_valid sort place few) (number_valid sort q below) (nodes_apart sort (suc q) (suc place) (λ same. other (omega (arith, same)))) stay

  -- the logs of those that are not opened yet
  pub to_keep_on : (old new : List LogView) (log : LogView) → old ≡ log ∷ new → place + length old ≤ most_in sort → AreOwnLogs before (node_in sort) place old → AreOwnLogs after (node_in sort) (place + 1) new
  to_keep_on old new log is many kept =
      let two : AreOwnLogs before (node_in sort) (suc place) new = (subst (AreOwnLogs before (node_in sort) place) is kept).1 in
      let e : length old ≡ suc (length new) = ap length is in
      subst (λ n. AreOwnLogs after (node_in sort) n new) (sym (next_of place))
      (own_all_stay (node_in sort) (suc place) before after new (λ q low high. other_stays q (omega (arith, high, e, many)) (λ same. omega (arith, low, same))) two)

  -- and of those that are, with one more
  pub kept_on : {N : Type 0} (log_of : N → LogView) (nodes more : List N) (n : N) → more ≡ nodes ++ n ∷ [] → length nodes ≡ place → AllFrom (λ q x. IsOwnLog before (node_in sort (suc q)) (log_of x)) 0 nodes
      → IsOwnLog after (node_in sort (suc place)) (log_of n) → AllFrom (λ q x. IsOwnLog after (node_in sort (suc q)) (log_of x)) 0 more
  kept_on log_of nodes more n pushed many kept own =
      all_on (λ q x. IsOwnLog after (node_in sort (suc q)) (log_of x)) place nodes more n pushed many
      (all_from_map (λ q x. IsOwnLog before (node_in sort (suc q)) (log_of x)) (λ q x. IsOwnLog after (node_in sort (suc q)) (log_of x)) 0 nodes
      (λ q x low high was. own_stays (node_in sort (suc q)) before after (log_of x) (other_stays q (omega (arith, high, many, few)) (λ same. omega (arith, same, high, many))) was) kept) own
