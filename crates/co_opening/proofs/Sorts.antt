-- Logs of one sort of nodes that are attached one after another.
use Rattle.std.proofs.Common.{◌≡◌, ◌≢◌, ℕ, suc, ◌+◌, ◌≤◌, ◌<◌, Bool, List, [], ◌∷◌, ◌++◌, length, sym, ap, subst, ◌∙◌, arith}
use Rattle.std.specs.Prelude.{Option}
use Rattle.co_base.specs.Nodes.{IsValidNode}
use Rattle.co_base.specs.declared.node.Node.{Node}
use Rattle.co_base.specs.declared.node.Node.TheVariants.{Member, Coord}
use Rattle.co_base.specs.Limits.{most_members}
use Rattle.co_outside.specs.Home.{HomeView, File}
use Rattle.co_outside.specs.declared.spot.Spot.{Spot}
use Rattle.co_log.specs.LogView.{LogView}
use Rattle.co_log.specs.Others.{NodeStays, OtherFilesStay}
use Rattle.co_durable.specs.declared.fault.WorldFault.{WorldFault}
use Rattle.co_durable.specs.Pairs.{EachPair}
use Rattle.co_durable.proofs.Pairs.{pairs_push}
use Rattle.co_durable.proofs.Readings.{same_files}
use Rattle.co_opening.specs.Attached.{IsAttachedTo, IsUnattached, IsFirstUnattached}
use Rattle.co_opening.specs.Kept.{IsOwnLog, AreOwnLogs}
use Rattle.co_opening.specs.Sorts.{node_in, most_in, nodes_in}
use Rattle.co_opening.specs.declared.sort.Sort.{Sort}
use Rattle.co_opening.specs.declared.sort.Sort.TheVariants.{Members, Coords}
use Rattle.co_opening.proofs.From.{all_from_next}
use Rattle.co_opening.proofs.Judgings.{first_unattached}
use Rattle.co_log.proofs.Spots.{stays_elsewhere}
use Rattle.co_opening.proofs.Stays.{stays_on, own_all_stay}

pub next_of : (place : ℕ) → place + 1 ≡ suc place
next_of place = omega arith

node_valid : (sort : Sort) (place count : ℕ) → place < count → count ≤ most_in sort → IsValidNode (node_in sort (suc place))
node_valid Members place count h most = (omega arith, omega (arith, h, most))
node_valid Coords place count h most = (omega arith, omega (arith, h, most))

pub number_valid : (sort : Sort) (place : ℕ) → suc place ≤ most_in sort → IsValidNode (node_in sort (suc place))
number_valid Members place most = (omega arith, most)
number_valid Coords place most = (omega arith, most)

pub nodes_apart : (sort : Sort) (p q : ℕ) → (p ≡ q → ⊥) → node_in sort p ≢ node_in sort q
nodes_apart Members p q other e = other (let h : Member p ≡ Member q = e in let same : p ≡ q = cc in same)
nodes_apart Coords p q other e = other (let h : Coord p ≡ Coord q = e in let same : p ≡ q = cc in same)

-- nodes of the other sort are left
abbrev pub OthersLeft : Sort → (old new : HomeView) → Type 0
OthersLeft sort old new = (n : Node) → IsValidNode n → ((p : ℕ) → n ≢ node_in sort p) → NodeStays n old new

module _ (sort : Sort) (place count : ℕ) (h : place < count) (most : count ≤ most_in sort) (this : Node) (at : this ≡ node_in sort (place + 1)) where
  is : this ≡ node_in sort (suc place)
  is = at ∙ ap (node_in sort) (next_of place)

  pub this_valid : IsValidNode this
  this_valid = subst IsValidNode (sym is) (node_valid sort place count h most)

  pub others_on : (old mid new : HomeView) → OthersLeft sort old mid → OtherFilesStay this mid new → OthersLeft sort old new
  others_on old mid new left stay = λ n own out.
      stays_on n old mid new (left n own out) (stays_elsewhere this n mid new this_valid own (λ e. out (suc place) (e ∙ is)) stay)

  pub kept_on : (mid new : HomeView) (logs more : List LogView) (log : LogView) → more ≡ logs ++ log ∷ [] → length logs ≡ place → AreOwnLogs mid (node_in sort) 0 logs
      → OtherFilesStay this mid new → IsOwnLog new this log → AreOwnLogs new (node_in sort) 0 more
  kept_on mid new logs more log pushed many kept stay own =
      let all : AreOwnLogs new (node_in sort) 0 logs =
      own_all_stay (node_in sort) 0 mid new logs
      (λ q low high.
      let below : q < place = omega (arith, high, many) in
      stays_elsewhere this (node_in sort (suc q)) mid new this_valid (node_valid sort q count (omega (arith, below, h)) most) (λ e. nodes_apart sort (suc q) (suc place) (λ same. omega (arith, same, below)) (e ∙ is)) stay) kept in
      subst (AreOwnLogs new (node_in sort) 0) (sym pushed) (all_from_next (λ q l. IsOwnLog new (node_in sort (suc q)) l) logs place log many all (subst (λ n. IsOwnLog new n log) is own))

  pub attached_on : (file mid : Spot → Option File) (resume : Bool) (logs more : List LogView) (log : LogView) → more ≡ logs ++ log ∷ [] → ((s : Spot) → mid s ≡ file s) → EachPair (IsAttachedTo file resume) (nodes_in sort place) logs → IsAttachedTo mid resume this log
      → EachPair (IsAttachedTo file resume) (nodes_in sort (place + 1)) more
  attached_on file mid resume logs more log pushed stay pairs att =
      let here : IsAttachedTo file resume (node_in sort (suc place)) log =
      subst (λ n. IsAttachedTo file resume n log) is (subst (λ (f : Spot → Option File). IsAttachedTo f resume this log) (same_files mid file stay) att) in
      subst (EachPair (IsAttachedTo file resume) (nodes_in sort (place + 1))) (sym pushed)
      (subst (λ n. EachPair (IsAttachedTo file resume) (nodes_in sort n) (logs ++ log ∷ [])) (sym (next_of place))
      (pairs_push (IsAttachedTo file resume) (nodes_in sort place) logs (node_in sort (suc place)) log pairs here))

  pub unattached_on : (file mid : Spot → Option File) (resume : Bool) (logs : List LogView) (fault : WorldFault) → ((s : Spot) → mid s ≡ file s) → EachPair (IsAttachedTo file resume) (nodes_in sort place) logs → IsUnattached mid resume fault this
      → IsFirstUnattached file resume (nodes_in sort count) fault
  unattached_on file mid resume logs fault stay pairs bad =
      first_unattached file resume (node_in sort) place count logs fault h pairs
      (subst (IsUnattached file resume fault) is (subst (λ (f : Spot → Option File). IsUnattached f resume fault this) (same_files mid file stay) bad))

pub apart_sorts : (m c : ℕ) → Member m ≢ Coord c
apart_sorts m c e = absurd (let h : Member m ≡ Coord c = e in cc)

pub sorts_apart : (c m : ℕ) → Coord c ≢ Member m
sorts_apart c m e = absurd (let h : Coord c ≡ Member m = e in cc)

-- members are left while the logs of coordinators are attached
pub members_left : (old new : HomeView) (logs : List LogView) → length logs ≤ most_members → OthersLeft Coords old new → AreOwnLogs old Member 0 logs → AreOwnLogs new Member 0 logs
members_left old new logs few left kept =
    own_all_stay Member 0 old new logs (λ q low high. left (Member (suc q)) (omega arith, omega (arith, high, few)) (λ p. apart_sorts (suc q) p)) kept
