-- A commit costs two forced records at a member and one at the coordinators.
use Rattle.std.proofs.Common.{◌≡◌, ℕ, Bool, true, false, ◌||◌, ◌&&◌, ◌==◌, ◌≤◌, List, refl, arith}
use Rattle.std.specs.List.{list_any, count_by}
use Rattle.std.proofs.lemmas.Bool.{or_left}
use Rattle.co_base.specs.declared.head.Kind.{Kind}
use Rattle.co_base.specs.declared.mark.Mark.{Mark}
use Rattle.co_base.specs.declared.mark.MarkKind.{MarkKind}
use Rattle.co_base.specs.declared.mark.MarkKind.TheVariants as kind
use Rattle.co_base.specs.declared.node.Node.TheVariants as node
use Rattle.co_base.specs.Nodes.{same_node}
use Rattle.co_message.specs.declared.item.ItemKind.{ItemKind}
use Rattle.co_message.specs.declared.item.ItemKind.TheVariants as item
use Rattle.co_plain.specs.declared.happening.Happening.{Happening}
use Rattle.co_plain.specs.Federation.{Federation}
use Rattle.co_plain.specs.Moves.{Move, Cast, Install, CommitLocally, Decide}
use Rattle.co_plain.specs.Opening.{Found, opened}
use Rattle.co_plain.specs.Premises.{AreOpenable, AreTrueVerdicts}
use Rattle.co_law_base.proofs.Facts.{Facts}
use Rattle.co_law_moves.specs.MoveTraces.{items_along}
use Rattle.co_law_moves.proofs.Start.{start_facts}
use Rattle.co_law_once.specs.Costs.{IsWithoutLoss}
use Rattle.co_law_once.specs.Once.{AtMostOnce, forces_install, forces_decision}
use Rattle.co_law_once.specs.Records.{tells_of, is_prepare_record, is_forced_record, prepare_at, forced_at_member, forced_at_coordinators, AreForcedFew, CostsAsPresumedAbort}
use Rattle.co_law_once.proofs.Costing.{four_messages}
use Rattle.co_law_once.proofs.Counting.{count_once, count_both}
use Rattle.co_law_once.proofs.Forced.{installs_once, decisions_once}
use Rattle.co_law_once.proofs.ForcedMarks.{move_marks}
use Rattle.co_law_once.proofs.PreparesTold.{or_one, prepares_once}
use Rattle.co_law_once.proofs.RecordsTold.{IsOfForced, told_at_most_once}

clash : {A : Type 0} → false ≡ true → A
clash h = absurd (let z : false ≡ true = h in cc)

abbrev is_commit_record : MarkKind → Bool
is_commit_record kind.Commit = true
is_commit_record _ = false

abbrev commit_at : ℕ → ℕ → Mark → Bool
commit_at m t mark = is_commit_record mark.kind && (same_node mark.node (node.Member m) && (mark.number == t))

-- the commit of a member is told by its install
module _ (m t : ℕ) where
  commit_of : IsOfForced (commit_at m t)
  commit_of = record { header = λ at n. refl; abort = λ at n. refl; end = λ at n. refl; checkpoint = λ at n. refl }

  commit_less : (move : Move) → list_any (commit_at m t) (move_marks move) ≡ true → forces_install t m move ≡ true
  commit_less (Install u k) h = or_one ((k == m) && (u == t)) h
  commit_less (CommitLocally u k) h = or_one ((k == m) && (u == t)) h
  commit_less (Cast u k c n) h = clash h
  commit_less (Decide u c) h = clash h
  commit_less _ h = clash h

  commit_one : (move : Move) → AtMostOnce (commit_at m t) (move_marks move)
  commit_one (Install u k) = ((λ h. refl), tt)
  commit_one (CommitLocally u k) = ((λ h. clash h), ((λ h. refl), tt))
  commit_one (Cast u k c n) = ((λ h. refl), tt)
  commit_one (Decide u c) = ((λ h. refl), tt)
  commit_one _ = tt

  commits_once : (hs : List Happening) (s : Federation) → Facts s → AreTrueVerdicts hs s → AtMostOnce (tells_of (commit_at m t)) (items_along hs s)
  commits_once hs s f v = told_at_most_once (commit_at m t) (forces_install t m) commit_of (record { less = commit_less; once = commit_one }) hs s f v (installs_once t m hs s f v)

  -- a forced record there is one of the two
  one_of_two : (k : MarkKind) (b : Bool) → (is_forced_record k && b) ≡ true → ((is_prepare_record k && b) || (is_commit_record k && b)) ≡ true
  one_of_two kind.Prepare b h = or_left b false h
  one_of_two kind.Commit b h = h
  one_of_two kind.Header b h = clash h
  one_of_two kind.Abort b h = clash h
  one_of_two kind.End b h = clash h
  one_of_two kind.Checkpoint b h = clash h

  told_of_two : (x : ItemKind) → tells_of (forced_at_member m t) x ≡ true → (tells_of (prepare_at m t) x || tells_of (commit_at m t) x) ≡ true
  told_of_two (item.Log mark) h = one_of_two mark.kind (same_node mark.node (node.Member m) && (mark.number == t)) h
  told_of_two (item.Head head) h = clash h
  told_of_two (item.Event e) h = clash h
  told_of_two (item.Sent note) h = clash h
  told_of_two (item.Answered a) h = clash h

  member_writes : (hs : List Happening) (s : Federation) → Facts s → AreTrueVerdicts hs s → count_by (tells_of (forced_at_member m t)) (items_along hs s) ≤ 2
  member_writes hs s f v =
      let both = count_both (tells_of (forced_at_member m t)) (tells_of (prepare_at m t)) (tells_of (commit_at m t)) told_of_two (items_along hs s) in
      let votes = count_once (tells_of (prepare_at m t)) (items_along hs s) (prepares_once hs s f v t m) in
      let installs = count_once (tells_of (commit_at m t)) (items_along hs s) (commits_once hs s f v) in
      omega (arith, both, votes, installs)

-- and what is forced at a coordinator is a decision
module _ (t : ℕ) where
  decision_of : IsOfForced (forced_at_coordinators t)
  decision_of = record { header = λ at n. refl; abort = λ at n. refl; end = λ at n. refl; checkpoint = λ at n. refl }

  decision_less : (move : Move) → list_any (forced_at_coordinators t) (move_marks move) ≡ true → forces_decision t move ≡ true
  decision_less (Decide u c) h = or_one (u == t) h
  decision_less (Install u k) h = clash h
  decision_less (CommitLocally u k) h = clash h
  decision_less (Cast u k c n) h = clash h
  decision_less _ h = clash h

  decision_one : (move : Move) → AtMostOnce (forced_at_coordinators t) (move_marks move)
  decision_one (Decide u c) = ((λ h. refl), tt)
  decision_one (Install u k) = ((λ h. refl), tt)
  decision_one (CommitLocally u k) = ((λ h. refl), ((λ h. refl), tt))
  decision_one (Cast u k c n) = ((λ h. refl), tt)
  decision_one _ = tt

  coordinator_writes : (hs : List Happening) (s : Federation) → Facts s → AreTrueVerdicts hs s → count_by (tells_of (forced_at_coordinators t)) (items_along hs s) ≤ 1
  coordinator_writes hs s f v =
      count_once (tells_of (forced_at_coordinators t)) (items_along hs s)
      (told_at_most_once (forced_at_coordinators t) (forces_decision t) decision_of (record { less = decision_less; once = decision_one }) hs s f v (decisions_once t hs s f v))

pub forced_few : (kinds : List Kind) (coords : ℕ) (fm fc : ℕ → Found) (hs : List Happening) (t m : ℕ) → AreOpenable kinds coords fm fc → AreTrueVerdicts hs (opened kinds coords fm fc) →
    AreForcedFew t m (items_along hs (opened kinds coords fm fc))
forced_few kinds coords fm fc hs t m g v =
    let s = opened kinds coords fm fc in
    let f = start_facts kinds coords fm fc g in
    record { member = member_writes m t hs s f v; coordinators = coordinator_writes t hs s f v }

pub as_presumed_abort : (kinds : List Kind) (coords : ℕ) (fm fc : ℕ → Found) (hs : List Happening) (t m : ℕ) → AreOpenable kinds coords fm fc → AreTrueVerdicts hs (opened kinds coords fm fc) → IsWithoutLoss t hs →
    CostsAsPresumedAbort t m (items_along hs (opened kinds coords fm fc))
as_presumed_abort kinds coords fm fc hs t m g v l = record { messages = four_messages kinds coords fm fc hs t m g v l; writes = forced_few kinds coords fm fc hs t m g v }
