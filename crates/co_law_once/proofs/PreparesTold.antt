-- A prepare is told once, and none of who stands in an opened log.
use Rattle.std.proofs.Common.{◌≡◌, ℕ, Bool, true, false, ◌||◌, ◌&&◌, ◌==◌, List, refl}
use Rattle.std.specs.List.{list_any}
use Rattle.co_base.specs.declared.head.Kind.{Kind}
use Rattle.co_plain.specs.declared.happening.Happening.{Happening}
use Rattle.co_plain.specs.Federation.{Federation}
use Rattle.co_plain.specs.Moves.{Move, Cast, Install, CommitLocally, Decide}
use Rattle.co_plain.specs.Opening.{Found, opened}
use Rattle.co_plain.specs.Premises.{AreOpenable, AreTrueVerdicts}
use Rattle.co_law_base.proofs.Facts.{Facts}
use Rattle.co_law_moves.specs.MoveTraces.{items_along}
use Rattle.co_law_moves.proofs.Start.{start_facts}
use Rattle.co_law_once.specs.Once.{AtMostOnce, forces_vote}
use Rattle.co_law_once.specs.Records.{tells_of, prepare_at, ArePreparedOnce}
use Rattle.co_law_once.proofs.Forced.{votes_once}
use Rattle.co_law_once.proofs.ForcedMarks.{move_marks}
use Rattle.co_law_once.proofs.RecordsTold.{IsOfForced, IsForcedBy, told_at_most_once, told_never}
use Rattle.co_law_once.proofs.VotedBefore.{votes_never}

clash : {A : Type 0} → false ≡ true → A
clash h = absurd (let z : false ≡ true = h in cc)

pub or_one : (a : Bool) → (a || false) ≡ true → a ≡ true
or_one true h = refl
or_one false h = clash h

-- the prepare of a member is told by its vote
module _ (m t : ℕ) where
  pub prepare_of : IsOfForced (prepare_at m t)
  prepare_of = record { header = λ at n. refl; abort = λ at n. refl; end = λ at n. refl; checkpoint = λ at n. refl }

  prepare_less : (move : Move) → list_any (prepare_at m t) (move_marks move) ≡ true → forces_vote t m move ≡ true
  prepare_less (Cast u k c n) h = or_one ((k == m) && (u == t)) h
  prepare_less (CommitLocally u k) h = or_one ((k == m) && (u == t)) h
  prepare_less (Install u k) h = clash h
  prepare_less (Decide u c) h = clash h
  prepare_less _ h = clash h

  prepare_one : (move : Move) → AtMostOnce (prepare_at m t) (move_marks move)
  prepare_one (Cast u k c n) = ((λ h. refl), tt)
  prepare_one (CommitLocally u k) = ((λ h. refl), ((λ h. refl), tt))
  prepare_one (Install u k) = ((λ h. refl), tt)
  prepare_one (Decide u c) = ((λ h. refl), tt)
  prepare_one _ = tt

  pub prepare_by : IsForcedBy (prepare_at m t) (forces_vote t m)
  prepare_by = record { less = prepare_less; once = prepare_one }

pub prepares_once : (hs : List Happening) (s : Federation) → Facts s → AreTrueVerdicts hs s → (t m : ℕ) → AtMostOnce (tells_of (prepare_at m t)) (items_along hs s)
prepares_once hs s f v t m = told_at_most_once (prepare_at m t) (forces_vote t m) (prepare_of m t) (prepare_by m t) hs s f v (votes_once t m hs s f v)

pub prepared_once : (kinds : List Kind) (coords : ℕ) (fm fc : ℕ → Found) (hs : List Happening) → AreOpenable kinds coords fm fc → AreTrueVerdicts hs (opened kinds coords fm fc) →
    ArePreparedOnce (opened kinds coords fm fc) (items_along hs (opened kinds coords fm fc))
prepared_once kinds coords fm fc hs g v =
    let s = opened kinds coords fm fc in
    let f = start_facts kinds coords fm fc g in
    record {
      once = λ t m. prepares_once hs s f v t m;
      not_again = λ t m u. told_never (prepare_at m t) (forces_vote t m) (prepare_of m t) (prepare_by m t) hs s f v (votes_never t m hs s f v u);
    }
