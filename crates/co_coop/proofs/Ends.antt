-- A doubt remains exactly where nobody could tell a verdict at its turn.
use Rattle.std.proofs.Common.{◌≡◌, ◌≢◌, ◌⊎◌, ◌↔◌, inl, inr, ℕ, Bool, true, false, ◌==◌, ◌≤◌, if◌then◌else◌, List, [], ◌∷◌, ◌++◌, length, Option, None, Some, refl, sym, ap, ◌∙◌, subst}
use Rattle.std.specs.Option.{is_some}
use Rattle.std.proofs.lemmas.Bool.{and_from, eqb-true}
use Rattle.co_state.specs.declared.engine_state.Vote.{Vote}
use Rattle.co_state.specs.Table.{look, holds}
use Rattle.co_plain.specs.Decisions.{told_of}
use Rattle.co_plain.specs.Federation.{Federation}
use Rattle.co_plain.specs.MemberStep.{standing_of}
use Rattle.co_plain.specs.Numbers.{IsAmong}
use Rattle.co_plain.specs.Quiet.{IsMember}
use Rattle.co_plain.specs.Runs.{run}
use Rattle.co_plain.specs.Sessions.{count_at}
use Rattle.co_plain.specs.declared.standing.Standing.{Standing}
use Rattle.co_plain.specs.declared.standing.Standing.TheVariants.{IsActive, IsVoted, IsInstalled, IsAbsent}
use Rattle.co_undecided.specs.Kept.{coord_asked}
use Rattle.co_cluster.specs.Listed.{IsDoubt}
use Rattle.co_cluster.specs.declared.doubting.Doubt.{Doubt}
use Rattle.co_law_base.proofs.Lookups.{is_nothing}
use Rattle.co_law_coop.specs.declared.told.Told.{Told}
use Rattle.co_law_coop.specs.declared.told.Told.TheVariants as told
use Rattle.co_law_coop.specs.Consulting.{is_in_doubt, told_standing}
use Rattle.co_law_coop.proofs.Keeping.{Keeps, keeps_all, keeps_on}
use Rattle.co_settle.specs.Reached.{IsReached}
use Rattle.co_coop.specs.Consulted.{told_of_doubt, consultation_of}
use Rattle.co_coop.specs.Remains.{TellsNothing, CannotTell, AreOfOthers}
use Rattle.co_coop.specs.Resolution.{resolution, AreDoubts, NameHomes}
use Rattle.co_coop.specs.Turn.{is_verdict, others_to, doubt_turn}
use Rattle.co_coop.proofs.Asked.{reached_invariants, voted_stands}
use Rattle.co_coop.proofs.Remaining.{SomeTells, first_verdict, each_silent, all_silent, turn_leaves, done_gone, voted_is}
use Rattle.co_coop.proofs.Resolving.{run_behind, turn_keeps, turn_reached, homes_on, all_reach, listed_homes}
use Rattle.co_coop.proofs.Turning.{AreSilent, asked_none}
use Rattle.co_coop.proofs.Votes.{LeavesVotes}

-- ---- a verdict, or none

silent_by : (up : Bool) (st : Standing) (n : ℕ) (cu : Bool) → is_verdict (if up then told_standing st n cu else told.Down) ≡ false → TellsNothing up st n cu
silent_by false st n cu h = inl refl
silent_by true IsVoted n cu h = inr (inl refl)
silent_by true IsInstalled n cu h = absurd (let z : true ≡ false = h in cc)
silent_by true IsActive n cu h = by (n == 0) refl cu h
  where
    by : (b : Bool) → (n == 0) ≡ b → (c : Bool) → is_verdict (if b then told.Stranger else (if c then told.Reachable else told.Abort)) ≡ false → TellsNothing true IsActive n c
    by true e c k = inr (inr (inl refl, inl (eqb-true n 0 e)))
    by false e true k = inr (inr (inl refl, inr refl))
    by false e false k = absurd (let z : true ≡ false = k in cc)
silent_by true IsAbsent n cu h = by (n == 0) refl cu h
  where
    by : (b : Bool) → (n == 0) ≡ b → (c : Bool) → is_verdict (if b then told.Stranger else (if c then told.Reachable else told.Abort)) ≡ false → TellsNothing true IsAbsent n c
    by true e c k = inr (inr (inr refl, inl (eqb-true n 0 e)))
    by false e true k = inr (inr (inr refl, inr refl))
    by false e false k = absurd (let z : true ≡ false = k in cc)

unvoted_silent : (st : Standing) (n : ℕ) (cu : Bool) → (st ≡ IsActive) ⊎ (st ≡ IsAbsent) → (n ≡ 0) ⊎ (cu ≡ true) → is_verdict (told_standing st n cu) ≡ false
unvoted_silent st n cu w h = by w
  where
    now : (b : Bool) → (n == 0) ≡ b → (n ≡ 0) ⊎ (cu ≡ true) → is_verdict (if b then told.Stranger else (if cu then told.Reachable else told.Abort)) ≡ false
    now true e k = refl
    now false e (inl k) = absurd (let z : false ≡ true = sym e ∙ ap (λ i. i == 0) k in cc)
    now false e (inr k) = ap (λ c. is_verdict (if c then told.Reachable else told.Abort)) k

    by : (st ≡ IsActive) ⊎ (st ≡ IsAbsent) → is_verdict (told_standing st n cu) ≡ false
    by (inl e) = ap (λ x. is_verdict (told_standing x n cu)) e ∙ now (n == 0) refl h
    by (inr e) = ap (λ x. is_verdict (told_standing x n cu)) e ∙ now (n == 0) refl h

silent_from : (up : Bool) (st : Standing) (n : ℕ) (cu : Bool) → TellsNothing up st n cu → is_verdict (if up then told_standing st n cu else told.Down) ≡ false
silent_from up st n cu (inl e) = ap (λ u. is_verdict (if u then told_standing st n cu else told.Down)) e
silent_from up st n cu (inr (inl e)) = ap (λ x. is_verdict (if up then told_standing x n cu else told.Down)) e ∙ by up
  where
    by : (u : Bool) → is_verdict (if u then told.InDoubt else told.Down) ≡ false
    by true = refl
    by false = refl
silent_from true st n cu (inr (inr (w, h))) = unvoted_silent st n cu w h
silent_from false st n cu (inr (inr (w, h))) = refl

module _ (z : Federation) (doubt : Doubt) (open_still : is_in_doubt z doubt.txn doubt.member ≡ true) (other : ℕ) where
  abbrev answer_of : Bool → Told
  answer_of b = if b then (if (z.member other).up then told_standing (standing_of (z.member other) doubt.txn) (count_at (told_of z doubt.txn) other) (z.coord doubt.coord).up else told.Down) else told.Settled

  cannot : is_verdict (told_of_doubt z doubt other) ≡ false → CannotTell z doubt other
  cannot h = silent_by (z.member other).up (standing_of (z.member other) doubt.txn) (count_at (told_of z doubt.txn) other) (z.coord doubt.coord).up (sym (ap (λ b. is_verdict (answer_of b)) open_still) ∙ h)

  can : CannotTell z doubt other → is_verdict (told_of_doubt z doubt other) ≡ false
  can h = ap (λ b. is_verdict (answer_of b)) open_still ∙ silent_from (z.member other).up (standing_of (z.member other) doubt.txn) (count_at (told_of z doubt.txn) other) (z.coord doubt.coord).up h

-- ---- turns behind turns

abbrev after_turn : Federation → Doubt → Federation
after_turn s doubt = run (doubt_turn s doubt) s

abbrev after_turns : Federation → List Doubt → Federation
after_turns s doubts = run (resolution s doubts) s

turns_first : (s : Federation) (doubt : Doubt) (doubts : List Doubt) → after_turns s (doubt ∷ doubts) ≡ after_turns (after_turn s doubt) doubts
turns_first s doubt doubts = run_behind (doubt_turn s doubt) (resolution (after_turn s doubt) doubts) s

turns_behind : (s : Federation) (xs ys : List Doubt) → after_turns s (xs ++ ys) ≡ after_turns (after_turns s xs) ys
turns_behind s [] ys = refl
turns_behind s (x ∷ xs) ys = turns_first s x (xs ++ ys) ∙ turns_behind (after_turn s x) xs ys ∙ ap (λ q. after_turns q ys) (sym (turns_first s x xs))

turns_keep : (s : Federation) (doubts : List Doubt) → Keeps s (after_turns s doubts)
turns_keep s [] = keeps_all s
turns_keep s (doubt ∷ doubts) =
    subst (Keeps s) (sym (turns_first s doubt doubts)) (keeps_on s (after_turn s doubt) (after_turns (after_turn s doubt) doubts) (turn_keeps s doubt) (turns_keep (after_turn s doubt) doubts))

-- the vote of a member that is up at the end is the one that it had
abbrev KeepsVote : Doubt → Federation → Federation → Type 0
KeepsVote doubt s z = (z.member doubt.member).up ≡ true → ((s.member doubt.member).up ≡ true) × (look (z.member doubt.member).engine.voted doubt.txn ≡ look (s.member doubt.member).engine.voted doubt.txn)

keeps_vote : (doubt : Doubt) (s : Federation) (doubts : List Doubt) → IsReached s → NameHomes s doubts → AreOfOthers doubt doubts → KeepsVote doubt s (after_turns s doubts)
keeps_vote doubt s [] r h a = λ up. (up, refl)
keeps_vote doubt s (d ∷ ds) r h a =
    let z = after_turn s d in
    let first : LeavesVotes d.txn d.member s z = turn_leaves s r d in
    let rest = keeps_vote doubt z ds (turn_reached s r d h.0) (homes_on s z (turn_keeps s d) ds h.1) a.1 in
    subst (KeepsVote doubt s) (sym (turns_first s d ds)) (λ up. let p = rest up in (first.up doubt.member p.0, p.1 ∙ first.same doubt.member doubt.txn p.0 a.0))

doubts_front : (s : Federation) (xs ys : List Doubt) → AreDoubts s (xs ++ ys) → AreDoubts s xs × AreDoubts s ys
doubts_front s [] ys h = (tt, h)
doubts_front s (x ∷ xs) ys h = let p = doubts_front s xs ys h.1 in ((h.0, p.0), p.1)

-- ---- one doubt

module _ (s : Federation) (before after : List Doubt) (doubt : Doubt) (r : IsReached s) (listed : AreDoubts s (before ++ doubt ∷ after)) (apart : AreOfOthers doubt before) (apart_after : AreOfOthers doubt after) where
  abbrev m : ℕ
  m = doubt.member

  abbrev t : ℕ
  t = doubt.txn

  -- when its turn came, behind it, and at the end
  abbrev z : Federation
  z = after_turns s before

  abbrev y : Federation
  y = after_turn z doubt

  abbrev end : Federation
  end = after_turns s (before ++ doubt ∷ after)

  parts : AreDoubts s before × AreDoubts s (doubt ∷ after)
  parts = doubts_front s before (doubt ∷ after) listed

  homes_before : NameHomes s before
  homes_before = listed_homes s before r parts.0

  homes_behind : NameHomes s (doubt ∷ after)
  homes_behind = listed_homes s (doubt ∷ after) r parts.1

  reached_z : IsReached z
  reached_z = all_reach s before r homes_before

  homes_z : NameHomes z (doubt ∷ after)
  homes_z = homes_on s z (turns_keep s before) (doubt ∷ after) homes_behind

  end_is : end ≡ after_turns y after
  end_is = turns_behind s before (doubt ∷ after) ∙ turns_first z doubt after

  module _ (up : (end.member m).up ≡ true) where
    last : ((y.member m).up ≡ true) × (look ((after_turns y after).member m).engine.voted t ≡ look (y.member m).engine.voted t)
    last = keeps_vote doubt y after (turn_reached z reached_z doubt homes_z.0) (homes_on z y (turn_keeps z doubt) after homes_z.1) apart_after (ap (λ q. (q.member m).up) (sym end_is) ∙ up)

    up_z : (z.member m).up ≡ true
    up_z = (turn_leaves z reached_z doubt).up m last.0

    first : look (z.member m).engine.voted t ≡ look (s.member m).engine.voted t
    first = (keeps_vote doubt s before r homes_before apart up_z).1

    voted_z : coord_asked (look (z.member m).engine.voted t) ≡ Some doubt.coord
    voted_z = ap coord_asked first ∙ parts.1.0.voted

    held_z : holds (z.member m).engine.voted t ≡ true
    held_z = by (look (z.member m).engine.voted t) voted_z
      where
        by : (o : Option Vote) → coord_asked o ≡ Some doubt.coord → is_some o ≡ true
        by None h = is_nothing h
        by (Some vote) h = refl

    open_z : is_in_doubt z t m ≡ true
    open_z = and_from (z.member m).up (holds (z.member m).engine.voted t) up_z held_z

    standing_z : standing_of (z.member m) t ≡ IsVoted
    standing_z = voted_is (standing_of (z.member m) t) (voted_stands z (reached_invariants z reached_z) t m ∙ held_z)

    end_vote : look (end.member m).engine.voted t ≡ look (y.member m).engine.voted t
    end_vote = ap (λ q. look (q.member m).engine.voted t) end_is ∙ last.1

    -- with no verdict it stays
    stays : AreSilent z doubt (others_to (length z.kinds) m) → IsDoubt end doubt
    stays silent =
        let same : y ≡ z = ap (λ hs. run hs z) (asked_none z doubt (others_to (length z.kinds) m) silent) in
        record {
          own = subst (λ ks. IsAmong m (length ks)) (sym (turns_keep s (before ++ doubt ∷ after)).kinds) parts.1.0.own;
          up = up;
          voted = ap coord_asked (end_vote ∙ ap (λ q. look (q.member m).engine.voted t) same) ∙ voted_z;
        }

    -- with one it is gone
    gone : SomeTells z doubt (others_to (length z.kinds) m) → IsDoubt end doubt → ⊥
    gone (other, verdict, is) d =
        let turned : y ≡ run (consultation_of z doubt other) z = ap (λ hs. run hs z) is in
        let none : look (y.member m).engine.voted t ≡ None = ap (λ q. look (q.member m).engine.voted t) turned
        ∙ done_gone z reached_z doubt up_z standing_z other (told_of_doubt z doubt other) verdict (ap (λ q. (q.member m).up) (sym turned) ∙ last.0) in
        is_nothing (sym (ap coord_asked (end_vote ∙ none)) ∙ d.voted)

    kinds_z : z.kinds ≡ s.kinds
    kinds_z = (turns_keep s before).kinds

    nobody_told : IsDoubt end doubt → (other : ℕ) → IsMember s other → other ≢ m → CannotTell z doubt other
    nobody_told d other i a = by (first_verdict z doubt (others_to (length z.kinds) m))
      where
        by : AreSilent z doubt (others_to (length z.kinds) m) ⊎ SomeTells z doubt (others_to (length z.kinds) m) → CannotTell z doubt other
        by (inl silent) = cannot z doubt open_z other (each_silent z doubt (length z.kinds) silent other i.0 (subst (λ ks. other ≤ length ks) (sym kinds_z) i.1) a)
        by (inr some) = absurd (gone some d)

    none_told : ((other : ℕ) → IsMember s other → other ≢ m → CannotTell z doubt other) → IsDoubt end doubt
    none_told h = stays (all_silent z doubt (length z.kinds) (λ other low high a. can z doubt open_z other (h other (low, subst (λ ks. other ≤ length ks) kinds_z high) a)))

  pub remains : (end.member m).up ≡ true → IsDoubt end doubt ↔ ((other : ℕ) → IsMember s other → other ≢ m → CannotTell z doubt other)
  remains up = (nobody_told up, none_told up)
