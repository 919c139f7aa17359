-- A vote and an install keep the facts.
use Rattle.std.proofs.Common.{◌≡◌, ◌≢◌, ◌⊎◌, inl, inr, ℕ, suc, Bool, true, false, ◌==◌, ◌≤◌, List, [], ◌∷◌, length, Option, None, Some, refl, sym, ap, ◌∙◌, subst, arith}
use Rattle.std.proofs.lemmas.Bool.{or_cases, or_left, or_right, eqb-true, eqb-false}
use Rattle.co_message.specs.declared.message.Message.TheVariants as message
use Rattle.co_record.specs.declared.record.Record.{Record}
use Rattle.co_record.specs.declared.record.Record.TheVariants as log
use Rattle.co_state.specs.declared.engine_state.EngineState.{EngineState}
use Rattle.co_state.specs.declared.engine_state.Operation.{Operation}
use Rattle.co_state.specs.declared.engine_state.Vote.{Vote}
use Rattle.co_state.specs.Table.{look, holds}
use Rattle.co_state.specs.Changes.{sets_of}
use Rattle.co_state.specs.EngineState.{operations_in, operations_of}
use Rattle.co_state.specs.Effects.{install_vote}
use Rattle.co_state.specs.VotingRule.{kept_count}
use Rattle.co_plain.specs.declared.coord_state.Entry.{Entry}
use Rattle.co_plain.specs.declared.coord_state.Entry.TheVariants as entry
use Rattle.co_plain.specs.declared.member_state.MemberState.{MemberState}
use Rattle.co_plain.specs.LogWrite.{with_batch}
use Rattle.co_plain.specs.MemberView.{cast_in, install_in, with_number}
use Rattle.co_plain.specs.Wire.{was_sent}
use Rattle.co_plain.specs.Federation.{Federation, with_member}
use Rattle.co_plain.specs.Decisions.{IsSettled, InThisRun, InOpenedFile}
use Rattle.co_plain.specs.Invariants.{Memory, Stable, view, stands, takes_part_in}
use Rattle.co_plain.specs.Moves.{Cast, Install as InstallVote, effect, Guard, cast_state}
use Rattle.co_law_engine.proofs.YesTells.{SaysYes, yes_parts, yes_apart, yes_sees}
use Rattle.co_law_base.proofs.Lookups.{holds_found, found_holds, without_cases}
use Rattle.co_law_base.proofs.ToldRuns.{CastReplays, cast_replays}
use Rattle.co_law_base.proofs.Commits.{holds_more, holds_new}
use Rattle.co_law_base.proofs.Facts.{Rest, rest_of, told_here, entry_of, settled, Here, Before, ByTold, OpenEntry, ActiveFacts, ViewFacts, MemberFacts, NumberFacts, Facts}
use Rattle.co_law_base.proofs.Carrying.{settled_alive, by_coord_begun}
use Rattle.co_law_base.proofs.TwoViews.{both_sides, forced}
use Rattle.co_law_base.proofs.ViewMoves.{neither_stands, view_cast, view_install, still_holds, holds_put, cast_leaves, install_leaves}
use Rattle.co_law_base.proofs.MemberFrame.{member_change}
use Rattle.co_law_base.proofs.KeptTold.{kept_same, kept_install, stamps_more}

-- a transaction with kept operations is active
pub active_found : (b : EngineState) (t : ℕ) → 1 ≤ kept_count b t → look b.active t ≡ Some (operations_of b t)
active_found b t h = by (look b.active t) refl
  where
    by : (o : Option (List Operation)) → look b.active t ≡ o → look b.active t ≡ Some (operations_of b t)
    by None e = absurd (let l : 1 ≤ 0 = subst (λ o. 1 ≤ length (operations_in o)) e h in omega (arith, l))
    by (Some os) e = e ∙ ap Some (sym (ap operations_in e))

-- who is open at its coordinator is not settled
pub unsettled : (r : Rest) → NumberFacts r → (c : ℕ) (stable : List Record) (t : ℕ) → OpenEntry r c stable t → ¬ (settled r t)
unsettled r n c stable t e (Here d) = let z : true ≡ false = sym d ∙ e.undecided in cc
unsettled r n c stable t e (Before d k) = let z : true ≡ false = sym (n.commit_used d t k) ∙ n.new t (by_coord_begun (look r.sessions t) c e.begun_there) in cc

-- a transaction that was asked about, and neither voted nor is committed where it takes part, is not settled
pub asked_unsettled : (s : Federation) → Facts s → (t c m n : ℕ) → was_sent s.sent (message.Prepare t c m n) ≡ true → stands (view Memory (s.member m)) t ≡ false → ¬ (settled (rest_of s) t)
asked_unsettled s f t c m n g absent d =
    by (or_cases _ _ (f.sent.prepares_held t c m n g (settled_alive (rest_of s) f.numbers t c (f.sent.prepares_named t c m n g) d)))
  where
    held : (o : Option Entry) → look (s.coord c).table t ≡ o → takes_part_in o m ≡ true → ⊥
    held None e h = let z : false ≡ true = h in cc
    held (Some entry.Idle) e h = let z : false ≡ true = h in cc
    held (Some (entry.Collecting parts yeses)) e h = unsettled (rest_of s) f.numbers c (s.coord c).log.stable t ((f.coords c).collecting t parts yeses e).still d
    held (Some (entry.Committed members acks)) e h =
        let z : true ≡ false = sym (f.records.unended t c m members Memory ((f.coords c).committed t members acks e).recorded h) ∙ absent in cc

    by : (takes_part_in (look (s.coord c).table t) m ≡ true) ⊎ (holds (s.member m).committed t ≡ true) → ⊥
    by (inl h) = held (look (s.coord c).table t) refl h
    by (inr h) = let z : true ≡ false = sym h ∙ (neither_stands (view Memory (s.member m)) t absent).1 in cc

-- what a vote rests on: the message that asks for it, and a yes
abbrev pub MayCast : Federation → ℕ → ℕ → ℕ → ℕ → Type 0
MayCast s t m c n = (was_sent s.sent (message.Prepare t c m n) ≡ true) × SaysYes (s.member m).engine t n

pub may_cast : (s : Federation) (t m c n : ℕ) → Guard s (Cast t m c n) → MayCast s t m c n
may_cast s t m c n g = (g.0, yes_parts (s.member m).engine t n g.1)

-- a yes is forced
pub keeps_cast : (s : Federation) → Facts s → (t m c n : ℕ) → MayCast s t m c n → Facts (effect s (Cast t m c n))
keeps_cast s f t m c n g =
    member_change s f m y
    (record {
      views = both_sides (ViewFacts (rest_of s) m) y same memory;
      active = λ u os h. active u os (without_cases b.active t u os h);
      marked = λ u mark h. let p = without_cases (s.member m).asked t u mark h in let q = x.marked u mark p.1 in (still_holds b.active t u p.0 q.0, q.1);
      logged = same;
      waiting = tt;
    })
    (forced (rest_of s) m (s.member m) x y same
    (λ u l h. grows u (or_cases _ _ h))
    (λ u h. h))
  where
    x : MemberFacts (rest_of s) m (s.member m)
    x = f.members m

    b : EngineState
    b = (s.member m).engine

    y : MemberState
    y = cast_state (s.member m) t c n

    vote : Vote
    vote = record { coord = c; count = n; sets = sets_of (operations_of (s.member m).engine t) }

    yes' : SaysYes (s.member m).engine t n
    yes' = g.1

    a : ActiveFacts (rest_of s) m (s.member m) t (operations_of (s.member m).engine t)
    a = x.active t (operations_of b t) (active_found b t (subst (λ k. 1 ≤ k) (sym yes'.count) (f.sent.prepares_count t c m n g.0).1))

    replayed : CastReplays (view Memory (s.member m)).records (operations_of (s.member m).engine t) (told_here (rest_of s) m t)
    replayed = cast_replays b (operations_of b t) (told_here (rest_of s) m t) a.kept (yes_sees b t n yes')

    same : view Stable y ≡ view Memory y
    same = ap (λ v. cast_in v t vote) x.logged

    not_committed : holds (s.member m).committed t ≡ false
    not_committed = (neither_stands (view Memory (s.member m)) t a.apart).1

    held : (takes_part_in (entry_of (rest_of s) c t) m ≡ true) ⊎ (holds (s.member m).committed t ≡ true) → takes_part_in (entry_of (rest_of s) c t) m ≡ true
    held (inl h) = h
    held (inr h) = absurd (let z : true ≡ false = sym h ∙ not_committed in cc)

    memory : ViewFacts (rest_of s) m (view Memory y)
    memory =
        view_cast (rest_of s) f.numbers m (view Memory (s.member m)) (x.views Memory) t vote
        (λ u other apart h. yes_apart b t n u other yes' apart h)
        (λ h. record { replays = replayed.replays; reads = replayed.reads; writes = replayed.writes })
        (asked_unsettled s f t c m n g.0 a.apart)
        (f.sent.prepares_named t c m n g.0)
        (f.sent.over (message.Prepare t c m n) g.0)
        not_committed
        (λ l. held (or_cases _ _ (f.sent.prepares_held t c m n g.0 l)))
        (ByTold (let p = f.sent.prepares_count t c m n g.0 in subst (λ k. 1 ≤ k) p.0 p.1))

    active : (u : ℕ) (os : List Operation) → (t ≢ u) × (look (s.member m).engine.active u ≡ Some os) → ActiveFacts (rest_of s) m y u os
    active u os p =
        let old = x.active u os p.1 in
        record {
          kept = kept_same b y.engine os (told_here (rest_of s) m u) (λ stamp. refl) old.kept;
          stamps = old.stamps;
          begun = old.begun;
          apart = cast_leaves (view Memory (s.member m)) t vote u p.0 old.apart;
        }

    grows : (u : ℕ) → (holds (s.member m).engine.voted u ≡ true) ⊎ (holds (s.member m).committed u ≡ true) → stands (view Memory y) u ≡ true
    grows u (inl h) = or_left _ _ (holds_put b.voted t vote u h)
    grows u (inr h) = or_right _ _ h

pub as_settled : (s : Federation) (t : ℕ) → IsSettled s t → settled (rest_of s) t
as_settled s t (InThisRun h) = Here h
as_settled s t (InOpenedFile c h) = Before c h

-- a commit is forced
install_found : (s : Federation) → Facts s → (t m : ℕ) (vote : Vote) → look (s.member m).engine.voted t ≡ Some vote → settled (rest_of s) t →
    Facts (with_member s m (record {
      up = (s.member m).up;
      engine = install_vote (s.member m).engine t (Some vote);
      committed = with_number (s.member m).committed t;
      asked = (s.member m).asked;
      log = with_batch (s.member m).log (log.Commit t [] ∷ []);
    }))
install_found s f t m vote here d =
    member_change s f m y
    (record {
      views = both_sides (ViewFacts (rest_of s) m) y same (view_install (rest_of s) f.numbers m (view Memory (s.member m)) (x.views Memory) t vote here d);
      active = λ u os h. active u os (x.active u os h);
      marked = x.marked;
      logged = same;
      waiting = tt;
    })
    (forced (rest_of s) m (s.member m) x y same
    (λ u l h. grows u (t == u) refl (or_cases _ _ h))
    (λ u h. holds_more (s.member m).committed t u h))
  where
    x : MemberFacts (rest_of s) m (s.member m)
    x = f.members m

    b : EngineState
    b = (s.member m).engine

    y : MemberState
    y = record {
      up = (s.member m).up;
      engine = install_vote (s.member m).engine t (Some vote);
      committed = with_number (s.member m).committed t;
      asked = (s.member m).asked;
      log = with_batch (s.member m).log (log.Commit t [] ∷ []);
    }

    same : view Stable y ≡ view Memory y
    same = ap (λ v. install_in v t (look v.voted t)) x.logged ∙ ap (install_in (view Memory (s.member m)) t) here

    active : (u : ℕ) (os : List Operation) → ActiveFacts (rest_of s) m (s.member m) u os → ActiveFacts (rest_of s) m y u os
    active u os old =
        record {
          kept = kept_install b (record { txn = t; writes = vote.sets.writes }) os (told_here (rest_of s) m u) y.engine refl refl old.stamps old.kept;
          stamps = stamps_more (length b.installed) (suc (length b.installed)) os (omega arith) old.stamps;
          begun = old.begun;
          apart = install_leaves (view Memory (s.member m)) t vote (found_holds (s.member m).engine.voted t vote here) u old.apart;
        }

    grows : (u : ℕ) (k : Bool) → (t == u) ≡ k → (holds (s.member m).engine.voted u ≡ true) ⊎ (holds (s.member m).committed u ≡ true) → stands (view Memory y) u ≡ true
    grows u true e h = or_right _ _ (ap (holds (with_number (s.member m).committed t)) (sym (eqb-true t u e)) ∙ holds_new (s.member m).committed t)
    grows u false e (inl h) = or_left _ _ (still_holds b.voted t u (eqb-false t u e) h)
    grows u false e (inr h) = or_right _ _ (holds_more (s.member m).committed t u h)

pub install_settled : (s : Federation) → Facts s → (t m : ℕ) → holds (s.member m).engine.voted t ≡ true → settled (rest_of s) t → Facts (effect s (InstallVote t m))
install_settled s f t m v d =
    let p = holds_found (s.member m).engine.voted t v in
    subst (λ o. Facts (with_member s m (record {
      up = (s.member m).up;
      engine = install_vote (s.member m).engine t o;
      committed = with_number (s.member m).committed t;
      asked = (s.member m).asked;
      log = with_batch (s.member m).log (log.Commit t [] ∷ []);
    }))) (sym p.1) (install_found s f t m p.0 p.1 d)

pub keeps_install : (s : Federation) → Facts s → (t m : ℕ) → Guard s (InstallVote t m) → Facts (effect s (InstallVote t m))
keeps_install s f t m g = install_settled s f t m g.0 (as_settled s t g.1)
