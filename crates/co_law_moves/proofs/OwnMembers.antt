-- Each move of a member keeps what each node keeps by itself.
use Rattle.std.proofs.Common.{◌≡◌, ◌≢◌, ◌⊎◌, inl, inr, ℕ, suc, Bool, true, false, ◌≤◌, List, [], ◌∷◌, length, Option, None, Some, refl, sym, ap, ◌∙◌, subst, arith}
use Rattle.std.proofs.lemmas.Bool.{or_left}
use Rattle.co_message.specs.declared.message.Message.TheVariants as message
use Rattle.co_record.specs.declared.record.Record.TheVariants as log
use Rattle.co_state.specs.declared.engine_state.EngineState.{EngineState}
use Rattle.co_state.specs.declared.engine_state.Operation.{Operation}
use Rattle.co_state.specs.declared.engine_state.Vote.{Vote}
use Rattle.co_state.specs.declared.verdict.Verdict.TheVariants.{VoteYes}
use Rattle.co_state.specs.Table.{Table, look, holds, without}
use Rattle.co_state.specs.Changes.{sets_of}
use Rattle.co_state.specs.EngineState.{operations_of}
use Rattle.co_state.specs.Effects.{install_vote}
use Rattle.co_state.specs.VotingRule.{vote_of, voted_holds}
use Rattle.co_base.specs.declared.leaves.Stop.{Stop}
use Rattle.co_plain.specs.declared.member_state.AskedMark.{AskedMark}
use Rattle.co_plain.specs.declared.member_state.MemberState.{MemberState}
use Rattle.co_plain.specs.declared.member_view.MemberView.{MemberView}
use Rattle.co_plain.specs.declared.session.Session.{Session}
use Rattle.co_plain.specs.Numbers.{next_generation}
use Rattle.co_plain.specs.LogWrite.{with_batch, with_filled_spare, with_waiting, generation_of}
use Rattle.co_plain.specs.MemberView.{Numbers, cast_in, forget_in, install_in, with_number}
use Rattle.co_plain.specs.MemberStep.{with_log, dropped, member_down}
use Rattle.co_plain.specs.Member.{with_mark}
use Rattle.co_plain.specs.MemberLog.{member_spare}
use Rattle.co_plain.specs.Wire.{was_sent}
use Rattle.co_plain.specs.Federation.{Federation, with_member}
use Rattle.co_plain.specs.Invariants.{Side, Memory, Stable, view, stands}
use Rattle.co_plain.specs.Moves.{MarkAsked, Cast, DropActive, DropVoted, Install, CrashMember, RestartMember, ArmMember, CloseMemberSpare, FillMemberSpare, effect, cast_state}
use Rattle.co_law_engine.proofs.YesTells.{yes_apart}
use Rattle.co_law_base.proofs.Lookups.{is_nothing, look_none, put_cases, without_cases, holds_found, found_holds}
use Rattle.co_law_base.proofs.Carrying.{at_each}
use Rattle.co_law_base.proofs.ViewRules.{cast_free, forget_free, install_free}
use Rattle.co_law_base.proofs.TwoViews.{both_sides}
use Rattle.co_law_base.proofs.ViewMoves.{neither_stands, holds_without, still_holds, put_holds, forget_stands, cast_stands, install_stands, forget_apart, cast_apart, install_apart, forget_leaves, cast_leaves, install_leaves}
use Rattle.co_law_base.proofs.KeptTold.{kept_same, kept_install, stamps_more}
use Rattle.co_law_base.proofs.LogMoves.{without_absent, not_held}
use Rattle.co_law_base.proofs.VoteMoves.{MayCast, active_found}
use Rattle.co_law_base.proofs.Filling.{spare_tells}
use Rattle.co_law_moves.proofs.Own.{spent, told_there, AtCoord, OwnView, OwnActive, OwnMember, OwnFacts}

-- a change of one member
pub own_member : (s : Federation) → OwnFacts s → (m : ℕ) (x : MemberState) → OwnMember s.sessions s.used s.sent m x → OwnFacts (with_member s m x)
own_member s f m x new =
    record {
      numbers = f.numbers;
      members = at_each (λ k z. OwnMember s.sessions s.used s.sent k z) s.member m x new f.members;
      coords = f.coords;
      ends = f.ends;
      sent = f.sent;
    }

-- the views under an abort, a vote and an install
module _ (sessions : Table Session) (used : Numbers) (v : MemberView) (f : OwnView sessions used v) where
  pub own_forget : (t : ℕ) → OwnView sessions used (forget_in v t)
  own_forget t =
      record {
        free = forget_free v t f.free;
        over = λ u h. f.over u (forget_stands v t u h);
        apart = forget_apart v t f.apart;
        away = λ u h. f.away u (holds_without v.voted t u h).1;
      }

  pub own_cast : (t : ℕ) (vote : Vote) → ((u : ℕ) (other : Vote) → t ≢ u → look v.voted u ≡ Some other → voted_holds vote.sets other.sets ≡ false) →
      spent sessions used t ≡ true → holds v.committed t ≡ false → (holds sessions t ≡ true → AtCoord sessions t) → OwnView sessions used (cast_in v t vote)
  own_cast t vote apart o new home =
      record {
        free = cast_free v t vote f.free apart;
        over = λ u h. overs u (cast_stands v t vote u h);
        apart = cast_apart v t vote new f.apart;
        away = λ u h. away u (put_holds v.voted t vote u h);
      }
    where
      overs : (u : ℕ) → (t ≡ u) ⊎ (stands v u ≡ true) → spent sessions used u ≡ true
      overs u (inl e) = ap (spent sessions used) (sym e) ∙ o
      overs u (inr k) = f.over u k

      away : (u : ℕ) → (t ≡ u) ⊎ (holds v.voted u ≡ true) → holds sessions u ≡ true → AtCoord sessions u
      away u (inl e) = subst (λ k. holds sessions k ≡ true → AtCoord sessions k) e home
      away u (inr h) = f.away u h

  pub own_install : (t : ℕ) (vote : Vote) → spent sessions used t ≡ true → OwnView sessions used (install_in v t (Some vote))
  own_install t vote o =
      record {
        free = install_free v t vote f.free;
        over = λ u h. overs u (install_stands v t vote u h);
        apart = install_apart v t vote f.apart;
        away = λ u h. f.away u (holds_without v.voted t u h).1;
      }
    where
      overs : (u : ℕ) → (t ≡ u) ⊎ (stands v u ≡ true) → spent sessions used u ≡ true
      overs u (inl e) = ap (spent sessions used) (sym e) ∙ o
      overs u (inr k) = f.over u k

-- the same engine and records
alike : (s : Federation) → OwnFacts s → (m : ℕ) (up : Bool) (armed : Option Stop) (closed : Bool) →
    OwnFacts (with_member s m (record {
      up = up;
      engine = (s.member m).engine;
      committed = (s.member m).committed;
      asked = (s.member m).asked;
      log = record { stable = (s.member m).log.stable; waiting = (s.member m).log.waiting; armed = armed; spare_closed = closed };
    }))
alike s f m up armed closed =
    own_member s f m y
    (record {
      views = views;
      active = λ t os h. let a = x.active t os h in record { kept = a.kept; stamps = a.stamps; begun = a.begun; apart = a.apart };
      marked = x.marked;
      logged = x.logged;
      waiting = x.waiting;
    })
  where
    x : OwnMember s.sessions s.used s.sent m (s.member m)
    x = f.members m

    y : MemberState
    y = record {
      up = up;
      engine = (s.member m).engine;
      committed = (s.member m).committed;
      asked = (s.member m).asked;
      log = record { stable = (s.member m).log.stable; waiting = (s.member m).log.waiting; armed = armed; spare_closed = closed };
    }

    views : (side : Side) → OwnView s.sessions s.used (view side y)
    views Memory = x.views Memory
    views Stable = x.views Stable

pub own_restart : (s : Federation) → OwnFacts s → (m : ℕ) → OwnFacts (effect s (RestartMember m))
own_restart s f m = alike s f m true (s.member m).log.armed (s.member m).log.spare_closed

pub own_arm : (s : Federation) → OwnFacts s → (m : ℕ) (stop : Option Stop) → OwnFacts (effect s (ArmMember m stop))
own_arm s f m stop = alike s f m (s.member m).up stop (s.member m).log.spare_closed

pub own_close : (s : Federation) → OwnFacts s → (m : ℕ) (closed : Bool) → OwnFacts (effect s (CloseMemberSpare m closed))
own_close s f m closed = alike s f m (s.member m).up None closed

module _ (s : Federation) (f : OwnFacts s) (m : ℕ) where
  abbrev b : EngineState
  b = (s.member m).engine

  x : OwnMember s.sessions s.used s.sent m (s.member m)
  x = f.members m

  -- a prepare is marked
  pub own_mark : (t c n : ℕ) → holds (s.member m).engine.active t ≡ true → was_sent s.sent (message.Prepare t c m n) ≡ true → OwnFacts (effect s (MarkAsked t m c n))
  own_mark t c n a g =
      own_member s f m (with_mark (s.member m) t c n)
      (record {
        views = views;
        active = λ u os h. let a = x.active u os h in record { kept = a.kept; stamps = a.stamps; begun = a.begun; apart = a.apart };
        marked = λ u mark h. marked u mark (put_cases (s.member m).asked t (record { coord = c; count = n }) u mark h);
        logged = x.logged;
        waiting = x.waiting;
      })
    where
      views : (side : Side) → OwnView s.sessions s.used (view side (with_mark (s.member m) t c n))
      views Memory = x.views Memory
      views Stable = x.views Stable

      marked : (u : ℕ) (mark : AskedMark) → ((t ≡ u) × (◌≡◌ {A = AskedMark} (record { coord = c; count = n }) mark)) ⊎ ((t ≢ u) × (look (s.member m).asked u ≡ Some mark)) →
          (holds (s.member m).engine.active u ≡ true) × (was_sent s.sent (message.Prepare u mark.coord m mark.count) ≡ true)
      marked u mark (inl p) =
          subst (λ z. (holds (s.member m).engine.active u ≡ true) × (was_sent s.sent (message.Prepare u z.coord m z.count) ≡ true)) p.1
          (subst (λ k. (holds (s.member m).engine.active k ≡ true) × (was_sent s.sent (message.Prepare k c m n) ≡ true)) p.0 (a, g))
      marked u mark (inr p) = x.marked u mark p.1

  -- who is left marked and active when one is taken out
  fewer_marked : (t u : ℕ) (mark : AskedMark) → look (without (s.member m).asked t) u ≡ Some mark →
      (holds (without (s.member m).engine.active t) u ≡ true) × (was_sent s.sent (message.Prepare u mark.coord m mark.count) ≡ true)
  fewer_marked t u mark h =
      let p = without_cases (s.member m).asked t u mark h in
      let q = x.marked u mark p.1 in
      (still_holds (s.member m).engine.active t u p.0 q.0, q.1)

  neither : (u : ℕ) (os : List Operation) → look (s.member m).engine.active u ≡ Some os → (holds (s.member m).engine.voted u ≡ false) × (holds (s.member m).committed u ≡ false)
  neither u os h = neither_stands (view Memory (s.member m)) u (x.active u os h).apart

  -- an active transaction is forgotten
  pub own_drop_active : (t : ℕ) → holds (s.member m).engine.active t ≡ true → OwnFacts (effect s (DropActive t m))
  own_drop_active t g =
      own_member s f m (dropped (s.member m) t)
      (record {
        views = views;
        active = λ u os h. let a = x.active u os (without_cases (s.member m).engine.active t u os h).1 in
            record { kept = kept_same (s.member m).engine (dropped (s.member m) t).engine os _ (λ stamp. refl) a.kept; stamps = a.stamps; begun = a.begun; apart = ap (λ v. stands v u) same ∙ a.apart };
        marked = fewer_marked t;
        logged = x.logged ∙ sym same;
        waiting = x.waiting;
      })
    where
      unvoted : look (s.member m).engine.voted t ≡ None
      unvoted = let p = holds_found (s.member m).engine.active t g in not_held (s.member m).engine.voted t (neither t p.0 p.1).0

      same : view Memory (dropped (s.member m) t) ≡ view Memory (s.member m)
      same = λ i. record { records = (view Memory (s.member m)).records; voted = without_absent (s.member m).engine.voted t unvoted i; committed = (s.member m).committed }

      views : (side : Side) → OwnView s.sessions s.used (view side (dropped (s.member m) t))
      views Memory = subst (OwnView s.sessions s.used) (sym same) (x.views Memory)
      views Stable = x.views Stable

  -- a voted transaction is forgotten, and its abort waits
  pub own_drop_voted : (t : ℕ) → holds (s.member m).engine.voted t ≡ true → OwnFacts (effect s (DropVoted t m))
  own_drop_voted t g =
      own_member s f m y
      (record {
        views = views;
        active = λ u os h. active u os (without_cases (s.member m).engine.active t u os h).1;
        marked = fewer_marked t;
        logged = ap (λ v. forget_in v t) x.logged;
        waiting = (ap (λ v. holds v.voted t) x.logged ∙ g, x.waiting);
      })
    where
      y : MemberState
      y = with_log (dropped (s.member m) t) (with_waiting (s.member m).log (log.Abort t))

      views : (side : Side) → OwnView s.sessions s.used (view side y)
      views Memory = own_forget s.sessions s.used (view Memory (s.member m)) (x.views Memory) t
      views Stable = x.views Stable

      active : (u : ℕ) (os : List Operation) → look (s.member m).engine.active u ≡ Some os → OwnActive s.sessions m y u os
      active u os h =
          let a = x.active u os h in
          record {
            kept = kept_same (s.member m).engine y.engine os _ (λ stamp. refl) a.kept;
            stamps = a.stamps;
            begun = a.begun;
            apart = forget_leaves (view Memory (s.member m)) t u a.apart;
          }

  -- a crash: memory is what the stable records tell
  pub own_crash : OwnFacts (effect s (CrashMember m))
  own_crash =
      own_member s f m (member_down (s.member m) (s.member m).log)
      (record {
        views = views;
        active = λ u os h. is_nothing (sym (look_none u) ∙ h);
        marked = λ u mark h. is_nothing (sym (look_none u) ∙ h);
        logged = refl;
        waiting = tt;
      })
    where
      views : (side : Side) → OwnView s.sessions s.used (view side (member_down (s.member m) (s.member m).log))
      views Memory = x.views Stable
      views Stable = x.views Stable

  -- a filled spare tells what memory has
  pub own_fill : OwnFacts (effect s (FillMemberSpare m))
  own_fill =
      own_member s f m y
      (record {
        views = both_sides (OwnView s.sessions s.used) y same (x.views Memory);
        active = λ t os h. let a = x.active t os h in record { kept = a.kept; stamps = a.stamps; begun = a.begun; apart = a.apart };
        marked = x.marked;
        logged = same;
        waiting = tt;
      })
    where
      y : MemberState
      y = with_log (s.member m) (with_filled_spare (s.member m).log (member_spare m (s.member m) (next_generation (generation_of (s.member m).log.stable))))

      same : view Stable y ≡ view Memory y
      same = spare_tells m (s.member m) (next_generation (generation_of (s.member m).log.stable))

  -- a yes is forced
  pub own_yes : (t c n : ℕ) → MayCast s t m c n → OwnFacts (effect s (Cast t m c n))
  own_yes t c n (g, yes') =
      own_member s f m y
      (record {
        views = both_sides (OwnView s.sessions s.used) y same
            (own_cast s.sessions s.used (view Memory (s.member m)) (x.views Memory) t vote
            (λ u other d h. yes_apart (s.member m).engine t n u other yes' d h)
            (f.sent.over (message.Prepare t c m n) g) (neither t (operations_of (s.member m).engine t) found).1
            (λ h. (c, (f.sent.prepares t c m n g).0)));
        active = λ u os h. active u os (without_cases (s.member m).engine.active t u os h);
        marked = fewer_marked t;
        logged = same;
        waiting = tt;
      })
    where
      y : MemberState
      y = cast_state (s.member m) t c n

      vote : Vote
      vote = record { coord = c; count = n; sets = sets_of (operations_of (s.member m).engine t) }

      found : look (s.member m).engine.active t ≡ Some (operations_of (s.member m).engine t)
      found = active_found (s.member m).engine t (subst (λ k. 1 ≤ k) (sym yes'.count) (f.sent.prepares t c m n g).2)

      same : view Stable y ≡ view Memory y
      same = ap (λ v. cast_in v t vote) x.logged

      active : (u : ℕ) (os : List Operation) → (t ≢ u) × (look (s.member m).engine.active u ≡ Some os) → OwnActive s.sessions m y u os
      active u os p =
          let a = x.active u os p.1 in
          record {
            kept = kept_same (s.member m).engine y.engine os (told_there s.sessions m u) (λ stamp. refl) a.kept;
            stamps = a.stamps;
            begun = a.begun;
            apart = cast_leaves (view Memory (s.member m)) t vote u p.0 a.apart;
          }

  -- a commit is forced
  installed : (t : ℕ) (vote : Vote) → look (s.member m).engine.voted t ≡ Some vote →
      OwnFacts (with_member s m (record {
        up = (s.member m).up;
        engine = install_vote (s.member m).engine t (Some vote);
        committed = with_number (s.member m).committed t;
        asked = (s.member m).asked;
        log = with_batch (s.member m).log (log.Commit t [] ∷ []);
      }))
  installed t vote here =
      own_member s f m y
      (record {
        views = both_sides (OwnView s.sessions s.used) y same
            (own_install s.sessions s.used (view Memory (s.member m)) (x.views Memory) t vote ((x.views Memory).over t (or_left _ _ (found_holds (s.member m).engine.voted t vote here))));
        active = λ u os h. active u os h;
        marked = x.marked;
        logged = same;
        waiting = tt;
      })
    where
      y : MemberState
      y = record {
        up = (s.member m).up;
        engine = install_vote (s.member m).engine t (Some vote);
        committed = with_number (s.member m).committed t;
        asked = (s.member m).asked;
        log = with_batch (s.member m).log (log.Commit t [] ∷ []);
      }

      same : view Stable y ≡ view Memory y
      same = ap (λ v. install_in v t (look v.voted t)) x.logged ∙ ap (install_in (view Memory (s.member m)) t) here

      active : (u : ℕ) (os : List Operation) → look (s.member m).engine.active u ≡ Some os → OwnActive s.sessions m y u os
      active u os h =
          let a = x.active u os h in
          record {
            kept = kept_install (s.member m).engine (record { txn = t; writes = vote.sets.writes }) os (told_there s.sessions m u) y.engine refl refl a.stamps a.kept;
            stamps = stamps_more (length (s.member m).engine.installed) (suc (length (s.member m).engine.installed)) os (omega arith) a.stamps;
            begun = a.begun;
            apart = install_leaves (view Memory (s.member m)) t vote (found_holds (s.member m).engine.voted t vote here) u a.apart;
          }

  pub own_installed : (t : ℕ) → holds (s.member m).engine.voted t ≡ true → OwnFacts (effect s (Install t m))
  own_installed t v =
      let p = holds_found (s.member m).engine.voted t v in
      subst (λ o. OwnFacts (with_member s m (record {
        up = (s.member m).up;
        engine = install_vote (s.member m).engine t o;
        committed = with_number (s.member m).committed t;
        asked = (s.member m).asked;
        log = with_batch (s.member m).log (log.Commit t [] ∷ []);
      }))) (sym p.1) (installed t p.0 p.1)
